-- No refusal has the number 0, and what a result says gives its number.
use Prim.Native.Nat.{ℕ, zero, suc, ◌<◌}
use mathlib.Core.Path.{◌≡◌, refl, sym, ap, ◌∙◌}
use native.Mathlib.Omega.{arith}
use Rattle.std.specs.Prelude.{Result, Ok, Err, IsErrAnd}
use Rattle.refusals.specs.declared.Refusal.{Refusal}
use Rattle.refusals.specs.declared.Refusal.TheVariants.{NoPlace, BookLength, RaterCount, NoRater, GradeCount, ColumnKind, ManyDefaults, NoObligors, HighRate, ManyObligors, HighPrice, ShortBuffer, PlaceLoaded, PlaceEmpty, NoDefaults, NoSurvivors, UnequalTotals, TableStart, TableEnd, Leftover, FallingRate, LargeTable, NoGrade, NoFirm, FullTable}
use Rattle.refusals.specs.Numbers.{number_of, number_in}
use Rattle.refusals.specs.Answers.{Answer, accepted, refused, says, answer, Limited}

pub number_positive : (r : Refusal) → 0 < number_of r
number_positive NoPlace = omega arith
number_positive BookLength = omega arith
number_positive RaterCount = omega arith
number_positive NoRater = omega arith
number_positive GradeCount = omega arith
number_positive ColumnKind = omega arith
number_positive ManyDefaults = omega arith
number_positive NoObligors = omega arith
number_positive HighRate = omega arith
number_positive ManyObligors = omega arith
number_positive HighPrice = omega arith
number_positive ShortBuffer = omega arith
number_positive PlaceLoaded = omega arith
number_positive PlaceEmpty = omega arith
number_positive NoDefaults = omega arith
number_positive NoSurvivors = omega arith
number_positive UnequalTotals = omega arith
number_positive TableStart = omega arith
number_positive TableEnd = omega arith
number_positive Leftover = omega arith
number_positive FallingRate = omega arith
number_positive LargeTable = omega arith
number_positive NoGrade = omega arith
number_positive NoFirm = omega arith
number_positive FullTable = omega arith

pub never_0 : (r : Refusal) → number_of r ≡ 0 → ⊥
never_0 r e = let p = number_positive r in omega arith

-- the number in an answer: 0, or that of the refusal
abbrev number_of_answer : {A : Type 0} → Answer A → ℕ
number_of_answer (accepted x) = 0
number_of_answer (refused n) = n

number_said : {A : Type 0} (r : Result A Refusal) → number_of_answer (says r) ≡ number_in r
number_said (Ok x) = refl
number_said (Err r) = refl

number_answered : {A : Type 0} (n : ℕ) (x : A) → number_of_answer (answer n x) ≡ n
number_answered zero x = refl
number_answered (suc n) x = refl

pub number_given : {A : Type 0} (r : Result A Refusal) (n : ℕ) (x : A) → says r ≡ answer n x → number_in r ≡ n
number_given r n x e = sym (number_said r) ∙ ap number_of_answer e ∙ number_answered n x

pub number_limited : {A : Type 0} (r : Result A Refusal) (n : ℕ) (P : A → Type 0) → Limited n P (says r) → number_in r ≡ n
number_limited (Ok x) n P l = sym l.0
number_limited (Err r) n P l = sym l.0

-- At the exit of a `?` the refusal is passed on as it is.
pub passed_on : {A : Type 0} (r : Result A Refusal) (e : Refusal) → IsErrAnd r (λ x. x ≡ e) → number_in r ≡ number_of e
passed_on (Ok x) e h = absurd h
passed_on (Err y) e h = ap number_of h

pub passed_said : {A : Type 0} (r : Result A Refusal) (e : Refusal) → IsErrAnd r (λ x. x ≡ e) → says r ≡ refused (number_of e)
passed_said (Ok x) e h = absurd h
passed_said (Err y) e h = ap (λ (z : Refusal). refused (number_of z)) h

-- What an answer was given by.

pub refused_by : {A : Type 0} {n : ℕ} (m : ℕ) (x : A) → refused n ≡ answer m x → n ≡ m
refused_by zero x e = cc
refused_by (suc m) x e = cc

pub accepted_by : {A : Type 0} {x : A} (m : ℕ) (y : A) → accepted x ≡ answer m y → (m ≡ 0) × (x ≡ y)
accepted_by zero y e = (refl, cc)
accepted_by (suc m) y e = cc
