-- The first fault of a list of checks: a check that holds is passed, and one that fails is the answer.
use Prim.Native.Nat.{ℕ, zero, suc, ◌≤◌, ◌<◌}
use mathlib.Core.Path.{◌≡◌, refl, sym, ◌∙◌}
use mathlib.Core.Bool.{Bool, true, false, cond}
use mathlib.Core.List.{List, [], ◌∷◌, ◌++◌}
use native.Mathlib.Decide.{dec_le, ℕ_discrete}
use native.Mathlib.Omega.{arith}
use borrow.Author.Tests.{le-leb, lt-leb, eq-eqb, ne_eqb, leb-true, eqb-true}
use lib.Dec.{leb, eqb}
use Rattle.book.specs.Checks.{Check, at_most, equal, fault, first_fault}

-- how the first fault is found
pub data Finds : List Check → ℕ → Type 0 where
  none : Finds [] 0
  pass : {a b n r : ℕ} {l : List Check} → a ≤ b → Finds l r → Finds (at_most a b n ∷ l) r
  same : {a b n r : ℕ} {l : List Check} → a ≡ b → Finds l r → Finds (equal a b n ∷ l) r
  over : {a b n : ℕ} {l : List Check} → b < a → Finds (at_most a b n ∷ l) n
  other : {a b n : ℕ} {l : List Check} → (a ≡ b → ⊥) → Finds (equal a b n ∷ l) n

pub found : {l : List Check} {r : ℕ} → Finds l r → r ≡ fault l
unfolding fault
found none = refl
found (pass h f) = rw (le-leb _ _ h) (found f)
found (same h f) = rw (eq-eqb _ _ h) (found f)
found (over h) = rw (lt-leb _ _ h)
found (other h) = rw (ne_eqb _ _ h)

-- a check that the test beside it shares its number with: it fails, or it holds and the next ones are looked at
pub over_or : {a b n : ℕ} {l : List Check} → (a ≤ b → Finds l n) → Finds (at_most a b n ∷ l) n
over_or {a} {b} f = elim (dec_le a b) [ yes h ↦ pass h (f h) | no h ↦ let less : b < a = omega arith in over less ]

pub other_or : {a b n : ℕ} {l : List Check} → (a ≡ b → Finds l n) → Finds (equal a b n ∷ l) n
other_or {a} {b} f = elim (ℕ_discrete a b) [ yes h ↦ same h (f h) | no h ↦ other h ]

-- there is always a way
pub finds : (l : List Check) → Finds l (fault l)
unfolding fault
finds [] = none
finds (at_most a b n ∷ l) =
    elim (dec_le a b) [
      | yes h ↦ rw (le-leb a b h) (pass h (finds l))
      | no h ↦ let less : b < a = omega arith in rw (lt-leb a b less) (over less)
    ]
finds (equal a b n ∷ l) = elim (ℕ_discrete a b) [ yes h ↦ rw (eq-eqb a b h) (same h (finds l)) | no h ↦ rw (ne_eqb a b h) (other h) ]

-- every check that has a number holds
abbrev pub Holds : List Check → Type 0
Holds [] = Unit {0}
Holds (at_most a b zero ∷ l) = Unit {0}
Holds (at_most a b (suc n) ∷ l) = (a ≤ b) × Holds l
Holds (equal a b zero ∷ l) = Unit {0}
Holds (equal a b (suc n) ∷ l) = (a ≡ b) × Holds l

split : (t : Bool) (r n : ℕ) → cond t r (suc n) ≡ 0 → (t ≡ true) × (r ≡ 0)
split true r n e = (refl, e)
split false r n e = absurd (omega arith)

pub held : (l : List Check) → fault l ≡ 0 → Holds l
unfolding fault
held [] e = tt
held (at_most a b zero ∷ l) e = tt
held (at_most a b (suc n) ∷ l) e = let s = split (leb a b) (fault l) n e in (leb-true a b s.0, held l s.1)
held (equal a b zero ∷ l) e = tt
held (equal a b (suc n) ∷ l) e = let s = split (eqb a b) (fault l) n e in (eqb-true a b s.0, held l s.1)

pub first_none : (n m : ℕ) → n ≡ 0 → first_fault n m ≡ m
unfolding first_fault
first_none n m h = rw h

pub first_some : (n m : ℕ) → (n ≡ 0 → ⊥) → first_fault n m ≡ n
unfolding first_fault
first_some zero m h = absurd (h refl)
first_some (suc n) m h = refl

-- how the first of two faults is found
pub stop : {n m : ℕ} (rest : ℕ) → n ≡ m → (n ≡ 0 → ⊥) → n ≡ first_fault m rest
stop rest e k = rw (← e) (sym (first_some _ rest k))

pub go : {n m rest : ℕ} → m ≡ 0 → n ≡ rest → n ≡ first_fault m rest
go z e = e ∙ sym (first_none _ _ z)

pub held_first : (n m : ℕ) → first_fault n m ≡ 0 → (n ≡ 0) × (m ≡ 0)
unfolding first_fault
held_first zero m h = (refl, h)
held_first (suc n) m h = absurd (omega arith)

-- Checks that begin a list: the fault that they have is the list's.
longer : {l : List Check} {n : ℕ} (rest : List Check) → Finds l n → 0 < n → Finds (l ++ rest) n
longer rest none k = absurd (omega arith)
longer rest (pass h f) k = pass h (longer rest f k)
longer rest (same h f) k = same h (longer rest f k)
longer rest (over h) k = over h
longer rest (other h) k = other h

pub begun : {n : ℕ} (l rest : List Check) → 0 < n → n ≡ fault l → n ≡ fault (l ++ rest)
begun l rest k e = rw e (found (longer rest (finds l) (omega arith)))
