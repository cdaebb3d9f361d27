-- The number of a place: it is 1, 2 or neither, and then refused with 1 before every other check.
use Prim.Native.Nat.{ℕ}
use mathlib.Core.Path.{◌≡◌, refl, sym, ◌∙◌}
use native.Mathlib.Omega.{arith}
use native.Mathlib.Decide.{dec_le}
use Rattle.std.specs.Prelude.{Result, IsErrAnd}
use Rattle.refusals.specs.declared.Refusal.{Refusal}
use Rattle.refusals.specs.Numbers.{number_of, number_in}
use Rattle.refusals.specs.Answers.{answer, leaves, Limited, says}
use Rattle.refusals.proofs.Refused.{never_0, passed_on, passed_said}
use Rattle.book.specs.Checks.{first_fault}
use Rattle.book.proofs.Checks.{found, pass, over, stop}
use Rattle.calls.proofs.Answered.{refuses, left_alone}
use Rattle.desk.specs.Calls.{place_fault}

pub data Number : ℕ → Type 0 where
  one : Number 1
  two : Number 2
  neither : {i : ℕ} → (i ≡ 1 → ⊥) → (i ≡ 2 → ⊥) → place_fault i ≡ 1 → Number i

pub number : (i : ℕ) → Number i
number i =
    elim (dec_le 1 i) [
      | no l ↦ neither (λ e. omega arith) (λ e. omega arith) (sym (found (over (omega arith))))
      | yes l ↦ elim (dec_le i 2) [
        | no m ↦ neither (λ e. omega arith) (λ e. omega arith) (sym (found (pass (omega arith) (over (omega arith)))))
        | yes m ↦ elim (dec_le i 1) [
          | yes k ↦ let e : 1 ≡ i = omega arith in rw (← e) one
          | no k ↦ let e : 2 ≡ i = omega arith in rw (← e) two
        ]
      ]
    ]

-- At the exit of a `?` the refusal e, whose number is n, is handed on: it is what is answered, and what was lent is left alone.
module _ {A : Type 0} (r : Result A Refusal) (e : Refusal) (on : IsErrAnd r (λ x. x ≡ e)) {n : ℕ} (is : number_of e ≡ n) where
  pub on_number : number_in r ≡ n
  on_number = passed_on r e on ∙ is

  pub on_said : (x : A) → says r ≡ answer n x
  on_said x = passed_said r e on ∙ refuses (number_of e) x is (never_0 e)

  pub on_limited : (P : A → Type 0) → Limited n P (says r)
  on_limited P = rw (passed_said r e on) (sym is, never_0 e)

pub on_left : {B : Type 0} (e : Refusal) {n : ℕ} (old new : B) → number_of e ≡ n → old ≡ leaves n old new
on_left e old new is = left_alone (number_of e) new is (never_0 e) refl

-- The refusal of a place's number comes before every other.
pub missing : (e : Refusal) (i rest : ℕ) → number_of e ≡ place_fault i → number_of e ≡ first_fault (place_fault i) rest
missing e i rest is = stop rest is (never_0 e)
