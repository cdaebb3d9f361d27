-- What a call answers: the values of an accepted one, or the number of the refusal alone.
use Rattle.std.specs.Prelude.{ℕ, zero, suc, ◌≡◌, Result, Ok, Err}
use Rattle.refusals.specs.declared.Refusal.{Refusal}
use Rattle.refusals.specs.Numbers.{number_of}

pub data Answer (A : Type 0) : Type 0 where
  accepted : A → Answer A
  refused : ℕ → Answer A

-- what a result says
abbrev pub says : {A : Type 0} → Result A Refusal → Answer A
says (Ok x) = accepted x
says (Err r) = refused (number_of r)

-- the refusal with the number of the fault, or, where that is 0, the values
abbrev pub answer : {A : Type 0} → ℕ → A → Answer A
answer zero x = accepted x
answer (suc n) x = refused (suc n)

-- what is left after a call: the new value, or, where there is a fault, the old one
abbrev pub leaves : {A : Type 0} → ℕ → A → A → A
leaves zero old new = new
leaves (suc n) old new = old

-- What a call with the first fault n may answer, where the documents leave its values freer: a refusal is given, values have only to be P.
abbrev pub Limited : {A : Type 0} → ℕ → (A → Type 0) → Answer A → Type 0
Limited n P (accepted x) = (n ≡ 0) × P x
Limited n P (refused m) = (n ≡ m) × (m ≡ 0 → ⊥)
