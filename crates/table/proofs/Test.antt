-- A test in a definition: a goal about its outcome, by the two outcomes.
use mathlib.Core.Bool.{Bool, true, false, not, cond}
use lib.Dec.{T}

pub by-test {ℓ} : {A : Type ℓ} (P : A → Type 0) (x : Bool) {l r : A} → (T x → P l) → (T (not x) → P r) → P (cond x l r)
by-test P true f g = f tt
by-test P false f g = g tt
