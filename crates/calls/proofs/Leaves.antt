-- What a call leaves: a goal about it, by whether the call has a fault.
use Prim.Native.Nat.{ℕ, zero, suc}
use mathlib.Core.Path.{◌≡◌, refl}
use native.Mathlib.Omega.{arith}
use Rattle.refusals.specs.Answers.{leaves}

pub by-fault : {A : Type 0} (P : A → Type 0) (n : ℕ) {old new : A} → (n ≡ 0 → P new) → ((n ≡ 0 → ⊥) → P old) → P (leaves n old new)
by-fault P zero f g = f refl
by-fault P (suc n) f g = g (λ e. omega arith)

pub leaves_map : {A B : Type 0} (f : A → B) (n : ℕ) (old new : A) → leaves n (f old) (f new) ≡ f (leaves n old new)
leaves_map f zero old new = refl
leaves_map f (suc n) old new = refl
