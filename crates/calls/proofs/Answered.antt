-- What a call answers and leaves, by the number of its first fault.
use Prim.Native.Nat.{ℕ, zero, suc}
use mathlib.Core.Path.{◌≡◌, refl}
use Rattle.refusals.specs.Answers.{accepted, refused, answer, leaves}

module _ {A : Type 0} where
  pub refuses : (n : ℕ) {m : ℕ} (x : A) → n ≡ m → (n ≡ 0 → ⊥) → refused n ≡ answer m x
  refuses zero x e k = absurd (k refl)
  refuses (suc n) x e k = rw (← e)

  pub accepts : {x y : A} {m : ℕ} → 0 ≡ m → x ≡ y → accepted x ≡ answer m y
  accepts e h = rw (← e, h)

  -- nothing is changed
  pub keeps : (n : ℕ) (old new : A) → (n ≡ 0 → ⊥) → old ≡ leaves n old new
  keeps zero old new k = absurd (k refl)
  keeps (suc n) old new k = refl

  -- so is what it left, where the fault is known by another name
  pub left_alone : (n : ℕ) {m : ℕ} {left old : A} (new : A) → n ≡ m → (n ≡ 0 → ⊥) → left ≡ old → left ≡ leaves m old new
  left_alone zero new e k h = absurd (k refl)
  left_alone (suc n) new e k h = rw (← e) h
