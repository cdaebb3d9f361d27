-- A list that is written from its end to its front: what is already written stands behind what is still as it was.
use Prim.Native.Nat.{ℕ, ◌+◌, ◌≤◌, ◌<◌}
use mathlib.Core.Path.{◌≡◌, refl}
use mathlib.Core.List.{List, ◌∷◌, ◌++◌}
use native.Mathlib.Numerals.{add-one}
use native.Mathlib.Omega.{arith}
use lib.ListN.{length, take, drop, set}
use lib.Seq.{take-suc, append_snoc, set_at, length-take-le, take-append-le, take-take, drop_at}

-- one number more, at index a
put : (o w : List ℕ) (s a v : ℕ) → s ≡ a + 1 → s ≤ length o → set (take s o ++ w) a v ≡ take a o ++ v ∷ w
put o w s a v e h =
    let l : a < length o = omega arith in
    let k = length-take-le a o (omega arith) in
    rw (e, add-one, take-suc o a 0, append_snoc, set_at (take a o))

-- three numbers more, from index a on
pub put_three : (o w : List ℕ) (s a x y z : ℕ) → s ≡ a + 3 → s ≤ length o
    → set (set (set (take s o ++ w) (a + 2) z) (a + 1) y) a x ≡ take a o ++ x ∷ y ∷ z ∷ w
put_three o w s a x y z e h =
    rw (put o w s (a + 2) z (omega arith) h, put o (z ∷ w) (a + 2) (a + 1) y (omega arith) (omega arith), put o (y ∷ z ∷ w) (a + 1) a x refl (omega arith))

-- numbers more, from index a on, by a callee that writes f of what stands from index s on
pub put_more : (o w out : List ℕ) (s a : ℕ) (f : List ℕ → List ℕ) → out ≡ take s o ++ w → a ≤ s → s ≤ length o
    → take a out ++ f (drop s out) ≡ take a o ++ f w
put_more o w out s a f e k h =
    let l = length-take-le s o h in
    let m : a ≤ length (take s o) = omega arith in
    rw (e, take-append-le a, take-take a, drop_at (take s o) w s l)
