-- Bytes stored in a row are stored as one list, and what a stored list leaves of the bytes before it.
use Prim.Native.Nat.{ℕ, suc, ◌+◌, ◌≤◌}
use mathlib.Core.Path.{◌≡◌, refl, sym, ◌∙◌}
use mathlib.Core.List.{List, [], ◌∷◌, ◌++◌, append_assoc}
use borrow.Rule.Slice.PartMut.{put_mid}
use native.Mathlib.Nat.{add-zero, zero-add}
use native.Mathlib.Omega.{arith}
use lib.ListN.{length, take, drop, set}
use lib.Seq.{length-sets, sets-eq, drop-drop}
use Rattle.book.specs.Private.{stored}

stored_append : (v w l : List ℕ) (at : ℕ) → stored (stored l at v) (at + length v) w ≡ stored l at (v ++ w)
unfolding stored
stored_append [] w l at = rw add-zero
stored_append (a ∷ v) w l at =
    let e : at + suc (length v) ≡ suc at + length v = omega arith in
    rw e (stored_append v w (set l at a) (suc at))

pub stored_two : (u v l : List ℕ) (at m : ℕ) → at + length u ≡ m → stored (stored l at u) m v ≡ stored l at (u ++ v)
stored_two u v l at m e = rw (← e) (stored_append u v l at)

pub stored-three : (u v w l : List ℕ) (at m n : ℕ) → at + length u ≡ m → m + length v ≡ n
    → stored (stored (stored l at u) m v) n w ≡ stored l at (u ++ (v ++ w))
stored-three u v w l at m n e f = stored_two v w (stored l at u) m n f ∙ stored_two u (v ++ w) l at m e

pub stored-length : (l : List ℕ) (at : ℕ) (v : List ℕ) → length (stored l at v) ≡ length l
unfolding stored
stored-length l at v = length-sets l at v

pub stored_none : (l : List ℕ) (at : ℕ) → stored l at [] ≡ l
unfolding stored
stored_none l at = refl

pub stored-all : (v l : List ℕ) → length v ≤ length l → stored l 0 v ≡ v ++ drop (length v) l
unfolding stored
stored-all v l h = let k : 0 + length v ≤ length l = omega arith in rw zero-add at (sets-eq v l 0 k)

-- a part of a slice that a list was copied over
pub part_stored : (l v : List ℕ) (at k : ℕ) → at + length v ≤ length l → k ≡ length v → put_mid at k l v ≡ stored l at v
unfolding stored
part_stored l v at k h e =
    rw (e, drop-drop (length v) at l, ← append_assoc (take at l) v (drop (at + length v) l)) (sym (sets-eq v l at h))
