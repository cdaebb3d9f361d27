-- A part of an image that is lent to a change.
use Prim.Native.Nat.{ℕ, ◌+◌, ◌-◌}
use mathlib.Core.Path.{◌≡◌, sym, ap, ◌∙◌}
use mathlib.Core.List.{List, ◌++◌, append_assoc}
use native.Mathlib.Omega.{arith}
use borrow.Rule.Slice.PartMut.{put_mid}
use lib.ListN.{length, take, drop}
use lib.Seq.{take_all, drop-drop}

-- The end of a part, less its start.
pub span : (at : ℕ) → at + 242 - at ≡ 242
span at = omega arith

pub span_counts : (at : ℕ) → at + 122 - at ≡ 122
span_counts at = omega arith

pub put_words : (w : List ℕ) (at : ℕ) (x : List ℕ) → length x ≡ 242 → put_mid at 242 w x ≡ (take at w ++ take 242 x) ++ drop (at + 242) w
put_words w at x l =
    ap (λ (y : List ℕ). take at w ++ (x ++ y)) (drop-drop 242 at w)
    ∙ sym (append_assoc (take at w) x (drop (at + 242) w))
    ∙ ap (λ (y : List ℕ). (take at w ++ y) ++ drop (at + 242) w) (sym (take_all 242 x (omega arith)))
