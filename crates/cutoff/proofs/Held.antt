-- A scale as the code goes over it, from the worst block to the best: the last of its first k blocks.
use Prim.Native.Nat.{ℕ, suc, ◌+◌, ◌-◌, ◌≤◌, ◌<◌}
use mathlib.Core.Path.{◌≡◌, sym, ap, ◌∙◌}
use mathlib.Core.List.{List, [], ◌∷◌, ◌++◌}
use native.Mathlib.Omega.{arith}
use lib.ListN.{length, get_or, take, drop, length-append, take-append-drop, get_or-map}
use lib.Seq.{split_at, drop-cons, length-take-le, append_snoc, take-append_seam, get_or-append_seam}
use Rattle.table.specs.Table.{Table, Grade, Every, Counted, survivors, defaults_in, survivors_in}
use Rattle.table.specs.Place.{blank}
use Rattle.table.proofs.Every.{every_split}
use Rattle.pooling.specs.declared.Block.{Block}
use Rattle.pooling.specs.Pool.{as_grade}
use Rattle.pooling.specs.Private.{block}
use Rattle.cutoff.specs.Sweep.{scale_in}
use Rattle.cutoff.proofs.Cost.{drop_le}

-- the last of the first k grades
abbrev pub grade_before : Table → ℕ → Grade
grade_before t k = get_or t (k - 1) blank

pub record Next (t : Table) (k : ℕ) : Type 0 where
  pub split : take (k - 1) t ++ grade_before t k ∷ drop k t ≡ t
  pub better : length (take (k - 1) t) ≡ k - 1
  pub down : drop (k - 1) t ≡ grade_before t k ∷ drop k t
  pub counted : Counted (grade_before t k)
  pub few_defaults : (grade_before t k).defaults + defaults_in (drop k t) ≤ defaults_in t
  pub few_survivors : survivors (grade_before t k) + survivors_in (drop k t) ≤ survivors_in t

pub next : (t : Table) → Every Counted t → (k : ℕ) → 0 < k → k ≤ length t → Next t k
unfolding defaults_in survivors_in
next t counted k from to =
    let i : suc (k - 1) ≡ k = omega arith in
    let l : k - 1 < length t = omega arith in
    let split = sym (rw i at (split_at t (k - 1) blank l)) in
    let down = rw i at (drop-cons t (k - 1) blank l) in
    let few = rw down at (drop_le t (k - 1)) in
    record {
      split = split;
      better = length-take-le (k - 1) t (omega arith);
      down = down;
      counted = (every_split Counted (take (k - 1) t) (grade_before t k ∷ drop k t) (rw split counted)).1.0;
      few_defaults = omega (arith, few.0);
      few_survivors = omega (arith, few.1);
    }

-- Its block, as the code takes it from the first k, and the blocks before it.
pub record Last (bs : List Block) (k : ℕ) (rest : List Block) (b : Block) : Type 0 where
  pub some : 0 < k
  pub before : rest ≡ take (k - 1) bs
  pub here : as_grade b ≡ grade_before (scale_in bs) k

pub last : (bs : List Block) (k : ℕ) (rest : List Block) (b : Block) → k ≤ length bs → take k bs ≡ rest ++ b ∷ [] → Last bs k rest b
last bs k rest b few e =
    let n : k ≡ length rest + 1 = sym (length-take-le k bs few) ∙ ap length e ∙ length-append rest (b ∷ []) in
    let i : k - 1 ≡ length rest = omega arith in
    let split : bs ≡ rest ++ b ∷ drop k bs =
    sym (take-append-drop k bs) ∙ ap (λ l. l ++ drop k bs) e ∙ append_snoc rest b (drop k bs) in
    record {
      some = omega arith;
      before = rw i (sym (ap (take (length rest)) split ∙ take-append_seam rest (b ∷ drop k bs)));
      here = rw i (sym (get_or-map as_grade bs (length rest) (block 0 0 0)
          ∙ ap as_grade (ap (λ l. get_or l (length rest) (block 0 0 0)) split ∙ get_or-append_seam rest b (drop k bs) (block 0 0 0))));
    }
