-- The numbers of blocks, passed from the best grade on: each has the numbers of the last one, or is the first of the next block.
use Prim.Native.Nat.{ℕ, zero, suc, ◌+◌, ◌*◌}
use mathlib.Core.Path.{◌≡◌, refl, sym, ap, ◌∙◌}
use mathlib.Core.Bool.{Bool, true, false}
use mathlib.Core.List.{List, [], ◌∷◌}
use native.Mathlib.Omega.{arith}
use native.Mathlib.Decide.{ℕ_discrete}
use borrow.Author.Tests.{eq-eqb, ne_eqb}
use lib.ListN.{length, get_or, drop}
use Rattle.std.specs.Prelude.{Option, Some, None}
use Rattle.table.specs.Table.{Table, Every, Sound}
use Rattle.pooling.specs.declared.Block.{Block}
use Rattle.pooling.specs.Pool.{RateBelow, Rising}
use Rattle.pooling.specs.Numbers.{grades_of_lem, numbers_of_lem, pooled_into}
use Rattle.pooling.specs.Private.{block, spanning, sum_of, shows}
use Rattle.pooling.proofs.Front.{rising_tail}
use Rattle.pooling.proofs.Spanning.{same_grades, spanning_rising, spanning_count}
use Rattle.pooling.proofs.Written.{spanning_written}
use Rattle.pooling.proofs.Reading.{Graded, spanning_graded, shows_own}

-- whether the last grade, where there is one, has these counts
abbrev pub shown : Option Block → ℕ → ℕ → Bool
shown None d n = false
shown (Some x) d n = shows x d n

-- The next block has other counts than x.
abbrev Fresh : Block → List Block → Type 0
Fresh x [] = Unit {0}
Fresh x (c ∷ cs) = shows x c.defaults c.obligors.0 ≡ false

fresh_below : (n d : ℕ) (c : Block) → RateBelow (block 1 n d) c → shows (block 1 n d) c.defaults c.obligors.0 ≡ false
fresh_below n d c h =
    elim (ℕ_discrete d c.defaults) [
      | no m ↦ rw (ne_eqb d c.defaults m)
      | yes e ↦ elim (ℕ_discrete n c.obligors.0) [
        | no m ↦ rw (eq-eqb d c.defaults e, ne_eqb n c.obligors.0 m)
        | yes f ↦ absurd (omega (arith, rw (e, f) at h))
      ]
    ]

fresh_rising : (c : Block) (cs : List Block) → Rising (c ∷ cs) → Fresh (block 1 c.obligors.0 c.defaults) cs
unfolding Rising
fresh_rising c [] h = tt
fresh_rising c (e ∷ cs) h = fresh_below c.obligors.0 c.defaults e h.0

-- The numbers l of k grades are those of the blocks in rest.
pub record Unbegun (l : List ℕ) (rest : List Block) (k : ℕ) : Type 0 where
  pub tail : List ℕ
  pub numbers : l ≡ numbers_of_lem rest tail
  pub count : k ≡ (sum_of rest).grades
  pub rising : Rising rest
  pub graded : Every Graded rest

-- They are those of more grades like the last one, which has the counts of x, and of the blocks in rest, which are not begun.
pub record Begun (l : List ℕ) (x : Block) (rest : List Block) (k : ℕ) : Type 0 where
  pub left : ℕ
  pub tail : List ℕ
  pub numbers : l ≡ grades_of_lem x left (numbers_of_lem rest tail)
  pub count : k ≡ left + (sum_of rest).grades
  pub fresh : Fresh x rest
  pub rising : Rising rest
  pub graded : Every Graded rest

abbrev pub Passing : List ℕ → Option Block → List Block → ℕ → Type 0
Passing l None rest k = Unbegun l rest k
Passing l (Some x) rest k = Begun l x rest k

pub begin : (t : Table) → Sound t → (out : List ℕ) → Unbegun (pooled_into t out) (spanning t) (length t)
begin t s out =
    record {
      tail = drop (3 * length t) out;
      numbers = sym (spanning_written t s.some_occupied out);
      count = omega (arith, spanning_count t s.counted s.some_occupied);
      rising = spanning_rising t;
      graded = spanning_graded t;
    }

-- One grade more: like the last one, or the first of the next block c.
pub data Next (l : List ℕ) (last : Option Block) (rest : List Block) (k : ℕ) : Type 0 where
  same : shown last (get_or l 0 0) (get_or l 1 0) ≡ true → Passing (drop 3 l) last rest k → Next l last rest k
  new : (c : Block) (cs : List Block) → rest ≡ c ∷ cs → c.defaults ≡ get_or l 0 0 → c.obligors.0 ≡ get_or l 1 0
      → shown last (get_or l 0 0) (get_or l 1 0) ≡ false → Begun (drop 3 l) (block 1 (get_or l 1 0) (get_or l 0 0)) cs k → Next l last rest k

begun : (l : List ℕ) (last : Option Block) (c : Block) (cs : List Block) (k m : ℕ) (tail : List ℕ) → c.grades ≡ m
    → l ≡ grades_of_lem c c.grades (numbers_of_lem cs tail) → suc k ≡ c.grades + (sum_of cs).grades
    → shown last c.defaults c.obligors.0 ≡ false → Rising (c ∷ cs) → Every Graded (c ∷ cs) → Next l last (c ∷ cs) k
unfolding grades_of_lem
begun l last c cs k zero tail g e n f r h = absurd (omega (arith, g, h.0))
begun l last c cs k (suc m) tail g e n f r h =
    let all : l ≡ c.defaults ∷ c.obligors.0 ∷ _ ∷ grades_of_lem c m (numbers_of_lem cs tail) = e ∙ ap (λ (j : ℕ). grades_of_lem c j (numbers_of_lem cs tail)) g in
    rw all
    (new c cs refl refl refl f
    (record {
      left = m;
      tail = tail;
      numbers = same_grades c.grades 1 c.obligors.0 c.defaults m (numbers_of_lem cs tail);
      count = omega (arith, n, g);
      fresh = fresh_rising c cs r;
      rising = rising_tail c cs r;
      graded = h.1;
    }))

first : (l : List ℕ) (rest : List Block) (k : ℕ) (tail : List ℕ) → l ≡ numbers_of_lem rest tail → suc k ≡ (sum_of rest).grades
    → Rising rest → Every Graded rest → Next l None rest k
unfolding numbers_of_lem sum_of
first l [] k tail e n r h = absurd (omega arith)
first l (c ∷ cs) k tail e n r h = begun l None c cs k c.grades tail refl e (omega arith) refl r h

pass : (l : List ℕ) (x : Block) (rest : List Block) (k left : ℕ) (tail : List ℕ) → l ≡ grades_of_lem x left (numbers_of_lem rest tail)
    → suc k ≡ left + (sum_of rest).grades → Fresh x rest → Rising rest → Every Graded rest → Next l (Some x) rest k
unfolding grades_of_lem numbers_of_lem sum_of
pass l x [] k zero tail e n f r h = absurd (omega arith)
pass l x (c ∷ cs) k zero tail e n f r h = begun l (Some x) c cs k c.grades tail refl e (omega arith) f r h
pass l x rest k (suc j) tail e n f r h =
    rw e
    (same (shows_own x.grades x.obligors.0 x.defaults)
    (record { left = j; tail = tail; numbers = refl; count = omega arith; fresh = f; rising = r; graded = h }))

pub next : (l : List ℕ) (last : Option Block) (rest : List Block) (k : ℕ) → Passing l last rest (suc k) → Next l last rest k
next l None rest k p = first l rest k p.tail p.numbers p.count p.rising p.graded
next l (Some x) rest k p = pass l x rest k p.left p.tail p.numbers p.count p.fresh p.rising p.graded

-- No grade more: no block is left.
pub passed : (l : List ℕ) (last : Option Block) (rest : List Block) → Passing l last rest 0 → rest ≡ []
unfolding sum_of
passed l last [] p = refl
passed l None (c ∷ cs) p = absurd (omega (arith, p.count, p.graded.0))
passed l (Some x) (c ∷ cs) p = absurd (omega (arith, p.count, p.graded.0))
