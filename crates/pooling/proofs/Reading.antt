-- The numbers of blocks whose rates rise, read back as blocks, are those blocks: so are those that a table's pooling writes.
use Prim.Native.Nat.{ℕ, zero, suc, ◌+◌, ◌*◌, ◌≤◌}
use mathlib.Core.Path.{◌≡◌, refl, sym, ap, ◌∙◌}
use mathlib.Core.Bool.{true, false}
use mathlib.Core.List.{List, [], ◌∷◌}
use native.Mathlib.Nat.{add-zero}
use native.Mathlib.Numerals.{add-one}
use native.Mathlib.Omega.{arith}
use native.Mathlib.Decide.{dec_le, ℕ_discrete}
use borrow.Author.Tests.{eq-eqb, ne_eqb}
use lib.ListN.{length, get_or, drop}
use lib.Seq.{get_or-drop, drop-drop}
use Rattle.table.specs.Table.{Table, Every, Sound}
use Rattle.table.proofs.Occupied.{is-occupied, is_empty}
use Rattle.pooling.specs.Pool.{Block, RateBelow, Rising}
use Rattle.pooling.specs.Numbers.{grades_of_lem, numbers_of_lem, pooled_into}
use Rattle.pooling.specs.Private.{block, waiting, behind_waiting, lengthened, spanning, sum_of, shows, grown, runs_in}
use Rattle.pooling.proofs.Front.{rising_tail, front_every}
use Rattle.pooling.proofs.Spanning.{spanning_rising, spanning_count}
use Rattle.pooling.proofs.Written.{spanning_written}

-- Each block has a grade.

abbrev pub Graded : Block → Type 0
Graded b = 1 ≤ b.grades

behind_graded : (t : Table) → Every Graded (behind_waiting t)
unfolding waiting behind_waiting
behind_graded [] = tt
behind_graded (r ∷ t) =
    elim (dec_le 1 r.obligors) [
      | yes o ↦ rw (is-occupied r o)
          (front_every Graded (λ b c p q. omega arith) (block (waiting t + 1) r.obligors r.defaults) (behind_waiting t) (omega arith) (behind_graded t))
      | no o ↦ rw (is_empty r (omega arith)) (behind_graded t)
    ]

lengthened_graded : (k : ℕ) (bs : List Block) → Every Graded bs → Every Graded (lengthened k bs)
unfolding lengthened
lengthened_graded k [] h = tt
lengthened_graded k (b ∷ bs) h = (omega (arith, h.0), h.1)

pub spanning_graded : (t : Table) → Every Graded (spanning t)
spanning_graded t = lengthened_graded (waiting t) (behind_waiting t) (behind_graded t)

-- A block has its own counts, and not those of one with another rate.

pub shows_own : (k n d : ℕ) → shows (block k n d) d n ≡ true
shows_own k n d = rw (eq-eqb d d refl, eq-eqb n n refl)

shows_below : (b c : Block) → RateBelow b c → shows c b.defaults b.obligors.0 ≡ false
shows_below b c h =
    elim (ℕ_discrete c.defaults b.defaults) [
      | no m ↦ rw (ne_eqb c.defaults b.defaults m)
      | yes e ↦ elim (ℕ_discrete c.obligors.0 b.obligors.0) [
        | no m ↦ rw (eq-eqb c.defaults b.defaults e, ne_eqb c.obligors.0 b.obligors.0 m)
        | yes f ↦ absurd (omega (arith, rw (e, f) at h))
      ]
    ]

-- The numbers from grade k on: one better grade before those from the next on.
pub runs_from : (l : List ℕ) (k m : ℕ) → runs_in (suc m) (drop (3 * k) l) ≡ grown (get_or l (3 * k) 0) (get_or l (3 * k + 1) 0) (runs_in m (drop (3 * (k + 1)) l))
unfolding runs_in
runs_from l k m =
    let d : get_or (drop (3 * k) l) 0 0 ≡ get_or l (3 * k) 0 = rw add-zero at (get_or-drop (3 * k) l 0 0) in
    let e : 3 * k + 3 ≡ 3 * (k + 1) = omega arith in
    rw (d, get_or-drop (3 * k) l 1 0, drop-drop 3 (3 * k) l, e)

-- The grades of a block, before blocks with higher rates.
grades_back : (b : Block) (k m : ℕ) (rest : List ℕ) (bs : List Block) → Rising (b ∷ bs) → runs_in m rest ≡ bs
    → runs_in (suc k + m) (grades_of_lem b (suc k) rest) ≡ block (suc k) b.obligors.0 b.defaults ∷ bs
unfolding runs_in grown grades_of_lem Rising
grades_back b zero m rest [] h e = let s : 1 + m ≡ suc m = omega arith in rw (s, e)
grades_back b zero m rest (c ∷ bs) h e = let s : 1 + m ≡ suc m = omega arith in rw (s, e, shows_below b c h.0)
grades_back b (suc k) m rest bs h e =
    let s : suc (suc k) + m ≡ suc (suc k + m) = omega arith in
    let more = grades_back b k m rest bs h e in
    rw (s, more, shows_own (suc k) b.obligors.0 b.defaults, add-one)

block_back : (b : Block) (k m : ℕ) (rest : List ℕ) (bs : List Block) → b.grades ≡ k → Graded b → Rising (b ∷ bs) → runs_in m rest ≡ bs
    → runs_in (b.grades + m) (grades_of_lem b b.grades rest) ≡ b ∷ bs
block_back b zero m rest bs e g h f = absurd (omega arith)
block_back b (suc k) m rest bs e g h f =
    ap (λ (n : ℕ). runs_in (n + m) (grades_of_lem b n rest)) e
    ∙ grades_back b k m rest bs h f
    ∙ ap (λ (n : ℕ). block n b.obligors.0 b.defaults ∷ bs) (sym e)

pub runs_back : (bs : List Block) (rest : List ℕ) → Rising bs → Every Graded bs → runs_in (sum_of bs).grades (numbers_of_lem bs rest) ≡ bs
unfolding runs_in numbers_of_lem sum_of
runs_back [] rest h g = refl
runs_back (b ∷ bs) rest h g =
    block_back b b.grades (sum_of bs).grades (numbers_of_lem bs rest) bs refl g.0 h (runs_back bs rest (rising_tail b bs h) g.1)

pub pooled_back : (t : Table) → Sound t → (out : List ℕ) → runs_in (length t) (pooled_into t out) ≡ spanning t
pooled_back t sound out =
    rw (← spanning_written t sound.some_occupied out, ← spanning_count t sound.counted sound.some_occupied)
    (runs_back (spanning t) _ (spanning_rising t) (spanning_graded t))
