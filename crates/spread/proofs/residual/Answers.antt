-- `residual` meets its contract. The invariant: the numbers of the grades from grade i on are not passed, and the blocks of which none is passed
-- are still to be added.
use Prim.Native.Nat.{ℕ, zero, suc, ◌+◌, ◌-◌, ◌*◌, ◌≤◌, ◌<◌}
use mathlib.Core.Path.{◌≡◌, refl, sym, ap, subst, ◌∙◌}
use mathlib.Core.Bool.{Bool, true, false}
use mathlib.Core.List.{List, ◌∷◌}
use native.Mathlib.Nat.{add-zero}
use native.Mathlib.Omega.{arith}
use borrow.Author.Rules.{rules}
use Rattle.std.specs.Prelude.{Option, Some, None, MatchOption}
use lib.Ieee.{Float, binary64, add}
use lib.ListN.{length, get_or, drop}
use lib.Seq.{get_or-drop, drop-drop}
use Rattle.table.specs.Words.{table_in}
use Rattle.pooling.specs.declared.Block.{Block}
use Rattle.pooling.specs.Fraction.{ratio}
use Rattle.pooling.specs.Private.{block, spanning, shows}
use Rattle.pooling.proofs.Scale.{scale_occupied, pooled_sound}
use Rattle.pooling.proofs.Spanning.{spanning_scale}
use Rattle.pooled_place.specs.PooledPlace.{no_list}
use Rattle.pooled_place.specs.Words.{HoldsPooledTable}
use Rattle.pooled_place.proofs.Words.{grades-in, held-length, held_list}
use Rattle.spread.specs.Near.{Within}
use Rattle.spread.proofs.Exact.{IsScale}
use Rattle.spread.proofs.Adding.{Added, start, counts, step, finish}
use Rattle.spread.proofs.Passing.{shown, Unbegun, Next, same, new, begin, next, passed}
use Rattle.spread.proofs.residual.Invariants.{Adding}
use Rattle.spread.proofs.residual.Goals.{After-grades_of-i-end, After-is_some_and, then-not-is_some_and, else-not-is_some_and}
use Rattle.spread.proofs.residual.Goals as goal

scale : (w : List ℕ) → HoldsPooledTable w → IsScale (spanning (table_in w))
scale w h = let t = table_in w in rw (spanning_scale t) (pooled_sound t h.sound, scale_occupied t)

-- What a turn does at numbers that the last grade does not have.
record New (w : List ℕ) (sum : Float) (i d n : ℕ) : Type 0 where
  pub small : (1 ≤ n) × (d ≤ n) × (n ≤ 1_000_000)
  pub then : (q : Float) → Within q (ratio (d * (n - d)) n) 36 → Adding w (Some (block 1 n d)) (add binary64 sum q) (i + 1)

-- A turn: d and n are the defaults and the obligors of the next grade.
data Turn (w : List ℕ) (last : Option Block) (sum : Float) (i d n : ℕ) : Type 0 where
  again : shown last d n ≡ true → Adding w last sum (i + 1) → Turn w last sum i d n
  more : shown last d n ≡ false → New w sum i d n → Turn w last sum i d n

module _ (w : List ℕ) (h : HoldsPooledTable w) (last : Option Block) (sum : Float) (i d n : ℕ) (rest : List Block) (k : ℕ)
    (index : i + suc k ≡ length (table_in w)) (a : Added (spanning (table_in w)) rest sum) where
  abbrev bs : List Block
  bs = spanning (table_in w)

  added_new : (c : Block) (cs : List Block) → rest ≡ c ∷ cs → Added bs (c ∷ cs) sum
  added_new c cs e = rw e at a

  turned : (l : List ℕ) → Next l last rest k → get_or l 0 0 ≡ d → get_or l 1 0 ≡ n → drop 3 l ≡ drop (122 + 3 * (i + 1)) w → Turn w last sum i d n
  turned l (same s p) e f m = again (rw (e, f) at s) (record { rest = rest; left = k; index = omega (arith, index); passing = rw m at p; added = a })
  turned l (new c cs r cd cn s p) e f m =
      let b = added_new c cs r in
      let of_c = counts bs (scale w h) c cs sum b in
      let dd = cd ∙ e in
      let nn = cn ∙ f in
      more (rw (e, f) at s)
      (record {
        small = (omega (arith, of_c.0, nn), omega (arith, of_c.1, nn, dd), omega (arith, of_c.2, nn));
        then = λ q near. record {
          rest = cs;
          left = k;
          index = omega (arith, index);
          passing = rw (e, f, m) at p;
          added = step bs (scale w h) c cs sum b q (rw (dd, nn) near);
        };
      })

turn : (w : List ℕ) → HoldsPooledTable w → (last : Option Block) (sum : Float) (i n : ℕ) → n ≡ get_or w (122 + 3 * i + 1) 0
    → i < length (table_in w) → (a : Adding w last sum i) → (k : ℕ) → a.left ≡ k → Turn w last sum i (get_or w (122 + 3 * i) 0) n
turn w h last sum i n of less a zero e = absurd (omega (arith, a.index))
turn w h last sum i n of less a (suc k) e =
    let at = 122 + 3 * i in
    let s : at + 3 ≡ 122 + 3 * (i + 1) = omega arith in
    turned w h last sum i (get_or w at 0) n a.rest k (omega (arith, a.index)) a.added (drop at w)
    (next (drop at w) last a.rest k (rw e at a.passing))
    (get_or-drop at w 0 0 ∙ ap (λ (j : ℕ). get_or w j 0) (add-zero at))
    (get_or-drop at w 1 0 ∙ sym of)
    (rw s at (drop-drop 3 at w))

-- by what the code found

told : (last : Option Block) (d n : ℕ) (b : Bool) → MatchOption last (b ≡ false) (λ x. b ≡ shows x d n) → b ≡ shown last d n
told None d n b h = h
told (Some x) d n b h = h

is_again : {w : List ℕ} {last : Option Block} {sum : Float} {i d n : ℕ} → Turn w last sum i d n → shown last d n ≡ true → Adding w last sum (i + 1)
is_again (again s a) e = a
is_again (more s m) e = cc

is_new : {w : List ℕ} {last : Option Block} {sum : Float} {i d n : ℕ} → Turn w last sum i d n → shown last d n ≡ false → New w sum i d n
is_new (again s a) e = cc
is_new (more s m) e = m

pub grades_of-i-end-requires : goal.grades_of-i-end-requires
grades_of-i-end-requires c = omega (arith, held-length c.requires)

count : (c : After-grades_of-i-end) → c.grades_of-i-end.result ≡ length (table_in c.args.place.now)
count c = grades-in c.args.place.now c.grades_of-i-end.ensures

pub loop-i-init : goal.loop-i-init
loop-i-init c =
    let w = c.args.place.now in
    let h = c.requires in
    let t = table_in w in
    record {
      rest = spanning t;
      left = length t;
      index = omega arith;
      passing = subst (λ (l : List ℕ). Unbegun l (spanning t) (length t)) (sym (held_list h)) (begin t h.sound no_list);
      added = start (spanning t) (scale w h);
    }

pub bounds-place-at : goal.bounds-place-at
bounds-place-at c = omega (arith, count (goal.at.bounds-place-at c).After-grades_of-i-end, held-length c.requires, c.requires.sound.few)

pub obligors_at-obligors-requires : goal.obligors_at-obligors-requires
obligors_at-obligors-requires c =
    omega (arith, count (goal.at.obligors_at-obligors-requires c).After-grades_of-i-end, held-length c.requires, c.requires.sound.few)

here : (c : After-is_some_and) → Turn c.args.place.now c.loop-i.last c.loop-i.sum c.loop-i.i
    (get_or c.args.place.now (122 + 3 * c.loop-i.i) 0) c.obligors_at-obligors.result.0
here c =
    let less : c.loop-i.i < length (table_in c.args.place.now) =
    omega (arith, grades-in c.args.place.now c.grades_of-i-end.ensures, c.loop-i-test.true) in
    turn _ c.requires _ _ _ _ c.obligors_at-obligors.ensures less c.loop-i.invariant _ refl

found : (c : After-is_some_and)
    → c.is_some_and.result ≡ shown c.loop-i.last (get_or c.args.place.now (122 + 3 * c.loop-i.i) 0) c.obligors_at-obligors.result.0
found c = told c.loop-i.last (get_or c.args.place.now (122 + 3 * c.loop-i.i) 0) c.obligors_at-obligors.result.0 c.is_some_and.result (search rules)

pub quotient-sum-requires : goal.quotient-sum-requires
quotient-sum-requires c =
    let at = (goal.at.quotient-sum-requires c).After-is_some_and in
    let m = (is_new (here at) (sym (found at) ∙ c.if-not-is_some_and.true)).small in
    record { defaults_le_obligors = m.1; le_obligors = m.0; obligors_bound = m.2 }

pub loop-i-preserved : goal.loop-i-preserved
loop-i-preserved c =
    let at = (goal.at.loop-i-preserved c).After-is_some_and in
    elim c.if-not-is_some_and.branch [
      | then-not-is_some_and w ↦ let n = is_new (here at) (sym (found at) ∙ w.if-not-is_some_and.true) in
          rw (w.last-is, w.sum-is) (n.then w.quotient-sum.result w.quotient-sum.ensures)
      | else-not-is_some_and w ↦ rw (w.last-is, w.sum-is) (is_again (here at) (sym (found at) ∙ w.if-not-is_some_and.false))
    ]

pub returns : goal.returns
returns c =
    let i = c.loop-i.invariant in
    let w = c.args.place.now in
    let none : i.left ≡ 0 = omega (arith, i.index, c.loop-i-test.false, count (goal.at.returns c).After-grades_of-i-end) in
    let over = passed _ _ _ (rw none at i.passing) in
    finish (spanning (table_in w)) (scale w c.requires) c.loop-i.sum (rw over at i.added)
