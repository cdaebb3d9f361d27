-- `read_table` meets its contract. The invariant: the total is that of the first i rows, the rows from row i on, behind one that announced the
-- rate `before`, have the fault that all have, and to store them is to store all.
use Prim.Native.Nat.{ℕ, ◌+◌, ◌*◌, ◌≤◌, ◌<◌}
use Rattle.std.specs.Prelude.{min}
use mathlib.Core.Path.{◌≡◌, refl, sym, ap, ◌∙◌}
use mathlib.Core.List.{List, [], ◌∷◌, ◌++◌, map}
use native.Mathlib.Nat.{sub-zero}
use native.Mathlib.Numerals.{add-one}
use native.Mathlib.Omega.{arith}
use lib.ListN.{length, set, length-set, length-map}
use Rattle.table.specs.Table.{Table, Grade, obligors_in}
use Rattle.table.specs.Place.{fresh, place_of}
use Rattle.table.specs.Words.{words_of}
use Rattle.table.proofs.Sums.{obligors_append}
use Rattle.refusals.proofs.Refused.{number_positive, passed_on}
use Rattle.book.specs.declared.Row.{Row}
use Rattle.book.specs.Checks.{fault, first_fault}
use Rattle.book.specs.Layout.{grades_at, kind_at}
use Rattle.book.specs.Rows.{grade_in, grades_in, table_from, later_checks, later_fault, rows_fault, total_checks, table_fault_lem}
use Rattle.book.specs.Private.{stored, grade_of, capped_grade, sum_checks}
use Rattle.book.proofs.Checks.{first_none, stop}
use Rattle.book.proofs.Rows.{rows_end, rows_at, rows_more, same_kind, length_rows, capped_table, capped_more, capped-fault, rows_later, sum-fault, faultless_exact, by_rows, by_total}
use Rattle.book.proofs.Filled.{columns_after, row-stored, place_filled}
use Rattle.book.proofs.reader.read_table.Invariants.{read, rest, Swept}
use Rattle.book.proofs.reader.read_table.Goals as goal

-- the words with row r as grade i
abbrev with_row : List ℕ → ℕ → Row → List ℕ
with_row w i r = set (set (set w i r.obligors.0) (40 + i) r.defaults) (80 + i) r.announced

-- row i of the table that starts at `start`, as the code holds it
record Parsed (b : List ℕ) (start i : ℕ) (r : Row) : Type 0 where
  pub inside : i < grades_at b start
  pub few : grades_at b start ≤ 40
  pub fits : r.defaults ≤ 4_294_967_295
  pub is : grade_of r ≡ capped_grade (grade_in b (kind_at b start) (start + 4 + 12 * i))

parsed : (b : List ℕ) (start i k byte : ℕ) (r : Row) → i < grades_at b start → grades_at b start ≤ 40 → r.defaults ≤ 4_294_967_295
    → grade_of r ≡ capped_grade (grade_in b k (start + 4 + 12 * i)) → k ≡ min byte 1 → byte ≡ kind_at b start → Parsed b start i r
parsed b start i k byte r inside few fits e m n =
    record { inside = inside; few = few; fits = fits; is = e ∙ rw (same_kind b k _ (start + 4 + 12 * i) (rw n at m)) }

rest_at : (b : List ℕ) (start i : ℕ) → i < grades_at b start
    → rest b start i ≡ grade_in b (kind_at b start) (start + 4 + 12 * i) ∷ rest b start (i + 1)
rest_at b start i h =
    let e : start + 4 + 12 * i + 12 ≡ start + 4 + 12 * (i + 1) = omega arith in
    rows_at b (kind_at b start) (grades_at b start) i (start + 4 + 12 * i) h ∙ rw e

read_more : (b : List ℕ) (start i : ℕ) (r : Row) → Parsed b start i r → read b start (i + 1) ≡ read b start i ++ grade_of r ∷ []
read_more b start i r p = let k = kind_at b start in
    rw (add-one i, rows_more b k i (start + 4), capped_more (grades_in b k i (start + 4)), p.is)

faults_at : (b : List ℕ) (start : ℕ) (w₀ w : List ℕ) (total before i : ℕ) (r : Row) → Swept b start w₀ w total before i → Parsed b start i r
    → first_fault (fault (later_checks before (grade_of r))) (later_fault r.announced (rest b start (i + 1))) ≡ rows_fault (table_from b start)
unfolding later_fault
faults_at b start w₀ w total before i r inv p =
    let g = grade_in b (kind_at b start) (start + 4 + 12 * i) in
    let a : r.announced ≡ g.announced = ap (λ (x : Grade). x.announced) p.is in
    let low : g.defaults ≤ 4_294_967_295 = omega (arith, p.fits, ap (λ (x : Grade). x.defaults) p.is) in
    rw (p.is, capped-fault before g low, a) (rw (rest_at b start i p.inside) at inv.faults)

-- a fault of row i is that of the table
stops : (b : List ℕ) (start : ℕ) (w₀ w : List ℕ) (total before i : ℕ) (r : Row) (n : ℕ) → Swept b start w₀ w total before i → Parsed b start i r → 0 < n
    → n ≡ fault (later_checks before (grade_of r)) → n ≡ table_fault_lem (table_from b start)
stops b start w₀ w total before i r n inv p some e = let k : n ≡ 0 → ⊥ = λ z. omega arith in
    by_rows (table_from b start) n k (sym (stop _ e k ∙ faults_at b start w₀ w total before i r inv p))

goes : (b : List ℕ) (start : ℕ) (w₀ w : List ℕ) (total before i : ℕ) (r : Row) → Swept b start w₀ w total before i → Parsed b start i r
    → 0 ≡ fault (later_checks before (grade_of r)) → Swept b start w₀ (with_row w i r) (total + r.obligors.0) r.announced (i + 1)
unfolding obligors_in
goes b start w₀ w total before i r inv p e =
    let low : r.obligors.0 ≤ 4_294_967_295 = omega (arith, ap (λ (x : Grade). x.obligors) p.is) in
    let l : (f : Grade → ℕ) → length (map f (capped_table (rest b start (i + 1)))) ≤ 39 =
    λ f. rw (length-map, length-map, length_rows) (omega (arith, p.inside, p.few)) in
    record {
      to = omega (arith, p.inside);
      small = omega (arith, inv.small);
      long = simp length-set inv.long;
      faults = sym (first_none _ _ (sym e)) ∙ faults_at b start w₀ w total before i r inv p;
      sum = rw (read_more b start i r p, obligors_append) (omega (arith, inv.sum));
      whole = rw (ap (λ (x : Grade). x.obligors) p.is, ap (λ (x : Grade). x.defaults) p.is, ap (λ (x : Grade). x.announced) p.is)
          (row-stored w _ _ _ i _ _ _ (l (λ g. g.obligors)) (l (λ g. g.defaults)) ∙ rw (rest_at b start i p.inside) at inv.whole);
    }

-- after the last row
record Ended (t : Table) (w₀ w : List ℕ) (n : ℕ) : Type 0 where
  pub fault : n ≡ table_fault_lem t
  pub whole : n ≡ 0 → w ≡ columns_after w₀ 0 t

ended : (b : List ℕ) (start : ℕ) (w₀ w : List ℕ) (total before i n : ℕ) → Swept b start w₀ w total before i → grades_at b start ≤ i
    → n ≡ fault (sum_checks total) → Ended (table_from b start) w₀ w n
unfolding later_fault stored
ended b start w₀ w total before i n inv h en = let t = table_from b start in
    let none_left = rows_end b (kind_at b start) (grades_at b start) i (start + 4 + 12 * i) h in
    let e : i ≡ grades_at b start = omega (arith, inv.to) in
    let q : n ≡ fault (total_checks t) = en ∙ sum-fault t total (rw e at inv.sum) in
    record {
      fault = by_total t n (sym (rw none_left at inv.faults)) q;
      whole = λ z. rw (none_left, faultless_exact t (sym q ∙ z)) at inv.whole;
    }

filled : (b : List ℕ) (start : ℕ) (w₀ w : List ℕ) (n : ℕ) → w ≡ columns_after w₀ 0 (table_from b start) → w₀ ≡ words_of fresh → grades_at b start ≤ 40
    → n ≡ grades_at b start → set (set w 120 n) 121 1 ≡ words_of (place_of (table_from b start))
filled b start w₀ w n e empty few g = let t = table_from b start in
    let l : length t ≡ grades_at b start = length_rows b (kind_at b start) (grades_at b start) (start + 4) in
    rw (e, empty) (place_filled t (omega arith) n (g ∙ sym l))

pub loop-i-init : goal.loop-i-init
unfolding grades_in obligors_in
loop-i-init c =
    let e : c.args.start + 4 + 12 * 0 ≡ c.args.start + 4 = omega arith in
    record {
      to = omega arith;
      small = omega arith;
      long = ap length c.requires.empty;
      faults = rw (sub-zero, e) (sym (rows_later _));
      sum = refl;
      whole = rw (sub-zero, e);
    }

pub returns-in_err-check_row-clause-value : goal.returns-in_err-check_row-clause-value
returns-in_err-check_row-clause-value c =
    let row : Parsed c.args.b.now c.args.start c.loop-i.i c.row_at-row.result =
    parsed _ _ _ _ _ _ (omega arith) (omega arith) (omega arith) c.row_at-row.ensures c.of-kind.ensures c.byte_at.ensures.0 in
    passed_on _ _ c.from_residual.ensures.1 ∙ stops _ _ _ _ _ _ _ _ _ c.loop-i.invariant row (number_positive _) c.in_err-check_row.ensures

pub loop-i-preserved : goal.loop-i-preserved
loop-i-preserved c =
    let row : Parsed c.args.b.now c.args.start c.loop-i.i c.row_at-row.result =
    parsed _ _ _ _ _ _ (omega arith) (omega arith) (omega arith) c.row_at-row.ensures c.of-kind.ensures c.byte_at.ensures.0 in
    goes _ _ _ _ _ _ _ _ c.loop-i.invariant row c.in_ok-check_row.ensures

pub returns-in_err-check_total-clause-value : goal.returns-in_err-check_total-clause-value
returns-in_err-check_total-clause-value c =
    passed_on _ _ c.from_residual-in_err-check_total.ensures.1
    ∙ (ended _ _ _ _ _ _ _ _ c.loop-i.invariant (omega arith) c.in_err-check_total.ensures).fault

pub returns-clause-value : goal.returns-clause-value
returns-clause-value c = (ended _ _ _ _ _ _ _ _ c.loop-i.invariant (omega arith) c.in_ok-check_total.ensures).fault

pub returns-clause-place_after : goal.returns-clause-place_after
returns-clause-place_after c =
    let after = ended _ _ _ _ _ _ _ _ c.loop-i.invariant (omega arith) c.in_ok-check_total.ensures in
    filled _ _ _ _ _ (after.whole refl) c.requires.empty c.requires.inside.1 c.byte_at-grades.ensures.0
