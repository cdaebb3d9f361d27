-- `shorten` meets its contract.
use Prim.Native.Nat.{ℕ, ◌-◌}
use mathlib.Core.Path.{◌≡◌, ap, sym, ◌∙◌}
use mathlib.Core.List.{List, []}
use native.Mathlib.Omega.{arith}
use lib.ListN.{length, drop, replicate}
use Rattle.std.proofs.lemmas.List.{get_or-replicate}
use mir.Syntax.{w64}
use mir.Val.{SFits}
use mir.ValLaws.{to_z-of_z}
use Rattle.table.specs.Words.{place_in, table_in, HoldsTable}
use Rattle.table.proofs.Suffix.{length_grades}
use Rattle.shorter.specs.declared.sizes.Size.{Size}
use Rattle.shorter.specs.declared.Sums.{Sums}
use Rattle.shorter.specs.Private.{SumsOf, Values, ChoicesOf}
use Rattle.shorter.proofs.Answer.{falling, Searched, leads, small_value, small_pairs, best, value, kept}
use Rattle.shorter.proofs.shorten.Goals as goal

-- the grade count
grades : (w : List ℕ) {k : ℕ} → k ≡ (place_in w).grades → k ≡ length (table_in w)
grades w e = let p = place_in w in e ∙ sym (length_grades p 0 p.grades)

-- What is known once the rows are filled.
searched : {p : List ℕ} {w : List Sums} {z : Size} {v : List ℕ} {c : List (List ℕ)} → HoldsTable p → SumsOf (table_in p) w → z.grades ≡ length (table_in p)
    → Values w z (z.runs - 1) v → ChoicesOf w z (z.runs - 1) c → Searched (table_in p) w z v c
searched place sums is values choices = record { sound = place.sound; sums = sums; is = is; values = values; choices = choices }

pub grades_of-grades-requires : goal.grades_of-grades-requires
grades_of-grades-requires c = omega (arith, c.requires.place.long)

pub invariant_of-size : goal.invariant_of-size
invariant_of-size c =
    let p = c.requires in
    let is = grades c.args.place.now c.grades_of-grades.ensures in
    record { some = p.runs.0; within = omega (arith, is, p.runs.1); few = omega (arith, is, p.place.sound.few) }

pub fill_rows-requires : goal.fill_rows-requires
fill_rows-requires c =
    let p = c.requires in
    let is = grades c.args.place.now c.grades_of-grades.ensures in record {
      sums = rw is (falling p.place.sound p.sums);
      wide = λ h l. ap length (get_or-replicate 40 h (replicate 40 0) [] l);
    }

pub write_ends-requires : goal.write_ends-requires
write_ends-requires c =
    let p = c.requires in
    let is = grades c.args.place.now c.grades_of-grades.ensures in
    let k = searched p.place p.sums is c.fill_rows.ensures.values c.fill_rows.ensures.choices in record {
      room = p.runs.2;
      choices = leads k;
    }

pub overflow_mul-sums : goal.overflow_mul-sums
overflow_mul-sums c =
    let p = c.requires in
    let is = grades c.args.place.now c.grades_of-grades.ensures in
    let k = searched p.place p.sums is c.fill_rows.ensures.values c.fill_rows.ensures.choices in
    omega (arith, small_pairs k)

pub difference-requires : goal.difference-requires
difference-requires c =
    let p = c.requires in
    let is = grades c.args.place.now c.grades_of-grades.ensures in
    let k = searched p.place p.sums is c.fill_rows.ensures.values c.fill_rows.ensures.choices in
    omega (arith, small_value k, small_pairs k)

pub returns : goal.returns
returns c =
    let a = c.args in
    let p = c.requires in
    let is = grades a.place.now c.grades_of-grades.ensures in
    let k = searched p.place p.sums is c.fill_rows.ensures.values c.fill_rows.ensures.choices in
    let rest = drop a.runs a.out.now in
    let fits : SFits w64 c.difference.result = record { sfits = c.difference.type_inv } in record {
      ends = record { best = best k rest c.write_ends.ensures; kept = kept k rest c.write_ends.ensures };
      difference = to_z-of_z w64 _ fits ∙ c.difference.ensures ∙ value k rest c.write_ends.ensures;
    }
