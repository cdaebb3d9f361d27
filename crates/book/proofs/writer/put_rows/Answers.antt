-- `put_rows` meets its contract. The invariant: to store the grades from grade i on is to store all.
use Prim.Native.Nat.{ℕ, ◌+◌, ◌*◌, ◌<◌}
use mathlib.Core.Path.{◌≡◌, refl, sym, ◌∙◌}
use mathlib.Core.List.{List}
use native.Mathlib.Nat.{zero-add}
use native.Mathlib.Omega.{arith}
use lib.ListN.{length, get_or}
use Rattle.table.specs.declared.Place.{Place}
use Rattle.table.specs.Place.{grade_at}
use Rattle.table.specs.Words.{place_in}
use Rattle.table.proofs.Words.{column-at}
use Rattle.table.proofs.Suffix.{suffix_all, suffix_end, suffix_at}
use Rattle.book.specs.Private.{stored}
use Rattle.book.specs.Encode.{encode_grade, encode_grades}
use Rattle.book.proofs.Stored.{stored_two, stored-length, stored_none}
use Rattle.book.proofs.Books.{length_grade}
use Rattle.book.proofs.writer.put_rows.Invariants.{Put}
use Rattle.book.proofs.writer.put_rows.Goals as goal

put : (p : Place) (whole : List ℕ) (size start : ℕ) (out : List ℕ) (i : ℕ) (next : List ℕ) → Put p whole size start out i → i < p.grades
    → next ≡ stored out (start + 12 * i) (encode_grade (grade_at p i)) → Put p whole size start next (i + 1)
unfolding encode_grades
put p whole size start out i next inv h e =
    let m : start + 12 * i + length (encode_grade (grade_at p i)) ≡ start + 12 * (i + 1) = rw length_grade (omega arith) in
    record {
      to = omega arith;
      long = rw (e, stored-length) inv.long;
      rest = rw (e, stored_two (encode_grade (grade_at p i)) _ out _ _ m) (rw (suffix_at p i h) at inv.rest);
    }

-- grade i stands at three words
grade-at : (w : List ℕ) (i : ℕ) → i < 40
    → record { obligors = get_or w i 0; defaults = get_or w (40 + i) 0; announced = get_or w (80 + i) 0 } ≡ grade_at (place_in w) i
grade-at w i h = rw (← column-at w 0 i h, zero-add, ← column-at w 40 i h, ← column-at w 80 i h)

pub loop-i-init : goal.loop-i-init
loop-i-init c =
    let e : c.args.start + 12 * 0 ≡ c.args.start = omega arith in
    record { to = omega arith; long = refl; rest = rw (e, suffix_all _ 0 refl) }

pub loop-i-preserved : goal.loop-i-preserved
loop-i-preserved c =
    let l = c.loop-i in
    let n = c.obligors_at-obligors.ensures in
    put _ _ _ _ _ _ _ l.invariant (omega arith) (rw (← grade-at _ l.i (omega arith)) (rw n at c.put_row.ensures))

pub returns : goal.returns
unfolding encode_grades
returns c =
    let p = place_in c.args.place.now in
    let e = suffix_end p c.loop-i.i (omega (arith, c.grades_of-i-end.ensures)) in
    sym (stored_none _ _) ∙ (rw e at c.loop-i.invariant.rest)
