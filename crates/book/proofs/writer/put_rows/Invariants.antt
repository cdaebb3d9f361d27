-- `put_rows` meets its contract. The invariant: to store the grades from grade i on is to store all.
use Prim.Native.Nat.{ℕ, ◌+◌, ◌*◌, ◌≤◌}
use mathlib.Core.Path.{◌≡◌}
use mathlib.Core.List.{List}
use lib.ListN.{length}
use Rattle.table.specs.declared.Place.{Place}
use Rattle.table.specs.Place.{table_of}
use Rattle.table.specs.Words.{place_in}
use Rattle.table.proofs.Suffix.{suffix}
use Rattle.book.specs.Private.{stored}
use Rattle.book.specs.Encode.{encode_grades}
use Rattle.book.proofs.writer.put_rows.Given as goal

pub record Put (p : Place) (whole : List ℕ) (size start : ℕ) (out : List ℕ) (i : ℕ) : Type 0 where
  pub to : i ≤ p.grades
  pub long : length out ≡ size
  pub rest : stored out (start + 12 * i) (encode_grades (suffix p i)) ≡ whole

abbrev pub invariant-loop-i : goal.invariant-loop-i
invariant-loop-i l = let p = place_in l.place in
    Put p (stored l.initial.out l.start (encode_grades (table_of p))) (length l.initial.out) l.start l.out l.i
