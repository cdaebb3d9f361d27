-- `put_table` meets its contract.
use native.Mathlib.Omega.{arith}
use Rattle.table.specs.Words.{place_in, table_in}
use Rattle.book.proofs.Books.{length-lent, table_stored}
use Rattle.book.proofs.writer.put_table.Goals as goal

pub put_rows-requires : goal.put_rows-requires
put_rows-requires c =
    let e = length-lent c.args.place.now in record {
      writable = c.requires.writable;
      room = omega arith;
    }

pub returns : goal.returns
returns c =
    let w = c.args.place.now in
    rw (c.put_rows.ensures, c.put_two-2.ensures, c.put_two.ensures, c.grades_of.ensures)
    (table_stored _ _ (table_in w) (place_in w).grades (length-lent w) c.requires.writable.few)
