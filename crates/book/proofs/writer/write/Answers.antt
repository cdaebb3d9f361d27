-- `write` meets its contract: where no place is loaded, there is no table.
use mathlib.Core.Path.{◌≡◌, sym}
use mathlib.Core.Bool.{false}
use Rattle.table.specs.Words.{place_in}
use Rattle.book.specs.Writing.{tables_of}
use Rattle.book.proofs.Books.{nothing, chosen, tables_are}
use Rattle.book.proofs.writer.write.Goals as goal

pub returns-in-false-false : goal.returns-in-false-false
returns-in-false-false c =
    let first = place_in c.args.first.now in
    let second = place_in c.args.second.now in
    let tables : tables_of first second ≡ chosen first second false false =
    tables_are first second (sym c.in-false-false.ensures) (sym c.in-false-false.ensures') in
    record { value = rw tables (nothing _).0; out_after = rw tables (nothing _).1 }
