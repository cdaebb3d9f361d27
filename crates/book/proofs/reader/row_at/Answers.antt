-- `row_at` meets its contract.
use Rattle.book.specs.Rows.{grade_in}
use Rattle.book.proofs.reader.row_at.Goals as goal

pub returns : goal.returns
unfolding grade_in
returns c = rw (c.obligors_by-obligors.ensures, c.four_at-announced.ensures, c.four_at-defaults.ensures, c.four_at-column.ensures)
