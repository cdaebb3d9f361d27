-- `put_row` meets its contract.
use mathlib.Core.Path.{◌∙◌}
use Rattle.book.specs.Private.{grade_of}
use Rattle.book.proofs.Books.{grade_stored}
use Rattle.book.proofs.writer.put_row.Goals as goal

pub returns : goal.returns
returns c =
    let a = c.args in
    c.put_four-3.ensures ∙ rw (c.put_four-2.ensures, c.put_four.ensures) (grade_stored _ _ (grade_of a.r))
