-- `put_head` meets its contract.
use mathlib.Core.Path.{◌∙◌}
use Rattle.book.proofs.Books.{head_stored}
use Rattle.book.proofs.writer.put_head.Goals as goal

pub returns : goal.returns
returns c = c.put_two-3.ensures ∙ rw (c.put_two-2.ensures, c.put_two.ensures) (head_stored _ _ _)
