-- `size_of` meets its contract.
use native.Mathlib.Omega.{arith}
use Rattle.book.proofs.Books.{length-lent}
use Rattle.book.proofs.writer.size_of.Goals as goal

pub returns : goal.returns
returns c =
    let e = length-lent c.args.place.now in
    (omega (arith, c.grades_of.ensures, e), omega (arith, c.grades_of.ensures, c.requires.few))
