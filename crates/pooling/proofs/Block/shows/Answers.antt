-- `Block::shows` meets its contract.
use borrow.Author.Tests.{eq-eqb, ne_eqb}
use Rattle.pooling.proofs.Block.shows.Goals as goal

pub returns-then-self-defaults : goal.returns-then-self-defaults
returns-then-self-defaults c = let e = eq-eqb _ _ c.if-self-defaults.true in rw e

pub returns-else-self-defaults : goal.returns-else-self-defaults
returns-else-self-defaults c = let e = ne_eqb _ _ c.if-self-defaults.false in rw e
