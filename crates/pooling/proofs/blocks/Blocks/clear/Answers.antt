-- `clear` meets its contract.
use native.Mathlib.Omega.{arith}
use lib.ListN.{drop_of_length-le}
use Rattle.pooling.proofs.blocks.Blocks.clear.Goals as goal

pub returns : goal.returns
returns c = drop_of_length-le c.args.self.now.items {i = 40} (omega arith)
