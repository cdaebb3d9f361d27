-- The spread record: how far the outcomes are spread about the rate of the whole table, and how far about the rates of its blocks.
use Rattle.std.specs.Prelude.{◌-◌, ◌*◌, List, [], ◌∷◌}
use Rattle.table.specs.Table.{Table, defaults_in, survivors_in, obligors_in}
use Rattle.pooling.specs.declared.Block.{Block}
use Rattle.pooling.specs.Pool.{blocks}
use Rattle.pooling.specs.Fraction.{Fraction, nought, ratio, sum}
use Rattle.spread.specs.declared.Spread.{Spread}
use Rattle.spread.specs.Near.{Within}

-- DS/N
abbrev pub total_of : Table → Fraction
total_of t = ratio (defaults_in t * survivors_in t) (obligors_in t)

-- block defaults times block survivors over block obligors
abbrev pub residual_of : Block → Fraction
residual_of b = ratio (b.defaults * (b.obligors.0 - b.defaults)) b.obligors.0

-- "The exact sum over blocks of block defaults times block survivors over block obligors."
unfoldable pub residual_sum : List Block → Fraction
residual_sum [] = nought
residual_sum (b ∷ bs) = sum (residual_of b) (residual_sum bs)

-- The spread of a table. The two floats are limited and not given, because document 01 leaves them open: "The price pairs and the two
-- floats alone are freer, bound as above".
pub record IsSpread (t : Table) (r : Spread) : Type 0 where
  pub total : Within r.total (total_of t) 36
  pub residual : Within r.residual (residual_sum (blocks t)) 29
