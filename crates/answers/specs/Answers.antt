-- What the printing of a spread asks: that both floats have bits of their own, as every float but a NaN has.
use Rattle.std.specs.Prelude.{not, T}
use Rattle.std.specs.Float.Ieee.{is_nan}
use Rattle.spread.specs.declared.Spread.{Spread}

pub record Numbers (s : Spread) : Type 0 where
  pub total : T (not (is_nan s.total))
  pub residual : T (not (is_nan s.residual))
