-- A plain float is a number, so that it has bits of its own.
use mathlib.Core.Bool.{not}
use lib.Dec.{T}
use lib.Ieee.{Float, nan, inf, fin, is_nan}
use Rattle.spread.specs.Near.{plain}

pub is_number : (x : Float) → T (plain x) → T (not (is_nan x))
unfolding is_nan
is_number nan h = h
is_number (inf s) h = tt
is_number (fin s m e) h = tt
