-- The version of the library for C: a whole number, 1 more at each landing.
use Rattle.std.specs.Prelude.{ℕ}

abbrev pub version : ℕ
version = 10
