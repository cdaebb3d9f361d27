-- Fractions of either sign, compared by cross-multiplication.
use Rattle.std.specs.Prelude.{ℕ, ◌+◌, ◌*◌, ◌≤◌, ◌≡◌}

-- The fraction (plus - minus) / over. A proper one is over at least 1.
pub record Fraction : Type 0 where
  pub plus : ℕ
  pub minus : ℕ
  pub over : ℕ

abbrev pub Proper : Fraction → Type 0
Proper x = 1 ≤ x.over

-- x is at most y
abbrev pub AtMost : Fraction → Fraction → Type 0
AtMost x y = x.plus * y.over + y.minus * x.over ≤ y.plus * x.over + x.minus * y.over

-- x and y have the same value
abbrev pub Equal : Fraction → Fraction → Type 0
Equal x y = x.plus * y.over + y.minus * x.over ≡ y.plus * x.over + x.minus * y.over

unfoldable pub nought : Fraction
nought = record { plus = 0; minus = 0; over = 1 }

-- d out of n
unfoldable pub ratio : ℕ → ℕ → Fraction
ratio d n = record { plus = d; minus = 0; over = n }

unfoldable pub sum : Fraction → Fraction → Fraction
sum x y = record { plus = x.plus * y.over + y.plus * x.over; minus = x.minus * y.over + y.minus * x.over; over = x.over * y.over }

unfoldable pub difference : Fraction → Fraction → Fraction
difference x y = record { plus = x.plus * y.over + y.minus * x.over; minus = x.minus * y.over + y.plus * x.over; over = x.over * y.over }

unfoldable pub square : Fraction → Fraction
square x = record { plus = x.plus * x.plus + x.minus * x.minus; minus = 2 * (x.plus * x.minus); over = x.over * x.over }

-- n times x
unfoldable pub times : ℕ → Fraction → Fraction
times n x = record { plus = n * x.plus; minus = n * x.minus; over = x.over }

unfoldable pub product : Fraction → Fraction → Fraction
product x y = record { plus = x.plus * y.plus + x.minus * y.minus; minus = x.plus * y.minus + x.minus * y.plus; over = x.over * y.over }
