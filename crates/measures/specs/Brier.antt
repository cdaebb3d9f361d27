-- The Brier score of the announced rates, over N times 10^12.
use Rattle.std.specs.Prelude.{ℕ, ◌+◌, ◌-◌, ◌*◌, [], ◌∷◌}
use Rattle.table.specs.Table.{Table, Grade, survivors, obligors_in}
use Rattle.measures.specs.declared.Fraction.{Fraction}

-- d (1,000,000 - p)² + (n - d) p² of a grade with announced rate p
abbrev pub brier_at : Grade → ℕ
brier_at r =
    r.defaults * ((1_000_000 - r.announced) * (1_000_000 - r.announced))
    + survivors r * (r.announced * r.announced)

unfoldable pub brier_sum : Table → ℕ
brier_sum [] = 0
brier_sum (r ∷ t) = brier_at r + brier_sum t

unfoldable pub brier_of : Table → Fraction ℕ
brier_of t = record { numerator = brier_sum t; denominator = obligors_in t * 1_000_000_000_000 }
