-- A scale in weights: each default counts a times, each survivor b times. To compare shares is to compare two such scales (R-6).
use Rattle.std.specs.Prelude.{ℕ, ◌+◌, ◌*◌, map}
use Rattle.table.specs.Table.{Table, Grade, survivors}

-- a d defaults and b s survivors
abbrev pub weigh : ℕ → ℕ → Grade → Grade
weigh a b r = record { obligors = a * r.defaults + b * survivors r; defaults = a * r.defaults; announced = r.announced }

abbrev pub weighted : ℕ → ℕ → Table → Table
weighted a b t = map (weigh a b) t
