-- A shorter scale (document 02, R-9): "Merge neighbouring grades into m runs of at least one grade that cover the table, so that the C − X of
-- the coarse scale is largest." Empty grades are grades.
use Rattle.std.specs.Prelude.{ℕ, ◌-◌, ◌<◌, ◌≡◌, List, [], ◌∷◌, ℤ, length, take, drop, ◌≤ℤ◌}
use Rattle.std.proofs.Math.IntN.{sub_ℕ}
use Rattle.table.specs.Table.{Table, Grade, defaults_in, obligors_in}
use Rattle.measures.specs.Pairs.{concordant, discordant}

-- A cut is told by its "run ends (the last grade of each run, best run first)", grades counted from 1. These end runs that cover the grades
-- behind grade a up to grade k: each run has at least one grade, so the ends rise, and the last is k.
abbrev pub Covers : ℕ → ℕ → List ℕ → Type 0
Covers a k [] = a ≡ k
Covers a k (e ∷ ends) = (a < e) × Covers e k ends

-- "Neighbouring grades into m runs of at least one grade that cover the table"
pub record IsCut (t : Table) (m : ℕ) (ends : List ℕ) : Type 0 where
  pub runs : length ends ≡ m
  pub cover : Covers 0 (length t) ends

-- the grades behind grade a, up to grade e
abbrev pub run : Table → ℕ → ℕ → Table
run t a e = take (e - a) (drop a t)

-- a run as one grade: its obligors and its defaults. It has no announced rate.
abbrev pub merged : Table → Grade
merged t = record { obligors = obligors_in t; defaults = defaults_in t; announced = 0 }

-- "The coarse scale": the runs behind grade a as grades
unfoldable pub coarse_from : Table → ℕ → List ℕ → Table
coarse_from t a [] = []
coarse_from t a (e ∷ ends) = merged (run t a e) ∷ coarse_from t e ends

abbrev pub coarse : Table → List ℕ → Table
coarse t ends = coarse_from t 0 ends

-- C − X, signed
abbrev pub pair_difference : Table → ℤ
pair_difference t = sub_ℕ (concordant t) (discordant t)

-- "The C − X of the coarse scale"
abbrev pub coarse_difference : Table → List ℕ → ℤ
coarse_difference t ends = pair_difference (coarse t ends)

-- "Every other cut into m runs has at most that C − X." The run ends are limited and not given, because document 02 leaves them open: "where
-- several are best any of them will do, a freedom like that of the price pairs". The C − X is the same for all of them: `BestCutsAreEqual`.
pub record IsBestCut (t : Table) (m : ℕ) (ends : List ℕ) : Type 0 where
  pub cut : IsCut t m ends
  pub best : (others : List ℕ) → IsCut t m others → coarse_difference t others ≤ℤ coarse_difference t ends

-- What an accepted shorten into m runs may leave of the lent buffer out: "the run ends .. in a lent buffer of m numbers", whose further numbers
-- are kept.
pub record ShortenedInto (t : Table) (m : ℕ) (out new : List ℕ) : Type 0 where
  pub best : IsBestCut t m (take m new)
  pub kept : drop m new ≡ drop m out
