-- What is proved of shorter scales, beside the contracts. The contract of `claims` in src/lib.rt is all of it, so that the crate is refused
-- where a claim is not proved.
use Rattle.std.specs.Prelude.{ℕ, suc, ◌+◌, ◌≤◌, ◌≡◌, List, [], ◌∷◌, map, pos, negsuc, length, ◌≤ℤ◌}
use Rattle.table.specs.Table.{Table, Grade, Every, Counted, Sound, occupied, defaults_in, survivors_in, obligors_in}
use Rattle.table.specs.Place.{blank}
use Rattle.pooling.specs.Regression.{NeverFall, rates}
use Rattle.measures.specs.Pairs.{concordant, discordant}
use Rattle.shorter.specs.Cut.{IsCut, coarse, pair_difference, coarse_difference, IsBestCut}

-- "Every other cut into m runs has at most that C − X", in whole numbers,
abbrev pub EveryCutHasAtMost : Type 0
EveryCutHasAtMost =
    (t : Table) (m : ℕ) (ends : List ℕ) → IsBestCut t m ends → (others : List ℕ) → IsCut t m others
    → concordant (coarse t others) + discordant (coarse t ends) ≤ concordant (coarse t ends) + discordant (coarse t others)

-- so that all best cuts have the same, whichever of them is answered.
abbrev pub BestCutsAreEqual : Type 0
BestCutsAreEqual =
    (t : Table) (m : ℕ) (ends others : List ℕ) → IsBestCut t m ends → IsBestCut t m others
    → coarse_difference t others ≡ coarse_difference t ends

-- The coarse scale of any cut has the D, S and N of the table: its Gini is over the same D S.
pub record SameTotals (t u : Table) : Type 0 where
  pub defaults : defaults_in u ≡ defaults_in t
  pub survivors : survivors_in u ≡ survivors_in t
  pub obligors : obligors_in u ≡ obligors_in t

abbrev pub CoarseScalesKeepTheTotals : Type 0
CoarseScalesKeepTheTotals = (t : Table) → Every Counted t → (m : ℕ) (ends : List ℕ) → IsCut t m ends → SameTotals t (coarse t ends)

-- The counts of a grade, without its announced rate.
abbrev pub unannounced : Grade → Grade
unannounced r = record { obligors = r.obligors; defaults = r.defaults; announced = 0 }

-- With a run for each grade the coarse scale has the table's own counts, and so its C − X.
abbrev pub FinestCutIsTheTable : Type 0
FinestCutIsTheTable =
    (t : Table) (ends : List ℕ) → IsCut t (length t) ends → (coarse t ends ≡ map unannounced t) × (coarse_difference t ends ≡ pair_difference t)

-- A table can be cut into any number of runs from 1 to its grade count, and one of the cuts is best.
pub record BestCut (t : Table) (m : ℕ) : Type 0 where
  pub ends : List ℕ
  pub is : IsBestCut t m ends

abbrev pub EveryTableHasABestCut : Type 0
EveryTableHasABestCut = (t : Table) → Every Counted t → (m : ℕ) → 1 ≤ m → m ≤ length t → BestCut t m

-- Where no grade's default rate is below a better grade's, empty ones aside, one run more never gives less.
abbrev pub MoreRunsNeverGiveLess : Type 0
MoreRunsNeverGiveLess =
    (t : Table) → Every Counted t → NeverFall (rates (occupied t)) → (m : ℕ) → suc m ≤ length t
    → (ends finer : List ℕ) → IsBestCut t m ends → IsBestCut t (suc m) finer → coarse_difference t ends ≤ℤ coarse_difference t finer

-- On a scale that is upside down somewhere it can: a default in the better of two grades and a survivor in the worse. As one grade they have
-- C − X 0, as two they have −1.
abbrev pub upside_down : Table
upside_down = record { obligors = 1; defaults = 1; announced = 0 } ∷ record { obligors = 1; defaults = 0; announced = 0 } ∷ []

abbrev pub MoreRunsCanGiveLess : Type 0
MoreRunsCanGiveLess =
    Sound upside_down × IsBestCut upside_down 1 (2 ∷ []) × IsBestCut upside_down 2 (1 ∷ 2 ∷ [])
    × (coarse_difference upside_down (2 ∷ []) ≡ pos 0) × (coarse_difference upside_down (1 ∷ 2 ∷ []) ≡ negsuc 0)

-- An empty grade is a grade, and can be a run of its own: here the better of two.
abbrev pub empty_on_top : Table
empty_on_top = blank ∷ record { obligors = 2; defaults = 1; announced = 0 } ∷ []

abbrev pub EmptyGradesAreGrades : Type 0
EmptyGradesAreGrades = Sound empty_on_top × IsBestCut empty_on_top 2 (1 ∷ 2 ∷ [])

-- All of them: what the function `claims` of this crate promises.
pub record Claims : Type 0 where
  pub every_cut_has_at_most : EveryCutHasAtMost
  pub best_cuts_are_equal : BestCutsAreEqual
  pub coarse_scales_keep_the_totals : CoarseScalesKeepTheTotals
  pub finest_cut_is_the_table : FinestCutIsTheTable
  pub every_table_has_a_best_cut : EveryTableHasABestCut
  pub more_runs_never_give_less : MoreRunsNeverGiveLess
  pub more_runs_can_give_less : MoreRunsCanGiveLess
  pub empty_grades_are_grades : EmptyGradesAreGrades
