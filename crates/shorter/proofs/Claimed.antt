-- What is claimed of shorter scales holds.
use Prim.Native.Nat.{zero, suc}
use mathlib.Core.Path.{refl}
use native.Mathlib.Omega.{arith}
use Rattle.shorter.specs.Claims.{Claims, CoarseScalesKeepTheTotals, EveryTableHasABestCut}
use Rattle.shorter.proofs.Worth.{gain_in, kept}
use Rattle.shorter.proofs.Found.{best_cut, against, one_value}
use Rattle.shorter.proofs.Finest.{finest}
use Rattle.shorter.proofs.Finer.{more_runs, upside-down, empty_grade}

has_best : EveryTableHasABestCut
has_best t counted zero some h = absurd (omega arith)
has_best t counted (suc j) some h = record { ends = _; is = best_cut t counted (gain_in t) (λ i e l m. refl) j h }

keeps : CoarseScalesKeepTheTotals
keeps t counted m ends cut =
    let k = kept t counted ends 0 cut.cover in
    record { defaults = k.defaulted; survivors = k.survived; obligors = k.obligors }

pub claimed : Claims
claimed = record {
  every_cut_has_at_most = λ t m ends b. against b;
  best_cuts_are_equal = λ t m ends others b b'. one_value b b';
  coarse_scales_keep_the_totals = keeps;
  finest_cut_is_the_table = finest;
  every_table_has_a_best_cut = has_best;
  more_runs_never_give_less = more_runs;
  more_runs_can_give_less = upside-down;
  empty_grades_are_grades = empty_grade;
}
