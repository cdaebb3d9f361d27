-- `measures_at` meets its contract.
use Prim.Native.Nat.{ℕ}
use mathlib.Core.Path.{◌≡◌}
use Rattle.table.specs.declared.Place.{Place}
use Rattle.table.specs.Place.{table_of}
use Rattle.measures.specs.Measures.{measures_of}
use Rattle.refusals.specs.Answers.{answer, says}
use Rattle.calls.specs.Calls.{measures, question_fault}
use Rattle.desk.proofs.Number.{on_said, missing}
use Rattle.desk.proofs.Asked.{on_place}
use Rattle.desk_c.proofs.Asked.{counts_place, counts_is}
use Rattle.desk_c.proofs.image.measures_at.Goals as goal

pub returns-in_err-at : goal.returns-in_err-at
returns-in_err-at c = on_said _ _ c.from_residual.ensures.1 (missing _ _ _ c.in_err-at.ensures.number) _

pub measures-requires : goal.measures-requires
measures-requires c = counts_place c.requires c.args.place c.in_ok-at.ensures.start.0 c.counts_at.ensures

pub returns : goal.returns
returns c =
    let at = c.in_ok-at.ensures in
    on_place _ (counts_is c.requires c.args.place at.start.0 c.counts_at.ensures) at.number (λ (p : Place). question_fault p measures)
    (λ (n : ℕ) (p : Place). says c.measures.result ≡ answer n (measures_of (table_of p))) c.measures.ensures
