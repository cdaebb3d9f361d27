-- `pool` meets its contract.
use Prim.Native.Nat.{ℕ}
use mathlib.Core.Path.{◌≡◌, ap, ◌∙◌}
use lib.ListN.{length}
use Rattle.table.specs.declared.Place.{Place}
use Rattle.table.specs.Place.{table_of}
use Rattle.table.specs.Words.{table_in}
use Rattle.refusals.specs.Numbers.{number_in}
use Rattle.refusals.specs.Answers.{leaves}
use Rattle.calls.specs.Calls.{pool, fill_fault, filled_with}
use Rattle.desk.proofs.Number.{on_number, on_left, missing}
use Rattle.desk.proofs.Asked.{on_place}
use Rattle.desk.proofs.Desk.pool.Goals as goal

pub returns-in_err-check_place-clause-out_after : goal.returns-in_err-check_place-clause-out_after
returns-in_err-check_place-clause-out_after c = on_left _ _ _ (missing _ _ _ c.in_err-check_place.ensures)

pub returns-in_err-check_place-clause-value : goal.returns-in_err-check_place-clause-value
returns-in_err-check_place-clause-value c = on_number _ _ c.from_residual.ensures.1 (missing _ _ _ c.in_err-check_place.ensures)

pub returns-clause-out_after : goal.returns-clause-out_after
returns-clause-out_after c =
    let out = c.args.out.now in
    on_place _ c.pooled_words.ensures.value c.in_ok-check_place.ensures (λ (p : Place). fill_fault p pool (length out))
    (λ (n : ℕ) (p : Place). c.pool.new.out ≡ leaves n out (filled_with (table_of p) pool out))
    (c.pool.ensures.out_after ∙ ap (λ (n : ℕ). leaves n out (filled_with (table_in c.pooled_words.result) pool out)) c.pool.ensures.value)

pub returns-clause-value : goal.returns-clause-value
returns-clause-value c =
    on_place _ c.pooled_words.ensures.value c.in_ok-check_place.ensures (λ (p : Place). fill_fault p pool (length c.args.out.now))
    (λ (n : ℕ) (p : Place). number_in c.pool.result ≡ n) c.pool.ensures.value
