-- `pool_at` meets its contract.
use Prim.Native.Nat.{ℕ}
use mathlib.Core.Path.{◌≡◌, ap, ◌∙◌}
use lib.ListN.{length}
use Rattle.table.specs.declared.Place.{Place}
use Rattle.table.specs.Place.{table_of}
use Rattle.table.specs.Words.{table_in}
use Rattle.refusals.specs.Numbers.{number_in}
use Rattle.refusals.specs.Answers.{leaves}
use Rattle.calls.specs.Calls.{pool, fill_fault, filled_with}
use Rattle.desk.proofs.Number.{on_number, on_left, missing}
use Rattle.desk.proofs.Asked.{on_place}
use Rattle.desk_c.proofs.Asked.{words_pooled_place, words_is}
use Rattle.desk_c.proofs.image.pool_at.Goals as goal

pub returns-in_err-at : goal.returns-in_err-at
returns-in_err-at c =
    let n = missing _ _ _ c.in_err-at.ensures.number in record { value = on_number _ _ c.from_residual.ensures.1 n; numbers_after = on_left _ _ _ n }

pub pool-requires : goal.pool-requires
pool-requires c = words_pooled_place c.requires c.args.place c.in_ok-at.ensures.start.0 c.words_at.ensures

pub returns : goal.returns
returns c =
    let at = c.in_ok-at.ensures in
    let out = c.args.numbers.now in
    let is = words_is c.requires c.args.place at.start.0 c.words_at.ensures in
    let fault = λ (p : Place). fill_fault p pool (length out) in record {
      value = on_place _ is at.number fault (λ (n : ℕ) (p : Place). number_in c.pool.result ≡ n) c.pool.ensures.value;
      numbers_after =
          on_place _ is at.number fault (λ (n : ℕ) (p : Place). c.pool.new.out ≡ leaves n out (filled_with (table_of p) pool out))
          (c.pool.ensures.out_after ∙ ap (λ (n : ℕ). leaves n out (filled_with (table_in c.words_at.result.now) pool out)) c.pool.ensures.value);
    }
