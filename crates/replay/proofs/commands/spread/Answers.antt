-- `spread` is safe: neither float of a spread is a NaN.
use Rattle.std.proofs.Common.{ℕ}
use Rattle.std.specs.Prelude.{Result, Ok, Err, IfOk}
use Rattle.table.specs.Table.{Table}
use Rattle.spread.specs.Spread.{IsSpread}
use Rattle.spread.specs.declared.Spread.{Spread}
use Rattle.spread.proofs.Plain.{is_number}
use Rattle.refusals.specs.declared.Refusal.{Refusal}
use Rattle.refusals.specs.Answers.{Limited, says}
use Rattle.answers.specs.Answers.{Numbers}
use Rattle.replay.proofs.commands.spread.Goals as goal

printable : (n : ℕ) (t : Table) (r : Result Spread Refusal) → Limited n (IsSpread t) (says r) → IfOk r Numbers
printable n t (Ok s) h =
    let is = h.1 in
    record { total = is_number s.total is.total.sign; residual = is_number s.residual is.residual.sign }
printable n t (Err m) h = tt

pub spread-requires-2 : goal.spread-requires-2
spread-requires-2 g c = printable _ _ c.spread.result c.spread.ensures.spreads
