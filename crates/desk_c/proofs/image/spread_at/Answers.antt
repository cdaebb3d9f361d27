-- `spread_at` meets its contract.
use Prim.Native.Nat.{ℕ}
use Rattle.table.specs.declared.Place.{Place}
use Rattle.table.specs.Place.{table_of}
use Rattle.spread.specs.Spread.{IsSpread}
use Rattle.refusals.specs.Answers.{Limited, says}
use Rattle.calls.specs.Calls.{spread, question_fault}
use Rattle.desk.proofs.Number.{on_limited, missing}
use Rattle.desk.proofs.Asked.{on_place}
use Rattle.desk_c.proofs.Asked.{words_pooled_place, words_is}
use Rattle.desk_c.proofs.image.spread_at.Goals as goal

pub returns-in_err-at : goal.returns-in_err-at
returns-in_err-at c = on_limited _ _ c.from_residual.ensures.1 (missing _ _ _ c.in_err-at.ensures.number) _

pub spread-requires : goal.spread-requires
spread-requires c = words_pooled_place c.requires c.args.place c.in_ok-at.ensures.start.0 c.words_at.ensures

pub returns : goal.returns
returns c =
    let at = c.in_ok-at.ensures in
    on_place _ (words_is c.requires c.args.place at.start.0 c.words_at.ensures) at.number (λ (p : Place). question_fault p spread)
    (λ (n : ℕ) (p : Place). Limited n (IsSpread (table_of p)) (says c.spread.result)) c.spread.ensures
