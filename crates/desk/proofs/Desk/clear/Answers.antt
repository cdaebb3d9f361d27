-- `clear` meets its contract.
use Rattle.pooled_place.specs.PooledPlace.{empty}
use Rattle.calls.specs.Calls.{clear}
use Rattle.desk.specs.Desk.{place_at}
use Rattle.desk.proofs.Number.{on_number, on_left, missing}
use Rattle.desk.proofs.Changed.{clear_marked, change_number, change_desk}
use Rattle.desk.proofs.Desk.clear.Goals as goal

pub returns-in_err-check_place : goal.returns-in_err-check_place
returns-in_err-check_place c =
    let n = missing _ _ _ c.in_err-check_place.ensures in record { desk_after = on_left _ _ _ n; value = on_number _ _ c.from_residual.ensures.1 n }

pub returns-in_err-clear : goal.returns-in_err-clear
returns-in_err-clear c =
    let d = c.args.self.now in
    let same = clear_marked (place_at d c.args.place) c.mark-words.ensures in
    let n = change_number d c.args.place clear c.in_ok-check_place.ensures _ same c.in_err-clear.ensures.value in record {
      desk_after = on_left _ _ _ n;
      value = on_number _ _ c.from_residual-in_err-clear.ensures.1 n;
    }

pub returns : goal.returns
returns c =
    let d = c.args.self.now in
    let same = clear_marked (place_at d c.args.place) c.mark-words.ensures in
    let ok = c.in_ok-clear.ensures in record {
      desk_after = change_desk d c.args.place clear c.in_ok-check_place.ensures _ same (λ _. empty) ok.value ok.place_after c.store.ensures;
      value = change_number d c.args.place clear c.in_ok-check_place.ensures _ same ok.value;
    }
