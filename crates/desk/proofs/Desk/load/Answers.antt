-- `load` meets its contract.
use Rattle.calls.specs.Calls.{load}
use Rattle.desk.specs.Desk.{place_at}
use Rattle.desk.proofs.Number.{on_number, on_left, missing}
use Rattle.desk.proofs.Changed.{fillable_marked, load_marked, change_number, change_desk}
use Rattle.desk.proofs.Soundness.{load_sound}
use Rattle.desk.proofs.Desk.load.Goals as goal

pub returns-in_err-check_place : goal.returns-in_err-check_place
returns-in_err-check_place c =
    let n = missing _ _ _ c.in_err-check_place.ensures in record { desk_after = on_left _ _ _ n; value = on_number _ _ c.from_residual.ensures.1 n }

pub load-requires : goal.load-requires
load-requires c = fillable_marked (place_at c.args.self.now c.args.place).loaded c.mark-words.ensures

pub returns-in_err-load : goal.returns-in_err-load
returns-in_err-load c =
    let d = c.args.self.now in
    let same = load_marked (place_at d c.args.place) c.args.book.now c.args.rater c.mark-words.ensures in
    let n = change_number d c.args.place (load c.args.book.now c.args.rater) c.in_ok-check_place.ensures _ same c.in_err-load.ensures.value in record {
      desk_after = on_left _ _ _ n;
      value = on_number _ _ c.from_residual-in_err-load.ensures.1 n;
    }

pub returns : goal.returns
returns c =
    let d = c.args.self.now in
    let p = place_at d c.args.place in
    let e = load c.args.book.now c.args.rater in
    let same = load_marked p c.args.book.now c.args.rater c.mark-words.ensures in
    let ok = c.in_ok-load.ensures in record {
      desk_after = change_desk d c.args.place e c.in_ok-check_place.ensures _ same (load_sound p c.args.book.now c.args.rater) ok.value ok.place_after c.store.ensures;
      value = change_number d c.args.place e c.in_ok-check_place.ensures _ same ok.value;
    }
