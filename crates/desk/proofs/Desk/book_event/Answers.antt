-- `book_event` meets its contract.
use mathlib.Core.Path.{ap, ◌∙◌}
use Rattle.table.specs.declared.Place.{Place}
use Rattle.table.specs.Place.{table_of}
use Rattle.pooled_place.specs.Words.{pooled_place_words}
use Rattle.calls.specs.Calls.{event, changed_to, change_fault}
use Rattle.desk.specs.Desk.{place_at}
use Rattle.desk.proofs.Number.{on_number, on_left, missing}
use Rattle.desk.proofs.Changed.{change_number, change_desk}
use Rattle.desk.proofs.Soundness.{changed_sound, table_sound}
use Rattle.desk.proofs.Desk.book_event.Goals as goal

pub returns-in_err-check_place : goal.returns-in_err-check_place
returns-in_err-check_place c =
    let n = missing _ _ _ c.in_err-check_place.ensures in record { desk_after = on_left _ _ _ n; value = on_number _ _ c.from_residual.ensures.1 n }

pub returns-in_err-book_event : goal.returns-in_err-book_event
returns-in_err-book_event c =
    let d = c.args.self.now in
    let e = event c.args.kind c.args.grade in
    let same = ap (λ (p : Place). change_fault p e) c.pooled_words-words.ensures.value in
    let n = change_number d c.args.place e c.in_ok-check_place.ensures _ same c.in_err-book_event.ensures.value in record {
      desk_after = on_left _ _ _ n;
      value = on_number _ _ c.from_residual-in_err-book_event.ensures.1 n;
    }

pub returns : goal.returns
returns c =
    let d = c.args.self.now in
    let e = event c.args.kind c.args.grade in
    let is = c.pooled_words-words.ensures.value in
    let same = ap (λ (p : Place). change_fault p e) is in
    let sound = changed_sound (place_at d c.args.place) e (table_sound d c.requires c.args.place) in
    let ok = c.in_ok-book_event.ensures in
    let left = ok.place_after ∙ ap (λ (p : Place). pooled_place_words (changed_to (table_of p) e)) is in record {
      desk_after = change_desk d c.args.place e c.in_ok-check_place.ensures _ same sound ok.value left c.store.ensures;
      value = change_number d c.args.place e c.in_ok-check_place.ensures _ same ok.value;
    }
