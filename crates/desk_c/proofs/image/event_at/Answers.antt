-- `event_at` meets its contract.
use mathlib.Core.Path.{ap, ◌∙◌}
use Rattle.calls.specs.Calls.{event}
use Rattle.desk.proofs.Number.{on_number, on_left, missing}
use Rattle.desk_c.specs.Image.{image_of}
use Rattle.desk_c.proofs.Changed.{part_pooled, image_number, image_changed}
use Rattle.desk_c.proofs.image.event_at.Goals as goal

pub returns-in_err-at : goal.returns-in_err-at
returns-in_err-at c =
    let n = missing _ _ _ c.in_err-at.ensures.number in record {
      value = on_number _ _ c.from_residual.ensures.1 n;
      desk_after = c.requires.exact ∙ ap image_of (on_left _ _ _ n);
    }

pub book_event-requires : goal.book_event-requires
book_event-requires c = part_pooled c.requires c.args.place _ c.in_ok-at.ensures.start.0

pub returns : goal.returns
returns c =
    let at = c.in_ok-at.ensures in
    let e = event c.args.kind c.args.grade in record {
      value = image_number c.requires c.args.place _ at.start.0 at.number e c.book_event.ensures.value;
      desk_after = image_changed c.requires c.args.place _ at.start.0 at.number e c.book_event.ensures.value c.book_event.ensures.place_after;
    }
