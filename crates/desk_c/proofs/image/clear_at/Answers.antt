-- `clear_at` meets its contract.
use mathlib.Core.Path.{ap, ◌∙◌}
use Rattle.calls.specs.Calls.{clear}
use Rattle.desk.proofs.Number.{on_number, on_left, missing}
use Rattle.desk_c.specs.Image.{image_of}
use Rattle.desk_c.proofs.Changed.{image_number, image_changed}
use Rattle.desk_c.proofs.image.clear_at.Goals as goal

pub returns-in_err-at : goal.returns-in_err-at
returns-in_err-at c =
    let n = missing _ _ _ c.in_err-at.ensures.number in record {
      value = on_number _ _ c.from_residual.ensures.1 n;
      desk_after = c.requires.exact ∙ ap image_of (on_left _ _ _ n);
    }

pub returns : goal.returns
returns c =
    let at = c.in_ok-at.ensures in record {
      value = image_number c.requires c.args.place _ at.start.0 at.number clear c.clear.ensures.value;
      desk_after = image_changed c.requires c.args.place _ at.start.0 at.number clear c.clear.ensures.value c.clear.ensures.place_after;
    }
