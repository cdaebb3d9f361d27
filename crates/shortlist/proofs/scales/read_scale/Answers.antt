-- `read_scale` meets its contract.
use mathlib.Core.Path.{sym, ap, ◌∙◌}
use Rattle.table.specs.Table.{Table, defaults_in, survivors_in, obligors_in}
use Rattle.table.specs.declared.Totals.{Totals}
use Rattle.table.specs.Counts.{totals_of_lem}
use Rattle.pooling.specs.Private.{spanning}
use Rattle.shortlist.proofs.Read.{stored}
use Rattle.shortlist.proofs.scales.read_scale.Goals as goal

pub blocks_of-requires : goal.blocks_of-requires
blocks_of-requires c =
    let p = c.requires in
    let e = c.in_ok-read_table.ensures in
    (stored c.args.book.now c.args.start p.1 p.2 (sym e.value) e.place_after).holds

pub totals_of-scale-requires : goal.totals_of-scale-requires
totals_of-scale-requires c =
    let p = c.requires in
    let e = c.in_ok-read_table.ensures in
    (stored c.args.book.now c.args.start p.1 p.2 (sym e.value) e.place_after).holds

pub returns-clause-scale : goal.returns-clause-scale
unfolding totals_of_lem
returns-clause-scale c =
    let p = c.requires in
    let e = c.in_ok-read_table.ensures in
    let t = (stored c.args.book.now c.args.start p.1 p.2 (sym e.value) e.place_after).table in
    let s = c.totals_of-scale.ensures in
    record {
      blocks = c.blocks_of.ensures ∙ ap (λ (u : Table). spanning u) t;
      defaults = ap (λ (x : Totals). x.defaults) s ∙ ap (λ (u : Table). defaults_in u) t;
      survivors = ap (λ (x : Totals). x.survivors.0) s ∙ ap (λ (u : Table). survivors_in u) t;
      obligors = ap (λ (x : Totals). x.obligors.0) s ∙ ap (λ (u : Table). obligors_in u) t;
    }
