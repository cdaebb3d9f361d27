-- `pool_anew` meets its contract: the blocks of the table are written over the list.
use Prim.Native.Nat.{ℕ}
use mathlib.Core.Path.{◌≡◌, sym, ap, subst, ◌∙◌}
use mathlib.Core.List.{List}
use native.Mathlib.Omega.{arith}
use lib.ListN.{length}
use Rattle.table.specs.Table.{Table}
use Rattle.table.specs.Words.{table_in, HoldsTable}
use Rattle.pooling.specs.Numbers.{pooled_into}
use Rattle.pooling.specs.Private.{spanning}
use Rattle.pooling.proofs.Spanning.{spanning_rising, spanning_count}
use Rattle.pooling.proofs.Written.{spanning_written}
use Rattle.pooled_place.proofs.Words.{length_list, grades-in, counts_hold, counts_same}
use Rattle.pooled_place.proofs.Lists.{list_part, list_put}
use Rattle.pooled_place.proofs.pool_anew.Goals as goal

pub blocks_of-requires : goal.blocks_of-requires
blocks_of-requires c = subst HoldsTable (sym c.counts_of.ensures) (counts_hold c.args.words.now c.requires.0 c.requires.1)

-- What is lent to be written: the blocks of the table, and the number of its grades.
pub write_blocks-requires : goal.write_blocks-requires
write_blocks-requires c =
    let words : List ℕ = c.args.words.now in
    let table : Table = table_in words in
    let sound = c.requires.1 in
    let blocks : c.as_slice.result.now ≡ spanning table = c.as_slice.ensures ∙ c.blocks_of.ensures ∙ ap (λ (t : Table). spanning t) (counts_same words c.counts_of.ensures) in
    let n : c.grades_of-grades.result ≡ length table = grades-in words c.grades_of-grades.ensures in
    let l = ap length (list_part words) ∙ length_list words c.requires.0 in
    record {
      rising = rw blocks (spanning_rising table);
      room = rw blocks (spanning_count table sound.counted sound.some_occupied ∙ sym n, omega (arith, n, sound.few), omega (arith, n, sound.few, l));
    }

pub returns : goal.returns
returns c =
    let words : List ℕ = c.args.words.now in
    let table : Table = table_in words in
    let blocks : c.as_slice.result.now ≡ spanning table = c.as_slice.ensures ∙ c.blocks_of.ensures ∙ ap (λ (t : Table). spanning t) (counts_same words c.counts_of.ensures) in
    let n : c.grades_of-grades.result ≡ length table = grades-in words c.grades_of-grades.ensures in
    list_put words c.requires.0
    (c.write_blocks.ensures ∙ rw (blocks, n) (spanning_written table c.requires.1.some_occupied _) ∙ ap (λ (l : List ℕ). pooled_into table l) (list_part words))
