-- `listed_blocks` meets its contract: the list is what pooling writes for the table, and is read back.
use Prim.Native.Nat.{ℕ}
use mathlib.Core.Path.{◌≡◌, ap, ◌∙◌}
use mathlib.Core.List.{List}
use native.Mathlib.Omega.{arith}
use lib.ListN.{length}
use Rattle.table.specs.Words.{table_in}
use Rattle.pooling.proofs.Reading.{pooled_back}
use Rattle.pooled_place.specs.PooledPlace.{no_list}
use Rattle.pooled_place.proofs.Words.{length_list, grades-in, held-length, held_list}
use Rattle.pooled_place.proofs.listed_blocks.Goals as goal

pub list_of-requires : goal.list_of-requires
list_of-requires c = held-length c.requires

pub grades_of-requires : goal.grades_of-requires
grades_of-requires c = omega (arith, held-length c.requires)

pub blocks_in-requires : goal.blocks_in-requires
blocks_in-requires c =
    let words : List ℕ = c.args.words.now in
    let h = c.requires in
    let n : c.grades_of.result ≡ length (table_in words) = grades-in words c.grades_of.ensures in
    let l = ap length c.list_of.ensures ∙ length_list words (held-length h) in
    (omega (arith, n, h.sound.some), omega (arith, n, h.sound.few), omega (arith, n, h.sound.few, l))

pub returns : goal.returns
returns c =
    let words : List ℕ = c.args.words.now in
    let h = c.requires in
    let n : c.grades_of.result ≡ length (table_in words) = grades-in words c.grades_of.ensures in
    let list = c.list_of.ensures ∙ held_list h in
    c.blocks_in.ensures ∙ rw (n, list) (pooled_back (table_in words) h.sound no_list)
