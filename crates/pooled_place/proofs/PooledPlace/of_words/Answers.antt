-- `PooledPlace::of_words` meets its contract.
use Prim.Native.Nat.{ℕ}
use mathlib.Core.Path.{refl, ap, ◌∙◌}
use mathlib.Core.List.{List}
use native.Mathlib.Omega.{arith}
use lib.ListN.{length, replicate}
use lib.Seq.{paste}
use Rattle.table.specs.Words.{place_in}
use Rattle.pooled_place.specs.Words.{list_in}
use Rattle.pooled_place.proofs.Words.{length_counts, length_list, place_counts}
use Rattle.pooled_place.proofs.Lists.{list_copied}
use Rattle.pooled_place.proofs.PooledPlace.of_words.Goals as goal

pub of_words-place-requires : goal.of_words-place-requires
of_words-place-requires c = ap length c.counts_of.ensures ∙ length_counts c.args.words.now c.requires

pub put_numbers-requires : goal.put_numbers-requires
put_numbers-requires c = omega (arith, ap length c.list_of.ensures, length_list c.args.words.now c.requires)

pub returns : goal.returns
returns c =
    let w = c.args.words.now in
    let long = c.requires in
    let place = c.of_words-place.ensures ∙ ap (λ (x : List ℕ). place_in x) c.counts_of.ensures ∙ place_counts w in
    let list = c.put_numbers.ensures ∙ ap (λ (x : List ℕ). paste (replicate 120 0) 0 x (length x)) c.list_of.ensures ∙ list_copied (list_in w) (length_list w long) in
    rw (place, list) refl
