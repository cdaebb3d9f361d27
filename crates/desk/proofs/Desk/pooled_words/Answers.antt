-- `pooled_words` meets its contract.
use mathlib.Core.Path.{ap, ◌∙◌}
use Rattle.pooled_place.specs.declared.PooledPlace.{PooledPlace}
use Rattle.pooled_place.specs.Words.{pooled_place_words}
use Rattle.desk.proofs.Asked.{words_pooled, pooled_is}
use Rattle.desk.proofs.Soundness.{pooled_place_sound}
use Rattle.desk.proofs.Desk.pooled_words.Goals as goal

pub words-requires : goal.words-requires
words-requires c = rw c.at.ensures (pooled_place_sound c.args.self.now c.args.place c.requires)

pub returns-clause-holds : goal.returns-clause-holds
returns-clause-holds c =
    words_pooled c.args.self.now c.args.place c.requires (c.words.ensures ∙ ap (λ (p : PooledPlace). pooled_place_words p) c.at.ensures)

pub returns-clause-value : goal.returns-clause-value
returns-clause-value c =
    pooled_is c.args.self.now c.args.place c.requires (c.words.ensures ∙ ap (λ (p : PooledPlace). pooled_place_words p) c.at.ensures)
