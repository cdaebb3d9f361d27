-- `words` meets its contract.
use mathlib.Core.Path.{ap, ◌∙◌}
use Rattle.pooled_place.specs.declared.PooledPlace.{PooledPlace}
use Rattle.table.specs.Words.{words_of}
use Rattle.desk.proofs.Asked.{place_sound, words_place, place_is}
use Rattle.desk.proofs.Desk.words.Goals as goal

pub words-requires : goal.words-requires
words-requires c = rw c.at.ensures (place_sound c.args.self.now c.args.place c.requires)

pub returns-clause-holds : goal.returns-clause-holds
returns-clause-holds c =
    words_place c.args.self.now c.args.place c.requires (c.words.ensures ∙ ap (λ (p : PooledPlace). words_of p.place) c.at.ensures)

pub returns-clause-value : goal.returns-clause-value
returns-clause-value c = place_is c.args.self.now c.args.place c.requires (c.words.ensures ∙ ap (λ (p : PooledPlace). words_of p.place) c.at.ensures)
