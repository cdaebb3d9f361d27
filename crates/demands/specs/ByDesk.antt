-- What the contracts of the desk promise: all that their `ensures` say. Rattle reads it off the contract where `_` stands.
use Rattle.desk.specs.contracts.Desk as method
use Rattle.desk.specs.contracts.shortlist as listing
use Rattle.demands.specs.Promise.{Promise, last, next}

abbrev pub load : Promise method.load.ended (λ M 𝓤 𝓛. method.load.clauses 𝓛)
load = record { says = λ κs a r s. _; promised = λ M 𝓤 𝓛 mem run κs a g r s. next 𝓤 _ _ (last 𝓤 _) }

abbrev pub clear : Promise method.clear.ended (λ M 𝓤 𝓛. method.clear.clauses 𝓛)
clear = record { says = λ κs a r s. _; promised = λ M 𝓤 𝓛 mem run κs a g r s. next 𝓤 _ _ (last 𝓤 _) }

abbrev pub book_event : Promise method.book_event.ended (λ M 𝓤 𝓛. method.book_event.clauses 𝓛)
book_event = record { says = λ κs a r s. _; promised = λ M 𝓤 𝓛 mem run κs a g r s. next 𝓤 _ _ (last 𝓤 _) }

abbrev pub survivor_enters : Promise method.survivor_enters.ended (λ M 𝓤 𝓛. method.survivor_enters.clauses 𝓛)
survivor_enters = record { says = λ κs a r s. _; promised = λ M 𝓤 𝓛 mem run κs a g r s. next 𝓤 _ _ (last 𝓤 _) }

abbrev pub survivor_leaves : Promise method.survivor_leaves.ended (λ M 𝓤 𝓛. method.survivor_leaves.clauses 𝓛)
survivor_leaves = record { says = λ κs a r s. _; promised = λ M 𝓤 𝓛 mem run κs a g r s. next 𝓤 _ _ (last 𝓤 _) }

abbrev pub survivor_defaults : Promise method.survivor_defaults.ended (λ M 𝓤 𝓛. method.survivor_defaults.clauses 𝓛)
survivor_defaults = record { says = λ κs a r s. _; promised = λ M 𝓤 𝓛 mem run κs a g r s. next 𝓤 _ _ (last 𝓤 _) }

abbrev pub defaulted_removed : Promise method.defaulted_removed.ended (λ M 𝓤 𝓛. method.defaulted_removed.clauses 𝓛)
defaulted_removed = record { says = λ κs a r s. _; promised = λ M 𝓤 𝓛 mem run κs a g r s. next 𝓤 _ _ (last 𝓤 _) }

abbrev pub pool : Promise method.pool.ended (λ M 𝓤 𝓛. method.pool.clauses 𝓛)
pool = record { says = λ κs a r s. _; promised = λ M 𝓤 𝓛 mem run κs a g r s. next 𝓤 _ _ (next 𝓤 _ _ (last 𝓤 _)) }

abbrev pub cheapest : Promise method.cheapest.ended (λ M 𝓤 𝓛. method.cheapest.clauses 𝓛)
cheapest = record { says = λ κs a r s. _; promised = λ M 𝓤 𝓛 mem run κs a g r s. next 𝓤 _ _ (last 𝓤 _) }

abbrev pub compare : Promise method.compare.ended (λ M 𝓤 𝓛. method.compare.clauses 𝓛)
compare = record { says = λ κs a r s. _; promised = λ M 𝓤 𝓛 mem run κs a g r s. next 𝓤 _ _ (last 𝓤 _) }

abbrev pub compare_shares : Promise method.compare_shares.ended (λ M 𝓤 𝓛. method.compare_shares.clauses 𝓛)
compare_shares = record { says = λ κs a r s. _; promised = λ M 𝓤 𝓛 mem run κs a g r s. next 𝓤 _ _ (last 𝓤 _) }

abbrev pub measures : Promise method.measures.ended (λ M 𝓤 𝓛. method.measures.clauses 𝓛)
measures = record { says = λ κs a r s. _; promised = λ M 𝓤 𝓛 mem run κs a g r s. next 𝓤 _ _ (last 𝓤 _) }

abbrev pub brier : Promise method.brier.ended (λ M 𝓤 𝓛. method.brier.clauses 𝓛)
brier = record { says = λ κs a r s. _; promised = λ M 𝓤 𝓛 mem run κs a g r s. next 𝓤 _ _ (last 𝓤 _) }

abbrev pub spread : Promise method.spread.ended (λ M 𝓤 𝓛. method.spread.clauses 𝓛)
spread = record { says = λ κs a r s. _; promised = λ M 𝓤 𝓛 mem run κs a g r s. next 𝓤 _ _ (last 𝓤 _) }

abbrev pub write : Promise method.write.ended (λ M 𝓤 𝓛. method.write.clauses 𝓛)
write = record { says = λ κs a r s. _; promised = λ M 𝓤 𝓛 mem run κs a g r s. next 𝓤 _ _ (next 𝓤 _ _ (last 𝓤 _)) }

abbrev pub shortlist : Promise listing.ended (λ M 𝓤 𝓛. listing.clauses 𝓛)
shortlist = record { says = λ κs a r s. _; promised = λ M 𝓤 𝓛 mem run κs a g r s. next 𝓤 _ _ (next 𝓤 _ _ (last 𝓤 _)) }
