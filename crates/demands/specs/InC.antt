-- What the contracts of the library for C promise: all that their `ensures` say. Rattle reads it off the contract where `_` stands.
use Rattle.desk_c.specs.contracts as contract
use Rattle.demands.specs.Promise.{Promise, last, next}

abbrev pub desk_load : Promise contract.desk_load.ended (λ M 𝓤 𝓛. contract.desk_load.clauses 𝓛)
desk_load = record { says = λ κs a r s. _; promised = λ M 𝓤 𝓛 mem run κs a g r s. next 𝓤 _ _ (last 𝓤 _) }

abbrev pub desk_clear : Promise contract.desk_clear.ended (λ M 𝓤 𝓛. contract.desk_clear.clauses 𝓛)
desk_clear = record { says = λ κs a r s. _; promised = λ M 𝓤 𝓛 mem run κs a g r s. next 𝓤 _ _ (last 𝓤 _) }

abbrev pub desk_survivor_enters : Promise contract.desk_survivor_enters.ended (λ M 𝓤 𝓛. contract.desk_survivor_enters.clauses 𝓛)
desk_survivor_enters = record { says = λ κs a r s. _; promised = λ M 𝓤 𝓛 mem run κs a g r s. next 𝓤 _ _ (last 𝓤 _) }

abbrev pub desk_survivor_leaves : Promise contract.desk_survivor_leaves.ended (λ M 𝓤 𝓛. contract.desk_survivor_leaves.clauses 𝓛)
desk_survivor_leaves = record { says = λ κs a r s. _; promised = λ M 𝓤 𝓛 mem run κs a g r s. next 𝓤 _ _ (last 𝓤 _) }

abbrev pub desk_survivor_defaults : Promise contract.desk_survivor_defaults.ended (λ M 𝓤 𝓛. contract.desk_survivor_defaults.clauses 𝓛)
desk_survivor_defaults = record { says = λ κs a r s. _; promised = λ M 𝓤 𝓛 mem run κs a g r s. next 𝓤 _ _ (last 𝓤 _) }

abbrev pub desk_defaulted_removed : Promise contract.desk_defaulted_removed.ended (λ M 𝓤 𝓛. contract.desk_defaulted_removed.clauses 𝓛)
desk_defaulted_removed = record { says = λ κs a r s. _; promised = λ M 𝓤 𝓛 mem run κs a g r s. next 𝓤 _ _ (last 𝓤 _) }

abbrev pub desk_pool : Promise contract.desk_pool.ended (λ M 𝓤 𝓛. contract.desk_pool.clauses 𝓛)
desk_pool = record { says = λ κs a r s. _; promised = λ M 𝓤 𝓛 mem run κs a g r s. next 𝓤 _ _ (next 𝓤 _ _ (last 𝓤 _)) }

abbrev pub desk_cheapest : Promise contract.desk_cheapest.ended (λ M 𝓤 𝓛. contract.desk_cheapest.clauses 𝓛)
desk_cheapest = record { says = λ κs a r s. _; promised = λ M 𝓤 𝓛 mem run κs a g r s. next 𝓤 _ _ (next 𝓤 _ _ (last 𝓤 _)) }

abbrev pub desk_compare : Promise contract.desk_compare.ended (λ M 𝓤 𝓛. contract.desk_compare.clauses 𝓛)
desk_compare = record { says = λ κs a r s. _; promised = λ M 𝓤 𝓛 mem run κs a g r s. next 𝓤 _ _ (next 𝓤 _ _ (last 𝓤 _)) }

abbrev pub desk_compare_shares : Promise contract.desk_compare_shares.ended (λ M 𝓤 𝓛. contract.desk_compare_shares.clauses 𝓛)
desk_compare_shares = record { says = λ κs a r s. _; promised = λ M 𝓤 𝓛 mem run κs a g r s. next 𝓤 _ _ (next 𝓤 _ _ (last 𝓤 _)) }

abbrev pub desk_measures : Promise contract.desk_measures.ended (λ M 𝓤 𝓛. contract.desk_measures.clauses 𝓛)
desk_measures = record { says = λ κs a r s. _; promised = λ M 𝓤 𝓛 mem run κs a g r s. next 𝓤 _ _ (next 𝓤 _ _ (last 𝓤 _)) }

abbrev pub desk_brier : Promise contract.desk_brier.ended (λ M 𝓤 𝓛. contract.desk_brier.clauses 𝓛)
desk_brier = record { says = λ κs a r s. _; promised = λ M 𝓤 𝓛 mem run κs a g r s. next 𝓤 _ _ (next 𝓤 _ _ (last 𝓤 _)) }

abbrev pub desk_spread : Promise contract.desk_spread.ended (λ M 𝓤 𝓛. contract.desk_spread.clauses 𝓛)
desk_spread = record { says = λ κs a r s. _; promised = λ M 𝓤 𝓛 mem run κs a g r s. next 𝓤 _ _ (next 𝓤 _ _ (last 𝓤 _)) }

abbrev pub desk_write : Promise contract.desk_write.ended (λ M 𝓤 𝓛. contract.desk_write.clauses 𝓛)
desk_write = record { says = λ κs a r s. _; promised = λ M 𝓤 𝓛 mem run κs a g r s. next 𝓤 _ _ (next 𝓤 _ _ (next 𝓤 _ _ (last 𝓤 _))) }

abbrev pub desk_shortlist : Promise contract.desk_shortlist.ended (λ M 𝓤 𝓛. contract.desk_shortlist.clauses 𝓛)
desk_shortlist = record { says = λ κs a r s. _; promised = λ M 𝓤 𝓛 mem run κs a g r s. next 𝓤 _ _ (next 𝓤 _ _ (next 𝓤 _ _ (last 𝓤 _))) }
