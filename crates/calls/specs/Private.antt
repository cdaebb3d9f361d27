-- Serves contracts of functions inside the library only: what is promised does not rest on it.
-- What load requires of a lent place, and the checks that both comparisons begin with.
use Rattle.std.specs.Prelude.{ℕ, ◌≡◌, false, List, [], ◌∷◌, length}
use Rattle.table.specs.declared.Place.{Place}
use Rattle.table.specs.declared.Totals.{Totals}
use Rattle.table.specs.Table.{Table, defaults_in, survivors_in}
use Rattle.table.specs.Counts.{totals_of_lem}
use Rattle.table.specs.Place.{table_of}
use Rattle.table.specs.Words.{place_in}
use Rattle.pooled_place.specs.PooledPlace.{fresh_pooled_place}
use Rattle.pooled_place.specs.Words.{pooled_place_size, pooled_place_words}
use Rattle.book.specs.Checks.{Check, at_most, fault, first_fault}
use Rattle.calls.specs.Calls.{empty_fault}

-- 23 for either, 24 for either: the checks of the tables that both comparisons begin with
abbrev pub mixed_checks : Table → Table → List Check
mixed_checks t₁ t₂ =
    at_most 1 (defaults_in t₁) 23
    ∷ at_most 1 (defaults_in t₂) 23
    ∷ at_most 1 (survivors_in t₁) 24
    ∷ at_most 1 (survivors_in t₂) 24
    ∷ []

-- 22, place 1 before place 2, and these
abbrev pub mixed_fault : Place → Place → ℕ
mixed_fault p q = first_fault (empty_fault p) (first_fault (empty_fault q) (fault (mixed_checks (table_of p) (table_of q))))

-- the totals of both tables
abbrev pub pair_totals : Place → Place → Totals × Totals
pair_totals p q = (totals_of_lem (table_of p), totals_of_lem (table_of q))

-- What load requires of a lent place: all words are there, and where it is not loaded they are those of an empty one.
pub record Fillable (w : List ℕ) : Type 0 where
  pub long : length w ≡ pooled_place_size
  pub unused : (place_in w).loaded ≡ false → w ≡ pooled_place_words fresh_pooled_place
