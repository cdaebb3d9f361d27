-- Serves contracts of functions inside the library only: what is promised does not rest on it.
-- The pooled scales of a book's raters as the code holds them, the fault of their totals, and which raters are marked as beaten. Raters are counted
-- from 0 here.
use Rattle.std.specs.Prelude.{ℕ, zero, suc, ◌≤◌, ◌<◌, ◌≡◌, Bool, true, false, not, cond, ◌||◌, List, [], ◌∷◌, eqb, map, length, get_or, set, take, replicate}
use Rattle.std.specs.List.{list_any}
use Rattle.table.specs.Table.{Table, defaults_in, survivors_in, obligors_in}
use Rattle.table.specs.declared.Totals.{Totals}
use Rattle.pooling.specs.Private.{listed, spanning}
use Rattle.cutoff.specs.Sweep.{scale_in, Sweepable}
use Rattle.shortlist.specs.Shortlist.{better, numbers_of_lem}
use Rattle.shortlist.specs.declared.scales.Scale.{Scale}
use Rattle.shortlist.specs.declared.beaten.Winner.{Winner}
use Rattle.shortlist.specs.declared.beaten.Winner.TheVariants.{First, Second, Neither}

-- The scales.

-- The scale s is that of a rater with this table.
pub record Holds (s : Scale) (t : Table) : Type 0 where
  pub blocks : listed s.blocks ≡ spanning t
  pub defaults : s.totals.defaults ≡ defaults_in t
  pub survivors : s.totals.survivors.0 ≡ survivors_in t
  pub obligors : s.totals.obligors.0 ≡ obligors_in t

-- nobody's
abbrev pub no_totals : Totals
no_totals = record { defaults = 0; survivors = record { 0 = 0 }; obligors = record { 0 = 0 } }

-- The scales are those of raters with these tables, in their order.
abbrev pub HoldsAll : List Scale → List Table → Type 0
HoldsAll [] [] = Unit {0}
HoldsAll [] (t ∷ ts) = ⊥
HoldsAll (s ∷ held) [] = ⊥
HoldsAll (s ∷ held) (t ∷ ts) = Holds s t × HoldsAll held ts

-- Their totals.

abbrev pub no_defaults : Scale → Bool
no_defaults s = eqb s.totals.defaults 0

abbrev pub no_survivors : Scale → Bool
no_survivors s = eqb s.totals.survivors.0 0

-- D or S differ
abbrev pub other_totals : Scale → Scale → Bool
other_totals s first = not (eqb s.totals.defaults first.totals.defaults) || not (eqb s.totals.survivors.0 first.totals.survivors.0)

-- some totals differ from the first
abbrev pub unequal_totals : List Scale → Bool
unequal_totals [] = false
unequal_totals (first ∷ held) = list_any (λ s. other_totals s first) (first ∷ held)

-- the number of the first test that fails, 0 for none
abbrev pub fault_by : Bool → Bool → Bool → ℕ
fault_by defaults survivors unequal = cond defaults 23 (cond survivors 24 (cond unequal 25 0))

abbrev pub held_totals_fault : List Scale → ℕ
held_totals_fault held = fault_by (list_any no_defaults held) (list_any no_survivors held) (unequal_totals held)

-- Who is beaten.

-- the pooled scale that is held, as a table
abbrev pub table_held : Scale → Table
table_held s = scale_in (listed s.blocks)

-- Two scales that can be compared.
pub record Comparable (first second : Scale) : Type 0 where
  pub sweepable : Sweepable (listed first.blocks) × Sweepable (listed second.blocks)
  pub same_defaults : defaults_in (table_held first) ≡ defaults_in (table_held second)
  pub same_survivors : survivors_in (table_held first) ≡ survivors_in (table_held second)

-- What is known of the scales of all raters once their totals are checked: any two can be compared.
pub record Searchable (held : List Scale) : Type 0 where
  pub few : length held ≤ 16
  pub comparable : (i j : ℕ) (s t : Scale) → i < length held → j < length held → Comparable (get_or held i s) (get_or held j t)

-- Rater i is better than rater j.
abbrev pub beats : List Scale → ℕ → ℕ → Bool
beats held i j = better (get_or (map table_held held) i []) (get_or (map table_held held) j [])

-- which of two is better, by whether the first is never dearer than the second, and the second than the first
abbrev pub winner_of : Bool → Bool → Winner
winner_of true true = Neither
winner_of true false = First
winner_of false true = Second
winner_of false false = Neither

-- Whether each rater is known to be beaten. This is it once rater j is compared with those of the k raters from i on that are not yet beaten, until
-- it is beaten itself.
unfoldable pub compared : (ℕ → ℕ → Bool) → ℕ → ℕ → ℕ → List Bool → List Bool
compared beats j zero i beaten = beaten
compared beats j (suc k) i beaten =
    cond (get_or beaten i false)
    (compared beats j k (suc i) beaten)
    (cond (beats i j) (set beaten j true) (cond (beats j i) (compared beats j k (suc i) (set beaten i true)) (compared beats j k (suc i) beaten)))

-- once each of n raters is compared with those before it
unfoldable pub all_compared : (ℕ → ℕ → Bool) → ℕ → List Bool
all_compared beats zero = replicate 16 false
all_compared beats (suc n) = compared beats n n 0 (all_compared beats n)

-- the numbers of those that are not beaten
abbrev pub unmarked : List Bool → List ℕ
unmarked beaten = numbers_of_lem not 1 beaten

-- those of the raters with these scales
abbrev pub unbeaten_in : List Scale → List ℕ
unbeaten_in held = unmarked (take (length held) (all_compared (beats held) (length held)))
