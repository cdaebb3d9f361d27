-- What is claimed of shortlists beyond the contracts. The contract of `claims` in src/lib.rt is all of it, so that the crate is refused where a
-- claim is not proved.
use Rattle.std.specs.Prelude.{ℕ, ◌≤◌, ◌<◌, ◌≡◌, ◌↔◌, ◌⊎◌, List, [], ◌∷◌, T, length}
use Rattle.table.specs.Table.{Table, Every, Counted, Mixed, defaults_in, survivors_in}
use Rattle.book.specs.Layout.{raters}
use Rattle.book.specs.Rows.{table_of_rater}
use Rattle.book.specs.Reading.{read_fault, all_tables}
use Rattle.cutoff.specs.Cutoff.{AtLeastAsGood}
use Rattle.shortlist.specs.Shortlist.{Better, better, listed}
use Rattle.shortlist.specs.Checks.{shortlist_fault}

-- Of two tables with equally many survivors, the computed test is true exactly if the first is better, which is said over all prices.
abbrev pub BetterIsComputed : Type 0
BetterIsComputed =
    (t₁ t₂ : Table) → Every Counted t₁ → Every Counted t₂ → survivors_in t₁ ≡ survivors_in t₂ → T (better t₁ t₂) ↔ Better t₁ t₂

-- The other claims are of books, most of them of one that is not refused with a buffer of n numbers.

-- Its raters could all be loaded, and any two be compared: D and S are theirs all.
pub record Comparable (b : List ℕ) : Type 0 where
  pub some : 1 ≤ raters b
  pub few : raters b ≤ 16
  pub loads : (j : ℕ) → 1 ≤ j → j ≤ raters b → read_fault b j ≡ 0
  pub mixed : (j : ℕ) → 1 ≤ j → j ≤ raters b → Mixed (table_of_rater b j)
  pub same : (i j : ℕ) → 1 ≤ i → i ≤ raters b → 1 ≤ j → j ≤ raters b
      → (defaults_in (table_of_rater b i) ≡ defaults_in (table_of_rater b j)) × (survivors_in (table_of_rater b i) ≡ survivors_in (table_of_rater b j))

abbrev pub AcceptedRatersAreComparable : Type 0
AcceptedRatersAreComparable = (b : List ℕ) (n : ℕ) → shortlist_fault b n ≡ 0 → Comparable b × (raters b ≤ n)

-- The other way: the shortlist of every such book is taken.
abbrev pub ComparableRatersAreAccepted : Type 0
ComparableRatersAreAccepted = (b : List ℕ) (n : ℕ) → Comparable b → raters b ≤ n → shortlist_fault b n ≡ 0

-- i is the number of a rater of the book b.
abbrev pub Rater : List ℕ → ℕ → Type 0
Rater b i = (1 ≤ i) × (i ≤ raters b)

-- n stands in a list.
abbrev pub Has : ℕ → List ℕ → Type 0
Has n [] = ⊥
Has n (m ∷ l) = (n ≡ m) ⊎ Has n l

-- Rater i of the book b is on the shortlist.
abbrev pub Listed : List ℕ → ℕ → Type 0
Listed b i = Has i (listed (all_tables b))

-- "List the raters for which no other rater of the book is better": these, and no others,
abbrev pub ListedAreUnbeaten : Type 0
ListedAreUnbeaten =
    (b : List ℕ) (n : ℕ) → shortlist_fault b n ≡ 0
    → (i : ℕ) → Listed b i ↔ (Rater b i × ((j : ℕ) → Rater b j → Better (table_of_rater b j) (table_of_rater b i) → ⊥))

-- "in book order": the numbers rise.
abbrev pub InBookOrder : List ℕ → Type 0
InBookOrder [] = Unit {0}
InBookOrder (i ∷ []) = Unit {0}
InBookOrder (i ∷ j ∷ l) = (i < j) × InBookOrder (j ∷ l)

abbrev pub ListedInBookOrder : Type 0
ListedInBookOrder = (b : List ℕ) → InBookOrder (listed (all_tables b))

-- "Of raters that are equal, all are listed or none."
abbrev pub EqualsStandTogether : Type 0
EqualsStandTogether =
    (b : List ℕ) (n : ℕ) → shortlist_fault b n ≡ 0
    → (i j : ℕ) → Rater b i → Rater b j
    → AtLeastAsGood (table_of_rater b i) (table_of_rater b j) → AtLeastAsGood (table_of_rater b j) (table_of_rater b i)
    → Listed b i ↔ Listed b j

-- "Every unlisted rater is beaten by a listed one."
abbrev pub UnlistedAreBeaten : Type 0
UnlistedAreBeaten =
    (b : List ℕ) (n : ℕ) → shortlist_fault b n ≡ 0
    → (i : ℕ) → Rater b i → (Listed b i → ⊥) → (j : ℕ) × Listed b j × Better (table_of_rater b j) (table_of_rater b i)

-- Some rater is listed, and no more than there are.
abbrev pub ListIsNeverEmpty : Type 0
ListIsNeverEmpty =
    (b : List ℕ) (n : ℕ) → shortlist_fault b n ≡ 0 → (1 ≤ length (listed (all_tables b))) × (length (listed (all_tables b)) ≤ raters b)

-- All of them: what the function `claims` of this crate promises.
pub record Claims : Type 0 where
  pub better_is_computed : BetterIsComputed
  pub accepted_raters_are_comparable : AcceptedRatersAreComparable
  pub comparable_raters_are_accepted : ComparableRatersAreAccepted
  pub listed_are_unbeaten : ListedAreUnbeaten
  pub listed_in_book_order : ListedInBookOrder
  pub equals_stand_together : EqualsStandTogether
  pub unlisted_are_beaten : UnlistedAreBeaten
  pub list_is_never_empty : ListIsNeverEmpty
