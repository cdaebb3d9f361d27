-- The shortlist (R-7): of the tables of some raters, those that no other one is better than. Raters are numbered from 1, in book order.
use Rattle.std.specs.Prelude.{ℕ, suc, Bool, true, not, cond, ◌&&◌, List, [], ◌∷◌}
use Rattle.table.specs.Table.{Table}
use Rattle.cutoff.specs.Cutoff.{AtLeastAsGood}
use Rattle.cutoff.specs.Verdict.{never_dearer_lem}

-- "better means at least as good, and not the reverse": over all whole-number prices
abbrev pub Better : Table → Table → Type 0
Better t₁ t₂ = AtLeastAsGood t₁ t₂ × (AtLeastAsGood t₂ t₁ → ⊥)

-- the same, computed at the break-even prices of the blocks: `BetterIsComputed`
abbrev pub better : Table → Table → Bool
better t₁ t₂ = never_dearer_lem t₁ t₂ && not (never_dearer_lem t₂ t₁)

-- "for which no other rater of the book is better": no table is better than itself
unfoldable pub unbeaten : List Table → Table → Bool
unbeaten [] t = true
unbeaten (other ∷ ts) t = not (better other t) && unbeaten ts t

-- the numbers, counted from i on, of the elements that pass a test
unfoldable pub numbers_of_lem : {A : Type 0} → (A → Bool) → ℕ → List A → List ℕ
numbers_of_lem test i [] = []
numbers_of_lem test i (x ∷ l) = cond (test x) (i ∷ numbers_of_lem test (suc i) l) (numbers_of_lem test (suc i) l)

-- "List the raters for which no other rater of the book is better, in book order"
unfoldable pub listed : List Table → List ℕ
listed ts = numbers_of_lem (unbeaten ts) 1 ts
