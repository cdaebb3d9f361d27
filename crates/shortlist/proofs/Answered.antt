-- The scales that are held of a book's raters answer for its tables: whom no other scale beats no other table does.
use Prim.Native.Nat.{ℕ, ◌≤◌, ◌<◌}
use mathlib.Core.Path.{◌≡◌, refl, sym, ◌∙◌}
use mathlib.Core.Bool.{Bool, true, false, not}
use mathlib.Core.List.{List, []}
use native.Mathlib.Omega.{arith}
use lib.Dec.{T}
use lib.ListN.{length, get_or, take, length-take}
use lib.Seq.{get_or-take}
use Rattle.table.specs.Table.{Table}
use Rattle.table.proofs.Every.{every_at, at_every}
use Rattle.book.specs.Reading.{all_tables}
use Rattle.shortlist.specs.Shortlist.{better, unbeaten, listed}
use Rattle.shortlist.specs.declared.scales.Scale.{Scale}
use Rattle.shortlist.specs.Private.{HoldsAll, beats, all_compared, unbeaten_in}
use Rattle.shortlist.proofs.Held.{same_length, table_at_place}
use Rattle.shortlist.proofs.Numbers.{numbers_same}
use Rattle.shortlist.proofs.Order.{unbeaten_every}
use Rattle.shortlist.proofs.Top.{StrictOrder}
use Rattle.shortlist.proofs.Listed.{Totalled, order}
use Rattle.shortlist.proofs.Marked.{marks_long, unmarked-unbeaten}
use Rattle.shortlist.proofs.Pooled.{tests_agree, better_pooled}
use Rattle.shortlist.proofs.Accepted.{Accepted}

-- tests that say the opposite of each other
opposed : (x y : Bool) → (x ≡ false → T y) → (T y → x ≡ false) → not x ≡ y
opposed true y f g = tests_agree false y (λ h. absurd h) (λ h. let e : true ≡ false = g h in cc)
opposed false y f g = tests_agree true y (λ h. f refl) (λ h. tt)

module _ (b : List ℕ) (held : List Scale) (holds : HoldsAll held (all_tables b)) (a : Accepted b) (few : length held ≤ 16) where
  abbrev ts : List Table
  ts = all_tables b

  abbrev table : ℕ → Table
  table r = get_or ts r []

  count : length held ≡ length ts
  count = same_length held ts holds

  total : (r : ℕ) → r < length ts → Totalled a.defaults a.survivors (table r)
  total = every_at (Totalled a.defaults a.survivors) [] ts a.totalled

  beats_is : (i j : ℕ) → i < length ts → j < length ts → beats held i j ≡ better (table i) (table j)
  beats_is i j h k =
      rw (table_at_place held ts holds i h, table_at_place held ts holds j k)
      (better_pooled (table i) (table j) (total i h).counted (total j k).counted ((total i h).survivors ∙ sym (total j k).survivors))

  beats_order : StrictOrder (length ts) (beats held)
  beats_order =
      let o = order a.defaults a.survivors ts a.totalled in
      record {
        not_itself = λ i h. rw (beats_is i i h h) (o.not_itself i h);
        transitive = λ i j k p q r. rw (beats_is i j p q, beats_is j k q r, beats_is i k p r) (o.transitive i j k p q r);
      }

  marks_tell : (k : ℕ) → k < length ts → not (get_or (all_compared (beats held) (length ts)) k false) ≡ unbeaten ts (table k)
  marks_tell k h =
      let told = unmarked-unbeaten (length ts) (beats held) (omega (arith, count)) beats_order k h in
      let every = unbeaten_every ts (table k) in
      opposed _ _
      (λ z. every.1 (at_every (λ other. T (better other (table k)) → ⊥) [] ts (λ j l. rw (← beats_is j k l h) (told.0 z j l))))
      (λ u. told.1 (λ j s. rw (beats_is j k s h) (every_at (λ other. T (better other (table k)) → ⊥) [] ts (every.0 u) j s)))

  pub book_listed : unbeaten_in held ≡ listed ts
  unfolding listed
  book_listed =
      let marks = all_compared (beats held) (length ts) in
      let long = marks_long (length ts) (beats held) (omega (arith, count)) beats_order in
      rw count
      (numbers_same not (unbeaten ts) false [] 1 (take (length ts) marks) ts
      (rw length-take (omega (arith, long, count, few)))
      (λ k l.
      let inside : k < length ts = omega (arith, rw length-take at l) in
      rw (get_or-take (length ts) marks k false inside) (marks_tell k inside)))
