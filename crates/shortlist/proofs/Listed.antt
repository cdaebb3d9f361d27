-- Who stands on the shortlist of tables with the same totals, and why.
use Prim.Native.Nat.{ℕ, suc, ◌-◌, ◌≤◌, ◌<◌}
use mathlib.Core.Path.{◌≡◌, sym, ◌∙◌}
use mathlib.Core.Logic.{◌↔◌, ⊎_elim}
use mathlib.Core.List.{List, [], ◌∷◌}
use native.Mathlib.Omega.{arith}
use lib.Dec.{T}
use lib.ListN.{length, get_or}
use Rattle.table.specs.Table.{Table, Every, Counted, defaults_in, survivors_in}
use Rattle.table.proofs.Every.{every_at, at_every}
use Rattle.cutoff.specs.Cutoff.{AtLeastAsGood}
use Rattle.shortlist.specs.Shortlist.{Better, better, unbeaten, listed}
use Rattle.shortlist.specs.Claims.{Has}
use Rattle.shortlist.proofs.Numbers.{has_numbers}
use Rattle.shortlist.proofs.Order.{better_good, better_trans, better_self, better_computed, unbeaten_every}
use Rattle.shortlist.proofs.Top.{StrictOrder, Top, top_of}

has_some : (x : ℕ) (l : List ℕ) → Has x l → 1 ≤ length l
has_some x [] h = absurd h
has_some x (y ∷ l) h = omega arith

-- D and S of a table whose grades have no more defaults than obligors
pub record Totalled (d s : ℕ) (t : Table) : Type 0 where
  pub counted : Every Counted t
  pub defaults : defaults_in t ≡ d
  pub survivors : survivors_in t ≡ s

-- i is the number of one of some tables
abbrev Rater : List Table → ℕ → Type 0
Rater ts i = (1 ≤ i) × (i ≤ length ts)

-- the table of that number
abbrev pub table_no : List Table → ℕ → Table
table_no ts i = get_or ts (i - 1) []

-- No rater beats rater i.
abbrev pub Unbeaten : List Table → ℕ → Type 0
Unbeaten ts i = (j : ℕ) → Rater ts j → Better (table_no ts j) (table_no ts i) → ⊥

module _ (d s : ℕ) (ts : List Table) (same : Every (Totalled d s) ts) where
  known : (k : ℕ) → k < length ts → Totalled d s (get_or ts k [])
  known = every_at (Totalled d s) [] ts same

  computed : (j k : ℕ) → j < length ts → k < length ts → T (better (get_or ts j []) (get_or ts k [])) ↔ Better (get_or ts j []) (get_or ts k [])
  computed j k p q = better_computed (get_or ts j []) (get_or ts k []) (known j p).counted (known k q).counted ((known j p).survivors ∙ sym (known k q).survivors)

  -- The test, for the table at place k.
  tested : (k : ℕ) → k < length ts → T (unbeaten ts (get_or ts k [])) ↔ ((j : ℕ) → j < length ts → Better (get_or ts j []) (get_or ts k []) → ⊥)
  tested k inside =
      let t = get_or ts k [] in
      let test = unbeaten_every ts t in (
        λ h j l b. every_at (λ other. T (better other t) → ⊥) [] ts (test.0 h) j l ((computed j k l inside).1 b),
        λ h. test.1 (at_every (λ other. T (better other t) → ⊥) [] ts (λ j l b. h j l ((computed j k l inside).0 b))),
      )

  pub listed-unbeaten : (i : ℕ) → Has i (listed ts) ↔ (Rater ts i × Unbeaten ts i)
  unfolding listed
  listed-unbeaten i =
      let has = has_numbers (unbeaten ts) [] 1 ts i in (
        λ h.
            let p = has.0 h in
            let e : i - 1 ≡ p.place = omega (arith, p.number) in
            ((omega (arith, p.number), omega (arith, p.number, p.inside)), λ j r. rw e ((tested p.place p.inside).0 p.passed (j - 1) (omega arith))),
        λ h. has.1
            (record {
              place = i - 1;
              inside = omega (arith, h.0);
              number = omega (arith, h.0);
              passed = (tested (i - 1) (omega (arith, h.0))).1 (λ j l. let e : suc j - 1 ≡ j = omega arith in rw e at (h.1 (suc j) (omega arith)));
            }),
      )

  pub equals_together : (i j : ℕ) → Rater ts i → Rater ts j → AtLeastAsGood (table_no ts i) (table_no ts j) → AtLeastAsGood (table_no ts j) (table_no ts i)
      → Has i (listed ts) ↔ Has j (listed ts)
  equals_together i j p q f g = (
    λ h. (listed-unbeaten j).1 (q, λ k r b. ((listed-unbeaten i).0 h).1 k r (better_good b g)),
    λ h. (listed-unbeaten i).1 (p, λ k r b. ((listed-unbeaten j).0 h).1 k r (better_good b f)),
  )

  -- An unbeaten rater above each.

  pub order : StrictOrder (length ts) (λ j k. better (get_or ts j []) (get_or ts k []))
  order =
      record {
        not_itself = λ k l b. better_self ((computed k k l l).0 b);
        transitive = λ i j k p q r b c. (computed i k p r).1 (better_trans ((computed i j p q).0 b) ((computed j k q r).0 c));
      }

  pub topmost : (i : ℕ) → i < length ts → Top (length ts) (λ j k. better (get_or ts j []) (get_or ts k [])) i (length ts)
  topmost i l = top_of (length ts) (λ j k. better (get_or ts j []) (get_or ts k [])) order i l (length ts) (omega arith)

  top_listed : (i : ℕ) (l : i < length ts) → Has (suc (topmost i l).top) (listed ts)
  top_listed i l =
      let t = topmost i l in
      let e : suc t.top - 1 ≡ t.top = omega arith in
      (listed-unbeaten (suc t.top)).1
      ((omega arith, omega (arith, t.inside)), λ j r b. t.unbeaten (j - 1) (omega arith) ((computed (j - 1) t.top (omega arith) t.inside).1 (rw e at b)))

  pub unlisted_beaten : (i : ℕ) → Rater ts i → (Has i (listed ts) → ⊥) → (j : ℕ) × Has j (listed ts) × Better (table_no ts j) (table_no ts i)
  unlisted_beaten i r h =
      let l : i - 1 < length ts = omega arith in
      let t = topmost (i - 1) l in
      let e : suc t.top - 1 ≡ t.top = omega arith in (
        suc t.top,
        top_listed (i - 1) l,
        ⊎_elim
            (λ q. let n : suc t.top ≡ i = omega arith in absurd (h (rw n at (top_listed (i - 1) l))))
            (λ b. rw e ((computed t.top (i - 1) t.inside l).0 b))
            t.above,
      )

  pub never_empty : 1 ≤ length ts → 1 ≤ length (listed ts)
  never_empty h = has_some _ (listed ts) (top_listed 0 h)
