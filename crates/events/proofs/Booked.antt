-- What the code knows of the grade at which an event is booked: it looks at its counts alone.
use Prim.Native.Nat.{ℕ, ◌+◌, ◌-◌, ◌≤◌, ◌<◌}
use mathlib.Core.Path.{◌≡◌, refl, sym, ap, subst, ◌∙◌}
use mathlib.Core.List.{List, ◌++◌}
use native.Mathlib.Omega.{arith}
use lib.ListN.{length, get_or, set}
use Rattle.table.specs.Table.{Table, Grade, Counted, Sound, obligors_in}
use Rattle.table.specs.Place.{blank, place_of}
use Rattle.table.specs.Words.{words_of, place_in, table_in, HoldsTable}
use Rattle.table.proofs.Every.{every_at}
use Rattle.book.specs.Checks.{fault}
use Rattle.book.proofs.Checks.{Holds, held, found, none, pass, go}
use Rattle.pooled_place.specs.PooledPlace.{list_of, pooled_place_of}
use Rattle.pooled_place.specs.Words.{pooled_place_words, counts_in, HoldsPooledTable}
use Rattle.pooled_place.proofs.Words.{grade_count, counts_lent, counts_same}
use Rattle.events.specs.Events.{Event, grade_numbered, grade_after, table_after, firm_checks, event_fault}
use Rattle.events.specs.declared.Event.TheVariants.{SurvivorEnters, SurvivorLeaves, SurvivorDefaults, DefaultedRemoved}
use Rattle.events.specs.declared.Counts.{Counts}
use Rattle.events.specs.Private.{grade_of, counts_of_lem, Takes}
use Rattle.events.proofs.Tables.{same_announced, obligors-at}
use Rattle.events.proofs.Stored.{read, words_set}

pub same-checks : (e : Event) (r : Grade) (n : ℕ) → firm_checks e (grade_of (counts_of_lem r)) n ≡ firm_checks e r n
same-checks SurvivorEnters r n = refl
same-checks SurvivorLeaves r n = refl
same-checks SurvivorDefaults r n = refl
same-checks DefaultedRemoved r n = refl

pub same_after : (e : Event) (r : Grade) → counts_of_lem (grade_after e (grade_of (counts_of_lem r))) ≡ counts_of_lem (grade_after e r)
same_after SurvivorEnters r = refl
same_after SurvivorLeaves r = refl
same_after SurvivorDefaults r = refl
same_after DefaultedRemoved r = refl

takes : (e : Event) (r : Grade) (n : ℕ) → Counted r → r.obligors ≤ 1_000_000 → Holds (firm_checks e r n) → Takes e (counts_of_lem r)
takes SurvivorEnters r n c o h = o
takes SurvivorLeaves r n c o h = omega (arith, h.0)
takes SurvivorDefaults r n c o h = (omega (arith, h.0), o)
takes DefaultedRemoved r n c o h = (h.0, c)

-- The counts as they are read from words of t, whose index is i.
read_counts : (w : List ℕ) (i g n : ℕ) (t : Table) → n ≡ get_or w i 0 → HoldsTable w → table_in w ≡ t → i ≡ g - 1 → i < length t
    → ◌≡◌ {A = Counts} (record { obligors = record { 0 = n }; defaults = get_or w (40 + i) 0 }) (counts_of_lem (grade_numbered t g))
read_counts w i g n t of h e k inside =
    let near : i < length (table_in w) = omega (arith, ap (λ (u : Table). length u) e) in
    let r = read w i h near in
    let same = ap (λ (u : Table). get_or u i blank) e ∙ ap (λ (j : ℕ). get_or t j blank) k in
    let o = of ∙ r.obligors ∙ ap (λ (x : Grade). x.obligors) same in
    let d = r.defaults ∙ ap (λ (x : Grade). x.defaults) same in
    rw (o, d) refl

-- and as they are stored in the words of t and its list.
stored_counts : (w : List ℕ) (i g : ℕ) (t : Table) (e : Event) (after : Counts) → Sound t → w ≡ pooled_place_words (pooled_place_of t) → i ≡ g - 1 → i < length t
    → after ≡ counts_of_lem (grade_after e (grade_numbered t g))
    → set (set w i after.obligors.0) (40 + i) after.defaults ≡ words_of (place_of (table_after e g t)) ++ list_of t
unfolding table_after
stored_counts w i g t e after s h k inside a =
    let r = grade_after e (grade_numbered t g) in
    let o = ap (λ (c : Counts). c.obligors.0) a in
    let d = ap (λ (c : Counts). c.defaults) a in
    let same : r.announced ≡ (get_or t i blank).announced = same_announced e (grade_numbered t g) ∙ ap (λ (j : ℕ). (get_or t j blank).announced) (sym k) in
    ap (λ (v : List ℕ). set (set v i after.obligors.0) (40 + i) after.defaults) h
    ∙ ap (λ (n : ℕ). set (set (pooled_place_words (pooled_place_of t)) i n) (40 + i) after.defaults) o
    ∙ ap (λ (n : ℕ). set (set (pooled_place_words (pooled_place_of t)) i r.obligors) (40 + i) n) d
    ∙ words_set t i r (list_of t) inside s.few same
    ∙ ap (λ (j : ℕ). words_of (place_of (set t j r)) ++ list_of t) k

-- The grade g of the table in the words w is one of its grades: i is its index, v the words of the counts.
pub record Reached (w v : List ℕ) (i g : ℕ) : Type 0 where
  pub from : 1 ≤ g
  pub to : g ≤ length (table_in w)
  pub index : i ≡ g - 1
  pub near : i < 40
  pub counts : HoldsTable v
  pub table : table_in v ≡ table_in w

pub reached : {w v : List ℕ} {grades : ℕ} (g : ℕ) → HoldsPooledTable w → v ≡ counts_in w → grades ≡ (place_in v).grades → 1 ≤ g → g ≤ grades
    → Reached w v (g - 1) g
reached {w} g h e k from to =
    let count = grade_count w e k in
    record {
      from = from;
      to = omega (arith, count);
      index = refl;
      near = omega (arith, count, h.sound.few);
      counts = counts_lent h e;
      table = counts_same w e;
    }

-- What is known there of the event e.
module _ {w v : List ℕ} {i g n : ℕ} (e : Event) (h : HoldsPooledTable w) (r : Reached w v i g) (of : n ≡ get_or v i 0) where
  abbrev t : Table
  t = table_in w

  -- The counts are read.
  abbrev at : Counts
  at = record { obligors = record { 0 = n }; defaults = get_or v (40 + i) 0 }

  inside : g - 1 < length t
  inside = omega (arith, r.from, r.to)

  same : at ≡ counts_of_lem (grade_numbered t g)
  same = read_counts v i g n t of r.counts r.table r.index (omega (arith, r.index, inside))

  counted : Counted (grade_numbered t g)
  counted = every_at Counted blank t h.sound.counted (g - 1) inside

  pub at_counted : Counted (grade_of at)
  at_counted = subst (λ (c : Counts). Counted (grade_of c)) (sym same) counted

  -- m is the fault that was found for these counts.
  module _ (m : ℕ) (checked : m ≡ fault (firm_checks e (grade_of at) (obligors_in (table_in v)))) where
    firms : m ≡ fault (firm_checks e (grade_numbered t g) (obligors_in t))
    firms =
        checked
        ∙ ap (λ (u : Table). fault (firm_checks e (grade_of at) (obligors_in u))) r.table
        ∙ ap (λ (c : Counts). fault (firm_checks e (grade_of c) (obligors_in t))) same
        ∙ ap fault (same-checks e (grade_numbered t g) (obligors_in t))

    pub event-fault : m ≡ event_fault e g t
    unfolding event_fault
    event-fault = go (sym (found (pass r.from (pass r.to none)))) firms

    pub at_takes : m ≡ 0 → Takes e at
    at_takes z =
        subst (λ (c : Counts). Takes e c) (sym same)
        (takes e (grade_numbered t g) (obligors_in t) counted (omega (arith, h.sound.total, obligors-at t (g - 1) inside))
        (held (firm_checks e (grade_numbered t g) (obligors_in t)) (sym firms ∙ z)))

  -- The counts after it are stored.
  pub after_stored : {after : Counts} → after ≡ counts_of_lem (grade_after e (grade_of at))
      → set (set w i after.obligors.0) (40 + i) after.defaults ≡ words_of (place_of (table_after e g t)) ++ list_of t
  after_stored {after} a =
      stored_counts w i g t e after h.sound h.exact r.index (omega (arith, r.index, inside))
      (a ∙ ap (λ (c : Counts). counts_of_lem (grade_after e (grade_of c))) same ∙ same_after e (grade_numbered t g))
