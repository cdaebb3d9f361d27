-- The table after an event: what is kept of it, and that it is sound where the event is accepted.
use Prim.Native.Nat.{ℕ, zero, suc, ◌+◌, ◌-◌, ◌≤◌, ◌<◌}
use mathlib.Core.Path.{◌≡◌, refl}
use mathlib.Core.List.{[], ◌∷◌, map}
use native.Mathlib.Omega.{arith}
use lib.ListN.{length, get_or, set, length-set}
use lib.Seq.{get_or-set_same, get_or-set_other, map-set_same}
use Rattle.table.specs.Table.{Table, Grade, Every, Counted, Rated, InOrder, Sound, obligors_in}
use Rattle.table.specs.Place.{blank}
use Rattle.table.proofs.Every.{every_at}
use Rattle.table.proofs.Occupied.{someone, some_grade}
use Rattle.book.proofs.Checks.{Holds, held, held_first}
use Rattle.events.specs.Events.{Event, grade_numbered, grade_after, table_after, grade_checks, firm_checks, event_fault}
use Rattle.events.specs.Claims.{OneFirm}
use Rattle.events.specs.declared.Event.TheVariants.{SurvivorEnters, SurvivorLeaves, SurvivorDefaults, DefaultedRemoved}

-- A table with another grade i.

obligors_set : (t : Table) (i : ℕ) (r : Grade) → i < length t → obligors_in (set t i r) + (get_or t i blank).obligors ≡ obligors_in t + r.obligors
unfolding obligors_in
obligors_set [] i r h = absurd (omega arith)
obligors_set (s ∷ t) zero r h = omega arith
obligors_set (s ∷ t) (suc i) r h = omega (arith, obligors_set t i r (omega arith))

pub obligors-at : (t : Table) (i : ℕ) → i < length t → (get_or t i blank).obligors ≤ obligors_in t
unfolding obligors_in
obligors-at [] i h = absurd (omega arith)
obligors-at (s ∷ t) zero h = omega arith
obligors-at (s ∷ t) (suc i) h = omega (arith, obligors-at t i (omega arith))

every_set : (P : Grade → Type 0) (t : Table) (i : ℕ) (r : Grade) → Every P t → P r → Every P (set t i r)
every_set P [] i r h p = tt
every_set P (s ∷ t) zero r h p = (p, h.1)
every_set P (s ∷ t) (suc i) r h p = (h.0, every_set P t i r h.1 p)

in_order_set : (t : Table) (i : ℕ) (r : Grade) → r.announced ≡ (get_or t i blank).announced → InOrder t → InOrder (set t i r)
unfolding InOrder
in_order_set [] i r e o = tt
in_order_set (x ∷ []) zero r e o = tt
in_order_set (x ∷ []) (suc i) r e o = tt
in_order_set (x ∷ y ∷ t) zero r e o = (omega (arith, o.0), o.1)
in_order_set (x ∷ y ∷ t) (suc zero) r e o = (omega (arith, o.0), in_order_set (y ∷ t) zero r e o.1)
in_order_set (x ∷ y ∷ t) (suc (suc i)) r e o = (o.0, in_order_set (y ∷ t) (suc i) r e o.1)

-- What an event keeps.

pub same_announced : (e : Event) (r : Grade) → (grade_after e r).announced ≡ r.announced
same_announced SurvivorEnters r = refl
same_announced SurvivorLeaves r = refl
same_announced SurvivorDefaults r = refl
same_announced DefaultedRemoved r = refl

pub announced_kept : (e : Event) (g : ℕ) (t : Table) → map (λ r. r.announced) (table_after e g t) ≡ map (λ r. r.announced) t
unfolding table_after
announced_kept e g t = map-set_same (λ (r : Grade). r.announced) t (g - 1) _ blank (same_announced e (grade_numbered t g))

pub length-after : (e : Event) (g : ℕ) (t : Table) → length (table_after e g t) ≡ length t
unfolding table_after
length-after e g t = length-set t (g - 1) (grade_after e (grade_numbered t g))

-- An accepted event is at a grade of the table that takes it.

pub record Accepted (e : Event) (g : ℕ) (t : Table) : Type 0 where
  pub from : 1 ≤ g
  pub to : g ≤ length t
  pub firms : Holds (firm_checks e (grade_numbered t g) (obligors_in t))

pub accepted : (e : Event) (g : ℕ) (t : Table) → event_fault e g t ≡ 0 → Accepted e g t
unfolding event_fault
accepted e g t h =
    let f = held_first _ _ h in
    let k = held (grade_checks g t) f.0 in
    record { from = k.0; to = k.1.0; firms = held (firm_checks e (grade_numbered t g) (obligors_in t)) f.1 }

pub others_kept : (e : Event) (g j : ℕ) (t : Table) → event_fault e g t ≡ 0 → (j + 1 ≡ g → ⊥) → get_or (table_after e g t) j blank ≡ get_or t j blank
unfolding table_after
others_kept e g j t h k = get_or-set_other t (g - 1) j _ blank (λ z. k (omega (arith, (accepted e g t h).from)))

-- The grade after it.

grade-after : (e : Event) (g : ℕ) (t : Table) → event_fault e g t ≡ 0 → grade_numbered (table_after e g t) g ≡ grade_after e (grade_numbered t g)
unfolding table_after
grade-after e g t h =
    let a = accepted e g t h in
    get_or-set_same t (g - 1) (grade_after e (grade_numbered t g)) blank (omega (arith, a.from, a.to))

moved : (e : Event) (r : Grade) (n : ℕ) → Counted r → Holds (firm_checks e r n) → OneFirm e r (grade_after e r)
moved SurvivorEnters r n c h = (omega arith, refl)
moved SurvivorLeaves r n c h = (omega (arith, h.0), refl)
moved SurvivorDefaults r n c h = (omega (arith, h.0), refl)
moved DefaultedRemoved r n c h = (omega (arith, h.0), omega (arith, h.0))

counted_at : (t : Table) (g : ℕ) → Sound t → 1 ≤ g → g ≤ length t → Counted (grade_numbered t g)
counted_at t g s from to = every_at Counted blank t s.counted (g - 1) (omega arith)

pub one_firm : (e : Event) (g : ℕ) (t : Table) → Sound t → event_fault e g t ≡ 0 → OneFirm e (grade_numbered t g) (grade_numbered (table_after e g t) g)
one_firm e g t s h =
    let a = accepted e g t h in
    rw (grade-after e g t h) (moved e (grade_numbered t g) (obligors_in t) (counted_at t g s a.from a.to) a.firms)

-- The table is sound.

counted_after : (e : Event) (r : Grade) (n : ℕ) → Counted r → Holds (firm_checks e r n) → Counted (grade_after e r)
counted_after SurvivorEnters r n c h = omega arith
counted_after SurvivorLeaves r n c h = omega (arith, h.0)
counted_after SurvivorDefaults r n c h = omega (arith, h.0)
counted_after DefaultedRemoved r n c h = omega arith

-- n obligors before it, m after it
total_after : (e : Event) (r : Grade) (n m : ℕ) → Counted r → r.obligors ≤ n → 1 ≤ n → n ≤ 1_000_000 → Holds (firm_checks e r n)
    → m + r.obligors ≡ n + (grade_after e r).obligors → (1 ≤ m) × (m ≤ 1_000_000)
total_after SurvivorEnters r n m c o some few h e = (omega arith, omega (arith, h.0))
total_after SurvivorLeaves r n m c o some few h e = (omega (arith, h.0, h.1.0), omega (arith, h.0, h.1.0))
total_after SurvivorDefaults r n m c o some few h e = (omega arith, omega arith)
total_after DefaultedRemoved r n m c o some few h e = (omega (arith, h.0, h.1.0), omega (arith, h.0, h.1.0))

pub event_sound : (e : Event) (g : ℕ) (t : Table) → Sound t → event_fault e g t ≡ 0 → Sound (table_after e g t)
unfolding table_after
event_sound e g t s h =
    let a = accepted e g t h in
    let i = g - 1 in
    let r = grade_numbered t g in
    let new = grade_after e r in
    let inside : i < length t = omega (arith, a.from, a.to) in
    let c : Counted r = counted_at t g s a.from a.to in
    let p : Rated r = every_at Rated blank t s.rated i inside in
    let same = same_announced e r in
    let n = length-set t i new in
    let total = total_after e r (obligors_in t) (obligors_in (set t i new)) c (obligors-at t i inside) (someone t s.some_occupied) s.total a.firms (obligors_set t i new inside) in
    record {
      some = omega (arith, n, s.some);
      few = omega (arith, n, s.few);
      some_occupied = some_grade (set t i new) total.0;
      counted = every_set Counted t i new s.counted (counted_after e r (obligors_in t) c a.firms);
      rated = every_set Rated t i new s.rated (omega (arith, same, p));
      in_order = in_order_set t i new same s.in_order;
      total = total.1;
    }
