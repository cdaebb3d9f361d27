-- The desk that calls leave holds the tables that were loaded, and they are sound: their announced rates never fall.
use Prim.Native.Nat.{ℕ, ◌≤◌, ◌<◌}
use mathlib.Core.Path.{◌≡◌, refl, ap, ◌∙◌}
use mathlib.Core.List.{List, [], ◌∷◌}
use borrow.Author.Tests.{ne_eqb}
use lib.Dec.{eqb}
use lib.ListN.{length, get_or}
use Rattle.table.specs.Table.{Table, Sound}
use Rattle.table.specs.Place.{blank, place_of}
use Rattle.table.proofs.Order.{never_fall}
use Rattle.table.proofs.Placed.{table_placed}
use Rattle.table.proofs.Test.{by-test}
use Rattle.pooled_place.specs.PooledPlace.{list_of, pooled_place_of, SoundPooledPlace, empty, holds}
use Rattle.events.specs.declared.Event.{Event}
use Rattle.events.specs.Events.{table_after, event_fault}
use Rattle.events.proofs.Tables.{event_sound}
use Rattle.book.specs.Checks.{fault, first_fault}
use Rattle.book.specs.Rows.{table_of_rater}
use Rattle.book.specs.Reading.{read_fault}
use Rattle.refusals.specs.Answers.{leaves}
use Rattle.calls.specs.Calls.{Change, load, clear, event, change_fault}
use Rattle.calls.proofs.Leaves.{by-fault, leaves_map}
use Rattle.desk.specs.declared.Desk.{Desk}
use Rattle.desk.specs.Desk.{with_place_lem, SoundDesk}
use Rattle.desk.specs.Calls.{Call, ask, compare, compare_on_shares, fill, write, shortlist, change, after}
use Rattle.desk.proofs.Soundness.{read_sound}
use Rattle.desk.proofs.Number.{Number, one, two, neither, number}
use Rattle.demands.specs.History.{desk_from, desk_after_lem, Held, nothing, table, filled, booked, held_then, held_after, held_from, held, placed}

-- a desk by what its places hold
abbrev pub desk_of : Held → Held → Desk
desk_of h k = record { first = placed h; second = placed k }

-- The desk after one call.

after_change : (h k : Held) (c : Change) {i : ℕ} → Number i
    → after (desk_of h k) (change i c) ≡ desk_of (held_after 1 h (change i c)) (held_after 2 k (change i c))
unfolding change_fault fault first_fault place_of
after_change nothing k (load b j) one = leaves_map (λ h. desk_of h k) (read_fault b j) nothing (table (table_of_rater b j))
after_change (table t) k (load b j) one = refl
after_change h nothing (load b j) two = leaves_map (λ k. desk_of h k) (read_fault b j) nothing (table (table_of_rater b j))
after_change h (table t) (load b j) two = refl
after_change nothing k clear one = refl
after_change (table t) k clear one = refl
after_change h nothing clear two = refl
after_change h (table t) clear two = refl
after_change nothing k (event e g) one = refl
after_change (table t) k (event e g) one =
    ap (λ (u : Table). leaves (event_fault e g u) (desk_of (table t) k) (with_place_lem (desk_of (table t) k) 1 (pooled_place_of (table_after e g u)))) (table_placed t)
    ∙ leaves_map (λ h. desk_of h k) (event_fault e g t) (table t) (table (table_after e g t))
after_change h nothing (event e g) two = refl
after_change h (table t) (event e g) two =
    ap (λ (u : Table). leaves (event_fault e g u) (desk_of h (table t)) (with_place_lem (desk_of h (table t)) 2 (pooled_place_of (table_after e g u)))) (table_placed t)
    ∙ leaves_map (λ k. desk_of h k) (event_fault e g t) (table t) (table (table_after e g t))
after_change h k c (neither {i} m n e) = rw (e, ne_eqb i 1 m, ne_eqb i 2 n)

after_call : (h k : Held) (c : Call) → after (desk_of h k) c ≡ desk_of (held_after 1 h c) (held_after 2 k c)
after_call h k (ask i q) = refl
after_call h k compare = refl
after_call h k compare_on_shares = refl
after_call h k (shortlist b out) = refl
after_call h k (fill i f out) = refl
after_call h k (write out) = refl
after_call h k (change i c) = after_change h k c (number i)

after_calls : (h k : Held) (calls : List Call) → desk_from (desk_of h k) calls ≡ desk_of (held_from 1 h calls) (held_from 2 k calls)
unfolding desk_from held_from
after_calls h k [] = refl
after_calls h k (c ∷ calls) = rw (after_call h k c) (after_calls (held_after 1 h c) (held_after 2 k c) calls)

pub places_hold : (calls : List Call) → desk_after_lem calls ≡ desk_of (held 1 calls) (held 2 calls)
places_hold calls = after_calls nothing nothing calls

-- What a place holds is sound.

abbrev SoundHeld : Held → Type 0
SoundHeld nothing = Unit {0}
SoundHeld (table t) = Sound t

filled_sound : (h : Held) (b : List ℕ) (j : ℕ) → SoundHeld h → SoundHeld (filled h b j)
filled_sound nothing b j s = by-fault SoundHeld (read_fault b j) (λ e. read_sound b j e) (λ _. tt)
filled_sound (table t) b j s = s

booked_sound : (h : Held) (e : Event) (g : ℕ) → SoundHeld h → SoundHeld (booked h e g)
booked_sound nothing e g s = tt
booked_sound (table t) e g s = by-fault SoundHeld (event_fault e g t) (λ z. event_sound e g t s z) (λ _. s)

then_sound : (h : Held) (c : Change) → SoundHeld h → SoundHeld (held_then h c)
then_sound h (load b j) s = filled_sound h b j s
then_sound h clear s = tt
then_sound h (event e g) s = booked_sound h e g s

held_sound : (i : ℕ) (h : Held) (c : Call) → SoundHeld h → SoundHeld (held_after i h c)
held_sound i h (ask k q) s = s
held_sound i h compare s = s
held_sound i h compare_on_shares s = s
held_sound i h (shortlist b out) s = s
held_sound i h (fill k f out) s = s
held_sound i h (write out) s = s
held_sound i h (change k c) s = by-test SoundHeld (eqb k i) (λ _. then_sound h c s) (λ _. s)

calls_sound : (i : ℕ) (h : Held) (calls : List Call) → SoundHeld h → SoundHeld (held_from i h calls)
unfolding held_from
calls_sound i h [] s = s
calls_sound i h (c ∷ calls) s = calls_sound i (held_after i h c) calls (held_sound i h c s)

pub tables_sound : (calls : List Call) (i : ℕ) (t : Table) → held i calls ≡ table t → Sound t
tables_sound calls i t e = rw e at (calls_sound i nothing calls tt)

pub rates_never_fall : (calls : List Call) (i : ℕ) (t : Table) → held i calls ≡ table t
    → (better worse : ℕ) → better ≤ worse → worse < length t → (get_or t better blank).announced ≤ (get_or t worse blank).announced
rates_never_fall calls i t e = never_fall t (tables_sound calls i t e).in_order

-- The desk is sound.

place_sound : (h : Held) → SoundHeld h → SoundPooledPlace (placed h)
place_sound nothing s = empty
place_sound (table t) s = holds t s

pub desk_sound : (calls : List Call) → SoundDesk (desk_after_lem calls)
desk_sound calls =
    rw (places_hold calls)
    record {
      first = place_sound (held 1 calls) (calls_sound 1 nothing calls tt);
      second = place_sound (held 2 calls) (calls_sound 2 nothing calls tt);
    }

-- The list of a loaded place is the pooling of its table.

list-of : (h : Held) (t : Table) → h ≡ table t → (placed h).pooled ≡ list_of t
list-of h t e = rw e refl

pub lists_pooled : (calls : List Call) (t : Table)
    → (held 1 calls ≡ table t → (desk_after_lem calls).first.pooled ≡ list_of t)
    × (held 2 calls ≡ table t → (desk_after_lem calls).second.pooled ≡ list_of t)
lists_pooled calls t =
    let e = places_hold calls in (
      λ h. ap (λ (d : Desk). d.first.pooled) e ∙ list-of (held 1 calls) t h,
      λ h. ap (λ (d : Desk). d.second.pooled) e ∙ list-of (held 2 calls) t h,
    )
