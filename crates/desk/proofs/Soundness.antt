-- Calls keep a desk sound: what a caller hands on from call to call.
use Prim.Native.Nat.{ℕ}
use mathlib.Core.Path.{◌≡◌}
use mathlib.Core.List.{List}
use lib.Dec.{eqb}
use Rattle.table.specs.declared.Place.{Place}
use Rattle.table.specs.Table.{Sound}
use Rattle.table.specs.Place.{table_of}
use Rattle.pooled_place.specs.declared.PooledPlace.{PooledPlace}
use Rattle.pooled_place.specs.PooledPlace.{SoundPooledPlace, empty, holds}
use Rattle.events.proofs.Tables.{event_sound}
use Rattle.table.proofs.Test.{by-test}
use Rattle.table.proofs.Words.{sound_loaded}
use Rattle.pooled_place.proofs.Words.{sound_place}
use Rattle.book.specs.Rows.{table_of_rater}
use Rattle.book.specs.Reading.{read_fault}
use Rattle.book.proofs.Checks.{held_first}
use Rattle.book.proofs.Accept.{accepted}
use Rattle.calls.specs.Calls.{Change, load, clear, event, changed_to, change_fault, empty_fault}
use Rattle.calls.proofs.Leaves.{by-fault}
use Rattle.calls.proofs.Asked.{is-loaded}
use Rattle.desk.specs.declared.Desk.{Desk}
use Rattle.desk.specs.Desk.{fresh_desk, pooled_place_at, place_at, table_at, with_place_lem, SoundDesk}
use Rattle.desk.specs.Calls.{change, number_of, after}

pub fresh_sound : SoundDesk fresh_desk
fresh_sound = record { first = empty; second = empty }

with_sound : {d : Desk} {p : PooledPlace} (i : ℕ) → SoundDesk d → SoundPooledPlace p → SoundDesk (with_place_lem d i p)
with_sound i s t = by-test SoundDesk (eqb i 1) (λ _. record { first = t; second = s.second }) (λ _. record { first = s.first; second = t })

pub read_sound : (b : List ℕ) (j : ℕ) → read_fault b j ≡ 0 → Sound (table_of_rater b j)
read_sound b j e = let a = accepted b j e in rw (← a.table) a.sound

pub load_sound : (p : Place) (b : List ℕ) (j : ℕ) → change_fault p (load b j) ≡ 0 → SoundPooledPlace (changed_to (table_of p) (load b j))
unfolding change_fault
load_sound p b j e = holds (table_of_rater b j) (read_sound b j (held_first _ _ e).1)

-- An event asks that the table in a loaded place is sound.
pub changed_sound : (p : Place) (c : Change) → (empty_fault p ≡ 0 → Sound (table_of p)) → change_fault p c ≡ 0 → SoundPooledPlace (changed_to (table_of p) c)
unfolding change_fault
changed_sound p (load b j) s e = load_sound p b j e
changed_sound p clear s e = empty
changed_sound p (event k g) s e = let f = held_first _ _ e in holds _ (event_sound k g (table_of p) (s f.0) f.1)

-- the place i of a sound desk
pub pooled_place_sound : (d : Desk) (i : ℕ) → SoundDesk d → SoundPooledPlace (pooled_place_at d i)
pooled_place_sound d i s = by-test SoundPooledPlace (eqb i 1) {l = d.first} {r = d.second} (λ _. s.first) (λ _. s.second)

pub table_sound : (d : Desk) → SoundDesk d → (i : ℕ) → empty_fault (place_at d i) ≡ 0 → Sound (table_at d i)
table_sound d s i e = sound_loaded (sound_place (pooled_place_sound d i s)) (is-loaded (place_at d i).loaded e)

pub change_sound : (d : Desk) (i : ℕ) (c : Change) → SoundDesk d → SoundDesk (after d (change i c))
change_sound d i c s =
    by-fault SoundDesk (number_of d (change i c))
    (λ e. with_sound i s (changed_sound (place_at d i) c (table_sound d s i) (held_first _ _ e).1))
    (λ _. s)
