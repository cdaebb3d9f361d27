-- `book_event` meets its contract.
use Prim.Native.Nat.{ℕ, ◌+◌, ◌-◌}
use mathlib.Core.Path.{◌≡◌, refl, sym, ap, subst, ◌∙◌}
use mathlib.Core.List.{List, ◌++◌}
use native.Mathlib.Omega.{arith}
use lib.ListN.{length, set, length-set}
use Rattle.table.specs.Table.{Table, Sound}
use Rattle.table.specs.Place.{place_of}
use Rattle.table.specs.Words.{words_of, table_in}
use Rattle.refusals.proofs.Refused.{passed_on}
use Rattle.book.proofs.Checks.{found, over, over_or, stop}
use Rattle.pooled_place.specs.PooledPlace.{list_of}
use Rattle.pooled_place.proofs.Words.{grade_count, held-length, counts_lent}
use Rattle.pooled_place.proofs.Lists.{table_stored, pooled_anew, list_anew}
use Rattle.events.specs.Events.{table_after, event_fault}
use Rattle.events.proofs.Tables.{length-after, event_sound}
use Rattle.events.proofs.Booked.{Reached, reached, at_counted, event-fault, at_takes, after_stored}
use Rattle.events.proofs.book_event.Goals.{After-obligors_at, After-after-after}
use Rattle.events.proofs.book_event.Goals as goal

pub counts_of-counts-requires : goal.counts_of-counts-requires
counts_of-counts-requires c = held-length c.requires

pub grades_of-grades-requires : goal.grades_of-grades-requires
grades_of-grades-requires c = let holds = counts_lent c.requires c.counts_of-counts.ensures in omega (arith, holds.long)

pub returns-then-g-lt1-clause-value : goal.returns-then-g-lt1-clause-value
unfolding event_fault
returns-then-g-lt1-clause-value c =
    let count = grade_count c.args.words.now c.counts_of-counts.ensures c.grades_of-grades.ensures in
    stop _ (found (over_or (λ h. over (grind arith)))) (λ z. omega arith)

pub obligors_at-requires : goal.obligors_at-requires
obligors_at-requires c =
    let r = reached c.args.grade c.requires c.counts_of-counts.ensures c.grades_of-grades.ensures (omega arith) (omega arith) in
    omega (arith, r.near, r.counts.long)

-- The grade is one of the table.
there : (c : After-obligors_at) → Reached c.args.words.now c.counts_of-counts.result.now (c.args.grade - 1) c.args.grade
there c = reached c.args.grade c.requires c.counts_of-counts.ensures c.grades_of-grades.ensures (omega arith) (omega arith)

pub bounds-counts-i : goal.bounds-counts-i
bounds-counts-i c = let r = there (goal.at.bounds-counts-i c).After-obligors_at in omega (arith, r.near, r.counts.long)

pub check-requires : goal.check-requires
check-requires c =
    let r = there (goal.at.check-requires c).After-obligors_at in (r.counts, at_counted c.args.event c.requires r c.obligors_at.ensures)

pub returns-in_err-check-clause-value : goal.returns-in_err-check-clause-value
returns-in_err-check-clause-value c =
    let r = there (goal.at.returns-in_err-check-clause-value c).After-obligors_at in
    passed_on _ _ c.from_residual.ensures.1 ∙ event-fault c.args.event c.requires r c.obligors_at.ensures _ c.in_err-check.ensures

pub after-after-requires : goal.after-after-requires
after-after-requires c =
    let r = there (goal.at.after-after-requires c).After-obligors_at in
    at_takes c.args.event c.requires r c.obligors_at.ensures 0 c.in_ok-check.ensures refl

pub bounds-words-i : goal.bounds-words-i
bounds-words-i c = let r = there (goal.at.bounds-words-i c).After-obligors_at in omega (arith, r.near, held-length c.requires)

pub bounds-words-i-2 : goal.bounds-words-i-2
bounds-words-i-2 c =
    let r = there (goal.at.bounds-words-i-2 c).After-obligors_at in
    rw length-set (omega (arith, r.near, held-length c.requires))

-- The event is accepted.
module _ (c : After-after-after) where
  abbrev words : List ℕ
  words = c.args.words.now

  -- the table after it
  abbrev after : Table
  after = table_after c.args.event c.args.grade (table_in words)

  abbrev stored : List ℕ
  stored = set (set words (c.args.grade - 1) c.after-after.result.obligors.0) (40 + (c.args.grade - 1)) c.after-after.result.defaults

  r : Reached c.args.words.now c.counts_of-counts.result.now (c.args.grade - 1) c.args.grade
  r = there (goal.at.After-after-after c).After-obligors_at

  accepted : 0 ≡ event_fault c.args.event c.args.grade (table_in words)
  accepted = event-fault c.args.event c.requires r c.obligors_at.ensures 0 c.in_ok-check.ensures

  sound : Sound after
  sound = event_sound c.args.event c.args.grade (table_in words) c.requires.sound (sym accepted)

  long : length stored ≡ length words
  long = length-set _ _ _ ∙ length-set words _ _

  is_stored : stored ≡ words_of (place_of after) ++ list_of (table_in words)
  is_stored = after_stored c.args.event c.requires r c.obligors_at.ensures c.after-after.ensures

pub pool_anew-requires : goal.pool_anew-requires
pool_anew-requires c =
    let a = (goal.at.pool_anew-requires c).After-after-after in
    let e = ap (λ (w : List ℕ). table_in w) (is_stored a) ∙ table_stored _ (sound a) (list_of (table_in (words a))) in
    (long a ∙ held-length c.requires, subst Sound (sym e) (sound a))

pub returns-clause-value : goal.returns-clause-value
returns-clause-value c = accepted (goal.at.returns-clause-value c).After-after-after

pub returns-clause-words_after : goal.returns-clause-words_after
returns-clause-words_after c =
    let a = (goal.at.returns-clause-words_after c).After-after-after in
    let t = table_in (words a) in
    pooled_anew (after a) (sound a) (list_of t) (is_stored a) c.pool_anew.ensures
    ∙ ap (λ (l : List ℕ). words_of (place_of (after a)) ++ l) (list_anew t (after a) (length-after c.args.event c.args.grade t))
