-- What ships is of the model: every call is an entry point of the library for C and one of the desk, and their contracts give its number, the desk
-- and the lent buffer after it, and what it counts, as the model does. A call that is added to the model is refused here until there are functions
-- whose contracts speak of it.
use Rattle.std.specs.Prelude.{◌≡◌, List, [], ℕ}
use contract.Lifetimes.{Lfts}
use denote.Triple.Entry.{Args, Res}
use denote.Triple.Clauses.{Ended, AtExit}
use Rattle.refusals.specs.Numbers.{number_in}
use Rattle.refusals.specs.Answers.{leaves, says}
use Rattle.calls.specs.Calls.{cheapest, measures, brier, spread, pool, load, clear, event}
use Rattle.events.specs.declared.Event.{Event}
use Rattle.events.specs.declared.Event.TheVariants.{SurvivorEnters, SurvivorLeaves, SurvivorDefaults, DefaultedRemoved}
use Rattle.desk.specs.Desk.{fresh_desk}
use Rattle.desk.specs.declared.Desk.{Desk}
use Rattle.desk.specs.Calls.{Call, ask, compare, compare_on_shares, fill, write, shortlist, change, number_of, after, lent_after, lent_size, Returns}
use Rattle.desk_c.specs.Image.{image_of, desk_in}
use Rattle.demands.specs.Promise.{Statement, Contract, Promise}
use Rattle.demands.specs.InC as in_c
use Rattle.demands.specs.ByDesk as by_desk

-- Whatever a contract promises, P holds of it.
abbrev pub Promises : {f : Ended} {contract : Contract f} → Promise f contract → Statement f → Type 0
Promises {f} promise P =
    (κs : Lfts f.signature.lifetimes) (passed : Args f.signature κs) (returned : Res f.signature κs) (left : AtExit f κs)
    → promise.says κs passed returned left → P κs passed returned left

-- On the desk d the call c returned the number n and left a desk and the lent numbers.
pub record Serves (d : Desk) (c : Call) (n : ℕ) (left : Desk) (numbers : List ℕ) : Type 0 where
  pub number : n ≡ number_of d c
  pub desk : left ≡ after d c
  pub buffer : numbers ≡ lent_after d c

-- The library for C.

-- the same of the desk in an image, and of an image
pub record ServesImage (image : List ℕ) (c : Call) (n : ℕ) (left numbers : List ℕ) : Type 0 where
  pub number : n ≡ number_of (desk_in image) c
  pub desk : left ≡ image_of (after (desk_in image) c)
  pub buffer : numbers ≡ lent_after (desk_in image) c

-- where the count was old, it is new: how much was written, or as it was
abbrev pub CountLeft : (d : Desk) (c : Call) (n old new : ℕ) → Type 0
CountLeft d c n old new = new ≡ leaves n old (lent_size d c)

abbrev pub ServedInC : Call → Type 0
ServedInC (ask i (cheapest u v)) =
    Promises in_c.desk_cheapest
    (λ κs a n s. a.1.0 ≡ i → a.1.1.0 ≡ u → a.1.1.1.0 ≡ v → ServesImage a.0.now (ask i (cheapest u v)) n a.0.now [])
ServedInC (ask i measures) =
    Promises in_c.desk_measures (λ κs a n s. a.1.0 ≡ i → ServesImage a.0.now (ask i measures) n a.0.now [])
ServedInC (ask i brier) =
    Promises in_c.desk_brier (λ κs a n s. a.1.0 ≡ i → ServesImage a.0.now (ask i brier) n a.0.now [])
ServedInC (ask i spread) =
    Promises in_c.desk_spread (λ κs a n s. a.1.0 ≡ i → ServesImage a.0.now (ask i spread) n a.0.now [])
ServedInC compare = Promises in_c.desk_compare (λ κs a n s. ServesImage a.0.now compare n a.0.now [])
ServedInC compare_on_shares =
    Promises in_c.desk_compare_shares (λ κs a n s. ServesImage a.0.now compare_on_shares n a.0.now [])
ServedInC (fill i pool out) =
    Promises in_c.desk_pool
    (λ κs a n s. a.1.0 ≡ i → a.1.1.0.now ≡ out → ServesImage a.0.now (fill i pool out) n a.0.now s.1.1.0.now)
ServedInC (write out) =
    Promises in_c.desk_write
    (λ κs a n s. a.1.0.now ≡ out
    → ServesImage a.0.now (write out) n a.0.now s.1.0.now
    × CountLeft (desk_in a.0.now) (write out) n a.1.1.0.now s.1.1.0.now)
ServedInC (shortlist book out) =
    Promises in_c.desk_shortlist
    (λ κs a n s. a.0.now ≡ book → a.1.0.now ≡ out
    → Serves fresh_desk (shortlist book out) n fresh_desk s.1.0.now
    × CountLeft fresh_desk (shortlist book out) n a.1.1.0.now s.1.1.0.now)
ServedInC (change i (load book rater)) =
    Promises in_c.desk_load
    (λ κs a n s. a.1.0 ≡ i → a.1.1.0.now ≡ book → a.1.1.1.0 ≡ rater
    → ServesImage a.0.now (change i (load book rater)) n s.0.now [])
ServedInC (change i clear) =
    Promises in_c.desk_clear (λ κs a n s. a.1.0 ≡ i → ServesImage a.0.now (change i clear) n s.0.now [])
ServedInC (change i (event SurvivorEnters g)) =
    Promises in_c.desk_survivor_enters
    (λ κs a n s. a.1.0 ≡ i → a.1.1.0 ≡ g → ServesImage a.0.now (change i (event SurvivorEnters g)) n s.0.now [])
ServedInC (change i (event SurvivorLeaves g)) =
    Promises in_c.desk_survivor_leaves
    (λ κs a n s. a.1.0 ≡ i → a.1.1.0 ≡ g → ServesImage a.0.now (change i (event SurvivorLeaves g)) n s.0.now [])
ServedInC (change i (event SurvivorDefaults g)) =
    Promises in_c.desk_survivor_defaults
    (λ κs a n s. a.1.0 ≡ i → a.1.1.0 ≡ g → ServesImage a.0.now (change i (event SurvivorDefaults g)) n s.0.now [])
ServedInC (change i (event DefaultedRemoved g)) =
    Promises in_c.desk_defaulted_removed
    (λ κs a n s. a.1.0 ≡ i → a.1.1.0 ≡ g → ServesImage a.0.now (change i (event DefaultedRemoved g)) n s.0.now [])

-- The desk, whose methods only look at it, or change it where it stands.

-- Each event has a method of its own.
abbrev pub ServedByMethod : ℕ → Event → ℕ → Type 0
ServedByMethod i SurvivorEnters g =
    Promises by_desk.survivor_enters
    (λ κs a r s. a.1.0 ≡ i → a.1.1.0 ≡ g → Serves a.0.now (change i (event SurvivorEnters g)) (number_in r) s.0.now [])
ServedByMethod i SurvivorLeaves g =
    Promises by_desk.survivor_leaves
    (λ κs a r s. a.1.0 ≡ i → a.1.1.0 ≡ g → Serves a.0.now (change i (event SurvivorLeaves g)) (number_in r) s.0.now [])
ServedByMethod i SurvivorDefaults g =
    Promises by_desk.survivor_defaults
    (λ κs a r s. a.1.0 ≡ i → a.1.1.0 ≡ g → Serves a.0.now (change i (event SurvivorDefaults g)) (number_in r) s.0.now [])
ServedByMethod i DefaultedRemoved g =
    Promises by_desk.defaulted_removed
    (λ κs a r s. a.1.0 ≡ i → a.1.1.0 ≡ g → Serves a.0.now (change i (event DefaultedRemoved g)) (number_in r) s.0.now [])

abbrev pub ServedByDesk : Call → Type 0
ServedByDesk (ask i (cheapest u v)) =
    Promises by_desk.cheapest
    (λ κs a r s. a.1.0 ≡ i → a.1.1.0 ≡ u → a.1.1.1.0 ≡ v → Serves a.0.now (ask i (cheapest u v)) (number_in r) a.0.now [])
ServedByDesk (ask i measures) =
    Promises by_desk.measures (λ κs a r s. a.1.0 ≡ i → Serves a.0.now (ask i measures) (number_in r) a.0.now [])
ServedByDesk (ask i brier) =
    Promises by_desk.brier (λ κs a r s. a.1.0 ≡ i → Serves a.0.now (ask i brier) (number_in r) a.0.now [])
ServedByDesk (ask i spread) =
    Promises by_desk.spread (λ κs a r s. a.1.0 ≡ i → Serves a.0.now (ask i spread) (number_in r) a.0.now [])
ServedByDesk compare = Promises by_desk.compare (λ κs a r s. Serves a.0.now compare (number_in r) a.0.now [])
ServedByDesk compare_on_shares =
    Promises by_desk.compare_shares (λ κs a r s. Serves a.0.now compare_on_shares (number_in r) a.0.now [])
ServedByDesk (fill i pool out) =
    Promises by_desk.pool
    (λ κs a r s. a.1.0 ≡ i → a.1.1.0.now ≡ out → Serves a.0.now (fill i pool out) (number_in r) a.0.now s.1.1.0.now)
ServedByDesk (write out) =
    Promises by_desk.write
    (λ κs a r s. a.1.0.now ≡ out
    → Serves a.0.now (write out) (number_in r) a.0.now s.1.0.now × Returns a.0.now (write out) (says r))
ServedByDesk (shortlist book out) =
    Promises by_desk.shortlist
    (λ κs a r s. a.0.now ≡ book → a.1.0.now ≡ out
    → Serves fresh_desk (shortlist book out) (number_in r) fresh_desk s.1.0.now
    × Returns fresh_desk (shortlist book out) (says r))
ServedByDesk (change i (load book rater)) =
    Promises by_desk.load
    (λ κs a r s. a.1.0 ≡ i → a.1.1.0.now ≡ book → a.1.1.1.0 ≡ rater
    → Serves a.0.now (change i (load book rater)) (number_in r) s.0.now [])
ServedByDesk (change i clear) =
    Promises by_desk.clear (λ κs a r s. a.1.0 ≡ i → Serves a.0.now (change i clear) (number_in r) s.0.now [])
ServedByDesk (change i (event e g)) =
    Promises by_desk.book_event
    (λ κs a r s. a.1.0 ≡ i → a.1.1.0 ≡ e → a.1.1.1.0 ≡ g → Serves a.0.now (change i (event e g)) (number_in r) s.0.now [])
    × ServedByMethod i e g
