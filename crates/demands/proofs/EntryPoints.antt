-- Every call of the model has its entry points: what the contracts of the library for C and of the desk say is what the model says.
use Prim.Native.Nat.{ℕ}
use mathlib.Core.Path.{refl}
use Rattle.refusals.proofs.Refused.{number_given, number_limited}
use Rattle.calls.specs.Calls.{cheapest, measures, brier, spread, pool, load, clear, event}
use Rattle.events.specs.declared.Event.{Event}
use Rattle.events.specs.declared.Event.TheVariants.{SurvivorEnters, SurvivorLeaves, SurvivorDefaults, DefaultedRemoved}
use Rattle.desk.specs.Calls.{Call, ask, compare, compare_on_shares, fill, write, shortlist, change}
use Rattle.demands.specs.EntryPoints.{ServedInC, ServedByMethod, ServedByDesk}
use Rattle.demands.specs.Demands.{EveryCallIsServed}

in_c : (c : Call) → ServedInC c
in_c (ask i (cheapest u v)) = λ κs a n s p e f g. rw (← e, ← f, ← g) (record { number = p.1.0; desk = p.0; buffer = refl })
in_c (ask i measures) = λ κs a n s p e. rw (← e) (record { number = p.1.0; desk = p.0; buffer = refl })
in_c (ask i brier) = λ κs a n s p e. rw (← e) (record { number = p.1.0; desk = p.0; buffer = refl })
in_c (ask i spread) = λ κs a n s p e. rw (← e) (record { number = p.1.0; desk = p.0; buffer = refl })
in_c compare = λ κs a n s p. record { number = p.1.0; desk = p.0; buffer = refl }
in_c compare_on_shares = λ κs a n s p. record { number = p.1.0; desk = p.0; buffer = refl }
in_c (fill i pool out) = λ κs a n s p e f. rw (← e, ← f) (record { number = p.1.0; desk = p.0; buffer = p.1.1 })
in_c (write out) = λ κs a n s p e. rw (← e) (record { number = p.1.0; desk = p.0; buffer = p.1.1.0 }, p.1.1.1)
in_c (shortlist b out) = λ κs a n s p e f. rw (← e, ← f) (record { number = p.1.0; desk = p.0; buffer = p.1.1.0 }, p.1.1.1)
in_c (change i (load b j)) = λ κs a n s p e f g. rw (← e, ← f, ← g) (record { number = p.0; desk = p.1; buffer = refl })
in_c (change i clear) = λ κs a n s p e. rw (← e) (record { number = p.0; desk = p.1; buffer = refl })
in_c (change i (event SurvivorEnters g)) = λ κs a n s p e f. rw (← e, ← f) (record { number = p.0; desk = p.1; buffer = refl })
in_c (change i (event SurvivorLeaves g)) = λ κs a n s p e f. rw (← e, ← f) (record { number = p.0; desk = p.1; buffer = refl })
in_c (change i (event SurvivorDefaults g)) = λ κs a n s p e f. rw (← e, ← f) (record { number = p.0; desk = p.1; buffer = refl })
in_c (change i (event DefaultedRemoved g)) = λ κs a n s p e f. rw (← e, ← f) (record { number = p.0; desk = p.1; buffer = refl })

by_method : (i : ℕ) (k : Event) (g : ℕ) → ServedByMethod i k g
by_method i SurvivorEnters g = λ κs a r s p e f. rw (← e, ← f) (record { number = p.1; desk = p.0; buffer = refl })
by_method i SurvivorLeaves g = λ κs a r s p e f. rw (← e, ← f) (record { number = p.1; desk = p.0; buffer = refl })
by_method i SurvivorDefaults g = λ κs a r s p e f. rw (← e, ← f) (record { number = p.1; desk = p.0; buffer = refl })
by_method i DefaultedRemoved g = λ κs a r s p e f. rw (← e, ← f) (record { number = p.1; desk = p.0; buffer = refl })

by_desk : (c : Call) → ServedByDesk c
by_desk (ask i (cheapest u v)) = λ κs a r s p e f g. rw (← e, ← f, ← g) (record { number = number_given r _ _ p.1; desk = p.0; buffer = refl })
by_desk (ask i measures) = λ κs a r s p e. rw (← e) (record { number = number_given r _ _ p.1; desk = p.0; buffer = refl })
by_desk (ask i brier) = λ κs a r s p e. rw (← e) (record { number = number_given r _ _ p.1; desk = p.0; buffer = refl })
by_desk (ask i spread) = λ κs a r s p e. rw (← e) (record { number = number_limited r _ _ p.1; desk = p.0; buffer = refl })
by_desk compare = λ κs a r s p. record { number = number_limited r _ _ p.1; desk = p.0; buffer = refl }
by_desk compare_on_shares = λ κs a r s p. record { number = number_limited r _ _ p.1; desk = p.0; buffer = refl }
by_desk (fill i pool out) = λ κs a r s p e f. rw (← e, ← f) (record { number = p.1.1; desk = p.0; buffer = p.1.0 })
by_desk (write out) = λ κs a r s p e. rw (← e) (record { number = number_given r _ _ p.1.1; desk = p.0; buffer = p.1.0 }, p.1.1)
by_desk (shortlist b out) = λ κs a r s p e f. rw (← e, ← f) (record { number = number_given r _ _ p.1.1; desk = p.0; buffer = p.1.0 }, p.1.1)
by_desk (change i (load b j)) = λ κs a r s p e f g. rw (← e, ← f, ← g) (record { number = p.1; desk = p.0; buffer = refl })
by_desk (change i clear) = λ κs a r s p e. rw (← e) (record { number = p.1; desk = p.0; buffer = refl })
by_desk (change i (event k g)) = (λ κs a r s p e f h. rw (← e, ← f, ← h) (record { number = p.1; desk = p.0; buffer = refl }), by_method i k g)

pub served : EveryCallIsServed
served c = (in_c c, by_desk c)
