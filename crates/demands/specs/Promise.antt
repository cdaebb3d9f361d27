-- What the contract of a function promises, read as a fact. Rattle gives a contract as clauses in a separation logic, any that there is: so what it
-- promises is a fact that its `ensures` together entail in every such logic. That they do is a field of what stands here, and checked.
use seplogic.Ra.Ura.{Ura}
use base.Logic.{SProp, ent, sep, id⊢, via, fst∗, snd∗}
use prog.Memory.{Memory}
use prog.Routine.{Routine}
use types.Logic.{Logic}
use contract.Lifetimes.{Lfts}
use contract.Monad.{Fun, fact, fact_i, fact_use}
use denote.Triple.Entry.{Args, Res}
use denote.Triple.Clauses.{Ended, AtExit, Clauses}

-- Of a function, a statement on the values passed, `.0`, `.1 .0`, `.1 .1 .0` and so on, the value returned, and the references passed as they are
-- at exit, `.0`, `.1 .0` and so on.
abbrev pub Statement : Ended → Type 1
Statement f = (κs : Lfts f.signature.lifetimes) → Args f.signature κs → Res f.signature κs → AtExit f κs → Type 0

-- the clauses of a function's contract, in every separation logic
abbrev pub Contract : Ended → Type 2
Contract f = (M : Type 1) (𝓤 : Ura M) → Logic 𝓤 → (Memory → SProp 𝓤) → (Routine → Fun 𝓤) → Clauses 𝓤 f

-- a statement that a contract promises
pub record Promise (f : Ended) (contract : Contract f) : Type 2 where
  pub says : Statement f
  pub promised : (M : Type 1) (𝓤 : Ura M) (𝓛 : Logic 𝓤) (mem : Memory → SProp 𝓤) (run : Routine → Fun 𝓤)
      (κs : Lfts f.signature.lifetimes) (passed : Args f.signature κs) (g : (contract M 𝓤 𝓛 mem run κs passed).ghost)
      (returned : Res f.signature κs) (left : AtExit f κs)
      → ent 𝓤 ((contract M 𝓤 𝓛 mem run κs passed).ensures g returned left) (fact 𝓤 (says κs passed returned left))

-- All `ensures` of a contract together entail all that they say: the last of them, and one with those behind it.
abbrev pub last : {M : Type 1} (𝓤 : Ura M) (φ : Type 0) → ent 𝓤 (fact 𝓤 φ) (fact 𝓤 φ)
last 𝓤 φ = id⊢ 𝓤 (fact 𝓤 φ)

abbrev pub next : {M : Type 1} (𝓤 : Ura M) (φ ψ : Type 0) {P : SProp 𝓤} → ent 𝓤 P (fact 𝓤 ψ) → ent 𝓤 (sep 𝓤 (fact 𝓤 φ) P) (fact 𝓤 (φ × ψ))
next 𝓤 φ ψ {P} h =
    let S : SProp 𝓤 = sep 𝓤 (fact 𝓤 φ) P in
    fact_use 𝓤 {P = S} {Q = fact 𝓤 (φ × ψ)} φ (fst∗ 𝓤 (fact 𝓤 φ) P)
    (λ x. fact_use 𝓤 {P = S} {Q = fact 𝓤 (φ × ψ)} ψ (via 𝓤 P (snd∗ 𝓤 (fact 𝓤 φ) P) h) (λ y. fact_i 𝓤 (φ × ψ) S (x, y)))
