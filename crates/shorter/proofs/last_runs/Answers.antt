-- `last_runs` meets its contract. The invariant: the values stand before grade i.
use Prim.Native.Nat.{ℕ, ◌+◌, ◌*◌, ◌≤◌, ◌<◌}
use mathlib.Core.Path.{◌≡◌, ◌∙◌}
use mathlib.Core.List.{List}
use native.Mathlib.Nat.{add-zero, sub-zero}
use native.Mathlib.Decide.{dec_le}
use native.Mathlib.Omega.{arith}
use lib.ListN.{set, length-set}
use lib.Seq.{get_or-set_same, get_or-set_other}
use Rattle.table.proofs.Arithmetic.{counts_fit}
use Rattle.shorter.specs.declared.sizes.Size.{Size}
use Rattle.shorter.specs.declared.Sums.{Sums}
use Rattle.shorter.specs.Private.{survived_from, defaulted_from, Falling, most, Values}
use Rattle.shorter.proofs.last_runs.Invariants.{Filled}
use Rattle.shorter.proofs.last_runs.Goals as goal

more : {w : List Sums} {z : Size} {i : ℕ} {v : List ℕ} → Filled w z i v → i < z.grades → Filled w z (i + 1) (set v i (survived_from w i * defaulted_from w i))
more {z = z} {i = i} {v = v} f l =
    record {
      from = omega (arith, f.from);
      to = omega arith;
      long = rw length-set f.long;
      at = λ h p q. elim (dec_le i h) [
        | yes le ↦ let x : h ≡ i = omega arith in rw x (get_or-set_same v i _ 0 (omega (arith, f.long)))
        | no gt ↦ get_or-set_other v i h _ 0 (λ x. omega arith) ∙ f.at h p (omega arith)
      ];
    }

all : {w : List Sums} {z : Size} {i : ℕ} {v : List ℕ} → Falling w z.grades → Filled w z i v → z.grades ≤ i → Values w z 0 v
unfolding most
all falling f l = record {
  long = f.long;
  at = λ h need. f.at h (omega (arith, need.before)) (omega (arith, need.behind)) ∙ rw (falling.none_survived, falling.none_defaulted, add-zero, sub-zero);
}

pub loop-i-init : goal.loop-i-init
loop-i-init c = record { from = omega arith; to = omega arith; long = c.told-values; at = λ h p q. absurd (omega arith) }

pub overflow_mul-values : goal.overflow_mul-values
overflow_mul-values c =
    let falling = c.requires in
    let i = c.loop-i.i in
    counts_fit (falling.few_survived i (omega arith)) (falling.few_defaulted i (omega arith))

pub loop-i-preserved : goal.loop-i-preserved
loop-i-preserved c = more c.loop-i.invariant (omega arith)

pub returns : goal.returns
returns c = all c.requires c.loop-i.invariant c.loop-i-test.false
