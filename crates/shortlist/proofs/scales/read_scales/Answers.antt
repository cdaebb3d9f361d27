-- `read_scales` meets its contract. The invariant is `Reading`.
use Prim.Native.Nat.{ℕ, suc, ◌+◌}
use mathlib.Core.List.{List}
use mathlib.Core.Path.{◌≡◌, sym, ap, ◌∙◌}
use native.Mathlib.Numerals.{add-one}
use native.Mathlib.Omega.{arith}
use Rattle.refusals.proofs.Refused.{number_positive, passed_on}
use Rattle.book.specs.Layout.{raters, start_of}
use Rattle.book.proofs.Whole.{laid}
use Rattle.shortlist.proofs.Reading.{none_read, ends, goes, all_read}
use Rattle.shortlist.proofs.scales.read_scales.Goals as goal

-- where the table of the next rater starts
starts_at : (b : List ℕ) (r : ℕ) {n : ℕ} → n ≡ start_of b (r + 1) → n ≡ start_of b (suc r)
starts_at b r e = e ∙ ap (λ (j : ℕ). start_of b j) (add-one r)

pub loop-rater-init : goal.loop-rater-init
loop-rater-init c = none_read _ _ (laid _ c.requires.laid) c.requires.room

pub start_of-requires : goal.start_of-requires
start_of-requires c =
    let l = c.loop-rater.invariant in
    let s = l.laid.standing (suc c.loop-rater.rater) (omega arith) (omega (arith, l.long)) in
    (omega arith, omega (arith, s.head))

pub read_scale-requires : goal.read_scale-requires
read_scale-requires c =
    let l = c.loop-rater.invariant in
    let s = l.laid.standing (suc c.loop-rater.rater) (omega arith) (omega (arith, l.long)) in
    let starts : c.start_of.result ≡ start_of c.args.book.now (suc c.loop-rater.rater) = starts_at c.args.book.now c.loop-rater.rater c.start_of.ensures in
    rw starts (s.inside, s.some, s.few)

pub returns-in_err-read_scale-clause-value : goal.returns-in_err-read_scale-clause-value
returns-in_err-read_scale-clause-value c =
    let l = c.loop-rater in
    let starts : c.start_of.result ≡ start_of c.args.book.now (suc l.rater) = starts_at c.args.book.now c.loop-rater.rater c.start_of.ensures in
    passed_on _ _ c.from_residual.ensures.1
    ∙ ends _ _ _ l.invariant (omega (arith, l.invariant.long)) _ (rw starts at c.in_err-read_scale.ensures.value)
    (λ z. let p = number_positive c.in_err-read_scale.field-0.0 in omega arith)

pub loop-rater-preserved : goal.loop-rater-preserved
loop-rater-preserved c =
    let l = c.loop-rater in
    let e = c.in_ok-read_scale.ensures in
    let starts : c.start_of.result ≡ start_of c.args.book.now (suc l.rater) = starts_at c.args.book.now c.loop-rater.rater c.start_of.ensures in
    rw (add-one l.rater)
    (goes _ _ _ l.invariant (omega (arith, l.invariant.long)) _ (sym (rw starts at e.value))
    (rw starts at e.scale))

pub returns : goal.returns
returns c =
    let l = c.loop-rater in
    let n : l.rater ≡ raters c.args.book.now = omega (arith, l.invariant.long) in
    let a = all_read _ _ (rw n at l.invariant) in
    record { value = a.0; scales = a.1 }
