-- `measures` meets its contract.
use native.Mathlib.Omega.{arith}
use mathlib.Core.Path.{ap}
use Rattle.table.proofs.Words.{long_words}
use Rattle.book.proofs.Checks.{none, pass, over}
use Rattle.measures.specs.Measures.{measures_of}
use Rattle.calls.specs.Calls.{measures}
use Rattle.calls.proofs.Answered.{refuses, accepts}
use Rattle.calls.proofs.Asked.{asked_empty, ready, asked}
use Rattle.calls.proofs.measures.Goals as goal

pub is_loaded-requires : goal.is_loaded-requires
is_loaded-requires c = omega (arith, long_words c.requires)

pub returns-then-not-is_loaded : goal.returns-then-not-is_loaded
returns-then-not-is_loaded c = asked_empty _ measures _ _ c.is_loaded.ensures c.if-not-is_loaded.true

pub measure-measured-requires : goal.measure-measured-requires
measure-measured-requires c = (ready _ c.requires c.is_loaded.ensures c.if-not-is_loaded.false).holds

pub returns-then-measured-eq0 : goal.returns-then-measured-eq0
unfolding measures_of
returns-then-measured-eq0 c =
    let r = ready _ c.requires c.is_loaded.ensures c.if-not-is_loaded.false in
    let d = ap (λ x. x.defaults) c.measure-measured.ensures in
    refuses 23 _ (asked measures r (over (omega arith))) (λ z. omega arith)

pub returns-then-measured-eq0-2 : goal.returns-then-measured-eq0-2
unfolding measures_of
returns-then-measured-eq0-2 c =
    let r = ready _ c.requires c.is_loaded.ensures c.if-not-is_loaded.false in
    let d = ap (λ x. x.defaults) c.measure-measured.ensures in
    let s = ap (λ x. x.survivors.0) c.measure-measured.ensures in
    refuses 24 _ (asked measures r (pass (omega arith) (over (omega arith)))) (λ z. omega arith)

pub returns : goal.returns
unfolding measures_of
returns c =
    let r = ready _ c.requires c.is_loaded.ensures c.if-not-is_loaded.false in
    let d = ap (λ x. x.defaults) c.measure-measured.ensures in
    let s = ap (λ x. x.survivors.0) c.measure-measured.ensures in
    accepts (asked measures r (pass (omega arith) (pass (omega arith) none))) c.measure-measured.ensures
