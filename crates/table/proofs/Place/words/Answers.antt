-- `words` meets its contract: the columns are stored one behind the other, and then the two numbers behind them.
use Prim.Native.Nat.{ℕ, ◌≤◌}
use mathlib.Core.Path.{◌≡◌, refl, sym, ap, ◌∙◌}
use mathlib.Core.Bool.{Bool, true, false, cond}
use mathlib.Core.List.{List, [], ◌∷◌, ◌++◌, append_assoc}
use native.Mathlib.Omega.{arith}
use lib.ListN.{length, set, drop, replicate, length-append}
use lib.Seq.{set_at, take_at, drop_at}
use borrow.Rule.Slice.PartMut.{put_mid}
use Rattle.std.proofs.Common.{lit≤}
use Rattle.std.specs.Int.{from_bool}
use Rattle.table.specs.declared.Place.{Place}
use Rattle.table.specs.Words.{words_of}
use Rattle.table.proofs.Words.{Long, few_grades, long_place}
use Rattle.table.proofs.Place.words.Goals as goal

-- the number that marks a loaded place
mark : (b : Bool) → from_bool b ≡ cond b 1 0
mark true = refl
mark false = refl

-- a column stored behind the numbers u
column : (u v y : List ℕ) (n : ℕ) → length u ≡ n → put_mid n 40 (u ++ v) y ≡ (u ++ y) ++ drop 40 v
column u v y n e = rw (take_at u v n e, drop_at u v n e) (sym (append_assoc u y (drop 40 v)))

stored : (p : Place) → Long p → (o d a : List ℕ) (f : ℕ) → o ≡ p.obligors → d ≡ p.defaults → a ≡ p.announced → f ≡ from_bool p.loaded
    → set (set (put_mid 80 40 (put_mid 40 40 (o ++ replicate 82 0) d) a) 120 p.grades) 121 f ≡ words_of p
stored p l o d a f n k m b =
    let two = p.obligors ++ p.defaults in
    let all = p.obligors ++ p.defaults ++ p.announced in
    let long_two : length two ≡ 80 = rw (length-append, l.obligors, l.defaults) refl in
    let long_all : length all ≡ 120 = rw (length-append, length-append, l.obligors, l.defaults, l.announced) refl in
    let long : length (all ++ (p.grades ∷ [])) ≡ 121 = rw (length-append, long_all) refl in
    rw (n, k, m, b, mark, column p.obligors (replicate 82 0) p.defaults 40 l.obligors, column two (replicate 42 0) p.announced 80 long_two, set_at all 0 (0 ∷ []) p.grades 120 long_all)
    (ap (λ (x : List ℕ). set x 121 (cond p.loaded 1 0)) (sym (append_assoc all (p.grades ∷ []) (0 ∷ [])))
    ∙ set_at (all ++ (p.grades ∷ [])) 0 [] (cond p.loaded 1 0) 121 long
    ∙ append_assoc all (p.grades ∷ []) (cond p.loaded 1 0 ∷ []))

room : (p : Place) → Long p → (o d : List ℕ) → o ≡ p.obligors → d ≡ p.defaults → 120 ≤ length (put_mid 40 40 (o ++ replicate 82 0) d)
room p l o d n k = rw (n, k, column p.obligors (replicate 82 0) p.defaults 40 l.obligors, length-append, length-append, l.obligors, l.defaults) (lit≤ tt)

pub slice_bounds-words-end-3 : goal.slice_bounds-words-end-3
slice_bounds-words-end-3 c = room c.args.self (long_place c.requires) _ _ c.copy_from_slice.ensures.after c.copy_from_slice-2.ensures.after

pub overflow_cast-words : goal.overflow_cast-words
overflow_cast-words c = omega (arith, few_grades c.requires)

pub returns : goal.returns
returns c = stored c.args.self (long_place c.requires) _ _ _ _ c.copy_from_slice.ensures.after c.copy_from_slice-2.ensures.after c.copy_from_slice-3.ensures.after c.from.ensures
