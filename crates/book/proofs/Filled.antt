-- The columns of a table, its grade count and 1, stored in an empty place, make the place that holds the table.
use Prim.Native.Nat.{ℕ, zero, suc, ◌+◌, ◌-◌, ◌≤◌}
use mathlib.Core.Path.{◌≡◌, refl, sym, ap, ◌∙◌}
use mathlib.Core.List.{List, [], ◌∷◌, ◌++◌, map, append_assoc}
use native.Mathlib.Omega.{arith}
use lib.ListN.{length, set, take, drop, replicate, length-append, length-map, length-replicate}
use Rattle.std.proofs.lemmas.List.{drop-replicate}
use lib.Seq.{set_comm, sets-eq, take_at, drop_at, drop-drop, drop-append-le, set_at}
use Rattle.table.specs.Table.{Table, Grade}
use Rattle.table.specs.Place.{fresh, column, place_of}
use Rattle.table.specs.Words.{words_of}
use Rattle.table.proofs.Placed.{length-column}
use Rattle.book.specs.Private.{stored, words_after_lem}

-- Columns.

-- three columns in one list, from 0, 40 and 80 on, in which those of a table were stored from grade i on
abbrev pub columns_after : List ℕ → ℕ → Table → List ℕ
columns_after w i t = stored (stored (stored w i (map (λ g. g.obligors) t)) (40 + i) (map (λ g. g.defaults) t)) (80 + i) (map (λ g. g.announced) t)

-- a number behind a stored list, stored before or after it
stored-set : (v l : List ℕ) (at k x : ℕ) → at + length v ≤ k → stored (set l k x) at v ≡ set (stored l at v) k x
unfolding stored
stored-set [] l at k x h = refl
stored-set (y ∷ v) l at k x h =
    ap (λ (m : List ℕ). stored m (suc at) v) (set_comm l k at x y (λ e. omega arith)) ∙ stored-set v (set l at y) (suc at) k x (omega arith)

-- one row and the rest of three columns
pub row-stored : (w os ds ps : List ℕ) (i x y z : ℕ) → length os ≤ 39 → length ds ≤ 39
    → stored (stored (stored (set (set (set w i x) (40 + i) y) (80 + i) z) (i + 1) os) (40 + (i + 1)) ds) (80 + (i + 1)) ps
    ≡ stored (stored (stored w i (x ∷ os)) (40 + i) (y ∷ ds)) (80 + i) (z ∷ ps)
unfolding stored
row-stored w os ds ps i x y z h k =
    let c : 80 + (i + 1) ≡ suc (80 + i) = omega arith in
    let b : 40 + (i + 1) ≡ suc (40 + i) = omega arith in
    let a : i + 1 ≡ suc i = omega arith in
    rw (
      c,
      b,
      a,
      stored-set os (set (set w i x) (40 + i) y) (suc i) (80 + i) z (omega arith),
      stored-set os (set w i x) (suc i) (40 + i) y (omega arith),
      stored-set ds (set (stored (set w i x) (suc i) os) (40 + i) y) (suc (40 + i)) (80 + i) z (omega arith),
    )

-- Over the zeros of an empty place.

abbrev zeros : List ℕ
zeros = replicate 40 0

-- one column, over the zeros behind p
over_zeros : (p r : List ℕ) (at : ℕ) (f : Grade → ℕ) (t : Table) → length p ≡ at → length t ≤ 40
    → stored (p ++ zeros ++ r) at (map f t) ≡ p ++ column f t ++ r
unfolding stored
over_zeros p r at f t e few =
    let v = map f t in
    let l = p ++ zeros ++ r in
    let m : length v ≡ length t = length-map t f in
    let n : length zeros ≡ 40 = length-replicate {A = ℕ} 40 0 in
    let k : length l ≡ at + 40 + length r = rw (length-append, length-append, e, n) refl in
    let a : l ≡ p ++ (zeros ++ r) = append_assoc p zeros r in
    let front : take at l ≡ p = ap (take at) a ∙ take_at p (zeros ++ r) at e in
    let back : drop (at + length v) l ≡ replicate (40 - length t) 0 ++ r =
    sym (drop-drop (length v) at l)
    ∙ ap (λ (x : List ℕ). drop (length v) x) (ap (drop at) a ∙ drop_at p (zeros ++ r) at e)
    ∙ drop-append-le (length v) zeros r (omega arith)
    ∙ ap (λ (x : List ℕ). x ++ r) (drop-replicate (length v) 40 0 ∙ ap (λ (i : ℕ). replicate (40 - i) 0) m) in
    sets-eq v l at (omega arith)
    ∙ ap (λ (x : List ℕ). x ++ v ++ drop (at + length v) l) front
    ∙ ap (λ (x : List ℕ). p ++ v ++ x) back
    ∙ sym (append_assoc (p ++ v) (replicate (40 - length t) 0) r)
    ∙ ap (λ (x : List ℕ). x ++ r) (append_assoc p v (replicate (40 - length t) 0))

module _ (t : Table) (few : length t ≤ 40) where
  abbrev o : List ℕ
  o = column (λ g. g.obligors) t

  abbrev d : List ℕ
  d = column (λ g. g.defaults) t

  abbrev a : List ℕ
  a = column (λ g. g.announced) t

  abbrev all : List ℕ
  all = o ++ d ++ a

  two_long : length (o ++ d) ≡ 80
  two_long = rw (length-append, length-column (λ g. g.obligors) t few, length-column (λ g. g.defaults) t few) refl

  all_long : length all ≡ 120
  all_long = rw (length-append, two_long, length-column (λ g. g.announced) t few) refl

  columns_stored : (r : List ℕ) → columns_after (zeros ++ zeros ++ zeros ++ r) 0 t ≡ all ++ r
  columns_stored r =
      rw (
        append_assoc (zeros ++ zeros) zeros r,
        append_assoc zeros zeros (zeros ++ r),
        over_zeros [] (zeros ++ (zeros ++ r)) 0 (λ g. g.obligors) t refl few,
        sym (append_assoc o zeros (zeros ++ r)),
        over_zeros o (zeros ++ r) 40 (λ g. g.defaults) t (length-column (λ g. g.obligors) t few) few,
        sym (append_assoc (o ++ d) zeros r),
      )
      (over_zeros (o ++ d) r 80 (λ g. g.announced) t two_long few)

  pub place_filled : (n : ℕ) → n ≡ length t → set (set (columns_after (words_of fresh) 0 t) 120 n) 121 1 ≡ words_of (place_of t)
  unfolding place_of
  place_filled n e =
      let next : length (all ++ (n ∷ [])) ≡ 121 = rw (length-append, all_long) refl in
      ap (λ (x : List ℕ). set (set x 120 n) 121 1) (columns_stored (0 ∷ 0 ∷ []))
      ∙ ap (λ (x : List ℕ). set x 121 1) (set_at all 0 (0 ∷ []) n 120 all_long ∙ sym (append_assoc all (n ∷ []) (0 ∷ [])))
      ∙ set_at (all ++ (n ∷ [])) 0 [] 1 121 next
      ∙ append_assoc all (n ∷ []) (1 ∷ [])
      ∙ rw e refl

-- A fault leaves the words as they were.
pub kept : (n : ℕ) (t : Table) (w : List ℕ) → (n ≡ 0 → ⊥) → w ≡ words_after_lem n t w
kept zero t w k = absurd (k refl)
kept (suc n) t w k = refl
