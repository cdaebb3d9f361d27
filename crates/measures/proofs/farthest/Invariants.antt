-- `farthest` meets its contract. The invariant: at grade i the cutoffs that turn away no better grade have been tried.
use Prim.Native.Nat.{ℕ, suc, ◌+◌, ◌-◌, ◌*◌, ◌≤◌, ◌<◌}
use mathlib.Core.Path.{◌≡◌, ◌∙◌}
use mathlib.Core.List.{List}
use native.Mathlib.Omega.{arith}
use borrow.Author.Tests.{lt-ltb, le-ltb}
use lib.ListN.{get_or}
use lib.IntN.{ℤ, sub_ℕ, nat_abs}
use mir.Syntax.{w64}
use mir.Val.{to_z, of_z}
use mir.ValLaws.{to_z-of_z}
use Rattle.table.specs.declared.Place.{Place}
use Rattle.table.specs.declared.Survivors.{Survivors}
use Rattle.table.specs.Table.{Sound, survivors, defaults_in, survivors_in}
use Rattle.table.specs.Place.{grade_at, table_of}
use Rattle.table.specs.Words.{place_in}
use Rattle.table.proofs.Arithmetic.{counts_le}
use Rattle.table.proofs.Signed.{difference_fits}
use Rattle.table.proofs.Suffix.{suffix, small, sound_small, few_counts}
use Rattle.table.proofs.Words.{Turn}
use Rattle.cutoff.specs.Best.{best}
use Rattle.measures.specs.Measures.{height, farther}
use Rattle.measures.proofs.Cutoffs.{turned_suffix}
use Rattle.measures.proofs.farthest.Given as goal

-- the best of the cutoffs that turn away no better grade than i
abbrev pub best_from : Place → ℕ → ℕ
best_from p i = best farther (height (table_of p)) (p.grades - i)

-- a and b are the curve and the diagonal times D S, h is the height kept, and far its absolute size.
pub record Tried (p : Place) (i a b g : ℕ) (h : ℤ) (far : ℕ) : Type 0 where
  pub inside : i ≤ p.grades
  pub curve : a ≡ defaults_in (suffix p i) * survivors_in (table_of p)
  pub diagonal : b ≡ survivors_in (suffix p i) * defaults_in (table_of p)
  pub cutoff : g ≡ best_from p i
  pub high : h ≡ height (table_of p) (best_from p i)
  pub distance : far ≡ nat_abs (height (table_of p) (best_from p i))

module _ {w : List ℕ} {i a b g far : ℕ} {h : ℤ} (sound : Sound (table_of (place_in w))) (f : Turn w i) (t : Tried (place_in w) i a b g h far) where
  -- The next cutoff turns grade i - 1 away too.
  abbrev pub p : Place
  p = place_in w

  pub inside : i - 1 ≤ p.grades
  inside = omega (arith, t.inside)

  pub more_curve : {s : Survivors} {m : ℕ} → s.0 ≡ survivors_in (table_of p) → m ≡ get_or w (40 + (i - 1)) 0 * s.0
      → a + m ≡ defaults_in (suffix p (i - 1)) * survivors_in (table_of p)
  unfolding defaults_in
  more_curve {s} {m} all e =
      let n : m ≡ (grade_at p (i - 1)).defaults * survivors_in (table_of p) = rw (← f.defaults, ← all) e in
      rw f.down (omega (arith, t.curve, n))

  pub more_diagonal : {d n m : ℕ} → d ≡ defaults_in (table_of p) → n ≡ survivors (grade_at p (i - 1)) → m ≡ d * n
      → b + m ≡ survivors_in (suffix p (i - 1)) * defaults_in (table_of p)
  unfolding survivors_in
  more_diagonal {d} {n} {m} all e k =
      let l : m ≡ defaults_in (table_of p) * survivors (grade_at p (i - 1)) = rw (← all, ← e) k in
      rw f.down (omega (arith, t.diagonal, l))

  pub few_curve : {a' : ℕ} → a' ≡ defaults_in (suffix p (i - 1)) * survivors_in (table_of p) → a' ≤ 1_000_000_000_000
  few_curve e = rw e (counts_le (few_counts (small p (i - 1) sound inside)).0 (few_counts (sound_small sound)).1)

  pub few_diagonal : {b' : ℕ} → b' ≡ survivors_in (suffix p (i - 1)) * defaults_in (table_of p) → b' ≤ 1_000_000_000_000
  few_diagonal e = rw e (counts_le (few_counts (small p (i - 1) sound inside)).1 (few_counts (sound_small sound)).0)

-- What a turn knows of the cutoff that it tries.
pub record Next (p : Place) (i a b : ℕ) : Type 0 where
  pub inside : i - 1 ≤ p.grades
  pub number : p.grades - (i - 1) ≡ suc (p.grades - i)
  pub curve : a ≡ defaults_in (suffix p (i - 1)) * survivors_in (table_of p)
  pub diagonal : b ≡ survivors_in (suffix p (i - 1)) * defaults_in (table_of p)
  pub small_a : a ≤ 1_000_000_000_000
  pub small_b : b ≤ 1_000_000_000_000
  pub here : sub_ℕ a b ≡ height (table_of p) (p.grades - (i - 1))

pub next : {w : List ℕ} {i a b a' b' g far : ℕ} {h : ℤ} → Sound (table_of (place_in w)) → 0 < i → (f : Turn w i) (t : Tried (place_in w) i a b g h far)
    → a' ≡ defaults_in (suffix (place_in w) (i - 1)) * survivors_in (table_of (place_in w))
    → b' ≡ survivors_in (suffix (place_in w) (i - 1)) * defaults_in (table_of (place_in w)) → Next (place_in w) i a' b'
next {w} {i} sound up f t ofA ofB =
    let p = place_in w in
    let near : i - 1 ≤ p.grades = omega (arith, t.inside) in
    record {
      inside = near;
      number = omega (arith, t.inside);
      curve = ofA;
      diagonal = ofB;
      small_a = few_curve sound f t ofA;
      small_b = few_diagonal sound f t ofB;
      here = rw (turned_suffix p (i - 1) near, ofA, ofB);
    }

module _ (f : ℕ → ℤ) {k k' kept here : ℕ} (s : k' ≡ suc k) (p : kept ≡ nat_abs (f (best farther f k))) (q : here ≡ nat_abs (f k')) where
  -- The cutoff tried is the best so far, or the one kept is.
  pub best_new : kept < here → best farther f k' ≡ k'
  unfolding best
  best_new h = rw (s, ← p, ← rw s at q, lt-ltb kept here h)

  pub best_kept : here ≤ kept → best farther f k' ≡ best farther f k
  unfolding best
  best_kept h = rw (s, ← p, ← rw s at q, le-ltb kept here h)

module _ {p : Place} {i a b a₀ b₀ g far here : ℕ} {h : ℤ} (n : Next p i a b) (t : Tried p i a₀ b₀ g h far) (e : here ≡ nat_abs (sub_ℕ a b)) where
  pub size : here ≡ nat_abs (height (table_of p) (p.grades - (i - 1)))
  size = rw (← n.here) e

  pub taken : far < here → (z : ℤ) → z ≡ sub_ℕ a b → Tried p (i - 1) a b (p.grades - (i - 1)) (to_z w64 (of_z w64 z)) here
  taken test z is =
      let it = best_new (height (table_of p)) n.number t.distance size test in
      let signed = to_z-of_z w64 z (rw is (difference_fits (omega (arith, n.small_a)) (omega (arith, n.small_b)))) ∙ is ∙ n.here in
      record { inside = n.inside; curve = n.curve; diagonal = n.diagonal; cutoff = rw it; high = rw it signed; distance = rw it size }

  pub left : here ≤ far → Tried p (i - 1) a b g h far
  left test =
      let it = best_kept (height (table_of p)) n.number t.distance size test in
      record { inside = n.inside; curve = n.curve; diagonal = n.diagonal; cutoff = rw it t.cutoff; high = rw it t.high; distance = rw it t.distance }

abbrev pub invariant-loop-i : goal.invariant-loop-i
invariant-loop-i l = Tried (place_in l.place) l.i l.curve l.diagonal l.cutoff l.height l.distance
