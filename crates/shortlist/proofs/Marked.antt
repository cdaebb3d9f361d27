-- Who is marked as beaten once all are compared: who has no mark is beaten by nobody. A beaten one is compared no more, since whom it beats is beaten
-- by one that nobody beats, too.
use Prim.Native.Nat.{ℕ, zero, suc, ◌+◌, ◌≤◌, ◌<◌}
use mathlib.Core.Path.{◌≡◌, refl}
use mathlib.Core.Logic.{◌↔◌, ◌⊎◌, inl, inr, ⊎_elim}
use mathlib.Core.Bool.{Bool, true, false}
use mathlib.Core.List.{List, [], ◌∷◌}
use native.Mathlib.Omega.{arith}
use native.Mathlib.Decide.{dec_le}
use lib.Dec.{T, T_not}
use lib.ListN.{length, get_or, set, replicate, length-set}
use lib.Seq.{get_or-set_same}
use Rattle.table.proofs.Test.{by-test}
use Rattle.shortlist.specs.Private.{compared, all_compared}
use Rattle.shortlist.proofs.Top.{StrictOrder, top_of}

-- A mark that is set.

unset_before : (l : List Bool) (k a : ℕ) → get_or (set l k true) a false ≡ false → get_or l a false ≡ false
unset_before [] k a h = h
unset_before (x ∷ l) zero zero h = absurd (cc)
unset_before (x ∷ l) zero (suc a) h = h
unset_before (x ∷ l) (suc k) zero h = h
unset_before (x ∷ l) (suc k) (suc a) h = unset_before l k a h

set_before : (l : List Bool) (k a : ℕ) → get_or (set l k true) a false ≡ true → (a ≡ k) ⊎ (get_or l a false ≡ true)
set_before [] k a h = inr h
set_before (x ∷ l) zero zero h = inl refl
set_before (x ∷ l) zero (suc a) h = inr h
set_before (x ∷ l) (suc k) zero h = inr h
set_before (x ∷ l) (suc k) (suc a) h = ⊎_elim (λ e. inl (omega arith)) inr (set_before l k a h)

none_set : (n k : ℕ) → get_or (replicate n false) k false ≡ false
none_set zero k = refl
none_set (suc n) zero = refl
none_set (suc n) (suc k) = none_set n k

holds_true : (x : Bool) → T x → x ≡ true
holds_true true h = refl
holds_true false h = absurd h

holds_false : (x : Bool) → (x ≡ true → ⊥) → x ≡ false
holds_false true h = absurd (h refl)
holds_false false h = refl

not_both : (x : Bool) → x ≡ true → x ≡ false → ⊥
not_both x p q = cc

module _ (n : ℕ) (beats : ℕ → ℕ → Bool) (few : n ≤ 16) where
  -- Neither of a and b, if both have no mark, beats the other.
  abbrev Settled : List Bool → ℕ → ℕ → Type 0
  Settled marks a b = get_or marks a false ≡ false → get_or marks b false ≡ false → (T (beats a b) → ⊥) × (T (beats b a) → ⊥)

  abbrev Beaten : ℕ → Type 0
  Beaten k = (h : ℕ) × (h < n) × T (beats h k)

  -- Who has a mark is beaten, and every two of the first m are settled.
  record Marks (m : ℕ) (marks : List Bool) : Type 0 where
    pub long : length marks ≡ 16
    pub beaten : (k : ℕ) → get_or marks k false ≡ true → Beaten k
    pub settled : (a b : ℕ) → a < b → b < m → Settled marks a b

  none_marked : Marks 0 (replicate 16 false)
  none_marked =
      record { long = refl; beaten = λ k h. absurd (not_both _ h (none_set 16 k)); settled = λ a b l u. absurd (omega arith) }

  mark_set : (m : ℕ) (marks : List Bool) (k : ℕ) → Beaten k → Marks m marks → Marks m (set marks k true)
  mark_set m marks k by f =
      record {
        long = rw length-set f.long;
        beaten = λ a h. ⊎_elim (λ e. rw e by) (λ h. f.beaten a h) (set_before marks k a h);
        settled = λ a b l u p q. f.settled a b l u (unset_before marks k a p) (unset_before marks k b q);
      }

  -- While j is compared with those before i.
  record Comparing (j i : ℕ) (marks : List Bool) : Type 0 where
    pub before : Marks j marks
    pub settled : (a : ℕ) → a < i → Settled marks a j

  module _ (j : ℕ) (small : j < n) where
    next : (i : ℕ) (marks : List Bool) → Comparing j i marks → Settled marks i j → Comparing j (suc i) marks
    next i marks c s =
        record {
          before = c.before;
          settled = λ a l. elim (dec_le i a) [ yes ge ↦ let e : a ≡ i = omega arith in rw e s | no lt ↦ c.settled a (omega arith) ];
        }

    all_before : (marks : List Bool) → Comparing j j marks → Marks (suc j) marks
    all_before marks c =
        record {
          long = c.before.long;
          beaten = c.before.beaten;
          settled = λ a b l u.
              elim (dec_le j b) [
                | yes ge ↦ let e : b ≡ j = omega arith in rw e (c.settled a (omega arith))
                | no lt ↦ c.before.settled a b l (omega arith)
              ];
        }

    -- j is beaten, and compared no more.
    j_beaten : (i : ℕ) (marks : List Bool) → Comparing j i marks → Beaten j → Marks (suc j) (set marks j true)
    j_beaten i marks c by =
        let m = mark_set j marks j by c.before in
        all_before (set marks j true)
        (record { before = m; settled = λ a l p q. absurd (not_both _ (get_or-set_same marks j true false (omega (arith, c.before.long, few))) q) })

    -- i is beaten.
    i_beaten : (i : ℕ) (marks : List Bool) → i < j → Comparing j i marks → Beaten i → Comparing j (suc i) (set marks i true)
    i_beaten i marks l c by =
        next i (set marks i true)
        (record {
          before = mark_set j marks i by c.before;
          settled = λ a k p q. c.settled a k (unset_before marks i a p) (unset_before marks i j q);
        })
        (λ p q. absurd (not_both _ (get_or-set_same marks i true false (omega (arith, c.before.long, few))) p))

    compared_marks : (k i : ℕ) (marks : List Bool) → i + k ≡ j → Comparing j i marks → Marks (suc j) (compared beats j k i marks)
    unfolding compared
    compared_marks zero i marks e c = let s : i ≡ j = omega arith in all_before marks (rw s at c)
    compared_marks (suc k) i marks e c =
        let rest : (m : List Bool) → Comparing j (suc i) m → Marks (suc j) (compared beats j k (suc i) m) = λ m d. compared_marks k (suc i) m (omega arith) d in
        by-test (Marks (suc j)) (get_or marks i false)
        (λ z. rest marks (next i marks c (λ p q. absurd (not_both _ (holds_true _ z) p))))
        (λ z.
        by-test (Marks (suc j)) (beats i j)
        (λ b. j_beaten i marks c (i, omega arith, b))
        (λ a.
        by-test (Marks (suc j)) (beats j i)
        (λ b. rest (set marks i true) (i_beaten i marks (omega arith) c (j, small, b)))
        (λ b. rest marks (next i marks c (λ p q. (T_not (beats i j) a, T_not (beats j i) b))))))

  all_marks : (m : ℕ) → m ≤ n → Marks m (all_compared beats m)
  unfolding all_compared
  all_marks zero h = none_marked
  all_marks (suc m) h =
      compared_marks m (omega arith) m 0 (all_compared beats m) (omega arith)
      (record { before = all_marks m (omega arith); settled = λ a l. absurd (omega arith) })

  -- Once all are compared.
  module _ (order : StrictOrder n beats) where
    all : Marks n (all_compared beats n)
    all = all_marks n (omega arith)

    no_mark : (k : ℕ) → ((h : ℕ) → h < n → T (beats h k) → ⊥) → get_or (all_compared beats n) k false ≡ false
    no_mark k none = holds_false _ (λ m. let (h, inside, b) = all.beaten k m in none h inside b)

    -- Of two without a mark none beats the other.
    apart : (j k : ℕ) → j < n → k < n → get_or (all_compared beats n) j false ≡ false → get_or (all_compared beats n) k false ≡ false → T (beats j k) → ⊥
    apart j k p q zj zk b =
        elim (dec_le j k) [
          | yes le ↦ elim (dec_le k j) [
            | yes ge ↦ let e : j ≡ k = omega arith in order.not_itself k q (rw e at b)
            | no lt ↦ (all.settled j k (omega arith) q zj zk).0 b
          ]
          | no gt ↦ (all.settled k j (omega arith) p zk zj).1 b
        ]

    pub marks_long : length (all_compared beats n) ≡ 16
    marks_long = all.long

    pub unmarked-unbeaten : (k : ℕ) → k < n → (get_or (all_compared beats n) k false ≡ false) ↔ ((h : ℕ) → h < n → T (beats h k) → ⊥)
    unmarked-unbeaten k inside =
        let t = top_of n beats order k inside n (omega arith) in (
          λ z. ⊎_elim (λ e. rw e at t.unbeaten) (λ b. absurd (apart t.top k t.inside inside (no_mark t.top t.unbeaten) z b)) t.above,
          no_mark k,
        )
