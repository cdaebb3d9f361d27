-- Where a book is cut wrong the checks answer its number, and where they answer 31, 32 or 33 it is cut wrong so.
use Prim.Native.Nat.{ℕ, zero, suc, ◌+◌, ◌-◌, ◌≤◌, ◌<◌}
use mathlib.Core.Path.{◌≡◌, sym, ◌∙◌}
use mathlib.Core.Bool.{Bool, not}
use mathlib.Core.List.{List, [], ◌∷◌}
use native.Mathlib.Nat.{add-zero}
use native.Mathlib.Decide.{dec_le}
use native.Mathlib.Omega.{arith}
use borrow.Author.Tests.{le-leb}
use lib.Dec.{T}
use lib.ListN.{length}
use Rattle.table.specs.Table.{Table}
use Rattle.book.specs.Checks.{equal, fault, first_fault}
use Rattle.book.specs.Layout.{raters, end_of, leftover_fault, head_checks, rater_checks, table_checks, tables_fault_from, tables_fault_lem}
use Rattle.book.specs.Rows.{row_checks, later_checks, total_checks, table_fault_lem, table_of_rater}
use Rattle.book.specs.Reading.{read_fault}
use Rattle.book.specs.WrongCut.{end_after, Laid, FirstLaid, WrongCut, elsewhere, header, rows, leftover}
use Rattle.book.proofs.Checks.{Finds, found, none, pass, same, over, other, finds, held, stop, go, first_none, first_some}
use Rattle.book.proofs.Numbers.{all_pass, is_cut, fault_passes, first_passes, rows_pass, past, earlier}

-- What is cut wrong is told.

module _ (b : List ℕ) where
  passes : (k : ℕ) → Laid b k → fault (table_checks b (suc k) (end_after b k)) ≡ 0
  unfolding table_checks end_after
  passes k t =
      let h = t.headed in
      let inside : end_of b (end_after b k) ≤ length b = rw h.start at t.inside in
      sym (found (same h.start (pass h.whole (pass h.some (pass h.few (pass h.kind (same h.zeros (pass inside none))))))))

  -- Behind k tables that are laid out the checks go on as they do for all.
  behind : (k m : ℕ) → k + m ≡ raters b → FirstLaid b k → tables_fault_from b m (suc k) (end_after b k) ≡ tables_fault_lem b
  unfolding tables_fault_from end_after
  behind zero m e laid = let f : m ≡ raters b = omega arith in rw f
  behind (suc k) m e laid =
      let t = laid k (omega arith) in
      rw t.headed.start
      (sym (first_none _ _ (passes k t)) ∙ behind k (suc m) (omega arith) (λ i h. laid i (omega arith)))

  stops : (k n : ℕ) → FirstLaid b k → k < raters b → n ≡ fault (table_checks b (suc k) (end_after b k)) → (n ≡ 0 → ⊥) → n ≡ tables_fault_lem b
  unfolding tables_fault_from
  stops k n p h e some = stop _ e some ∙ behind k (suc (raters b - suc k)) (omega arith) p

  told : {n : ℕ} → WrongCut b n → n ≡ tables_fault_lem b
  unfolding table_checks tables_fault_from end_after
  told (elsewhere k p h e) = stops k 31 p h (found (other e)) (λ z. omega arith)
  told (header k p h s e) = stops k 32 p h (found (same s (over e))) (λ z. omega arith)
  told (rows k p h t e) =
      let long : length b < end_of b (end_after b k) = rw t.start at e in
      stops k 32 p h
      (found (same t.start (pass t.whole (pass t.some (pass t.few (pass t.kind (same t.zeros (over long))))))))
      (λ z. omega arith)
  told (leftover p e) = found (other (λ z. omega arith)) ∙ behind (raters b) 0 (add-zero (raters b)) p

-- What is told is cut wrong.

module _ (b : List ℕ) where
  -- What the checks of the next table find: a cut, a number below 31, or nothing.
  data Next (k : ℕ) : ℕ → Type 0 where
    cut : {n : ℕ} → WrongCut b n → Next k n
    low : (n : ℕ) → 1 ≤ n → n < 31 → Next k n
    laid : Laid b k → Next k 0

  next : {n : ℕ} (k : ℕ) → FirstLaid b k → k < raters b → Finds (table_checks b (suc k) (end_after b k)) n → Next k n
  unfolding table_checks end_after
  next k p h (other e) = cut (elsewhere k p h e)
  next k p h (same s (over e)) = cut (header k p h s e)
  next k p h (same s (pass w (over e))) = low 6 (omega arith) (omega arith)
  next k p h (same s (pass w (pass g (over e)))) = low 6 (omega arith) (omega arith)
  next k p h (same s (pass w (pass g (pass f (over e))))) = low 7 (omega arith) (omega arith)
  next k p h (same s (pass w (pass g (pass f (pass d (other e)))))) = low 7 (omega arith) (omega arith)
  next k p h (same s (pass w (pass g (pass f (pass d (same z (over e))))))) =
      cut (rows k p h (record { start = s; whole = w; some = g; few = f; kind = d; zeros = z }) (rw s e))
  next k p h (same s (pass w (pass g (pass f (pass d (same z (pass i none))))))) =
      laid (record { headed = record { start = s; whole = w; some = g; few = f; kind = d; zeros = z }; inside = rw s i })

  high : {n : ℕ} → WrongCut b n → 31 ≤ n
  high (elsewhere k p h e) = omega arith
  high (header k p h s e) = omega arith
  high (rows k p h t e) = omega arith
  high (leftover p e) = omega arith

  -- a number from 31 on that the first of two faults has
  meant_next : {k x n : ℕ} (rest : ℕ) → Next k x → 31 ≤ n → first_fault x rest ≡ n → (Laid b k → rest ≡ n → WrongCut b n) → WrongCut b n
  unfolding first_fault
  meant_next rest (cut {n = x} c) h e go = let s = first_some x rest (λ z. omega (arith, high c)) in rw (← (sym s ∙ e)) c
  meant_next rest (low x s l) h e go = absurd (omega (arith, first_some x rest (λ z. omega arith)))
  meant_next rest (laid t) h e go = go t e

  meant_last : {n x : ℕ} → FirstLaid b (raters b) → end_after b (raters b) ≤ length b → 31 ≤ n
      → Finds (equal (end_after b (raters b)) (length b) leftover_fault ∷ []) x → x ≡ n → WrongCut b n
  meant_last p inside h (other e) f = rw (← f) (leftover p (omega arith))
  meant_last p inside h (same e none) f = absurd (omega arith)

  one_more : (k : ℕ) → FirstLaid b k → Laid b k → FirstLaid b (suc k)
  one_more k p t i l = elim (dec_le (suc i) k) [ yes lt ↦ p i lt | no ge ↦ let s : i ≡ k = omega arith in rw s t ]

  meant : (m k n : ℕ) → k + m ≡ raters b → FirstLaid b k → end_after b k ≤ length b → 31 ≤ n
      → tables_fault_from b m (suc k) (end_after b k) ≡ n → WrongCut b n
  unfolding tables_fault_from end_after
  meant zero k n e p inside h f =
      let all : k ≡ raters b = omega arith in
      meant_last (rw all at p) (rw all at inside) h (finds _) (rw all at f)
  meant (suc m) k n e p inside h f =
      meant_next
      _
      (next k p (omega arith) (finds _))
      h
      f
      (λ t g. meant m (suc k) n (omega arith) (one_more k p t) t.inside h (rw t.headed.start g))

-- Every other check has another number than these three.

abbrev pub is_uncut : ℕ → Bool
is_uncut n = not (is_cut n)

pub cut_number : (n : ℕ) → 31 ≤ n → n ≤ 33 → T (is_uncut n) → ⊥
cut_number n h k t = rw (le-leb 31 n h, le-leb n 33 k) at t

uncut_table : (t : Table) → T (is_uncut (table_fault_lem t))
unfolding table_fault_lem row_checks later_checks total_checks all_pass
uncut_table t = first_passes is_uncut _ _ (rows_pass is_uncut tt (λ p g. tt) t) (fault_passes is_uncut (total_checks t) tt)

pub cut_told : (b : List ℕ) (j n : ℕ) → fault (head_checks b) ≡ 0 → 1 ≤ j → j ≤ raters b → WrongCut b n → read_fault b j ≡ n
unfolding read_fault rater_checks
cut_told b j n h some few c =
    sym (go h (go (sym (found (pass some (pass few none)))) (stop _ (told b c) (λ z. omega (arith, high b c)))))

pub cut_meant : (b : List ℕ) (j n : ℕ) → 31 ≤ n → n ≤ 33 → read_fault b j ≡ n → WrongCut b n
unfolding read_fault head_checks rater_checks all_pass end_after
cut_meant b j n h l e =
    let k = cut_number n h l in
    let head = past is_uncut _ _ n (fault_passes is_uncut (head_checks b) tt) k e in
    let rater = past is_uncut _ _ n (fault_passes is_uncut (rater_checks b j) tt) k head.1 in
    let tables = earlier is_uncut _ _ n (uncut_table (table_of_rater b j)) k rater.1 in
    let room = held (head_checks b) head.0 in
    meant b (raters b) 0 n (omega arith) (λ i l. absurd (omega arith)) (omega arith) h tables
