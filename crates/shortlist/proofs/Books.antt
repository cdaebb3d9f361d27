-- The claims of a book: who is listed of its raters, by the tables as they stand in it.
use Prim.Native.Nat.{ℕ, ◌+◌, ◌-◌, ◌≤◌, ◌<◌}
use mathlib.Core.Path.{◌≡◌, refl, sym, ◌∙◌}
use mathlib.Core.Logic.{◌↔◌}
use mathlib.Core.List.{List, [], ◌∷◌}
use native.Mathlib.Omega.{arith}
use borrow.Author.Tests.{le-leb}
use lib.ListN.{length}
use Rattle.table.specs.Table.{Table, Every, defaults_in, survivors_in}
use Rattle.table.proofs.Every.{every_at, at_every}
use Rattle.book.specs.Checks.{at_most, fault}
use Rattle.book.specs.Layout.{raters, layout_fault}
use Rattle.book.specs.Rows.{table_of_rater}
use Rattle.book.specs.Reading.{read_fault, all_tables, book_fault}
use Rattle.book.proofs.Checks.{held, held_first, found, none, pass, go}
use Rattle.book.proofs.Whole.{laid, count_tables, table_at, whole_read}
use Rattle.cutoff.specs.Cutoff.{AtLeastAsGood}
use Rattle.shortlist.specs.Shortlist.{Better, unbeaten, listed}
use Rattle.shortlist.specs.Checks.{some_checks, shortlist_fault}
use Rattle.shortlist.specs.Claims.{Comparable, Rater, Listed, InBookOrder}
use Rattle.shortlist.proofs.Numbers.{numbers_le, numbers_rise}
use Rattle.shortlist.proofs.Listed.{Totalled, table_no, listed-unbeaten, equals_together, unlisted_beaten, never_empty}
use Rattle.shortlist.proofs.Totals.{level_same}
use Rattle.shortlist.proofs.Accepted.{Accepted, accepted}

-- The table of a rater is one of the tables of the book.

no_is : (b : List ℕ) (i : ℕ) → Rater b i → table_no (all_tables b) i ≡ table_of_rater b i
no_is b i r = let e : 1 + (i - 1) ≡ i = omega arith in rw e at (table_at b 1 (raters b) (i - 1) (omega arith))

pub every_rater : (P : Table → Type 0) (b : List ℕ) → Every P (all_tables b) → (i : ℕ) → Rater b i → P (table_of_rater b i)
every_rater P b h i r = rw (no_is b i r) at (every_at P [] (all_tables b) h (i - 1) (omega (arith, count_tables b 1 (raters b))))

raters_every : (P : Table → Type 0) (b : List ℕ) → ((i : ℕ) → Rater b i → P (table_of_rater b i)) → Every P (all_tables b)
raters_every P b h =
    at_every P [] (all_tables b)
    (λ k l.
    let small : k < raters b = omega (arith, count_tables b 1 (raters b)) in
    rw (table_at b 1 (raters b) k small) (h (1 + k) (omega arith, omega arith)))

-- Who is listed.
module _ (b : List ℕ) (a : Accepted b) where
  abbrev ts : List Table
  ts = all_tables b

  count : length (all_tables b) ≡ raters b
  count = count_tables b 1 (raters b)

  pub book_unbeaten : (i : ℕ) → Listed b i ↔ (Rater b i × ((j : ℕ) → Rater b j → Better (table_of_rater b j) (table_of_rater b i) → ⊥))
  book_unbeaten i =
      let l = listed-unbeaten a.defaults a.survivors (all_tables b) a.totalled i in (
        λ h.
            let p = l.0 h in
            let r : Rater b i = (p.0.0, omega (arith, p.0.1, count)) in
            (r, λ j q better. p.1 j (q.0, omega (arith, q.1, count)) (rw (no_is b j q, no_is b i r) better)),
        λ h. l.1 (
          (h.0.0, omega (arith, h.0.1, count)),
          λ j q better.
              let r : Rater b j = (q.0, omega (arith, q.1, count)) in
              h.1 j r (rw (no_is b j r, no_is b i h.0) at better),
        ),
      )

  pub book_equals : (i j : ℕ) → Rater b i → Rater b j
      → AtLeastAsGood (table_of_rater b i) (table_of_rater b j) → AtLeastAsGood (table_of_rater b j) (table_of_rater b i) → Listed b i ↔ Listed b j
  book_equals i j p q f g =
      equals_together a.defaults a.survivors (all_tables b) a.totalled i j (p.0, omega (arith, p.1, count)) (q.0, omega (arith, q.1, count))
      (rw (no_is b i p, no_is b j q) f) (rw (no_is b i p, no_is b j q) g)

  pub book_beaten : (i : ℕ) → Rater b i → (Listed b i → ⊥) → (j : ℕ) × Listed b j × Better (table_of_rater b j) (table_of_rater b i)
  book_beaten i r h =
      let (j, on, better) = unlisted_beaten a.defaults a.survivors (all_tables b) a.totalled i (r.0, omega (arith, r.1, count)) h in
      (j, on, rw (no_is b j ((book_unbeaten j).0 on).0, no_is b i r) at better)

  pub book_some : (1 ≤ length (listed (all_tables b))) × (length (listed (all_tables b)) ≤ raters b)
  unfolding listed book_fault
  book_some =
      let some = (laid b (held_first _ _ a.whole).0).some in (
        never_empty a.defaults a.survivors (all_tables b) a.totalled (omega (arith, some, count)),
        omega (arith, numbers_le (unbeaten (all_tables b)) 1 (all_tables b), count),
      )

pub in_order : (b : List ℕ) → InBookOrder (listed (all_tables b))
unfolding listed
in_order b = numbers_rise (unbeaten (all_tables b)) (all_tables b)

-- What an accepted call says of the book.

pub not_refused : (b : List ℕ) (n : ℕ) → shortlist_fault b n ≡ 0 → Accepted b
unfolding shortlist_fault
not_refused b n e = let f = held_first _ _ e in accepted b f.0 (held_first _ _ f.1).0

pub comparable : (b : List ℕ) (n : ℕ) → shortlist_fault b n ≡ 0 → Comparable b × (raters b ≤ n)
unfolding shortlist_fault book_fault
comparable b n e =
    let a = not_refused b n e in
    let f = held_first _ _ e in
    let l = laid b (held_first _ _ f.0).0 in
    let room = held (at_most (raters b) n 13 ∷ []) (held_first _ _ f.1).1 in
    let total = every_rater (Totalled a.defaults a.survivors) b a.totalled in (
      record {
        some = l.some;
        few = l.few;
        loads = ((whole_read b).0 a.whole).1;
        mixed = λ j from to. record {
          counted = (total j (from, to)).counted;
          defaulted = every_rater (λ t. 1 ≤ defaults_in t) b a.some_defaults j (from, to);
          survived = every_rater (λ t. 1 ≤ survivors_in t) b a.some_survivors j (from, to);
        };
        same = λ i j from to from' to'. (
          (total i (from, to)).defaults ∙ sym (total j (from', to')).defaults,
          (total i (from, to)).survivors ∙ sym (total j (from', to')).survivors,
        );
      },
      room.0,
    )

-- The other way.

some_pass : (count : Table → ℕ) (number : ℕ) (ts : List Table) → Every (λ t. 1 ≤ count t) ts → 0 ≡ fault (some_checks count number ts)
unfolding some_checks fault
some_pass count number [] h = refl
some_pass count number (t ∷ ts) h = rw (le-leb 1 (count t) h.0) (some_pass count number ts h.1)

laid_out : (b : List ℕ) → read_fault b 1 ≡ 0 → layout_fault b ≡ 0
unfolding read_fault layout_fault
laid_out b e =
    let h = held_first _ _ e in
    sym (go h.0 (sym (held_first _ _ (held_first _ _ h.1).1).0))

pub taken : (b : List ℕ) (n : ℕ) → Comparable b → raters b ≤ n → shortlist_fault b n ≡ 0
unfolding shortlist_fault
taken b n c room =
    let D = defaults_in (table_of_rater b 1) in
    let S = survivors_in (table_of_rater b 1) in
    let whole = (whole_read b).1 (laid_out b (c.loads 1 (omega arith) c.some), c.loads) in
    sym
    (go whole
    (go
    (sym
    (go (sym (some_pass defaults_in 23 (all_tables b) (raters_every (λ t. 1 ≤ defaults_in t) b (λ i r. (c.mixed i r.0 r.1).defaulted))))
    (go (sym (some_pass survivors_in 24 (all_tables b) (raters_every (λ t. 1 ≤ survivors_in t) b (λ i r. (c.mixed i r.0 r.1).survived))))
    (go (sym (level_same defaults_in D (all_tables b) (raters_every (λ t. D ≡ defaults_in t) b (λ i r. (c.same 1 i (omega arith) c.some r.0 r.1).0))))
    (level_same survivors_in S (all_tables b) (raters_every (λ t. S ≡ survivors_in t) b (λ i r. (c.same 1 i (omega arith) c.some r.0 r.1).1)))))))
    (found (pass room none))))
