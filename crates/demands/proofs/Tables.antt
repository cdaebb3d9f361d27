-- The worked tables, by computation.
use Prim.Native.Nat.{ℕ, ◌≤◌, ◌<◌}
use mathlib.Core.Path.{◌≡◌, refl, sym, ◌∙◌}
use mathlib.Core.Bool.{Bool, true, false}
use mathlib.Core.List.{[], ◌∷◌}
use native.Mathlib.Omega.{arith}
use lib.Dec.{lit<, lit≤}
use lib.ListN.{replicate}
use Rattle.table.specs.Table.{Table, Every, Counted, Mixed, occupied, survivors_in, defaults_in, obligors_in}
use Rattle.table.specs.Place.{grades_from, table_of, place_of}
use Rattle.table.proofs.Placed.{table_placed}
use Rattle.book.specs.Bytes.{two_at_lem, four_at_lem, two_bytes, four_bytes}
use Rattle.book.specs.Checks.{fault, first_fault}
use Rattle.book.specs.Layout.{head_checks, rater_checks, table_checks, tables_fault_from, layout_fault}
use Rattle.book.specs.Rows.{grade_in, grades_in, tables_in, row_checks, later_checks, later_fault, rows_fault, total_checks, table_fault_lem}
use Rattle.book.specs.Reading.{read_fault, table_faults, book_fault}
use Rattle.book.specs.Encode.{encode_grade, encode_grades, encode_table, encode_tables, offsets, ends_at, encode}
use Rattle.pooling.specs.Fraction.{ratio, sum}
use Rattle.pooling.specs.Pool.{front, pool}
use Rattle.pooling.specs.Band.{band_from}
use Rattle.pooling.specs.Numbers.{grades_of_lem, numbers_of_lem, repeating, pooled_numbers}
use Rattle.pooling.specs.Regression.{rates_in}
use Rattle.cutoff.specs.Best.{best}
use Rattle.cutoff.specs.Cutoff.{turned_away, cost, cheapest_of}
use Rattle.cutoff.specs.Verdict.{all, calls_first, calls_second, never_dearer_lem, DearerAt, IsVerdict}
use Rattle.cutoff.specs.declared.Price.{Price}
use Rattle.cutoff.specs.declared.Verdict.{Verdict}
use Rattle.cutoff.specs.declared.Verdict.TheVariants.{Equal, First, Second, Crossing}
use Rattle.cutoff.proofs.Cost.{cheapest_cost, cheapest_is, is_cheapest}
use Rattle.shares.specs.Shares.{share_cost, cheapest_share, Below}
use Rattle.shares.specs.Verdict.{never_dearer_by_shares, DearerByShares, IsVerdictByShares}
use Rattle.shares.proofs.Shares.{cheapest-share, dearer_by_shares}
use Rattle.measures.specs.Pairs.{concordant, discordant, tied}
use Rattle.measures.specs.Measures.{measures_of}
use Rattle.shortlist.specs.Shortlist as shortlist
use Rattle.shortlist.specs.Shortlist.{unbeaten, listed}
use Rattle.shortlist.specs.Checks as listing
use Rattle.shortlist.specs.Checks.{some_checks, equal_checks, same_checks, totals_fault_lem, shortlist_fault}
use Rattle.refusals.specs.Answers.{Answer, accepted, refused, Limited}
use Rattle.calls.specs.Calls.{load, clear, change_fault, compare_fault, pair_checks}
use Rattle.events.specs.declared.Event.TheVariants.{SurvivorEnters, SurvivorDefaults}
use Rattle.events.specs.Events.{table_after, event_fault}
use Rattle.calls.specs.Shares.{shares_fault, shares_checks}
use Rattle.desk.specs.Calls.{change, number_of}
use Rattle.demands.specs.History.{desk_from, desk_after_lem, held_from, held, table}
use Rattle.demands.specs.Worked as worked
use Rattle.demands.specs.Worked.{load_k, booking, table_k_with}
use Rattle.demands.specs.Worked.{row, book_k, table_k, empty, book_of, swapped_k, five, fine, coarse, worst_apart, best_apart, price, Between}
use Rattle.demands.specs.Worked.{one_grade, coarse_and_fine, other_defaults, other_survivors}
use Rattle.demands.specs.Worked.{coarse_twice, best_apart_twice, many_survived, many_defaulted, OnShares}

-- Books, as they stand in the bytes: K, those of R-4's case line, and K with two rates swapped.
read :
    (held 1 (change 1 (load book_k 1) ∷ []) ≡ table table_k)
    × (held 1 (change 1 (load (book_of 10 2) 1) ∷ []) ≡ table (empty ∷ row 10 2 ∷ []))
    × (number_of (desk_after_lem []) (change 1 (load (book_of 0 0) 1)) ≡ 9)
    × (number_of (desk_after_lem []) (change 1 (load swapped_k 1)) ≡ 34)
unfolding desk_from held_from change_fault read_fault head_checks rater_checks table_checks tables_fault_from grade_in grades_in row_checks later_checks later_fault rows_fault total_checks table_fault_lem fault first_fault two_at_lem four_at_lem two_bytes four_bytes obligors_in occupied
read = (refl, refl, refl, refl)

-- R-8: K loaded, an event booked at a grade of it, and the place cleared.
booked :
    (held 1 (load_k ∷ booking SurvivorDefaults 2 ∷ []) ≡ table (table_k_with 10 2))
    × ((desk_after_lem (load_k ∷ booking SurvivorDefaults 2 ∷ [])).first.pooled ≡ 8 ∷ 40 ∷ 11 ∷ 8 ∷ 40 ∷ 11 ∷ 8 ∷ 40 ∷ 11 ∷ replicate 111 0)
    × (desk_after_lem (load_k ∷ booking SurvivorDefaults 2 ∷ change 1 clear ∷ []) ≡ desk_after_lem [])
    × (held 1 (load_k ∷ booking SurvivorEnters 4 ∷ []) ≡ table table_k)
unfolding desk_from held_from change_fault read_fault head_checks rater_checks table_checks tables_fault_from grade_in grades_in row_checks later_checks later_fault rows_fault total_checks table_fault_lem event_fault table_after fault first_fault two_at_lem four_at_lem obligors_in occupied place_of grades_from pool front band_from grades_of_lem numbers_of_lem repeating pooled_numbers
booked = (refl, refl, refl, refl)

-- R-7: lists of raters, a book of two, and totals that differ.
lists :
    (listed (five ∷ []) ≡ 1 ∷ [])
    × (listed (coarse ∷ coarse ∷ coarse ∷ []) ≡ 1 ∷ 2 ∷ 3 ∷ [])
    × (listed (one_grade ∷ coarse ∷ fine ∷ []) ≡ 3 ∷ [])
    × (listed (fine ∷ coarse ∷ one_grade ∷ []) ≡ 1 ∷ [])
    × (listed (coarse ∷ fine ∷ one_grade ∷ fine ∷ []) ≡ 2 ∷ 4 ∷ [])
    × (listed (worst_apart ∷ best_apart ∷ []) ≡ 1 ∷ 2 ∷ [])
    × (listed (one_grade ∷ worst_apart ∷ best_apart ∷ []) ≡ 2 ∷ 3 ∷ [])
unfolding listed shortlist.numbers_of_lem unbeaten all cheapest_of best cost turned_away pool front occupied defaults_in survivors_in
lists = (refl, refl, refl, refl, refl, refl, refl)

listing-book :
    (listing.buffer_after coarse_and_fine (7 ∷ 8 ∷ 9 ∷ []) ≡ 2 ∷ 8 ∷ 9 ∷ [])
    × (shortlist_fault coarse_and_fine 2 ≡ 0)
    × (shortlist_fault coarse_and_fine 1 ≡ 13)
    × (shortlist_fault swapped_k 1 ≡ 34)
unfolding shortlist_fault listing.buffer_or book_fault layout_fault table_faults some_checks equal_checks same_checks encode encode_tables encode_table encode_grades encode_grade offsets ends_at tables_in head_checks table_checks tables_fault_from grade_in grades_in row_checks later_checks later_fault rows_fault total_checks table_fault_lem fault first_fault two_at_lem four_at_lem two_bytes four_bytes obligors_in occupied listed shortlist.numbers_of_lem unbeaten all cheapest_of best cost turned_away pool front defaults_in survivors_in
listing-book = (refl, refl, refl, refl)

totals :
    (totals_fault_lem (coarse ∷ coarse ∷ other_defaults ∷ []) ≡ 25)
    × (totals_fault_lem (other_survivors ∷ coarse ∷ coarse ∷ []) ≡ 25)
unfolding some_checks equal_checks same_checks fault first_fault defaults_in survivors_in
totals = (refl, refl)

-- Verdicts.

-- an answer of the kind that calls the first, and the second, at least as good, or not
abbrev OfKind : Bool → Bool → Answer Verdict → Type 0
OfKind true true r = r ≡ accepted Equal
OfKind true false r = (p : Price) × (r ≡ accepted (First p))
OfKind false true r = (p : Price) × (r ≡ accepted (Second p))
OfKind false false r = (p q : Price) × (r ≡ accepted (Crossing p q))

kind_of : (v : Verdict) → OfKind (calls_first v) (calls_second v) (accepted v)
kind_of Equal = refl
kind_of (First p) = (p, refl)
kind_of (Second p) = (p, refl)
kind_of (Crossing p q) = (p, q, refl)

-- an answer that is limited to verdicts of one kind
kind : {P : Verdict → Type 0} {n : ℕ} {x y : Bool} → n ≡ 0 → ((v : Verdict) → P v → (calls_first v ≡ x) × (calls_second v ≡ y))
    → (r : Answer Verdict) → Limited n P r → OfKind x y r
kind e f (accepted v) c = let i = f v c.1 in rw (i.0, i.1) at (kind_of v)
kind e f (refused n) c = absurd (c.1 (sym c.0 ∙ e))

module _ (t₁ t₂ : Table) where
  kind_by_counts : (v : Verdict) → IsVerdict (table_of (place_of t₁)) (table_of (place_of t₂)) v
      → (calls_first v ≡ never_dearer_lem t₁ t₂) × (calls_second v ≡ never_dearer_lem t₂ t₁)
  kind_by_counts v c = let i : IsVerdict t₁ t₂ v = simp table_placed at c in (i.first, i.second)

  allowed : compare_fault (place_of t₁) (place_of t₂) ≡ 0 → (v : Verdict) → IsVerdict t₁ t₂ v → Between t₁ t₂ (accepted v)
  allowed e v i = (e, simp table_placed i)

  kind_by_shares : (v : Verdict) → IsVerdictByShares (table_of (place_of t₁)) (table_of (place_of t₂)) v
      → (calls_first v ≡ never_dearer_by_shares t₁ t₂) × (calls_second v ≡ never_dearer_by_shares t₂ t₁)
  kind_by_shares v c = let i : IsVerdictByShares t₁ t₂ v = simp table_placed at c in (i.first, i.second)

  allowed_shares : shares_fault (place_of t₁) (place_of t₂) ≡ 0 → (v : Verdict) → IsVerdictByShares t₁ t₂ v → OnShares t₁ t₂ (accepted v)
  allowed_shares e v i = (e, simp table_placed i)

dearer : (t₁ t₂ : Table) (p : Price) → p.u ≤ 1_000_000 → p.v ≤ 1_000_000
    → cheapest_cost t₂ p.u p.v < cheapest_cost t₁ p.u p.v → DearerAt t₁ t₂ p
dearer t₁ t₂ p u v h = record {
  missed = u;
  turned-away = v;
  more = λ c₁ c₂ i₁ i₂. omega (arith, (is_cheapest t₁ p.u p.v c₁).0 i₁, (is_cheapest t₂ p.u p.v c₂).0 i₂);
}

mixed : {t : Table} → Every Counted t → 1 ≤ defaults_in t → 1 ≤ survivors_in t → Mixed t
mixed counted defaulted survived = record { counted = counted; defaulted = defaulted; survived = survived }

dearer_shares : (t₁ t₂ : Table) → Mixed t₁ → Mixed t₂ → (p : Price) → p.u ≤ 2_500_000_000 → p.v ≤ 2_500_000_000
    → Below (cheapest_share t₂ p.u p.v) (cheapest_share t₁ p.u p.v) → DearerByShares t₁ t₂ p
dearer_shares t₁ t₂ mixed₁ mixed₂ p u v h = record {
  missed = u;
  turned-away = v;
  more = dearer_by_shares t₁ t₂ mixed₁ mixed₂ p.u p.v
      (λ k. omega (arith, k _ _ (cheapest-share t₁ p.u p.v) (cheapest-share t₂ p.u p.v)));
}

absurd_less : {n : ℕ} → n < n → ⊥
absurd_less h = omega arith

pub Worked : worked.Worked
unfolding pool front band_from grades_of_lem numbers_of_lem occupied repeating pooled_numbers rates_in defaults_in survivors_in obligors_in concordant discordant tied measures_of turned_away cost best cheapest_of all compare_fault pair_checks shares_fault shares_checks share_cost cheapest_share sum ratio row_checks later_checks later_fault rows_fault total_checks table_fault_lem event_fault table_after fault first_fault place_of grades_from
Worked = record {
  a_read = read.0;
  a_pooled = refl;
  a_gini = refl;
  b = refl;
  c = refl;
  d = refl;
  e_pairs = (refl, refl, refl);
  e_gini = refl;
  e_roc = refl;
  e_pietra = (refl, refl);
  e_bands = refl;
  f_gini = refl;
  f_pietra = (refl, refl);
  r1-plus = (refl, refl, refl, refl);
  r1-minus = (refl, refl, refl, refl);
  g = kind refl (kind_by_counts fine coarse);
  g_shown = allowed fine coarse refl _ record {
    first = refl;
    second = refl;
    first-dearer = λ p h. absurd h;
    second-dearer = λ p h. rw h (dearer coarse fine (price 1 1) (lit≤ tt) (lit≤ tt) (lit< tt));
  };
  h = kind refl (kind_by_counts worst_apart best_apart);
  h_shown = allowed worst_apart best_apart refl _ record {
    first = refl;
    second = refl;
    first-dearer = λ p h. rw h (dearer worst_apart best_apart (price 1 1) (lit≤ tt) (lit≤ tt) (lit< tt));
    second-dearer = λ p h. rw h (dearer best_apart worst_apart (price 1 3) (lit≤ tt) (lit≤ tt) (lit< tt));
  };
  h_first_dearer = (cheapest_is worst_apart 1 1, cheapest_is best_apart 1 1);
  h_second_dearer = (cheapest_is worst_apart 1 3, cheapest_is best_apart 1 3);
  i = kind refl (kind_by_counts five five);
  i_shown = allowed five five refl _ record {
    first = refl;
    second = refl;
    first-dearer = λ p h. absurd h;
    second-dearer = λ p h. absurd h;
  };
  k_loaded = read.1;
  k_refused = read.2;
  r4_best = refl;
  r4_worst = refl;
  r4_inside = refl;
  r4_between = refl;
  r4_bands = refl;
  r4_scale = refl;
  r4_cheapest = refl;
  r4_pietra = refl;
  r5_swapped = read.3;
  r5_equal = refl;
  r5_second = refl;
  r5_last = refl;
  r5_empty = refl;
  r5_behind_empty = refl;
  r6_equal = kind refl (kind_by_shares coarse coarse_twice);
  r6_equal_shown = allowed_shares coarse coarse_twice refl _ record {
    first = refl;
    second = refl;
    first-dearer = λ p h. absurd h;
    second-dearer = λ p h. absurd h;
  };
  r6_counts = refl;
  r6_first = kind refl (kind_by_shares fine coarse_twice);
  r6_first_shown = allowed_shares fine coarse_twice refl _ record {
    first = refl;
    second = refl;
    first-dearer = λ p h. absurd h;
    second-dearer = λ p h. rw h (dearer_shares coarse_twice fine (mixed (lit≤ tt, (lit≤ tt, tt)) (lit≤ tt) (lit≤ tt))
        (mixed (lit≤ tt, (lit≤ tt, (lit≤ tt, tt))) (lit≤ tt) (lit≤ tt)) (price 1 1) (lit≤ tt) (lit≤ tt) (lit< tt));
  };
  r6_crossing = kind refl (kind_by_shares worst_apart best_apart_twice);
  r6_crossing_shown = allowed_shares worst_apart best_apart_twice refl _ record {
    first = refl;
    second = refl;
    first-dearer = λ p h. rw h (dearer_shares worst_apart best_apart_twice (mixed (lit≤ tt, (lit≤ tt, tt)) (lit≤ tt) (lit≤ tt))
        (mixed (lit≤ tt, (lit≤ tt, tt)) (lit≤ tt) (lit≤ tt)) (price 1 1) (lit≤ tt) (lit≤ tt) (lit< tt));
    second-dearer = λ p h. rw h (dearer_shares best_apart_twice worst_apart (mixed (lit≤ tt, (lit≤ tt, tt)) (lit≤ tt) (lit≤ tt))
        (mixed (lit≤ tt, (lit≤ tt, tt)) (lit≤ tt) (lit≤ tt)) (price 1 3) (lit≤ tt) (lit≤ tt) (lit< tt));
  };
  r6_unlike = kind refl (kind_by_shares many_survived many_defaulted);
  r6_unlike_turned = kind refl (kind_by_shares many_defaulted many_survived);
  r6_unlike_costs = (cheapest-share many_survived 1 1, cheapest-share many_defaulted 1 1);
  r6_nothing_shown = λ q c.
      let i : IsVerdictByShares worst_apart best_apart_twice (Crossing (price 0 0) q) = simp table_placed at c.1 in
      absurd_less ((i.first-dearer (price 0 0) refl).more _ _ (cheapest-share worst_apart 0 0) (cheapest-share best_apart_twice 0 0));
  r6_high_missed = λ q c.
      let i : IsVerdictByShares worst_apart best_apart_twice (Crossing (price 2_500_000_001 1) q) = simp table_placed at c.1 in
      absurd (omega (arith, (i.first-dearer (price 2_500_000_001 1) refl).missed));
  r6_high_turned_away = λ q c.
      let i : IsVerdictByShares worst_apart best_apart_twice (Crossing (price 1 2_500_000_001) q) = simp table_placed at c.1 in
      absurd (omega (arith, (i.first-dearer (price 1 2_500_000_001) refl).turned-away));
  r6_costs = (cheapest-share worst_apart 1 3, cheapest-share best_apart_twice 1 3);
  r6_most = refl;
  r6_first_larger = refl;
  r6_second_larger = refl;
  r7_one = lists.0;
  r7_equal = lists.1;
  r7_chain = (lists.2, lists.3);
  r7_two_best = lists.4;
  r7_crossing = (lists.5, lists.6);
  r7_buffer = listing-book.0;
  r7_room = (listing-book.1, listing-book.2);
  r7_swapped = listing-book.3;
  r7_25 = totals;
  r8_enters = refl;
  r8_leaves = refl;
  r8_defaults = refl;
  r8_removed = refl;
  r8_held = booked.0;
  r8_list = booked.1;
  r8_dropped = booked.2;
  r8_refused = booked.3;
  r8_36 = (refl, refl, refl);
  r8_37_survivors = (refl, refl);
  r8_37_defaulted = (refl, refl);
  r8_empty = (refl, refl);
  r8_filled = refl;
  r8_last = (refl, refl);
  r8_last_defaults = refl;
  r8_one_of_two = (refl, refl);
  r8_38 = (refl, refl);
  r8_room = refl;
  r8_crowd_defaults = refl;
}
