-- The worked tables of document 01 that bear a star, and those of document 02's requests, as rows of one theorem about the definitions.
use Rattle.std.specs.Prelude.{ℕ, ◌≡◌, List, [], ◌∷◌, pos, negsuc, replicate}
use Rattle.std.proofs.lemmas.List.Edits.{sets}
use Rattle.table.specs.Table.{Table, Grade}
use Rattle.table.specs.Place.{place_of}
use Rattle.events.specs.declared.Event.{Event}
use Rattle.events.specs.declared.Event.TheVariants.{SurvivorEnters, SurvivorLeaves, SurvivorDefaults, DefaultedRemoved}
use Rattle.events.specs.Events.{table_after, event_fault}
use Rattle.book.specs.Bytes.{four_bytes}
use Rattle.book.specs.Rows.{table_fault_lem}
use Rattle.book.specs.Encode.{encode}
use Rattle.pooling.specs.Fraction.{ratio}
use Rattle.pooling.specs.Pool.{pooled_scale}
use Rattle.pooling.specs.Numbers.{pooled_into}
use Rattle.pooling.specs.Regression.{pooled_rates}
use Rattle.cutoff.specs.Cutoff.{IsCheapest, cheapest_of}
use Rattle.cutoff.specs.declared.Price.{Price}
use Rattle.cutoff.specs.declared.Verdict.{Verdict}
use Rattle.cutoff.specs.declared.Verdict.TheVariants.{Equal, First, Second, Crossing}
use Rattle.shares.specs.Shares.{IsCheapestShare}
use Rattle.measures.specs.Pairs.{concordant, discordant, tied}
use Rattle.measures.specs.Measures.{height, measures_of}
use Rattle.shortlist.specs.Shortlist.{listed}
use Rattle.shortlist.specs.Checks as listing
use Rattle.shortlist.specs.Checks.{totals_fault_lem, shortlist_fault}
use Rattle.refusals.specs.Answers.{Answer, accepted}
use Rattle.calls.specs.Calls.{load, clear, event, compare_fault, Compared}
use Rattle.calls.specs.Shares.{shares_fault, ComparedByShares}
use Rattle.desk.specs.Calls.{Call, change, number_of}
use Rattle.demands.specs.History.{desk_after_lem, held, table}

-- "Rows are (n, d)": what a grade announces plays no part, save in book K and in R-5's tables.
abbrev pub row : ℕ → ℕ → Grade
row n d = record { obligors = n; defaults = d; announced = 0 }

-- "Book K: R 1, length 46, offset 6, 3 grades, kind 0, .. announced 100000, 150000, 200000."
abbrev pub book_k : List ℕ
book_k =
    1 ∷ 0 ∷ 46 ∷ 0 ∷ 6 ∷ 0 ∷ 3 ∷ 0 ∷ 0 ∷ 0
    ∷ 10 ∷ 0 ∷ 0 ∷ 0 ∷ 2 ∷ 0 ∷ 0 ∷ 0 ∷ 160 ∷ 134 ∷ 1 ∷ 0
    ∷ 10 ∷ 0 ∷ 0 ∷ 0 ∷ 1 ∷ 0 ∷ 0 ∷ 0 ∷ 240 ∷ 73 ∷ 2 ∷ 0
    ∷ 20 ∷ 0 ∷ 0 ∷ 0 ∷ 4 ∷ 0 ∷ 0 ∷ 0 ∷ 64 ∷ 13 ∷ 3 ∷ 0
    ∷ []

-- its table, with n obligors in the second grade, d of whom defaulted: 10 and 1
abbrev pub table_k_with : ℕ → ℕ → Table
table_k_with n d =
    record { obligors = 10; defaults = 2; announced = 100_000 }
    ∷ record { obligors = n; defaults = d; announced = 150_000 }
    ∷ record { obligors = 20; defaults = 4; announced = 200_000 }
    ∷ []

abbrev pub table_k : Table
table_k = table_k_with 10 1

-- R-4: a grade without obligors
abbrev pub empty : Grade
empty = row 0 0

-- a book of one table: an empty grade, and one of n obligors, d of whom defaulted
abbrev pub book_of : ℕ → ℕ → List ℕ
book_of n d =
    1 ∷ 0 ∷ 34 ∷ 0 ∷ 6 ∷ 0 ∷ 2 ∷ 0 ∷ 0 ∷ 0
    ∷ 0 ∷ 0 ∷ 0 ∷ 0 ∷ 0 ∷ 0 ∷ 0 ∷ 0 ∷ 0 ∷ 0 ∷ 0 ∷ 0
    ∷ n ∷ 0 ∷ 0 ∷ 0 ∷ d ∷ 0 ∷ 0 ∷ 0 ∷ 0 ∷ 0 ∷ 0 ∷ 0
    ∷ []

-- R-5: book K, where the rates of the first two grades, which stand at bytes 18 and 30, are swapped
abbrev pub swapped_k : List ℕ
swapped_k = sets (sets book_k 18 (four_bytes 150_000)) 30 (four_bytes 100_000)

-- a grade of n obligors that announces the rate p
abbrev pub announcing : ℕ → ℕ → Grade
announcing n p = record { obligors = n; defaults = 0; announced = p }

-- the table of document 002
abbrev pub five : Table
five = row 30 2 ∷ row 18 4 ∷ row 15 10 ∷ row 16 14 ∷ row 21 20 ∷ []

-- a scale that is upside down
abbrev pub reversed : Table
reversed = row 2 2 ∷ row 2 0 ∷ []

-- two scales whose curves are as far above the diagonal as below it: the defaults stand at both ends, and in the middle
abbrev pub ends_default : Table
ends_default = row 1 1 ∷ row 2 0 ∷ row 1 1 ∷ []

abbrev pub middle_defaults : Table
middle_defaults = row 1 0 ∷ row 2 2 ∷ row 1 0 ∷ []

-- three grades, and two over the same obligors
abbrev pub fine : Table
fine = row 2 0 ∷ row 2 1 ∷ row 2 2 ∷ []

abbrev pub coarse : Table
coarse = row 3 1 ∷ row 3 2 ∷ []

-- two scales that cross: one tells the worst obligor apart, one the best two
abbrev pub worst_apart : Table
worst_apart = row 5 2 ∷ row 1 1 ∷ []

abbrev pub best_apart : Table
best_apart = row 2 0 ∷ row 4 3 ∷ []

abbrev pub price : ℕ → ℕ → Price
price u v = record { u = u; v = v }

-- What compare may answer where the first place holds t₁ and the second t₂.
abbrev pub Between : Table → Table → Answer Verdict → Type 0
Between t₁ t₂ r = Compared (place_of t₁) (place_of t₂) r

-- R-6: `coarse` and `best_apart` twice over: each grade has twice the obligors and twice the defaults
abbrev pub coarse_twice : Table
coarse_twice = row 6 2 ∷ row 6 4 ∷ []

abbrev pub best_apart_twice : Table
best_apart_twice = row 4 0 ∷ row 8 6 ∷ []

-- two scales with many survivors and with many defaults: D 2 and S 8, D 8 and S 2
abbrev pub many_survived : Table
many_survived = row 7 1 ∷ row 3 1 ∷ []

abbrev pub many_defaulted : Table
many_defaulted = row 5 4 ∷ row 5 4 ∷ []

-- What the comparison on shares may answer where the first place holds t₁ and the second t₂.
abbrev pub OnShares : Table → Table → Answer Verdict → Type 0
OnShares t₁ t₂ r = ComparedByShares (place_of t₁) (place_of t₂) r

-- R-7: one grade over the same obligors as `fine` and `coarse`; a book of `coarse` and `fine`
abbrev pub one_grade : Table
one_grade = row 6 3 ∷ []

abbrev pub coarse_and_fine : List ℕ
coarse_and_fine = encode (coarse ∷ fine ∷ [])

-- tables with other totals than `coarse`: in D, in S
abbrev pub other_defaults : Table
other_defaults = row 7 4 ∷ []

abbrev pub other_survivors : Table
other_survivors = row 7 3 ∷ []

-- R-8: book K, loaded into place 1; an event at a grade of it
abbrev pub load_k : Call
load_k = change 1 (load book_k 1)

abbrev pub booking : Event → ℕ → Call
booking e g = change 1 (event e g)

-- as many obligors as a table may have, one more than half of them in the second grade, and nobody in the third
abbrev pub crowd : Table
crowd = row 499_999 9 ∷ row 500_001 9 ∷ empty ∷ []

pub record Worked : Type 0 where
  -- K pools as printed.
  pub a_read : held 1 (change 1 (load book_k 1) ∷ []) ≡ table table_k
  pub a_pooled : pooled_into table_k [] ≡ 3 ∷ 20 ∷ 11 ∷ 3 ∷ 20 ∷ 11 ∷ 4 ∷ 20 ∷ 11 ∷ []
  pub a_gini : (measures_of table_k).gini ≡ record { numerator = pos 10; denominator = 231 }
  -- 6/30 in both; 8/30 in all three; 19/100
  pub b : pooled_rates (row 10 2 ∷ row 20 4 ∷ []) ≡ ratio 6 30 ∷ ratio 6 30 ∷ []
  pub c : pooled_rates (row 10 3 ∷ row 10 4 ∷ row 10 1 ∷ []) ≡ ratio 8 30 ∷ ratio 8 30 ∷ ratio 8 30 ∷ []
  pub d : pooled_rates (row 90 18 ∷ row 10 1 ∷ []) ≡ ratio 19 100 ∷ ratio 19 100 ∷ []
  -- 002
  pub e_pairs : (concordant five ≡ 2170) × (tied five ≡ 210) × (discordant five ≡ 120)
  pub e_gini : (measures_of five).gini ≡ record { numerator = pos 2050; denominator = 2500 }
  pub e_roc : (measures_of five).roc ≡ record { numerator = 4550; denominator = 5000 }
  pub e_pietra : ((measures_of five).pietra ≡ record { numerator = pos 1800; denominator = 2500 }) × ((measures_of five).cutoff ≡ 3)
  pub e_bands : pooled_into five [] ≡ 2 ∷ 30 ∷ 10 ∷ 4 ∷ 18 ∷ 12 ∷ 10 ∷ 15 ∷ 13 ∷ 14 ∷ 16 ∷ 14 ∷ 20 ∷ 21 ∷ 14 ∷ []
  -- Gini -4/4; by R-1, "Table f then reads −4/4 at g 1"
  pub f_gini : (measures_of reversed).gini ≡ record { numerator = negsuc 3; denominator = 4 }
  pub f_pietra : ((measures_of reversed).pietra ≡ record { numerator = negsuc 3; denominator = 4 }) × ((measures_of reversed).cutoff ≡ 1)
  -- R-1: "of two equal sizes at different g the smaller g also decides the sign": once for plus, once for minus
  pub r1-plus :
      (height ends_default 1 ≡ pos 2)
      × (height ends_default 2 ≡ negsuc 1)
      × ((measures_of ends_default).pietra ≡ record { numerator = pos 2; denominator = 4 })
      × ((measures_of ends_default).cutoff ≡ 1)
  pub r1-minus :
      (height middle_defaults 1 ≡ negsuc 1)
      × (height middle_defaults 2 ≡ pos 2)
      × ((measures_of middle_defaults).pietra ≡ record { numerator = negsuc 1; denominator = 4 })
      × ((measures_of middle_defaults).cutoff ≡ 1)
  -- First, and no other answer
  pub g : (r : Answer Verdict) → Between fine coarse r → (p : Price) × (r ≡ accepted (First p))
  pub g_shown : Between fine coarse (accepted (First (price 1 1)))
  -- Crossing, as two pairs of prices show
  pub h : (r : Answer Verdict) → Between worst_apart best_apart r → (p q : Price) × (r ≡ accepted (Crossing p q))
  pub h_shown : Between worst_apart best_apart (accepted (Crossing (price 1 1) (price 1 3)))
  pub h_first_dearer : IsCheapest worst_apart 1 1 2 × IsCheapest best_apart 1 1 1
  pub h_second_dearer : IsCheapest worst_apart 1 3 2 × IsCheapest best_apart 1 3 3
  -- Equal
  pub i : (r : Answer Verdict) → Between five five r → r ≡ accepted Equal
  pub i_shown : Between five five (accepted Equal)
  -- R-4: "n 0 loads if another grade is occupied"; all grades empty is 9
  pub k_loaded : held 1 (change 1 (load (book_of 10 2) 1) ∷ []) ≡ table (empty ∷ row 10 2 ∷ [])
  pub k_refused : number_of (desk_after_lem []) (change 1 (load (book_of 0 0) 1)) ≡ 9
  -- R-4, K with an empty grade: the best, the worst, inside the first block, between the two; two blocks of different bands; K with all of these
  pub r4_best : pooled_into (empty ∷ row 10 2 ∷ row 10 1 ∷ row 20 4 ∷ []) [] ≡ 3 ∷ 20 ∷ 11 ∷ 3 ∷ 20 ∷ 11 ∷ 3 ∷ 20 ∷ 11 ∷ 4 ∷ 20 ∷ 11 ∷ []
  pub r4_worst : pooled_into (row 10 2 ∷ row 10 1 ∷ row 20 4 ∷ empty ∷ []) [] ≡ 3 ∷ 20 ∷ 11 ∷ 3 ∷ 20 ∷ 11 ∷ 4 ∷ 20 ∷ 11 ∷ 4 ∷ 20 ∷ 11 ∷ []
  pub r4_inside : pooled_into (row 10 2 ∷ empty ∷ row 10 1 ∷ row 20 4 ∷ []) [] ≡ 3 ∷ 20 ∷ 11 ∷ 3 ∷ 20 ∷ 11 ∷ 3 ∷ 20 ∷ 11 ∷ 4 ∷ 20 ∷ 11 ∷ []
  pub r4_between : pooled_into (row 10 2 ∷ row 10 1 ∷ empty ∷ row 20 4 ∷ []) [] ≡ 3 ∷ 20 ∷ 11 ∷ 3 ∷ 20 ∷ 11 ∷ 3 ∷ 20 ∷ 11 ∷ 4 ∷ 20 ∷ 11 ∷ []
  pub r4_bands : pooled_into (row 100 1 ∷ empty ∷ row 10 1 ∷ []) [] ≡ 1 ∷ 100 ∷ 7 ∷ 1 ∷ 100 ∷ 7 ∷ 1 ∷ 10 ∷ 10 ∷ []
  pub r4_scale : pooled_scale (empty ∷ row 10 2 ∷ empty ∷ row 10 1 ∷ empty ∷ row 20 4 ∷ empty ∷ []) ≡ row 20 3 ∷ row 20 4 ∷ []
  -- "Cutoffs still number all grades": the worst two are turned away, one of them empty, and Pietra's is behind the empty one too.
  pub r4_cheapest : cheapest_of (row 10 0 ∷ row 10 10 ∷ empty ∷ []) 1 1 ≡ record { cutoff = 2; cost = 0 }
  pub r4_pietra : (measures_of (row 10 0 ∷ row 10 10 ∷ empty ∷ [])).cutoff ≡ 2
  -- R-5: K with two rates swapped; "equal neighbours pass, a fall does not": in the second row, in the last one, at an empty grade, behind one
  pub r5_swapped : number_of (desk_after_lem []) (change 1 (load swapped_k 1)) ≡ 34
  pub r5_equal : table_fault_lem (announcing 9 5 ∷ announcing 9 5 ∷ announcing 0 5 ∷ announcing 9 5 ∷ []) ≡ 0
  pub r5_second : table_fault_lem (announcing 9 5 ∷ announcing 9 4 ∷ announcing 9 6 ∷ []) ≡ 34
  pub r5_last : table_fault_lem (announcing 9 5 ∷ announcing 9 7 ∷ announcing 9 6 ∷ []) ≡ 34
  pub r5_empty : table_fault_lem (announcing 9 5 ∷ announcing 0 4 ∷ announcing 9 5 ∷ []) ≡ 34
  pub r5_behind_empty : table_fault_lem (announcing 9 5 ∷ announcing 0 7 ∷ announcing 9 6 ∷ []) ≡ 34
  -- R-6: a scale and the same twice over are Equal, where compare refuses with 25; g and h against the scale twice over: First, and Crossing as the
  -- same two pairs of prices show
  pub r6_equal : (r : Answer Verdict) → OnShares coarse coarse_twice r → r ≡ accepted Equal
  pub r6_equal_shown : OnShares coarse coarse_twice (accepted Equal)
  pub r6_counts : compare_fault (place_of coarse) (place_of coarse_twice) ≡ 25
  pub r6_first : (r : Answer Verdict) → OnShares fine coarse_twice r → (p : Price) × (r ≡ accepted (First p))
  pub r6_first_shown : OnShares fine coarse_twice (accepted (First (price 1 1)))
  pub r6_crossing : (r : Answer Verdict) → OnShares worst_apart best_apart_twice r → (p q : Price) × (r ≡ accepted (Crossing p q))
  pub r6_crossing_shown : OnShares worst_apart best_apart_twice (accepted (Crossing (price 1 1) (price 1 3)))
  -- D and S differ, within a table and between the two: First, and Second the other way round; with D and S exchanged they would cross
  pub r6_unlike : (r : Answer Verdict) → OnShares many_survived many_defaulted r → (p : Price) × (r ≡ accepted (First p))
  pub r6_unlike_turned : (r : Answer Verdict) → OnShares many_defaulted many_survived r → (p : Price) × (r ≡ accepted (Second p))
  pub r6_unlike_costs : IsCheapestShare many_survived 1 1 (ratio 12 16) × IsCheapestShare many_defaulted 1 1 (ratio 16 16)
  -- prices at which both cost the same, here nothing, show nothing
  pub r6_nothing_shown : (q : Price) → OnShares worst_apart best_apart_twice (accepted (Crossing (price 0 0) q)) → ⊥
  -- "The pairs carried have prices up to 2,500,000,000": neither price of a pair is higher
  pub r6_high_missed : (q : Price) → OnShares worst_apart best_apart_twice (accepted (Crossing (price 2_500_000_001 1) q)) → ⊥
  pub r6_high_turned_away : (q : Price) → OnShares worst_apart best_apart_twice (accepted (Crossing (price 1 2_500_000_001) q)) → ⊥
  -- what these cost at the second pair: 1 times 2/3, two of three defaults missed; 1 times 6/6, all defaults missed, or 3 times 2/6
  pub r6_costs : IsCheapestShare worst_apart 1 3 (ratio 6 9) × IsCheapestShare best_apart_twice 1 3 (ratio 36 36)
  -- "It takes tables of at most 100,000 obligors"; a larger one is 35 in either place
  pub r6_most : shares_fault (place_of (row 100_000 1 ∷ [])) (place_of (row 100_000 1 ∷ [])) ≡ 0
  pub r6_first_larger : shares_fault (place_of (row 100_001 1 ∷ [])) (place_of coarse) ≡ 35
  pub r6_second_larger : shares_fault (place_of coarse) (place_of (row 100_001 1 ∷ [])) ≡ 35
  -- R-7: one rater; all equal; a chain, from either end; two equal best; crossing ones, which also beat one grade
  pub r7_one : listed (five ∷ []) ≡ 1 ∷ []
  pub r7_equal : listed (coarse ∷ coarse ∷ coarse ∷ []) ≡ 1 ∷ 2 ∷ 3 ∷ []
  pub r7_chain : (listed (one_grade ∷ coarse ∷ fine ∷ []) ≡ 3 ∷ []) × (listed (fine ∷ coarse ∷ one_grade ∷ []) ≡ 1 ∷ [])
  pub r7_two_best : listed (coarse ∷ fine ∷ one_grade ∷ fine ∷ []) ≡ 2 ∷ 4 ∷ []
  pub r7_crossing : (listed (worst_apart ∷ best_apart ∷ []) ≡ 1 ∷ 2 ∷ []) × (listed (one_grade ∷ worst_apart ∷ best_apart ∷ []) ≡ 2 ∷ 3 ∷ [])
  -- "into a lent buffer whose further numbers are kept"; "13 for a buffer shorter than R", even where fewer are listed
  pub r7_buffer : listing.buffer_after coarse_and_fine (7 ∷ 8 ∷ 9 ∷ []) ≡ 2 ∷ 8 ∷ 9 ∷ []
  pub r7_room : (shortlist_fault coarse_and_fine 2 ≡ 0) × (shortlist_fault coarse_and_fine 1 ≡ 13)
  -- the rows are checked as in load: K with two rates swapped
  pub r7_swapped : shortlist_fault swapped_k 1 ≡ 34
  -- "25 between any two": of D, of S
  pub r7_25 : (totals_fault_lem (coarse ∷ coarse ∷ other_defaults ∷ []) ≡ 25) × (totals_fault_lem (other_survivors ∷ coarse ∷ coarse ∷ []) ≡ 25)
  -- R-8, K after each event at its second grade, (10, 1)
  pub r8_enters : table_after SurvivorEnters 2 table_k ≡ table_k_with 11 1
  pub r8_leaves : table_after SurvivorLeaves 2 table_k ≡ table_k_with 9 1
  pub r8_defaults : table_after SurvivorDefaults 2 table_k ≡ table_k_with 10 2
  pub r8_removed : table_after DefaultedRemoved 2 table_k ≡ table_k_with 9 0
  -- by calls: what the place holds, and its list, where the default has joined all grades; clear drops both
  pub r8_held : held 1 (load_k ∷ booking SurvivorDefaults 2 ∷ []) ≡ table (table_k_with 10 2)
  pub r8_list : (desk_after_lem (load_k ∷ booking SurvivorDefaults 2 ∷ [])).first.pooled ≡ 8 ∷ 40 ∷ 11 ∷ 8 ∷ 40 ∷ 11 ∷ 8 ∷ 40 ∷ 11 ∷ replicate 111 0
  pub r8_dropped : desk_after_lem (load_k ∷ booking SurvivorDefaults 2 ∷ change 1 clear ∷ []) ≡ desk_after_lem []
  -- a refused event leaves what was there: K has no fourth grade
  pub r8_refused : held 1 (load_k ∷ booking SurvivorEnters 4 ∷ []) ≡ table table_k
  -- "36 for a grade outside the table": grades are numbered from 1 to the grade count
  pub r8_36 : (event_fault SurvivorEnters 0 table_k ≡ 36) × (event_fault SurvivorEnters 3 table_k ≡ 0) × (event_fault SurvivorEnters 4 table_k ≡ 36)
  -- "37 for a grade without such a firm": none survived, none defaulted, nobody is there; a survivor may enter an empty grade
  pub r8_37_survivors : (event_fault SurvivorLeaves 1 (row 2 2 ∷ []) ≡ 37) × (event_fault SurvivorDefaults 1 (row 2 2 ∷ []) ≡ 37)
  pub r8_37_defaulted : (event_fault DefaultedRemoved 1 (row 2 0 ∷ []) ≡ 37) × (event_fault DefaultedRemoved 1 (row 2 1 ∷ []) ≡ 0)
  pub r8_empty : (event_fault SurvivorLeaves 1 (empty ∷ row 2 1 ∷ []) ≡ 37) × (event_fault SurvivorEnters 1 (empty ∷ row 2 1 ∷ []) ≡ 0)
  pub r8_filled : table_after SurvivorLeaves 1 (table_after SurvivorEnters 1 (empty ∷ row 2 1 ∷ [])) ≡ empty ∷ row 2 1 ∷ []
  -- "or a leaving or removal of the table's last obligor": it may default; of two, one may go
  pub r8_last : (event_fault SurvivorLeaves 1 (row 1 0 ∷ empty ∷ []) ≡ 37) × (event_fault DefaultedRemoved 1 (row 1 1 ∷ empty ∷ []) ≡ 37)
  pub r8_last_defaults : event_fault SurvivorDefaults 1 (row 1 0 ∷ empty ∷ []) ≡ 0
  pub r8_one_of_two : (event_fault SurvivorLeaves 1 (row 1 0 ∷ row 1 0 ∷ []) ≡ 0) × (event_fault DefaultedRemoved 1 (row 1 1 ∷ row 1 0 ∷ []) ≡ 0)
  -- "38 for an entry beyond 1,000,000" of the table, at any of its grades; one that left makes room
  pub r8_38 : (event_fault SurvivorEnters 1 crowd ≡ 38) × (event_fault SurvivorEnters 3 crowd ≡ 38)
  pub r8_room : event_fault SurvivorEnters 3 (table_after SurvivorLeaves 2 crowd) ≡ 0
  pub r8_crowd_defaults : event_fault SurvivorDefaults 2 crowd ≡ 0
