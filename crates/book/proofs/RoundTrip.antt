-- The round trip: rater j of a book that was written is read, and is the j-th of its tables.
use Prim.Native.Nat.{ℕ, zero, suc, ◌+◌, ◌-◌, ◌*◌, ◌≤◌, ◌<◌}
use mathlib.Core.Path.{◌≡◌, refl, sym, ap, ◌∙◌}
use mathlib.Core.Bool.{Bool, true, false}
use mathlib.Core.List.{List, [], ◌∷◌, ◌++◌, append_assoc}
use native.Mathlib.Nat.{add-zero}
use native.Mathlib.Omega.{arith}
use lib.ListN.{length, get_or, take, length-append}
use lib.Seq.{take_at}
use Rattle.table.specs.declared.Place.{Place}
use Rattle.table.specs.Table.{Table, Every, Sound}
use Rattle.table.specs.Place.{table_of}
use Rattle.refusals.specs.Answers.{accepted, answer}
use Rattle.book.specs.Bytes.{two_at_lem, two_bytes}
use Rattle.book.specs.Checks.{fault}
use Rattle.book.specs.Layout.{raters, start_of, end_of, head_checks, rater_checks, table_checks, tables_fault_from, tables_fault_lem}
use Rattle.book.specs.Rows.{table_of_rater, table_fault_lem}
use Rattle.book.specs.Reading.{read_fault}
use Rattle.book.specs.Encode.{encode_table, encode_tables, offsets, ends_at, size_of, book_size, encode}
use Rattle.book.specs.Writing.{write_fault, buffer_or, write_answer, buffer_after, tables_of}
use Rattle.book.proofs.Checks.{found, none, pass, same, go}
use Rattle.book.proofs.Faultless.{sound_faultless}
use Rattle.book.proofs.Books.{length_two, length_table, length-offsets, length_tables, length-encode, chosen}
use Rattle.book.proofs.Back.{two_shift, two_back, TableFrom, table_back}

-- The tables of raters j and on in a book b: their offsets, the first being `at`, and they themselves from there to the end.

record Tail (b : List ℕ) (j at : ℕ) (ts : List Table) : Type 0 where
  pub u : List ℕ
  pub v : List ℕ
  pub w : List ℕ
  pub offs : b ≡ u ++ (offsets at ts ++ v)
  pub offs_at : length u ≡ 2 + 2 * j
  pub body : b ≡ w ++ encode_tables ts
  pub body_at : length w ≡ at
  pub small : ends_at at ts < 65_536

next : (b : List ℕ) (j at : ℕ) (t : Table) (ts : List Table) → Tail b j at (t ∷ ts) → Tail b (suc j) (at + size_of t) ts
unfolding offsets encode_tables ends_at
next b j at t ts s = record {
  u = s.u ++ two_bytes at;
  v = s.v;
  w = s.w ++ encode_table t;
  offs = s.offs ∙ simp append_assoc;
  offs_at = rw (length-append, length_two) (omega (arith, s.offs_at));
  body = s.body ∙ simp append_assoc;
  body_at = rw (length-append, length_table) (omega (arith, s.body_at));
  small = s.small;
}

record Front (b : List ℕ) (j at : ℕ) (t : Table) : Type 0 where
  pub start : start_of b j ≡ at
  pub here : TableFrom b at t
  pub room : at + size_of t ≤ length b

front : (b : List ℕ) (j at : ℕ) (t : Table) (ts : List Table) → Tail b j at (t ∷ ts) → Sound t → Front b j at t
unfolding offsets encode_tables
front b j at t ts s sound =
    let low : at < 65_536 = omega (arith, length_tables at (t ∷ ts), s.small) in
    let rest : List ℕ = offsets (at + size_of t) ts ++ s.v in
    record {
      start = rw (s.offs, append_assoc (two_bytes at))
          (two_shift s.u (two_bytes at ++ rest) (2 + 2 * j) 0 (omega (arith, s.offs_at)) ∙ two_back at rest low);
      here = rw s.body (table_back s.w t (encode_tables ts) at s.body_at sound);
      room = omega (arith, simp (length-append, length_table) at (ap length s.body), s.body_at);
    }

faultless : (b : List ℕ) (j at : ℕ) (t : Table) → Front b j at t → Sound t → fault (table_checks b j at) ≡ 0
unfolding table_checks
faultless b j at t f sound =
    let h = f.here in
    let some = sound.some in
    let few = sound.few in
    sym
    (found
    (same f.start
    (pass (omega arith)
    (pass (omega arith)
    (pass (omega arith) (pass (omega arith) (same h.zeros (pass (omega arith) none))))))))

walk : (ts : List Table) (b : List ℕ) (j at : ℕ) → Tail b j at ts → Every Sound ts → 0 ≡ tables_fault_from b (length ts) j at
unfolding tables_fault_from encode_tables
walk [] b j at s sound = found (same (omega (arith, simp (length-append, add-zero) at (ap length s.body), s.body_at)) none)
walk (t ∷ ts) b j at s sound =
    let f = front b j at t ts s sound.0 in
    let h = f.here in
    let e : end_of b at ≡ at + size_of t = omega arith in
    go (faultless b j at t f sound.0) (rw e (walk ts b (suc j) (at + size_of t) (next b j at t ts s) sound.1))

pick : (ts : List Table) (b : List ℕ) (j at m : ℕ) → Tail b j at ts → Every Sound ts → m < length ts
    → (table_of_rater b (j + m) ≡ get_or ts m []) × Sound (get_or ts m [])
pick [] b j at m s sound h = absurd (omega arith)
pick (t ∷ ts) b j at zero s sound h =
    let f = front b j at t ts s sound.0 in
    (rw (add-zero, f.start) f.here.table, sound.0)
pick (t ∷ ts) b j at (suc m) s sound h =
    let e : j + suc m ≡ suc j + m = omega arith in
    rw e (pick ts b (suc j) (at + size_of t) m (next b j at t ts s) sound.1 (omega arith))

-- The whole book.

short_book : (ts : List Table) (at : ℕ) → Every Sound ts → ends_at at ts ≤ at + 484 * length ts
unfolding ends_at
short_book [] at sound = omega arith
short_book (t ∷ ts) at sound = omega (arith, sound.0.few, short_book ts (at + size_of t) sound.1)

module _ (ts : List Table) (few : length ts ≤ 16) (sound : Every Sound ts) where
  small : book_size ts < 65_536
  small = omega (arith, short_book ts (4 + 2 * length ts) sound)

  whole : Tail (encode ts) 1 (4 + 2 * length ts) ts
  unfolding encode
  whole = record {
    u = two_bytes (length ts) ++ two_bytes (book_size ts);
    v = encode_tables ts;
    w = two_bytes (length ts) ++ (two_bytes (book_size ts) ++ offsets (4 + 2 * length ts) ts);
    offs = simp append_assoc;
    offs_at = simp (length-append, length_two);
    body = simp append_assoc;
    body_at = simp (length-append, length_two, length-offsets) (omega arith);
    small = small;
  }

  count : raters (encode ts) ≡ length ts
  unfolding encode
  count = two_back (length ts) _ (omega arith)

  stated : two_at_lem (encode ts) 2 ≡ book_size ts
  unfolding encode
  stated = two_shift (two_bytes (length ts)) _ 2 0 (omega (arith, length_two (length ts))) ∙ two_back (book_size ts) _ small

  module _ (j : ℕ) (from : 1 ≤ j) (to : j ≤ length ts) where
    headed : fault (head_checks (encode ts)) ≡ 0
    unfolding head_checks
    headed =
        let l = length-encode ts in
        let e = length_tables (4 + 2 * length ts) ts in
        let c = count in
        sym (found (pass (omega arith) (same (stated ∙ sym l) (pass (omega arith) (pass (omega arith) (pass (omega arith) none))))))

    asked : fault (rater_checks (encode ts) j) ≡ 0
    unfolding rater_checks
    asked = let c = count in sym (found (pass from (pass (omega arith) none)))

    laid : tables_fault_lem (encode ts) ≡ 0
    laid = rw count (sym (walk ts (encode ts) 1 (4 + 2 * length ts) whole sound))

    -- Rater j of a book of sound tables is read, and is the j-th of them.
    pub read_back : (read_fault (encode ts) j ≡ 0) × (table_of_rater (encode ts) j ≡ get_or ts (j - 1) [])
    unfolding read_fault
    read_back =
        let e : 1 + (j - 1) ≡ j = omega arith in
        let p = rw e at (pick ts (encode ts) 1 (4 + 2 * length ts) (j - 1) whole sound (omega arith)) in
        let f : table_fault_lem (table_of_rater (encode ts) j) ≡ 0 = rw p.0 (sound_faultless _ p.1) in
        (sym (go headed (go asked (go laid (sym f)))), p.0)

-- What a write leaves.

length_is : (k n : ℕ) (ts : List Table) → answer k (book_size ts) ≡ accepted n → (k ≡ 0) × (book_size ts ≡ n)
length_is zero n ts e = (refl, (cc))
length_is (suc k) n ts e = let z : ◌≡◌ {A = ℕ} 0 1 = cc in absurd (omega arith)

-- the first n bytes are the book
book_written : (ts : List Table) (buf : List ℕ) (n : ℕ) → write_answer ts (length buf) ≡ accepted n → take n (buffer_after ts buf) ≡ encode ts
unfolding buffer_or
book_written ts buf n e =
    let k = length_is (write_fault ts (length buf)) n ts e in
    rw k.0 (take_at (encode ts) _ n (length-encode ts ∙ k.1))

chosen_sound : (p q : Place) (s t : Bool) → (s ≡ true → Sound (table_of p)) → (t ≡ true → Sound (table_of q))
    → Every Sound (chosen p q s t) × (length (chosen p q s t) ≤ 16)
chosen_sound p q true true f g = ((f refl, (g refl, tt)), omega arith)
chosen_sound p q true false f g = ((f refl, tt), omega arith)
chosen_sound p q false true f g = ((g refl, tt), omega arith)
chosen_sound p q false false f g = (tt, omega arith)

pub round_trip : (p q : Place) → (p.loaded ≡ true → Sound (table_of p)) → (q.loaded ≡ true → Sound (table_of q))
    → (buf : List ℕ) (n : ℕ) → write_answer (tables_of p q) (length buf) ≡ accepted n → (j : ℕ) → 1 ≤ j → j ≤ length (tables_of p q)
    → (read_fault (take n (buffer_after (tables_of p q) buf)) j ≡ 0)
    × (table_of_rater (take n (buffer_after (tables_of p q) buf)) j ≡ get_or (tables_of p q) (j - 1) [])
round_trip p q f g buf n e j from to =
    let s = chosen_sound p q p.loaded q.loaded f g in
    rw (book_written (tables_of p q) buf n e) (read_back (tables_of p q) s.1 s.0 j from to)
