-- What writing a book answers, and the buffer after it.
use Rattle.std.specs.Prelude.{ℕ, zero, suc, cond, List, [], ◌∷◌, ◌++◌, length, drop}
use Rattle.table.specs.declared.Place.{Place}
use Rattle.table.specs.Table.{Table}
use Rattle.table.specs.Place.{table_of}
use Rattle.refusals.specs.Answers.{Answer, answer}
use Rattle.book.specs.Checks.{at_most, fault}
use Rattle.book.specs.Encode.{encode, book_size}

-- the table of a place, if it is loaded, before others
abbrev pub loaded_then : Place → List Table → List Table
loaded_then p ts = cond p.loaded (table_of p ∷ ts) ts

-- the tables of the loaded places, 1 before 2
abbrev pub tables_of : Place → Place → List Table
tables_of p q = loaded_then p (loaded_then q [])

-- 22 if both places are empty, 13 if a buffer of n bytes is too short for the whole book
unfoldable pub write_fault : List Table → ℕ → ℕ
write_fault ts n = fault (at_most 1 (length ts) 22 ∷ at_most (book_size ts) n 13 ∷ [])

-- The bytes beyond the book are kept, and all bytes where it is refused.
unfoldable pub buffer_or : ℕ → List Table → List ℕ → List ℕ
buffer_or zero ts buf = encode ts ++ drop (book_size ts) buf
buffer_or (suc n) ts buf = buf

-- of tables and the length of a buffer
abbrev pub write_answer : List Table → ℕ → Answer ℕ
write_answer ts n = answer (write_fault ts n) (book_size ts)

abbrev pub buffer_after : List Table → List ℕ → List ℕ
buffer_after ts buf = buffer_or (write_fault ts (length buf)) ts buf
