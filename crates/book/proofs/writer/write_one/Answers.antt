-- `write_one` meets its contract.
use Prim.Native.Nat.{◌+◌}
use mathlib.Core.Path.{◌≡◌, sym, ap, ◌∙◌}
use mathlib.Core.List.{[], ◌∷◌}
use native.Mathlib.Omega.{arith}
use Rattle.table.specs.Words.{table_in}
use Rattle.refusals.specs.Answers.{accepted, refused}
use Rattle.book.specs.Encode.{book_size}
use Rattle.book.proofs.Books.{Wrote, fits, short, one_stored, size_one}
use Rattle.book.proofs.writer.write_one.Goals as goal

pub returns-then-out-size : goal.returns-then-out-size
returns-then-out-size c =
    let out = c.args.out.now in
    let size : 6 + c.size_of-size.result ≡ book_size (table_in c.args.place.now ∷ []) = ap (λ n. 6 + n) c.size_of-size.ensures.0 ∙ sym (size_one _) in
    let wrote : Wrote (table_in c.args.place.now ∷ []) out (refused 13) out = short _ _ (omega arith) (omega (arith, size)) in
    record { value = wrote.0; out_after = wrote.1 }

pub returns : goal.returns
returns c =
    let ts = table_in c.args.place.now ∷ [] in
    let out = c.args.out.now in
    let size : 6 + c.size_of-size.result ≡ book_size ts = ap (λ n. 6 + n) c.size_of-size.ensures.0 ∙ sym (size_one _) in
    let wrote : Wrote ts out (accepted (6 + c.size_of-size.result)) c.put_table.new.out =
    fits ts out _ _ (omega arith) (omega (arith, size)) (ap accepted size) (rw (c.put_table.ensures, c.put_head.ensures) (one_stored _ _ _ size))
    in
    record { value = wrote.0; out_after = wrote.1 }
