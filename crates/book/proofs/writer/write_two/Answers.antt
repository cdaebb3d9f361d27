-- `write_two` meets its contract.
use Prim.Native.Nat.{◌+◌}
use mathlib.Core.Path.{◌≡◌, sym, ap}
use mathlib.Core.List.{[], ◌∷◌}
use native.Mathlib.Omega.{arith}
use Rattle.table.specs.Words.{table_in}
use Rattle.refusals.specs.Answers.{accepted, refused}
use Rattle.book.specs.Encode.{size_of, book_size}
use Rattle.book.proofs.Books.{Wrote, fits, short, two_stored, size_two}
use Rattle.book.proofs.writer.write_two.Goals as goal

pub returns-then-out-end : goal.returns-then-out-end
returns-then-out-end c =
    let ts = table_in c.args.first.now ∷ table_in c.args.second.now ∷ [] in
    let out = c.args.out.now in
    let next : 8 + c.size_of-next.result ≡ 8 + size_of (table_in c.args.first.now) = ap (λ n. 8 + n) c.size_of-next.ensures.0 in
    let size : 8 + c.size_of-next.result + c.size_of.result ≡ book_size ts = rw (next, c.size_of.ensures.0) (sym (size_two _ _)) in
    let wrote : Wrote ts out (refused 13) out = short ts out (omega arith) (omega (arith, size)) in
    record { value = wrote.0; out_after = wrote.1 }

pub returns : goal.returns
returns c =
    let ts = table_in c.args.first.now ∷ table_in c.args.second.now ∷ [] in
    let out = c.args.out.now in
    let next : 8 + c.size_of-next.result ≡ 8 + size_of (table_in c.args.first.now) = ap (λ n. 8 + n) c.size_of-next.ensures.0 in
    let size : 8 + c.size_of-next.result + c.size_of.result ≡ book_size ts = rw (next, c.size_of.ensures.0) (sym (size_two _ _)) in
    let wrote : Wrote ts out (accepted (8 + c.size_of-next.result + c.size_of.result)) c.put_table-2.new.out =
    fits ts out _ _ (omega arith) (omega (arith, size)) (ap accepted size)
    (rw (c.put_table-2.ensures, c.put_table.ensures, c.put_two.ensures, c.put_head.ensures) (two_stored _ _ _ _ _ next size))
    in
    record { value = wrote.0; out_after = wrote.1 }
