-- The claims: `claims` has nothing to do but to show each of them.
use Rattle.book.proofs.Accept.{accepted, sound_accepted}
use Rattle.book.proofs.Emptiness.{empty_told, nine_means}
use Rattle.book.proofs.Fall.{fall_told, fall_meant}
use Rattle.book.proofs.Columns.{first_column}
use Rattle.book.proofs.RoundTrip.{round_trip}
use Rattle.book.proofs.Again.{written_again}
use Rattle.book.proofs.Whole.{whole_read, first_told}
use Rattle.book.proofs.WrongCut.{cut_told, cut_meant}
use Rattle.book.proofs.claims.Goals as goal

pub returns : goal.returns
returns c =
    record {
      reading_is_sound = accepted;
      sound_tables_are_read = sound_accepted;
      nine_means_all_empty = nine_means;
      all_empty_is_told = empty_told;
      falls_are_told = fall_told;
      falls_are_meant = fall_meant;
      first_column_is_of_its_kind = first_column;
      written_book_reads_back = round_trip;
      read_book_writes_back = written_again;
      whole_books_are_read = whole_read;
      first_fault_is_told = first_told;
      wrong_cuts_are_told = cut_told;
      wrong_cuts_are_meant = cut_meant;
    }
