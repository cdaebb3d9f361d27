-- The order of the checks, by computation: the definitions are all that it rests on.
use mathlib.Core.Path.{refl}
use Rattle.table.specs.Table.{occupied, survivors_in, defaults_in, obligors_in}
use Rattle.table.specs.Place.{grades_from, place_of}
use Rattle.book.specs.Bytes.{two_at_lem, four_at_lem, two_bytes, four_bytes}
use Rattle.book.specs.Checks.{fault, first_fault}
use Rattle.book.specs.Layout.{head_checks, rater_checks, table_checks, tables_fault_from, layout_fault}
use Rattle.book.specs.Rows.{grade_in, grades_in, tables_in, row_checks, later_checks, later_fault, rows_fault, total_checks, table_fault_lem}
use Rattle.book.specs.Reading.{read_fault, table_faults, book_fault}
use Rattle.book.specs.Encode.{encode_grade, encode_grades, encode_table, encode_tables, offsets, ends_at, encode}
use Rattle.book.specs.Writing.{write_fault}
use Rattle.shortlist.specs.Checks.{some_checks, equal_checks, same_checks, shortlist_fault}
use Rattle.calls.specs.Calls.{question_fault, fill_fault, change_fault, compare_fault, pair_checks}
use Rattle.calls.specs.Shares.{shares_fault, shares_checks}
use Rattle.events.specs.Events.{event_fault}
use Rattle.demands.specs.Orders.{Orders}
use Rattle.demands.proofs.orders.Goals as goal

rows : Orders
unfolding occupied survivors_in defaults_in obligors_in grades_from place_of two_at_lem four_at_lem two_bytes four_bytes fault first_fault head_checks rater_checks table_checks tables_fault_from layout_fault grade_in grades_in tables_in row_checks later_checks later_fault rows_fault total_checks table_fault_lem read_fault table_faults book_fault encode_grade encode_grades encode_table encode_tables offsets ends_at encode write_fault some_checks equal_checks same_checks shortlist_fault question_fault fill_fault change_fault compare_fault pair_checks shares_fault shares_checks event_fault
rows = record {
  load_1_before_21_below = refl;
  load_1_before_21_above = refl;
  load_21_before_2_short = refl;
  load_21_before_2_length = refl;
  load_3_before_4_none_below = refl;
  load_3_before_4_none_behind = refl;
  load_3_before_4_many_below = refl;
  load_3_before_4_many_behind = refl;
  load_3_before_4_offsets_below = refl;
  load_3_before_4_offsets_behind = refl;
  load_4_before_31_below = refl;
  load_4_before_31_behind = refl;
  load_4_before_32_header = refl;
  load_4_before_6 = refl;
  load_4_before_7 = refl;
  load_4_before_32_rows = refl;
  load_4_before_33 = refl;
  book_2_before_3_short_none = (refl, refl);
  book_2_before_3_short_many = (refl, refl);
  book_2_before_3_short_offsets = (refl, refl);
  book_2_before_3_length_none = (refl, refl);
  book_2_before_3_length_many = (refl, refl);
  book_2_before_3_length_offsets = (refl, refl);
  book_31_before_32 = (refl, refl);
  book_32_before_6_none = (refl, refl);
  book_32_before_6_many = (refl, refl);
  book_6_before_7_none_kind = (refl, refl);
  book_6_before_7_none_bytes = (refl, refl);
  book_6_before_7_many_kind = (refl, refl);
  book_6_before_7_many_bytes = (refl, refl);
  book_7_before_32_kind = (refl, refl);
  book_7_before_32_bytes = (refl, refl);
  book_6_before_next_31 = (refl, refl);
  book_7_before_next_31 = (refl, refl);
  book_32_before_next_31 = (refl, refl);
  book_32_before_33 = (refl, refl);
  book_33_before_8 = (refl, refl);
  book_33_before_10 = (refl, refl);
  book_33_before_34 = (refl, refl);
  book_8_before_10 = (refl, refl);
  book_8_before_34 = (refl, refl);
  book_10_before_next_8 = (refl, refl);
  book_10_before_third_8 = (refl, refl);
  book_34_before_third_8 = (refl, refl);
  row_10_before_34 = refl;
  book_8_before_9 = (refl, refl);
  book_10_before_9 = (refl, refl);
  book_34_before_9 = (refl, refl);
  book_8_before_11 = (refl, refl);
  book_10_before_11 = (refl, refl);
  book_34_before_11 = (refl, refl);
  clear_1_before_22_below = refl;
  clear_1_before_22_above = refl;
  pool_1_before_22_below = refl;
  pool_1_before_22_above = refl;
  pool_1_before_13_below = refl;
  pool_1_before_13_above = refl;
  cheapest_1_before_22_below = refl;
  cheapest_1_before_22_above = refl;
  cheapest_22_before_12_missed = refl;
  cheapest_22_before_12_turned_away = refl;
  brier_1_before_22_below = refl;
  brier_1_before_22_above = refl;
  spread_1_before_22_below = refl;
  spread_1_before_22_above = refl;
  measures_1_before_22_below = refl;
  measures_1_before_22_above = refl;
  measures_22_before_23_and_24 = refl;
  compare_22_before_23_first = refl;
  compare_22_before_23_second = refl;
  compare_22_before_23_first_second = refl;
  compare_22_before_23_second_first = refl;
  compare_23_before_24_first_second = refl;
  compare_23_before_24_second_first = refl;
  compare_23_before_25_first = refl;
  compare_23_before_25_second = refl;
  compare_24_before_25_first_defaults = refl;
  compare_24_before_25_second_defaults = refl;
  compare_24_before_25_first_survivors = refl;
  compare_24_before_25_second_survivors = refl;
  shares_22_before_23_first = refl;
  shares_22_before_23_second = refl;
  shares_22_before_23_first_second = refl;
  shares_22_before_23_second_first = refl;
  shares_23_before_24_first_second = refl;
  shares_23_before_24_second_first = refl;
  shares_23_before_35_first_second = refl;
  shares_23_before_35_second_first = refl;
  shares_24_before_35_first = refl;
  shares_24_before_35_second = refl;
  shares_24_before_35_first_second = refl;
  shares_24_before_35_second_first = refl;
  write_22_before_13 = refl;
  shortlist_3_before_33 = refl;
  shortlist_3_before_31_many = refl;
  shortlist_3_before_31_offsets = refl;
  shortlist_9_before_next_8 = refl;
  shortlist_11_before_next_8 = refl;
  shortlist_9_before_23_and_24 = refl;
  shortlist_11_before_23 = refl;
  shortlist_9_before_23_of_an_earlier = refl;
  shortlist_11_before_23_of_an_earlier = refl;
  shortlist_11_before_24 = refl;
  shortlist_23_before_24 = refl;
  shortlist_23_before_24_of_an_earlier = refl;
  shortlist_23_before_25 = refl;
  shortlist_24_before_25_defaults = refl;
  shortlist_24_before_25_survivors = refl;
  shortlist_24_before_25_defaults_of_earlier = refl;
  shortlist_24_before_25_survivors_of_earlier = refl;
  shortlist_23_before_13 = refl;
  shortlist_24_before_13 = refl;
  shortlist_25_before_13_defaults = refl;
  shortlist_25_before_13_survivors = refl;
  event_1_before_22_below = (refl, refl, refl, refl);
  event_1_before_22_above = (refl, refl, refl, refl);
  event_22_before_36_below = (refl, refl, refl, refl);
  event_22_before_36_above = (refl, refl, refl, refl);
  event_36_before_37_and_38_below = (refl, refl, refl, refl);
  event_36_before_37_and_38_above = (refl, refl, refl, refl);
  event_36_before_37_last_below = (refl, refl, refl, refl);
  event_36_before_37_last_above = (refl, refl, refl, refl);
}

pub returns : goal.returns
returns c = rows
