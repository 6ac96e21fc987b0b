-- The names of other crates, and of this one's definitions, that the proofs of this crate use. A file takes them by one import.
pub use Rattle.jiff_core.proofs.CalendarLemmas.{day_count-next_year, day_count-next_month, day_count-last_of_year, day_count-day, day_count-epoch, days_from_civil-day_count, days_in_year_bounds, days_in_month_bounds}
pub use Rattle.jiff_core.proofs.DateLemmas.{epoch_day_injective, epoch_day_same, epoch_day-lt, cases_date}
pub use Rattle.jiff_core.proofs.SignedLemmas.{signed_arith}
pub use Rattle.jiff_core.specs.Calendar.{IsDate, days_in_year, days_in_month, day_count, days_from_civil}
pub use Rattle.jiff_core.specs.Date.{epoch_day}
pub use Rattle.jiff_core.specs.declared.civil.date.Date.{Date}
unfoldable pub use Rattle.office_values.specs.Fields.{is_id, is_text_line}
pub use Rattle.office_values.specs.Ids.{IsId, is_id_byte, IsPadded, id_cmp, same_id, word_at}
pub use Rattle.office_values.specs.Moments.{year_of, month_of, civil_date, last_moment, two_digits, date_text, time_text, TextsKeepOrder}
unfoldable pub use Rattle.office_values.specs.Moments.{year_after, month_after, moment_text}
pub use Rattle.office_values.specs.Numbers.{is_numeral, number_of}
pub use Rattle.office_values.specs.SettingTexts.{is_prefix_text, is_currency_code, is_language_code}
pub use Rattle.office_values.specs.Texts.{IsTextLine, is_line_byte}
pub use Rattle.office_values.specs.declared.moment.CivilDate.{CivilDate}
pub use Rattle.std.proofs.Common.{◌≡◌, ℕ, zero, suc, ◌+◌, ◌-◌, ◌*◌, ◌<◌, ◌≤◌, ◌⊎◌, inl, inr, false, cond, refl, sym, subst, arith, ◌∙◌, pos, ◌≢◌, [], ◌∷◌, ◌++◌, length, take, drop, get_or, ap, add-zero, get_or-drop, drop-drop, length-drop, length-take, ◌/◌, ◌%◌, lit<, rules}
pub use Rattle.std.proofs.Math.Seq.{take-append_seam}
pub use Rattle.std.proofs.lemmas.Bool.{and_parts, and_from, leb-true, le-leb, cases_order}
pub use Rattle.std.proofs.lemmas.Bool.Decides.{nat_tests, Decides-eqb}
pub use Rattle.std.proofs.lemmas.Cmp.{tied_itself, nat_cmp_total}
pub use Rattle.std.proofs.lemmas.Int.{to_z_pos, to_z-of_z, ints, clamps}
pub use Rattle.std.proofs.lemmas.List.{drop_all, drop-replicate}
pub use Rattle.std.proofs.lemmas.List.Elements.{All-head, All-tail, All-take, All-drop, All-weaker, All-from_get_or, All-from_recursion}
pub use Rattle.std.proofs.lemmas.List.Sums.{AllPass-from_list_all, list_all-from_AllPass}
pub use Rattle.std.proofs.lemmas.Slice.Eq.{starts_is}
pub use Rattle.std.proofs.lemmas.Str.{IsUtf8-from_is_utf8, is_utf8-from_IsUtf8, IsUtf8-from_ascii, IsUtf8-append}
pub use Rattle.std.proofs.lemmas.Str.Ascii.{IsAscii-from_all}
pub use Rattle.std.proofs.lemmas.Str.Parse.{IsNumeralModel, numerals_by_value, tells_all_ascii_digits, parse_gives, digits_value_short}
pub use Rattle.std.specs.Char.{is_ascii_digit, is_ascii_alphanumeric, is_ascii_uppercase, is_ascii_lowercase}
pub use Rattle.std.specs.Cmp.{nat_cmp_is}
pub use Rattle.std.specs.Cmp.Lexicographic.{slice_cmp, nat_list_cmp_total, texts_ties}
pub use Rattle.std.specs.Int.{IsInRange, w64, from_be_bytes, w16, w8}
pub use Rattle.std.specs.List.{AllByRecursion, list_all, starts_with}
pub use Rattle.std.specs.Ordering.{nat_cmp, ordering_then, is_eq, ordering_reverse}
pub use Rattle.std.specs.Prelude.{Bool, true, nat_lt, List, All, replicate, IsTrue, IsUtf8, ◌&&◌, Result, Ok, nat_eq, codes, ◌^◌, Some, None}
pub use Rattle.std.specs.Str.{all_ascii_digits}
pub use Rattle.std.specs.Str.Parse.{digits_value, ParsesUnsigned}
pub use Rattle.std.specs.declared.cmp.Ordering.{Ordering}
pub use Rattle.std.specs.declared.cmp.Ordering.TheVariants.{Less, Equal, Greater}
