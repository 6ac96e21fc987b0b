-- The names of other crates, and of this one's definitions, that the proofs of this crate use. A file takes them by one import.
pub use Rattle.httparse.proofs.GrammarLemmas.{ReadsRequest-append, print_request-append, request_unique}
pub use Rattle.httparse.proofs.PieceLemmas.{token_is_no_newline}
pub use Rattle.httparse.specs.Grammar.{is_token_byte, is_uri_byte, EndsInTarget, RequestHead, ReadsRequest, print_blank, print_version, HasNoRequest, MayBecomeRequest, NeverHasRequest, LineEnd, crlf, lf, print_end, print_section, print_field, Field, IsField}
unfoldable pub use Rattle.httparse.specs.Grammar.{print_request}
pub use Rattle.httparse.specs.Spans.{RequestExceeds, IsRequestOf, header_bytes, span_bytes, IsWithin}
pub use Rattle.httparse.specs.declared.spans.HeaderSpan.{HeaderSpan}
pub use Rattle.httparse.specs.declared.spans.RequestSpans.{RequestSpans}
pub use Rattle.httparse.specs.declared.spans.Span.{Span}
pub use Rattle.office_values.specs.Moments.{IsMomentText}
pub use Rattle.office_wire.specs.AnyReader.{IsWellFormed, IsWellFormedHead}
pub use Rattle.office_wire.specs.Blocks.{IsLine, HasLine, HasNoLine, Block, IsBlock, AreBlocks, IsCutBlock}
pub use Rattle.office_wire.specs.Counting.{TakesPart, ReaderView}
pub use Rattle.office_wire.specs.Fields.{framing_of, values_of}
pub use Rattle.office_wire.specs.Head.{first_line_ends, StandsHead, IsLongHead, IsBadHead, view_of, HeadView, HasNoHead}
unfoldable pub use Rattle.office_wire.specs.Head.{skip_empty}
pub use Rattle.office_wire.specs.Inside.HeadBytes.{spans_view}
pub use Rattle.office_wire.specs.Reading.{ReadsOn, IsOver, IsFrontRead, LeavesHead, IsCutShort}
pub use Rattle.office_wire.specs.Request.{RequestView, IsRequest, HasNoWhole, IsCutBody, IsMisframed, IsRefused, is_shown, HasOneMeaning, IsPastHead, StandsAfter, IsCutRequest}
pub use Rattle.office_wire.specs.Runs.{Answers, AreSteps, Ends, HasTold, Step, blocks_of, written, office_left, Ran, Served}
pub use Rattle.office_wire.specs.Sending.{AppendsPart, IsPrefix}
pub use Rattle.office_wire.specs.declared.fault.ReadFault.{ReadFault}
pub use Rattle.office_wire.specs.declared.fault.RunFault.{RunFault}
pub use Rattle.std.proofs.BufReadLemmas.{Consumes_shown}
pub use Rattle.std.proofs.Common.{◌≡◌, ◌++◌, length, Ok, refl, sym, ◌≢◌, ℕ, ◌<◌, ◌≤◌, List, [], ◌∷◌, take, drop, get_or, Option, Some, ap, subst, arith, ◌∙◌, length-append, zero, suc, map, Bool, true, false, add-one, ◌+◌, ◌*◌, ◌-◌, ◌⊎◌, inl, inr, append_assoc, None, OnSome, Result, Err, zero-add, length-take-le, min, rules, le_refl}
pub use Rattle.std.proofs.KnownBytes.{Consumes-trans, Appends-kept}
pub use Rattle.std.proofs.Math.Seq.{drop-cons}
pub use Rattle.std.proofs.lemmas.Bool.{eqb-true}
pub use Rattle.std.proofs.lemmas.Bool.Decides.{nat_tests}
pub use Rattle.std.proofs.lemmas.Int.Digits.{digits_value_more}
pub use Rattle.std.proofs.lemmas.List.{append-nil, take_at, drop_at, take_all, take_more, length-take, get_or-drop, take-append-le, same_from_push, take-append-drop, nil_from_length, map-append, length-drop, drop_all}
pub use Rattle.std.proofs.lemmas.List.Elements.{All-head, All-tail}
pub use Rattle.std.proofs.lemmas.List.Folds.{list_any-append, list_all_more}
pub use Rattle.std.proofs.lemmas.Option.{IfSome_then}
pub use Rattle.std.proofs.lemmas.Result.{err_from_is_err_and}
pub use Rattle.std.proofs.lemmas.Slice.{take-put_mid_below}
pub use Rattle.std.proofs.lemmas.Str.{digit_value_digit}
pub use Rattle.std.specs.Char.{is_ascii_digit, digit_value}
pub use Rattle.std.specs.Io.BufRead.{FillKeeps}
pub use Rattle.std.specs.Io.KnownBytes.{Consumes, IsAtEnd, Keeps, Appends}
pub use Rattle.std.specs.List.{filter, list_any, flat_map, list_all}
pub use Rattle.std.specs.Prelude.{codes, cond, ◌==◌, ◌&&◌, ◌||◌, All, IsTrue, ⊤, IfSome, IfNone, is_some, option_map, option_to_list}
pub use Rattle.std.specs.Str.{str_eq_ignore_ascii_case}
pub use Rattle.std.specs.Str.Parse.{digits_value}
pub use borrow.Rule.Slice.PartMut.{put_mid, post_of}
pub use lib.Seq.{take-add}
