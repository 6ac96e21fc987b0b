-- A stored head: its bytes, and the places of its parts.
use Rattle.std.specs.Prelude.{ℕ, ◌⊎◌, ◌≡◌, true, false, List, length, map, All}
use Rattle.httparse.specs.Grammar.{HasNoRequest, NeverHasRequest, MayBecomeRequest}
use Rattle.httparse.specs.Spans.{span_bytes, header_bytes, IsWithin, IsHeaderWithin, IsRequestWithin, IsRequestOf}
use Rattle.httparse.specs.declared.spans.Span.{Span}
use Rattle.httparse.specs.declared.spans.HeaderSpan.{HeaderSpan}
use Rattle.httparse.specs.declared.spans.RequestSpans.{RequestSpans}
use Rattle.office_wire.specs.declared.head.Parsed.{Parsed}
use Rattle.office_wire.specs.declared.head.Parsed.TheVariants as parsed
use Rattle.office_wire.specs.Head.{HeadView, first_line_ends}

-- Each span is within the bytes.
pub record HeadIsKept (bytes : List ℕ) (method target : Span) (fields : List HeaderSpan) : Type 0 where
  pub method_in : IsWithin (length bytes) method
  pub target_in : IsWithin (length bytes) target
  pub fields_in : All (IsHeaderWithin (length bytes)) fields

-- The parts of the bytes that the spans cover.
abbrev pub spans_view : List ℕ → List HeaderSpan → RequestSpans → HeadView
spans_view bytes fields s = record { method = span_bytes bytes s.method; target = span_bytes bytes s.path; fields = map (header_bytes bytes) fields }

-- The bytes have no head. More bytes may make them one, or their first line hasn't ended.
abbrev pub IsOpen : List ℕ → Type 0
IsOpen bytes = HasNoRequest bytes × ((first_line_ends bytes ≡ false) ⊎ MayBecomeRequest bytes)

-- The result of parsing these bytes.
abbrev pub Parses : List ℕ → List HeaderSpan → Parsed → Type 0
Parses bytes headers (parsed.Whole spans) = IsRequestWithin bytes headers spans × IsRequestOf bytes headers spans
Parses bytes headers parsed.Open = IsOpen bytes
Parses bytes headers parsed.Bad = (first_line_ends bytes ≡ true) × NeverHasRequest bytes
