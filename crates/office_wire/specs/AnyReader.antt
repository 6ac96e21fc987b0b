-- The requests of the grammar, by which a step is named if the bytes that came aren't known.
use Rattle.std.specs.Prelude.{◌≡◌, ℕ, ◌≤◌, List, [], length}
use Rattle.httparse.specs.Grammar.{IsRequestHead, RequestHead, print_request}
use Rattle.office_wire.specs.Head.{HeadView, view_of}
use Rattle.office_wire.specs.Request.{RequestView, IsRequest}

-- At most 8,192 bytes of the grammar have this head.
abbrev pub IsWellFormedHead : HeadView → Type 0
IsWellFormedHead view = (h : RequestHead) × IsRequestHead h × (length (print_request h) ≤ 8192) × (view ≡ view_of h)

-- Some bytes are this request and nothing else.
abbrev pub IsWellFormed : RequestView → Type 0
IsWellFormed r = (input : List ℕ) × IsRequest input r []
