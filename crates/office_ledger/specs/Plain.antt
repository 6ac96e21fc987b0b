-- The select of joined rows only reads: it shows no rows of a write, and reads no clock.
use Rattle.std.specs.Prelude.{◌≡◌, None, Ok}
use Rattle.sqlite_schema.specs.declared.schema.Schema.{Schema}
use Rattle.sqlite_resolve.specs.declared.compiled.Compiled.{Compiled}
use Rattle.sqlite.specs.Listing.{understood}
use Rattle.sqlite.specs.Given.{IsPlain}
use Rattle.office_ledger.specs.Select.{Trees4, list_joined}
use Rattle.office_ledger.specs.Known.{HoldsFour}

-- in any schema with the four tables, the select shows no rows of a write and reads no clock
abbrev pub JoinIsPlain : Type 0
JoinIsPlain = (schema : Schema) (at : Trees4) → HoldsFour schema at → IsPlain (understood schema list_joined)

-- in any schema at all, the select shows no rows of a write
abbrev pub JoinIsNoWrite : Type 0
JoinIsNoWrite = (schema : Schema) (c : Compiled) → understood schema list_joined ≡ Ok c → c.returning ≡ None
