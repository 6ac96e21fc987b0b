-- Laws by which a record that was written as a row is read back as the same record.
use Rattle.std.specs.Prelude.{◌≡◌}
use Rattle.sqlite_value.specs.declared.value.Value.{Value}
use Rattle.office_base.specs.declared.records.LotRow.{LotRow}
use Rattle.office_base.specs.declared.records.NoticeRow.{NoticeRow}
use Rattle.office_tables.specs.Forms.{Form}
use Rattle.office_tables.specs.ItemTexts.{items_text, items_in_text}
use Rattle.office_tables.specs.Tables.Lots.{lot_form}
use Rattle.office_tables.specs.Tables.Notices.{former_values, former_read, asks_nothing}

-- each record is read back from its row, and from the row that its tree keeps at a rowid
pub record ComesBack {K X : Type 0} (f : Form K X) : Type 0 where
  pub row : (x : X) → f.read (f.row x) ≡ x
  pub entry : (rowid : Value) (x : X) → f.back (f.stored rowid x) ≡ x

-- a lot is read back if its items are read back from their text
pub record LotComesBack : Type 0 where
  pub row : (x : LotRow) → items_in_text (items_text x.items) ≡ x.items → lot_form.read (lot_form.row x) ≡ x
  pub entry : (rowid : Value) (x : LotRow) → items_in_text (items_text x.items) ≡ x.items → lot_form.back (lot_form.stored rowid x) ≡ x

-- a notice in the table of version 1 is read back as one that asks for no performance security
abbrev pub FormerComesBack : Type 0
FormerComesBack = (x : NoticeRow) → former_read (former_values x) ≡ asks_nothing x
