-- The table of contracts: the texts that create and change it, its columns, and how a row is written and read.
use Rattle.std.specs.Prelude.{◌≤◌, ℕ, List, [], ◌∷◌, codes, IfSome, pos, option_map}
use Rattle.std.specs.Ordering.{nat_cmp}
use Rattle.sqlite_value.specs.declared.value.Value.TheVariants.{Int, Text}
use Rattle.sqlite_value.specs.Order.{Row, column, bytes}
use Rattle.sqlite_schema.specs.declared.schema.Table.{Table}
use Rattle.sqlite_schema.specs.declared.schema.Index.{Index}
use Rattle.office_values.specs.Ids.{IsId}
use Rattle.office_values.specs.Moments.{last_moment}
use Rattle.office_values.specs.Money.{total_limit}
use Rattle.office_base.specs.declared.records.ContractRow.{ContractRow}
use Rattle.office_base.specs.Tables.{contract_key}
use Rattle.office_tables.specs.Forms.{Form, rowid_form, table_by_rowid, index_on, text_column, number_column, perhaps_text_column, perhaps_number_column}
use Rattle.office_tables.specs.Values.{number_in_value, or_null, perhaps_in, text_or_null, perhaps_text_in}
use Rattle.office_tables.specs.Words.{how_text, how_in}
use Rattle.office_tables.specs.Ranges.{IsOfficeNumber}

abbrev pub create_contracts : List ℕ
create_contracts = codes "CREATE TABLE contracts (contract INTEGER NOT NULL PRIMARY KEY CHECK (contract BETWEEN 1 AND 1000000000), notice TEXT NOT NULL CHECK (length(notice) BETWEEN 1 AND 32), lot TEXT NOT NULL CHECK (length(lot) BETWEEN 1 AND 32), tenderer TEXT NOT NULL CHECK (length(tenderer) BETWEEN 1 AND 32), signed INTEGER NOT NULL CHECK (signed BETWEEN 0 AND 1000000000000000), moment INTEGER NOT NULL CHECK (moment BETWEEN 0 AND 4102444799), ended INTEGER CHECK (ended BETWEEN 0 AND 4102444799), how TEXT CHECK (how IN ('regular', 'default')), released INTEGER NOT NULL CHECK (released BETWEEN 0 AND 1000000000000000)) STRICT"

abbrev pub contracts : Table
contracts =
    table_by_rowid (codes "contracts") (number_column (codes "contract") ∷ text_column (codes "notice") ∷ text_column (codes "lot")
    ∷ text_column (codes "tenderer") ∷ number_column (codes "signed") ∷ number_column (codes "moment") ∷ perhaps_number_column (codes "ended")
    ∷ perhaps_text_column (codes "how") ∷ number_column (codes "released") ∷ []) create_contracts

-- creates the index for look-ups by notice
abbrev pub create_contracts_of_notice : List ℕ
create_contracts_of_notice = codes "CREATE INDEX contracts_of_notice ON contracts (notice)"

abbrev pub contracts_of_notice : Index
contracts_of_notice = index_on (codes "contracts_of_notice") (2 ∷ [])

-- inserts a contract, or replaces the row that has its key
abbrev pub upsert_contracts : List ℕ
upsert_contracts = codes "INSERT INTO contracts (contract, notice, lot, tenderer, signed, moment, ended, how, released) VALUES (?1, ?2, ?3, ?4, ?5, ?6, ?7, ?8, ?9) ON CONFLICT (contract) DO UPDATE SET notice = ?2, lot = ?3, tenderer = ?4, signed = ?5, moment = ?6, ended = ?7, how = ?8, released = ?9"

-- the values of a contract, in the order of the columns
abbrev pub contract_values : ContractRow → Row
contract_values x =
    Int (pos x.contract) ∷ Text x.notice ∷ Text x.lot ∷ Text x.tenderer ∷ Int (pos x.signed) ∷ Int (pos x.moment) ∷ or_null x.ended
    ∷ text_or_null (option_map how_text x.how) ∷ Int (pos x.released) ∷ []

-- the contract that a row is read as
abbrev pub contract_read : Row → ContractRow
contract_read r = record {
  contract = number_in_value (column r 0);
  notice = bytes (column r 1);
  lot = bytes (column r 2);
  tenderer = bytes (column r 3);
  signed = number_in_value (column r 4);
  moment = number_in_value (column r 5);
  ended = perhaps_in (column r 6);
  how = option_map how_in (perhaps_text_in (column r 7));
  released = number_in_value (column r 8);
}

-- each field is in its range
abbrev pub ContractFits : ContractRow → Type 0
ContractFits x =
    IsOfficeNumber x.contract × IsId x.notice × IsId x.lot × IsId x.tenderer × (x.signed ≤ total_limit) × (x.moment ≤ last_moment)
    × IfSome x.ended (λ moment. moment ≤ last_moment) × (x.released ≤ total_limit)

-- the table, the order of its keys, and how its rows are written and read
abbrev pub contract_form : Form ℕ ContractRow
contract_form = rowid_form contracts nat_cmp contract_key contract_values contract_read
