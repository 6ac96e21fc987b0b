-- Tenderers, as an opening announces them.
use Rattle.std.specs.Prelude.{ℕ, List}
use Rattle.office_base.specs.declared.records.TendererRow.{TendererRow}

-- the data of a tenderer that an opening announces (Model Law, article 42): name and address
pub record Tenderer : Type 0 where
  pub id : List ℕ
  pub name : List ℕ
  pub address : List ℕ

-- the tenderer of a row, without the key
abbrev pub tenderer_shown : TendererRow → Tenderer
tenderer_shown r = record { id = r.tenderer; name = r.name; address = r.address }
