-- The functions of bytes that changes and replies take as parameters.
use Rattle.std.specs.Prelude.{ℕ, List}
use Rattle.office_commands.specs.declared.item.Item.{Item}
use Rattle.office_base.specs.declared.reading.Reading.{Reading}

-- How a tender is read as a list of prices for the items of a lot, and the digest of bytes.
pub record Readings : Type 0 where
  pub read : List ℕ → List Item → Reading
  pub digest : List ℕ → List ℕ
