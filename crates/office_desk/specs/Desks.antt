-- A desk as a value.
use Rattle.office_values.specs.declared.settings.Settings.{Settings}

-- A store and the settings.
pub record DeskOf (H : Type 0) : Type 0 where
  pub shelf : H
  pub settings : Settings
