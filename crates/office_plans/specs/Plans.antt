-- The plan of a command.
use Rattle.std.specs.Prelude.{ℕ, List}
use Rattle.office_base.specs.declared.puts.Put.{Put}

-- The changes that a command makes, and the text of its reply.
pub record Plan : Type 0 where
  pub puts : List Put
  pub reply : List ℕ
