-- The registration of a tenderer.
use Rattle.std.specs.Prelude.{ℕ, List}
use Rattle.tender_core.specs.Rules.Register.{register_rows, register_lacks, register_tests, register_puts}
use Rattle.office_machine.specs.Replies.{Enrolled}
use Rattle.office_machine.specs.Rule.{Rule, Silent}

abbrev pub register : List ℕ → List ℕ → List ℕ → List ℕ → Rule
register tenderer name address key = record {
  tests = λ s t caller. register_tests (register_rows s tenderer) tenderer;
  lacks = λ s. register_lacks (register_rows s tenderer);
  puts = λ readings s t caller. register_puts (register_rows s tenderer) t tenderer name address key;
  publishes = Silent;
  reply = λ readings s u t caller. Enrolled tenderer t;
}
