use Rattle.office_wire.proofs.Names.{◌≡◌, ◌≤◌, ◌+◌, ℕ, List, length, Some, Appends, AreSteps, Step, office_left, written}
use Rattle.office_wire.proofs.RunLemmas.{HasRead}
use Rattle.office_wire.proofs.runs.answer_blocks.Given as goal

abbrev pub invariant-rounds : goal.invariant-rounds
invariant-rounds g l = record {
  spent : l.reader.left + l.count ≤ l.fn.reader.left;
  all_read : l.reader.has_failed ≡ l.fn.reader.has_failed;
  all_written : l.writer.has_failed ≡ l.fn.writer.has_failed;
  before : g.D.Responder.meaning.honest l.desk → g.D.Responder.meaning.honest l.fn.desk;
  ran : g.D.Responder.meaning.honest l.desk → (s : g.D.Responder.meaning.Office) → g.D.Responder.meaning.holds l.fn.desk s → record {
    steps : List Step;
    count : l.count ≡ length steps;
    steps_are : AreSteps g.D.Responder.meaning.answers s steps;
    sent : Appends l.fn.writer.contents l.writer.contents (written g.D.Responder.meaning.answers s steps);
    known : (input : List ℕ) → l.fn.reader.remaining ≡ Some input → HasRead input steps l.reader.remaining;
    holds : g.D.Responder.meaning.holds l.desk (office_left g.D.Responder.meaning.answers s steps);
  };
}
