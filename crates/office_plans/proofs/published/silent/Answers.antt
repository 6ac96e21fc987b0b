use Rattle.office_plans.proofs.Names.{[], ◌∙◌, sym}
use Rattle.office_plans.proofs.Silent.{all_silent, nothing_published}
use Rattle.office_plans.proofs.published.silent.Goals as goal

pub returns : goal.returns
returns c publisher x given allowed whole event notice is told = record {
  given = given;
  allowed = allowed;
  whole = whole;
  follows = λ n for. nothing_published notice for;
  put = λ keeps. record {
    puts = c.new.ensures.puts ∙ is ∙ sym (c.keeping.ensures.unpublished publisher x event);
    reads = λ r for. nothing_published (c.keeping.ensures.silent publisher x event) for;
  };
  effect = ([], c.new.ensures.puts ∙ (is ∙ all_silent publisher x (c.keeping.ensures.silent publisher x event)));
  reply = c.new.ensures.reply ∙ told;
}
