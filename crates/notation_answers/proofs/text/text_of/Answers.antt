use Rattle.notation_laws.proofs.Law.{read_back}
use Rattle.notation_answers.proofs.text.text_of.Goals as goal

pub returns : goal.returns
returns c = record {
  words_are = c.in_ok-text.ensures.words;
  read_back = read_back c.args.plan.now c.in_ok-text.ensures.plan c.in_ok-text.ensures.held c.in_ok-text.text.items c.in_ok-text.ensures.words;
}
