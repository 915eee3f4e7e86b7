use Rattle.plan_words.proofs.PageLemmas.{line_keeps}
use Rattle.plan_words.proofs.page.Page.guard.Goals as goal

pub returns : goal.returns
returns c = line_keeps c.args.self.now c.line.new.self c.in_ok-line.ensures
