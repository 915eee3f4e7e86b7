use Rattle.std.proofs.Common.{◌∙◌}
use Rattle.plan_words.proofs.PageLemmas.{space_keeps}
use Rattle.plan_words.proofs.page.Page.blank.Goals as goal

pub returns-clause-keeps : goal.returns-clause-keeps
returns-clause-keeps c =
    space_keeps c.args.self.now c.set_apart.new.self (c.set_apart.ensures.text ∙ c.in_ok-put.ensures.text)
