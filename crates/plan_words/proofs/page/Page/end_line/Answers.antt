use Rattle.std.proofs.Common.{◌∙◌}
use Rattle.plan_words.proofs.PageLemmas.{feed_keeps}
use Rattle.plan_words.proofs.page.Page.end_line.Goals as goal

pub returns : goal.returns
returns c =
    feed_keeps c.args.self.now c.start_line.new.self (c.start_line.ensures.text ∙ c.in_ok-put.ensures.text)
