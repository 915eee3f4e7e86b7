use Rattle.std.proofs.Common.{◌∙◌}
use Rattle.plan_words.proofs.PageLemmas.{sign_adds}
use Rattle.plan_words.proofs.page.Page.put_sign.Goals as goal

pub returns : goal.returns
returns c =
    sign_adds c.args.self.now c.set_apart.new.self c.args.word.now c.requires
    (c.set_apart.ensures.text ∙ c.in_ok-put.ensures.text)
