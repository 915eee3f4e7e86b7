use Rattle.std.proofs.Common.{ap, ◌∙◌}
use Rattle.plan_words.specs.Seen.{seen_in}
use Rattle.plan_words.proofs.PageLemmas.{whole_adds}
use Rattle.plan_words.proofs.page.Page.put_whole.Goals as goal

pub returns : goal.returns
returns c =
    whole_adds c.args.self.now c.set_apart.new.self c.args.word.now c.requires.whole c.requires.apart
    (λ between. ap seen_in c.set_apart.ensures.text ∙ c.in_ok-put_long.ensures between) c.set_apart.ensures.apart
