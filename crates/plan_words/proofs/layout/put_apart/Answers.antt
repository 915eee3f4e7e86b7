use Rattle.plan_words.proofs.layout.put_apart.Goals as goal

pub returns : goal.returns
returns c words h =
    c.in_ok-put_whole.ensures words (c.in_ok-blank.ensures.keeps words (c.in_ok-guard.ensures words h))
