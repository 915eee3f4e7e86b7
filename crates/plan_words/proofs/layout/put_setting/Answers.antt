use Rattle.std.proofs.Common.{[], ◌∷◌, ◌++◌}
use Rattle.plan_words.proofs.layout.put_setting.Goals as goal

pub returns : goal.returns
returns c words h =
    c.in_ok-end_line.ensures (words ++ c.args.word.now ∷ [])
    (c.in_ok-put_whole.ensures words (c.in_ok-blank.ensures.keeps words h))
