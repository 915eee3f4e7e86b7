use Rattle.plan_words.proofs.PageLemmas.{line_keeps}
use Rattle.plan_words.proofs.layout.put_bar.Goals as goal

pub returns-then-breaks_bars : goal.returns-then-breaks_bars
returns-then-breaks_bars c words h =
    c.in_ok-put_sign.ensures words (line_keeps c.args.page.now c.line.new.self c.in_ok-line.ensures words h)
