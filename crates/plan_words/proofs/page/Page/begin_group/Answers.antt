use Rattle.std.proofs.Common.{subst}
use Rattle.plan_words.specs.Pages.{KeepsTokens, PageSeen}
use Rattle.plan_words.proofs.PageLemmas.{line_keeps}
use Rattle.plan_words.proofs.page.Page.begin_group.Goals as goal

pub returns-in_ok-line : goal.returns-in_ok-line
returns-in_ok-line c =
    subst (λ (p : PageSeen). KeepsTokens p c.line.new.self) c.in_ok-open_group.ensures
    (line_keeps c.open_group.new.self c.line.new.self c.in_ok-line.ensures)
