use Rattle.std.proofs.Common.{[], ◌∷◌, ◌++◌, sym, subst}
use Rattle.plan_words.specs.Pages.{HoldsTokens, PageSeen}
use Rattle.plan_words.proofs.layout.put_token.Goals as goal

pub returns-in_ok-put_sign-in-Close : goal.returns-in_ok-put_sign-in-Close
returns-in_ok-put_sign-in-Close c words h =
    c.in_ok-put_sign-in-Close.ensures words
    (c.in_ok-guard-in-Close.ensures words (subst (λ (p : PageSeen). HoldsTokens words p) (sym c.end_group.ensures) h))

pub returns-in_ok-begin_group-in-Comma : goal.returns-in_ok-begin_group-in-Comma
returns-in_ok-begin_group-in-Comma c words h =
    c.in_ok-begin_group-in-Comma.ensures (words ++ c.args.word.now ∷ [])
    (subst (λ (p : PageSeen). HoldsTokens (words ++ c.args.word.now ∷ []) p) (sym c.end_group-arguments.ensures)
    (c.in_ok-put_sign-in-Comma.ensures words (c.in_ok-guard-in-Comma.ensures words h)))
