use Rattle.std.proofs.Common.{◌-◌, ℕ, length, ap, ◌∙◌}
use Rattle.std.specs.List.{list_all}
use Rattle.plan_words.specs.Wholes.{is_token, is_whole}
use Rattle.plan_notation.specs.NodeTokens.{Done, all_words, words_at}
use Rattle.plan_notation.specs.Tokens.{settings_words}
use Rattle.plan_notation.proofs.WholeNodes.{nodes_are_tokens}
use Rattle.plan_notation.proofs.WholeWords.{settings_whole}
use Rattle.plan_notation.proofs.writing.notation_of.Goals as goal

pub laid_out-requires-clause-settings : goal.laid_out-requires-clause-settings
laid_out-requires-clause-settings c =
    ap (list_all is_whole) (c.pieces.ensures ∙ c.in_ok-settings.ensures ∙ ap settings_words c.settings.ensures)
    ∙ settings_whole c.args.plan.now.settings

pub laid_out-requires-clause-words : goal.laid_out-requires-clause-words
laid_out-requires-clause-words c =
    let nodes = c.args.plan.now.nodes in
    ap (list_all is_token)
    (c.words_at-root.ensures
    ∙ ap (λ (done : Done). words_at done (c.size.result - 1)) (c.deref.ensures.value ∙ c.in_ok-done.ensures.words)
    ∙ ap (λ (n : ℕ). words_at (all_words nodes) (n - 1)) c.size.ensures.size)
    ∙ nodes_are_tokens nodes (length nodes - 1)
