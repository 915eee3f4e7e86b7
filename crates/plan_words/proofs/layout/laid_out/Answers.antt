use Rattle.std.proofs.Common.{ℕ, [], ◌++◌, Global, Vec, map, ap, ◌∙◌}
use Rattle.plan_words.specs.Seen.{words_in}
use Rattle.plan_words.proofs.PageLemmas.{blank_page}
use Rattle.plan_words.proofs.layout.laid_out.Goals as goal

pub returns : goal.returns
returns c =
    let settings = map (λ (word : Vec ℕ Global). word.items) c.args.settings.now in
    let words = map (λ (word : Vec ℕ Global). word.items) c.args.words.now in
    let told = c.in_ok-put_settings.ensures [] (blank_page c.new-page.result c.new-page.ensures.text) in
    let begun = c.in_ok-begin_group.ensures settings told in
    let whole = c.in_ok-end_line.ensures (settings ++ words) (c.in_ok-put_tokens.ensures settings begun) in
    ap words_in c.into_text.ensures ∙ whole.words_are
