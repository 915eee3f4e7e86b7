use Rattle.std.proofs.Common.{ℕ, List, ◌<◌, length, Global, Vec, ap, subst, ◌∙◌, arith}
use Rattle.plan_words.specs.Pages.{AddsToken}
use Rattle.plan_words.specs.Wholes.{is_token}
use Rattle.plan_words.proofs.PageLemmas.{adds_more, all_at}
use Rattle.plan_words.proofs.layout.put_tokens.Goals as goal

pub put_token-requires : goal.put_token-requires
put_token-requires c =
    let within : c.words.index < length c.args.words.now = omega arith in
    ap is_token (c.deref.ensures.value ∙ ap (λ (word : Vec ℕ Global). word.items) c.index-words-index.is)
    ∙ all_at (λ (word : Vec ℕ Global). word.items) is_token c.args.words.now c.words.index c.index-words-index.result within c.requires

pub words-preserved : goal.words-preserved
words-preserved c =
    let within : c.words.index < length c.args.words.now = omega arith in
    adds_more (λ (word : Vec ℕ Global). word.items) c.args.words.now c.words.index c.index-words-index.result
    c.args.page.now c.words.page c.put_token.new.page within c.index-words-index.is c.words.invariant
    (subst (λ (w : List ℕ). AddsToken w c.words.page c.put_token.new.page) c.deref.ensures.value c.in_ok-put_token.ensures)
