use Rattle.std.proofs.Common.{ℕ, List, ◌<◌, length, Global, Vec, ap, subst, ◌∙◌, arith}
use Rattle.plan_words.specs.Pages.{AddsToken}
use Rattle.plan_words.specs.Wholes.{is_whole}
use Rattle.plan_words.proofs.PageLemmas.{adds_more, all_at}
use Rattle.plan_words.proofs.layout.put_settings.Goals as goal

pub put_setting-requires : goal.put_setting-requires
put_setting-requires c =
    let within : c.settings.word-index < length c.args.settings.now = omega arith in
    ap is_whole (c.deref.ensures.value ∙ ap (λ (word : Vec ℕ Global). word.items) c.word-item.is)
    ∙ all_at (λ (word : Vec ℕ Global). word.items) is_whole c.args.settings.now c.settings.word-index c.word-item.result within c.requires

pub settings-preserved : goal.settings-preserved
settings-preserved c =
    let within : c.settings.word-index < length c.args.settings.now = omega arith in
    adds_more (λ (word : Vec ℕ Global). word.items) c.args.settings.now c.settings.word-index c.word-item.result
    c.args.page.now c.settings.page c.put_setting.new.page within c.word-item.is c.settings.invariant
    (subst (λ (w : List ℕ). AddsToken w c.settings.page c.put_setting.new.page) c.deref.ensures.value c.in_ok-put_setting.ensures)
