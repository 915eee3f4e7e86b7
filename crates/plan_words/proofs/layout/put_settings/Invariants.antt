use Rattle.std.proofs.Common.{map, take}
use Rattle.plan_words.specs.Pages.{AddsTokens}
use Rattle.plan_words.proofs.layout.put_settings.Given as goal

-- the tokens so far
abbrev pub invariant-settings : goal.invariant-settings
invariant-settings l = AddsTokens (map (λ word. word.items) (take l.word-index l.settings)) l.initial.page l.page
