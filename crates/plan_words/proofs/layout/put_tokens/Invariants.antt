use Rattle.std.proofs.Common.{map, take}
use Rattle.plan_words.specs.Pages.{AddsTokens}
use Rattle.plan_words.proofs.layout.put_tokens.Given as goal

-- the tokens so far
abbrev pub invariant-words : goal.invariant-words
invariant-words l = AddsTokens (map (λ word. word.items) (take l.index l.words)) l.initial.page l.page
