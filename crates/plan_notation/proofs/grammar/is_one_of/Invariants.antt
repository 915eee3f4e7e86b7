use Rattle.std.proofs.Common.{◌≡◌, map, drop}
use Rattle.plan_notation.specs.Grammar.{is_one_of}
use Rattle.plan_notation.proofs.grammar.is_one_of.Given as goal

-- the name is none of the words that were passed
abbrev pub invariant-words : goal.invariant-words
invariant-words l =
    is_one_of (map (λ word. word.now) l.words) l.name
    ≡ is_one_of (map (λ word. word.now) (drop l.word-index l.words)) l.name
