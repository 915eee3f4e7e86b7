use Rattle.std.proofs.Common.{◌≡◌, ◌++◌, All, map, drop, take}
use Rattle.plan_writer.specs.Held.{IsHeldDatum}
use Rattle.plan_notation.specs.Tokens.{constant_word}
use Rattle.plan_notation.proofs.written.put_operands.Given as goal

-- what was added, and then the constants that are left
abbrev pub invariant-values : goal.invariant-values
invariant-values l = record {
  words : l.words ++ map constant_word (drop l.value-index l.values) ≡ l.initial.words ++ map constant_word l.values;
  held : All IsHeldDatum (take l.value-index l.values);
}
