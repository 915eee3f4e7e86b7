use Rattle.std.proofs.Common.{◌≡◌, ◌++◌, All, drop, take}
use Rattle.plan_writer.specs.Held.{IsHeldDatum}
use Rattle.plan_notation.specs.Tokens.{later_constants}
use Rattle.plan_notation.proofs.written.put_later.Given as goal

-- what was added, and then the constants that are left
abbrev pub invariant-values : goal.invariant-values
invariant-values l = record {
  words : l.words ++ later_constants (drop l.value-index l.values) ≡ l.initial.words ++ later_constants l.values;
  held : All IsHeldDatum (take l.value-index l.values);
}
