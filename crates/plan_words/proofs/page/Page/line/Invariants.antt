use Rattle.std.proofs.Common.{◌≡◌, ◌++◌, replicate}
use Rattle.plan_words.proofs.page.Page.line.Given as goal

-- the blanks so far
abbrev pub invariant-columns : goal.invariant-columns
invariant-columns l = record {
  text : l.self.text ≡ l.initial.self.text ++ replicate l._column 32;
  apart : l.self.apart ≡ l.initial.self.apart;
}
