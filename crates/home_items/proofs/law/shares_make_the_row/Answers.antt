use Rattle.std.proofs.Common.{length}
use Rattle.home_items.proofs.Shares.{first-none, first-rises, first-last, shares-join}
use Rattle.home_items.proofs.law.shares_make_the_row.Goals as goal

pub returns : goal.returns
returns c = record {
  begins = λ whole. first-none (length whole);
  rises = λ whole part. first-rises (length whole) part;
  joins = shares-join;
  ends = λ whole. first-last (length whole);
}
