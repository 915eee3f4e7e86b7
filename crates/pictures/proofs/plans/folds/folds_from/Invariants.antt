use Rattle.std.proofs.Common.{◌≡◌, ◌+◌, ◌++◌, drop}
use Rattle.pictures.specs.Plans.Folds.{folds_from, texts_of}
use Rattle.pictures.proofs.plans.folds.folds_from.Given as goal

abbrev pub invariant-loop-next : goal.invariant-loop-next
invariant-loop-next l = record {
  passed : l.at + l.count ≡ l.next-index + 1;
  rest : l.folds.items ++ folds_from l.at l.count l.text (drop l.next-index (texts_of l.later)) ≡ folds_from 0 1 l.first (texts_of l.later);
}
