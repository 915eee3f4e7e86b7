use Rattle.std.proofs.Common.{rules}
use Rattle.record_loop.proofs.GeneratedLaws.{fills-on}
use Rattle.record_loop.proofs.generated.GeneratedSource.read.Goals as goal

pub filling-preserved : goal.filling-preserved
filling-preserved c = record {
  within = search rules;
  read = fills-on c.give-given.new.self c.filling.buf c.give-given.new.buf c.filling.invariant.within c.give-given.ensures.few c.filling.invariant.read c.give-given.ensures.bytes;
}
