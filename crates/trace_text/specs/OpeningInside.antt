-- What the fields of an opening mean.
use Rattle.trace_text.specs.declared.opening.Opening.TheInside.{Inside}
use Rattle.trace_text.specs.Setups.{Setup}

abbrev pub setup_of : Inside → Setup
setup_of o = record {
  nodes = o.tree;
  blocks = o.blocks;
  hands = o.hands;
  kind = o.kind;
  most = o.most;
}
