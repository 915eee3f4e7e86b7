-- What a plan is written in is read back.
use Rattle.plan_writer.proofs.Shapes.{root-written}
use Rattle.notation_laws.specs.RoundTrip.{NotationIsReadBack}
use Rattle.notation_laws.proofs.Facts.{plan_nodes}
use Rattle.notation_laws.proofs.Whole.{text_read}

pub read_back : NotationIsReadBack
read_back plan is held text words =
    text_read plan (plan_nodes plan is held) is.settings_are is.some (root-written plan is) text words
