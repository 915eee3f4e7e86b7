use Rattle.step_parts.proofs.Ended.{keeps-same}
use Rattle.serve_ahead.proofs.Both.{same-args}
use Rattle.serve_ahead.proofs.joining.is_first_of.Goals as goal

pub returns-clause-same : goal.returns-clause-same
returns-clause-same g c t = record {
  receiver = c.requires.receiver;
  plan = c.requires.plan;
  names = c.names_child.ensures c.if-not-names_child.false;
  number = c.is_of_record.ensures.number c.if-not-is_of_record.false;
  asked = c.is_of_record.ensures.asked c.if-not-is_of_record.false;
  args = same-args c.args.taken.now.start c.args.other.now c.args.at.first c.args.at.second c.requires.of c.requires.receiver (c.has_args.ensures.same t);
}

pub returns-then-not-names_child-clause-keeps : goal.returns-then-not-names_child-clause-keeps
returns-then-not-names_child-clause-keeps g c = keeps-same c.args.site.now c.args.taken.now c.args.hand.now c.requires.taken.stays.hand

pub returns-then-not-is_of_record-clause-keeps : goal.returns-then-not-is_of_record-clause-keeps
returns-then-not-is_of_record-clause-keeps g c = keeps-same c.args.site.now c.args.taken.now c.args.hand.now c.requires.taken.stays.hand
