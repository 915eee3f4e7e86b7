use Rattle.join_commands.proofs.AskLaws.{ends_lines, ends_dealt, ends_summary}
use Rattle.join_commands.proofs.joining.join_asked.Goals as goal

pub returns-in-Lines-clause-ends : goal.returns-in-Lines-clause-ends
returns-in-Lines-clause-ends g c = λ all known.
    ends_lines all c.args.names.now (g.K.Sink.told c.args.out.now) (g.K.Sink.told c.join_lines.new.out) c.args.asked c.join_lines.result c.in-Lines.is
    (c.join_lines.ensures.joined all known) (c.join_lines.ensures.fault all known) (c.join_lines.ensures.front all known)

pub returns-in-Dealt-clause-ends : goal.returns-in-Dealt-clause-ends
returns-in-Dealt-clause-ends g c = λ all known.
    ends_dealt all c.args.names.now (g.K.Sink.told c.args.out.now) (g.K.Sink.told c.join_lines-in-Dealt.new.out) c.args.asked c.join_lines-in-Dealt.result c.in-Dealt.is
    (c.join_lines-in-Dealt.ensures.joined all known) (c.join_lines-in-Dealt.ensures.fault all known) (c.join_lines-in-Dealt.ensures.front all known)

pub returns-in-Summary-clause-ends : goal.returns-in-Summary-clause-ends
returns-in-Summary-clause-ends g c = λ all known.
    ends_summary all c.args.names.now (g.K.Sink.told c.args.out.now) (g.K.Sink.told c.join_summaries.new.out) c.args.asked c.join_summaries.result c.in-Summary.is
    (c.join_summaries.ensures.joined all known) (c.join_summaries.ensures.fault all known) (c.join_summaries.ensures.front all known)
