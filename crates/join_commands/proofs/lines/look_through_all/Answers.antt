use Rattle.std.proofs.Common.{◌≡◌, ◌≤◌, ◌+◌, ◌++◌, ◌∷◌, [], List, take, false, sym, subst, ◌∙◌}
use Rattle.std.specs.Prelude.{All, is_err, vec_len}
use Rattle.std.proofs.lemmas.List.Elements.{All-push}
use Rattle.part_lines.specs.declared.tally.Tally.{Tally}
use Rattle.part_lines.specs.declared.limits.TheConstants.{MOST_LINES}
use Rattle.join_commands.specs.Joins.{AreTallied}
use Rattle.join_commands.proofs.EndLaws.{at_part_quiet}
use Rattle.join_commands.proofs.JoinLaws.{one_more, pushed, stops_there, tallied_at}
use Rattle.join_commands.proofs.lines.look_through_all.Goals as goal

pub loop-at-preserved : goal.loop-at-preserved
loop-at-preserved g c =
    let before : List Tally = c.loop-at.tallies.items in
    let pushes : is_err c.push.result ≡ false = sym c.is_err.ensures.value ∙ c.if-is_err.false in
    let items : c.push.new.self.items ≡ before ++ c.in-Ok.tally ∷ [] = pushed c.push.result c.push.new.self.items before c.in-Ok.tally c.push.ensures.items pushes in
    record {
      whole = λ all known.
          subst (λ (l : List Tally). AreTallied all (take (c.loop-at.at + 1) c.args.names.now) l) (sym items)
          (tallied_at all c.args.names.now c.loop-at.at _ before c.in-Ok.tally c.loop-at-test.true (c.loop-at.invariant.whole all known) (c.in-Ok.ensures.whole all (c.loop-at.invariant.texts ∙ known)));
      many = one_more c.push.result (vec_len c.push.new.self) (vec_len c.loop-at.tallies) c.loop-at.at c.push.ensures.len pushes c.loop-at.invariant.many;
      few = subst (λ (l : List Tally). All (λ (t : Tally). t.lines ≤ MOST_LINES) l) (sym items) (All-push (λ (t : Tally). t.lines ≤ MOST_LINES) before c.in-Ok.tally c.loop-at.invariant.few c.in-Ok.ensures.few);
      texts = c.in-Ok.ensures.same ∙ c.loop-at.invariant.texts;
      faults = c.in-Ok.ensures.cause.still (λ e. cc) ∙ c.loop-at.invariant.faults;
    }

pub returns-in-Err-clause-fault : goal.returns-in-Err-clause-fault
returns-in-Err-clause-fault g c = λ all known.
    stops_there all c.args.names.now c.loop-at.at _ c.in-Err.fault c.at_part.result c.loop-at-test.true (c.in-Err.ensures.fault all (c.loop-at.invariant.texts ∙ known)) c.at_part.ensures

pub returns-in-Err-clause-quiet : goal.returns-in-Err-clause-quiet
returns-in-Err-clause-quiet g c = at_part_quiet c.loop-at.at c.in-Err.fault c.at_part.result c.at_part.ensures

pub returns-then-is_err-clause-same : goal.returns-then-is_err-clause-same
returns-then-is_err-clause-same g c = c.in-Ok.ensures.same ∙ c.loop-at.invariant.texts

pub returns-in-Err-clause-same : goal.returns-in-Err-clause-same
returns-in-Err-clause-same g c = c.in-Err.ensures.same ∙ c.loop-at.invariant.texts

pub returns-clause-same : goal.returns-clause-same
returns-clause-same g c = c.loop-at.invariant.texts
