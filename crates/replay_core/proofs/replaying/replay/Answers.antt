use Rattle.std.proofs.Common.{◌≡◌, ◌+◌, true, List, drop, length, get_or, subst, refl, sym, ap, ◌∙◌, arith}
use Rattle.std.specs.List.{list_all}
use Rattle.exec_life.specs.StateLists.{machine}
use Rattle.trace_text.specs.declared.entry.Choice.{Choice}
use Rattle.trace_text.specs.declared.entry.Entry.{Entry}
use Rattle.trace_text.specs.Setups.{Setup}
use Rattle.trace_text.specs.Values.{TraceValue, has_choice, has_entry}
use Rattle.replay_core.specs.Replays.{entries_from}
use Rattle.replay_core.specs.Traces.{first_state, AreTaken}
use Rattle.replay_core.proofs.Followed.{Follow, follow-first, follow-more, follow-all, rest-next, hand-there}
use Rattle.replay_core.proofs.replaying.replay.Goals as goal

pub loop-choice-init : goal.loop-choice-init
loop-choice-init c =
    follow-first c.args.schedule.now.opening _ _ _ _ (c.in_ok-state.ensures ∙ ap first_state c.opening.ensures.opening)
    c.new-entries.ensures.items refl

pub follow-requires : goal.follow-requires
follow-requires c =
    let o = c.args.schedule.now.opening in
    let each =
    subst (λ (l : List Choice). list_all (has_choice o) l ≡ true) (sym c.entries-choice-items.ensures) c.opening.ensures.schedule.each in
    hand-there o (machine c.loop-choice.state) c.entries-choice-items.result.now c.loop-choice.choice-index _ _ each
    c.loop-choice.invariant.table c.loop-choice-test.true refl

pub loop-choice-preserved : goal.loop-choice-preserved
loop-choice-preserved c =
    let o = c.args.schedule.now.opening in
    let all = c.entries-choice-items.result.now in
    let i = c.loop-choice.choice-index in
    let s = machine c.loop-choice.state in
    let es = c.loop-choice.entries.items in
    let choice : Choice = get_or all i (record { hand = 0; choice = 0 }) in
    let each =
    subst (λ (l : List Choice). list_all (has_choice o) l ≡ true) (sym c.entries-choice-items.ensures) c.opening.ensures.schedule.each in
    let hand = hand-there o s all i choice _ each c.loop-choice.invariant.table c.loop-choice-test.true refl in
    let so_far =
    subst (λ (l : List Choice). Follow o s es l all) (rest-next all i choice _ c.loop-choice-test.true refl) c.loop-choice.invariant in
    follow-more o s (machine c.follow.new.state) es c.follow.new.entries.items choice (drop (i + 1) all) all so_far
    c.in_ok-follow.ensures.entry c.in_ok-follow.ensures.table hand

pub new-requires-clause-few : goal.new-requires-clause-few
new-requires-clause-few c =
    omega (arith, c.loop-choice.invariant.few, ap length c.entries-choice-items.ensures, c.opening.ensures.schedule.few)

pub new-requires-clause-each : goal.new-requires-clause-each
new-requires-clause-each c =
    let same : c.in_ok-clone.field-0 ≡ c.args.schedule.now.opening = c.in_ok-clone.ensures.cases ∙ c.opening-2.ensures.opening in
    subst (λ (o : Setup). list_all (has_entry o) c.loop-choice.entries.items ≡ true) (sym same) c.loop-choice.invariant.there

pub returns-clause-rule : goal.returns-clause-rule
returns-clause-rule c =
    let o = c.args.schedule.now.opening in
    let same : c.in_ok-clone.field-0 ≡ o = c.in_ok-clone.ensures.cases ∙ c.opening-2.ensures.opening in
    let entries =
    follow-all o (machine c.loop-choice.state) c.loop-choice.entries.items c.entries-choice-items.result.now c.loop-choice.choice-index
    c.loop-choice.invariant c.loop-choice-test.false
    ∙ ap (entries_from (first_state o)) c.entries-choice-items.ensures in
    let opened : Setup → TraceValue = λ u. record { opening = u; entries = c.loop-choice.entries.items } in
    let with : List Entry → TraceValue = λ l. record { opening = o; entries = l } in
    c.new.ensures ∙ ap opened same ∙ ap with entries

pub returns-clause-taken : goal.returns-clause-taken
returns-clause-taken c =
    let o = c.args.schedule.now.opening in
    let same : c.in_ok-clone.field-0 ≡ o = c.in_ok-clone.ensures.cases ∙ c.opening-2.ensures.opening in
    let opened : Setup → TraceValue = λ u. record { opening = u; entries = c.loop-choice.entries.items } in
    let P : TraceValue → Type 0 = λ t. AreTaken t (length t.entries) in
    subst P (sym (c.new.ensures ∙ ap opened same)) c.loop-choice.invariant.taken
