use Rattle.std.proofs.Common.{◌≡◌, ◌<◌, ◌≤◌, false, arith, inl, refl, sym, ap, ◌∙◌, subst}
use Rattle.life_rules.specs.declared.event.Name.{Name}
use Rattle.life_rules.specs.declared.event.SourceRef.{SourceRef}
use Rattle.life_rules.specs.declared.event.SourceRef.TheVariants.{Node}
use Rattle.std.specs.Prelude.{Some}
use Rattle.std.proofs.lemmas.Option.{same_Some}
use Rattle.plan_rules.specs.declared.node.Node.{Node as PlanNode}
use Rattle.table_steps.specs.ScanSeals.{IsScanSealed}
use Rattle.table_steps.specs.Sights.{IsSourceIn}
use Rattle.table_steps.specs.Views.{IsPlaceIn}
use Rattle.op_slot.proofs.Staying.{stays-here, stays-on}
use Rattle.stop_calls.specs.declared.scanning.Scan.{Scan}
use Rattle.stop_calls.specs.Asides.{ScansOn}
use Rattle.stop_calls.specs.Nestings.{RunsInside, depth_of}
use Rattle.stop_calls.proofs.Keeping.{already-back, roused-back}
use Rattle.stop_calls.proofs.Nesting.{HasCome, HasGoneThrough, found-fewer}
use Rattle.stop_calls.proofs.Passing.{MakesScan, own-source, scans-here, scans-on, asked-nests, asked-back, found-deeper, due-ends, due-on, found-inside, due-nests, through-on, sealed-ends}
use Rattle.exec_recv.specs.Actions.{Acts, ListsActions}
use Rattle.exec_recv.proofs.Sources.{all-source}
use Rattle.exec_recv.proofs.Acting.{AddsOthers, lists-others, lists-on, others-on}
use Rattle.exec_recv.proofs.Running.{due-lists, through-others, sealed-others}
use Rattle.exec_recv.proofs.Actions.{lists-here, other-acts, past-acts, delay-acts, all-acts}
use Rattle.exec_recv.proofs.scans.+scanning.Goals as goal

pub act-request_stop-requires-clause-source : goal.act-request_stop-requires-clause-source
act-request_stop-requires-clause-source g t c κs =
    own-source c.args.table.now c.args.place c.requires.place
    (all-source c.args.table.now c.args.plan.now c.requires.over c.args.place.node c.in-WhenAll.children
    (c.node.ensures ∙ ap (λ (n : PlanNode). Some n) c.in-WhenAll.is))

pub act-request_stop-requires-clause-needs : goal.act-request_stop-requires-clause-needs
act-request_stop-requires-clause-needs g t c κs = inl (inl c.requires.inside.runs)

pub act-run_scan-requires : goal.act-run_scan-requires
act-run_scan-requires g t c κs within =
    let makes : MakesScan _ _ c.args.table.now (Node c.args.place) = record {
      tree = c.requires.over.is_tree;
      is_one = own-source c.args.table.now c.args.place c.requires.place
          (all-source c.args.table.now c.args.plan.now c.requires.over c.args.place.node c.in-WhenAll.children
          (c.node.ensures ∙ ap (λ (n : PlanNode). Some n) c.in-WhenAll.is));
      failure = false;
      scan = c.in-Made.scan;
      old = c.args.hand.now;
      new = c.request_stop.new.hand;
      may = c.requires.inside.may;
      asked = c.in-Made.ensures.requested;
    } in
    let falls = c.decreases in
    let tree = c.args.table.now.frame.tree in
    let same : depth_of tree c.in-Made.scan.source ≡ c.args.place.node =
    ap (λ (s : Scan). depth_of tree s.source) makes.asked.answer_is.1 in
    (omega (arith, falls, same), (within.0, (within.1, (c.request_stop.ensures.stays.hand, (c.requires.over, asked-nests makes)))))

pub act-returns-in-Delay-clause-back : goal.act-returns-in-Delay-clause-back
act-returns-in-Delay-clause-back g t c = roused-back c.args.table.now c.args.hand.now c.rouse.new.hand c.args.place c.rouse.result c.rouse.ensures.roused

pub act-returns-in-Made-clause-back : goal.act-returns-in-Made-clause-back
act-returns-in-Made-clause-back g t c =
    let makes : MakesScan _ _ c.args.table.now (Node c.args.place) = record {
      tree = c.requires.over.is_tree;
      is_one = own-source c.args.table.now c.args.place c.requires.place
          (all-source c.args.table.now c.args.plan.now c.requires.over c.args.place.node c.in-WhenAll.children
          (c.node.ensures ∙ ap (λ (n : PlanNode). Some n) c.in-WhenAll.is));
      failure = false;
      scan = c.in-Made.scan;
      old = c.args.hand.now;
      new = c.request_stop.new.hand;
      may = c.requires.inside.may;
      asked = c.in-Made.ensures.requested;
    } in
    asked-back makes c.run_scan.new.hand.me c.run_scan.ensures.ended

pub act-returns-in-Already-clause-back : goal.act-returns-in-Already-clause-back
act-returns-in-Already-clause-back g t c =
    already-back c.args.table.now c.args.hand.now c.request_stop.new.hand (Node c.args.place) _ c.in-Already.ensures.requested

pub act-returns-then-place-size-clause-acts : goal.act-returns-then-place-size-clause-acts
act-returns-then-place-size-clause-acts g t c =
    past-acts c.args.table.now c.args.plan.now c.args.place c.args.hand.now.me
    (subst (λ n. n ≤ c.args.place.node) c.size.ensures.size c.if-place-size.true)

pub act-returns-in_default-clause-acts : goal.act-returns-in_default-clause-acts
act-returns-in_default-clause-acts g t c =
    other-acts c.args.table.now c.args.plan.now c.args.place c.args.hand.now.me
    (λ turns at. c.in_default.not-Delay turns (same_Some _ _ (sym c.node.ensures ∙ at)))
    (λ children at. c.in_default.not-WhenAll children (same_Some _ _ (sym c.node.ensures ∙ at)))

pub act-returns-in-Delay-clause-acts : goal.act-returns-in-Delay-clause-acts
act-returns-in-Delay-clause-acts g t c =
    delay-acts c.args.table.now c.args.plan.now c.args.place c.args.hand.now c.rouse.new.hand c.requires.place _
    (c.node.ensures ∙ ap (λ (n : PlanNode). Some n) c.in-Delay.is) c.rouse.result c.rouse.ensures.roused

pub act-returns-in-Made-clause-acts : goal.act-returns-in-Made-clause-acts
act-returns-in-Made-clause-acts g t c =
    let at = c.node.ensures ∙ ap (λ (n : PlanNode). Some n) c.in-WhenAll.is in
    all-acts c.args.table.now c.args.plan.now c.args.place c.args.hand.now c.request_stop.new.hand
    (own-source c.args.table.now c.args.place c.requires.place
    (all-source c.args.table.now c.args.plan.now c.requires.over c.args.place.node c.in-WhenAll.children at)) c.in-WhenAll.children at
    false _ c.in-Made.ensures.requested c.run_scan.new.hand.me
    (subst (λ (s : SourceRef). ListsActions c.args.table.now c.args.plan.now s c.request_stop.new.hand.me c.run_scan.new.hand.me)
    (ap (λ (s : Scan). s.source) c.in-Made.ensures.requested.answer_is.1) c.run_scan.ensures.acts)

pub act-returns-in-Already-clause-acts : goal.act-returns-in-Already-clause-acts
act-returns-in-Already-clause-acts g t c =
    let at = c.node.ensures ∙ ap (λ (n : PlanNode). Some n) c.in-WhenAll.is in
    all-acts c.args.table.now c.args.plan.now c.args.place c.args.hand.now c.request_stop.new.hand
    (own-source c.args.table.now c.args.place c.requires.place
    (all-source c.args.table.now c.args.plan.now c.requires.over c.args.place.node c.in-WhenAll.children at)) c.in-WhenAll.children at
    false _ c.in-Already.ensures.requested c.request_stop.new.hand.me
    (lists-here c.args.table.now c.args.plan.now (Node c.args.place) c.request_stop.new.hand.me)

pub run_scan-loop-due-init : goal.run_scan-loop-due-init
run_scan-loop-due-init g t c = record {
  stays = stays-here c.args.table.now c.args.hand.now c.requires.hand;
  source = refl;
  nests = c.requires.nests;
  on = scans-here c.args.scan.source c.args.hand.now.me;
  acts = lists-here c.args.table.now c.args.plan.now c.args.scan.source c.args.hand.now.me;
}

pub run_scan-finish-requires-clause-needs : goal.run_scan-finish-requires-clause-needs
run_scan-finish-requires-clause-needs g t c κs =
    let come : HasCome _ _ c.args.table.now = record {
      before = c.loop-due.scan;
      after = c.next.new.self;
      old = c.loop-due.hand;
      new = c.next.new.hand;
      makes = c.loop-due.invariant.nests.makes;
      place = c.in-Some.due.place;
      kept = c.next.ensures.source;
      found = c.in-Some.ensures.scanned;
    } in
    due-ends come c.act.new.hand c.act.ensures.back

pub run_scan-loop-due-smaller : goal.run_scan-loop-due-smaller
run_scan-loop-due-smaller g t c =
    found-fewer c.args.table.now c.loop-due.scan c.next.new.self c.loop-due.hand c.next.new.hand c.in-Some.due.place c.in-Some.ensures.scanned

pub run_scan-loop-due-preserved : goal.run_scan-loop-due-preserved
run_scan-loop-due-preserved g t c =
    let board = c.args.table.now in
    let at = c.loop-due.invariant in
    let come : HasCome _ _ c.args.table.now = record {
      before = c.loop-due.scan;
      after = c.next.new.self;
      old = c.loop-due.hand;
      new = c.next.new.hand;
      makes = c.loop-due.invariant.nests.makes;
      place = c.in-Some.due.place;
      kept = c.next.ensures.source;
      found = c.in-Some.ensures.scanned;
    } in
    record {
      stays = stays-on board c.args.hand.now c.act.new.hand c.finish.new.hand
          (stays-on board c.args.hand.now c.next.new.hand c.act.new.hand
          (stays-on board c.args.hand.now c.loop-due.hand c.next.new.hand at.stays c.next.ensures.stays) c.act.ensures.stays)
          c.finish.ensures.stays;
      source = c.next.ensures.source ∙ at.source;
      nests = due-nests come at.nests.around c.act.new.hand c.finish.new.hand c.act.ensures.back c.finish.ensures.over;
      on = scans-on c.args.scan.source c.args.hand.now.me c.loop-due.hand.me c.finish.new.hand.me at.on
          (subst (λ (s : SourceRef). ScansOn c.loop-due.hand.me c.finish.new.hand.me s) at.source
          (due-on come c.act.new.hand c.act.ensures.back c.finish.new.hand c.finish.ensures.over));
      acts = lists-on board c.args.plan.now c.args.scan.source c.args.hand.now.me c.loop-due.hand.me c.finish.new.hand.me at.acts
          (subst (λ (s : SourceRef). ListsActions board c.args.plan.now s c.loop-due.hand.me c.finish.new.hand.me) at.source
          (due-lists board c.args.plan.now c.loop-due.scan c.next.new.self c.loop-due.hand c.next.new.hand c.act.new.hand c.finish.new.hand
          c.in-Some.due.place c.in-Some.ensures.place c.in-Some.ensures.scanned
          (subst (λ (x : Name). Acts board c.args.plan.now x c.next.new.hand.me c.act.new.hand.me) c.place-place.ensures c.act.ensures.acts)
          c.finish.ensures.over));
    }

pub run_scan-seal-requires-clause-source : goal.run_scan-seal-requires-clause-source
run_scan-seal-requires-clause-source g t c κs =
    subst (IsSourceIn c.args.table.now) (sym c.next.ensures.source) c.loop-due.invariant.nests.makes.is_one

pub run_scan-returns-clause-stays : goal.run_scan-returns-clause-stays
run_scan-returns-clause-stays g t c =
    stays-on c.args.table.now c.args.hand.now c.next.new.hand c.seal.new.hand
    (stays-on c.args.table.now c.args.hand.now c.loop-due.hand c.next.new.hand c.loop-due.invariant.stays c.next.ensures.stays)
    c.seal.ensures.stays

pub run_scan-returns-clause-ended : goal.run_scan-returns-clause-ended
run_scan-returns-clause-ended g t c =
    let board = c.args.table.now in
    let at = c.loop-due.invariant in
    let gone : HasGoneThrough _ _ board = record {
      before = c.loop-due.scan;
      after = c.next.new.self;
      old = c.loop-due.hand;
      new = c.next.new.hand;
      makes = at.nests.makes;
      kept = c.next.ensures.source;
      through = c.in_default.ensures.scanned;
    } in
    let source = c.next.ensures.source ∙ at.source in
    sealed-ends board c.args.scan.source c.args.hand.now.me c.next.new.hand c.seal.new.hand
    (scans-on c.args.scan.source c.args.hand.now.me c.loop-due.hand.me c.next.new.hand.me at.on
    (subst (λ (s : SourceRef). ScansOn c.loop-due.hand.me c.next.new.hand.me s) at.source
    (through-on gone)))
    (subst (λ (s : SourceRef). IsScanSealed board s c.next.new.hand c.seal.new.hand) source c.seal.ensures.sealed)

pub run_scan-returns-clause-acts : goal.run_scan-returns-clause-acts
run_scan-returns-clause-acts g t c =
    let board = c.args.table.now in
    let at = c.loop-due.invariant in
    let is_one = subst (IsSourceIn board) (sym c.next.ensures.source) at.nests.makes.is_one in
    let source = c.loop-due.scan.source in
    lists-on board c.args.plan.now c.args.scan.source c.args.hand.now.me c.loop-due.hand.me c.seal.new.hand.me at.acts
    (subst (λ (s : SourceRef). ListsActions board c.args.plan.now s c.loop-due.hand.me c.seal.new.hand.me) at.source
    (lists-others board c.args.plan.now source c.loop-due.hand.me c.seal.new.hand.me
    (others-on board source c.loop-due.hand.me.0.steps c.next.new.hand.me.0.steps c.seal.new.hand.me.0.steps
    (through-others board c.loop-due.scan c.next.new.self c.loop-due.hand c.next.new.hand c.in_default.ensures.scanned)
    (subst (λ (s : SourceRef). AddsOthers board s c.next.new.hand.me.0.steps c.seal.new.hand.me.0.steps) c.next.ensures.source
    (sealed-others board c.next.new.self.source c.next.new.hand c.seal.new.hand is_one c.seal.ensures.sealed)))))

-- the callback's action scans less deep
pub run_scan-act-requires : goal.run_scan-act-requires
run_scan-act-requires g t c κs within =
    let tree = c.args.table.now.frame.tree in
    let at = c.loop-due.invariant in
    let falls = c.decreases in
    let come : HasCome _ _ c.args.table.now = record {
      before = c.loop-due.scan;
      after = c.next.new.self;
      old = c.loop-due.hand;
      new = c.next.new.hand;
      makes = c.loop-due.invariant.nests.makes;
      place = c.in-Some.due.place;
      kept = c.next.ensures.source;
      found = c.in-Some.ensures.scanned;
    } in
    let deeper : c.in-Some.due.place.node < depth_of tree c.loop-due.scan.source =
    found-deeper come in
    let less : c.place-place.result.node < depth_of tree c.args.scan.source =
    subst (λ (x : Name). x.node < depth_of tree c.args.scan.source) (sym c.place-place.ensures)
    (subst (λ (s : SourceRef). c.in-Some.due.place.node < depth_of tree s) at.source deeper) in
    let place = sym c.place-place.ensures in
    let inside = found-inside come at.nests.around in (
      omega (arith, falls, less),
      (
        within.0,
        (
          within.1,
          (
            c.next.ensures.stays.hand,
            (
              c.requires.over,
              (
                subst (λ (x : Name). IsPlaceIn c.args.table.now x) place c.in-Some.ensures.place,
                subst (λ (x : Name). RunsInside c.next.new.hand.me.0 x) place inside,
              ),
            ),
          ),
        ),
      ),
    )
