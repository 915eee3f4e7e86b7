use Rattle.std.proofs.Common.{false, sym, ap, ◌∙◌, subst}
use Rattle.life_rules.specs.declared.event.SourceRef.{SourceRef}
use Rattle.table_steps.specs.Runs.{CanRun, HasPassed, HasRun}
use Rattle.op_slot.proofs.Staying.{stays-here, stays-on}
use Rattle.stop_calls.specs.declared.scanning.Scan.{Scan}
use Rattle.stop_calls.specs.Searches.{IsBlockMet}
use Rattle.stop_calls.specs.Walks.{PassesBlock}
use Rattle.stop_calls.proofs.Walking.{IsWalking, begins, next-in, none-in, can-enter, passes-block, entered, can-run, passes-place, found, through}
use Rattle.stop_calls.proofs.scanning.Scan.next.Goals as goal

pub loop-place-init : goal.loop-place-init
loop-place-init g c = record {
  stays = stays-here c.args.table.now c.args.hand.now c.requires.table;
  walk = begins c.args.table.now c.args.self.now c.args.hand.now c.requires.stands;
}

pub passes_block-requires-clause-next : goal.passes_block-requires-clause-next
passes_block-requires-clause-next g c κs within =
    let board = c.args.table.now in
    let walk = c.loop-place.invariant.walk in
    let n = next-in board c.tree.result.now c.blocks-in-loop-place.result c.loop-place.self c.in-Some.place c.tree.ensures.tree c.blocks-in-loop-place.ensures.blocks c.in-Some.ensures in
    λ scope. can-enter board c.args.self.now c.args.hand.now walk n
    (sym walk.source_is ∙ scope)

pub loop-place-preserved-then-passes_block : goal.loop-place-preserved-then-passes_block
loop-place-preserved-then-passes_block g c =
    let board = c.args.table.now in
    let walk = c.loop-place.invariant.walk in
    let n = next-in board c.tree.result.now c.blocks-in-loop-place.result c.loop-place.self c.in-Some.place c.tree.ensures.tree c.blocks-in-loop-place.ensures.blocks c.in-Some.ensures in
    let passed = subst (λ (t : SourceRef). PassesBlock board t c.loop-place.read c.passes_block.new.read c.loop-place.hand c.passes_block.new.hand c.in-Some.place.block)
    walk.source_is c.if-passes_block.ensures.met in
    record {
      stays = stays-on board c.args.hand.now c.loop-place.hand c.passes_block.new.hand c.loop-place.invariant.stays
          c.passes_block.ensures.stays;
      walk = subst (λ (s : Scan). IsWalking board c.args.self.now c.args.hand.now s c.passes_block.new.read c.passes_block.new.hand) (sym c.goes_to.ensures)
          (passes-block board c.args.self.now c.args.hand.now walk n
          c.passes_block.new.read c.passes_block.new.hand passed);
    }

pub run_step-requires-clause-needs : goal.run_step-requires-clause-needs
run_step-requires-clause-needs g c κs within =
    let board = c.args.table.now in
    let walk = c.loop-place.invariant.walk in
    let n = next-in board c.tree.result.now c.blocks-in-loop-place.result c.loop-place.self c.in-Some.place c.tree.ensures.tree c.blocks-in-loop-place.ensures.blocks c.in-Some.ensures in
    let met = subst (λ (t : SourceRef). IsBlockMet board t c.in-Some.place.block c.loop-place.read c.passes_block.new.read c.loop-place.hand c.passes_block.new.hand false)
    walk.source_is c.if-passes_block.ensures.met in
    let on = entered board c.args.self.now c.args.hand.now walk
    c.passes_block.new.read c.passes_block.new.hand c.in-Some.place.block met in
    subst (λ (t : SourceRef). CanRun board.frame.tree c.passes_block.new.hand.me.0 t c.in-Some.place.block c.in-Some.place.node)
    (sym (ap (λ (s : Scan). s.source) c.goes_to-in-Some.ensures ∙ walk.source_is))
    (can-run board c.args.self.now c.args.hand.now on.0 n c.requires.idle)

pub returns-in-Some-run_step-clause-scanned : goal.returns-in-Some-run_step-clause-scanned
returns-in-Some-run_step-clause-scanned g c =
    let board = c.args.table.now in
    let walk = c.loop-place.invariant.walk in
    let n = next-in board c.tree.result.now c.blocks-in-loop-place.result c.loop-place.self c.in-Some.place c.tree.ensures.tree c.blocks-in-loop-place.ensures.blocks c.in-Some.ensures in
    let met = subst (λ (t : SourceRef). IsBlockMet board t c.in-Some.place.block c.loop-place.read c.passes_block.new.read c.loop-place.hand c.passes_block.new.hand false)
    walk.source_is c.if-passes_block.ensures.met in
    let on = entered board c.args.self.now c.args.hand.now walk
    c.passes_block.new.read c.passes_block.new.hand c.in-Some.place.block met in
    let ran = subst (λ (t : SourceRef). HasRun board t c.in-Some.place.block c.in-Some.place.node c.in-Some-run_step.place c.passes_block.new.hand c.run_step.new.hand)
    (ap (λ (s : Scan). s.source) c.goes_to-in-Some.ensures ∙ walk.source_is) c.in-Some-run_step.ensures.run in
    found board c.args.self.now c.args.hand.now on.0 n
    c.goes_to-in-Some.new.self c.in-Some-run_step.place c.run_step.new.hand on.1 c.goes_to-in-Some.ensures ran

pub loop-place-preserved : goal.loop-place-preserved
loop-place-preserved g c =
    let board = c.args.table.now in
    let walk = c.loop-place.invariant.walk in
    let n = next-in board c.tree.result.now c.blocks-in-loop-place.result c.loop-place.self c.in-Some.place c.tree.ensures.tree c.blocks-in-loop-place.ensures.blocks c.in-Some.ensures in
    let met = subst (λ (t : SourceRef). IsBlockMet board t c.in-Some.place.block c.loop-place.read c.passes_block.new.read c.loop-place.hand c.passes_block.new.hand false)
    walk.source_is c.if-passes_block.ensures.met in
    let on = entered board c.args.self.now c.args.hand.now walk
    c.passes_block.new.read c.passes_block.new.hand c.in-Some.place.block met in
    let passed = subst (λ (t : SourceRef). HasPassed board t c.in-Some.place.block c.in-Some.place.node c.passes_block.new.hand c.run_step.new.hand)
    (ap (λ (s : Scan). s.source) c.goes_to-in-Some.ensures ∙ walk.source_is) c.in_default-run_step.ensures.run in
    record {
      stays = stays-on board c.args.hand.now c.passes_block.new.hand c.run_step.new.hand
          (stays-on board c.args.hand.now c.loop-place.hand c.passes_block.new.hand c.loop-place.invariant.stays c.passes_block.ensures.stays)
          c.run_step.ensures.stays;
      walk = subst (λ (s : Scan). IsWalking board c.args.self.now c.args.hand.now s c.passes_block.new.read c.run_step.new.hand) (sym c.goes_to-in-Some.ensures)
          (passes-place board c.args.self.now c.args.hand.now on.0 n
          c.run_step.new.hand c.requires.idle on.1 passed);
    }

pub returns-clause-scanned : goal.returns-clause-scanned
returns-clause-scanned g c =
    let board = c.args.table.now in
    through board c.args.self.now c.args.hand.now c.loop-place.invariant.walk
    (none-in board c.tree.result.now c.blocks-in-loop-place.result c.loop-place.self c.tree.ensures.tree c.blocks-in-loop-place.ensures.blocks c.in_default.ensures)
