use Rattle.std.proofs.Common.{◌≡◌, ℕ, ◌+◌, ◌*◌, ◌≤◌, length, refl, sym, ap, ◌∙◌, subst, arith, add-one}
use Rattle.std.proofs.lemmas.Nat.{mul-le}
use Rattle.node_tree.specs.declared.node.TheConstants.{MOST_NODES}
use Rattle.life_rules.specs.declared.limits.TheConstants.{MOST_BLOCKS}
use Rattle.life_rules.specs.declared.event.SourceRef.{SourceRef}
use Rattle.table_steps.specs.Views.{Board}
use Rattle.stop_calls.specs.declared.scanning.Scan.{Scan}
use Rattle.stop_calls.specs.Nestings.{places_left}
use Rattle.table_use.specs.Counts.{RunsSome}
use Rattle.table_use.specs.Scans.{other_scans}
use Rattle.table_use.proofs.Nesting.{keeps-on}
use Rattle.table_use.proofs.Steps.{on, stays, sealed-on}
use Rattle.table_use.proofs.scans.runs_out.Goals as goal

-- the scan goes through at most so many places
few-left : (board : Board ℕ) (scan : Scan) → length board.frame.tree ≤ MOST_NODES → board.frame.layout.blocks ≤ MOST_BLOCKS →
    0 + places_left board scan ≤ MOST_NODES * MOST_BLOCKS
few-left board scan nodes blocks =
    let places = mul-le (length board.frame.tree) board.frame.layout.blocks MOST_NODES MOST_BLOCKS nodes blocks in omega (arith, places)

pub loop-place-init : goal.loop-place-init
loop-place-init c =
    let nodes : length c.args.table.now.frame.tree ≤ MOST_NODES =
    subst (λ n. n ≤ MOST_NODES) (c.size-nodes.ensures.size ∙ ap length c.tree.ensures.tree) c.size-nodes.ensures.bound in
    record {
      table = c.requires.table;
      scans = c.requires.scans;
      source = refl;
      runs = refl;
      others = refl;
      reports = refl;
      holds = record { held = refl; slots = refl; number = refl };
      steps = stays c.args.hand.now.me;
      few = few-left c.args.table.now c.args.scan nodes (subst (λ n. n ≤ MOST_BLOCKS) c.blocks-blocks.ensures.blocks c.blocks-blocks.ensures.most);
      ran = (refl, refl);
    }

pub loop-place-preserved : goal.loop-place-preserved
loop-place-preserved c =
    let before = c.loop-place.invariant in
    let ran = c.runs_one.ensures in
    record {
      table = ran.table;
      scans = ran.scans;
      source = ran.source ∙ before.source;
      runs = ran.runs ∙ before.runs;
      others =
          subst (λ (s : SourceRef). other_scans s c.runs_one.new.hand.me ≡ other_scans s c.loop-place.hand.me) (ran.source ∙ before.source) ran.others
          ∙ before.others;
      reports = ran.reports ∙ before.reports;
      holds = keeps-on c.args.hand.now.me c.loop-place.hand.me c.runs_one.new.hand.me before.holds ran.holds;
      steps = on c.args.hand.now.me c.loop-place.hand.me c.runs_one.new.hand.me before.steps ran.steps;
      few = (let left = before.few in let fewer = c.in-Some.ensures.fewer in omega (arith, left, fewer));
      ran = subst (λ k. RunsSome c.args.table.now k c.args.scan c.runs_one.new.scan c.args.hand.now c.runs_one.new.hand)
          (sym (add-one c.loop-place.count))
          (c.loop-place.scan, c.loop-place.hand, before.ran, (c.in-Some._place, c.in-Some.ensures.ran));
    }

pub returns-clause-steps : goal.returns-clause-steps
returns-clause-steps c =
    on c.args.hand.now.me c.runs_one.new.hand.me c.seal.new.hand.me
    (on c.args.hand.now.me c.loop-place.hand.me c.runs_one.new.hand.me c.loop-place.invariant.steps c.runs_one.ensures.steps)
    (sealed-on c.args.table.now c.runs_one.new.hand c.seal.new.hand _ c.seal.ensures.sealed)

-- all that ran were counted
pub returns-clause-ran : goal.returns-clause-ran
returns-clause-ran c =
    record {
      last = c.loop-place.scan;
      left = c.loop-place.hand;
      runs = c.loop-place.invariant.ran;
      after = c.runs_one.new.scan;
      end = c.runs_one.new.hand;
      through = c.in_default.ensures.through;
      sealed = c.seal.ensures.sealed;
    }

pub returns-clause-holds : goal.returns-clause-holds
returns-clause-holds c =
    let sealed = c.seal.ensures.sealed.me_is in
    keeps-on c.args.hand.now.me c.runs_one.new.hand.me c.seal.new.hand.me
    (keeps-on c.args.hand.now.me c.loop-place.hand.me c.runs_one.new.hand.me c.loop-place.invariant.holds c.runs_one.ensures.holds)
    (record { held = ap (λ z. z.0.held) sealed; slots = ap (λ z. z.1) sealed; number = ap (λ z. z.0.number) sealed })
