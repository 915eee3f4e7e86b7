use Rattle.std.proofs.Common.{ap, subst, ◌∙◌}
use Rattle.std.specs.Prelude.{Some}
use Rattle.life_rules.specs.declared.event.Name.{Name}
use Rattle.table_steps.specs.Releases.{CanRelease}
use Rattle.table_use.proofs.Again.{TakesAgain, again-home, again-full, again-puts, again-back, again-held, again-still, again-value, again-number, again-finishes, again-releases, again-ends}
use Rattle.table_use.proofs.Stopping.{lost-stops, lost-on, lost-notes, taken-notes, other-stops}
use Rattle.table_use.proofs.Steps.{on, swapped-on, phase-on, taken-on}
use Rattle.table_use.proofs.Readings.{just-within, registered-cause}
use Rattle.table_use.proofs.Noted.{swapped-notes, phased-notes}
use Rattle.table_use.proofs.life.collects.Goals as goal

pub take_home-requires-clause-home : goal.take_home-requires-clause-home
take_home-requires-clause-home c κs =
    let again : TakesAgain c.args.table.now c.args.root c.args.hand.now.me c.take.new.hand.me = record {
      is = c.requires.root.is_root.is_node;
      three = c.requires.root.is_root.three;
      calm = c.requires.calm;
      at = _;
      word = _;
      taken = _;
      took = (c.take.ensures.taken.0 c.if-not-take.false).2;
    } in
    again-home again

pub phase_of-requires-clause-holds : goal.phase_of-requires-clause-holds
phase_of-requires-clause-holds c κs =
    let again : TakesAgain c.args.table.now c.args.root c.args.hand.now.me c.take.new.hand.me = record {
      is = c.requires.root.is_root.is_node;
      three = c.requires.root.is_root.three;
      calm = c.requires.calm;
      at = _;
      word = _;
      taken = _;
      took = (c.take.ensures.taken.0 c.if-not-take.false).2;
    } in
    again-held again c.take_home.ensures.taken

pub finish-requires-clause-needs : goal.finish-requires-clause-needs
finish-requires-clause-needs c κs =
    let again : TakesAgain c.args.table.now c.args.root c.args.hand.now.me c.take.new.hand.me = record {
      is = c.requires.root.is_root.is_node;
      three = c.requires.root.is_root.three;
      calm = c.requires.calm;
      at = _;
      word = _;
      taken = _;
      took = (c.take.ensures.taken.0 c.if-not-take.false).2;
    } in
    again-finishes again c.take_home.ensures.taken c.phase_of.new.hand.me c.phase_of.result c.phase_of.ensures.phase (c.is_registered.ensures.never c.if-is_registered.false)

pub release-requires-clause-needs : goal.release-requires-clause-needs
release-requires-clause-needs c κs =
    let again : TakesAgain c.args.table.now c.args.root c.args.hand.now.me c.take.new.hand.me = record {
      is = c.requires.root.is_root.is_node;
      three = c.requires.root.is_root.three;
      calm = c.requires.calm;
      at = _;
      word = _;
      taken = _;
      took = (c.take.ensures.taken.0 c.if-not-take.false).2;
    } in
    subst (λ (x : Name). CanRelease c.args.table.now.frame.layout c.finish.new.hand.me x) c.requires.root.name
    (again-releases again c.take_home.ensures.taken c.phase_of.new.hand.me c.phase_of.result c.phase_of.ensures.phase c.finish.new.hand.me _ _ _ c.finish.ensures.finished.did)

pub returns-clause-calm : goal.returns-clause-calm
returns-clause-calm c =
    let again : TakesAgain c.args.table.now c.args.root c.args.hand.now.me c.take.new.hand.me = record {
      is = c.requires.root.is_root.is_node;
      three = c.requires.root.is_root.three;
      calm = c.requires.calm;
      at = _;
      word = _;
      taken = _;
      took = (c.take.ensures.taken.0 c.if-not-take.false).2;
    } in
    again-ends again c.take_home.ensures.taken c.phase_of.new.hand.me c.phase_of.result c.phase_of.ensures.phase
    c.finish.new.hand.me _ _ _ c.finish.ensures.finished.did c.release.new.hand.me _ _ _ _ c.release.ensures.released.did

pub returns-clause-answer : goal.returns-clause-answer
returns-clause-answer c =
    let again : TakesAgain c.args.table.now c.args.root c.args.hand.now.me c.take.new.hand.me = record {
      is = c.requires.root.is_root.is_node;
      three = c.requires.root.is_root.three;
      calm = c.requires.calm;
      at = _;
      word = _;
      taken = _;
      took = (c.take.ensures.taken.0 c.if-not-take.false).2;
    } in
    again-value again c.take_home.ensures.taken _ _ (c.unwrap-item.ensures ∙ ap Some c.in-Kept.is)

pub returns-then-not-take-clause-notes : goal.returns-then-not-take-clause-notes
returns-then-not-take-clause-notes c =
    lost-notes c.args.table.now c.args.root c.args.hand.now.me c.take.new.hand.me c.take.result c.if-not-take.true c.take.ensures.taken

pub returns-then-not-take-clause-fault : goal.returns-then-not-take-clause-fault
returns-then-not-take-clause-fault c =
    lost-stops c.args.table.now c.args.root c.args.hand.now.me c.take.new.hand.me c.take.result c.if-not-take.true c.take.ensures.taken
    c.requires.left

pub unwrap-item-requires : goal.unwrap-item-requires
unwrap-item-requires c =
    let again : TakesAgain c.args.table.now c.args.root c.args.hand.now.me c.take.new.hand.me = record {
      is = c.requires.root.is_root.is_node;
      three = c.requires.root.is_root.three;
      calm = c.requires.calm;
      at = _;
      word = _;
      taken = _;
      took = (c.take.ensures.taken.0 c.if-not-take.false).2;
    } in
    again-full again c.take_home.ensures.taken

pub put_home-requires-clause-needs : goal.put_home-requires-clause-needs
put_home-requires-clause-needs c κs =
    let again : TakesAgain c.args.table.now c.args.root c.args.hand.now.me c.take.new.hand.me = record {
      is = c.requires.root.is_root.is_node;
      three = c.requires.root.is_root.three;
      calm = c.requires.calm;
      at = _;
      word = _;
      taken = _;
      took = (c.take.ensures.taken.0 c.if-not-take.false).2;
    } in
    again-puts again c.take_home.ensures.taken
    c.unwrap-item.result c.unwrap-item.ensures

pub returns-in_default-clause-notes : goal.returns-in_default-clause-notes
returns-in_default-clause-notes c =
    swapped-notes c.args.table.now c.args.root c.take_home.new.hand.me c.put_home.new.hand.me _ _ c.put_home.ensures.put
    ∙ swapped-notes c.args.table.now c.args.root c.take.new.hand.me c.take_home.new.hand.me _ _ c.take_home.ensures.taken
    ∙ taken-notes c.args.table.now c.args.root c.args.hand.now.me c.take.new.hand.me _ (c.take.ensures.taken.0 c.if-not-take.false).1 (c.take.ensures.taken.0 c.if-not-take.false).2

pub returns-in_default-clause-fault : goal.returns-in_default-clause-fault
returns-in_default-clause-fault c =
    let again : TakesAgain c.args.table.now c.args.root c.args.hand.now.me c.take.new.hand.me = record {
      is = c.requires.root.is_root.is_node;
      three = c.requires.root.is_root.three;
      calm = c.requires.calm;
      at = _;
      word = _;
      taken = _;
      took = (c.take.ensures.taken.0 c.if-not-take.false).2;
    } in
    other-stops c.args.table.now c.args.root c.args.hand.now.me c.take.new.hand.me _ (c.take.ensures.taken.0 c.if-not-take.false).1 (c.take.ensures.taken.0 c.if-not-take.false).2
    c.take_home.new.hand.me c.put_home.new.hand.me c.take_home.result c.unwrap-item.result c.take_home.ensures.taken c.put_home.ensures.put
    (again-back again c.take_home.ensures.taken c.put_home.new.hand.me
    c.unwrap-item.result c.put_home.ensures.put)
    c.in_default.not-Kept

pub returns-then-is_registered-clause-notes : goal.returns-then-is_registered-clause-notes
returns-then-is_registered-clause-notes c =
    phased-notes c.args.table.now c.args.root c.take_home.new.hand.me c.phase_of.new.hand.me c.phase_of.result c.phase_of.ensures.phase
    ∙ swapped-notes c.args.table.now c.args.root c.take.new.hand.me c.take_home.new.hand.me _ _ c.take_home.ensures.taken
    ∙ taken-notes c.args.table.now c.args.root c.args.hand.now.me c.take.new.hand.me _ (c.take.ensures.taken.0 c.if-not-take.false).1 (c.take.ensures.taken.0 c.if-not-take.false).2

pub returns-then-is_registered-clause-fault : goal.returns-then-is_registered-clause-fault
returns-then-is_registered-clause-fault c =
    let again : TakesAgain c.args.table.now c.args.root c.args.hand.now.me c.take.new.hand.me = record {
      is = c.requires.root.is_root.is_node;
      three = c.requires.root.is_root.three;
      calm = c.requires.calm;
      at = _;
      word = _;
      taken = _;
      took = (c.take.ensures.taken.0 c.if-not-take.false).2;
    } in
    let board = c.args.table.now in
    let took = (c.take.ensures.taken.0 c.if-not-take.false).2 in
    let read = registered-cause board c.args.root c.take_home.new.hand.me c.phase_of.new.hand.me c.phase_of.result
    (c.is_registered.ensures.once c.if-is_registered.true) c.phase_of.ensures.phase
    (again-still again c.take_home.ensures.taken c.phase_of.new.hand.me c.phase_of.result c.phase_of.ensures.phase) in (
      just-within board _ _ c.args.hand.now.me c.take_home.new.hand.me c.phase_of.new.hand.me
          (on c.args.hand.now.me c.take.new.hand.me c.take_home.new.hand.me
          (taken-on board c.args.root c.args.hand.now.me c.take.new.hand.me _ _ _ took)
          (swapped-on board c.args.root c.take.new.hand.me c.take_home.new.hand.me _ _ c.take_home.ensures.taken))
          read.0,
      read.1,
    )

pub returns-clause-number : goal.returns-clause-number
returns-clause-number c =
    let again : TakesAgain c.args.table.now c.args.root c.args.hand.now.me c.take.new.hand.me = record {
      is = c.requires.root.is_root.is_node;
      three = c.requires.root.is_root.three;
      calm = c.requires.calm;
      at = _;
      word = _;
      taken = _;
      took = (c.take.ensures.taken.0 c.if-not-take.false).2;
    } in
    again-number again c.take_home.ensures.taken _ _ (c.unwrap-item.ensures ∙ ap Some c.in-Kept.is)

pub returns-then-not-take-clause-steps : goal.returns-then-not-take-clause-steps
returns-then-not-take-clause-steps c =
    lost-on c.args.table.now c.args.root c.args.hand.now.me c.take.new.hand.me c.take.result c.if-not-take.true c.take.ensures.taken

pub returns-in_default-clause-steps : goal.returns-in_default-clause-steps
returns-in_default-clause-steps c =
    let board = c.args.table.now in
    on c.args.hand.now.me c.take.new.hand.me c.put_home.new.hand.me
    (taken-on board c.args.root c.args.hand.now.me c.take.new.hand.me _ _ _ (c.take.ensures.taken.0 c.if-not-take.false).2)
    (on c.take.new.hand.me c.take_home.new.hand.me c.put_home.new.hand.me
    (swapped-on board c.args.root c.take.new.hand.me c.take_home.new.hand.me _ _ c.take_home.ensures.taken)
    (swapped-on board c.args.root c.take_home.new.hand.me c.put_home.new.hand.me _ _ c.put_home.ensures.put))

pub returns-then-is_registered-clause-steps : goal.returns-then-is_registered-clause-steps
returns-then-is_registered-clause-steps c =
    let board = c.args.table.now in
    on c.args.hand.now.me c.take.new.hand.me c.phase_of.new.hand.me
    (taken-on board c.args.root c.args.hand.now.me c.take.new.hand.me _ _ _ (c.take.ensures.taken.0 c.if-not-take.false).2)
    (on c.take.new.hand.me c.take_home.new.hand.me c.phase_of.new.hand.me
    (swapped-on board c.args.root c.take.new.hand.me c.take_home.new.hand.me _ _ c.take_home.ensures.taken)
    (phase-on board c.args.root c.take_home.new.hand.me c.phase_of.new.hand.me c.phase_of.result c.phase_of.ensures.phase))
