use Rattle.std.proofs.Common.{refl, sym, ◌∙◌}
use Rattle.std.proofs.lemmas.Bool.{both_ways}
use Rattle.table_steps.specs.Callbacks.{is_registered}
use Rattle.step_parts.proofs.Ended.{keeps-then, taken-on}
use Rattle.step_parts.proofs.Settled.{can-read, read-keeps, may-withdraw, withdraw-keeps}
use Rattle.exec_delay.proofs.Withdrawn.{ran-seen}
use Rattle.exec_delay.proofs.withdrawing.withdraw_registered.Goals as goal

pub phase_of-phase-requires-clause-holds : goal.phase_of-phase-requires-clause-holds
phase_of-phase-requires-clause-holds g c κs =
    rw c.name-name.ensures (can-read c.site.inside.table.now c.args.taken.now c.args.hand.now (rw (← c.site.view_is) at c.requires.taken))

pub withdraw-settled-requires-clause-needs : goal.withdraw-settled-requires-clause-needs
withdraw-settled-requires-clause-needs g c κs within =
    rw c.name-name.ensures
    (may-withdraw c.site.inside.table.now c.args.taken.now c.phase_of-phase.result c.args.hand.now c.phase_of-phase.new.hand
    (rw (← c.site.view_is) at c.requires.taken) (rw c.name-name.ensures at c.phase_of-phase.ensures.phase) c.phase_of-phase.ensures.stays
    (sym c.is_registered.ensures ∙ c.if-not-is_registered.false))

pub returns-then-not-is_registered-clause-keeps : goal.returns-then-not-is_registered-clause-keeps
returns-then-not-is_registered-clause-keeps g c =
    rw (← c.site.view_is)
    (read-keeps c.site.inside.table.now c.args.taken.now c.phase_of-phase.result c.args.hand.now c.phase_of-phase.new.hand
    (rw (← c.site.view_is) at c.requires.taken) (rw c.name-name.ensures at c.phase_of-phase.ensures.phase) c.phase_of-phase.ensures.stays)

pub returns-then-not-is_registered-clause-removes : goal.returns-then-not-is_registered-clause-removes
returns-then-not-is_registered-clause-removes g c =
    rw (← c.site.view_is, ← c.name-name.ensures)
    (record {
      phase = c.phase_of-phase.result;
      middle = c.phase_of-phase.new.hand;
      read = c.phase_of-phase.ensures.phase;
      removes = λ registered.
          absurd (both_ways (is_registered c.phase_of-phase.result) (sym c.is_registered.ensures ∙ c.if-not-is_registered.true) registered);
      none = λ unregistered. (refl, refl);
      seen = λ hears ran. cc;
    })

pub returns-clause-keeps : goal.returns-clause-keeps
returns-clause-keeps g c =
    let board = c.site.inside.table.now in
    let t = c.args.taken.now in
    let taken = rw (← c.site.view_is) at c.requires.taken in
    let read = read-keeps board t c.phase_of-phase.result c.args.hand.now c.phase_of-phase.new.hand taken
    (rw c.name-name.ensures at c.phase_of-phase.ensures.phase) c.phase_of-phase.ensures.stays in
    rw (← c.site.view_is)
    (keeps-then board t c.args.hand.now c.phase_of-phase.new.hand c.withdraw-settled.new.hand read
    (withdraw-keeps board t c.withdraw-settled.result c.phase_of-phase.new.hand c.withdraw-settled.new.hand
    (taken-on board t c.args.hand.now c.phase_of-phase.new.hand read taken)
    (rw c.name-name.ensures at c.withdraw-settled.ensures.settled) c.withdraw-settled.ensures.stays))

pub returns-clause-removes : goal.returns-clause-removes
returns-clause-removes g c =
    rw (← c.site.view_is, ← c.name-name.ensures)
    (record {
      phase = c.phase_of-phase.result;
      middle = c.phase_of-phase.new.hand;
      read = c.phase_of-phase.ensures.phase;
      removes = λ registered.
          record { settled = c.withdraw-settled.result; is = c.withdraw-settled.ensures.settled; ran_is = c.did_run.ensures };
      none = λ unregistered.
          absurd (both_ways (is_registered c.phase_of-phase.result) unregistered
          (sym c.is_registered.ensures ∙ c.if-not-is_registered.false));
      seen = λ hears ran.
          ran-seen c.site.inside.table.now c.name-name.result c.withdraw-settled.result c.phase_of-phase.new.hand c.withdraw-settled.new.hand
          c.withdraw-settled.ensures.settled hears (sym c.did_run.ensures ∙ ran);
    })
