use Rattle.std.proofs.Common.{false, sym, ap, ◌∙◌, subst}
use Rattle.std.specs.Prelude.{Option}
use Rattle.atomic_table.specs.declared.shared.Seat.{Seat}
use Rattle.deck_relay.specs.Desks.{deck_in, post_in}
use Rattle.home_items.specs.declared.entry.Entry.{Entry}
use Rattle.home_items.specs.declared.item.Item.{Item}
use Rattle.table_rules.specs.declared.view.View.{View}
use Rattle.table_steps.specs.Views.{knows}
use Rattle.run_loop.specs.Loops.{deck_of}
use Rattle.record_operations.specs.Opened.{IsUnusedHand}
use Rattle.record_operations.specs.Runs.{run_of}
use Rattle.record_operations.proofs.Held.{named-sound}
use Rattle.record_operations.proofs.Holding.{both-are}
use Rattle.record_operations.proofs.Sounding.{opened-sound}
use Rattle.record_operations.proofs.running.TableRun.open.Goals as goal

pub invariant_of-result : goal.invariant_of-result
invariant_of-result g c =
    let opened = c.in-Ok-open-2.ensures.opened in
    let seated = c.seat-looped in
    record {
      sound = named-sound g.B.OnTable.is g.B.OnTable.claimed
          (run_of c.args.table.now c.args.plan.now c.in-Ok-open-2.looped c.in-Ok.operations.items false c.in-Ok-open.futures)
          (g.T.Stepper.plan c.args.stepper.now) 0 seated.result seated.ensures.rest
          (opened-sound g.B.OnTable.is g.B.OnTable.claimed c.args.table.now c.args.plan.now (g.T.Stepper.plan c.args.stepper.now) c.args.tickets
          (record c.in-Ok-open-2.looped { names = seated.result.names }) c.requires.on
          (c.requires.claimed ∙ ap (λ (h : Seat (Option Item) (View Item Entry)). (knows h).claimed) (sym opened.hand_is)) c.requires.over c.requires.kinds c.requires.stepper
          c.requires.scope c.requires.some c.requires.few (subst (IsUnusedHand c.args.table.now) (sym opened.hand_is) c.requires.hand) opened.next opened.tally
          opened.delays c.in-Ok.operations.items c.in-Ok.ensures _ c.in-Ok-open.futures c.in-Ok-open.ensures);
      spawns_is = c.has_ahead-spawns.ensures;
      both = both-are (deck_in g.B.OnTable.desk) (post_in g.B.OnTable.desk) (deck_of seated.result) c.parts_of-deck.result.1
          (ap deck_in c.requires.desk ∙ sym c.parts_of-deck.ensures.deck ∙ sym seated.ensures.deck) (ap post_in c.requires.desk ∙ sym c.parts_of-deck.ensures.post);
    }
