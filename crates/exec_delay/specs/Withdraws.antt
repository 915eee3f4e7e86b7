-- How a `delay` that goes on removes its callback.
use Rattle.std.specs.Prelude.{◌≡◌, Bool, true, false, Option}
use Rattle.atomic_table.specs.declared.shared.Seat.{Seat}
use Rattle.life_rules.specs.declared.event.Name.{Name}
use Rattle.life_rules.specs.declared.words.CallbackPhase.{CallbackPhase}
use Rattle.plan_shape.specs.Blueprint.{Blueprint}
use Rattle.table_rules.specs.declared.view.View.{View}
use Rattle.table_steps.specs.Callbacks.{is_registered}
use Rattle.table_steps.specs.Readings.{IsPhaseAs}
use Rattle.table_steps.specs.Slots.{has_seen}
use Rattle.table_steps.specs.Views.{Board, knows}
use Rattle.stop_calls.specs.declared.removing.Settled.{Settled}
use Rattle.stop_calls.specs.declared.removing.Settled.TheVariants.{NeverRan, Ran, OwnHand}
use Rattle.stop_calls.specs.Removals.{IsSettled}
use Rattle.home_items.specs.declared.entry.Entry.{Entry}
use Rattle.home_items.specs.declared.item.Item.{Item}
use Rattle.step_parts.specs.Heard.{hears_one}

-- whether a callback that was removed had run to its end
abbrev pub did_run : Settled → Bool
did_run Ran = true
did_run NeverRan = false
did_run OwnHand = false

module _ (board : Board Blueprint) (x : Name) (ran : Bool)
    (old new : Seat (Option Item) (View Item Entry)) where
  -- the callback of x was removed: the answer is whether it had run
  pub record HasRemoved (middle : Seat (Option Item) (View Item Entry)) : Type 0 where
    pub settled : Settled
    pub is : IsSettled board x middle new settled
    pub ran_is : ran ≡ did_run settled

  -- The callback's word was read, and where that says that it is registered, it was removed. Where
  -- it had run, and x hears a source, the request there is seen.
  pub record Removes : Type 0 where
    pub phase : CallbackPhase
    pub middle : Seat (Option Item) (View Item Entry)
    pub read : IsPhaseAs board.frame x phase old.me middle.me
    pub removes : is_registered phase ≡ true → HasRemoved middle
    pub none : is_registered phase ≡ false → (ran ≡ false) × (new.me ≡ middle.me)
    pub seen : hears_one board x ≡ true → ran ≡ true →
        has_seen board.frame.tree (knows new) x ≡ true

  -- so it was where x hears a source. Where it hears none, nothing was done
  pub record Withdraws : Type 0 where
    pub removes : hears_one board x ≡ true → Removes
    pub deaf : hears_one board x ≡ false → (ran ≡ false) × (new.me ≡ old.me)
