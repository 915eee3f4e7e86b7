-- A `delay` removes its callback: where that ran, the request is seen.
use Rattle.std.proofs.Common.{◌≡◌, Bool, true, false, ◌||◌, List, ◌∷◌, ap, ◌∙◌}
use Rattle.std.specs.Prelude.{Option, Some, None, is_some}
use Rattle.std.specs.Option.{option_map_or}
use Rattle.std.proofs.lemmas.Bool.{both_ways}
use Rattle.common_lemmas.proofs.Bool.{either}
use Rattle.atomic_table.specs.declared.shared.Seat.{Seat}
use Rattle.life_rules.specs.declared.event.Name.{Name}
use Rattle.life_rules.specs.declared.event.SourceRef.{SourceRef}
use Rattle.life_rules.specs.States.{source_for}
use Rattle.life_rules.proofs.Names.{same_source-refl}
use Rattle.node_tree.specs.Tree.{nearest}
use Rattle.plan_shape.specs.Blueprint.{Blueprint}
use Rattle.table_rules.specs.declared.view.View.{View}
use Rattle.table_rules.specs.ShownViews.{has_source_ref}
use Rattle.table_steps.specs.Seats.{Seated}
use Rattle.table_steps.specs.Slots.{has_seen}
use Rattle.table_steps.specs.Views.{Board}
use Rattle.stop_calls.specs.declared.removing.Settled.{Settled}
use Rattle.stop_calls.specs.declared.removing.Settled.TheVariants.{NeverRan, Ran, OwnHand}
use Rattle.stop_calls.specs.Removals.{IsLastTry, IsSettled}
use Rattle.home_items.specs.declared.entry.Entry.{Entry}
use Rattle.home_items.specs.declared.item.Item.{Item}
use Rattle.step_parts.specs.Heard.{was_told, has_heard, hears_one, MaySee}
use Rattle.exec_delay.specs.Withdraws.{did_run, Withdraws}

-- a source that is learned is seen
learned : (near : Option SourceRef) (seen : List SourceRef) → is_some near ≡ true →
    option_map_or (has_source_ref (option_map_or (λ source. source ∷ seen) near seen)) near false ≡ true
learned None seen some = cc
learned (Some source) seen some = ap (λ b. b || has_source_ref seen source) (same_source-refl source)

module _ (board : Board Blueprint) (x : Name) where
  last-seen : (settled : Settled) (old new : Seat (Option Item) (View Item Entry)) → IsLastTry board x old new settled →
      hears_one board x ≡ true → did_run settled ≡ true → has_seen board.frame.tree new.me.0 x ≡ true
  last-seen NeverRan old new tried hears ran = cc
  last-seen Ran old new tried hears ran =
      ap (λ (z : Seated Item Entry). has_seen board.frame.tree z.0 x) tried.told.me_is
      ∙ learned (source_for x (nearest board.frame.tree x.node)) old.me.0.seen hears
  last-seen OwnHand old new tried hears ran = cc

  -- a callback that ran tells of a request
  pub ran-seen : (settled : Settled) (old new : Seat (Option Item) (View Item Entry)) → IsSettled board x old new settled →
      hears_one board x ≡ true → did_run settled ≡ true → has_seen board.frame.tree new.me.0 x ≡ true
  ran-seen settled old new is = last-seen settled is.middle new is.last

  -- so a parcel may say that it was seen
  pub ran-sees : (ran : Bool) (old new : Seat (Option Item) (View Item Entry)) → Withdraws board x ran old new → MaySee board x ran new.me
  ran-sees ran old new withdraws none =
      either (hears_one board x)
      (λ hears. either ran
      (λ yes. absurd (both_ways (has_heard board x new.me) none
      (ap (λ b. b || was_told x new.me) ((withdraws.removes hears).seen hears yes))))
      (λ no. no))
      (λ deaf. (withdraws.deaf deaf).0)
