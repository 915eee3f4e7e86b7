-- What starting an operation leaves of the hand's view.
use Rattle.std.proofs.Common.{◌≡◌, ℕ, ◌+◌, ◌-◌, List, ◌∷◌, refl, sym, ap, ◌∙◌, arith}
use Rattle.std.specs.Prelude.{Option}
use Rattle.atomic_table.specs.declared.shared.Seat.{Seat}
use Rattle.count_scope.specs.Leaves.{HasAssociation}
use Rattle.plan_shape.specs.Blueprint.{Blueprint}
use Rattle.table_rules.specs.declared.view.View.{View}
use Rattle.table_rules.specs.declared.view.Rooted.{Rooted}
use Rattle.table_rules.specs.Named.{find_by}
use Rattle.table_steps.specs.Seats.{Seated}
use Rattle.table_steps.specs.ScopeEntries.{MayEnter}
use Rattle.table_steps.specs.Views.{Board}
use Rattle.op_slot.specs.Searches.{IsMissedFrom}
use Rattle.op_slot.proofs.Searching.{missed-from_same}
use Rattle.home_items.specs.declared.entry.Entry.{Entry}
use Rattle.home_items.specs.declared.item.Item.{Item}
use Rattle.exec_recv.specs.Asides.{Aside, aside_of}
use Rattle.run_loop.specs.declared.looped.Loop.{Loop as Looped}
use Rattle.run_loop.specs.Starts.{StartsIn}
use Rattle.node_walks.proofs.Claimed.{missed-grows}
use Rattle.record_operations.specs.declared.tickets.Operation.{Operation}
use Rattle.record_operations.specs.Calls.{LeavesSame, EntersOperation}
use Rattle.record_operations.specs.Runs.{root_of}
use Rattle.record_operations.proofs.Moved.{Moves, moved-aside, moved-sees}

-- with an association that was made an operation was started
pub entered : (board : Board Blueprint) (o : Operation) (start : List Entry) (m : Seated Item Entry) (old new : Looped) →
    Moves (m.0.made + 1) m.0 old.hand.me.0 → StartsIn board o.block start old new → EntersOperation board o start m new.hand.me
entered board o start m old new moved did =
    let aside = moved-aside (m.0.made + 1) m.0 old.hand.me.0 moved in
    record {
      within = did.within;
      unnoted = sym (ap (λ (z : View Item Entry). find_by (λ (e : Rooted Entry). e.name) z.noted (root_of board o)) moved.is) ∙ did.unnoted;
      leaves = record {
        is = did.leaves.is
            ∙ ap (λ (a : Aside). record a { noted = record { name = root_of board o; start = start } ∷ a.noted; claimed = a.claimed + 1 }) aside;
        sees = λ source seen. did.leaves.sees source (moved-sees (m.0.made + 1) m.0 old.hand.me.0 moved source seen);
      };
    }

-- no block was free: the hand has the association still
module _ (board : Board Blueprint) (from count : ℕ) (m : Seated Item Entry) (old new : Seat (Option Item) (View Item Entry))
    (moved : Moves (m.0.made + 1) m.0 old.me.0) (missed : IsMissedFrom board from count old new) where
  missed-aside : aside_of new.me.0 ≡ record (aside_of m.0) { made = m.0.made + 1 }
  missed-aside =
      missed-from_same board (λ (z : Seated Item Entry). aside_of z.0) (λ i word z. refl) from count old new missed
      ∙ moved-aside (m.0.made + 1) m.0 old.me.0 moved

  pub missed-has : MayEnter m.0 → HasAssociation new.me.0
  missed-has settled =
      let made = ap (λ (a : Aside). a.made) missed-aside in
      record {
        settled = ap (λ (a : Aside). a.making + a.refused) missed-aside ∙ settled;
        one = omega (arith, made);
      }

  -- and when it has left it, all is as it was
  pub missed-back : (end : Seated Item Entry) → Moves (new.me.0.made - 1) new.me.0 end.0 → LeavesSame m end
  missed-back end left =
      let made = ap (λ (a : Aside). a.made) missed-aside in
      let fewer : new.me.0.made - 1 ≡ m.0.made = omega (arith, made) in
      record {
        is = moved-aside (new.me.0.made - 1) new.me.0 end.0 left
            ∙ ap (λ (a : Aside). record a { made = new.me.0.made - 1 }) missed-aside
            ∙ ap (λ k. record (aside_of m.0) { made = k }) fewer;
        sees = λ source seen.
            moved-sees (new.me.0.made - 1) new.me.0 end.0 left source
            ((missed-grows board from count old new missed).sees source (moved-sees (m.0.made + 1) m.0 old.me.0 moved source seen));
      }
