-- An operation that was started, and then collected.
use Rattle.std.proofs.Common.{◌≡◌, List, ◌∷◌, ap, ◌∙◌, subst}
use Rattle.std.specs.Prelude.{Some}
use Rattle.std.proofs.lemmas.Bool.{cond-true}
use Rattle.life_rules.specs.declared.event.Name.{Name}
use Rattle.life_rules.specs.Views.{same}
use Rattle.life_rules.proofs.Names.{same-refl}
use Rattle.plan_shape.specs.Blueprint.{Blueprint}
use Rattle.run_tally.specs.Gathered.{Gathered}
use Rattle.table_rules.specs.declared.view.Rooted.{Rooted}
use Rattle.table_rules.specs.Named.{find_by, without}
use Rattle.table_steps.specs.declared.block.Block.{Block}
use Rattle.table_steps.specs.Views.{Board}
use Rattle.table_steps.specs.Claims.{root_name}
use Rattle.table_steps.specs.Seats.{Seated}
use Rattle.table_steps.specs.Slots.{noted_at}
use Rattle.home_items.specs.declared.entry.Entry.{Entry}
use Rattle.home_items.specs.declared.item.Item.{Item}
use Rattle.exec_recv.specs.Asides.{Aside, aside_of, KeepsAside}
use Rattle.node_walks.specs.declared.completing.Collected.{Collected}
use Rattle.run_loop.specs.declared.looped.Loop.{Loop as Looped}
use Rattle.node_walks.specs.Completes.{IsFor, IsListed}
use Rattle.run_loop.specs.Collects.{Collects}
use Rattle.node_walks.specs.Emptied.{with_released}
use Rattle.node_walks.specs.Leaves.{LeavesAside}
use Rattle.run_loop.specs.Loops.{KeepsCounts, Raises}
use Rattle.node_walks.specs.Starts.{CanRun, with_started}
use Rattle.run_loop.specs.Starts.{StartsIn}
use Rattle.run_loop.specs.Waits.{IsCollected, HasRun, with_block_used}
use Rattle.node_walks.proofs.Growing.{aside-leaves, leaves-then}

abbrev at_noted : Rooted Entry → Name
at_noted e = e.name

-- what a call that keeps all aside leaves of the listed operations
pub listed-still : (board : Board Blueprint) (b : Block) (m m' : Seated Item Entry) → KeepsAside m m' → IsListed board b m →
    IsListed board b m'
listed-still board b m m' aside listed =
    record {
      within = listed.within;
      start = listed.start;
      noted = ap (λ (a : Aside). find_by at_noted a.noted (root_name board b.index b.generation)) aside.same ∙ listed.noted;
      receiver = listed.receiver;
    }

-- a collection after calls that keep all aside
pub collected-later : (board : Board Blueprint) (b : Block) (old between new : Looped) (c : Collected) →
    KeepsAside old.hand.me between.hand.me → KeepsCounts old between → Collects board b between new c → IsCollected board b old new c
collected-later board b old between new c aside counts did =
    let x = root_name board b.index b.generation in
    record {
      is_for = λ e noted.
          subst (λ r. IsFor e.start r c) (ap (λ (a : Aside). a.requested) aside.same)
          (did.is_for e (ap (λ (a : Aside). find_by at_noted a.noted x) aside.same ∙ noted));
      leaves = leaves-then (with_released x) (aside_of old.hand.me.0) old.hand.me between.hand.me new.hand.me
          (aside-leaves old.hand.me between.hand.me aside) did.leaves;
      counts = record {
        helps = did.helps ∙ counts.helps;
        tally = subst (λ (t : List Gathered). Raises board c t new.tally) counts.tally did.tally;
      };
    }

module _ (board : Board Blueprint) (b : Block) (start : List Entry) (old between : Looped) (did : StartsIn board b start old between) where
  abbrev x : Name
  x = root_name board b.index b.generation

  abbrev root_noted : Rooted Entry
  root_noted = record { name = x; start = start }

  -- its start is noted
  pub started-noted : noted_at between.hand.me.0 x ≡ Some root_noted
  started-noted =
      ap (λ (a : Aside). find_by at_noted a.noted x) did.leaves.is
      ∙ cond-true (same x x) (Some root_noted) (find_by at_noted old.hand.me.0.noted x) (same-refl x)

  -- so it is listed
  pub started-listed : CanRun board start → IsListed board b between.hand.me
  started-listed run = record { within = did.within; start = start; noted = started-noted; receiver = run.receiver }

  -- its note is forgotten when the block is given back
  forgotten : with_released x (with_started x start (aside_of old.hand.me.0)) ≡ with_block_used (aside_of old.hand.me.0)
  forgotten =
      ap (λ (l : List (Rooted Entry)). record (with_block_used (aside_of old.hand.me.0)) { noted = l })
      (cond-true (same x x) old.hand.me.0.noted (root_noted ∷ without at_noted old.hand.me.0.noted x) (same-refl x))

  -- and when it is collected, all is as it was
  pub started-run : (new : Looped) (c : Collected) → KeepsCounts old between → IsCollected board b between new c → HasRun board start old new c
  started-run new c counts collected =
      record {
        is_for = subst (λ r. IsFor start r c) (ap (λ (a : Aside). a.requested) did.leaves.is)
            (collected.is_for root_noted started-noted);
        leaves = subst (λ (aside : Aside). LeavesAside aside old.hand.me new.hand.me) forgotten
            (leaves-then (with_released x) (with_started x start (aside_of old.hand.me.0)) old.hand.me between.hand.me new.hand.me did.leaves
            collected.leaves);
        counts = record {
          helps = collected.counts.helps ∙ counts.helps;
          tally = subst (λ (t : List Gathered). Raises board c t new.tally) counts.tally collected.counts.tally;
        };
      }
