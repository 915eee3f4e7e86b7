-- What a request of the scope's source leaves of a hand at rest, once its callbacks ran.
use Rattle.std.proofs.Common.{◌≡◌, Bool, false, List, ap, ◌∙◌}
use Rattle.std.specs.Prelude.{Option}
use Rattle.atomic_table.specs.declared.shared.Seat.{Seat}
use Rattle.life_rules.specs.declared.event.SourceRef.TheVariants.{Scope}
use Rattle.node_tree.specs.Tree.{IsTree}
use Rattle.plan_shape.specs.Blueprint.{Blueprint}
use Rattle.table_rules.specs.declared.view.Scanning.{Scanning}
use Rattle.table_rules.specs.declared.view.View.{View}
use Rattle.table_rules.specs.ShownViews.{has_source_ref}
use Rattle.table_steps.specs.Seats.{Seated}
use Rattle.table_steps.specs.Sights.{IsSourceIn}
use Rattle.table_steps.specs.Views.{Board}
use Rattle.stop_calls.specs.declared.requesting.Request.TheVariants.{Made, Already}
use Rattle.stop_calls.specs.declared.scanning.Scan.{Scan}
use Rattle.stop_calls.specs.Asides.{KeepsAccounts, ComesBack, EndsScan}
use Rattle.stop_calls.specs.Nestings.{MayScan, Nests}
use Rattle.stop_calls.specs.Requests.{IsAskedFor}
use Rattle.stop_calls.proofs.Keeping.{already-back, longer-seen}
use Rattle.stop_calls.proofs.Passing.{MakesScan, idle-may, asked-nests, asked-others}
use Rattle.home_items.specs.declared.entry.Entry.{Entry}
use Rattle.home_items.specs.declared.item.Item.{Item}
use Rattle.exec_recv.specs.Actions.{ListsActions}
use Rattle.exec_recv.specs.Asides.{aside_of}
use Rattle.exec_recv.proofs.Actions.{lists-here, asked-acts}
use Rattle.node_walks.specs.Resting.{IsAtRest}
use Rattle.record_operations.specs.Calls.{RequestsStop}

-- each table has a word for it
scope-source : (board : Board Blueprint) → IsSourceIn board Scope
scope-source board = record { spot = tt; is_one = tt }

-- what a scan leaves as it was, but whether the hand made the request
accounts-same : (requested : Bool) (scans : List Scanning) (m m' : Seated Item Entry) → KeepsAccounts m m' → m'.0.runs ≡ m.0.runs → m'.0.scans ≡ scans →
    record (aside_of m'.0) { requested = requested } ≡ record (aside_of m.0) { requested = requested; scans = scans }
accounts-same requested scans m m' keeps runs none = λ i. record {
  number = keeps.number i;
  reported = keeps.reported i;
  finished = keeps.finished i;
  noted = keeps.noted i;
  runs = runs i;
  scans = none i;
  made = keeps.made i;
  making = keeps.making i;
  refused = keeps.refused i;
  requested = requested;
  claimed = keeps.claimed i;
  released = keeps.released i;
}

module _ (board : Board Blueprint) (old new : Seat (Option Item) (View Item Entry)) (rests : IsAtRest old.me.0) where
  may : MayScan old.me.0 Scope
  may = idle-may old.me.0 Scope rests.runs rests.scans

  -- the request was made before
  module _ (asked : IsAskedFor board Scope false Already old new) where
    back : ComesBack old.me new.me
    back = already-back board old new Scope false asked

    pub already-rests : IsAtRest new.me.0
    already-rests =
        record {
          held = back.passed.held ∙ rests.held;
          owed = back.passed.aside.owed ∙ rests.owed;
          reported = back.passed.aside.reported ∙ rests.reported;
          finished = back.passed.aside.finished ∙ rests.finished;
          runs = back.runs ∙ rests.runs;
          scans = back.scans ∙ rests.scans;
        }

    pub already-asks : RequestsStop board old.me new.me
    already-asks =
        record {
          same = accounts-same old.me.0.requested old.me.0.scans old.me new.me back.passed.aside back.runs back.scans;
          seen = ap (λ (z : Seated Item Entry). has_source_ref z.0.seen Scope) asked.me_is;
          acts = asked-acts board board.frame.over.value Scope old new (scope-source board) false Already asked new.me
              (lists-here board board.frame.over.value Scope new.me);
        }

  -- this call made it
  module _ (tree : IsTree board.frame.tree) (scan : Scan) (asked : IsAskedFor board Scope false (Made scan) old new) where
    abbrev makes : MakesScan Item Entry board Scope
    makes = record {
      tree = tree;
      is_one = scope-source board;
      failure = false;
      scan = scan;
      old = old;
      new = new;
      may = may;
      asked = asked;
    }

    pub made-nests : Nests board scan new.me
    made-nests = asked-nests makes

    -- and its scan is over
    module _ (end : Seated Item Entry) (ended : EndsScan new.me end scan.source) where
      no-scans : end.0.scans ≡ old.me.0.scans
      no-scans = ended.scans ∙ asked-others makes

      pub made-rests : IsAtRest end.0
      made-rests =
          record {
            held = ended.passed.held ∙ ap (λ (z : Seated Item Entry). z.0.held) asked.me_is ∙ rests.held;
            owed = ended.passed.aside.owed ∙ ap (λ (z : Seated Item Entry). z.0.owed) asked.me_is ∙ rests.owed;
            reported = ended.passed.aside.reported ∙ ap (λ (z : Seated Item Entry). z.0.reported) asked.me_is ∙ rests.reported;
            finished = ended.passed.aside.finished ∙ ap (λ (z : Seated Item Entry). z.0.finished) asked.me_is ∙ rests.finished;
            runs = ended.runs ∙ ap (λ (z : Seated Item Entry). z.0.runs) asked.me_is ∙ rests.runs;
            scans = no-scans ∙ rests.scans;
          }

      pub made-asks : ListsActions board board.frame.over.value Scope new.me end → RequestsStop board old.me end
      made-asks acts =
          record {
            same = accounts-same old.me.0.requested old.me.0.scans new.me end ended.passed.aside ended.runs no-scans
                ∙ ap
                (λ (z : Seated Item Entry). record (aside_of z.0) { requested = old.me.0.requested; scans = old.me.0.scans })
                asked.me_is;
            seen = longer-seen Scope new.me.0.seen end.0.seen ended.passed.aside.seen
                (ap (λ (z : Seated Item Entry). has_source_ref z.0.seen Scope) asked.me_is);
            acts = asked-acts board board.frame.over.value Scope old new (scope-source board) false (Made scan) asked end acts;
          }
