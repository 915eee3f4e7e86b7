-- What a due of a scan leaves, and what a scan does from its request to its seal. Of one walk, in this order:
-- asked-nests; of each due found-inside, found-deeper, due-ends, due-nests and due-on; walk-ends, asked-back.
use Rattle.std.proofs.Common.{◌≡◌, ℕ, ◌+◌, ◌<◌, ◌≤◌, Bool, true, [], refl, sym, ap, ◌∙◌, subst, arith}
use Rattle.std.specs.Prelude.{Option}
use Rattle.node_tree.specs.Tree.{IsTree, has_source}
use Rattle.life_rules.specs.declared.event.Name.{Name}
use Rattle.life_rules.specs.declared.event.SourceRef.{SourceRef}
use Rattle.life_rules.specs.declared.event.SourceRef.TheVariants.{Scope, Node}
use Rattle.table_words.specs.Layouts.{index}
use Rattle.atomic_table.specs.declared.shared.Seat.{Seat}
use Rattle.table_rules.specs.declared.view.View.{View}
use Rattle.table_rules.specs.Named.{Each}
use Rattle.table_steps.specs.Views.{Board, IsPlaceIn}
use Rattle.table_steps.specs.Seats.{Seated}
use Rattle.table_steps.specs.RunEnds.{number_of}
use Rattle.table_steps.specs.ScanSeals.{drops, IsScanSealed}
use Rattle.table_steps.specs.Sights.{IsSourceIn, spot_of}
use Rattle.stop_calls.specs.declared.requesting.Request.TheVariants.{Made}
use Rattle.stop_calls.specs.declared.scanning.Scan.{Scan}
use Rattle.stop_calls.specs.Asides.{ScansOn, EndsScan, ComesBack}
use Rattle.stop_calls.specs.Nestings.{AreAbove, AreAround, MayScan, RunsInside, Nests, depth_of}
use Rattle.stop_calls.specs.Removals.{MayEndRun, IsOver}
use Rattle.stop_calls.specs.Requests.{IsAskedFor}
use Rattle.stop_calls.proofs.Keeping.{passed-on, comes-here, asked-passed, over-passed, sealed-passed, found-passed, through-passed}
use Rattle.stop_calls.proofs.Below.{around-unrun, heard-above, heard-deeper, around-heard}
use Rattle.stop_calls.proofs.ScanLists.{first-drops}
use Rattle.stop_calls.proofs.Nesting.{HasRequested, HasCome, DidInside, HasGoneThrough, made, made-scans, found-heard, found-runs, found-scans, found-ends, at-once, runs-some, over-runs, over-outer, over-scans, through-runs, through-outer, through-scans}

-- the source of a place's own node is one of the table's
pub own-source : {O : Type 0} (board : Board O) (x : Name) → IsPlaceIn board x → has_source board.frame.tree x.node ≡ true → IsSourceIn board (Node x)
own-source board x place has = record { spot = (place.block, place.node); is_one = has }

module _ {P E : Type 0} where
  -- a hand that runs and scans nothing may scan any source
  pub idle-may : (v : View P E) (source : SourceRef) → v.runs ≡ [] → v.scans ≡ [] → MayScan v source
  idle-may v Scope runs scans = record { outer = scans; around = runs }
  idle-may v (Node y) runs scans =
      record {
        outer = subst (AreAbove y.node) (sym scans) tt;
        around = subst (Each (λ (x : Name). y.node ≤ x.node)) (sym runs) tt;
      }

  -- from due to due
  pub scans-here : (source : SourceRef) (m : Seated P E) → ScansOn m m source
  scans-here source m = record { passed = (comes-here m m refl).passed; runs = refl; others = refl }

  pub scans-on : (source : SourceRef) (m m1 m2 : Seated P E) → ScansOn m m1 source → ScansOn m1 m2 source → ScansOn m m2 source
  scans-on source m m1 m2 first second =
      record {
        passed = passed-on m m1 m2 first.passed second.passed;
        runs = second.runs ∙ first.runs;
        others = second.others ∙ first.others;
      }

-- a request that was made, on a source that the hand may scan
pub record MakesScan (P E : Type 0) {O : Type 0} (board : Board O) (source : SourceRef) : Type 0 where
  pub tree : IsTree board.frame.tree
  pub is_one : IsSourceIn board source
  pub failure : Bool
  pub scan : Scan
  pub old : Seat (Option P) (View P E)
  pub new : Seat (Option P) (View P E)
  pub may : MayScan old.me.0 source
  pub asked : IsAskedFor board source failure (Made scan) old new

-- it gives a scan
module _ {P E O : Type 0} {board : Board O} {source : SourceRef} (makes : MakesScan P E board source) where
  open makes use {tree, is_one, scan, old, new, may, asked}

  source-is : scan.source ≡ source
  source-is = ap (λ (s : Scan). s.source) asked.answer_is.1

  runs-as : new.me.0.runs ≡ old.me.0.runs
  runs-as = ap (λ (z : Seated P E). z.0.runs) asked.me_is

  abbrev requested : HasRequested board source old.me new.me
  requested = record {
    tree = tree;
    is_one = is_one;
    above = may.outer;
    unrun = around-unrun board.frame.tree tree source old.me.0.runs may.around;
    at = index board.frame.layout (spot_of source);
    word = asked.word;
    left = asked.left;
    clear = asked.answer_is.0;
    me_is = asked.me_is;
  }

  pub asked-nests : Nests board scan new.me
  asked-nests =
      record {
        makes = made requested scan asked.answer_is.1;
        around = subst (λ (u : SourceRef). AreAround u new.me.0.runs) (sym source-is)
            (subst (AreAround source) (sym runs-as) may.around);
      }

  -- the scans that the hand made before are the others
  pub asked-others : drops scan.source new.me.0.scans ≡ old.me.0.scans
  asked-others =
      ap (λ (u : SourceRef). drops u new.me.0.scans) source-is
      ∙ ap (drops source) (made-scans requested)
      ∙ first-drops source 0 old.me.0.scans may.outer

-- one on a node's source comes back, once its scan is over
module _ {P E O : Type 0} {board : Board O} {x : Name} (makes : MakesScan P E board (Node x)) where
  open makes use {failure, scan, old, new, asked}

  pub asked-back : (m : Seated P E) → EndsScan new.me m scan.source → ComesBack old.me m
  asked-back m ends =
      record {
        passed = passed-on old.me new.me m (asked-passed board old new x failure (Made scan) asked) ends.passed;
        runs = ends.runs ∙ ap (λ (z : Seated P E). z.0.runs) asked.me_is;
        scans = ends.scans ∙ asked-others makes;
      }

-- the scan comes to a callback
module _ {P E O : Type 0} {board : Board O} (come : HasCome P E board) where
  open come use {before, after, old, new, makes as s, place as x, kept, found as f}

  pub found-deeper : depth_of board.frame.tree (Node x) < depth_of board.frame.tree before.source
  found-deeper = heard-deeper board.frame.tree s.tree x before.source (found-heard come) f.within

  -- it does what comes back, and its run ends
  module _ (mid : Seat (Option P) (View P E)) (does : ComesBack new.me mid.me) where
    abbrev did : DidInside come
    did = record { mid = mid; runs = does.runs; scans = does.scans }

    pub due-ends : MayEndRun mid.me.0 x
    due-ends = found-ends come did

    module _ (end : Seat (Option P) (View P E)) (over : IsOver board x mid end) where
      pub due-on : ScansOn old.me end.me before.source
      due-on =
          let at : ℕ = number_of board.frame.tree x + 1 in
          record {
            passed =
                passed-on old.me new.me end.me (found-passed board old new before after x f)
                (passed-on new.me mid.me end.me does.passed (over-passed board mid end x over));
            runs = over-runs come did over;
            others =
                ap (drops before.source) (over-outer come did over)
                ∙ first-drops before.source at s.outer s.above
                ∙ sym (first-drops before.source s.from s.outer s.above)
                ∙ sym (ap (drops before.source) s.scans);
          }

  module _ (around : AreAround before.source old.me.0.runs) where
    -- from inside it one of the node's own source may begin
    pub found-inside : RunsInside new.me.0 x
    found-inside =
        let heard = found-heard come in
        record {
          runs = runs-some come (at-once come);
          may = record {
            outer = subst (AreAbove x.node) (sym (found-scans come))
                (heard-above board.frame.tree s.tree x before.source f.at s.outer heard s.above);
            around = subst (Each (λ (r : Name). x.node ≤ r.node)) (sym (found-runs come)) (
              omega arith,
              around-heard board.frame.tree s.tree x before.source heard old.me.0.runs around,
            );
          };
        }

    -- and afterwards the scan goes on
    pub due-nests : (mid end : Seat (Option P) (View P E)) → ComesBack new.me mid.me → IsOver board x mid end → Nests board after end.me
    due-nests mid end does over =
        let runs = over-runs come (did mid does) over in
        record {
          makes = over-scans come (did mid does) over;
          around = subst (λ (u : SourceRef). AreAround u end.me.0.runs) (sym kept) (subst (AreAround before.source) (sym runs) around);
        }

-- it comes to none
module _ {P E O : Type 0} {board : Board O} (gone : HasGoneThrough P E board) where
  open gone use {before, after, old, new, makes as s, kept, through as t}

  pub through-on : ScansOn old.me new.me before.source
  through-on =
      record {
        passed = through-passed board old new before after t;
        runs = through-runs gone;
        others =
            ap (drops before.source) (through-outer gone)
            ∙ first-drops before.source t.at s.outer s.above
            ∙ sym (first-drops before.source s.from s.outer s.above)
            ∙ sym (ap (drops before.source) s.scans);
      }

  pub through-nests : AreAround before.source old.me.0.runs → Nests board after new.me
  through-nests around =
      record {
        makes = through-scans gone;
        around = subst (λ (u : SourceRef). AreAround u new.me.0.runs) (sym kept)
            (subst (AreAround before.source) (sym (through-runs gone)) around);
      }

-- and is sealed
module _ {P E O : Type 0} (board : Board O) (source : SourceRef) (m : Seated P E) (old new : Seat (Option P) (View P E)) where
  pub sealed-ends : ScansOn m old.me source → IsScanSealed board source old new → EndsScan m new.me source
  sealed-ends on sealed =
      record {
        passed = passed-on m old.me new.me on.passed (sealed-passed board old new source sealed);
        runs = ap (λ (z : Seated P E). z.0.runs) sealed.me_is ∙ on.runs;
        scans = ap (λ (z : Seated P E). z.0.scans) sealed.me_is ∙ on.others;
      }

-- from a loop's first due to its seal
module _ {P E O : Type 0} {board : Board O} (gone : HasGoneThrough P E board) (m : Seated P E) (end : Seat (Option P) (View P E)) where
  open gone use {before, after, old, new, kept}

  pub walk-ends : ScansOn m old.me before.source → IsScanSealed board after.source new end → EndsScan m end.me before.source
  walk-ends on sealed =
      sealed-ends board before.source m new end (scans-on before.source m old.me new.me on (through-on gone))
      (subst (λ (u : SourceRef). IsScanSealed board u new end) kept sealed)
