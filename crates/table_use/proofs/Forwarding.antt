-- A request begins a scan inside those that the hand makes, and the branch's callback makes one.
use Rattle.std.proofs.Common.{◌≡◌, inr, ℕ, ◌<◌, true, false, List, ◌∷◌, refl, sym, ap, ◌∙◌, subst, arith}
use Rattle.std.specs.Prelude.{Option}
use Rattle.life_rules.specs.declared.event.Name.{Name}
use Rattle.life_rules.specs.declared.event.SourceRef.{SourceRef}
use Rattle.life_rules.specs.declared.event.SourceRef.TheVariants.{Scope, Node}
use Rattle.node_tree.specs.Tree.{has_source, parent_of}
use Rattle.life_rules.specs.Views.{beside}
use Rattle.table_words.specs.Controls.{source_read}
use Rattle.atomic_table.specs.declared.shared.Seat.{Seat}
use Rattle.table_rules.specs.declared.view.View.{View}
use Rattle.table_rules.specs.declared.view.Scanning.{Scanning}
use Rattle.table_steps.specs.Views.{Board}
use Rattle.table_steps.specs.Seats.{Seated}
use Rattle.table_steps.specs.Requests.{asks_at, OwesFailed}
use Rattle.table_steps.specs.Reports.{CanReport}
use Rattle.op_slot.proofs.Leaving.{owes-reports}
use Rattle.stop_calls.specs.declared.scanning.Scan.{Scan}
use Rattle.stop_calls.specs.declared.requesting.Request.TheVariants.{Made}
use Rattle.stop_calls.specs.Cursors.{first_scan, NoneHears}
use Rattle.stop_calls.specs.Requests.{IsRequested}
use Rattle.stop_calls.specs.Walks.{IsFound, IsThrough}
use Rattle.stop_calls.specs.Removals.{IsOver}
use Rattle.table_use.specs.declared.cargo.Item.{Item}
use Rattle.table_use.specs.declared.cargo.Entry.{Entry}
use Rattle.table_use.specs.declared.node.Fault.{Fault}
use Rattle.table_use.specs.declared.node.Fault.TheVariants.{Moved, OtherPlace}
use Rattle.table_use.specs.Starts.{IsParent, FitsAt}
use Rattle.table_use.specs.contracts.cargo.ItemCargo.TheImpl.{ghosts}
use Rattle.table_use.specs.Uses.{use_tree, IsNode, IsRoot, IsIdle, LeafFailed, KeepsReports}
use Rattle.table_use.specs.Causes.{GoesOn, WasArmed, IsCauseAt, IsScanCause}
use Rattle.table_use.specs.Scans.{AreAbove, Hears, Scans, IsInside, IsOuter}
use Rattle.table_use.proofs.Nodes.{tree-of, source-in, named-kid, kid-of, heard-is, heard-before, heard-twig, heard-leaf}
use Rattle.table_use.proofs.Waiting.{still-owes}
use Rattle.table_use.proofs.Steps.{on, found-on, walks-longer}
use Rattle.table_use.proofs.Readings.{read-within, run-armed}
use Rattle.table_use.proofs.Reasons.{stop-within, stop-at}
use Rattle.stop_calls.proofs.Below.{deaf-above}
use Rattle.table_use.proofs.Nesting.{HasRequested, HasCome, DidInside, HasGoneThrough, scan_at, made, made-runs, begun, through-runs, through-scans, ended-scans, found-heard, found-runs, found-scans, over-runs, over-scans}

-- a request on the scope's source by an idle hand gives a scan
pub asked-scans : (board : Board ℕ) → board.frame.tree ≡ use_tree → (old new : Seat (Option Item) (View Item Entry)) → IsIdle old.me → (scan : Scan) →
    IsRequested board Scope (Made scan) old new → Scans board scan new.me
asked-scans board tree old new idle scan r =
    let asked : HasRequested board Scope old.me new.me = record {
      tree = tree-of board tree;
      is_one = record { spot = tt; is_one = tt };
      above = idle.scans;
      unrun = subst (NoneHears board.frame.tree Scope) (sym idle.runs) tt;
      at = _;
      word = r.word;
      left = r.left;
      clear = r.answer_is.0;
      me_is = r.me_is;
    } in
    made asked scan r.answer_is.1

-- from inside the branch's callback
module _ (board : Board ℕ) (x : Name) (is : IsNode board x) (two : x.node ≡ 2) where
  pub branch-source : has_source board.frame.tree x.node ≡ true
  branch-source = ap (λ t. has_source t x.node) is.tree ∙ ap (has_source use_tree) two

  pub branch-scans : (old new : Seat (Option Item) (View Item Entry)) → IsInside x old.me → (scan : Scan) → IsRequested board (Node x) (Made scan) old new →
      Scans board scan new.me
  branch-scans old new inside scan r =
      let low : x.node < 3 = omega (arith, two) in
      let tree = tree-of board is.tree in
      let asked : HasRequested board (Node x) old.me new.me = record {
        tree = tree;
        is_one = source-in board x is branch-source;
        above = subst (AreAbove x.node) (sym inside.scans) (low, tt);
        unrun = subst (NoneHears board.frame.tree (Node x)) (sym inside.runs) (deaf-above board.frame.tree tree x x.block x.node (omega arith), tt);
        at = _;
        word = r.word;
        left = r.left;
        clear = r.answer_is.0;
        me_is = r.me_is;
      } in
      made asked scan r.answer_is.1

  -- what runs then is the twig's
  pub twig-is : (y : Name) (source : SourceRef) → source ≡ Node x → Hears board.frame.tree source y → y ≡ beside x 1
  twig-is y source is_source heard =
      heard-twig board is.tree y x (subst (λ (s : SourceRef). Hears board.frame.tree s y) is_source heard) two

-- the scan of the root's source, alone, came to a callback
pub record HasComeOuter (board : Board ℕ) (root : Name) : Type 0 where
  pub is : IsRoot board root
  pub before : Scan
  pub after : Scan
  pub old : Seat (Option Item) (View Item Entry)
  pub new : Seat (Option Item) (View Item Entry)
  pub outer : IsOuter board root before old.me
  pub place : Name
  pub kept : after.source ≡ before.source
  pub found : IsFound board before old new after place

module _ {board : Board ℕ} {root : Name} (came : HasComeOuter board root) where
  open came use {is, before, after, old, new, outer as s, place as x, kept, found as f}

  abbrev pub come : HasCome Item Entry board
  come = record {
    before = before;
    after = after;
    old = old;
    new = new;
    makes = s.makes;
    place = x;
    kept = kept;
    found = f;
  }

  heard-root : Hears board.frame.tree (Node root) x
  heard-root =
      subst (λ (u : SourceRef). Hears board.frame.tree u x) s.source (found-heard come)

  pub place-is : x ≡ beside root x.node
  place-is = heard-is board is.is_node.tree x root heard-root

  pub place-node : IsNode board x
  place-node =
      let low = heard-before board is.is_node.tree x root heard-root in
      let three = is.three in
      named-kid board root is.is_node x x.node (omega (arith, low, three)) place-is

  root-is : root ≡ beside x 3
  root-is = sym (ap (λ (z : Name). beside z 3) place-is ∙ ap (beside root) (sym is.three))

  pub place-inside : IsInside x new.me
  place-inside =
      record {
        runs = found-runs come ∙ ap (λ (l : List Name). x ∷ l) s.runs;
        from = f.at;
        scans = found-scans come
            ∙ ap (λ (u : SourceRef). scan_at u f.at ∷ s.makes.outer) (s.source ∙ ap Node root-is)
            ∙ ap (λ (l : List Scanning). scan_at (Node (beside x 3)) f.at ∷ l) s.alone;
      }

  -- why it ends with a fault, where the callback did
  pub outer-cause : (mid end : Seat (Option Item) (View Item Entry)) → GoesOn new.me mid.me → GoesOn mid.me end.me → (fault : Fault) →
      IsCauseAt board new.me mid.me x fault → IsScanCause board root before old end fault
  outer-cause mid end went over OtherPlace cause =
      let leaf : x ≡ beside root 0 = heard-leaf board is.is_node.tree x root heard-root is.three cause in
      subst (λ (z : Name). WasArmed board old.me end.me z) leaf
      (read-within board _ _ old.me f.middle.me new.me end.me
      (walks-longer board old f.middle before.source f.count f.read f.passed)
      (run-armed board before.source f.middle new x f.begun)
      (on new.me mid.me end.me went over))
  outer-cause mid end went over Moved cause =
      inr
      (stop-at board old.me end.me root x x.node place-is Moved
      (stop-within board old.me new.me mid.me end.me (found-on board before after old new x f) over x Moved cause))
  outer-cause mid end went over fault cause =
      stop-at board old.me end.me root x x.node place-is fault
      (stop-within board old.me new.me mid.me end.me (found-on board before after old new x f) over x fault cause)

  -- its run ends, and the scan goes on
  pub outer-on : (did : DidInside come) (end : Seat (Option Item) (View Item Entry)) → IsOver board x did.mid end → IsOuter board root after end.me
  unfolding over-scans ended-scans
  outer-on did end over =
      record {
        makes = over-scans come did over;
        source = kept ∙ s.source;
        runs = over-runs come did over ∙ s.runs;
        alone = s.alone;
      }

-- the scan of the root's source came to its end
pub outer-through : (board : Board ℕ) (root : Name) (before after : Scan) (old new : Seat (Option Item) (View Item Entry)) → IsOuter board root before old.me →
    after.source ≡ before.source → IsThrough board before old new after → IsOuter board root after new.me
unfolding through-scans
outer-through board root before after old new s kept t =
    let gone : HasGoneThrough Item Entry board = record {
      before = before;
      after = after;
      old = old;
      new = new;
      makes = s.makes;
      kept = kept;
      through = t;
    } in
    record {
      makes = through-scans gone;
      source = kept ∙ s.source;
      runs = through-runs gone ∙ s.runs;
      alone = s.alone;
    }

root-source : (board : Board ℕ) (root : Name) → IsRoot board root → has_source board.frame.tree root.node ≡ true
root-source board root is = ap (λ t. has_source t root.node) is.is_node.tree ∙ ap (has_source use_tree) is.three

-- the failure that the hand tells first gives a scan of the root's source
pub failed-outer : (board : Board ℕ) (root : Name) → IsRoot board root → (m m1 : Seated Item Entry) → IsIdle m → (i word left : ℕ) →
    (source_read word).requested ≡ false → m1 ≡ asks_at (Node root) i word left m → (scan : Scan) → scan ≡ first_scan (Node root) →
    IsOuter board root scan m1
unfolding begun
failed-outer board root is m m1 idle i word left clear me_is scan first =
    let asked : HasRequested board (Node root) m m1 = record {
      tree = tree-of board is.is_node.tree;
      is_one = source-in board root is.is_node (root-source board root is);
      above = subst (AreAbove root.node) (sym idle.scans) tt;
      unrun = subst (NoneHears board.frame.tree (Node root)) (sym idle.runs) tt;
      at = i;
      word = word;
      left = left;
      clear = clear;
      me_is = me_is;
    } in
    subst (λ (s : Scan). IsOuter board root s m1) (sym first)
    (record { makes = begun asked; source = refl; runs = made-runs asked ∙ idle.runs; alone = idle.scans })

-- the leaf's report can be made after the scan
pub leaf-reports : (board : Board ℕ) (root : Name) → IsRoot board root → (leaf : Name) → leaf ≡ beside root 0 → (m : Seated Item Entry) →
    LeafFailed root m → IsIdle m → CanReport board.frame.tree m.0 leaf
leaf-reports board root is leaf name m failed idle =
    subst (λ (z : Name). CanReport board.frame.tree m.0 z) (sym name)
    (owes-reports board.frame.tree (beside root 0) 3 failed.has.entry m (ap (λ t. parent_of t 0) is.is_node.tree) failed.has.owes idle.scans)

-- and its failure can be told
pub leaf-tells : (board : Board ℕ) (root : Name) → IsRoot board root → (m : Seated Item Entry) → LeafFailed root m →
    OwesFailed ghosts board.frame.tree m.0 root
leaf-tells board root is m failed =
    record {
      child = 0;
      is_below = kid-of board root is.is_node 3 0 is.three refl;
      entry = failed.has.entry;
      owes = failed.has.owes;
      failed = subst (λ (i : Item). FitsAt i root.node) (sym failed.has.item_is) (inr (subst (λ k. IsParent k root.node) (sym failed.zero) is.three));
    }

-- as long as the hand keeps what it owes
pub still-failed : (m m1 : Seated Item Entry) (root : Name) → KeepsReports m m1 → LeafFailed root m → LeafFailed root m1
still-failed m m1 root keeps failed =
    record {
      env = failed.env;
      zero = failed.zero;
      has = record {
        entry = failed.has.entry;
        owes = still-owes m m1 (beside root 0) failed.has.entry keeps failed.has.owes;
        item_is = failed.has.item_is;
      };
    }
