-- What a hand needs to report a child, and what that does to the hand.
use Rattle.std.specs.Prelude.{◌≡◌, ◌≢◌, ℕ, ℤ, ◌+◌, ◌*◌, ◌≤◌, Bool, true, false, List, [], ◌∷◌, length, Option, Some, None, is_some}
use Rattle.node_tree.specs.declared.node.TreeNode.{TreeNode}
use Rattle.life_rules.specs.declared.words.ControlWord.TheVariants.{Busy}
use Rattle.life_rules.specs.declared.event.Name.{Name}
use Rattle.life_rules.specs.declared.event.SourceRef.TheVariants.{Node}
use Rattle.node_tree.specs.Tree.{is_child, parent_of}
use Rattle.life_rules.specs.Words.{pending}
use Rattle.common_lemmas.specs.Sums.{one}
use Rattle.life_rules.specs.Views.{beside}
use Rattle.common_lemmas.specs.Sums.{total}
use Rattle.table_words.specs.declared.layout.Layout.{Layout}
use Rattle.table_words.specs.Controls.{control_read}
use Rattle.table_words.specs.Layouts.{OfControl, index, place_number}
use Rattle.atomic_table.specs.Table.{Step}
use Rattle.table_rules.specs.declared.cargo.Cargo.{Ghosts}
use Rattle.table_rules.specs.declared.view.View.{View}
use Rattle.table_rules.specs.declared.view.Reported.{Reported}
use Rattle.table_rules.specs.declared.view.Rooted.{Rooted}
use Rattle.table_rules.specs.Named.{without, Each}
use Rattle.table_rules.specs.ShownViews.{scan_in}
use Rattle.table_rules.specs.declared.frame.Frame.{Frame}
use Rattle.table_steps.specs.declared.report.Report.{Report}
use Rattle.table_steps.specs.declared.report.Report.TheVariants.{Last, Others}
use Rattle.table_steps.specs.Readings.{above_it}
use Rattle.table_steps.specs.Claims.{with_step}
use Rattle.table_steps.specs.Seats.{Seated, homes_of, view_of}
use Rattle.table_steps.specs.Lefts.{SaysControl, less_one}
use Rattle.table_steps.specs.Slots.{Aim, slot_of, kids_of, IsSeated, reported_at, noted_at}
use Rattle.table_steps.specs.Hearings.{HearsAs}

-- the hand owes the child's report no more
abbrev pub reports_off : {P E : Type 0} → Name → View P E → View P E
reports_off child v = record v { reported = without (λ e. e.name) v.reported child }

-- after the last report it holds the parent, with the lot of the parent's last await
abbrev pub holds_last : {P E : Type 0} → Name → List E → ℕ → Bool → Bool → List ℤ → View P E →
    View P E
holds_last x start named told told_children lot v =
    record v {
      held = record {
        name = x;
        start = start;
        named = named;
        told = told;
        told_children = told_children;
        lot = Some lot;
        phase = None;
        idle = [];
      } ∷ v.held;
    }

-- the homes of these nodes of a block with what is in them, as a hand carries them
abbrev pub laid : {P : Type 0} → Layout → ℕ → List ℕ → (ℕ → Option P) → List (ℕ × Option P) →
    List (ℕ × Option P)
laid l b [] content rest = rest
laid l b (n ∷ ns) content rest = (place_number l b n, content n) ∷ laid l b ns content rest

-- the hand owes the child's report, and makes no scan of the source of the child's parent
pub record CanReport {P E : Type 0} (tree : List TreeNode) (v : View P E)
    (child : Name) : Type 0 where
  pub parent : ℕ
  pub parent_is : parent_of tree child.node ≡ Some parent
  pub entry : Reported P E
  pub owes : reported_at v child ≡ Some entry
  pub unscanned : scan_in v.scans (Node (beside child parent)) ≡ None

-- the last report: the hand holds the parent x, and has its home and those of its children
pub record LastAt {P E O : Type 0} (cargo : Ghosts P E O) (aim : Aim) (child : Name)
    (overs : List O) (i read left : ℕ) (m m' : Seated P E) : Type 0 where
  pub start : List E
  pub named : ℕ
  pub told : Bool
  pub told_children : Bool
  pub lot : List ℤ
  pub item : P
  pub content : ℕ → Option P
  pub me_is : m' ≡ (
    with_step i read left
        (holds_last aim.name start named told told_children lot (reports_off child (view_of m))),
    (slot_of aim.layout aim.name, Some item)
        ∷ laid aim.layout aim.name.block (kids_of aim.tree aim.name.node) content (homes_of m),
  )
  -- the item shows the node's start, fits, is no completion, asks for no more children than were
  -- named, and has the lot of the node's last await
  pub shows : cargo.start item ≡ start
  pub fit : cargo.fits item aim.name.node told
  pub goes_on : ¬ cargo.ends item
  pub bound : cargo.least item ≤ named
  pub lot_is : cargo.lot item ≡ lot
  pub key : Each (λ over. cargo.key start ≡ over) overs
  pub noted : (e : Rooted E) → noted_at (view_of m) aim.name ≡ Some e → start ≡ e.start
  -- as many of the children's homes are full as were named. Each keeps a completion that fits the
  -- child, and whose start goes on with the node's and draws the lot
  pub count : total (λ n. one (is_child aim.tree aim.name.node n) * one (is_some (content n)))
      (length aim.tree) ≡ named
  pub ends : (n : ℕ) (kid : P) → is_child aim.tree aim.name.node n ≡ true → content n ≡ Some kid →
      cargo.ends kid
  pub fits_child : (n : ℕ) (kid : P) → is_child aim.tree aim.name.node n ≡ true →
      content n ≡ Some kid →
      cargo.fits kid n told_children
  pub below : (n : ℕ) (kid : P) → is_child aim.tree aim.name.node n ≡ true → content n ≡ Some kid →
      (e : E) × (cargo.start kid ≡ e ∷ start)
  pub draws : (n : ℕ) (kid : P) → is_child aim.tree aim.name.node n ≡ true → content n ≡ Some kid →
      cargo.drawn (cargo.start kid) ≡ lot
  -- the home of the child that is reported keeps the item with which it finished, and the start
  -- with which it finished goes on with the node's
  pub keeps : (e : Reported P E) → reported_at (view_of m) child ≡ Some e →
      content child.node ≡ Some e.item
  pub descends : (e : Reported P E) → reported_at (view_of m) child ≡ Some e →
      (entry : E) × (e.start ≡ entry ∷ start)
  -- where a stop was requested of the children and not above, and all their homes are full, a child
  -- failed without having seen a request
  pub failure : told_children ≡ true → told ≡ false →
      ((n : ℕ) → is_child aim.tree aim.name.node n ≡ true → is_some (content n) ≡ true) →
      (n : ℕ) × (kid : P) × (is_child aim.tree aim.name.node n ≡ true) × (content n ≡ Some kid)
      × cargo.fits kid aim.name.node false
  -- what the two bits say of the sources
  pub hears : HearsAs aim.tree (view_of m) aim.name told told_children
  pub seated : IsSeated aim.tree aim.layout m → IsSeated aim.tree aim.layout m'

-- the word said at the name's generation that so many children are pending, and says one less now
pub record CountsDown (x : Name) (read left : ℕ) : Type 0 where
  pub fewer : ℕ
  pub was : SaysControl x (Busy (fewer + 1)) read
  pub now : SaysControl x (Busy fewer) left

-- the subtraction: where one was pending that was read, it was the last, and else the hand only
-- owes the report no more
abbrev pub ReportsAt : {P E O : Type 0} → Ghosts P E O → Aim → Name → List O → Step (Option P) →
    Seated P E → ℕ → Seated P E → Type 0
ReportsAt cargo aim child overs step m found m' =
    CountsDown aim.name found (less_one found)
    × (pending (control_read found) ≡ 1 →
    LastAt cargo aim child overs step.word found (less_one found) m m')
    × (pending (control_read found) ≢ 1 →
    m' ≡ (with_step step.word found (less_one found) (reports_off child (view_of m)), homes_of m))

-- the answer says whether the word that was read had one pending. The one that was left has one
-- less
abbrev pub IsReportedAs : {P E O : Type 0} → Ghosts P E O → Frame O → Name → Report → Seated P E →
    Seated P E → Type 0
IsReportedAs cargo f child Last m m' =
    (found : ℕ) × (left : ℕ) × CountsDown (above_it f.tree child) found left
    × (pending (control_read found) ≡ 1)
    × LastAt cargo (record { tree = f.tree; layout = f.layout; name = above_it f.tree child }) child
    (f.over.value ∷ [])
    (index f.layout (OfControl (above_it f.tree child).block (above_it f.tree child).node)) found
    left m m'
IsReportedAs cargo f child Others m m' =
    (found : ℕ) × (left : ℕ) × CountsDown (above_it f.tree child) found left
    × (pending (control_read found) ≢ 1)
    × (m' ≡ (
      with_step (index f.layout
          (OfControl (above_it f.tree child).block (above_it f.tree child).node)) found left
          (reports_off child (view_of m)),
      homes_of m,
    ))
