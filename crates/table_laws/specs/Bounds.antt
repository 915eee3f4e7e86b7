-- As many children of a node are done as its last await named, in every table that keeps the rule.
use Rattle.std.specs.Prelude.{◌≡◌, ℕ, ◌≤◌, true, false, Option, Some}
use mathlib.Core.Option.{some}
use lib.ListN.{get_elem?}
use Rattle.life_rules.specs.declared.event.Name.{Name}
use Rattle.node_tree.specs.Tree.{is_root}
use Rattle.life_rules.specs.Words.{is_done}
use Rattle.life_rules.specs.States.{control_at}
use Rattle.table_words.specs.Layouts.{place_number}
use Rattle.atomic_table.specs.Table as table
use Rattle.table_rules.specs.declared.cargo.Cargo.{Ghosts}
use Rattle.table_rules.specs.declared.frame.Frame.{Frame}
use Rattle.table_rules.specs.declared.view.View.{View}
use Rattle.table_rules.specs.declared.view.Held.{Held}
use Rattle.table_rules.specs.declared.view.Reported.{Reported}
use Rattle.table_rules.specs.Named.{find_by}
use Rattle.table_rules.specs.Scenes.{shown}
use Rattle.table_rules.specs.Homes.{is_resting, done_below}
use Rattle.table_rules.specs.Running.{Running}
use Rattle.table_steps.specs.Seats.{Seated, homes_of, view_of}
use Rattle.table_steps.specs.Slots.{slot_of, kept}
use Rattle.table_steps.specs.Finishes.{CanEnd}
use Rattle.table_laws.specs.Laws.{Has}

-- the item lies in the node's home, and no hand has its slot
abbrev pub LiesAtHome : {P E O : Type 0} → Frame O → table.State (Option P) (View P E) → Name → P →
    Type 0
LiesAtHome f s x item =
    get_elem? s.homes (place_number f.layout x.block x.node) ≡ some (some (Some item))

module _ {P E O : Type 0} (cargo : Ghosts P E O) where
  -- the node finished with a completion that asks for no more children than are done. It is what
  -- the node's home keeps, if anything, and what a hand that owes the node's report knows
  pub record EndedWithAll (f : Frame O) (s : table.State (Option P) (View P E))
      (x : Name) : Type 0 where
    pub item : P
    pub ends : cargo.ends item
    pub enough : cargo.least item ≤ done_below (shown f s) x
    pub home : (other : P) → LiesAtHome f s x other → other ≡ item
    pub reported : (h : ℕ) (v : View P E) (e : Reported P E) → Has s h v →
        find_by (λ e. e.name) v.reported x ≡ Some e → e.item ≡ item

  -- so it is of each node below the root that is done
  abbrev pub EndWithAll : Type 0
  EndWithAll =
      (f : Frame O) (s : table.State (Option P) (View P E)) → Running cargo f s → (x : Name) →
      is_done (control_at (shown f s) x) ≡ true → is_root f.tree x.node ≡ false → EndedWithAll f s x

  -- where a hand may finish a node, the item in its home asks for no more children than are done.
  -- So it is of the root too
  abbrev pub FinishWithAll : Type 0
  FinishWithAll =
      (f : Frame O) (s : table.State (Option P) (View P E)) → Running cargo f s →
      (h : ℕ) (m : Seated P E) (x : Name) (item : P) → Has s h (view_of m) → CanEnd cargo f m x →
      kept (slot_of f.layout x) (homes_of m) ≡ Some (Some item) →
      cargo.least item ≤ done_below (shown f s) x

  -- of a node that a hand holds, as many children are done as its last await named
  abbrev pub HoldWithAll : Type 0
  HoldWithAll =
      (f : Frame O) (s : table.State (Option P) (View P E)) → Running cargo f s →
      (h : ℕ) (v : View P E) (x : Name) (e : Held E) → Has s h v →
      find_by (λ e. e.name) v.held x ≡ Some e → e.named ≤ done_below (shown f s) x

  -- and of a node that rests, as many as the item in its home asks for
  abbrev pub RestWithAll : Type 0
  RestWithAll =
      (f : Frame O) (s : table.State (Option P) (View P E)) → Running cargo f s →
      (x : Name) (item : P) → is_resting (control_at (shown f s) x) ≡ true →
      LiesAtHome f s x item → cargo.least item ≤ done_below (shown f s) x
