-- What a hand needs to leave a node at rest, and what that does to the hand.
use Rattle.std.specs.Prelude.{◌≡◌, ℕ, ◌≤◌, true, ◌||◌, Some, None}
use Rattle.life_rules.specs.declared.event.Name.{Name}
use Rattle.life_rules.specs.declared.event.SourceRef.TheVariants.{Node}
use Rattle.node_tree.specs.Tree.{is_child}
use Rattle.table_words.specs.Layouts.{place_number}
use Rattle.table_rules.specs.declared.cargo.Cargo.{Ghosts}
use Rattle.table_rules.specs.declared.frame.Frame.{Frame}
use Rattle.table_rules.specs.declared.view.View.{View}
use Rattle.table_rules.specs.declared.view.Held.{Held}
use Rattle.table_rules.specs.Named.{without}
use Rattle.table_rules.specs.ShownViews.{scan_in}
use Rattle.table_steps.specs.Claims.{with_step}
use Rattle.table_steps.specs.Seats.{Seated, homes_of, view_of}
use Rattle.table_steps.specs.Slots.{Aim, is_of_family, kept, IsSeated, has_seen, held_at, home_at}
use Rattle.table_steps.specs.Sheds.{shed}

-- the hand holds the node no more
abbrev pub lets_go : {P E : Type 0} → Name → View P E → View P E
lets_go x v = record v { held = without (λ e. e.name) v.held x }

-- the hand holds the node, makes no scan of its source, and has the homes of its children, all
-- empty
pub record CanLeave {P E O : Type 0} (f : Frame O) (m : Seated P E) (x : Name) : Type 0 where
  pub held : Held E
  pub holds : held_at (view_of m) x ≡ Some held
  pub unscanned : scan_in (view_of m).scans (Node x) ≡ None
  pub kids : (n : ℕ) → is_child f.tree x.node n ≡ true →
      kept (place_number f.layout x.block n) (homes_of m) ≡ Some None

-- it has an item in the node's home that shows the node's start, is no completion, fits by what the
-- hand has seen of requests and was told when it came to hold the node, asks for no more children
-- than the node's last await named, and may rest there
pub record CanRest {P E O : Type 0} (cargo : Ghosts P E O) (f : Frame O) (m : Seated P E)
    (x : Name) : Type 0 where
  pub leave : CanLeave f m x
  pub item : P
  pub home : home_at f.layout m x ≡ Some (Some item)
  pub start : cargo.start item ≡ leave.held.start
  pub fit : cargo.fits item x.node (has_seen f.tree (view_of m) x || leave.held.told)
  pub goes_on : ¬ cargo.ends item
  pub bound : cargo.least item ≤ leave.held.named
  pub rests : cargo.rests item x.node

-- the store: the hand holds the node no more, and gave back its home and those of its children
pub record RestsAt {P E : Type 0} (aim : Aim) (i read left : ℕ) (m m' : Seated P E) : Type 0 where
  pub me_is : m' ≡ (
    with_step i read left (lets_go aim.name (view_of m)),
    shed (is_of_family aim.tree aim.layout aim.name) (homes_of m),
  )
  pub seated : IsSeated aim.tree aim.layout m'
