-- What the full homes keep, and why a stop was requested.
use Rattle.std.specs.Prelude.{◌≡◌, ℕ, ◌≤◌, true, false, Some}
use Rattle.life_rules.specs.declared.event.Name.{Name}
use Rattle.life_rules.specs.declared.event.SourceRef.TheVariants.{Node}
use Rattle.node_tree.specs.Tree.{is_child, is_root}
use Rattle.life_rules.specs.Words.{is_done}
use Rattle.life_rules.specs.Views.{beside}
use Rattle.life_rules.specs.States.{is_live, control_at, bits_at}
use Rattle.life_rules.specs.Callbacks.{nearest_is_requested}
use Rattle.table_rules.specs.declared.cargo.Cargo.{Ghosts}
use Rattle.table_rules.specs.Scenes.{Full, Scene}
use Rattle.table_rules.specs.Homes.{is_resting}

module _ {P E O : Type 0} (cargo : Ghosts P E O) (s : Scene P E) where
  -- a child of x is done with an item that failed without having seen a request
  abbrev pub HasFailedChild : Name → Type 0
  HasFailedChild x =
      (n : ℕ) × (item : P) × (is_child s.state.tree x.node n ≡ true)
      × (is_done (control_at s.state (beside x n)) ≡ true)
      × (s.past.delivered (beside x n) ≡ Some item) × cargo.fits item x.node false

  pub record ItemsStand : Type 0 where
    -- a full home keeps what fits its node, as far as a stop is requested above it
    pub fit : (x : Name) (item : P) → is_live s.state x ≡ true → s.home x.block x.node ≡ Full item →
        cargo.fits item x.node (nearest_is_requested s.state x)
    -- the home of a node that isn't done keeps no completion
    pub goes_on : (x : Name) (item : P) → is_live s.state x ≡ true →
        s.home x.block x.node ≡ Full item → is_done (control_at s.state x) ≡ false →
        ¬ cargo.ends item
    -- and that of a node that rests keeps what may rest there
    pub rests : (x : Name) (item : P) → is_live s.state x ≡ true →
        s.home x.block x.node ≡ Full item → is_resting (control_at s.state x) ≡ true →
        cargo.rests item x.node
    -- its last await named as many children as the item asks for
    pub bound : (x : Name) (item : P) → is_live s.state x ≡ true →
        s.home x.block x.node ≡ Full item → cargo.least item ≤ s.past.named x
    -- a node below the root that is done finished with a completion that fits it
    pub ended : (x : Name) → is_done (control_at s.state x) ≡ true →
        is_root s.state.tree x.node ≡ false →
        (item : P) × (s.past.delivered x ≡ Some item) × cargo.ends item
        × cargo.fits item x.node (nearest_is_requested s.state x)
    -- and its full home keeps that
    pub delivered : (x : Name) (item : P) → is_done (control_at s.state x) ≡ true →
        is_root s.state.tree x.node ≡ false → s.home x.block x.node ≡ Full item →
        s.past.delivered x ≡ Some item
    -- which asks for no more children than the node's last await named
    pub enough : (x : Name) (item : P) → is_done (control_at s.state x) ≡ true →
        is_root s.state.tree x.node ≡ false → s.past.delivered x ≡ Some item →
        cargo.least item ≤ s.past.named x
    -- where a stop is requested of a node's children and not above the node, a child failed
    pub failures : (x : Name) → (bits_at s.state (Node x)).requested ≡ true →
        nearest_is_requested s.state x ≡ false → HasFailedChild x
