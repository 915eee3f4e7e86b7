-- What one hand knows of its own doings, as lists. The cell of a place is meant at its block's
-- present generation.
use Rattle.std.specs.Prelude.{◌≡◌, ℕ, ◌-◌, ◌<◌, List, length, All, Bool, true, false, Option, None}
use Rattle.life_rules.specs.declared.event.Place.{Place}
use Rattle.life_rules.specs.declared.event.SourceAt.{SourceAt}
use Rattle.life_rules.specs.declared.event.SourceAt.TheVariants.{Scope, At}
use Rattle.exec_life.specs.declared.view.Role.{Role}
use Rattle.exec_life.specs.declared.view.Role.TheVariants.{Nothing, Holds, OwesStart, OwesReport, HoldsFinished}
use Rattle.exec_life.specs.Grids.{Cells, at, HasSize}

-- the lists of a view: a grid for each thing that it notes of places
pub record ViewLists : Type 0 where
  pub blocks : ℕ
  pub nodes : ℕ
  pub roles : Cells Role
  -- whether it runs the place's callback
  pub runs : Cells Bool
  -- whether it armed the place and hasn't looked after it yet
  pub unlooked : Cells Bool
  -- whether it has seen the request after arming the place
  pub seen_after : Cells Bool
  -- of a place's own source: whether it has seen the request, and from where its scan goes on
  pub seen : Cells Bool
  pub scans : Cells (Option ℕ)
  -- the same of the scope's source
  pub scope_seen : Bool
  pub scope_scan : Option ℕ
  -- its associations with the scope
  pub made : ℕ
  pub making : ℕ
  pub refused : ℕ
  -- whether it made the scope's request
  pub requested : Bool

-- each grid has a cell for each block and node
pub record AreCells (v : ViewLists) : Type 0 where
  pub roles_size : HasSize v.blocks v.nodes v.roles
  pub runs_size : HasSize v.blocks v.nodes v.runs
  pub unlooked_size : HasSize v.blocks v.nodes v.unlooked
  pub seen_after_size : HasSize v.blocks v.nodes v.seen_after
  pub seen_size : HasSize v.blocks v.nodes v.seen
  pub scans_size : HasSize v.blocks v.nodes v.scans

-- the place exists
pub record KnowsPlace (v : ViewLists) (place : Place) : Type 0 where
  pub block : place.block < v.blocks
  pub node : place.node < v.nodes

-- what the view has of a block and a node
abbrev pub role_in : ViewLists → ℕ → ℕ → Role
role_in v = at Nothing v.roles

-- whether it runs the callback there
abbrev pub runs_in : ViewLists → ℕ → ℕ → Bool
runs_in v = at false v.runs

-- whether it armed the place and hasn't looked after it yet
abbrev pub unlooked_in : ViewLists → ℕ → ℕ → Bool
unlooked_in v = at false v.unlooked

-- whether it has seen the request after arming the place
abbrev pub seen_after_in : ViewLists → ℕ → ℕ → Bool
seen_after_in v = at false v.seen_after

-- whether it has seen the request on the place's own source
abbrev pub seen_at : ViewLists → ℕ → ℕ → Bool
seen_at v = at false v.seen

-- from where its scan of the place's own source goes on
abbrev pub scan_of : ViewLists → ℕ → ℕ → Option ℕ
scan_of v = at None v.scans

-- the hand has seen the request on this source
abbrev pub seen_in : ViewLists → SourceAt → Bool
seen_in v Scope = v.scope_seen
seen_in v (At place) = seen_at v place.block place.node

-- from where the hand's scan of this source goes on
abbrev pub scan_in : ViewLists → SourceAt → Option ℕ
scan_in v Scope = v.scope_scan
scan_in v (At place) = scan_of v place.block place.node

-- the place of the source exists
abbrev pub KnowsSource : ViewLists → SourceAt → Type 0
KnowsSource v Scope = Unit {0}
KnowsSource v (At place) = KnowsPlace v place

-- the hand holds the node
abbrev pub is_holder : Role → Bool
is_holder Nothing = false
is_holder Holds = true
is_holder OwesStart = false
is_holder OwesReport = false
is_holder HoldsFinished = false

-- it owes the node's start
abbrev pub is_starter : Role → Bool
is_starter Nothing = false
is_starter Holds = false
is_starter OwesStart = true
is_starter OwesReport = false
is_starter HoldsFinished = false

-- it owes the node's report
abbrev pub is_reporter : Role → Bool
is_reporter Nothing = false
is_reporter Holds = false
is_reporter OwesStart = false
is_reporter OwesReport = true
is_reporter HoldsFinished = false

-- it holds the finished root
abbrev pub is_finisher : Role → Bool
is_finisher Nothing = false
is_finisher Holds = false
is_finisher OwesStart = false
is_finisher OwesReport = false
is_finisher HoldsFinished = true

-- the place of the block's root
abbrev pub root_in : ViewLists → ℕ → Place
root_in v b = record { block = b; node = v.nodes - 1 }

-- the view of a hand that has done nothing, over so many blocks of so many nodes
pub record IsBlankView (blocks nodes : ℕ) (v : ViewLists) : Type 0 where
  pub blocks_are : v.blocks ≡ blocks
  pub nodes_are : v.nodes ≡ nodes
  pub role_is : role_in v ≡ (λ b n. Nothing)
  pub runs_is : runs_in v ≡ (λ b n. false)
  pub unlooked_is : unlooked_in v ≡ (λ b n. false)
  pub seen_after_is : seen_after_in v ≡ (λ b n. false)
  pub seen_is : seen_at v ≡ (λ b n. false)
  pub scan_is : scan_of v ≡ (λ b n. None)
  pub scope_seen_is : v.scope_seen ≡ false
  pub scope_scan_is : v.scope_scan ≡ None
  pub made_is : v.made ≡ 0
  pub making_is : v.making ≡ 0
  pub refused_is : v.refused ≡ 0
  pub requested_is : v.requested ≡ false

-- so many views of hands that have done nothing
pub record AreBlankViews (blocks nodes hands : ℕ) (views : List ViewLists) : Type 0 where
  pub count : length views ≡ hands
  pub each : All (IsBlankView blocks nodes) views
