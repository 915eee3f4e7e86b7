-- What a look at a stop source needs and tells ([stopsource]).
use Rattle.std.specs.Prelude.{◌≡◌, ℕ, ◌≤◌, Bool, true, ◌&&◌, ◌==◌, if◌then◌else◌, List, [], ◌∷◌, Option, Some, None, MatchOption}
use Rattle.node_tree.specs.declared.node.TreeNode.{TreeNode}
use Rattle.life_rules.specs.declared.event.Name.{Name}
use Rattle.life_rules.specs.declared.event.SourceRef.{SourceRef}
use Rattle.life_rules.specs.declared.event.SourceRef.TheVariants.{Scope, Node}
use Rattle.node_tree.specs.Tree.{nearest, given_by, has_source}
use Rattle.life_rules.specs.Views.{same, beside}
use Rattle.life_rules.specs.States.{source_for}
use Rattle.table_words.specs.Stamps.{stamp_of}
use Rattle.table_words.specs.Controls.{source_read}
use Rattle.table_words.specs.Layouts.{Spot, TheScopeSource, OfSource, IsSpot, index}
use Rattle.atomic_table.specs.declared.shared.Seat.{Seat}
use Rattle.table_rules.specs.declared.view.View.{View}
use Rattle.table_rules.specs.declared.view.Held.{Held}
use Rattle.table_rules.specs.declared.view.Owed.{Owed}
use Rattle.table_rules.specs.declared.view.Reported.{Reported}
use Rattle.table_rules.specs.Named.{count_by}
use Rattle.table_rules.specs.ShownViews.{has_name, has_source_ref}
use Rattle.table_steps.specs.Views.{Board}
use Rattle.table_steps.specs.Claims.{logged}
use Rattle.table_steps.specs.Seats.{Seated, homes_of, view_of}
use Rattle.table_steps.specs.Slots.{held_at, owed_at, reported_at}

-- where the source's word lies
abbrev pub spot_of : SourceRef → Spot
spot_of Scope = TheScopeSource
spot_of (Node x) = OfSource x.block x.node

-- the word says that a stop is requested on the source: the scope's always, a node's at its
-- generation
abbrev pub says_requested : SourceRef → ℕ → Bool
says_requested Scope word = (source_read word).requested
says_requested (Node x) word = stamp_of word == x.generation && (source_read word).requested

-- the scope has a source, and so has this node
abbrev pub has_one : List TreeNode → SourceRef → Type 0
has_one tree Scope = Unit {0}
has_one tree (Node x) = has_source tree x.node ≡ true

-- the source is one of the table's
pub record IsSourceIn {O : Type 0} (board : Board O) (source : SourceRef) : Type 0 where
  pub spot : IsSpot board.frame.layout (spot_of source)
  pub is_one : has_one board.frame.tree source

-- the hand armed the place and hasn't looked after it yet, and its callback is registered on this
-- source
pub record IsUnlooked {P E : Type 0} (tree : List TreeNode) (v : View P E) (source : SourceRef)
    (x : Name) : Type 0 where
  pub unlooked : has_name v.unlooked x ≡ true
  pub nearest_is : source_for x (nearest tree x.node) ≡ Some source

abbrev pub MayLookAfter : {P E : Type 0} → List TreeNode → View P E → SourceRef → Option Name →
    Type 0
MayLookAfter tree v source after = MatchOption after (Unit {0}) (IsUnlooked tree v source)

-- the list without x
abbrev pub but_for : Name → List Name → List Name
but_for x [] = []
but_for x (y ∷ ys) = if same y x then but_for x ys else y ∷ but_for x ys

-- the place is looked after
abbrev pub unlooked_now : Option Name → List Name → List Name
unlooked_now None places = places
unlooked_now (Some x) places = but_for x places

-- and where the request was read, it was read after the place was armed
abbrev pub seen_after_now : Option Name → Bool → List Name → List Name
seen_after_now None requested places = places
seen_after_now (Some x) requested places = if requested then x ∷ places else places

-- the request that was read is seen
abbrev pub seen_now : SourceRef → Bool → List SourceRef → List SourceRef
seen_now source requested sources = if requested then source ∷ sources else sources

module _ {P E : Type 0} where
  -- what the answer tells the view
  abbrev pub sees : SourceRef → Option Name → Bool → View P E → View P E
  sees source after requested v =
      record v {
        seen = seen_now source requested v.seen;
        unlooked = unlooked_now after v.unlooked;
        seen_after = seen_after_now after requested v.seen_after;
      }

  -- what the word that was read tells the hand
  abbrev pub looks_at : SourceRef → Option Name → ℕ → ℕ → Seated P E → Seated P E
  looks_at source after i word m = (
    logged i word (sees source after (says_requested source word) (view_of m)),
    homes_of m,
  )

-- the hand has a part in the operation of x, which can't end before: it holds a node of it, owes
-- the start or the report of one, runs the callback of one, or has finished its root
pub data HasPartIn {P E : Type 0} (v : View P E) (x : Name) : Type 0 where
  ByNode : (node : ℕ) (held : Held E) → held_at v (beside x node) ≡ Some held → HasPartIn v x
  ByStart : (node : ℕ) (owed : Owed E) → owed_at v (beside x node) ≡ Some owed → HasPartIn v x
  ByReport : (node : ℕ) (reported : Reported P E) → reported_at v (beside x node) ≡ Some reported →
      HasPartIn v x
  ByRun : (node : ℕ) → 1 ≤ count_by (λ y. y) v.runs (beside x node) → HasPartIn v x
  ByRoot : (node : ℕ) → 1 ≤ count_by (λ y. y) v.finished (beside x node) → HasPartIn v x

-- the source can't go away under the hand: it is the scope's, or of an operation in which the hand
-- has a part
abbrev pub KeepsAlive : {P E : Type 0} → View P E → SourceRef → Type 0
KeepsAlive v Scope = Unit {0}
KeepsAlive v (Node x) = HasPartIn v x

-- a request that the hand has seen there still stands
abbrev pub StillAsked : {P E : Type 0} → View P E → SourceRef → Bool → Type 0
StillAsked v source answer = has_source_ref v.seen source ≡ true → KeepsAlive v source →
    answer ≡ true

-- a request that the hand was told of when it came to hold x still stands: on the source that x
-- hears, and on the one that its children hear
pub record StillTold {E : Type 0} (tree : List TreeNode) (source : SourceRef) (answer : Bool)
    (x : Name) (e : Held E) : Type 0 where
  pub told : source_for x (nearest tree x.node) ≡ Some source → e.told ≡ true → answer ≡ true
  pub told_children : source_for x (given_by tree x.node (nearest tree x.node)) ≡ Some source →
      e.told_children ≡ true → answer ≡ true

-- so it is of each node that the hand holds
abbrev pub AgreesWithTold : {P E : Type 0} → List TreeNode → View P E → SourceRef → Bool → Type 0
AgreesWithTold {P} {E} tree v source answer =
    (x : Name) (e : Held E) → held_at v x ≡ Some e → StillTold tree source answer x e

-- what the load tells: that, and that a request that was seen, or told of, still stands
abbrev pub LooksAt : {P E : Type 0} → List TreeNode → SourceRef → Option Name → ℕ → ℕ → Seated P E →
    Seated P E → Type 0
LooksAt tree source after i word m m' =
    (m' ≡ looks_at source after i word m)
    × StillAsked (view_of m) source (says_requested source word)
    × AgreesWithTold tree (view_of m) source (says_requested source word)

-- the answer is what the word that was read says, and the hand has noted it
abbrev pub IsLookedAt : {P E O : Type 0} → Board O → SourceRef → Option Name → Bool →
    Seat (Option P) (View P E) → Seat (Option P) (View P E) → Type 0
IsLookedAt board source after answer old new =
    (word : ℕ) × (answer ≡ says_requested source word)
    × (new.me ≡ looks_at source after (index board.frame.layout (spot_of source)) word old.me)
