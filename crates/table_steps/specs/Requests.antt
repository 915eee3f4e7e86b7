-- What a hand needs to request a stop ([stopsource]), and what that does to it.
use Rattle.std.specs.Prelude.{◌≡◌, ◌⊎◌, ℕ, ◌≤◌, Bool, true, false, not, ◌&&◌, ◌||◌, if◌then◌else◌, List, ◌∷◌, Option, Some}
use Rattle.node_tree.specs.declared.node.TreeNode.{TreeNode}
use Rattle.life_rules.specs.declared.words.Bits.{Bits}
use Rattle.life_rules.specs.declared.event.Name.{Name}
use Rattle.life_rules.specs.declared.event.SourceRef.{SourceRef}
use Rattle.life_rules.specs.declared.event.SourceRef.TheVariants.{Scope, Node}
use Rattle.node_tree.specs.Tree.{is_child}
use Rattle.life_rules.specs.Views.{beside}
use Rattle.life_rules.specs.StopSteps.{is_counting, is_scope}
use Rattle.table_words.specs.Stamps.{stamp_of}
use Rattle.table_words.specs.Controls.{source_read}
use Rattle.table_words.specs.Layouts.{index}
use Rattle.atomic_table.specs.declared.shared.Seat.{Seat}
use Rattle.table_rules.specs.declared.cargo.Cargo.{Ghosts}
use Rattle.table_rules.specs.declared.frame.Frame.{Frame}
use Rattle.table_rules.specs.declared.view.View.{View}
use Rattle.table_rules.specs.declared.view.Held.{Held}
use Rattle.table_rules.specs.declared.view.Reported.{Reported}
use Rattle.table_rules.specs.Named.{count_by}
use Rattle.table_rules.specs.ShownViews.{has_source_ref}
use Rattle.table_steps.specs.Views.{Board, knows}
use Rattle.table_steps.specs.Claims.{with_step}
use Rattle.table_steps.specs.Seats.{Seated, homes_of, view_of}
use Rattle.table_steps.specs.Slots.{has_seen, held_at, reported_at}
use Rattle.table_steps.specs.Sights.{spot_of, KeepsAlive, StillAsked}

-- the hand owes the report of a child of x, and the child failed
pub record OwesFailed {P E O : Type 0} (cargo : Ghosts P E O) (tree : List TreeNode) (v : View P E)
    (x : Name) : Type 0 where
  pub child : ℕ
  pub is_below : is_child tree x.node child ≡ true
  pub entry : Reported P E
  pub owes : reported_at v (beside x child) ≡ Some entry
  pub failed : cargo.fits entry.item x.node true

-- the hand holds x, no child of which was ever awaited, and has seen the request on the source that
-- x hears
pub record HoldsAsked {P E : Type 0} (tree : List TreeNode) (v : View P E) (x : Name) : Type 0 where
  pub held : Held E
  pub holds : held_at v x ≡ Some held
  pub before : held.named ≡ 0
  pub seen : has_seen tree v x ≡ true

-- the hand may pass the request on the source that x hears on to x's own: it runs x's callback, or
-- holds x before its children begin
abbrev pub MayForward : {P E : Type 0} → List TreeNode → View P E → Name → Type 0
MayForward tree v x = (1 ≤ count_by (λ y. y) v.runs x) ⊎ HoldsAsked tree v x

-- the scope is of the kind that has a source, and this is hand 0
pub record MayAskScope {P E O : Type 0} (f : Frame O) (v : View P E) : Type 0 where
  pub counting : is_counting f.kind ≡ true
  pub number : v.number ≡ 0

-- the hand has seen a request on the source, which can't go away under it: another one changes
-- nothing
abbrev pub HasAsked : {P E : Type 0} → View P E → SourceRef → Type 0
HasAsked v source = (has_source_ref v.seen source ≡ true) × KeepsAlive v source

-- a stop is requested of the scope by hand 0; of a node because a child failed, or to pass a
-- request on; and again by a hand that has seen the request
abbrev pub MayRequest : {P E O : Type 0} → Ghosts P E O → Frame O → View P E → SourceRef → Bool →
    Type 0
MayRequest cargo f v Scope true = ⊥
MayRequest cargo f v Scope false = MayAskScope f v ⊎ HasAsked v Scope
MayRequest cargo f v (Node x) true = OwesFailed cargo f.tree v x
MayRequest cargo f v (Node x) false = MayForward f.tree v x ⊎ HasAsked v (Node x)

-- the request is seen. The hand that made it first begins a scan
abbrev pub asks : {P E : Type 0} → SourceRef → Bool → View P E → View P E
asks source new v =
    record v {
      seen = source ∷ v.seen;
      scans = if new then record { source = source; next = 0 } ∷ v.scans else v.scans;
      requested = v.requested || (new && is_scope source);
    }

-- the bits that a request sets: requested, and with a failure failed too
abbrev pub mask : Bool → ℕ
mask failure = if failure then 3 else 1

-- the word is the source's: a node's at its generation
abbrev pub IsWordOf : SourceRef → ℕ → Type 0
IsWordOf Scope word = Unit {0}
IsWordOf (Node x) word = stamp_of word ≡ x.generation

-- these bits after the request: requested, and with a failure failed too
abbrev pub bits_asked : Bool → Bits → Bits
bits_asked failure bits = record bits { requested = true; failed = bits.failed || failure }

-- what the word that was read tells the hand
abbrev pub asks_at : {P E : Type 0} → SourceRef → ℕ → ℕ → ℕ → Seated P E → Seated P E
asks_at source i read left m =
    (with_step i read left (asks source (not (source_read read).requested) (view_of m)), homes_of m)

-- what the step tells: that, and that a request that the hand has seen there still stood
pub record AsksAt {P E : Type 0} (source : SourceRef) (i read left : ℕ)
    (m m' : Seated P E) : Type 0 where
  pub me_is : m' ≡ asks_at source i read left m
  pub is_of : IsWordOf source read
  pub stands : StillAsked (view_of m) source (source_read read).requested

-- the answer is the bits of the word that was read, and the word that was left has those of the
-- request too. Where there was no request, the hand has begun a scan. A request that the hand has
-- seen before, on a source that can't go away under it, was found there
pub record IsAsked {P E O : Type 0} (board : Board O) (source : SourceRef) (failure : Bool)
    (answer : Bits) (old new : Seat (Option P) (View P E)) : Type 0 where
  pub word : ℕ
  pub is_of : IsWordOf source word
  pub answer_is : answer ≡ source_read word
  pub left : ℕ
  pub stamp_is : stamp_of left ≡ stamp_of word
  pub left_is : source_read left ≡ bits_asked failure answer
  pub stands : StillAsked (knows old) source answer.requested
  pub me_is : new.me ≡ (
    with_step (index board.frame.layout (spot_of source)) word left
        (asks source (not answer.requested) (knows old)),
    homes_of old.me,
  )
