-- What a hand notes of a node that it holds, by loads of words.
use Rattle.std.specs.Prelude.{◌≡◌, ℕ, Bool, true, false, not, ◌&&◌, ◌==◌, if◌then◌else◌, List, [], ◌∷◌, Some}
use Rattle.std.specs.Option.{option_map_or}
use Rattle.node_tree.specs.declared.node.TreeNode.{TreeNode}
use Rattle.life_rules.specs.declared.words.CallbackPhase.{CallbackPhase}
use Rattle.life_rules.specs.declared.words.CallbackPhase.TheVariants.{Never}
use Rattle.life_rules.specs.declared.event.Name.{Name}
use Rattle.node_tree.specs.Tree.{parent_of}
use Rattle.life_rules.specs.Words.{is_idle}
use Rattle.life_rules.specs.Views.{same, beside}
use Rattle.table_words.specs.Stamps.{stamp_of}
use Rattle.table_words.specs.Controls.{control_read, callback_read}
use Rattle.table_words.specs.Layouts.{OfControl, OfCallback, index}
use Rattle.table_rules.specs.declared.frame.Frame.{Frame}
use Rattle.table_rules.specs.declared.view.View.{View}
use Rattle.table_rules.specs.declared.view.Held.{Held}
use Rattle.table_steps.specs.Claims.{logged}
use Rattle.table_steps.specs.Seats.{Seated, homes_of, view_of}
use Rattle.table_steps.specs.Slots.{held_at, knows_idle}

-- the list, with its first entry of x changed so
abbrev pub at_entry : {A : Type 0} → (A → Name) → (A → A) → Name → List A → List A
at_entry name change x [] = []
at_entry name change x (e ∷ es) =
    if same (name e) x then change e ∷ es else e ∷ at_entry name change x es

-- the child was read as not begun
abbrev pub notes_idle : {P E : Type 0} → Name → ℕ → View P E → View P E
notes_idle x n v =
    record v { held = at_entry (λ e. e.name) (λ e. record e { idle = n ∷ e.idle }) x v.held }

-- the node's callback was read so
abbrev pub notes_phase : {P E : Type 0} → Name → CallbackPhase → View P E → View P E
notes_phase x phase v =
    record v { held = at_entry (λ e. e.name) (λ e. record e { phase = Some phase }) x v.held }

-- the name of the node's parent
abbrev pub above_it : List TreeNode → Name → Name
above_it tree x = option_map_or (λ p. beside x p) (parent_of tree x.node) x

-- the control word says at this generation that the node has begun
abbrev pub says_begun : ℕ → ℕ → Bool
says_begun generation word = stamp_of word == generation && not (is_idle (control_read word))

-- what the word says at this generation: one that was written at another says nothing, which reads
-- as the first
abbrev pub says_at : {A : Type 0} → A → (ℕ → A) → ℕ → ℕ → A
says_at first read generation word = if stamp_of word == generation then read word else first

-- the phase that the callback word says at this generation
abbrev pub says_phase : ℕ → ℕ → CallbackPhase
says_phase generation word = says_at Never callback_read generation word

-- what a load of the child's word tells the hand that holds its parent x
abbrev pub reads_child : {P E : Type 0} → Name → Name → ℕ → ℕ → Seated P E → Seated P E
reads_child x child i word m = (
  logged i word (if says_begun child.generation word then view_of m
      else notes_idle x child.node (view_of m)),
  homes_of m,
)

-- the hand holds x, and knows that this child of it hasn't begun
pub record KnowsIdle {P E : Type 0} (x : Name) (n : ℕ) (m : Seated P E) : Type 0 where
  pub held : Held E
  pub holds : held_at (view_of m) x ≡ Some held
  pub idle : knows_idle held n ≡ true

-- and a child of which it knew so still hasn't
abbrev pub ChildReads : {P E : Type 0} → Name → Name → ℕ → ℕ → Seated P E → Seated P E → Type 0
ChildReads x child i word m m' =
    (m' ≡ reads_child x child i word m)
    × (KnowsIdle x child.node m → says_begun child.generation word ≡ false)

-- what a load of the node's callback word tells the hand that holds it
abbrev pub reads_phase : {P E : Type 0} → Name → ℕ → ℕ → Seated P E → Seated P E
reads_phase x i word m =
    (logged i word (notes_phase x (says_phase x.generation word) (view_of m)), homes_of m)

-- the hand holds the child's parent
pub record HoldsAbove {P E : Type 0} (tree : List TreeNode) (v : View P E)
    (child : Name) : Type 0 where
  pub parent : ℕ
  pub parent_is : parent_of tree child.node ≡ Some parent
  pub held : Held E
  pub holds : held_at v (beside child parent) ≡ Some held

-- the hand holds the node
pub record Holds {P E : Type 0} (v : View P E) (x : Name) : Type 0 where
  pub held : Held E
  pub holds : held_at v x ≡ Some held

-- the answer is what the word that was read says, and the hand has noted it
abbrev pub IsBegunAs : {P E O : Type 0} → Frame O → Name → Bool → Seated P E → Seated P E → Type 0
IsBegunAs f child answer m m' =
    (word : ℕ) × (answer ≡ says_begun child.generation word)
    × (m' ≡ reads_child (above_it f.tree child) child
    (index f.layout (OfControl child.block child.node)) word m)

-- a child that the hand had read as not begun still hasn't
abbrev pub IsIdleStill : {P E O : Type 0} → Frame O → Name → Bool → Seated P E → Type 0
IsIdleStill f child answer m = KnowsIdle (above_it f.tree child) child.node m → answer ≡ false

abbrev pub IsPhaseAs : {P E O : Type 0} → Frame O → Name → CallbackPhase → Seated P E → Seated P E →
    Type 0
IsPhaseAs f x answer m m' =
    (word : ℕ) × (answer ≡ says_phase x.generation word)
    × (m' ≡ reads_phase x (index f.layout (OfCallback x.block x.node)) word m)
