-- What a hand needs to move a node's callback ([stopcallback]), and what that tells it.
use Rattle.std.specs.Prelude.{◌≡◌, ◌≢◌, ℕ, Bool, true, ◌||◌, if◌then◌else◌, List, ◌∷◌, Option, Some, is_some}
use Rattle.std.specs.Option.{option_map_or}
use Rattle.node_tree.specs.declared.node.TreeNode.{TreeNode}
use Rattle.life_rules.specs.declared.words.CallbackPhase.{CallbackPhase}
use Rattle.life_rules.specs.declared.words.CallbackPhase.TheVariants.{Never, Armed, Running, Removed}
use Rattle.life_rules.specs.declared.event.Name.{Name}
use Rattle.node_tree.specs.Tree.{nearest}
use Rattle.life_rules.specs.Words.{is_armed, is_running, has_run}
use Rattle.life_rules.specs.States.{source_for}
use Rattle.table_words.specs.Controls.{callback_written}
use Rattle.table_words.specs.Layouts.{OfCallback, index}
use Rattle.atomic_table.specs.Table.{Step}
use Rattle.atomic_table.specs.declared.shared.Seat.{Seat}
use Rattle.table_rules.specs.declared.view.View.{View}
use Rattle.table_rules.specs.declared.view.Held.{Held}
use Rattle.table_rules.specs.Named.{count_by}
use Rattle.table_steps.specs.Views.{Board, knows}
use Rattle.table_steps.specs.Claims.{with_step}
use Rattle.table_steps.specs.Seats.{Seated, homes_of, view_of}
use Rattle.table_steps.specs.Lefts.{SaysCallback, FoundCallback}
use Rattle.table_steps.specs.Slots.{Aim, held_at}
use Rattle.table_steps.specs.Hearings.{UnderScope}
use Rattle.table_steps.specs.Readings.{says_phase, notes_phase}

-- the index of the node's callback word
abbrev pub callback_index : {O : Type 0} → Board O → Name → ℕ
callback_index board x = index board.frame.layout (OfCallback x.block x.node)

-- the hand holds the node, and has read that its callback was never registered; and the node hears
-- a source
pub record CanArm {P E : Type 0} (tree : List TreeNode) (v : View P E) (x : Name) : Type 0 where
  pub held : Held E
  pub holds : held_at v x ≡ Some held
  pub never : held.phase ≡ Some Never
  pub hears : is_some (source_for x (nearest tree x.node)) ≡ true

-- the callback is registered, and the hand hasn't looked after it yet
abbrev pub arms : {P E : Type 0} → Name → View P E → View P E
arms x v = let w = notes_phase x Armed v in record w { unlooked = x ∷ v.unlooked }

-- what a step on the node's callback word tells: the word that it found said this, and it changed
-- so what the hand knows
pub record FindsCallback {P E : Type 0} (x : Name) (before : CallbackPhase)
    (change : View P E → View P E) (i read left : ℕ) (m m' : Seated P E) : Type 0 where
  pub found : FoundCallback x before read
  pub me_is : m' ≡ (with_step i read left (change (view_of m)), homes_of m)

-- the hand's newest step found the node's callback word saying the one, and left it saying the
-- other, at the name's generation; and changed so what the hand knows
pub record LeftCallback {P E O : Type 0} (board : Board O) (x : Name) (before phase : CallbackPhase)
    (change : View P E → View P E) (old new : Seat (Option P) (View P E)) : Type 0 where
  pub read : ℕ
  pub left : ℕ
  pub found : FoundCallback x before read
  pub says : SaysCallback x phase left
  pub me_is : new.me ≡ (
    with_step (callback_index board x) read left (change (knows old)),
    homes_of old.me,
  )

abbrev pub IsArmed : {P E O : Type 0} → Board O → Name → Seat (Option P) (View P E) →
    Seat (Option P) (View P E) → Type 0
IsArmed board x old new = LeftCallback board x Never Armed (arms x) old new

-- the callback was registered, and wasn't removed
abbrev pub is_registered : CallbackPhase → Bool
is_registered phase = is_armed phase || (is_running phase || has_run phase)

-- the hand holds the node, doesn't run its callback, and has read that it was registered
pub record CanWithdraw {P E : Type 0} (v : View P E) (x : Name) : Type 0 where
  pub held : Held E
  pub holds : held_at v x ≡ Some held
  pub known : CallbackPhase
  pub known_is : held.phase ≡ Some known
  pub registered : is_registered known ≡ true
  pub unrun : count_by (λ y. y) v.runs x ≡ 0

-- the hand has seen the request on the source that the node hears
abbrev pub learns : {P E : Type 0} → List TreeNode → Name → View P E → View P E
learns tree x v =
    record v {
      seen = option_map_or (λ source. source ∷ v.seen)
          (source_for x (nearest tree x.node)) v.seen;
    }

-- an armed callback is removed. One that runs or ran tells that its source is requested
abbrev pub withdraws : {P E : Type 0} → List TreeNode → Name → CallbackPhase → View P E → View P E
withdraws tree x phase v = if is_armed phase then notes_phase x Removed v
    else learns tree x (notes_phase x phase v)

-- the word that the exchange left: one that won, the word that it wrote; one that lost, the word
-- that it found
abbrev pub left_by : ℕ → ℕ → ℕ
left_by generation found =
    if is_armed (says_phase generation found) then callback_written generation Removed else found

-- what the exchange tells: the phase that it found, which says that the callback was registered.
-- One that won left it removed: so the list says for good that the callback was removed. Hand 0
-- alone runs callbacks on the scope's source, so that none runs there while it removes one
abbrev pub WithdrawsAt : {P E : Type 0} → Aim → Step (Option P) → Seated P E → ℕ → Seated P E →
    Type 0
WithdrawsAt aim step m found m' =
    (m' ≡ (
      with_step step.word found (left_by aim.name.generation found)
          (withdraws aim.tree aim.name (says_phase aim.name.generation found) (view_of m)),
      homes_of m,
    ))
    × (is_registered (says_phase aim.name.generation found) ≡ true)
    × UnderScope aim.tree (view_of m) aim.name (says_phase aim.name.generation found ≢ Running)

-- the answer is the phase that was read: armed, and then the callback is removed, and the list says
-- so; or it runs or ran, and then the word is as it was
pub record IsWithdrawn {P E O : Type 0} (board : Board O) (x : Name) (answer : CallbackPhase)
    (old new : Seat (Option P) (View P E)) : Type 0 where
  pub word : ℕ
  pub answer_is : answer ≡ says_phase x.generation word
  pub registered : is_registered answer ≡ true
  -- hand 0 alone runs callbacks on the scope's source
  pub scope : UnderScope board.frame.tree (knows old) x (answer ≢ Running)
  pub me_is : new.me ≡ (
    with_step (callback_index board x) word (left_by x.generation word)
        (withdraws board.frame.tree x answer (knows old)),
    homes_of old.me,
  )
