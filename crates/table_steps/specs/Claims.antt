-- What a claim does to the hand's view.
use Rattle.std.specs.Prelude.{◌≡◌, ◌≢◌, ◌⊎◌, ℕ, ◌+◌, ◌-◌, ◌==◌, true, false, [], ◌∷◌, length, Option, None, MatchOption}
use prog.Atomic.{either}
use Rattle.life_rules.specs.declared.event.Name.{Name}
use Rattle.life_rules.specs.declared.words.BlockState.TheVariants.{Free, Open}
use Rattle.life_rules.specs.Words.{is_free}
use Rattle.table_words.specs.Blocks.{block_read}
use Rattle.table_words.specs.Layouts.{OfBlock, index, place_number}
use Rattle.atomic_table.specs.Table.{Step}
use Rattle.listed_words.specs.Lists.{entry}
use Rattle.table_rules.specs.declared.view.View.{View}
use Rattle.atomic_table.specs.declared.shared.Seat.{Seat}
use Rattle.table_steps.specs.declared.block.Block.{Block}
use Rattle.table_steps.specs.Seats.{Seated, homes_of, view_of}
use Rattle.table_steps.specs.Slots.{Aim, slot_of, IsSeated, noted_at}
use Rattle.table_steps.specs.Owing.{OwesNoneThere}
use Rattle.table_steps.specs.Views.{Board, aim_at, knows}

-- the view has noted no start of x
abbrev pub IsUnnoted : {P E : Type 0} → View P E → Name → Type 0
IsUnnoted v x = noted_at v x ≡ None

-- what an exchange left: its second operand where it found the first, and else what it found
abbrev pub exchanged : {S : Type 0} → Step S → ℕ → ℕ
exchanged step found = either (found == step.first) step.second found

module _ {P E : Type 0} where
  -- the view lists a step on the word of this index, which read the one number there, and left the
  -- other
  abbrev pub with_step : ℕ → ℕ → ℕ → View P E → View P E
  with_step index read left v = record v { steps = entry index read left ∷ v.steps }

  -- the view lists a step that left the word as it read it: a load, or an exchange that lost
  abbrev pub logged : ℕ → ℕ → View P E → View P E
  logged index read v = with_step index read read v

  -- this step is the newest of the list, and no hand was split off or joined
  pub record ListsOne (index read left : ℕ) (m m' : Seated P E) : Type 0 where
    pub steps_are : (view_of m').steps ≡ entry index read left ∷ (view_of m).steps
    pub splits_are : (view_of m').splits ≡ (view_of m).splits
    pub joined_are : (view_of m').joined ≡ (view_of m).joined
    pub hands_are : (view_of m').hands ≡ (view_of m).hands

  -- the hand claimed one block more, and owes the start of its root, with nothing above it and no
  -- lot
  abbrev pub owes_root : Name → View P E → View P E
  owes_root x v =
      record v {
        owed = record { name = x; above = []; lot = [] } ∷ v.owed;
        claimed = v.claimed + 1;
      }

  -- a load lists itself, and changes nothing else
  abbrev pub looks : Step (Option P) → Seated P E → ℕ → Seated P E → Type 0
  looks step m found m' = m' ≡ (logged step.word found (view_of m), homes_of m)

  -- the exchange found what was expected: the hand owed no start in the block, and has noted none
  -- of the root. It owes the root's now, and has its home. Or it found another word, and changed
  -- nothing
  abbrev pub claims : Aim → Step (Option P) → Seated P E → ℕ → Seated P E → Type 0
  claims aim step m found m' =
      (found ≡ step.first →
      (m' ≡ (
        with_step step.word found step.second (owes_root aim.name (view_of m)),
        (slot_of aim.layout aim.name, None) ∷ homes_of m,
      ))
      × (IsSeated aim.tree aim.layout m → IsSeated aim.tree aim.layout m')
      × OwesNoneThere (view_of m) aim.name × IsUnnoted (view_of m) aim.name)
      × (found ≢ step.first → m' ≡ (logged step.word found (view_of m), homes_of m))

-- the root of the block at this generation
abbrev pub root_name : {O : Type 0} → Board O → ℕ → ℕ → Name
root_name board block generation =
    record { block = block; generation = generation; node = length board.frame.tree - 1 }

-- as what a step is about
abbrev pub root_aim : {O : Type 0} → Board O → ℕ → ℕ → Aim
root_aim board block generation = aim_at board (root_name board block generation)

-- the view owes no start in this block
abbrev pub OwesNoneIn : {P E O : Type 0} → Board O → View P E → Block → Type 0
OwesNoneIn board v b = OwesNoneThere v (root_name board b.index b.generation)

-- the index of the block's word
abbrev pub word_index : {O : Type 0} → Board O → ℕ → ℕ
word_index board block = index board.frame.layout (OfBlock block)

module _ {P E O : Type 0} (board : Board O) (block : ℕ) where
  -- the exchange of this word, which was read as free, won, and left the block open
  pub record ClaimedFrom (word : ℕ) (b : Block)
      (old new : Seat (Option P) (View P E)) : Type 0 where
    pub block_is : b.index ≡ block
    pub generation_is : b.generation ≡ (block_read word).generation
    pub left : ℕ
    pub opened : block_read left ≡ record { generation = b.generation; state = Open }
    -- the hand has noted no start of the block's new root
    pub unnoted : IsUnnoted (knows old) (root_name board block b.generation)
    pub me_is : new.me ≡ (
      with_step (word_index board block) word left
          (owes_root (root_name board block b.generation) (knows old)),
      (place_number board.frame.layout block (length board.frame.tree - 1), None) ∷ homes_of old.me,
    )

  -- it found another word, and changed nothing
  pub record MissedFrom (word : ℕ) (old new : Seat (Option P) (View P E)) : Type 0 where
    pub other : ℕ
    pub differs : other ≢ word
    pub me_is : new.me ≡ (logged (word_index board block) other (knows old), homes_of old.me)

  -- the block's word was read as free, and the exchange won, and left it open
  pub record Claimed (b : Block) (old new : Seat (Option P) (View P E)) : Type 0 where
    pub word : ℕ
    pub free : block_read word ≡ record { generation = b.generation; state = Free }
    pub block_is : b.index ≡ block
    pub left : ℕ
    pub opened : block_read left ≡ record { generation = b.generation; state = Open }
    -- the hand has noted no start of the block's new root
    pub unnoted : IsUnnoted (knows old) (root_name board block b.generation)
    pub me_is : new.me ≡ (
      with_step (word_index board block) word left
          (owes_root (root_name board block b.generation)
          (logged (word_index board block) word (knows old))),
      (place_number board.frame.layout block (length board.frame.tree - 1), None) ∷ homes_of old.me,
    )

  -- the word that the load read wasn't free
  pub record WasTaken (old new : Seat (Option P) (View P E)) : Type 0 where
    pub word : ℕ
    pub taken : is_free (block_read word).state ≡ false
    pub me_is : new.me ≡ (logged (word_index board block) word (knows old), homes_of old.me)

  -- it was free, and another hand moved it before this hand's exchange
  pub record WasMoved (old new : Seat (Option P) (View P E)) : Type 0 where
    pub word : ℕ
    pub free : is_free (block_read word).state ≡ true
    pub other : ℕ
    pub differs : other ≢ word
    pub me_is : new.me ≡ (
      logged (word_index board block) other (logged (word_index board block) word (knows old)),
      homes_of old.me,
    )

  abbrev pub Missed : Seat (Option P) (View P E) → Seat (Option P) (View P E) → Type 0
  Missed old new = WasTaken old new ⊎ WasMoved old new

  -- what a claim answers
  abbrev pub IsAnswer : Option Block → Seat (Option P) (View P E) → Seat (Option P) (View P E) →
      Type 0
  IsAnswer answer old new = MatchOption answer (Missed old new) (λ b. Claimed b old new)

  -- what it answers from the word that was read as free
  abbrev pub IsAnswerFrom : ℕ → Option Block → Seat (Option P) (View P E) →
      Seat (Option P) (View P E) → Type 0
  IsAnswerFrom word answer old new =
      MatchOption answer (MissedFrom word old new) (λ b. ClaimedFrom word b old new)
