-- What a search for a free block tells.
use Rattle.std.specs.Prelude.{◌≡◌, ℕ, zero, suc, ◌+◌, ◌-◌, ◌<◌, nat_lt, if◌then◌else◌, Option, MatchOption}
use Rattle.atomic_table.specs.declared.shared.Seat.{Seat}
use Rattle.table_rules.specs.declared.view.View.{View}
use Rattle.table_steps.specs.declared.block.Block.{Block}
use Rattle.table_steps.specs.Views.{Board, knows}
use Rattle.table_steps.specs.Claims.{root_name, Claimed, IsUnnoted, Missed}

module _ {P E O : Type 0} (board : Board O) where
  -- each of the first so many blocks was missed at a step of its own, one after the other: it
  -- wasn't free, or another hand moved it between the load and the exchange
  abbrev pub IsMissedBelow : ℕ → Seat (Option P) (View P E) → Seat (Option P) (View P E) → Type 0
  IsMissedBelow zero old new = new.me ≡ old.me
  IsMissedBelow (suc block) old new =
      (middle : Seat (Option P) (View P E)) × IsMissedBelow block old middle
      × Missed board block middle new

  -- the blocks before it were missed, and then it was free, and claimed. The hand has noted no
  -- start of its new root
  pub record IsFound (b : Block) (old new : Seat (Option P) (View P E)) : Type 0 where
    pub middle : Seat (Option P) (View P E)
    pub within : b.index < board.frame.layout.blocks
    pub missed : IsMissedBelow b.index old middle
    pub claimed : Claimed board b.index b middle new
    pub unnoted : IsUnnoted (knows old) (root_name board b.index b.generation)

  -- none where each block was missed; else the block that was found
  abbrev pub IsSearched : Option Block → Seat (Option P) (View P E) → Seat (Option P) (View P E) →
      Type 0
  IsSearched answer old new =
      MatchOption answer (IsMissedBelow board.frame.layout.blocks old new) (λ b. IsFound b old new)

-- the block to which so many steps round from this one lead
abbrev pub block_round : ℕ → ℕ → ℕ → ℕ
block_round blocks from step = if nat_lt step (blocks - from) then from + step
    else step - (blocks - from)

module _ {P E O : Type 0} (board : Board O) (from : ℕ) where
  -- the same of so many blocks round from this one
  abbrev pub IsMissedFrom : ℕ → Seat (Option P) (View P E) → Seat (Option P) (View P E) → Type 0
  IsMissedFrom zero old new = new.me ≡ old.me
  IsMissedFrom (suc count) old new =
      (middle : Seat (Option P) (View P E)) × IsMissedFrom count old middle
      × Missed board (block_round board.frame.layout.blocks from count) middle new

  -- so many blocks were missed, and then the next was free, and claimed
  pub record IsFoundFrom (b : Block) (old new : Seat (Option P) (View P E)) : Type 0 where
    pub count : ℕ
    pub few : count < board.frame.layout.blocks
    pub block_is : b.index ≡ block_round board.frame.layout.blocks from count
    pub middle : Seat (Option P) (View P E)
    pub within : b.index < board.frame.layout.blocks
    pub missed : IsMissedFrom count old middle
    pub claimed : Claimed board b.index b middle new
    pub unnoted : IsUnnoted (knows old) (root_name board b.index b.generation)

  -- none where each block was missed, and else the block that was found
  abbrev pub IsSearchedFrom : Option Block → Seat (Option P) (View P E) →
      Seat (Option P) (View P E) → Type 0
  IsSearchedFrom answer old new =
      MatchOption answer (IsMissedFrom board.frame.layout.blocks old new)
      (λ b. IsFoundFrom b old new)
