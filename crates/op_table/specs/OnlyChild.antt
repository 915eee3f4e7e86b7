-- How a node awaits one child alone, which begins at once.
use Rattle.std.specs.Prelude.{◌≡◌, ℕ, [], ◌∷◌, Some, None}
use Rattle.life_rules.specs.declared.words.ControlWord.TheVariants.{Busy}
use Rattle.life_rules.specs.declared.event.Name.{Name}
use Rattle.life_rules.specs.Views.{beside}
use Rattle.table_rules.specs.declared.cargo.Cargo.{Ghosts}
use Rattle.table_rules.specs.declared.frame.Frame.{Frame}
use Rattle.table_steps.specs.Views.{aimed}
use Rattle.table_steps.specs.Seats.{Seated}
use Rattle.table_steps.specs.Lefts.{LeavesControl}
use Rattle.table_steps.specs.Awaits.{CanAwait, AwaitsAt}
use Rattle.table_steps.specs.Begins.{Begins}
use Rattle.table_steps.specs.Swaps.{IsSwapped}

module _ {P E O : Type 0} (cargo : Ghosts P E O) (f : Frame O) (x : Name) (n : ℕ) (item : P)
    (m : Seated P E) where
  -- the hand can await this child alone, and the item is no completion. The start that the item
  -- shows goes on with the node's, has the table's key, and draws the lot of what lies in the
  -- node's home
  pub record CanBeginChild : Type 0 where
    pub await : CanAwait cargo f m x (n ∷ [])
    pub entry : E
    pub start : cargo.start item ≡ entry ∷ await.leave.held.start
    pub key : cargo.key (cargo.start item) ≡ f.over.value
    pub drawn : cargo.drawn (cargo.start item) ≡ cargo.lot await.item
    pub goes_on : ¬ cargo.ends item

  -- the node was held, and waits for the child; then the item was put into the child's home, which
  -- was empty, and then the child began
  pub record BeginsChild (m' : Seated P E) : Type 0 where
    pub waiting : Seated P E
    pub awaits : LeavesControl (aimed f x) (Busy 0) (Busy 1)
        (AwaitsAt cargo (aimed f x) (n ∷ [])) m waiting
    pub full : Seated P E
    pub put : IsSwapped f (beside x n) (Some item) None waiting full
    pub begins : Begins cargo (aimed f (beside x n)) full m'
