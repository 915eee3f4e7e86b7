-- What a hand needs to wake a parked node, and what that tells it.
use Rattle.std.specs.Prelude.{◌≡◌, ℕ, Bool, true, false, ◌||◌, ◌==◌, nat_le, Option}
use Rattle.life_rules.specs.declared.words.ControlWord.TheVariants.{ReadyLoop}
use Rattle.life_rules.specs.declared.event.Name.{Name}
use Rattle.life_rules.specs.declared.event.Resting.TheVariants.{Parked}
use Rattle.atomic_table.specs.Table.{Step}
use Rattle.atomic_table.specs.declared.shared.Seat.{Seat}
use Rattle.table_rules.specs.declared.view.View.{View}
use Rattle.table_rules.specs.Named.{count_by}
use Rattle.table_steps.specs.Views.{Board, knows}
use Rattle.table_steps.specs.Claims.{with_step, exchanged}
use Rattle.table_steps.specs.Seats.{Seated, homes_of, view_of}
use Rattle.table_steps.specs.Lefts.{SaysControl}
use Rattle.table_steps.specs.Takes.{rest_word}
use Rattle.table_steps.specs.Steps.{control_index}

-- the hand runs the node's callback, or is hand 0
abbrev pub MayRouse : {P E : Type 0} → View P E → Name → Type 0
MayRouse v x = (nat_le 1 (count_by (λ y. y) v.runs x) || v.number == 0) ≡ true

-- what the exchange tells: the hand knows what it knew
abbrev pub rouses : {P E : Type 0} → Step (Option P) → Seated P E → ℕ → Seated P E → Type 0
rouses step m found m' =
    m' ≡ (with_step step.word found (exchanged step found) (view_of m), homes_of m)

-- true exactly where the word that was read said that the node is parked, at its generation: then
-- the word says that it is ready in the loop, and else it stayed. The hand knows what it knew
pub record IsRoused {P E O : Type 0} (board : Board O) (x : Name) (answer : Bool)
    (old new : Seat (Option P) (View P E)) : Type 0 where
  pub word : ℕ
  pub left : ℕ
  pub answer_is : answer ≡ (word == rest_word x Parked)
  pub roused : answer ≡ true → SaysControl x ReadyLoop left
  pub stayed : answer ≡ false → left ≡ word
  pub me_is : new.me ≡ (with_step (control_index board x) word left (knows old), homes_of old.me)
