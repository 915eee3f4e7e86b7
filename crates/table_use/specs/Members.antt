-- What a hand that uses the scope has, and what two calls in a row did to it.
use Rattle.std.specs.Prelude.{ℕ, Option, Some, None, Result, Ok, Err, MatchResult}
use Rattle.life_rules.specs.declared.scope.Refused.{Refused}
use Rattle.atomic_table.specs.declared.shared.Seat.{Seat}
use Rattle.table_rules.specs.declared.view.View.{View}
use Rattle.table_steps.specs.Seats.{Seated}
use Rattle.table_steps.specs.ScopeEntries.{MayEnter}
use Rattle.table_steps.specs.Views.{Board, IsHandOf, knows}
use Rattle.count_scope.specs.declared.members.Association.{Association}
use Rattle.count_scope.specs.Associations.{Associates}
use Rattle.count_scope.specs.Leaves.{HasAssociation, disassociated, Leaves}

module _ {P E O : Type 0} (board : Board O) where
  -- the hand is one of the table's, and can associate
  pub record MayAssociate (hand : Seat (Option P) (View P E)) : Type 0 where
    pub hand_of : IsHandOf board hand
    pub settled : MayEnter (knows hand)

  -- the hand is one of the table's, and has an association
  pub record IsMember (hand : Seat (Option P) (View P E)) : Type 0 where
    pub hand_of : IsHandOf board hand
    pub has : HasAssociation (knows hand)

  -- the hand has an association where one was made
  abbrev pub IsMemberAs : Result Association Refused → Seat (Option P) (View P E) → Type 0
  IsMemberAs answer hand = MatchResult answer (λ _. IsMember hand) (λ _. MayAssociate hand)

module _ {P E : Type 0} where
  -- an association was made, and left at once
  pub record CameAndWent (most : ℕ) (m m' : Seated P E) : Type 0 where
    pub place : Association
    pub middle : Seated P E
    pub came : Associates most (Ok place) m middle
    pub went : Leaves (disassociated middle) m'

  -- so it was where no cause is told; else it was refused for that
  abbrev pub ComesAndGoes : ℕ → Option Refused → Seated P E → Seated P E → Type 0
  ComesAndGoes most None m m' = CameAndWent most m m'
  ComesAndGoes most (Some cause) m m' = Associates most (Err cause) m m'
