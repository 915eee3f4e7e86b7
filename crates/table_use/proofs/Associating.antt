-- Each call on the scope leaves a hand that can associate.
use Rattle.std.proofs.Common.{◌≡◌, ℕ, ◌≤◌, List, [], ◌∷◌, sym, subst, arith}
use Rattle.std.specs.Prelude.{Option, Result, Ok, Err}
use Rattle.life_rules.specs.declared.scope.ScopeWord.{ScopeWord}
use Rattle.life_rules.specs.declared.scope.Refused.{Refused}
use Rattle.atomic_table.specs.declared.shared.Seat.{Seat}
use Rattle.table_rules.specs.declared.view.View.{View}
use Rattle.listed_words.specs.declared.seen.Seen.{Seen}
use Rattle.table_steps.specs.Seats.{Seated}
use Rattle.table_steps.specs.ScopeEntries.{MayEnter}
use Rattle.table_steps.specs.Views.{Board, IsHandOf}
use Rattle.count_scope.specs.declared.members.Association.{Association}
use Rattle.count_scope.specs.declared.joining.JoinStart.{JoinStart}
use Rattle.count_scope.specs.Seals.{tried}
use Rattle.count_scope.specs.Leaves.{disassociated, Leaves}
use Rattle.count_scope.specs.Associations.{CountsOne}
use Rattle.count_scope.specs.Joins.{Starts}
use Rattle.count_scope.specs.Looks.{Reads, Closes}
use Rattle.table_use.specs.Members.{MayAssociate, IsMember, IsMemberAs}

-- only the associations that are made, and the list of steps, are others
settled-still : {P E : Type 0} (m m' : Seated P E) (made : ℕ) (steps : List Seen) →
    m' ≡ (record (m.0) { made = made; steps = steps }, m.1) → MayEnter m.0 → MayEnter m'.0
settled-still {P} {E} m m' made steps is settled = subst (λ (z : Seated P E). MayEnter z.0) (sym is) settled

-- tries of a seal only list steps
settled-tried : {P E : Type 0} (words : List ℕ) (last : ℕ) (v : View P E) → MayEnter v → MayEnter (tried words last v)
settled-tried [] last v settled = settled
settled-tried (word ∷ words) last v settled = settled

module _ {P E O : Type 0} (board : Board O) (old new : Seat (Option P) (View P E)) (hand : IsHandOf board new) where
  pub member-after : (answer : Result Association Refused) → MayAssociate board old → CountsOne answer old.me new.me → IsMemberAs board answer new
  member-after (Ok a) ready is =
      record {
        hand_of = hand;
        has = record {
          settled = settled-still old.me new.me _ _ is ready.settled;
          one = subst (λ (z : Seated P E). 1 ≤ z.0.made) (sym is) (omega arith);
        };
      }
  member-after (Err cause) ready is =
      record { hand_of = hand; settled = settled-still old.me new.me old.me.0.made _ is ready.settled }

  pub ready-left : IsMember board old → Leaves (disassociated old.me) new.me → MayAssociate board new
  ready-left member is =
      record { hand_of = hand; settled = subst (λ (z : Seated P E). MayEnter z.0) (sym is.me_is) (settled-tried is.words is.last _ member.has.settled) }

  pub ready-closed : MayAssociate board old → Closes old.me new.me → MayAssociate board new
  ready-closed ready is =
      record { hand_of = hand; settled = settled-still old.me new.me old.me.0.made _ is.me_is ready.settled }

  pub ready-joins : (answer : JoinStart) → MayAssociate board old → Starts answer old.me new.me → MayAssociate board new
  ready-joins answer ready is =
      record { hand_of = hand; settled = subst (λ (z : Seated P E). MayEnter z.0) (sym is.me_is) (settled-tried is.words is.last _ ready.settled) }

  pub ready-reads : {A : Type 0} (says : ScopeWord → A) (answer : A) → MayAssociate board old → Reads says answer old.me new.me → MayAssociate board new
  ready-reads says answer ready is =
      record { hand_of = hand; settled = settled-still old.me new.me old.me.0.made _ is.me_is ready.settled }
