-- Which steps the calls on a scope list (P3149, [exec.counting.scopes]). A hand's list grows by its
-- own steps alone, each listed by the step itself: so what a call lists is what it did, and a body
-- that makes no step, more steps, or one on another word, doesn't do what its call says.
use Rattle.std.specs.Prelude.{ℕ, ◌+◌, ◌≤◌, Bool, true, false, length, Option, Ok, Err}
use Rattle.life_rules.specs.declared.event.SourceRef.TheVariants.{Scope}
use Rattle.life_rules.specs.declared.scope.Refused.{Refused}
use Rattle.life_rules.specs.declared.scope.ScopeState.{ScopeState}
use Rattle.life_rules.specs.Scopes.{may_seal, scope_state}
use Rattle.table_words.specs.ScopeNumbers.{scope_read}
use Rattle.table_words.specs.Layouts.{index}
use Rattle.atomic_table.specs.declared.shared.Seat.{Seat}
use Rattle.table_rules.specs.declared.view.View.{View}
use Rattle.table_steps.specs.Views.{Board}
use Rattle.table_steps.specs.Seats.{Seated}
use Rattle.table_steps.specs.Sights.{spot_of}
use Rattle.table_laws.specs.CallLists.{ListsOne, ListsTwo, ListsSome}
use Rattle.stop_calls.specs.declared.requesting.Request.{Request}
use Rattle.stop_calls.specs.Requests.{IsRequested}
use Rattle.count_scope.specs.declared.joining.JoinStart.{JoinStart}
use Rattle.count_scope.specs.declared.members.Association.{Association}
use Rattle.count_scope.specs.Leaves.{is_last, disassociated, Leaves}
use Rattle.count_scope.specs.Associations.{Associates}
use Rattle.count_scope.specs.Joins.{Starts}
use Rattle.count_scope.specs.Looks.{Reads, Closes}

module _ {P E : Type 0} where
  -- the list grew by at least so many steps, and at most so many, all on the scope's word
  pub record ListsFew (least most : ℕ) (m m' : Seated P E) : Type 0 where
    pub some : ListsSome 0 m m'
    pub enough : least ≤ length some.others + 1
    pub few : length some.others + 1 ≤ most

  -- by one step; and where a seal is asked, by one to three tries more
  abbrev pub ListsTries : Bool → Seated P E → Seated P E → Type 0
  ListsTries true m m' = ListsFew 2 4 m m'
  ListsTries false m m' = ListsOne 0 m m'

  -- by one step; and where the scope wasn't used before, by one more, which marks it
  abbrev pub ListsMark : Bool → Seated P E → Seated P E → Type 0
  ListsMark true m m' = ListsOne 0 m m'
  ListsMark false m m' = ListsTwo 0 0 m m'

module _ {P E O : Type 0} (board : Board O) (old new : Seat (Option P) (View P E)) where
  -- each call's steps are on the scope's word, but for a request, which is one on its source's
  pub record ListsOfCalls : Type 0 where
    pub made : (most : ℕ) (place : Association) → (did : Associates most (Ok place) old.me new.me) →
        ListsMark (scope_read did.word).used old.me new.me
    pub refused : (most : ℕ) (cause : Refused) → Associates most (Err cause) old.me new.me →
        ListsFew 2 5 old.me new.me
    pub left : (did : Leaves (disassociated old.me) new.me) →
        ListsTries (is_last (scope_read did.word)) old.me new.me
    pub closed : Closes old.me new.me → ListsOne 0 old.me new.me
    pub started : (answer : JoinStart) → (did : Starts answer old.me new.me) →
        ListsTries (may_seal (scope_read did.left)) old.me new.me
    pub joined : (answer : Bool) → Reads (λ w. w.joined) answer old.me new.me →
        ListsOne 0 old.me new.me
    pub looked : (answer : ScopeState) → Reads scope_state answer old.me new.me →
        ListsOne 0 old.me new.me
    pub requested : (answer : Request) → IsRequested board Scope answer old new →
        ListsOne (index board.frame.layout (spot_of Scope)) old.me new.me

abbrev pub ScopeCallsListTheirSteps : Type 0 → Type 0 → Type 0 → Type 0
ScopeCallsListTheirSteps P E O =
    (board : Board O) (old new : Seat (Option P) (View P E)) → ListsOfCalls board old new
