-- Calls on the scope change a hand's associations and its list of steps, and nothing else of what it knows.
use Rattle.std.proofs.Common.{◌≡◌, ℕ, ◌+◌, ◌-◌, true, List, [], ◌∷◌, refl, ap, ◌∙◌, arith}
use Rattle.std.specs.Prelude.{Option, Ok, Err}
use Rattle.atomic_table.specs.declared.shared.Seat.{Seat}
use Rattle.count_scope.specs.declared.joining.JoinStart.{JoinStart}
use Rattle.count_scope.specs.declared.members.Association.{Association}
use Rattle.count_scope.specs.Associations.{CountsOne}
use Rattle.count_scope.specs.Joins.{Starts}
use Rattle.count_scope.specs.Leaves.{disassociated, Leaves}
use Rattle.count_scope.specs.Looks.{Closes, Reads}
use Rattle.count_scope.specs.Seals.{tried}
use Rattle.life_rules.specs.declared.event.SourceRef.{SourceRef}
use Rattle.life_rules.specs.declared.scope.Refused.{Refused}
use Rattle.life_rules.specs.declared.scope.ScopeWord.{ScopeWord}
use Rattle.listed_words.specs.declared.seen.Seen.{Seen}
use Rattle.plan_shape.specs.Blueprint.{Blueprint}
use Rattle.table_rules.specs.declared.view.View.{View}
use Rattle.table_rules.specs.ShownViews.{has_source_ref}
use Rattle.table_steps.specs.Claims.{with_step}
use Rattle.table_steps.specs.Seats.{Seated}
use Rattle.table_steps.specs.ScopeEntries.{MayEnter}
use Rattle.table_steps.specs.Views.{Board, IsHandOf, knows}
use Rattle.home_items.specs.declared.entry.Entry.{Entry}
use Rattle.home_items.specs.declared.item.Item.{Item}
use Rattle.exec_recv.specs.Asides.{aside_of}
use Rattle.node_walks.specs.Resting.{IsAtRest}
use Rattle.run_loop.specs.declared.looped.Loop.{Loop as Looped}
use Rattle.run_loop.specs.Loops.{HasDelays, IsReady}
use Rattle.record_operations.specs.Calls.{LeavesSame}

-- the hand has so many associations now, and made steps
pub record Moves (made : ℕ) (v w : View Item Entry) : Type 0 where
  pub steps : List Seen
  pub is : w ≡ record v { made = made; steps = steps }

module _ (made : ℕ) (v w : View Item Entry) (did : Moves made v w) where
  pub moved-rests : IsAtRest v → IsAtRest w
  moved-rests rests =
      record {
        held = ap (λ (z : View Item Entry). z.held) did.is ∙ rests.held;
        owed = ap (λ (z : View Item Entry). z.owed) did.is ∙ rests.owed;
        reported = ap (λ (z : View Item Entry). z.reported) did.is ∙ rests.reported;
        finished = ap (λ (z : View Item Entry). z.finished) did.is ∙ rests.finished;
        runs = ap (λ (z : View Item Entry). z.runs) did.is ∙ rests.runs;
        scans = ap (λ (z : View Item Entry). z.scans) did.is ∙ rests.scans;
      }

  pub moved-settled : MayEnter v → MayEnter w
  moved-settled settled = ap (λ (z : View Item Entry). z.making + z.refused) did.is ∙ settled

  pub moved-aside : aside_of w ≡ record (aside_of v) { made = made }
  moved-aside = ap aside_of did.is

  pub moved-sees : (source : SourceRef) → has_source_ref v.seen source ≡ true → has_source_ref w.seen source ≡ true
  moved-sees source seen = ap (λ (z : View Item Entry). has_source_ref z.seen source) did.is ∙ seen

-- a loop whose hand moved so is ready still
pub moved-ready : (board : Board Blueprint) (made : ℕ) (old new : Looped) → IsReady board old → new.next ≡ old.next →
    HasDelays board new.delays new.delay_nodes.items → IsHandOf board new.hand → Moves made (knows old.hand) (knows new.hand) → IsReady board new
moved-ready board made old new ready next delays hand did =
    record {
      hand = hand;
      first = ap (λ (z : View Item Entry). z.number) did.is ∙ ready.first;
      rests = moved-rests made (knows old.hand) (knows new.hand) did ready.rests;
      next = let before = ready.next in omega (arith, next, before);
      delays = delays;
    }

-- so it is where its hand alone is another
pub rehanded : (board : Board Blueprint) (made : ℕ) (loop : Looped)
    (hand : Seat (Option Item) (View Item Entry)) → IsReady board loop → IsHandOf board hand →
    Moves made (knows loop.hand) (knows hand) → IsReady board (record loop { hand = hand })
rehanded board made loop hand ready here did =
    moved-ready board made loop (record loop { hand = hand }) ready refl ready.delays here did

-- where it has as many associations as before all is the same
pub moved-same : (m m' : Seated Item Entry) → Moves m.0.made m.0 m'.0 → LeavesSame m m'
moved-same m m' did = record {
  is = moved-aside m.0.made m.0 m'.0 did;
  sees = moved-sees m.0.made m.0 m'.0 did;
}

pub same-here : (m : Seated Item Entry) → LeavesSame m m
same-here m = record { is = refl; sees = λ source seen. seen }

pub same-on : (m between m' : Seated Item Entry) → LeavesSame m between →
    LeavesSame between m' → LeavesSame m m'
same-on m between m' first next = record {
  is = next.is ∙ first.is;
  sees = λ source seen. next.sees source (first.sees source seen);
}

-- tries of a seal only list steps
tried-moves : (made read left last : ℕ) (v : View Item Entry) (words : List ℕ) →
    Moves made v (tried words last (with_step 0 read left (record v { made = made })))
tried-moves made read left last v [] = record { steps = (with_step 0 read left v).steps; is = refl }
tried-moves made read left last v (word ∷ words) =
    record { steps = (tried (word ∷ words) last (with_step 0 read left v)).steps; is = refl }

moves-as : (made : ℕ) (v w z : View Item Entry) → w ≡ z → Moves made v z → Moves made v w
moves-as made v w z is did = record { steps = did.steps; is = is ∙ did.is }

module _ (m m' : Seated Item Entry) where
  after : (made read left last : ℕ) (words : List ℕ) → m' ≡ (tried words last (with_step 0 read left (record m.0 { made = made })), m.1) →
      Moves made m.0 m'.0
  after made read left last words is =
      moves-as made m.0 m'.0 (tried words last (with_step 0 read left (record m.0 { made = made })))
      (ap (λ (z : Seated Item Entry). z.0) is) (tried-moves made read left last m.0 words)

  -- an association was made, or refused
  pub associated-moves : (a : Association) → CountsOne (Ok a) m m' → Moves (m.0.made + 1) m.0 m'.0
  associated-moves a did = record { steps = m'.0.steps; is = ap (λ (z : Seated Item Entry). z.0) did }

  pub refused-moves : (cause : Refused) → CountsOne (Err cause) m m' → Moves m.0.made m.0 m'.0
  refused-moves cause did = record { steps = m'.0.steps; is = ap (λ (z : Seated Item Entry). z.0) did }

  -- one was left
  pub left-moves : Leaves (disassociated m) m' → Moves (m.0.made - 1) m.0 m'.0
  left-moves did = after (m.0.made - 1) did.word did.left did.last did.words did.me_is

  -- the scope was closed, its join was started, or its word was read
  pub closed-moves : Closes m m' → Moves m.0.made m.0 m'.0
  closed-moves did = after m.0.made did.read did.left 0 [] did.me_is

  pub started-moves : (answer : JoinStart) → Starts answer m m' → Moves m.0.made m.0 m'.0
  started-moves answer did = after m.0.made did.read did.left did.last did.words did.me_is

  pub read-moves : {A : Type 0} (says : ScopeWord → A) (answer : A) → Reads says answer m m' → Moves m.0.made m.0 m'.0
  read-moves says answer did = after m.0.made did.word did.word 0 [] did.me_is

-- the scope was closed, and then its join was started
module _ (board : Board Blueprint) (loop : Looped)
    (closed started : Seat (Option Item) (View Item Entry))
    (closes : Closes loop.hand.me closed.me) (answer : JoinStart)
    (starts : Starts answer closed.me started.me) where
  pub joining-ready : IsReady board loop → IsHandOf board closed → IsHandOf board started →
      IsReady board (record loop { hand = started })
  joining-ready ready first next =
      rehanded board closed.me.0.made (record loop { hand = closed }) started
      (rehanded board loop.hand.me.0.made loop closed ready first
      (closed-moves loop.hand.me closed.me closes)) next
      (started-moves closed.me started.me answer starts)

  pub joining-same : LeavesSame loop.hand.me started.me
  joining-same =
      same-on loop.hand.me closed.me started.me
      (moved-same loop.hand.me closed.me (closed-moves loop.hand.me closed.me closes))
      (moved-same closed.me started.me (started-moves closed.me started.me answer starts))
