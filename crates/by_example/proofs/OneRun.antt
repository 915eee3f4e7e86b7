-- What a loop did with one operation, and what that allows.
use Rattle.std.proofs.Common.{◌≡◌, ℕ, zero, suc, Bool, true, false, List, inl, inr, refl, sym, ap, ◌∙◌, subst, arith}
use Rattle.std.specs.Prelude.{ℤ, ◌-◌, [], ◌∷◌, length, IfOk, IfErr}
use Rattle.std.proofs.lemmas.Bool.{false≢true}
use Rattle.exec_recv.specs.Asides.{Aside, aside_of}
use Rattle.exec_recv.specs.Over.{IsOver}
use Rattle.home_items.proofs.Beginning.{record-kinds}
use Rattle.home_items.specs.Entries.{record_start}
use Rattle.home_items.specs.declared.entry.Entry.{Entry}
use Rattle.home_items.specs.declared.item.Item.{Item}
use Rattle.exec_value.specs.Kinds.{HasKind}
use Rattle.exec_value.specs.declared.data.Datum.{Datum}
use Rattle.exec_value.specs.declared.data.Datum.TheVariants.{Int}
use Rattle.exec_value.specs.declared.kinds.Kind.{Kind}
use Rattle.exec_value.specs.declared.kinds.Kind.TheVariants.{Int as IntKind}
use Rattle.exec_value.specs.declared.outcome.Completion.{Completion}
use Rattle.op_slot.specs.Searches.{IsMissedFrom}
use Rattle.plan_kinds.specs.Small.{IsSmall}
use Rattle.plan_shape.specs.Blueprint.{Blueprint}
use Rattle.node_walks.specs.Completes.{AllowedAtTop}
use Rattle.node_walks.specs.Starts.{CanRun, MissesEach}
use Rattle.node_walks.specs.declared.completing.Collected.{Collected}
use Rattle.run_loop.specs.Loops.{IsReady}
use Rattle.run_loop.specs.Starts.{FindsNoBlock}
use Rattle.run_loop.specs.Waits.{HasRun, Waits, with_block_used}
use Rattle.run_loop.specs.declared.looped.Loop.{Loop as Looped}
use Rattle.run_loop.specs.declared.waiting.Waited.{Waited}
use Rattle.run_loop.specs.declared.waiting.Waited.TheVariants.{Completed, NoBlock}
use Rattle.table_rules.specs.declared.view.View.{View}
use Rattle.table_steps.specs.Claims.{Missed}
use Rattle.table_steps.specs.Seats.{Seated}
use Rattle.table_steps.specs.Views.{Board, fresh_with, knows}
use Rattle.by_example.specs.Answers.{IsAddCause, MayComplete, answer_of}
use Rattle.whole_run.specs.Opened.{IsFreshHand}
use Rattle.run_workers.specs.Crews.{IsSpare}
use Rattle.by_example.specs.OneHand.{TheHand}

abbrev TheView : Type 0
TheView = View Item Entry

abbrev beside : Seated Item Entry → Aside
beside m = aside_of m.0

-- a block that was missed adds to the list of steps, and to nothing beside
missed-beside : (board : Board Blueprint) (block : ℕ) (old new : TheHand) → Missed board block old new → beside new.me ≡ beside old.me
missed-beside board block old new (inl taken) = ap beside taken.me_is
missed-beside board block old new (inr moved) = ap beside moved.me_is

all-beside : (board : Board Blueprint) (from count : ℕ) (old new : TheHand) → IsMissedFrom board from count old new →
    beside new.me ≡ beside old.me
all-beside board from zero old new same = ap beside same
all-beside board from (suc count) old new missed =
    missed-beside board _ missed.0 new missed.2 ∙ all-beside board from count old missed.0 missed.1

none-beside : (board : Board Blueprint) (old new : Looped) → FindsNoBlock board old new → beside new.hand.me ≡ beside old.hand.me
none-beside board old new none = all-beside board old.next board.frame.layout.blocks old.hand new.hand none

-- a record of one int may be started
pub int-runs : (board : Board Blueprint) (plan : Blueprint) → IsOver board plan → plan.settings.input ≡ IntKind → (number : ℤ) →
    CanRun board (record_start plan (Int number ∷ []) 1 false)
int-runs board plan over int number =
    let some = over.is_plan.some in
    record {
      receiver = record { node = refl; top = length plan.nodes - 1; names = refl; is_top = inl (omega (arith, some)); whole = refl };
      plan = sym over.over;
      kinds = record-kinds plan over.is_plan (Int number) (subst (λ (k : Kind). HasKind (Int number) k) (sym int) tt) 1 false;
    }

-- the environment of a record of one int shows that start
pub starts-int : (plan : Blueprint) (env : List Entry) (args : List Datum) (n number : ℤ) → env ≡ record_start plan args 1 false →
    args ≡ Int n ∷ [] → n ≡ number → env ≡ record_start plan (Int number ∷ []) 1 false
starts-int plan env args n number shows one is =
    shows ∙ ap (λ (l : List Datum). record_start plan l 1 false) (one ∙ ap (λ (m : ℤ). Int m ∷ []) is)

-- what is allowed where no request was seen
allowed-unseen : (plan : Blueprint) (number : ℤ) (saw : Bool) (c : Completion) → (saw ≡ true → ⊥) →
    AllowedAtTop (record_start plan (Int number ∷ []) 1 false) saw c → MayComplete plan number c
allowed-unseen plan number true c never allowed = absurd (never refl)
allowed-unseen plan number false c never allowed = allowed

-- this is what one block that was used leaves of a new hand, or one that was missed
record LeavesLittle (aside : Aside) : Type 0 where
  made : aside.made ≡ 0
  making : aside.making ≡ 0
  refused : aside.refused ≡ 0
  even : aside.claimed ≡ aside.released

module _ (board : Board Blueprint) (hand : TheHand) (new : IsFreshHand board hand) (old later : Looped) (is : old.hand ≡ hand) where
  seen : knows old.hand ≡ fresh_with 0 (knows hand).splits
  seen = ap (λ (h : TheHand). knows h) is ∙ new.fresh

  abbrev untouched : Aside
  untouched = aside_of (fresh_with 0 (knows hand).splits)

  beside-old : beside old.hand.me ≡ untouched
  beside-old = ap (λ (v : TheView). aside_of v) seen

  little-later : (start : List Entry) (waited : Waited) → Waits board start old later waited → LeavesLittle (beside later.hand.me)
  little-later start (Completed c) did =
      subst LeavesLittle (sym (did.leaves.is ∙ ap with_block_used beside-old))
      (record { made = refl; making = refl; refused = refl; even = refl })
  little-later start (NoBlock back) did =
      subst LeavesLittle (sym (none-beside board old later did.none ∙ beside-old))
      (record { made = refl; making = refl; refused = refl; even = refl })

  -- the hand comes back
  pub waited-back : (start : List Entry) (waited : Waited) → Waits board start old later waited → IsReady board later →
      IsSpare board later.hand
  waited-back start waited did ready =
      let little = little-later start waited did in
      record {
        hand_of = ready.hand;
        nothing = record {
          held = ready.rests.held;
          owed = ready.rests.owed;
          reported = ready.rests.reported;
          finished = ready.rests.finished;
          runs = ready.rests.runs;
          scans = ready.rests.scans;
          made = little.made;
          making = little.making;
          refused = little.refused;
        };
        even = little.even;
      }

  -- no request was seen
  saw-none : (start : List Entry) (c : Collected) → HasRun board start old later c → c.saw ≡ true → ⊥
  saw-none start c did saw = false≢true (sym (ap (λ (v : TheView). v.requested) seen) ∙ did.is_for.saw saw)

  -- and what is answered is allowed
  pub waited-answer : (plan : Blueprint) (number : ℤ) (waited : Waited) → IsSmall plan →
      Waits board (record_start plan (Int number ∷ []) 1 false) old later waited → IfOk (answer_of waited) (MayComplete plan number)
  waited-answer plan number (Completed c) small did =
      let start = record_start plan (Int number ∷ []) 1 false in
      elim did.is_for.may [
        | inl none ↦ absurd (did.is_for.small small none)
        | inr allowed ↦ allowed-unseen plan number c.saw c.completion (saw-none start c did) allowed
      ]
  waited-answer plan number (NoBlock back) small did = tt

  -- where no block was free, each was missed
  pub waited-fault : old.next ≡ 0 → (start : List Entry) (waited : Waited) → Waits board start old later waited →
      IfErr (answer_of waited) (IsAddCause board hand later.hand)
  waited-fault front start (Completed c) did = tt
  waited-fault front start (NoBlock back) did =
      subst (λ (h : TheHand). MissesEach board 0 h later.hand) is
      (subst (λ (n : ℕ). MissesEach board n old.hand later.hand) front did.none)
