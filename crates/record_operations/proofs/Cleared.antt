-- Tickets that are free stay free, and a hand whose tickets all are has nothing.
use Rattle.std.proofs.Common.{◌≡◌, ℕ, suc, ◌+◌, ◌<◌, ◌≤◌, List, [], ◌∷◌, length, get_or, inl, inr, refl, ap, ◌∙◌, arith}
use Rattle.std.specs.Prelude.{Option, None}
use Rattle.std.proofs.lemmas.Bool.{cases_eq, cases_lt}
use Rattle.std.proofs.lemmas.List.{get_or_past}
use Rattle.std.proofs.lemmas.List.Sums.{sum_by-cons}
use Rattle.plan_shape.specs.Blueprint.{Blueprint}
use Rattle.table_steps.specs.Views.{Board, knows}
use Rattle.exec_recv.specs.Asides.{Aside}
use Rattle.run_loop.specs.declared.looped.Loop.{Loop as Looped}
use Rattle.run_loop.specs.Loops.{IsReady}
use Rattle.spawn_future.specs.Slots.{kept_in}
use Rattle.record_operations.specs.declared.tickets.Operation.{Operation}
use Rattle.record_operations.specs.Calls.{LeavesSame}
use Rattle.record_operations.specs.Ends.{HasJoined, IsEnded}
use Rattle.record_operations.specs.Moves.{Clears}
use Rattle.record_operations.specs.Runs.{Run, begun_by, taken}
use Rattle.record_operations.specs.Sound.{IsSound}
use Rattle.line_rules.specs.PlanTerms.{has_ahead}
use Rattle.record_operations.specs.Worked.{HasWorked}
use Rattle.record_operations.proofs.Listed.{one_if}

pub clears-on : (old between new : Run) → Clears old between → Clears between new → Clears old new
clears-on old between new first next =
    record {
      board = next.board ∙ first.board;
      plan = next.plan ∙ first.plan;
      begun = next.begun ∙ first.begun;
      count = next.count ∙ first.count;
      free = λ t free. next.free t (first.free t free);
    }

kept-begun : (old new : Run) → new.looped.tally ≡ old.looped.tally → new.operations ≡ old.operations → begun_by new ≡ begun_by old
kept-begun old new tally operations = λ i. length (tally i) + taken (operations i)

-- tickets that are free, and one more
pub free-more : (operations : List (Option Operation)) (n : ℕ) → ((t : ℕ) → t < n → get_or operations t None ≡ None) → get_or operations n None ≡ None →
    (t : ℕ) → t < n + 1 → get_or operations t None ≡ None
free-more operations n before here t within = elim (cases_eq t n) [
  | inl same ↦ ap (λ k. get_or operations k None) same ∙ here
  | inr apart ↦ before t (omega (arith, within, apart))
]

-- all of them
pub free-all : (operations : List (Option Operation)) (n : ℕ) → length operations ≤ n → ((t : ℕ) → t < n → get_or operations t None ≡ None) →
    (t : ℕ) → get_or operations t None ≡ None
free-all operations n long before t = elim (cases_lt t n) [
  | inl less ↦ before t less
  | inr more ↦ get_or_past operations t None (omega (arith, long, more))
]

-- none is taken then
none-taken : (operations : List (Option Operation)) → ((t : ℕ) → get_or operations t None ≡ None) → taken operations ≡ 0
none-taken [] free = refl
none-taken (o ∷ operations) free =
    let here : one_if o ≡ 0 = ap one_if (free 0) in
    let rest = none-taken operations (λ t. free (suc t)) in
    let sums = sum_by-cons one_if o operations in
    omega (arith, here, rest, sums)

module _ (on : Board Blueprint → Type 0) (before : ℕ) (run : Run) (stepped : Blueprint) (next : ℕ) (sound : IsSound on before run stepped next) (free : (t : ℕ) → get_or run.operations t None ≡ None)
    (kept : kept_in run.futures ≡ 0) (looped : Looped) (ready : IsReady run.board looped)
    (same : LeavesSame run.looped.hand.me looped.hand.me) where
  pub ended : HasJoined (knows looped.hand) → IsEnded on looped.hand
  ended joined =
      let none = none-taken run.operations free in
      let made = sound.listed.made in
      let claimed = sound.listed.claimed in
      let now_made = ap (λ (a : Aside). a.made) same.is in
      let now_claimed = ap (λ (a : Aside). a.claimed) same.is in
      let now_released = ap (λ (a : Aside). a.released) same.is in
      let settled = ap (λ (a : Aside). a.making + a.refused) same.is ∙ sound.settled in
      record {
        board = run.board;
        is_on = sound.table.is_on;
        hand_of = ready.hand;
        nothing = record {
          held = ready.rests.held;
          owed = ready.rests.owed;
          reported = ready.rests.reported;
          finished = ready.rests.finished;
          runs = ready.rests.runs;
          scans = ready.rests.scans;
          made = omega (arith, now_made, made, none, kept);
          making = omega (arith, settled);
          refused = omega (arith, settled);
        };
        even = omega (arith, now_claimed, claimed, now_released, none, kept);
        joined = joined;
      }

  -- its hand claimed blocks for the operations that were begun, in a run from which this one came, too
  pub worked-for : (first : Run) → Clears first run → HasWorked first.plan (before + begun_by first) (knows looped.hand).claimed
  worked-for first clears =
      let claims = sound.worked.claims in
      let begun = clears.begun in
      let now_claimed = ap (λ (a : Aside). a.claimed) same.is in
      record {
        spawned = sound.worked.spawned;
        claims = omega (arith, claims, begun, now_claimed);
        unspawned = λ no. sound.worked.unspawned (ap has_ahead clears.plan ∙ no);
      }
