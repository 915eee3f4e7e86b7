-- What a run knows of a ticket's operation that it looked at, or collected.
use Rattle.std.proofs.Common.{◌≡◌, ℕ, ◌+◌, ◌<◌, length, get_or, refl, sym, ap, ◌∙◌, subst, arith}
use Rattle.std.specs.Prelude.{Option, Some, None}
use Rattle.std.specs.Option.{option_map}
use Rattle.count_scope.specs.Leaves.{HasAssociation}
use Rattle.plan_shape.specs.Blueprint.{Blueprint}
use Rattle.table_steps.specs.declared.block.Block.{Block}
use Rattle.table_steps.specs.Views.{Board, knows}
use Rattle.exec_recv.specs.Asides.{Aside}
use Rattle.node_walks.specs.declared.completing.Collected.{Collected}
use Rattle.node_walks.specs.Emptied.{WasNotReady}
use Rattle.run_loop.specs.declared.looped.Loop.{Loop as Looped}
use Rattle.run_loop.specs.Collects.{Collects as CollectsBlock}
use Rattle.record_operations.specs.declared.tickets.Operation.{Operation}
use Rattle.record_operations.specs.Moves.{KeepsRun, TicketWasIncomplete}
use Rattle.record_operations.specs.Runs.{Run}
use Rattle.record_operations.specs.Sound.{Has, IsSound}
use Rattle.record_operations.proofs.Changed.{block-operation}
use Rattle.record_operations.proofs.Listed.{one-less}
use Rattle.record_operations.proofs.ServedSounding.{looked-same}

-- it was collected, and its association isn't left yet
pub collected-has : (on : Board Blueprint → Type 0) (before : ℕ) (run : Run) (stepped : Blueprint) (next : ℕ) → IsSound on before run stepped next →
    (t : ℕ) → t < length run.operations → (o : Operation) → Has run.operations t o → (b : Block) (between : Looped) (c : Collected) →
    CollectsBlock run.board b run.looped between c → HasAssociation (knows between.hand)
collected-has on before run stepped next sound t within o has b between c did =
    let made = ap (λ (a : Aside). a.made) did.leaves.is in
    let listed = sound.listed.made in
    let less = one-less run.operations t within o has in
    record {
      settled = ap (λ (a : Aside). a.making + a.refused) did.leaves.is ∙ sound.settled;
      one = omega (arith, made, listed, less);
    }

-- its root's word was read, and nothing was collected
module _ (run : Run) (t : ℕ) (b : Block) (looped : Looped) (read : WasNotReady run.board b run.looped.hand.me looped.hand.me) where
  pub incomplete : Some b ≡ option_map (λ (p : Operation). p.block) (get_or run.operations t None) →
      TicketWasIncomplete run (record run { looped = looped }) t
  incomplete is = at (get_or run.operations t None) refl is
    where
      at : (found : Option Operation) → get_or run.operations t None ≡ found → Some b ≡ option_map (λ (p : Operation). p.block) found →
          TicketWasIncomplete run (record run { looped = looped }) t
      at None has none = absurd (let gone = none in cc)
      at (Some o) has some =
          record {
            operation = o;
            has = has;
            read = subst (λ (x : Block). WasNotReady run.board x run.looped.hand.me looped.hand.me) (sym (block-operation (Some o) o b refl some)) read;
          }

  pub looked-keeps : looped.tally ≡ run.looped.tally → KeepsRun run (record run { looped = looped })
  looked-keeps tally =
      record {
        board = refl;
        plan = refl;
        operations = refl;
        requested = refl;
        tally = tally;
        noted = ap (λ (a : Aside). a.noted) (looked-same run.board b run.looped.hand.me looped.hand.me read).is;
      }
