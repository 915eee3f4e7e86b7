-- What a run keeps where its futures were served, or its loop helps.
use Rattle.std.proofs.Common.{◌≡◌, ℕ, Bool, true, List, refl, sym, ap, ◌∙◌, subst, arith}
use Rattle.std.specs.Prelude.{Option}
use Rattle.atomic_table.specs.declared.shared.Seat.{Seat}
use Rattle.plan_shape.specs.Blueprint.{Blueprint}
use Rattle.table_rules.specs.declared.view.View.{View}
use Rattle.table_rules.specs.ShownViews.{has_source_ref}
use Rattle.table_steps.specs.declared.block.Block.{Block}
use Rattle.table_steps.specs.Seats.{Seated}
use Rattle.table_steps.specs.Views.{Board}
use Rattle.home_items.specs.declared.entry.Entry.{Entry}
use Rattle.home_items.specs.declared.item.Item.{Item}
use Rattle.exec_recv.specs.Asides.{aside_of}
use Rattle.node_walks.specs.Emptied.{WasNotReady}
use Rattle.run_loop.specs.declared.looped.Loop.{Loop as Looped}
use Rattle.run_loop.specs.declared.loop_mail.LoopMail.{LoopMail}
use Rattle.run_loop.specs.Loops.{HasDelays, IsReady}
use Rattle.spawn_future.specs.declared.future.Future.{Future}
use Rattle.spawn_future.specs.Keeping.{IsKeeping}
use Rattle.record_operations.specs.Calls.{LeavesSame}
use Rattle.record_operations.specs.Moves.{KeepsOperations, ServesAheads}
use Rattle.record_operations.specs.Runs.{Run}
use Rattle.record_operations.specs.Sound.{IsSound}
use Rattle.record_operations.specs.Spawned.{ServesFutures, ServesSpawned}
use Rattle.line_rules.specs.PlanTerms.{has_ahead}
use Rattle.record_operations.proofs.Spawning.{served-noted}
use Rattle.record_operations.proofs.Sounding.{turned-sound, served-sound}

-- a hand that keeps futures after they were served makes the loop ready, whatever names it was told of
pub served-ready : (board : Board Blueprint) (old new : Looped) (futures : List (Option Future)) → IsReady board old → IsKeeping board futures new.hand →
    new.next ≡ old.next → HasDelays board new.delays new.delay_nodes.items → IsReady board new
served-ready board old new futures ready keeping next delays =
    record {
      hand = keeping.hand_of;
      first = keeping.first;
      rests = keeping.rests;
      next = let before = ready.next in omega (arith, next, before);
      delays = delays;
    }

-- where nothing was collected a word was looked at
pub looked-same : (board : Board Blueprint) (b : Block) (m m' : Seated Item Entry) → WasNotReady board b m m' → LeavesSame m m'
looked-same board b m m' read =
    record {
      is = ap (λ (z : Seated Item Entry). aside_of z.0) read.is;
      sees = λ source seen. ap (λ (z : Seated Item Entry). has_source_ref z.0.seen source) read.is ∙ seen;
    }

-- and all operations are as they were
served-keeps : (on : Board Blueprint → Type 0) (before : ℕ) (run : Run) (stepped : Blueprint) (next : ℕ) → IsSound on before run stepped next → (looped : Looped)
    (futures : List (Option Future)) → looped.tally ≡ run.looped.tally → ServesSpawned run.board run.futures futures run.looped.hand.me looped.hand.me →
    KeepsOperations run (record run { looped = looped; futures = futures })
served-keeps on before run stepped next sound looped futures tally serves = record {
  board = refl;
  plan = refl;
  operations = refl;
  requested = refl;
  tally = tally;
  noted = served-noted run.board run.plan run.operations run.futures futures run.looped.hand.me looped.hand.me sound.listed sound.spawned serves;
}

-- so the run is sound, once the loop was told of names
module _ (on : Board Blueprint → Type 0) (before : ℕ) (run : Run) (stepped : Blueprint) (next : ℕ) (sound : IsSound on before run stepped next)
    (hand : Seat (Option Item) (View Item Entry)) (names : LoopMail) (looped : Looped) (is : looped ≡ record run.looped { hand = hand; names = names })
    (futures : List (Option Future)) (serves : ServesSpawned run.board run.futures futures run.looped.hand.me hand.me) where
  abbrev told : Looped
  told = record run.looped { hand = hand; names = names }

  pub told-sound : has_ahead run.plan ≡ true → IsKeeping run.board futures hand → IsSound on before (record run { looped = looped; futures = futures }) stepped next
  told-sound ahead keeping =
      subst (λ (l : Looped). IsSound on before (record run { looped = l; futures = futures }) stepped next) (sym is)
      (served-sound on before run stepped next sound told (served-ready run.board run.looped told futures sound.ready keeping refl sound.ready.delays) futures
      ahead refl keeping serves)

  pub told-keeps : KeepsOperations run (record run { looped = looped; futures = futures })
  told-keeps =
      subst (λ (l : Looped). KeepsOperations run (record run { looped = l; futures = futures })) (sym is)
      (served-keeps on before run stepped next sound told futures refl serves)

-- and its futures were served
pub told-serves : (run : Run) (hand : Seat (Option Item) (View Item Entry)) (names : LoopMail) (looped : Looped) →
    looped ≡ record run.looped { hand = hand; names = names } → (futures : List (Option Future)) →
    ServesFutures run.board run.plan run.futures futures run.looped.hand hand → ServesAheads run (record run { looped = looped; futures = futures })
told-serves run hand names looped is futures serves =
    subst (λ (l : Looped). ServesAheads run (record run { looped = l; futures = futures })) (sym is) (λ ahead. serves)

-- what a run's hand keeps
pub sound-keeping : (on : Board Blueprint → Type 0) (before : ℕ) (run : Run) (stepped : Blueprint) (next : ℕ) → IsSound on before run stepped next →
    IsKeeping run.board run.futures run.looped.hand
sound-keeping on before run stepped next sound = record {
  hand_of = sound.ready.hand;
  first = sound.ready.first;
  rests = sound.ready.rests;
  settled = sound.settled;
  keeps = sound.spawned.kept;
}

-- a loop that helps the pool, or no more
pub helped-sound : (on : Board Blueprint → Type 0) (before : ℕ) (run : Run) (stepped : Blueprint) (next : ℕ) (helps : Bool) → IsSound on before run stepped next →
    IsSound on before (record run { looped = record run.looped { helps = helps } }) stepped next
helped-sound on before run stepped next helps sound =
    turned-sound on before run stepped next sound (record run.looped { helps = helps })
    (record {
      hand = sound.ready.hand;
      first = sound.ready.first;
      rests = sound.ready.rests;
      next = sound.ready.next;
      delays = sound.ready.delays;
    })
    refl (record { is = refl; sees = λ source seen. seen })
