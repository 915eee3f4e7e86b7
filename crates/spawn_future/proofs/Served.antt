-- The hand and its futures while an `ahead` is served.
use Rattle.std.proofs.Common.{ℕ, ◌+◌, Bool, true, false, List, inl, inr, sym, ap, ◌∙◌, subst}
use Rattle.std.specs.Bool.{OnTrue, OnFalse}
use Rattle.std.specs.Prelude.{◌⊎◌, Option}
use Rattle.atomic_table.specs.declared.shared.Seat.{Seat}
use Rattle.life_rules.specs.declared.event.Name.{Name}
use Rattle.plan_shape.specs.Blueprint.{Blueprint}
use Rattle.table_rules.specs.declared.view.View.{View}
use Rattle.table_steps.specs.declared.block.Block.{Block}
use Rattle.table_steps.specs.Seats.{Seated}
use Rattle.table_steps.specs.Views.{Board, IsHandOf}
use Rattle.home_items.specs.declared.entry.Entry.{Entry}
use Rattle.home_items.specs.declared.item.Item.{Item}
use Rattle.exec_recv.specs.Asides.{Aside, aside_of, KeepsAside}
use Rattle.exec_recv.specs.Seats.{HandSeat}
use Rattle.exec_recv.proofs.Asiding.{aside-here, aside-on}
use Rattle.op_slot.proofs.Staying.{stays-on}
use Rattle.node_walks.specs.Resting.{IsAtRest}
use Rattle.node_walks.specs.declared.completing.Ended.{Ended}
use Rattle.node_walks.specs.Completes.{MayCollect}
use Rattle.node_walks.specs.Leaves.{LeavesAside}
use Rattle.serve_ahead.specs.declared.taking.AheadAt.{AheadAt}
use Rattle.serve_ahead.specs.declared.taking.Served.{Served}
use Rattle.serve_ahead.specs.Ends.{RestsAfter}
use Rattle.serve_ahead.specs.Spawned.{IsOperation}
use Rattle.serve_ahead.specs.Takes.{TakesAhead}
use Rattle.spawn_future.specs.declared.future.Future.{Future}
use Rattle.spawn_future.specs.declared.spawning.SpawnFault.{SpawnFault}
use Rattle.spawn_future.specs.declared.spawning.SpawnFault.TheVariants.{Full, Scope, NoBlock}
use Rattle.spawn_future.specs.Counts.{BeginsAndEnds}
use Rattle.spawn_future.specs.Keeping.{block_root, AreKept, IsKeeping, KeepsAtHand, Ends}
use Rattle.spawn_future.specs.Polls.{Abandons, AbandonsNone, EndsSlotAt}
use Rattle.spawn_future.specs.Slots.{HasBlock}
use Rattle.spawn_future.specs.Spawns.{Spawns, Refuses}
use Rattle.spawn_future.proofs.Counted.{counts-same, counts-begun, counts-ended, counts-marked}
use Rattle.spawn_future.proofs.Kept.{kept-same, keeping-same, block-listed, marked-kept}
use Rattle.spawn_future.proofs.Slotted.{has-within}
use Rattle.spawn_future.proofs.Spawned.{kept-out-same}

-- what a call leaves beside nodes and starts, as a change of nothing
pub aside-leaves : (m m' : Seated Item Entry) → KeepsAside m m' → LeavesAside (aside_of m.0) m m'
aside-leaves m m' keeps = record { is = keeps.same; fresh = keeps.fresh; grown = keeps.grown; sees = keeps.sees }

pub leaves-aside : (m m' : Seated Item Entry) → LeavesAside (aside_of m.0) m m' → KeepsAside m m'
leaves-aside m m' leaves = record { same = leaves.is; fresh = leaves.fresh; grown = leaves.grown; sees = leaves.sees }

module _ (board : Board Blueprint) (slots : List (Option Future)) (old new : Seat (Option Item) (View Item Entry)) where
  -- a hand at rest, before and after calls that leave the rest
  pub keeping-on : IsKeeping board slots old → IsHandOf board new → IsAtRest new.me.0 → KeepsAside old.me new.me → IsKeeping board slots new
  keeping-on keeping hand_of rests keeps =
      keeping-same board slots old new keeping hand_of rests (aside-leaves old.me new.me keeps)

  -- when it took a node
  pub keeping-holds : IsKeeping board slots old → IsHandOf board new → KeepsAside old.me new.me → KeepsAtHand board slots new
  keeping-holds keeping hand_of keeps = record {
    hand_of = hand_of;
    first = ap (λ (a : Aside). a.number) keeps.same ∙ keeping.first;
    settled = ap (λ (a : Aside). a.making + a.refused) keeps.same ∙ keeping.settled;
    keeps = kept-same board slots old.me new.me keeping.keeps keeps.same;
  }

  -- and when it has let it go
  pub holds-keeping : KeepsAtHand board slots old → IsHandOf board new → IsAtRest new.me.0 → KeepsAside old.me new.me → IsKeeping board slots new
  holds-keeping holds hand_of rests keeps = record {
    hand_of = hand_of;
    first = ap (λ (a : Aside). a.number) keeps.same ∙ holds.first;
    rests = rests;
    settled = ap (λ (a : Aside). a.making + a.refused) keeps.same ∙ holds.settled;
    keeps = kept-same board slots old.me new.me holds.keeps keeps.same;
  }

-- an `ahead` was taken, and then the hand went on until it was at rest
module _ (board : Board Blueprint) (at : AheadAt) (served : Served) (old held : HandSeat) where
  pub took-rests : (new : HandSeat) → TakesAhead board at old held served → RestsAfter board served.taken.from new → RestsAfter board old new
  took-rests new took after =
      record {
        stays = stays-on board old served.taken.from new took.stays after.stays;
        rests = after.rests;
        aside = aside-on old.me served.taken.from.me new.me took.before after.aside;
      }

pub taken-keeping : (board : Board Blueprint) (slots : List (Option Future)) (at : AheadAt) (served : Served) (old held : HandSeat) →
    IsKeeping board slots old → TakesAhead board at old held served → KeepsAtHand board slots served.taken.from
taken-keeping board slots at served old held keeping took = keeping-holds board slots old served.taken.from keeping took.stays.hand took.before

-- an operation that was ended is one over the table's plan
pub ended-operation : (board : Board Blueprint) (slots : List (Option Future)) (t : ℕ) (b : Block) (m m' : Seated Item Entry) (ended : Ended) →
    AreKept board slots m → HasBlock slots t b → Ends board b m m' ended → IsOperation board ended
ended-operation board slots t b m m' ended kept has ends =
    let listed = block-listed board slots t b m kept has in
    record {
      receiver = ends.completes.receiver;
      key = ends.completes.key;
      may = subst (λ (s : List Entry). MayCollect s ended.collected.saw ended.collected.completion)
          (sym (ends.completes.shows (record { name = block_root board b; start = listed.start }) listed.noted))
          (ends.completes.is_for (record { name = block_root board b; start = listed.start }) listed.noted).may;
    }

-- one was abandoned, or none
module _ (board : Board Blueprint) (owner : Name) (old new : List (Option Future)) (m : Seated Item Entry) where
  pub abandoned-kept : Abandons owner old new → AreKept board old m → AreKept board new m
  abandoned-kept did kept =
      subst (λ (l : List (Option Future)). AreKept board l m) (sym did.marked.slots)
      (marked-kept board old did.slot did.marked.future did.marked.had m kept)

  pub abandoned-counts : Abandons owner old new → BeginsAndEnds board old new m m
  abandoned-counts did = counts-marked board old new did.slot m did.marked

-- by the answer
pub abandons-either : (owner : Name) (old new : List (Option Future)) (answer : Bool) → OnTrue answer (Abandons owner old new) →
    OnFalse answer (AbandonsNone owner old new) → Abandons owner old new ⊎ AbandonsNone owner old new
abandons-either owner old new true did _ = inl did
abandons-either owner old new false _ none = inr none

pub either-kept : (board : Board Blueprint) (owner : Name) (old new : List (Option Future)) (m : Seated Item Entry) →
    Abandons owner old new ⊎ AbandonsNone owner old new → AreKept board old m → AreKept board new m
either-kept board owner old new m (inl did) kept = abandoned-kept board owner old new m did kept
either-kept board owner old new m (inr none) kept = subst (λ (l : List (Option Future)). AreKept board l m) (sym none.slots) kept

pub either-counts : (board : Board Blueprint) (owner : Name) (old new : List (Option Future)) (m : Seated Item Entry) →
    Abandons owner old new ⊎ AbandonsNone owner old new → BeginsAndEnds board old new m m
either-counts board owner old new m (inl did) = abandoned-counts board owner old new m did
either-counts board owner old new m (inr none) =
    subst (λ (l : List (Option Future)). BeginsAndEnds board old l m m) (sym none.slots) (counts-same board old m m (aside-here m))

-- how a spawn counts
pub spawned-counts : (board : Board Blueprint) (owner : Name) (start : List Entry) (old new : List (Option Future))
    (hand hand' : Seat (Option Item) (View Item Entry)) → IsKeeping board old hand → Spawns board owner start old new hand hand' →
    BeginsAndEnds board old new hand.me hand'.me
spawned-counts board owner start old new hand hand' keeping did =
    subst (λ (l : List (Option Future)). BeginsAndEnds board old l hand.me hand'.me) (sym did.slots)
    (counts-begun board old did.slot did.free.within hand.me hand'.me keeping.keeps did.future did.free.none start did.enters)

-- one that was refused leaves all beside
pub refused-keeps : (board : Board Blueprint) (start : List Entry) (slots : List (Option Future))
    (hand hand' : Seat (Option Item) (View Item Entry)) (fault : SpawnFault) → Refuses board start slots hand hand' fault →
    KeepsAside hand.me hand'.me
refused-keeps board start slots hand hand' (Full back) did =
    subst (λ (h : Seat (Option Item) (View Item Entry)). KeepsAside hand.me h.me) (sym did.because.1) (aside-here hand.me)
refused-keeps board start slots hand hand' (Scope back cause) did =
    leaves-aside hand.me hand'.me (kept-out-same board start hand hand' (Scope back cause) did.1)
refused-keeps board start slots hand hand' (NoBlock back) did =
    leaves-aside hand.me hand'.me (kept-out-same board start hand hand' (NoBlock back) did.1)

-- how an end counts
pub ended-counts : (board : Board Blueprint) (t : ℕ) (b : Block) (old new : List (Option Future)) (m m' : Seated Item Entry) (ended : Ended) →
    AreKept board old m → HasBlock old t b → EndsSlotAt board t b old new m m' ended → BeginsAndEnds board old new m m'
ended-counts board t b old new m m' ended kept has did =
    subst (λ (l : List (Option Future)). BeginsAndEnds board old l m m') (sym did.slots)
    (counts-ended board old t (has-within old t has.future has.has) m m' kept has.future has.has ended
    (subst (λ (x : Block). Ends board x m m' ended) (sym has.block_is) did.ends))
