-- The hand and its futures after a spawn, and after one was ended or abandoned.
use Rattle.std.proofs.Common.{◌≡◌, ℕ, ◌+◌, ◌<◌, true, List, length, set, get_or, sym, ap, ◌∙◌, subst, arith}
use Rattle.std.specs.Prelude.{Option, Some, None}
use Rattle.std.proofs.lemmas.Option.{same_Some}
use Rattle.atomic_table.specs.declared.shared.Seat.{Seat}
use Rattle.count_scope.specs.Leaves.{HasAssociation}
use Rattle.life_rules.specs.declared.event.Name.{Name}
use Rattle.plan_shape.specs.Blueprint.{Blueprint}
use Rattle.table_rules.specs.declared.view.View.{View}
use Rattle.table_steps.specs.declared.block.Block.{Block}
use Rattle.table_steps.specs.Seats.{Seated}
use Rattle.table_steps.specs.ScopeEntries.{MayEnter}
use Rattle.table_steps.specs.Views.{Board, IsHandOf}
use Rattle.home_items.specs.declared.entry.Entry.{Entry}
use Rattle.home_items.specs.declared.item.Item.{Item}
use Rattle.home_items.specs.Starts.{IsReceiverStart}
use Rattle.exec_recv.specs.Asides.{Aside, aside_of}
use Rattle.node_walks.specs.Resting.{IsAtRest}
use Rattle.node_walks.specs.declared.completing.Ended.{Ended}
use Rattle.node_walks.specs.Emptied.{WasNotReady}
use Rattle.node_walks.specs.Leaves.{LeavesAside}
use Rattle.node_walks.proofs.Unready.{unready-leaves}
use Rattle.spawn_future.specs.declared.future.Future.{Future}
use Rattle.spawn_future.specs.declared.slots.Found.{Found}
use Rattle.spawn_future.specs.declared.spawning.SpawnFault.{SpawnFault}
use Rattle.spawn_future.specs.declared.spawning.SpawnFault.TheVariants.{Full, Scope, NoBlock}
use Rattle.node_walks.specs.Completes.{EndsRoot}
use Rattle.spawn_future.specs.Keeping.{AreKept, IsKeeping, KeepsOn, Enters, Ends}
use Rattle.spawn_future.specs.Polls.{Abandons}
use Rattle.spawn_future.specs.Slots.{Has, HasBlock, HasRoom, IsFoundAt, IsMarkedAt, is_waited, AreSlots}
use Rattle.spawn_future.specs.Spawns.{IsKeptOut, Refuses}
use Rattle.spawn_future.proofs.Kept.{keeping-same, spawned-kept, ended-kept, marked-kept}
use Rattle.spawn_future.proofs.Slotted.{found-waits, has-within, one-less, marked-slots}

-- what is refused leaves the hand's view beside steps
pub kept-out-same : (board : Board Blueprint) (start : List Entry) (old new : Seat (Option Item) (View Item Entry)) (fault : SpawnFault) →
    IsKeptOut board start old new fault → LeavesAside (aside_of old.me.0) old.me new.me
kept-out-same board start old new (Full back) out = absurd out
kept-out-same board start old new (Scope back cause) out = out.because.same
kept-out-same board start old new (NoBlock back) out = out.because.same

pub kept-out-refuses : (board : Board Blueprint) (start : List Entry) (slots : List (Option Future))
    (old new : Seat (Option Item) (View Item Entry)) (fault : SpawnFault) → HasRoom slots → IsKeptOut board start old new fault →
    Refuses board start slots old new fault
kept-out-refuses board start slots old new (Full back) room out = absurd out
kept-out-refuses board start slots old new (Scope back cause) room out = (room, out)
kept-out-refuses board start slots old new (NoBlock back) room out = (room, out)

module _ (board : Board Blueprint) (slots later : List (Option Future)) (old new : Seat (Option Item) (View Item Entry))
    (keeping : IsKeeping board slots old) (hand_of : IsHandOf board new) (rests : IsAtRest new.me.0) (t : ℕ) (within : t < length slots) (f : Future) where
  pub spawned-keeping : get_or slots t None ≡ None → (start : List Entry) → IsReceiverStart start →
      Enters board f.block start old.me new.me → later ≡ set slots t (Some f) → IsKeeping board later new
  spawned-keeping free start receiver enters is =
      subst (λ (l : List (Option Future)). IsKeeping board l new) (sym is)
      (record {
        hand_of = hand_of;
        first = ap (λ (a : Aside). a.number) enters.leaves.is ∙ keeping.first;
        rests = rests;
        settled = ap (λ (a : Aside). a.making + a.refused) enters.leaves.is ∙ keeping.settled;
        keeps = spawned-kept board slots t within old.me new.me keeping.keeps f free start receiver enters;
      })

  pub ended-keeping : Has slots t f → (b : Block) → f.block ≡ b → (c : Ended) → Ends board b old.me new.me c →
      later ≡ set slots t None → IsKeeping board later new
  ended-keeping has b in_block c ends is =
      let leaves = subst (λ (x : Block). Ends board x old.me new.me c) (sym in_block) ends in
      subst (λ (l : List (Option Future)). IsKeeping board l new) (sym is)
      (record {
        hand_of = hand_of;
        first = ap (λ (a : Aside). a.number) leaves.leaves.is ∙ keeping.first;
        rests = rests;
        settled = ap (λ (a : Aside). a.making + a.refused) leaves.leaves.is ∙ keeping.settled;
        keeps = ended-kept board slots t within old.me new.me keeping.keeps f has leaves.leaves;
      })

-- a root that wasn't ready in the loop leaves all as it was
pub incomplete-keeping : (board : Board Blueprint) (slots : List (Option Future)) (b : Block) (old new : Seat (Option Item) (View Item Entry)) →
    IsKeeping board slots old → IsHandOf board new → IsAtRest new.me.0 → WasNotReady board b old.me new.me → IsKeeping board slots new
incomplete-keeping board slots b old new keeping hand_of rests read =
    keeping-same board slots old new keeping hand_of rests (unready-leaves board b old.me new.me read)

-- the hand has the association of a future whose block it gave back
pub ended-has : (board : Board Blueprint) (slots : List (Option Future)) (t : ℕ) (b : Block) (m m' : Seated Item Entry) (c : Ended) →
    AreKept board slots m → HasBlock slots t b → MayEnter m.0 → EndsRoot board b m m' c → HasAssociation m'.0
ended-has board slots t b m m' c kept has settled did =
    let made = kept.made in
    let less = one-less slots t (has-within slots t has.future has.has) has.future has.has in
    let made_is = ap (λ (a : Aside). a.made) did.leaves.is in
    record {
      settled = ap (λ (a : Aside). a.making + a.refused) did.leaves.is ∙ settled;
      one = omega (arith, made, less, made_is);
    }

-- a future was abandoned
module _ (owner : Name) (old new : List (Option Future)) (found : Found) (at : IsFoundAt owner old found) (marked : IsMarkedAt old new found.slot) where
  pub marked-keeps : KeepsOn old new
  marked-keeps board hand keeping =
      subst (λ (l : List (Option Future)). IsKeeping board l hand) (sym marked.slots)
      (record {
        hand_of = keeping.hand_of;
        first = keeping.first;
        rests = keeping.rests;
        settled = keeping.settled;
        keeps = marked-kept board old found.slot marked.future marked.had hand.me keeping.keeps;
      })

  pub marked-abandons : Abandons owner old new
  marked-abandons =
      let waits = found-waits owner old found at in
      record {
        slot = found.slot;
        marked = marked;
        waited = subst (λ (f : Future). is_waited owner f ≡ true) (same_Some waits.0 marked.future (sym waits.1.has ∙ marked.had))
            waits.1.waited;
      }

  pub marked-are : (kept : ℕ) → AreSlots old kept → AreSlots new kept
  marked-are kept are =
      subst (λ (l : List (Option Future)). AreSlots l kept) (sym marked.slots)
      (marked-slots old kept found.slot are at.within marked.future marked.had)
