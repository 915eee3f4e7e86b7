-- A run that has started one operation more, and one that has collected one.
use Rattle.std.proofs.Common.{◌≡◌, ℕ, ◌+◌, ◌-◌, ◌<◌, Bool, true, List, [], ◌∷◌, length, set, get_or, refl, sym, ap, ◌∙◌, subst, arith}
use Rattle.std.specs.Prelude.{Option, Some, None, is_none}
use Rattle.std.specs.Option.{option_map}
use Rattle.std.proofs.lemmas.Option.{same_Some}
use Rattle.atomic_table.specs.declared.shared.Seat.{Seat}
use Rattle.exec_value.specs.declared.data.Datum.{Datum}
use Rattle.count_scope.specs.Leaves.{disassociated, Leaves}
use Rattle.plan_shape.specs.Blueprint.{Blueprint}
use Rattle.record_loop.specs.Works.{BeginsTicket, CollectsTicket}
use Rattle.table_rules.specs.declared.view.View.{View}
use Rattle.table_steps.specs.declared.block.Block.{Block}
use Rattle.table_steps.specs.Views.{Board, IsHandOf, knows}
use Rattle.home_items.specs.declared.entry.Entry.{Entry}
use Rattle.home_items.specs.declared.item.Item.{Item}
use Rattle.home_items.specs.Entries.{record_start}
use Rattle.exec_recv.specs.Asides.{Aside, aside_of}
use Rattle.node_walks.specs.declared.completing.Collected.{Collected}
use Rattle.run_loop.specs.declared.looped.Loop.{Loop as Looped}
use Rattle.node_walks.specs.Completes.{IsListed}
use Rattle.run_loop.specs.Collects.{Collects as CollectsBlock}
use Rattle.run_loop.specs.Loops.{IsReady}
use Rattle.record_operations.specs.declared.tickets.Operation.{Operation}
use Rattle.record_operations.specs.Calls.{with_left, LeavesWith, EntersOperation}
use Rattle.record_operations.specs.Moves.{LeavesRun}
use Rattle.record_operations.specs.Runs.{Run, WantsMemory, root_of, work_of}
use Rattle.record_operations.specs.Sound.{Has, IsOfRecord, IsSound}
use Rattle.record_operations.proofs.Moved.{Moves, left-moves, moved-aside, moved-ready, moved-sees}
use Rattle.record_operations.proofs.Sounding.{entered-sound, left-sound}
use Rattle.record_operations.proofs.Starting.{starts-receiver}
use Rattle.record_operations.proofs.Worked.{begins-work, collects-work}

-- an operation was started for a record, under a ticket that was free
pub record HasEntered (run : Run) (t : ℕ) (number : ℕ) (datum : Datum) : Type 0 where
  pub within : t < length run.operations
  pub free : get_or run.operations t None ≡ None
  pub o : Operation
  pub looped : Looped
  pub ready : IsReady run.board looped
  pub tally : looped.tally ≡ run.looped.tally
  pub enters : EntersOperation run.board o (record_start run.plan (datum ∷ []) number run.requested) run.looped.hand.me looped.hand.me
  pub operations : List (Option Operation)
  pub items : operations ≡ set run.operations t (Some o)

abbrev pub entered-by : (run : Run) (t number : ℕ) (datum : Datum) → t < length run.operations → get_or run.operations t None ≡ None →
    (o : Operation) (looped : Looped) → IsReady run.board looped → looped.tally ≡ run.looped.tally → (env : List Entry) →
    env ≡ record_start run.plan (datum ∷ []) number run.requested → EntersOperation run.board o env run.looped.hand.me looped.hand.me →
    (operations : List (Option Operation)) → operations ≡ set run.operations t (Some o) → HasEntered run t number datum
entered-by run t number datum within free o looped ready tally env is enters operations items =
    record {
      within = within;
      free = free;
      o = o;
      looped = looped;
      ready = ready;
      tally = tally;
      enters = subst (λ (start : List Entry). EntersOperation run.board o start run.looped.hand.me looped.hand.me) is enters;
      operations = operations;
      items = items;
    }

module _ (on : Board Blueprint → Type 0) (before : ℕ) (run : Run) (stepped : Blueprint) (next : ℕ) (sound : IsSound on before run stepped next) (t number : ℕ)
    (datum : Datum) (did : HasEntered run t number datum) where
  abbrev grown : List (Option Operation) → Run
  grown operations = record run { looped = did.looped; operations = operations }

  pub has-entered-sound : (later : ℕ) → later < length run.operations → IsSound on before (grown did.operations) stepped later
  has-entered-sound later inside =
      subst (λ (l : List (Option Operation)). IsSound on before (grown l) stepped later) (sym did.items)
      (entered-sound on before run stepped next sound did.looped did.ready t did.within did.o did.free number datum run.requested did.tally did.enters later
      inside)

  pub has-entered-begins : BeginsTicket (work_of run) (work_of (grown did.operations)) number datum t
  has-entered-begins =
      subst (λ (l : List (Option Operation)). BeginsTicket (work_of run) (work_of (grown l)) number datum t) (sym did.items)
      (begins-work run sound.listed t did.within did.looped did.o did.free number datum did.enters did.tally)

-- a ticket that was found to be free
free-is : (found : Option Operation) (answer : Bool) → answer ≡ is_none found → answer ≡ true → found ≡ None
free-is None answer is so = refl
free-is (Some o) answer is so = absurd (let not_so = sym is ∙ so in cc)

pub shown-free : (lent operations : List (Option Operation)) (t : ℕ) (answer : Bool) → lent ≡ operations → answer ≡ is_none (get_or lent t None) →
    answer ≡ true → get_or operations t None ≡ None
shown-free lent operations t answer same is so =
    free-is (get_or operations t None) answer (is ∙ ap (λ (l : List (Option Operation)). is_none (get_or l t None)) same) so

-- the start that an environment shows
pub shown-start : (plan : Blueprint) (env : List Entry) (args : List Datum) (number : ℕ) (datum : Datum) (asked : Bool) →
    env ≡ record_start plan args number asked → args ≡ datum ∷ [] → env ≡ record_start plan (datum ∷ []) number asked
shown-start plan env args number datum asked is one = is ∙ ap (λ (l : List Datum). record_start plan l number asked) one

-- the block that was found under a ticket
pub shown-block : (lent operations : List (Option Operation)) (t : ℕ) (answer : Option Block) (b : Block) → lent ≡ operations →
    answer ≡ option_map (λ (p : Operation). p.block) (get_or lent t None) → answer ≡ Some b →
    Some b ≡ option_map (λ (p : Operation). p.block) (get_or operations t None)
shown-block lent operations t answer b same is found =
    sym found ∙ is ∙ ap (λ (l : List (Option Operation)). option_map (λ (p : Operation). p.block) (get_or l t None)) same

-- the block of an operation
pub block-operation : (found : Option Operation) (o : Operation) (b : Block) → found ≡ Some o →
    Some b ≡ option_map (λ (p : Operation). p.block) found → o.block ≡ b
block-operation found o b has is =
    same_Some o.block b (sym (ap (option_map (λ (p : Operation). p.block)) has) ∙ sym is)

-- is one of an operation that the hand has listed
pub block-listed : (on : Board Blueprint → Type 0) (before : ℕ) (run : Run) (stepped : Blueprint) (next : ℕ) → IsSound on before run stepped next → (t : ℕ) (b : Block) →
    Some b ≡ option_map (λ (p : Operation). p.block) (get_or run.operations t None) → IsListed run.board b run.looped.hand.me
block-listed on before run stepped next sound t b is = at (get_or run.operations t None) refl is
  where
    at : (found : Option Operation) → get_or run.operations t None ≡ found → Some b ≡ option_map (λ (p : Operation). p.block) found →
        IsListed run.board b run.looped.hand.me
    at None has none = absurd (let gone = none in cc)
    at (Some o) has some =
        let of : IsOfRecord run.board run.plan (knows run.looped.hand).noted o = sound.listed.each t o has in
        subst (λ (x : Block). IsListed run.board x run.looped.hand.me) (block-operation (Some o) o b refl some)
        (record {
          within = of.within;
          start = record_start run.plan (of.datum ∷ []) of.number of.asked;
          noted = of.start;
          receiver = starts-receiver run.plan sound.table.over.is_plan of.datum of.number of.asked;
        })

-- the operation of a ticket was collected, and then its association was left
pub record HasLeft (run : Run) (t : ℕ) (c : Collected) : Type 0 where
  pub within : t < length run.operations
  pub o : Operation
  pub has : Has run.operations t o
  pub between : Looped
  pub ready : IsReady run.board between
  pub did : CollectsBlock run.board o.block run.looped between c
  pub hand : Seat (Option Item) (View Item Entry)
  pub hand_of : IsHandOf run.board hand
  pub moved : Moves ((knows between.hand).made - 1) (knows between.hand) (knows hand)
  pub operations : List (Option Operation)
  pub items : operations ≡ set run.operations t None

abbrev pub left-by : (run : Run) (t : ℕ) (c : Collected) → t < length run.operations → (o : Operation) → Has run.operations t o → (b : Block) →
    Some b ≡ option_map (λ (p : Operation). p.block) (get_or run.operations t None) → (between : Looped) → IsReady run.board between →
    CollectsBlock run.board b run.looped between c → (hand : Seat (Option Item) (View Item Entry)) → IsHandOf run.board hand →
    Leaves (disassociated between.hand.me) hand.me → (operations : List (Option Operation)) → operations ≡ set run.operations t None →
    HasLeft run t c
left-by run t c within o has b is between ready did hand hand_of leaves operations items =
    record {
      within = within;
      o = o;
      has = has;
      between = between;
      ready = ready;
      did = subst (λ (x : Block). CollectsBlock run.board x run.looped between c)
          (sym (block-operation (get_or run.operations t None) o b has is)) did;
      hand = hand;
      hand_of = hand_of;
      moved = left-moves between.hand.me hand.me leaves;
      operations = operations;
      items = items;
    }

module _ (on : Board Blueprint → Type 0) (before : ℕ) (run : Run) (stepped : Blueprint) (next : ℕ) (sound : IsSound on before run stepped next) (t : ℕ) (c : Collected)
    (left : HasLeft run t c) where
  abbrev looped : Looped
  looped = record left.between { hand = left.hand }

  abbrev shrunk : List (Option Operation) → Run
  shrunk operations = record run { looped = looped; operations = operations }

  abbrev made : ℕ
  made = (knows left.between.hand).made - 1

  leaves : LeavesWith (with_left (root_of run.board left.o) (aside_of (knows run.looped.hand))) run.looped.hand.me left.hand.me
  leaves =
      record {
        is = moved-aside made (knows left.between.hand) (knows left.hand) left.moved
            ∙ ap (λ (a : Aside). record a { made = a.made - 1 }) left.did.leaves.is;
        sees = λ source seen.
            moved-sees made (knows left.between.hand) (knows left.hand) left.moved source (left.did.leaves.sees source seen);
      }

  -- the tally has one more
  tallied : length looped.tally ≡ length run.looped.tally + 1
  tallied = let more = ap length left.did.tally in omega (arith, more)

  pub has-left-sound : IsSound on before (shrunk left.operations) stepped next
  has-left-sound =
      subst (λ (l : List (Option Operation)). IsSound on before (shrunk l) stepped next) (sym left.items)
      (left-sound on before run stepped next sound looped (moved-ready run.board made left.between looped left.ready refl left.ready.delays left.hand_of left.moved)
      t left.within left.o left.has tallied leaves)

  collects : CollectsTicket WantsMemory (work_of run) (work_of (shrunk left.operations)) t c.completion
  collects =
      subst (λ (l : List (Option Operation)). CollectsTicket WantsMemory (work_of run) (work_of (shrunk l)) t c.completion) (sym left.items)
      (collects-work run sound.listed t left.within looped left.o left.has leaves c sound.asked.made left.did.is_for sound.table.over.over left.did.tally)

  pub has-left-run : LeavesRun run (shrunk left.operations) t c.completion
  has-left-run = record { board = refl; operations = left.items; tally = tallied; collects = collects }
