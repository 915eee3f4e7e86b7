-- What a run keeps through its calls.
use Rattle.std.proofs.Common.{◌≡◌, ℕ, ◌+◌, ◌*◌, ◌<◌, ◌≤◌, ◌^◌, Bool, true, false, List, [], ◌∷◌, length, set, get_or, cond, refl, sym, ap, ◌∙◌, subst, arith}
use Rattle.std.specs.Prelude.{Option, Some, None, is_some, replicate}
use Rattle.std.proofs.lemmas.List.{length-set, length-replicate}
use Rattle.std.proofs.lemmas.List.Folds.{sum_by-replicate}
use Rattle.common_lemmas.proofs.Lists.{get_or-replicate_same}
use Rattle.exec_value.specs.declared.data.Datum.{Datum}
use Rattle.life_rules.specs.declared.event.SourceRef.TheVariants.{Scope}
use Rattle.plan_kinds.specs.Runnable.{IsRunnable}
use Rattle.plan_shape.specs.Blueprint.{Blueprint}
use Rattle.table_rules.specs.declared.view.Rooted.{Rooted}
use Rattle.table_rules.specs.Named.{find_by}
use Rattle.table_steps.specs.Views.{Board, IsHandOf, knows}
use Rattle.home_items.specs.declared.entry.Entry.{Entry}
use Rattle.home_items.specs.Entries.{record_start}
use Rattle.exec_recv.specs.Asides.{Aside, aside_of}
use Rattle.exec_recv.specs.Over.{IsOver}
use Rattle.node_walks.specs.Resting.{IsAtRest}
use Rattle.run_loop.specs.declared.looped.Loop.{Loop as Looped}
use Rattle.run_loop.specs.Loops.{HasDelays, IsReady}
use Rattle.spawn_future.specs.declared.future.Future.{Future}
use Rattle.spawn_future.specs.Keeping.{IsKeeping}
use Rattle.spawn_future.specs.Opened.{IsOpened as AreOpened}
use Rattle.spawn_future.specs.Slots.{kept_in}
use Rattle.record_operations.specs.declared.tickets.Operation.{Operation}
use Rattle.record_operations.specs.Calls.{with_entered, with_left, LeavesWith, LeavesSame, EntersOperation, RequestsStop}
use Rattle.record_operations.specs.Opened.{IsUnusedHand}
use Rattle.record_operations.specs.Runs.{Run, run_of, root_of, taken}
use Rattle.record_operations.specs.Sound.{Has, AreListed, AreSpawned, HasTickets, IsSound}
use Rattle.record_operations.specs.Spawned.{ServesSpawned}
use Rattle.line_rules.specs.PlanTerms.{has_ahead}
use Rattle.record_operations.specs.Worked.{HasWorked}
use Rattle.record_operations.proofs.Listed.{one-more, one-less, entered-listed, left-listed}
use Rattle.record_operations.proofs.Spawning.{same-spawned, asked-spawned, entered-spawned, left-spawned, served-listed, served-spawned}

module _ (on : Board Blueprint → Type 0) (before : ℕ) (run : Run) (stepped : Blueprint) (next : ℕ) (sound : IsSound on before run stepped next) (looped : Looped) (ready : IsReady run.board looped) where
  abbrev aside : Aside
  aside = aside_of (knows run.looped.hand)

  -- where the hand knows of the same requests, of the same associations in the making, and of these operations
  module _ (now : Aside) (same : LeavesWith now run.looped.hand.me looped.hand.me) (requests : now.requested ≡ aside.requested)
      (settled : now.making + now.refused ≡ aside.making + aside.refused) where
    pub moved-sound : (operations : List (Option Operation)) (later : ℕ) → AreListed run.board run.plan now operations (kept_in run.futures) →
        HasWorked run.plan (before + (length looped.tally + taken operations)) (knows looped.hand).claimed →
        AreSpawned run.board operations run.futures looped.hand.me → HasTickets (length operations) later → IsSound on before (record run { looped = looped; operations = operations }) stepped later
    moved-sound operations later listed worked spawned tickets =
        record {
          table = record {
            is_on = sound.table.is_on;
            over = sound.table.over;
            kinds = sound.table.kinds;
            stepped_is = sound.table.stepped_is;
            scope = sound.table.scope;
          };
          tickets = tickets;
          ready = ready;
          settled = ap (λ (a : Aside). a.making + a.refused) same.is ∙ settled ∙ sound.settled;
          listed = subst (λ (a : Aside). AreListed run.board run.plan a operations (kept_in run.futures)) (sym same.is) listed;
          worked = worked;
          spawned = spawned;
          asked = record {
            seen = λ asked. same.sees Scope (sound.asked.seen asked);
            made = λ made. sound.asked.made (sym (ap (λ (a : Aside). a.requested) same.is ∙ requests) ∙ made);
          };
        }

  -- where so many blocks more were claimed for as many operations more, collected ones among them
  works-on : (more : ℕ) (operations : List (Option Operation)) → (knows looped.hand).claimed ≡ aside.claimed + more →
      length looped.tally + taken operations ≡ length run.looped.tally + taken run.operations + more →
      HasWorked run.plan (before + (length looped.tally + taken operations)) (knows looped.hand).claimed
  works-on more operations claimed counted =
      let claims = sound.worked.claims in
      record {
        spawned = sound.worked.spawned;
        claims = omega (arith, claims, claimed, counted);
        unspawned = sound.worked.unspawned;
      }

  pub turned-sound : looped.tally ≡ run.looped.tally → LeavesSame run.looped.hand.me looped.hand.me →
      IsSound on before (record run { looped = looped }) stepped next
  turned-sound tally same =
      let claimed = ap (λ (a : Aside). a.claimed) same.is in
      let count = ap length tally in
      moved-sound aside same refl refl run.operations next sound.listed
      (works-on 0 run.operations (omega (arith, claimed)) (omega (arith, count)))
      (same-spawned run.board run.operations run.futures run.looped.hand.me looped.hand.me sound.spawned same.is) sound.tickets

  module _ (t : ℕ) (within : t < length run.operations) where
    pub entered-sound : (o : Operation) → get_or run.operations t None ≡ None → (number : ℕ) (datum : Datum) (asked : Bool) →
        looped.tally ≡ run.looped.tally → EntersOperation run.board o (record_start run.plan (datum ∷ []) number asked) run.looped.hand.me looped.hand.me →
        (later : ℕ) → later < length run.operations →
        IsSound on before (record run { looped = looped; operations = set run.operations t (Some o) }) stepped later
    entered-sound o free number datum asked tally enters later inside =
        let few = sound.tickets.few in
        let claimed = ap (λ (a : Aside). a.claimed) enters.leaves.is in
        let total = ap length tally in
        let more = one-more run.operations t within o free in
        let count : length (set run.operations t (Some o)) ≡ length run.operations = length-set run.operations t (Some o) in
        moved-sound (with_entered (root_of run.board o) (record_start run.plan (datum ∷ []) number asked) aside) enters.leaves refl refl
        (set run.operations t (Some o)) later
        (entered-listed run.board run.plan aside run.operations sound.listed t within o free enters.within enters.unnoted number datum asked)
        (works-on 1 (set run.operations t (Some o)) claimed (omega (arith, total, more)))
        (entered-spawned run.board run.operations run.futures run.looped.hand.me looped.hand.me sound.spawned t within o
        (record_start run.plan (datum ∷ []) number asked) enters)
        (record { within = omega (arith, inside, count); few = omega (arith, few, count) })

    pub left-sound : (o : Operation) → Has run.operations t o → length looped.tally ≡ length run.looped.tally + 1 →
        LeavesWith (with_left (root_of run.board o) aside) run.looped.hand.me looped.hand.me →
        IsSound on before (record run { looped = looped; operations = set run.operations t None }) stepped next
    left-sound o has tally leaves =
        let few = sound.tickets.few in
        let claimed = ap (λ (a : Aside). a.claimed) leaves.is in
        let less = one-less run.operations t within o has in
        let inside = sound.tickets.within in
        let count : length (set run.operations t None) ≡ length run.operations = length-set run.operations t None in
        moved-sound (with_left (root_of run.board o) aside) leaves refl refl (set run.operations t None) next
        (left-listed run.board run.plan aside run.operations sound.listed t within o has)
        (works-on 0 (set run.operations t None) (omega (arith, claimed)) (omega (arith, tally, less)))
        (left-spawned run.board run.operations run.futures run.looped.hand.me looped.hand.me sound.spawned t within o run.plan sound.listed has leaves)
        (record { within = omega (arith, inside, count); few = omega (arith, few, count) })

  pub asked-sound : looped.tally ≡ run.looped.tally → RequestsStop run.board run.looped.hand.me looped.hand.me →
      IsSound on before (record run { looped = looped; requested = true }) stepped next
  asked-sound tally asks =
      let claimed = ap (λ (a : Aside). a.claimed) asks.same in
      let count = ap length tally in
      record {
        table = record {
          is_on = sound.table.is_on;
          over = sound.table.over;
          kinds = sound.table.kinds;
          stepped_is = sound.table.stepped_is;
          scope = sound.table.scope;
        };
        tickets = sound.tickets;
        ready = ready;
        settled = ap (λ (a : Aside). a.making + a.refused) asks.same ∙ sound.settled;
        listed = record {
          made = ap (λ (a : Aside). a.made) asks.same ∙ sound.listed.made;
          claimed = ap (λ (a : Aside). a.claimed) asks.same ∙ sound.listed.claimed
              ∙ sym (ap (λ (a : Aside). a.released + taken run.operations + kept_in run.futures) asks.same);
          each = λ t o has.
              let before = sound.listed.each t o has in
              record {
                within = before.within;
                number = before.number;
                datum = before.datum;
                asked = before.asked;
                start = ap (λ (a : Aside). find_by (λ (e : Rooted Entry). e.name) a.noted (root_of run.board o)) asks.same ∙ before.start;
              };
          apart = sound.listed.apart;
        };
        worked = works-on 0 run.operations (omega (arith, claimed)) (omega (arith, count));
        spawned = asked-spawned run.board run.operations run.futures run.looped.hand.me looped.hand.me sound.spawned asks;
        asked = record { seen = λ _. asks.seen; made = λ _. refl };
      }

  -- its futures were served, of a plan that has an `ahead`
  pub served-sound : (futures : List (Option Future)) → has_ahead run.plan ≡ true → looped.tally ≡ run.looped.tally → IsKeeping run.board futures looped.hand →
      ServesSpawned run.board run.futures futures run.looped.hand.me looped.hand.me →
      IsSound on before (record run { looped = looped; futures = futures }) stepped next
  served-sound futures ahead tally keeping serves =
      let claims = sound.worked.claims in
      let count = ap length tally in
      let claimed = serves.claimed in
      record {
        table = record {
          is_on = sound.table.is_on;
          over = sound.table.over;
          kinds = sound.table.kinds;
          stepped_is = sound.table.stepped_is;
          scope = sound.table.scope;
        };
        tickets = sound.tickets;
        ready = ready;
        settled = keeping.settled;
        listed = served-listed run.board run.plan run.operations run.futures futures run.looped.hand.me looped.hand.me sound.listed sound.spawned serves;
        worked = record {
          spawned = sound.worked.spawned + serves.begun;
          claims = omega (arith, claims, count, claimed);
          unspawned = λ none. absurd (let no = sym ahead ∙ none in cc);
        };
        spawned = served-spawned run.board run.plan run.operations run.futures futures run.looped.hand.me looped.hand.me sound.listed sound.spawned serves
            keeping.keeps;
        asked = record {
          seen = λ asked. serves.sees Scope (sound.asked.seen asked);
          made = λ made. sound.asked.made (sym (ap (λ (a : Aside). a.requested) serves.aside) ∙ made);
        };
      }

-- a loop that requested a stop is ready
pub asked-ready : (board : Board Blueprint) (old new : Looped) → IsReady board old → new.next ≡ old.next →
    HasDelays board new.delays new.delay_nodes.items → IsHandOf board new.hand → IsAtRest (knows new.hand) → RequestsStop board old.hand.me new.hand.me → IsReady board new
asked-ready board old new ready next delays hand rests asks =
    record {
      hand = hand;
      first = ap (λ (a : Aside). a.number) asks.same ∙ ready.first;
      rests = rests;
      next = let before = ready.next in omega (arith, next, before);
      delays = delays;
    }

-- a new run
pub opened-sound : (on : Board Blueprint → Type 0) (before : ℕ) (board : Board Blueprint) (plan stepped : Blueprint) (tickets : ℕ) (looped : Looped) →
    on board → before ≡ (knows looped.hand).claimed → IsOver board plan → IsRunnable plan → stepped ≡ plan → board.frame.kind ≡ plan.settings.scope → 0 < tickets → tickets ≤ 2 ^ 16 →
    IsUnusedHand board looped.hand → looped.next ≡ 0 → looped.tally ≡ [] → HasDelays board looped.delays looped.delay_nodes.items → (operations : List (Option Operation)) → operations ≡ replicate tickets None →
    (most : ℕ) (futures : List (Option Future)) → AreOpened most futures → IsSound on before (run_of board plan looped operations false futures) stepped 0
opened-sound on before board plan stepped tickets looped is_on claimed over kinds steps scope some few unused next tally delays operations free most futures opened =
    record {
      table = record { is_on = is_on; over = over; kinds = kinds; stepped_is = steps; scope = scope };
      tickets = record { within = omega (arith, count, some); few = omega (arith, count, few) };
      ready = record {
        hand = unused.hand_of;
        first = unused.first;
        rests = record {
          held = unused.nothing.held;
          owed = unused.nothing.owed;
          reported = unused.nothing.reported;
          finished = unused.nothing.finished;
          runs = unused.nothing.runs;
          scans = unused.nothing.scans;
        };
        next = omega (arith, next);
        delays = delays;
      };
      settled = let making = unused.nothing.making in let refused = unused.nothing.refused in omega (arith, making, refused);
      listed = record {
        made = let made = unused.nothing.made in let kept = opened.none in omega (arith, made, none, kept);
        claimed = let even = unused.even in let kept = opened.none in omega (arith, even, none, kept);
        each = λ t o has. absurd (vacant t o has);
        apart = λ t u o p has. absurd (vacant t o has);
      };
      worked = record {
        spawned = 0;
        claims = let count = ap length tally in omega (arith, claimed, count, none);
        unspawned = λ _. refl;
      };
      spawned = record {
        kept = record {
          made = let kept = opened.none in omega (arith, kept);
          each = λ t f has. absurd (opened.free t f has);
          apart = λ t u f g has. absurd (opened.free t f has);
        };
        apart = λ t o has. absurd (vacant t o has);
      };
      asked = record {
        seen = λ e. absurd (let no = e in cc);
        made = λ e. absurd (let no = sym unused.unasked ∙ e in cc);
      };
    }
  where
    count : length operations ≡ tickets
    count = ap length free ∙ length-replicate tickets None

    none : taken operations ≡ 0
    none =
        let all : taken (replicate tickets None) ≡ tickets * 0 = sum_by-replicate (λ (o : Option Operation). cond (is_some o) 1 0) tickets None in
        ap taken free ∙ (let e : tickets * 0 ≡ 0 = omega arith in all ∙ e)

    vacant : (t : ℕ) (o : Operation) → Has operations t o → ⊥
    vacant t o has =
        let gone : get_or operations t None ≡ None = ap (λ (l : List (Option Operation)). get_or l t None) free ∙ get_or-replicate_same tickets t None in
        cc
