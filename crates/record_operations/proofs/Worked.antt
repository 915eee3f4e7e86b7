-- What the seam sees of the operations: as they were, with one more, or with one less.
use Rattle.std.proofs.Common.{◌≡◌, ◌≢◌, ℕ, ◌<◌, true, List, [], ◌∷◌, length, set, get_or, inl, inr, refl, sym, ap, ◌∙◌, subst}
use Rattle.std.specs.Prelude.{Option, Some, None, MatchOption, IsSome}
use Rattle.std.specs.Option.{option_and_then}
use Rattle.std.proofs.lemmas.Bool.{cases_eq, cases_lt}
use Rattle.std.proofs.lemmas.List.{get_or_past}
use Rattle.std.proofs.lemmas.Option.{none-some, same_Some}
use Rattle.exec_value.specs.declared.data.Datum.{Datum}
use Rattle.exec_value.specs.declared.outcome.Completion.{Completion}
use Rattle.plan_shape.specs.Blueprint.{Blueprint}
use Rattle.run_loop.specs.Loops.{Raises, gathered_of}
use Rattle.run_tally.specs.Gathered.{gathered}
use Rattle.record_loop.specs.Works.{Begun, KeepsWork, BeginsTicket, CollectsTicket, MayCompleteWork}
use Rattle.table_rules.specs.declared.view.Rooted.{Rooted}
use Rattle.table_rules.specs.Named.{find_by}
use Rattle.table_steps.specs.Slots.{noted_at}
use Rattle.table_steps.specs.Views.{Board, knows}
use Rattle.home_items.specs.declared.entry.Entry.{Entry}
use Rattle.home_items.specs.Entries.{record_start}
use Rattle.exec_recv.specs.Asides.{Aside, aside_of}
use Rattle.node_walks.specs.declared.completing.Collected.{Collected}
use Rattle.run_loop.specs.declared.looped.Loop.{Loop as Looped}
use Rattle.node_walks.specs.Completes.{IsFor}
use Rattle.record_operations.specs.declared.tickets.Operation.{Operation}
use Rattle.record_operations.specs.Calls.{with_left, LeavesWith, EntersOperation}
use Rattle.record_operations.specs.Moves.{KeepsRun, KeepsOperations, LeavesRun}
use Rattle.record_operations.specs.Runs.{Run, WantsMemory, root_of, begun_in, noted_begun, taken, work_of}
use Rattle.record_operations.specs.Sound.{Has, IsOfRecord, AreListed}
use Rattle.record_operations.proofs.Allowed.{collected-may}
use Rattle.record_operations.proofs.Listed.{name_of, put-here, put-there, one-more, one-less, entered-here, entered-there, left-there}

abbrev begun_from : Option (Rooted Entry) → Option Begun
begun_from found = option_and_then (λ (e : Rooted Entry). begun_in e.start) found

-- an operation whose start is noted as before was begun as before
same-begun : (board : Board Blueprint) (noted noted' : List (Rooted Entry)) (found : Option Operation) →
    ((p : Operation) → found ≡ Some p → find_by name_of noted' (root_of board p) ≡ find_by name_of noted (root_of board p)) →
    option_and_then (noted_begun board noted') found ≡ option_and_then (noted_begun board noted) found
same-begun board noted noted' None same = refl
same-begun board noted noted' (Some p) same = ap begun_from (same p refl)

pub keeps-work : (old new : Run) → KeepsRun old new → KeepsWork (work_of old) (work_of new)
keeps-work old new keeps =
    record {
      plan = keeps.plan;
      table = ap (λ (b : Board Blueprint). b.table_id) keeps.board;
      running = ap taken keeps.operations;
      requested = keeps.requested;
      collected = keeps.tally;
      tickets = λ t begun is. same t ∙ is;
    }
  where
    same : (t : ℕ) → (work_of new).tickets t ≡ (work_of old).tickets t
    same t = λ i. option_and_then (noted_begun (keeps.board i) (keeps.noted i)) (get_or (keeps.operations i) t None)

-- and where futures came and went
pub operations-work : (old new : Run) → KeepsOperations old new → KeepsWork (work_of old) (work_of new)
operations-work old new keeps =
    record {
      plan = keeps.plan;
      table = ap (λ (b : Board Blueprint). b.table_id) keeps.board;
      running = ap taken keeps.operations;
      requested = keeps.requested;
      collected = keeps.tally;
      tickets = λ t begun is. same t ∙ is;
    }
  where
    same : (t : ℕ) → (work_of new).tickets t ≡ (work_of old).tickets t
    same t =
        (λ i. option_and_then (noted_begun (keeps.board i) (knows new.looped.hand).noted) (get_or (keeps.operations i) t None))
        ∙ same-begun old.board (knows old.looped.hand).noted (knows new.looped.hand).noted (get_or old.operations t None)
        (λ p has. keeps.noted t p has)

-- what the seam answers of a ticket that was left, or wasn't
pub left-work : (old new : Run) (ticket : ℕ) (answer : Option Completion) → MatchOption answer (KeepsRun old new) (LeavesRun old new ticket) →
    MatchOption answer (KeepsWork (work_of old) (work_of new)) (CollectsTicket WantsMemory (work_of old) (work_of new) ticket)
left-work old new ticket None keeps = keeps-work old new keeps
left-work old new ticket (Some completion) leaves = leaves.collects

-- a ticket that has an operation is there
pub within-begun : (run : Run) (t : ℕ) → IsSome ((work_of run).tickets t) → t < length run.operations
within-begun run t begun = elim (cases_lt t (length run.operations)) [
  | inl less ↦ less
  | inr more ↦
      absurd
      (let none = subst (λ (o : Option Operation). IsSome (option_and_then (noted_begun run.board (knows run.looped.hand).noted) o))
      (get_or_past run.operations t None more) begun in
      cc)
]

-- what an operation of a record was begun with
pub begun-record : (run : Run) (t : ℕ) (o : Operation) → Has run.operations t o →
    (is : IsOfRecord run.board run.plan (knows run.looped.hand).noted o) →
    (work_of run).tickets t ≡ Some (record { number = is.number; datum = is.datum; asked = is.asked })
begun-record run t o has is =
    ap (option_and_then (noted_begun run.board (knows run.looped.hand).noted)) has ∙ ap begun_from is.start

module _ (run : Run) {kept : ℕ}
    (listed : AreListed run.board run.plan (aside_of (knows run.looped.hand)) run.operations kept) (t : ℕ) (within : t < length run.operations)
    (looped : Looped) where
  abbrev noted : List (Rooted Entry)
  noted = (knows run.looped.hand).noted

  abbrev noted_now : List (Rooted Entry)
  noted_now = (knows looped.hand).noted

  -- one more
  module _ (o : Operation) (free : get_or run.operations t None ≡ None) (number : ℕ) (datum : Datum)
      (enters : EntersOperation run.board o (record_start run.plan (datum ∷ []) number run.requested) run.looped.hand.me looped.hand.me) where
    abbrev start : List Entry
    start = record_start run.plan (datum ∷ []) number run.requested

    abbrev grown : Run
    grown = record run { looped = looped; operations = set run.operations t (Some o) }

    noted-grown : noted_now ≡ record { name = root_of run.board o; start = start } ∷ noted
    noted-grown = ap (λ (a : Aside). a.noted) enters.leaves.is

    begun-here : (work_of grown).tickets t ≡ Some (record { number = number; datum = datum; asked = run.requested })
    begun-here =
        ap (option_and_then (noted_begun run.board noted_now)) (put-here run.operations t within (Some o))
        ∙ ap begun_from
        (ap (λ (l : List (Rooted Entry)). find_by name_of l (root_of run.board o)) noted-grown
        ∙ entered-here run.board run.plan (aside_of (knows run.looped.hand)) run.operations listed t within o free enters.within enters.unnoted
        number datum run.requested)

    begun-there : (u : ℕ) → u ≢ t → (work_of grown).tickets u ≡ (work_of run).tickets u
    begun-there u apart =
        ap (option_and_then (noted_begun run.board noted_now)) (put-there run.operations t within (Some o) u apart)
        ∙ same-begun run.board noted noted_now (get_or run.operations u None)
        (λ p has.
        ap (λ (l : List (Rooted Entry)). find_by name_of l (root_of run.board p)) noted-grown
        ∙ entered-there run.board run.plan (aside_of (knows run.looped.hand)) run.operations listed t within o free enters.within
        enters.unnoted number datum run.requested u p has)

    kept-begun : (u : ℕ) (begun : Begun) → (work_of run).tickets u ≡ Some begun → (work_of grown).tickets u ≡ Some begun
    kept-begun u begun is = elim (cases_eq u t) [
      | inl here ↦
          absurd
          (none-some begun
          (sym (ap (option_and_then (noted_begun run.board noted)) (ap (λ k. get_or run.operations k None) here ∙ free)) ∙ is))
      | inr there ↦ begun-there u there ∙ is
    ]

    pub begins-work : looped.tally ≡ run.looped.tally → BeginsTicket (work_of run) (work_of grown) number datum t
    begins-work tally =
        record {
          plan = refl;
          table = refl;
          running = one-more run.operations t within o free;
          requested = refl;
          collected = tally;
          tickets = kept-begun;
          begun = begun-here;
        }

  -- one less
  module _ (o : Operation) (has : Has run.operations t o)
      (leaves : LeavesWith (with_left (root_of run.board o) (aside_of (knows run.looped.hand))) run.looped.hand.me looped.hand.me) where
    abbrev shrunk : Run
    shrunk = record run { looped = looped; operations = set run.operations t None }

    gone-there : (u : ℕ) → u ≢ t → (work_of shrunk).tickets u ≡ (work_of run).tickets u
    gone-there u apart =
        ap (option_and_then (noted_begun run.board noted_now)) (put-there run.operations t within None u apart)
        ∙ same-begun run.board noted noted_now (get_or run.operations u None)
        (λ p has_p.
        ap (λ (a : Aside). find_by name_of a.noted (root_of run.board p)) leaves.is
        ∙ left-there run.board run.plan (aside_of (knows run.looped.hand)) run.operations listed t within o has u p apart has_p)

    gone-here : (work_of shrunk).tickets t ≡ None
    gone-here = ap (option_and_then (noted_begun run.board noted_now)) (put-here run.operations t within None)

    module _ (c : Collected) (made : (knows run.looped.hand).requested ≡ true → run.requested ≡ true)
        (is_for : (e : Rooted Entry) → noted_at (knows run.looped.hand) (root_of run.board o) ≡ Some e →
        IsFor e.start (knows run.looped.hand).requested c) where
      ends-so : (begun : Begun) → (work_of run).tickets t ≡ Some begun → MayCompleteWork WantsMemory (work_of run) begun c.completion
      ends-so begun is =
          let of : IsOfRecord run.board run.plan noted o = listed.each t o has in
          let same : record { number = of.number; datum = of.datum; asked = of.asked } ≡ begun =
          same_Some _ begun (sym (begun-record run t o has of) ∙ is) in
          subst (λ (b : Begun). MayCompleteWork WantsMemory (work_of run) b c.completion) same
          (collected-may (work_of run) (record { number = of.number; datum = of.datum; asked = of.asked })
          (knows run.looped.hand).requested c (is_for _ of.start) made)

      -- it stands in the loop's tally as one of this record, plan and table
      counted-so : run.board.frame.over.value ≡ run.plan → Raises run.board c run.looped.tally looped.tally → (begun : Begun) → (work_of run).tickets t ≡ Some begun →
          looped.tally ≡ gathered run.plan run.board.table_id begun.number c.completion ∷ run.looped.tally
      counted-so over tally begun is =
          let of : IsOfRecord run.board run.plan noted o = listed.each t o has in
          let same : record { number = of.number; datum = of.datum; asked = of.asked } ≡ begun =
          same_Some _ begun (sym (begun-record run t o has of) ∙ is) in
          tally
          ∙ ap (λ (p : Blueprint). gathered_of p run.board.table_id c ∷ run.looped.tally) over
          ∙ ap (λ (n : ℕ). gathered run.plan run.board.table_id n c.completion ∷ run.looped.tally) ((is_for _ of.start).number ∙ ap (λ (b : Begun). b.number) same)

      pub collects-work : run.board.frame.over.value ≡ run.plan → Raises run.board c run.looped.tally looped.tally →
          CollectsTicket WantsMemory (work_of run) (work_of shrunk) t c.completion
      collects-work over tally =
          record {
            plan = refl;
            table = refl;
            running = one-less run.operations t within o has;
            requested = refl;
            collected = counted-so over tally;
            free = gone-here;
            others = λ u begun apart is. gone-there u apart ∙ is;
            ends = ends-so;
          }
