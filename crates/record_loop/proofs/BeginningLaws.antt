-- How the next record is put in flight.
use Rattle.std.proofs.Common.{◌≡◌, ℕ, ◌+◌, ◌<◌, ◌≤◌, Bool, true, false, List, [], ◌∷◌, ◌++◌, length, Option, Some, None, cond, refl, sym, ap, ◌∙◌, subst, inl, append_assoc, length-append, arith}
use Rattle.std.specs.Prelude.{is_some, option_and_then}
use Rattle.std.proofs.lemmas.Bool.{leb-false}
use Rattle.std.proofs.lemmas.List.Sums.{sum_by_push}
use Rattle.std.proofs.Common.{nat_le}
use Rattle.exec_value.specs.Record.{record_of}
use Rattle.exec_value.specs.declared.kinds.Kind.{Kind}
use Rattle.plan_rules.specs.declared.settings.Settings.{Settings}
use Rattle.plan_shape.specs.Blueprint.{Blueprint}
use Rattle.record_lines.specs.Lines.{text_of}
use Rattle.line_rules.specs.Lawful.{datum_of}
use Rattle.line_rules.specs.Moments.{Moment, is_asked_before, IsCaused}
use Rattle.record_loop.specs.Slots.{BeginsSlot, has_operation, running_in}
use Rattle.record_loop.specs.declared.in_flight.InFlight.{InFlight}
use Rattle.record_loop.specs.declared.printer.Printer.{Printer}
use Rattle.record_loop.specs.declared.slot.Slot.{Slot}
use Rattle.record_loop.specs.declared.slot.Slot.TheVariants.{Running, Bad, NoMemory}
use Rattle.record_loop.specs.Flights.{read_of}
use Rattle.record_loop.specs.Printing.{Printed}
use Rattle.exec_io.specs.Views.{SinkView}
use Rattle.record_loop.specs.Standing.{Opening, terms_at, StandsFor, StandForAll, Standing, CountedNext}
use Rattle.record_loop.specs.Works.{Begun, Work, KeepsWork}
use Rattle.record_loop.proofs.PrintingLaws.{HoldsAllBut-all}
use Rattle.record_loop.proofs.SlotLaws.{StandForAll-kept, StandForAll-push}
use Rattle.record_loop.proofs.StandingLaws.{read-lines, read-count}
use Rattle.record_loop.proofs.TallyLaws.{TalliesWith-kept, told-kept}

-- once a slot was begun all else is kept, and one more runs where the slot has an operation
record BeginsAt (old new : Work) (slot : Slot) : Type 0 where
  plan : new.plan ≡ old.plan
  table : new.table ≡ old.table
  running : new.running ≡ old.running + cond (has_operation slot) 1 0
  requested : new.requested ≡ old.requested
  collected : new.collected ≡ old.collected
  tickets : (t : ℕ) (begun : Begun) → old.tickets t ≡ Some begun → new.tickets t ≡ Some begun

abbrev one : Bool → ℕ
one b = cond b 1 0

kept-at : {old new : Work} (slot : Slot) → has_operation slot ≡ false → KeepsWork old new → BeginsAt old new slot
kept-at slot none keeps = record {
  plan = keeps.plan;
  table = keeps.table;
  running = omega (arith, keeps.running, ap one none);
  requested = keeps.requested;
  collected = keeps.collected;
  tickets = keeps.tickets;
}

begun-at : (old new : Work) (kind : Kind) (number : ℕ) (text : Option (List ℕ)) (slot : Slot) → BeginsSlot old new kind number text slot → BeginsAt old new slot
begun-at old new kind number text (Running ticket) begun = record {
  plan = begun.begins.plan;
  table = begun.begins.table;
  running = begun.begins.running;
  requested = begun.begins.requested;
  collected = begun.begins.collected;
  tickets = begun.begins.tickets;
}
begun-at old new kind number text Bad begins = kept-at Bad refl begins.1
begun-at old new kind number text NoMemory begins = kept-at NoMemory refl begins.1

-- the record is asked exactly where the request was made, since the moment comes no later
asked-now : (moment : Option Moment) (number : ℕ) → ((m : Moment) → moment ≡ Some m → m.first ≤ number) → is_some moment ≡ is_asked_before moment number
asked-now None number early = refl
asked-now (Some m) number early = by (nat_le m.first number) refl
  where
    by : (b : Bool) → nat_le m.first number ≡ b → true ≡ b
    by true is = refl
    by false is = absurd (omega (arith, leb-false m.first number is, early m refl))

module _ {Wants : Blueprint → Type 0} {opening : Opening} {lines : List (List ℕ)} {old : Work} {now : SinkView} {flight : InFlight} (new : Work) (next : InFlight) (line : List ℕ) (slot : Slot) (kind : Kind) (number : ℕ) (text : Option (List ℕ))
    (counted : CountedNext Wants opening lines old now flight) (begins : BeginsSlot old new kind number text slot)
    (kind_is : kind ≡ flight.settings.input) (number_is : number ≡ read_of flight + 1) (text_is : text ≡ text_of line) where
  kind-is : kind ≡ opening.plan.settings.input
  kind-is = kind_is ∙ ap (λ (s : Settings). s.input) counted.standing.settings_are

  number-is : number ≡ length lines + 1
  number-is = number_is ∙ ap (λ n. n + 1) (read-count counted.standing)

  shows-as : option_and_then (record_of kind) text ≡ datum_of opening.plan.settings.input line
  shows-as = ap (λ (k : Kind). option_and_then (record_of k) text) kind-is ∙ ap (option_and_then (record_of opening.plan.settings.input)) text_is

  asked-is : old.requested ≡ is_asked_before counted.standing.moment number
  asked-is = counted.standing.requested ∙ asked-now counted.standing.moment number (λ m is. omega (arith, counted.early m is, number-is))

  -- the slot stands for the record
  stands-next : StandsFor (terms_at Wants opening) new counted.standing.moment number line slot
  stands-next = of slot begins
    where
      of : (slot : Slot) → BeginsSlot old new kind number text slot → StandsFor (terms_at Wants opening) new counted.standing.moment number line slot
      of (Running ticket) begun = record {
        datum = begun.datum;
        shows = sym shows-as ∙ begun.shows;
        begun = begun.begins.begun ∙ ap (λ (asked : Bool). Some (record { number = number; datum = begun.datum; asked = asked })) asked-is;
      }
      of Bad bad = sym shows-as ∙ bad.0
      of NoMemory wants = inl (λ int. wants.0 (kind-is ∙ int))

  -- the next record is in flight
  pub Counted-begins : flight.printer.lost ≡ false → next.slots.items ≡ flight.slots.items ++ slot ∷ [] → next.slots.capacity ≡ flight.slots.capacity → length flight.slots.items < flight.slots.capacity
      → next.printer ≡ flight.printer → next.settings ≡ flight.settings → next.requested ≡ flight.requested → Standing Wants opening (length (lines ++ line ∷ [])) (lines ++ line ∷ []) new now next
  Counted-begins kept items capacity room printer settings requested =
      let standing = counted.standing in
      let keeps = begun-at old new kind number text slot begins in
      let place : number ≡ length standing.outcomes + length flight.slots.items + 1 = omega (arith, number-is, read-lines standing) in
      let waiting = StandForAll-push (terms_at Wants opening) new standing.moment (length standing.outcomes) flight.slots.items standing.back slot line number place
      (StandForAll-kept (terms_at Wants opening) old new standing.moment (length standing.outcomes) flight.slots.items standing.back keeps.tickets standing.waiting) stands-next in
      record {
        outcomes = standing.outcomes;
        front = standing.front;
        back = standing.back ++ line ∷ [];
        moment = standing.moment;
        split = ap (λ (xs : List (List ℕ)). xs ++ line ∷ []) standing.split ∙ append_assoc standing.front standing.back (line ∷ []);
        licensed = standing.licensed;
        waiting = subst (λ (s : List Slot). StandForAll (terms_at Wants opening) new standing.moment (length standing.outcomes) s (standing.back ++ line ∷ [])) (sym items) waiting;
        caused = subst (λ (n : ℕ). IsCaused (terms_at Wants opening).rules opening.window n standing.outcomes standing.moment) (sym (length-append lines (line ∷ []))) standing.caused;
        printed = subst (λ (p : Printer). Printed opening.form opening.sink now p standing.outcomes) (sym printer) standing.printed;
        tallied = TalliesWith-kept keeps.collected printer standing.tallied;
        told = told-kept keeps.collected standing.told;
        running = omega (arith, keeps.running, standing.running, ap running_in items, sum_by_push (λ (s : Slot). cond (has_operation s) 1 0) flight.slots.items slot);
        requested = keeps.requested ∙ standing.requested;
        known = requested ∙ standing.known;
        plan_is = keeps.plan ∙ standing.plan_is;
        table_is = keeps.table ∙ standing.table_is;
        settings_are = settings ∙ standing.settings_are;
        window_is = capacity ∙ standing.window_is;
        fits = omega (arith, ap length items, length-append flight.slots.items (slot ∷ []), room, standing.window_is);
        held = HoldsAllBut-all _ kept standing.printed;
        may_run = standing.may_run;
      }
