-- How the first record in flight is written.
use Rattle.std.proofs.Common.{◌≡◌, ℕ, ◌+◌, ◌<◌, true, false, List, [], ◌∷◌, ◌++◌, length, drop, Option, Some, None, slice_get, cond, refl, sym, ap, ◌∙◌, subst, append_assoc, length-append, arith}
use Rattle.std.specs.Prelude.{is_some}
use Rattle.std.proofs.lemmas.List.Sums.{sum_by-cons}
use Rattle.atomic_table.specs.Seated.{TableId}
use Rattle.exec_value.specs.declared.outcome.Outcome.{Outcome}
use Rattle.outcome_lines.specs.Summary.{is_error}
use Rattle.plan_rules.specs.declared.settings.Settings.{Settings}
use Rattle.plan_shape.specs.Blueprint.{Blueprint}
use Rattle.line_rules.specs.Lawful.{Terms}
use Rattle.line_rules.specs.Moments.{Moment, IsCaused, IsTimely, IsQuiet, Licensed}
use Rattle.line_rules.specs.StopStates.{rules_of}
use Rattle.line_rules.proofs.LicenseLaws.{Licensed-more, Licensed-asks}
use Rattle.line_rules.proofs.MomentLaws.{quiet-write, timely-write, timely-written}
use Rattle.run_tally.specs.Gathered.{Gathered}
use Rattle.record_loop.specs.declared.in_flight.InFlight.{InFlight}
use Rattle.record_loop.specs.declared.slot.Slot.{Slot}
use Rattle.record_loop.specs.Printing.{AppendsAtLeast, Printed}
use Rattle.record_loop.specs.Slots.{SettlesSlot, has_operation, running_in}
use Rattle.exec_io.specs.Views.{SinkView}
use Rattle.record_loop.specs.Standing.{Opening, terms_at, StandsFor, StandForAll, Standing}
use Rattle.record_loop.specs.Tallies.{TalliesWith, IsToldBy}
use Rattle.record_loop.specs.Works.{Work, Requests}
use Rattle.record_loop.proofs.PrintingLaws.{HoldsAllBut-more}
use Rattle.record_loop.proofs.SlotLaws.{StandForAll-kept, StandForAll-asks, MayEnd-settles, SettlesAt, settled-at, StandForAll-settles}
use Rattle.record_loop.proofs.StandingLaws.{read-lines}
use Rattle.record_loop.proofs.TallyLaws.{TalliesWith-settles, told-settles}

-- the first slot, the line of its record, and the rest
record First (terms : Terms) (work : Work) (moment : Option Moment) (before : ℕ) (slot : Slot) (slots : List Slot) (lines : List (List ℕ)) : Type 0 where
  line : List ℕ
  rest : List (List ℕ)
  split : lines ≡ line ∷ rest
  stands : StandsFor terms work moment (before + 1) line slot
  others : StandForAll terms work moment (before + 1) (drop 1 slots) rest
  running : running_in slots ≡ cond (has_operation slot) 1 0 + running_in (drop 1 slots)
  fewer : length (drop 1 slots) + 1 ≡ length slots

first-of : (terms : Terms) (work : Work) (moment : Option Moment) (before : ℕ) (slot : Slot) (slots : List Slot) (lines : List (List ℕ)) → slice_get slots 0 ≡ Some slot → StandForAll terms work moment before slots lines → First terms work moment before slot slots lines
first-of terms work moment before slot [] lines is stand = absurd (let none : None ≡ Some slot = is in cc)
first-of terms work moment before slot (s ∷ slots) [] is stand = absurd stand
first-of terms work moment before slot (s ∷ slots) (line ∷ rest) is stand = record {
  line = line;
  rest = rest;
  split = refl;
  stands = subst (λ (x : Slot). StandsFor terms work moment (before + 1) line x) (let same : s ≡ slot = cc in same) stand.0;
  others = stand.1;
  running = sum_by-cons (λ (x : Slot). cond (has_operation x) 1 0) s slots ∙ ap (λ (x : Slot). cond (has_operation x) 1 0 + running_in slots) (let same : s ≡ slot = cc in same);
  fewer = omega arith;
}

module _ {Wants : Blueprint → Type 0} {opening : Opening} {lines : List (List ℕ)} {old : Work} {now : SinkView} {flight : InFlight} (mid : Work) (later : SinkView) (next : InFlight) (slot : Slot) (outcome : Outcome)
    (standing : Standing Wants opening (length lines) lines old now flight) (is : slice_get flight.slots.items 0 ≡ Some slot) (settles : SettlesSlot Wants old mid slot outcome)
    (prints : (outcomes : List Outcome) → Printed opening.form opening.sink now flight.printer outcomes → Printed opening.form opening.sink later next.printer (outcomes ++ outcome ∷ []))
    (grows : AppendsAtLeast now.written later.written [])
    (items : next.slots.items ≡ drop 1 flight.slots.items) (capacity : next.slots.capacity ≡ flight.slots.capacity) (settings : next.settings ≡ flight.settings) where
  first : First (terms_at Wants opening) old standing.moment (length standing.outcomes) slot flight.slots.items standing.back
  first = first-of (terms_at Wants opening) old standing.moment (length standing.outcomes) slot flight.slots.items standing.back is standing.waiting

  longer : length (standing.outcomes ++ outcome ∷ []) ≡ length standing.outcomes + 1
  longer = length-append standing.outcomes (outcome ∷ [])

  -- the tally counts what the slot was settled with
  tallied-next : TalliesWith mid.collected next.printer.summary
  tallied-next =
      TalliesWith-settles Wants (terms_at Wants opening) old mid standing.moment standing.outcomes first.line slot outcome first.stands settles standing.printed.counted (prints standing.outcomes standing.printed).counted standing.tallied

  told-next : IsToldBy opening.plan opening.table (standing.outcomes ++ outcome ∷ []) mid.collected
  told-next =
      there standing.plan_is standing.table_is
      (told-settles Wants (terms_at Wants opening) old mid standing.moment standing.outcomes first.line slot outcome first.stands settles
      (there (sym standing.plan_is) (sym standing.table_is) standing.told))
    where
      there : {before after : Blueprint} {old new : TableId} {outcomes : List Outcome} {all : List Gathered} → before ≡ after → old ≡ new → IsToldBy before old outcomes all → IsToldBy after new outcomes all
      there {before = before} {new = new} {outcomes = outcomes} {all = all} plan table told =
          subst (λ (p : Blueprint). IsToldBy p new outcomes all) plan (subst (λ (z : TableId). IsToldBy before z outcomes all) table told)

  after-settling : SettlesAt old mid slot
  after-settling = settled-at Wants old mid slot outcome settles

  -- what stays as it was, with one more line
  written-with : (work : Work) (moment : Option Moment) → Licensed (terms_at Wants opening) moment (standing.front ++ first.line ∷ []) (standing.outcomes ++ outcome ∷ [])
      → StandForAll (terms_at Wants opening) work moment (length standing.outcomes + 1) (drop 1 flight.slots.items) first.rest
      → IsCaused (terms_at Wants opening).rules opening.window (length lines) (standing.outcomes ++ outcome ∷ []) moment
      → work.requested ≡ is_some moment → next.requested ≡ is_some moment → work.plan ≡ old.plan → work.table ≡ old.table → work.running ≡ mid.running → work.collected ≡ mid.collected → Standing Wants opening (length lines) lines work later next
  unfolding first
  written-with work moment licensed waiting caused requested known plan table running tally = record {
    outcomes = standing.outcomes ++ outcome ∷ [];
    front = standing.front ++ first.line ∷ [];
    back = first.rest;
    moment = moment;
    split = standing.split ∙ ap (λ (xs : List (List ℕ)). standing.front ++ xs) first.split ∙ sym (append_assoc standing.front (first.line ∷ []) first.rest);
    licensed = licensed;
    waiting =
        let P : ℕ → Type 0 = λ n. StandForAll (terms_at Wants opening) work moment n (drop 1 flight.slots.items) first.rest in
        let Q : List Slot → Type 0 = λ s. StandForAll (terms_at Wants opening) work moment (length (standing.outcomes ++ outcome ∷ [])) s first.rest in
        subst Q (sym items) (subst P (sym longer) waiting);
    caused = caused;
    printed = prints standing.outcomes standing.printed;
    tallied = subst (λ (t : List Gathered). TalliesWith t next.printer.summary) (sym tally) tallied-next;
    told = subst (λ (t : List Gathered). IsToldBy opening.plan opening.table (standing.outcomes ++ outcome ∷ []) t) (sym tally) told-next;
    running = omega (arith, running, after-settling.running, standing.running, first.running, ap running_in items);
    requested = requested;
    known = known;
    plan_is = plan ∙ standing.plan_is;
    table_is = table ∙ standing.table_is;
    settings_are = settings ∙ standing.settings_are;
    window_is = capacity ∙ standing.window_is;
    fits = omega (arith, ap length items, first.fewer, standing.fits);
    held = HoldsAllBut-more outcome standing.held grows (omega (arith, ap length items, first.fewer, standing.fits));
    may_run = standing.may_run;
  }

  -- the line is licensed as the moment stands
  licensed-more : Licensed (terms_at Wants opening) standing.moment (standing.front ++ first.line ∷ []) (standing.outcomes ++ outcome ∷ [])
  licensed-more =
      Licensed-more first.line outcome standing.licensed
      (MayEnd-settles Wants opening.plan opening.window old mid standing.plan_is standing.moment (length standing.outcomes + 1) first.line slot outcome standing.requested late first.stands settles)
    where
      written : (m : Moment) → IsTimely (rules_of opening.plan.settings) opening.window (length lines) standing.outcomes m → m.written < length standing.outcomes + 1
      written m timely = omega (arith, timely.written)

      late : (m : Moment) → standing.moment ≡ Some m → m.written < length standing.outcomes + 1
      late m at = written m (subst (IsCaused (rules_of opening.plan.settings) opening.window (length lines) standing.outcomes) at standing.caused)

  others : StandForAll (terms_at Wants opening) mid standing.moment (length standing.outcomes + 1) (drop 1 flight.slots.items) first.rest
  others = StandForAll-settles Wants (terms_at Wants opening) old mid standing.moment (length standing.outcomes) slot first.line outcome (drop 1 flight.slots.items) first.rest settles first.stands first.others

  -- the line is written, and no stop is requested after it
  pub Standing-writes : (flight.settings.on_error_stop ≡ true → is_error outcome ≡ false) → next.requested ≡ flight.requested → Standing Wants opening (length lines) lines mid later next
  Standing-writes fine same =
      written-with mid standing.moment licensed-more others (caused standing.moment standing.caused)
      (after-settling.requested ∙ standing.requested) (same ∙ standing.known) after-settling.plan after-settling.table refl refl
    where
      none : (rules_of opening.plan.settings).on_error ≡ true → is_error outcome ≡ false
      none set = fine (ap (λ (s : Settings). s.on_error_stop) standing.settings_are ∙ set)

      caused : (moment : Option Moment) → IsCaused (rules_of opening.plan.settings) opening.window (length lines) standing.outcomes moment → IsCaused (rules_of opening.plan.settings) opening.window (length lines) (standing.outcomes ++ outcome ∷ []) moment
      caused None quiet = quiet-write (rules_of opening.plan.settings) opening.window (length lines) standing.outcomes outcome none quiet
      caused (Some m) timely = timely-written (rules_of opening.plan.settings) opening.window (length lines) standing.outcomes outcome m timely

  -- the line is the first error, and a stop is requested after it
  pub Standing-fails : {new : Work} → flight.settings.on_error_stop ≡ true → is_error outcome ≡ true → (flight.requested ≡ true → new ≡ mid) → (flight.requested ≡ false → Requests mid new) → next.requested ≡ true → Standing Wants opening (length lines) lines new later next
  Standing-fails {new = new} set failed again requests asked = by standing.moment refl
    where
      rule : (rules_of opening.plan.settings).on_error ≡ true
      rule = sym (ap (λ (s : Settings). s.on_error_stop) standing.settings_are) ∙ set

      by : (moment : Option Moment) → standing.moment ≡ moment → Standing Wants opening (length lines) lines new later next
      by (Some m) at =
          let same = again (standing.known ∙ ap is_some at) in
          let timely = timely-written (rules_of opening.plan.settings) opening.window (length lines) standing.outcomes outcome m (subst (IsCaused (rules_of opening.plan.settings) opening.window (length lines) standing.outcomes) at standing.caused) in
          written-with new (Some m)
          (subst (λ (x : Option Moment). Licensed (terms_at Wants opening) x (standing.front ++ first.line ∷ []) (standing.outcomes ++ outcome ∷ [])) at licensed-more)
          (StandForAll-kept (terms_at Wants opening) mid new (Some m) (length standing.outcomes + 1) (drop 1 flight.slots.items) first.rest (λ b begun found. ap (λ (w : Work). w.tickets b) same ∙ found)
          (subst (λ (x : Option Moment). StandForAll (terms_at Wants opening) mid x (length standing.outcomes + 1) (drop 1 flight.slots.items) first.rest) at others))
          timely (ap (λ (w : Work). w.requested) same ∙ after-settling.requested ∙ standing.requested ∙ ap is_some at) asked (ap (λ (w : Work). w.plan) same ∙ after-settling.plan) (ap (λ (w : Work). w.table) same ∙ after-settling.table)
          (ap (λ (w : Work). w.running) same) (ap (λ (w : Work). w.collected) same)
      by None at =
          let made = requests (standing.known ∙ ap is_some at) in
          let moment : Moment = record { written = length standing.outcomes + 1; first = length lines + 1 } in
          let few = read-lines standing in
          let fewer = first.fewer in
          let quiet : IsQuiet (rules_of opening.plan.settings) (length lines) standing.outcomes = subst (IsCaused (rules_of opening.plan.settings) opening.window (length lines) standing.outcomes) at standing.caused in
          written-with new (Some moment)
          (Licensed-asks moment (omega (arith, longer)) (subst (λ (x : Option Moment). Licensed (terms_at Wants opening) x (standing.front ++ first.line ∷ []) (standing.outcomes ++ outcome ∷ [])) at licensed-more))
          (StandForAll-kept (terms_at Wants opening) mid new (Some moment) (length standing.outcomes + 1) (drop 1 flight.slots.items) first.rest made.tickets
          (StandForAll-asks (terms_at Wants opening) mid moment (length standing.outcomes + 1) (drop 1 flight.slots.items) first.rest (omega (arith, few, fewer))
          (subst (λ (x : Option Moment). StandForAll (terms_at Wants opening) mid x (length standing.outcomes + 1) (drop 1 flight.slots.items) first.rest) at others)))
          (timely-write (rules_of opening.plan.settings) opening.window (length lines) standing.outcomes outcome rule failed (omega (arith, few, fewer)) (omega (arith, few, standing.fits)) quiet)
          made.requested asked (made.plan ∙ after-settling.plan) (made.table ∙ after-settling.table) made.running made.collected
