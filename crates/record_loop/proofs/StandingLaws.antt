-- How a run goes on, record by record.
use Rattle.std.proofs.Common.{◌≡◌, ℕ, ◌+◌, ◌<◌, ◌≤◌, Bool, true, false, List, [], length, Option, Some, None, refl, sym, ap, ◌∙◌, subst, length-append, arith}
use Rattle.std.specs.Prelude.{◌&&◌, IsFalse, is_some}
use Rattle.exec_value.specs.declared.outcome.Outcome.{Outcome}
use Rattle.node_tree.specs.declared.scope_kind.ScopeKind.{ScopeKind}
use Rattle.node_tree.specs.declared.scope_kind.ScopeKind.TheVariants.{Simple, Counting}
use Rattle.plan_rules.specs.declared.settings.Settings.{Settings}
use Rattle.plan_rules.specs.Exclusion.{is_simple, has_stop_rule}
use Rattle.plan_shape.specs.Blueprint.{Blueprint}
use Rattle.line_rules.specs.Moments.{Moment, IsCaused, IsQuiet, Licensed}
use Rattle.line_rules.specs.PlanTerms.{MayRun}
use Rattle.line_rules.specs.StopStates.{StopRules, rules_of}
use Rattle.line_rules.proofs.LicenseLaws.{Licensed-nil, Licensed-asks}
use Rattle.line_rules.proofs.MomentLaws.{quiet-nil, quiet-read, timely-read, timely-more}
use Rattle.record_loop.specs.Flights.{IsFresh, read_of}
use Rattle.record_loop.specs.declared.in_flight.InFlight.{InFlight}
use Rattle.record_loop.specs.declared.printer.Printer.{Printer}
use Rattle.record_loop.specs.declared.slot.Slot.{Slot}
use Rattle.record_loop.specs.Printing.{AppendsAtLeast, Printed}
use Rattle.exec_io.specs.Views.{SinkView}
use Rattle.record_loop.specs.Slots.{running_in}
use Rattle.record_loop.specs.Standing.{Opening, terms_at, StandForAll, Standing, CountedNext}
use Rattle.record_loop.specs.Works.{Work, IsIdle, Requests}
use Rattle.record_loop.proofs.PrintingLaws.{AtLeast-nil, HoldsAllBut-none, HoldsAllBut-grows}
use Rattle.record_loop.proofs.SlotLaws.{StandForAll-length, StandForAll-kept, StandForAll-asks}
use Rattle.record_loop.proofs.TallyLaws.{TalliesWith-new, TalliesWith-same, TalliesWith-kept, told-new, told-kept}

-- settings that don't exclude each other have a stop rule over a counting scope alone
rules-count : (scope : ScopeKind) (rule : Bool) → IsFalse (is_simple scope && rule) → rule ≡ true → scope ≡ Counting
rules-count Counting rule free set = refl
rules-count Simple rule free set = absurd (let wrong : true ≡ false = sym set ∙ free in cc)

module _ {Wants : Blueprint → Type 0} {opening : Opening} {read : ℕ} {lines : List (List ℕ)} {work : Work} {now : SinkView} {flight : InFlight} (standing : Standing Wants opening read lines work now flight) where
  -- the slots are as many as the records without a line
  pub waiting-length : length flight.slots.items ≡ length standing.back
  waiting-length = StandForAll-length (terms_at Wants opening) work standing.moment (length standing.outcomes) flight.slots.items standing.back standing.waiting

  -- as many records were read as there are lines
  pub read-lines : length standing.outcomes + length flight.slots.items ≡ length lines
  read-lines = omega (arith, waiting-length, standing.licensed.as_many, ap length standing.split, length-append standing.front standing.back)

  pub read-count : read_of flight ≡ length lines
  read-count = omega (arith, read-lines, standing.printed.counted.lines)

  -- where a stop rule is set the scope counts
  pub counting : has_stop_rule flight.settings ≡ true → work.plan.settings.scope ≡ Counting
  counting set =
      let P : Settings → Type 0 = λ s. has_stop_rule s ≡ true in
      ap (λ (p : Blueprint). p.settings.scope) standing.plan_is
      ∙ rules-count opening.plan.settings.scope (has_stop_rule opening.plan.settings) standing.may_run.rules (subst P standing.settings_are set)

-- no record was read
pub Standing-fresh : (Wants : Blueprint → Type 0) (opening : Opening) (work : Work) (flight : InFlight) → IsFresh opening.window opening.plan.settings opening.form flight
    → IsIdle work → work.plan ≡ opening.plan → work.table ≡ opening.table → MayRun opening.plan.settings → Standing Wants opening 0 [] work opening.sink flight
Standing-fresh Wants opening work flight fresh idle plan table may_run = record {
  outcomes = [];
  front = [];
  back = [];
  moment = None;
  split = refl;
  licensed = Licensed-nil (terms_at Wants opening) None;
  waiting = subst (λ (slots : List Slot). StandForAll (terms_at Wants opening) work None 0 slots []) (sym fresh.slots) tt;
  caused = quiet-nil (rules_of opening.plan.settings) may_run.stop_after;
  printed = fresh.printed opening.sink;
  tallied = TalliesWith-new idle.collected (fresh.printed opening.sink).counted;
  told = told-new idle.collected;
  running = idle.running ∙ ap running_in (sym fresh.slots);
  requested = idle.requested;
  known = fresh.requested;
  plan_is = plan;
  table_is = table;
  settings_are = fresh.settings_are;
  window_is = fresh.capacity;
  fits = omega (arith, ap length fresh.slots);
  held = HoldsAllBut-none _ opening.form opening.sink;
  may_run = may_run;
}

-- what was printed is handed on
pub Standing-hands : {Wants : Blueprint → Type 0} {opening : Opening} {read : ℕ} {lines : List (List ℕ)} {work : Work} {now later : SinkView} {old new : InFlight}
    → ((outcomes : List Outcome) → Printed opening.form opening.sink now old.printer outcomes → Printed opening.form opening.sink later new.printer outcomes)
    → AppendsAtLeast now.written later.written [] → new.slots ≡ old.slots → new.requested ≡ old.requested → new.settings ≡ old.settings
    → Standing Wants opening read lines work now old → Standing Wants opening read lines work later new
Standing-hands {Wants = Wants} {opening = opening} {work = work} {old = old} {new = new} hands grows slots requested settings standing = record {
  outcomes = standing.outcomes;
  front = standing.front;
  back = standing.back;
  moment = standing.moment;
  split = standing.split;
  licensed = standing.licensed;
  waiting = subst (λ (s : _). StandForAll (terms_at Wants opening) work standing.moment (length standing.outcomes) s standing.back) (sym (ap (λ (s : _). s.items) slots)) standing.waiting;
  caused = standing.caused;
  printed = hands standing.outcomes standing.printed;
  tallied = TalliesWith-same standing.printed.counted (hands standing.outcomes standing.printed).counted standing.tallied;
  told = standing.told;
  running = standing.running ∙ ap (λ (s : _). running_in s.items) (sym slots);
  requested = standing.requested;
  known = requested ∙ standing.known;
  plan_is = standing.plan_is;
  table_is = standing.table_is;
  settings_are = settings ∙ standing.settings_are;
  window_is = ap (λ (s : _). s.capacity) slots ∙ standing.window_is;
  fits = omega (arith, ap (λ (s : _). length s.items) slots, standing.fits);
  held = HoldsAllBut-grows standing.held grows (omega (arith, ap (λ (s : _). length s.items) slots));
  may_run = standing.may_run;
}

-- more is read, and no request is made for it
caused-read : (rules : StopRules) (window read : ℕ) (outcomes : List Outcome) (moment : Option Moment) → (rules.after ≡ Some (read + 1) → ⊥)
    → IsCaused rules window read outcomes moment → IsCaused rules window (read + 1) outcomes moment
caused-read rules window read outcomes None other quiet = quiet-read rules window read outcomes other quiet
caused-read rules window read outcomes (Some m) other timely = timely-more rules window read outcomes m timely

-- a request that was made came before the next record
early-moment : (rules : StopRules) (window read : ℕ) (outcomes : List Outcome) (moment : Option Moment) → IsCaused rules window read outcomes moment → (m : Moment) → moment ≡ Some m → m.first ≤ read + 1
early-moment rules window read outcomes None quiet m is = absurd (let e : None ≡ Some m = is in cc)
early-moment rules window read outcomes (Some n) timely m is = let same : n ≡ m = cc in omega (arith, timely.first, ap (λ (x : Moment). x.first) same)

-- the next record is counted, and no stop is requested after it
pub Standing-counts : {Wants : Blueprint → Type 0} {opening : Opening} {lines : List (List ℕ)} {work : Work} {now : SinkView} {flight : InFlight}
    → (flight.settings.stop_after ≡ Some (read_of flight + 1) → ⊥) → Standing Wants opening (length lines) lines work now flight → CountedNext Wants opening lines work now flight
Standing-counts {Wants = Wants} {opening = opening} {lines = lines} {flight = flight} other standing = record {
  standing = record {
    outcomes = standing.outcomes;
    front = standing.front;
    back = standing.back;
    moment = standing.moment;
    split = standing.split;
    licensed = standing.licensed;
    waiting = standing.waiting;
    caused = caused-read (rules_of opening.plan.settings) opening.window (length lines) standing.outcomes standing.moment (λ after. other (ap (λ (s : Settings). s.stop_after) standing.settings_are ∙ after ∙ ap (λ n. Some (n + 1)) (sym (read-count standing)))) standing.caused;
    printed = standing.printed;
    tallied = standing.tallied;
    told = standing.told;
    running = standing.running;
    requested = standing.requested;
    known = standing.known;
    plan_is = standing.plan_is;
    table_is = standing.table_is;
    settings_are = standing.settings_are;
    window_is = standing.window_is;
    fits = standing.fits;
    held = standing.held;
    may_run = standing.may_run;
  };
  early = early-moment (rules_of opening.plan.settings) opening.window (length lines) standing.outcomes standing.moment standing.caused;
}

module _ {Wants : Blueprint → Type 0} {opening : Opening} {lines : List (List ℕ)} {old new : Work} {now : SinkView} {flight next : InFlight}
    (standing : Standing Wants opening (length lines) lines old now flight) (room : length flight.slots.items < flight.slots.capacity)
    (again : flight.requested ≡ true → new ≡ old) (first : flight.requested ≡ false → Requests old new)
    (asked : next.requested ≡ true) (slots : next.slots ≡ flight.slots) (printer : next.printer ≡ flight.printer) (settings : next.settings ≡ flight.settings) where
  -- what stays as it was
  counted-with : (moment : Option Moment) → Licensed (terms_at Wants opening) moment standing.front standing.outcomes
      → StandForAll (terms_at Wants opening) new moment (length standing.outcomes) flight.slots.items standing.back
      → IsCaused (terms_at Wants opening).rules opening.window (length lines + 1) standing.outcomes moment
      → is_some moment ≡ true → new.requested ≡ true → new.plan ≡ old.plan → new.table ≡ old.table → new.running ≡ old.running → new.collected ≡ old.collected → ((m : Moment) → moment ≡ Some m → m.first ≤ length lines + 1) → CountedNext Wants opening lines new now next
  counted-with moment licensed waiting caused some requested plan table running tally early = record {
    early = early;
    standing = record {
      outcomes = standing.outcomes;
      front = standing.front;
      back = standing.back;
      moment = moment;
      split = standing.split;
      licensed = licensed;
      waiting = subst (λ (s : List Slot). StandForAll (terms_at Wants opening) new moment (length standing.outcomes) s standing.back) (sym (ap (λ s. s.items) slots)) waiting;
      caused = caused;
      printed = subst (λ (p : Printer). Printed opening.form opening.sink now p standing.outcomes) (sym printer) standing.printed;
      tallied = TalliesWith-kept tally printer standing.tallied;
      told = told-kept tally standing.told;
      running = running ∙ standing.running ∙ ap (λ s. running_in s.items) (sym slots);
      requested = requested ∙ sym some;
      known = asked ∙ sym some;
      plan_is = plan ∙ standing.plan_is;
      table_is = table ∙ standing.table_is;
      settings_are = settings ∙ standing.settings_are;
      window_is = ap (λ s. s.capacity) slots ∙ standing.window_is;
      fits = omega (arith, ap (λ s. length s.items) slots, standing.fits);
      held = HoldsAllBut-grows standing.held (AtLeast-nil now.written) (omega (arith, ap (λ s. length s.items) slots));
      may_run = standing.may_run;
    };
  }

  -- the next record is counted, and a stop is requested after it
  pub Standing-asks : flight.settings.stop_after ≡ Some (read_of flight + 1) → CountedNext Wants opening lines new now next
  Standing-asks due = by standing.moment refl
    where
      rules : (rules_of opening.plan.settings).after ≡ Some (length lines + 1)
      rules = sym (ap (λ (s : Settings). s.stop_after) standing.settings_are) ∙ due ∙ ap (λ n. Some (n + 1)) (read-count standing)

      by : (moment : Option Moment) → standing.moment ≡ moment → CountedNext Wants opening lines new now next
      by (Some m) is =
          let same = again (standing.known ∙ ap is_some is) in
          let timely = timely-more (rules_of opening.plan.settings) opening.window (length lines) standing.outcomes m (subst (IsCaused (rules_of opening.plan.settings) opening.window (length lines) standing.outcomes) is standing.caused) in
          counted-with (Some m)
          (subst (λ (x : Option Moment). Licensed (terms_at Wants opening) x standing.front standing.outcomes) is standing.licensed)
          (StandForAll-kept (terms_at Wants opening) old new (Some m) (length standing.outcomes) flight.slots.items standing.back (λ b begun at. ap (λ (w : Work). w.tickets b) same ∙ at)
          (subst (λ (x : Option Moment). StandForAll (terms_at Wants opening) old x (length standing.outcomes) flight.slots.items standing.back) is standing.waiting))
          timely refl (ap (λ (w : Work). w.requested) same ∙ standing.requested ∙ ap is_some is) (ap (λ (w : Work). w.plan) same) (ap (λ (w : Work). w.table) same) (ap (λ (w : Work). w.running) same) (ap (λ (w : Work). w.collected) same)
          (λ n same_moment. early-moment (rules_of opening.plan.settings) opening.window (length lines) standing.outcomes standing.moment standing.caused n (is ∙ same_moment))
      by None is =
          let requests = first (standing.known ∙ ap is_some is) in
          let moment : Moment = record { written = length standing.outcomes; first = length lines + 1 } in
          let few = read-lines standing in
          let quiet : IsQuiet (rules_of opening.plan.settings) (length lines) standing.outcomes = subst (IsCaused (rules_of opening.plan.settings) opening.window (length lines) standing.outcomes) is standing.caused in
          counted-with (Some moment)
          (Licensed-asks moment (omega arith) (subst (λ (x : Option Moment). Licensed (terms_at Wants opening) x standing.front standing.outcomes) is standing.licensed))
          (StandForAll-kept (terms_at Wants opening) old new (Some moment) (length standing.outcomes) flight.slots.items standing.back requests.tickets
          (StandForAll-asks (terms_at Wants opening) old moment (length standing.outcomes) flight.slots.items standing.back (omega (arith, few))
          (subst (λ (x : Option Moment). StandForAll (terms_at Wants opening) old x (length standing.outcomes) flight.slots.items standing.back) is standing.waiting)))
          (timely-read (rules_of opening.plan.settings) opening.window (length lines) standing.outcomes rules (omega (arith, few)) (omega (arith, few, room, standing.window_is)) quiet)
          refl requests.requested requests.plan requests.table requests.running requests.collected
          (λ n same_moment. let e : moment ≡ n = cc in omega (arith, ap (λ (x : Moment). x.first) e))

-- the records are of the plan's kind
pub kind-counted : {Wants : Blueprint → Type 0} {opening : Opening} {lines : List (List ℕ)} {work : Work} {now : SinkView} {flight : InFlight} → CountedNext Wants opening lines work now flight → flight.settings.input ≡ work.plan.settings.input
kind-counted counted =
    ap (λ (s : Settings). s.input) counted.standing.settings_are ∙ sym (ap (λ (p : Blueprint). p.settings.input) counted.standing.plan_is)
