-- What stands once all records are written.
use Rattle.std.proofs.Common.{◌≡◌, ◌≢◌, ℕ, ◌+◌, ◌<◌, true, false, List, [], ◌∷◌, ◌++◌, length, Option, refl, sym, ap, ◌∙◌, subst, inl, inr, length-append, append-nil, arith}
use Rattle.std.proofs.lemmas.List.{nil_from_length}
use Rattle.std.specs.Io.KnownBytes.{Consumes}
use Rattle.exec_io.specs.Causes.{Rose}
use Rattle.plan_shape.specs.Blueprint.{Blueprint}
use Rattle.record_lines.specs.declared.ending.End.{End}
use Rattle.record_lines.specs.declared.ending.End.TheVariants.{Ended, Fault, Limit}
use Rattle.record_lines.specs.declared.limits.TheConstants.{MOST_RECORDS}
use Rattle.record_lines.specs.declared.line_end.LineEnd.{LineEnd}
use Rattle.record_lines.specs.Lines.{whole_lines, rest_of, without_cr}
use Rattle.record_lines.specs.Records.{records_of, last_line}
use Rattle.record_lines.specs.Cutters.{Held, StandsAfter, EndsStream}
use Rattle.line_rules.specs.Lawful.{Lawful}
use Rattle.line_rules.specs.Moments.{IsCaused, Licensed}
use Rattle.line_rules.proofs.LicenseLaws.{Lawful-from_licensed}
use Rattle.line_rules.proofs.PlanLaws.{plan-covers}
use Rattle.record_loop.specs.declared.ending.Ending.{Ending}
use Rattle.record_loop.specs.declared.in_flight.InFlight.{InFlight}
use Rattle.record_loop.specs.declared.session.Session.{Session}
use Rattle.record_loop.specs.Flights.{read_of}
use Rattle.record_loop.specs.Printing.{AppendsAtLeast, Printed, Finished}
use Rattle.record_loop.specs.Ran.{Ran}
use Rattle.record_loop.specs.Reading.{SessionState, on, HasRoom, HasTaken, IsThrough, Halts, HasHalted, Reads, AllTaken}
use Rattle.exec_io.specs.Views.{SinkView}
use Rattle.exec_io.specs.Views.{SourceView}
use Rattle.record_loop.specs.Slots.{running_in}
use Rattle.record_loop.specs.Standing.{Opening, terms_at, RunState, at, Standing, StandsAt}
use Rattle.record_loop.specs.Works.{Work}
use Rattle.record_loop.proofs.PrintingLaws.{not-lost, kept-taking, HoldsAllBut-grows}
use Rattle.record_loop.proofs.StandingLaws.{read-lines, waiting-length}
use Rattle.record_loop.proofs.ReadingLaws.{taken-count, taken-within}

module _ {Wants : Blueprint → Type 0} {opening : Opening} {lines : List (List ℕ)} {work : Work} {now : SinkView} {flight : InFlight} (standing : Standing Wants opening (length lines) lines work now flight) (none : flight.slots.items ≡ []) where
  -- all records have a line
  all-front : lines ≡ standing.front
  all-front =
      let no_back : standing.back ≡ [] = nil_from_length standing.back (sym (waiting-length standing) ∙ ap length none) in
      standing.split ∙ ap (λ (xs : List (List ℕ)). standing.front ++ xs) no_back ∙ append-nil standing.front

  -- and the lines are lawful
  pub all-lawful : Lawful (terms_at Wants opening) lines standing.outcomes
  all-lawful =
      let few : length lines ≡ length standing.outcomes = omega (arith, read-lines standing, ap length none) in
      Lawful-from_licensed (terms_at Wants opening) (plan-covers Wants opening.plan opening.window) standing.moment lines standing.outcomes
      (subst (λ (n : ℕ). IsCaused (terms_at Wants opening).rules opening.window n standing.outcomes standing.moment) few standing.caused)
      (subst (λ (xs : List (List ℕ)). Licensed (terms_at Wants opening) standing.moment xs standing.outcomes) (sym all-front) standing.licensed)

-- no operation runs
pub none-runs : {Wants : Blueprint → Type 0} {opening : Opening} {read : ℕ} {lines : List (List ℕ)} {work : Work} {now : SinkView} {flight : InFlight} → Standing Wants opening read lines work now flight → flight.slots.items ≡ [] → work.running ≡ 0
none-runs standing none = standing.running ∙ ap running_in none

module _ {Wants : Blueprint → Type 0} {opening : Opening} {source left : Option (List ℕ)} where
  -- the reading stopped at a fault or a limit, and nothing is left to take
  pub AllTaken-stopped : (end : End) {work : Work} {sink : SinkView} {session : Session} → end ≢ Ended → Halts Wants opening end source left (on work sink session) → AllTaken Wants opening end source left (at work sink session.flight)
  AllTaken-stopped Ended other halts = absurd (other refl)
  AllTaken-stopped Fault other halts = record {
    bytes = halts.stops.front;
    rest = halts.stops.rest;
    reads = record {
      consumed = subst (Consumes source left) halts.stops.split halts.consumed;
      at_end = λ is. cc;
      beyond = λ is. cc;
      within = λ _. halts.stops.within;
    };
    all = halts.stops.all;
    standing = halts.stops.standing;
  }
  AllTaken-stopped Limit other halts = record {
    bytes = halts.bytes;
    rest = [];
    reads = record {
      consumed = subst (Consumes source left) (sym (append-nil halts.bytes)) halts.consumed;
      at_end = λ is. cc;
      beyond = λ _. halts.stops.beyond;
      within = λ not. absurd (not refl);
    };
    all = λ _. refl;
    standing = halts.stops.standing;
  }

  -- the input ended, and its last record is taken, where there is one
  pub AllTaken-ended : {before after : Work} {now later : SinkView} {session : Session} (end : End) (flight : InFlight) → end ≡ Ended → (halts : Halts Wants opening end source left (on before now session))
      → (StandsAfter session.cutter halts.bytes → session.flight.printer.lost ≡ false → StandsAt Wants opening (whole_lines halts.bytes) (at before now session.flight) → StandsAt Wants opening (records_of halts.bytes Ended) (at after later flight))
      → AllTaken Wants opening end source left (at after later flight)
  AllTaken-ended Ended flight is halts takes = record {
    bytes = halts.bytes;
    rest = [];
    reads = record {
      consumed = subst (Consumes source left) (sym (append-nil halts.bytes)) halts.consumed;
      at_end = halts.at_end;
      beyond = λ is. cc;
      within = λ _. taken-within halts.stops.taken;
    };
    all = λ _. refl;
    standing = takes halts.stops.taken.stands halts.stops.kept halts.stops.taken.standing;
  }
  AllTaken-ended Fault flight is halts takes = cc
  AllTaken-ended Limit flight is halts takes = cc

-- a last line comes after fewer than the most records
pub last-few : {Wants : Blueprint → Type 0} {opening : Opening} {bytes : List ℕ} (place : SessionState) (new : Held) (end : LineEnd) → HasTaken Wants opening bytes place → EndsStream new bytes end → read_of place.session.flight < MOST_RECORDS
unfolding last_line
last-few {bytes = bytes} place new end taken ends = by taken.room
  where
    longer : length (records_of bytes Ended) ≡ length (whole_lines bytes) + 1
    longer = ap length ends.lines ∙ length-append (whole_lines bytes) (without_cr (rest_of bytes) ∷ [])

    none : rest_of bytes ≡ [] → length (records_of bytes Ended) ≡ length (whole_lines bytes)
    none is = ap (λ rest. length (whole_lines bytes ++ last_line rest)) is ∙ ap length (append-nil (whole_lines bytes))

    by : HasRoom bytes → read_of place.session.flight < MOST_RECORDS
    by (inl fewer) = omega (arith, fewer, taken-count taken)
    by (inr full) = absurd (omega (arith, longer, none full.1))

-- what was printed of all records, and how the run ended
pub Ran-closes : {Wants : Blueprint → Type 0} {opening : Opening} {work : Work} {now later : SinkView} {flight : InFlight} (end : End) (before after : SourceView) (ending : Ending)
    → (taken : AllTaken Wants opening end before.left after.left (at work now flight)) → flight.slots.items ≡ []
    → (flight.printer.lost ≡ true → ending.lost ≡ true)
    → ((outcomes : _) → Printed opening.form opening.sink now flight.printer outcomes → AppendsAtLeast now.written later.written [])
    → ((outcomes : _) → Printed opening.form opening.sink now flight.printer outcomes → Finished opening.form opening.sink later ending.summary ending.lost outcomes)
    → ending.end ≡ end → (end ≡ Fault → flight.printer.lost ≡ false → Rose before.faults after.faults) → Ran Wants opening before after work.collected later ending
Ran-closes {Wants = Wants} {opening = opening} {later = later} {flight = flight} end before after ending taken none stays grows closes is cause = record {
  bytes = taken.bytes;
  rest = taken.rest;
  reads = subst (λ (e : End). Reads before.left after.left e taken.bytes taken.rest) (sym is) taken.reads;
  all = λ kept. taken.all (kept-taking stays taken.standing.printed kept);
  answered = record {
    outcomes = taken.standing.outcomes;
    lawful = subst (λ (e : End). Lawful (terms_at Wants opening) (records_of taken.bytes e) taken.standing.outcomes) (sym is) (all-lawful taken.standing none);
    finished = closes taken.standing.outcomes taken.standing.printed;
    told = taken.standing.told;
  };
  cause = λ fault kept. cause (sym is ∙ fault) (kept-taking stays taken.standing.printed kept);
  begun = HoldsAllBut-grows taken.standing.held (grows taken.standing.outcomes taken.standing.printed) (omega arith);
}

-- a session whose input ended has taken the bytes, and written all
pub halted-through : {Wants : Blueprint → Type 0} {work : Work} {session : Session} (end : End) → end ≡ Ended → (halted : HasHalted Wants end work session) → IsThrough Wants halted.opening halted.halts.bytes (on work halted.sink session)
halted-through Ended is halted = halted.halts.stops
halted-through Fault is halted = absurd (let e : Fault ≡ Ended = is in cc)
halted-through Limit is halted = absurd (let e : Limit ≡ Ended = is in cc)

-- all records are written
pub AllTaken-stays : {Wants : Blueprint → Type 0} {opening : Opening} {end : End} {source left : Option (List ℕ)} {old new : RunState} → ((lines : List (List ℕ)) → StandsAt Wants opening lines old → StandsAt Wants opening lines new)
    → (old.flight.printer.lost ≡ true → new.flight.printer.lost ≡ true) → AllTaken Wants opening end source left old → AllTaken Wants opening end source left new
AllTaken-stays {end = end} {old = old} {new = new} stays lost taken = record {
  bytes = taken.bytes;
  rest = taken.rest;
  reads = taken.reads;
  all = λ kept. taken.all (not-lost old.flight.printer.lost new.flight.printer.lost lost kept);
  standing = stays (records_of taken.bytes end) taken.standing;
}
