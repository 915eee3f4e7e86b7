-- How a session takes the bytes of a source.
use Rattle.std.proofs.Common.{◌≡◌, ℕ, ◌+◌, ◌<◌, ◌≤◌, Bool, true, false, List, [], ◌∷◌, ◌++◌, length, take, drop, Option, Some, None, refl, sym, ap, ◌∙◌, subst, inl, inr, length-append, append_assoc, append-nil, length-drop, arith}
use Rattle.std.specs.Option.{unwrap_or}
use Rattle.std.specs.Io.KnownBytes.{Consumes, Keeps, IsAtEnd}
use Rattle.std.proofs.lemmas.List.{take-append-drop}
use Rattle.plan_shape.specs.Blueprint.{Blueprint}
use Rattle.record_lines.specs.declared.ending.End.{End}
use Rattle.record_lines.specs.declared.ending.End.TheVariants.{Ended, Fault, Limit}
use Rattle.record_lines.specs.declared.limits.TheConstants.{MOST_RECORDS, MOST_BYTES}
use Rattle.record_lines.specs.declared.line_end.LineEnd.{LineEnd}
use Rattle.record_lines.specs.Lines.{whole_lines}
use Rattle.record_lines.specs.LineEnds.{through}
use Rattle.record_lines.specs.Records.{IsBeyond}
use Rattle.record_lines.specs.Cutters.{Held, StandsAfter, GoesOn, HasLine, EndsLine, line_after}
use Rattle.record_lines.proofs.LimitLaws.{limited_lines-full}
use Rattle.record_lines.proofs.RecordLaws.{IsBeyond-append, IsBeyond-none, full_from_IsBeyond, limit_passed}
use Rattle.record_loop.specs.Cutting.{IsCutting}
use Rattle.record_loop.specs.declared.in_flight.InFlight.{InFlight}
use Rattle.record_loop.specs.declared.session.Session.{Session}
use Rattle.record_loop.specs.Flights.{read_of}
use Rattle.record_loop.specs.Reading.{SessionState, on, run_of, HasRoom, HasTaken, StaysTaking, Advances, PassesLimit, BreaksOff, StandsAfterPiece, Going, Halts, Goes}
use Rattle.record_loop.specs.CaughtUp.{HasCaughtUp}
use Rattle.record_loop.specs.Printing.{Wrote, text_so_far}
use Rattle.record_loop.specs.ReadStarts.{start_of}
use Rattle.exec_io.specs.Views.{SinkView, SourceView}
use Rattle.record_loop.specs.Standing.{Opening, RunState, at, StandsAt}
use Rattle.record_loop.specs.Works.{Work}
use Rattle.record_loop.proofs.StandingLaws.{read-count, read-lines}
use Rattle.record_loop.proofs.SourceLaws.{whole_lines-nil, rest_of-nil, Consumes-trans, rest_of-through, Consumes-kept}

module _ {Wants : Blueprint → Type 0} {opening : Opening} where
  -- a run stands with these lines, which are those
  pub stands-as : {xs ys : List (List ℕ)} (run : RunState) → xs ≡ ys → StandsAt Wants opening xs run → StandsAt Wants opening ys run
  stands-as run same standing = subst (λ (lines : List (List ℕ)). StandsAt Wants opening lines run) same standing

  -- a session that has taken no bytes
  pub TakenAt-nil : (work : Work) (sink : SinkView) (flight : InFlight) (session : Session) → IsCutting flight session → StandsAt Wants opening [] (at work sink flight) → HasTaken Wants opening [] (on work sink session)
  TakenAt-nil work sink flight session cutting standing = record {
    standing = stands-as (at work sink session.flight) (sym whole_lines-nil)
        (subst (λ (f : InFlight). StandsAt Wants opening [] (at work sink f)) (sym cutting.flight_is) standing);
    stands = cutting.stands;
    taken = cutting.taken;
    room = inr (omega (arith, ap length whole_lines-nil), rest_of-nil);
  }

  -- as many records were read as lines ended
  pub taken-count : {bytes : List ℕ} {place : SessionState} → HasTaken Wants opening bytes place → read_of place.session.flight ≡ length (whole_lines bytes)
  taken-count taken = read-count taken.standing

  -- a piece without a line feed is taken
  pub Advances-goes_on : (piece : List ℕ) {bytes : List ℕ} {work : Work} {sink : SinkView} {old new : Session} → HasTaken Wants opening bytes (on work sink old) → read_of old.flight < MOST_RECORDS → GoesOn piece new.cutter bytes → new.flight ≡ old.flight → new.taken ≡ old.taken + length piece → Advances Wants opening bytes piece [] (on work sink new)
  Advances-goes_on piece {bytes = bytes} {work = work} {sink = sink} {old = old} {new = new} at_old few goes flight taken = record {
    front = piece;
    split = sym (append-nil piece);
    taken = record {
      standing = stands-as (at work sink new.flight) (sym goes.lines)
          (subst (λ (f : InFlight). StandsAt Wants opening (whole_lines bytes) (at work sink f)) (sym flight) at_old.standing);
      stands = goes.stands;
      taken = omega (arith, taken, at_old.taken, length-append bytes piece);
      room = inl (omega (arith, few, ap length goes.lines, taken-count at_old));
    };
  }

  -- a line is ended and taken
  pub Advances-ends : (piece : List ℕ) (end : LineEnd) {bytes : List ℕ} {before after : Work} {now later : SinkView} {old new : Session} → HasTaken Wants opening bytes (on before now old) → read_of old.flight < MOST_RECORDS → EndsLine new.cutter bytes end → piece ≡ through end ++ end.rest.now
      → ((lines : List (List ℕ)) (line : List ℕ) → HasLine new.cutter end line → StandsAt Wants opening lines (at before now old.flight) → StandsAt Wants opening (lines ++ line ∷ []) (at after later new.flight))
      → new.taken + length end.rest.now ≡ old.taken + length piece → Advances Wants opening bytes piece end.rest.now (on after later new)
  Advances-ends piece end {bytes = bytes} {after = after} {later = later} {new = new} at_old few ends split takes taken = record {
    front = through end;
    split = split;
    taken = record {
      standing = stands-as (at after later new.flight) (sym ends.lines) (takes (whole_lines bytes) (line_after bytes end) ends.line at_old.standing);
      stands = ends.stands;
      taken = omega (arith, taken, at_old.taken, length-append bytes (through end), ap length split, length-append (through end) end.rest.now);
      room = inr (
        omega (arith, few, ap length ends.lines, length-append (whole_lines bytes) (line_after bytes end ∷ []), taken-count at_old),
        rest_of-through bytes end.front.now,
      );
    };
  }

  -- nothing of the piece is taken yet
  pub Advances-none : (bytes piece : List ℕ) {place : SessionState} → HasTaken Wants opening bytes place → Advances Wants opening bytes piece piece place
  Advances-none bytes piece {place = place} taken = record {
    front = [];
    split = refl;
    taken = subst (λ (bs : List ℕ). HasTaken Wants opening bs place) (sym (append-nil bytes)) taken;
  }

  -- the records in flight went on meanwhile
  pub Advances-stays : {bytes piece left : List ℕ} {place next : SessionState} → ((bs : List ℕ) → HasTaken Wants opening bs place → HasTaken Wants opening bs next) → Advances Wants opening bytes piece left place → Advances Wants opening bytes piece left next
  Advances-stays {bytes = bytes} stays advances = record {
    front = advances.front;
    split = advances.split;
    taken = stays (bytes ++ advances.front) advances.taken;
  }

  -- one part of a piece after another
  pub Advances-trans : (bytes piece left more : List ℕ) {place next : SessionState} → Advances Wants opening bytes piece left place
      → ((bs : List ℕ) → HasTaken Wants opening bs place → Advances Wants opening bs left more next)
      → Advances Wants opening bytes piece more next
  Advances-trans bytes piece left more {next = next} first goes =
      let second = goes (bytes ++ first.front) first.taken in
      record {
        front = first.front ++ second.front;
        split = first.split ∙ ap (λ bs. first.front ++ bs) second.split ∙ sym (append_assoc first.front second.front more);
        taken = subst (λ (bs : List ℕ). HasTaken Wants opening bs next) (append_assoc bytes first.front second.front) second.taken;
      }

  -- all of a piece is taken
  pub TakenAt-all : (bytes piece left : List ℕ) {place : SessionState} → Advances Wants opening bytes piece left place → length left ≡ 0 → HasTaken Wants opening (bytes ++ piece) place
  TakenAt-all bytes piece [] {place = place} advances none =
      subst (λ (bs : List ℕ). HasTaken Wants opening (bytes ++ bs) place) (sym (advances.split ∙ append-nil advances.front)) advances.taken
  TakenAt-all bytes piece (b ∷ left) advances none = absurd (omega arith)

  -- a byte that is left after the most records passes the limit
  pub PassesLimit-left : (bytes piece left : List ℕ) {place : SessionState} → Advances Wants opening bytes piece left place → (left ≡ [] → ⊥) → read_of place.session.flight ≡ MOST_RECORDS → place.session.taken ≤ MOST_BYTES → PassesLimit Wants opening (bytes ++ piece) (run_of place)
  PassesLimit-left bytes piece [] advances some full size = absurd (some refl)
  PassesLimit-left bytes piece (b ∷ left) {place = place} advances some full size =
      let taken = bytes ++ advances.front in
      let lines : length (whole_lines taken) ≡ MOST_RECORDS = omega (arith, full, taken-count advances.taken) in
      let passed = limit_passed taken b left (omega (arith, size, advances.taken.taken)) (omega (arith, lines)) (inr (omega (arith, lines))) in
      let whole : bytes ++ piece ≡ taken ++ b ∷ left = ap (λ bs. bytes ++ bs) advances.split ∙ sym (append_assoc bytes advances.front (b ∷ left)) in
      let P : List ℕ → Type 0 = λ bs. PassesLimit Wants opening bs (run_of place) in
      subst P (sym whole) (record { beyond = passed.0; standing = stands-as (run_of place) (sym passed.1) advances.taken.standing })

  -- more bytes leave a limit passed, with the same records
  pub PassesLimit-more : (bytes more : List ℕ) {run : RunState} → PassesLimit Wants opening bytes run → PassesLimit Wants opening (bytes ++ more) run
  PassesLimit-more bytes more {run = run} passes = record {
    beyond = IsBeyond-append bytes more passes.beyond;
    standing = stands-as run (sym (limited_lines-full bytes more (full_from_IsBeyond bytes passes.beyond))) passes.standing;
  }

  -- a byte after the most bytes passes the limit
  PassesLimit-bytes : (bytes : List ℕ) (b : ℕ) (more : List ℕ) {place : SessionState} → HasTaken Wants opening bytes place → length bytes ≡ MOST_BYTES → length (whole_lines bytes) ≤ MOST_RECORDS → PassesLimit Wants opening (bytes ++ b ∷ more) (run_of place)
  PassesLimit-bytes bytes b more {place = place} taken size few =
      let passed = limit_passed bytes b more (omega (arith, size)) few (inl (omega (arith, size))) in
      record { beyond = passed.0; standing = stands-as (run_of place) (sym passed.1) taken.standing }

  -- what is taken passes no limit
  pub taken-within : {bytes : List ℕ} {place : SessionState} → HasTaken Wants opening bytes place → IsBeyond bytes → ⊥
  taken-within {bytes = bytes} {place = place} taken = IsBeyond-none bytes (omega (arith, place.session.few_bytes, taken.taken)) taken.room

  -- a write was lost, and what is left of a piece is not taken
  pub BreaksOff-left : (bytes piece left : List ℕ) {place next : SessionState} → Advances Wants opening bytes piece left place → StaysTaking Wants place next → next.session.flight.printer.lost ≡ true → BreaksOff Wants opening (bytes ++ piece) (run_of next)
  BreaksOff-left bytes piece left advances stays lost =
      let taken = stays opening (bytes ++ advances.front) advances.taken in
      record {
        front = bytes ++ advances.front;
        rest = left;
        split = ap (λ bs. bytes ++ bs) advances.split ∙ sym (append_assoc bytes advances.front left);
        all = λ kept. cc;
        within = taken-within taken;
        standing = taken.standing;
      }

  -- more bytes are not taken either
  BreaksOff-more : (bytes more : List ℕ) {run : RunState} → run.flight.printer.lost ≡ true → BreaksOff Wants opening bytes run → BreaksOff Wants opening (bytes ++ more) run
  BreaksOff-more bytes more lost breaks = record {
    front = breaks.front;
    rest = breaks.rest ++ more;
    split = ap (λ bs. bs ++ more) breaks.split ∙ append_assoc breaks.front breaks.rest more;
    all = λ kept. cc;
    within = breaks.within;
    standing = breaks.standing;
  }

  -- the records in flight went on, and no bytes were taken
  pub TakenAt-stays : {bytes : List ℕ} {before after : Work} {now later : SinkView} {old new : Session} → ((lines : List (List ℕ)) → StandsAt Wants opening lines (at before now old.flight) → StandsAt Wants opening lines (at after later new.flight)) → new.cutter ≡ old.cutter → new.taken ≡ old.taken → HasTaken Wants opening bytes (on before now old) → HasTaken Wants opening bytes (on after later new)
  TakenAt-stays {bytes = bytes} stays cutter same taken = record {
    standing = stays (whole_lines bytes) taken.standing;
    stands = subst (λ (held : Held). StandsAfter held bytes) (sym cutter) taken.stands;
    taken = same ∙ taken.taken;
    room = taken.room;
  }

  -- a piece is read and taken
  pub Going-more : {source left rest : Option (List ℕ)} (piece : List ℕ) {place next : SessionState} → Consumes left rest piece → ((bytes : List ℕ) → HasTaken Wants opening bytes place → HasTaken Wants opening (bytes ++ piece) next) → Going Wants opening source left place → Going Wants opening source rest next
  Going-more {source = source} {left = left} {rest = rest} piece consumed takes going = record {
    bytes = going.bytes ++ piece;
    consumed = Consumes-trans source left rest going.bytes piece going.consumed consumed;
    taken = takes going.bytes going.taken;
  }

  -- the records in flight went on
  pub Going-stays : {source left : Option (List ℕ)} {place next : SessionState} → ((bytes : List ℕ) → HasTaken Wants opening bytes place → HasTaken Wants opening bytes next) → Going Wants opening source left place → Going Wants opening source left next
  Going-stays stays going = record { bytes = going.bytes; consumed = going.consumed; taken = stays going.bytes going.taken }

  -- nothing more is read, since a write was lost or the source failed
  pub Halts-fault : {source left : Option (List ℕ)} {place : SessionState} (rest : Option (List ℕ)) → Keeps left rest → Going Wants opening source left place → Halts Wants opening Fault source rest place
  Halts-fault {source = source} {left = left} rest kept going = record {
    bytes = going.bytes;
    consumed = Consumes-kept source left rest going.bytes going.consumed kept;
    at_end = λ is. cc;
    stops = record {
      front = going.bytes;
      rest = [];
      split = sym (append-nil going.bytes);
      all = λ _. refl;
      within = taken-within going.taken;
      standing = going.taken.standing;
    };
  }

  -- the source is at its end
  pub Halts-ended : {source left : Option (List ℕ)} {place : SessionState} (rest : Option (List ℕ)) (count : ℕ) (piece : List ℕ) → count ≡ 0 → Consumes left rest (take count piece) → IsAtEnd rest → place.session.flight.slots.items ≡ [] → place.session.flight.printer.lost ≡ false → Going Wants opening source left place → Halts Wants opening Ended source rest place
  Halts-ended {source = source} {left = left} rest count piece none consumed at_end written kept going = record {
    bytes = going.bytes;
    consumed = subst (Consumes source rest) (append-nil going.bytes)
        (Consumes-trans source left rest going.bytes [] going.consumed (subst (λ (n : ℕ). Consumes left rest (take n piece)) none consumed));
    at_end = λ _. at_end;
    stops = record { taken = going.taken; none = written; kept = kept };
  }

  -- nothing is read yet
  pub Going-nil : (source : Option (List ℕ)) {place : SessionState} → HasTaken Wants opening [] place → Going Wants opening source source place
  Going-nil source taken = record { bytes = []; consumed = consumed source; taken = taken }
    where
      consumed : (known : Option (List ℕ)) → Consumes known known []
      consumed None = tt
      consumed (Some xs) = refl

-- bytes are left after the most bytes, or after a front that was taken as far as it could be
StandsAfterPiece-over : (Wants : Blueprint → Type 0) (opening : Opening) (front left : List ℕ) (result : Option End) (place : SessionState) → 0 < length left → (result ≡ None → place.session.taken ≡ MOST_BYTES) → (result ≡ Some Fault → place.session.flight.printer.lost ≡ true)
    → StandsAfterPiece Wants opening result front place → StandsAfterPiece Wants opening (Some (unwrap_or result Limit)) (front ++ left) place
StandsAfterPiece-over Wants opening front [] result place some full lost takes = absurd (omega arith)
StandsAfterPiece-over Wants opening front (b ∷ left) None place some full lost taken = PassesLimit-bytes front b left taken (sym taken.taken ∙ full refl) (HasRoom-few front taken.room)
  where
    HasRoom-few : (bytes : List ℕ) → HasRoom bytes → length (whole_lines bytes) ≤ MOST_RECORDS
    HasRoom-few bytes (inl fewer) = omega arith
    HasRoom-few bytes (inr whole) = whole.0
StandsAfterPiece-over Wants opening front (b ∷ left) (Some Limit) place some full lost passes = PassesLimit-more front (b ∷ left) passes
StandsAfterPiece-over Wants opening front (b ∷ left) (Some Fault) place some full lost breaks = BreaksOff-more front (b ∷ left) (lost refl) breaks
StandsAfterPiece-over Wants opening front (b ∷ left) (Some Ended) place some full lost none = absurd none

-- a piece that is longer than the limit of bytes allows is taken as far as it can be
pub StandsAfterPiece-cut : (Wants : Blueprint → Type 0) (opening : Opening) (bytes piece : List ℕ) (room : ℕ) (result : Option End) (place : SessionState) → room < length piece → (result ≡ None → place.session.taken ≡ MOST_BYTES) → (result ≡ Some Fault → place.session.flight.printer.lost ≡ true)
    → StandsAfterPiece Wants opening result (bytes ++ take room piece) place → StandsAfterPiece Wants opening (Some (unwrap_or result Limit)) (bytes ++ piece) place
StandsAfterPiece-cut Wants opening bytes piece room result place longer full lost takes =
    let whole = append_assoc bytes (take room piece) (drop room piece) ∙ ap (λ bs. bytes ++ bs) (take-append-drop room piece) in
    subst (λ (bs : List ℕ). StandsAfterPiece Wants opening (Some (unwrap_or result Limit)) bs place) whole
    (StandsAfterPiece-over Wants opening (bytes ++ take room piece) (drop room piece) result place (omega (arith, length-drop room piece)) full lost takes)

-- a piece is read and taken as far as it can be
pub Goes-piece : (Wants : Blueprint → Type 0) (opening : Opening) (end : Option End) (source left rest : Option (List ℕ)) (piece : List ℕ) (place next : SessionState) → Consumes left rest piece → ((bytes : List ℕ) → HasTaken Wants opening bytes place → StandsAfterPiece Wants opening end (bytes ++ piece) next) → Going Wants opening source left place → Goes Wants opening end source rest next
Goes-piece Wants opening None source left rest piece place next consumed takes going = Going-more piece consumed takes going
Goes-piece Wants opening (Some Limit) source left rest piece place next consumed takes going = record {
  bytes = going.bytes ++ piece;
  consumed = Consumes-trans source left rest going.bytes piece going.consumed consumed;
  at_end = λ is. cc;
  stops = takes going.bytes going.taken;
}
Goes-piece Wants opening (Some Fault) source left rest piece place next consumed takes going = record {
  bytes = going.bytes ++ piece;
  consumed = Consumes-trans source left rest going.bytes piece going.consumed consumed;
  at_end = λ is. cc;
  stops = takes going.bytes going.taken;
}
Goes-piece Wants opening (Some Ended) source left rest piece place next consumed takes going = absurd (takes going.bytes going.taken)

-- out has caught up where all records in flight are written and handed on, and no write was lost
pub caught-up : {Wants : Blueprint → Type 0} {opening : Opening} {source : Option (List ℕ)} {place : SessionState} (told : SourceView) → Going Wants opening source told.left place → place.session.flight.slots.items ≡ [] → place.session.flight.printer.lost ≡ false → place.session.flight.printer.due ≡ false
    → HasCaughtUp opening source (start_of told place.sink)
caught-up {opening = opening} {place = place} told going none kept handed =
    let standing = going.taken.standing in
    let printed = standing.printed.wrote in
    let P : Bool → Type 0 = λ lost. Wrote (text_so_far opening.form standing.outcomes) opening.sink place.sink place.session.flight.printer.due lost in
    let Q : Bool → Type 0 = λ due. Wrote (text_so_far opening.form standing.outcomes) opening.sink place.sink due false in
    record {
      bytes = going.bytes;
      read = going.consumed;
      outcomes = standing.outcomes;
      as_many = omega (arith, read-lines standing, ap length none);
      wrote = subst Q handed (subst P kept printed);
    }

-- a list with an element isn't empty
pub some_left : (xs : List ℕ) → 0 < length xs → xs ≡ [] → ⊥
some_left [] some none = omega arith
some_left (x ∷ xs) some none = cc
