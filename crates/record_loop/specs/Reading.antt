-- What a session over the bytes of a source has read, and where it stands.
use Rattle.std.specs.Prelude.{◌≡◌, ◌≢◌, ◌⊎◌, ℕ, ◌<◌, ◌≤◌, false, List, [], ◌++◌, length, Option, None, Some}
use Rattle.std.specs.Io.KnownBytes.{Consumes, IsAtEnd}
use Rattle.plan_shape.specs.Blueprint.{Blueprint}
use Rattle.record_lines.specs.declared.ending.End.{End}
use Rattle.record_lines.specs.declared.ending.End.TheVariants.{Ended, Fault, Limit}
use Rattle.record_lines.specs.declared.limits.TheConstants.{MOST_RECORDS}
use Rattle.record_lines.specs.Lines.{whole_lines, rest_of}
use Rattle.record_lines.specs.Records.{records_of, IsBeyond}
use Rattle.record_lines.specs.Cutters.{StandsAfter}
use Rattle.record_loop.specs.declared.session.Session.{Session}
use Rattle.exec_io.specs.Views.{SinkView}
use Rattle.record_loop.specs.CaughtUp.{HasCaughtUp}
use Rattle.record_loop.specs.ReadStarts.{ReadStart, ReadsOnly}
use Rattle.record_loop.specs.Standing.{Opening, RunState, at, StandsAt}
use Rattle.record_loop.specs.Works.{Work}

-- What a call sees of a session: the operations, the sink, and the session itself.
pub record SessionState : Type 0 where
  pub work : Work
  pub sink : SinkView
  pub session : Session

abbrev pub on : Work → SinkView → Session → SessionState
on work sink session = record { work = work; sink = sink; session = session }

-- The records in flight there.
abbrev pub run_of : SessionState → RunState
run_of place = at place.work place.sink place.session.flight

-- One more record may come: there are fewer than the most, or as many and no byte after them.
abbrev pub HasRoom : List ℕ → Type 0
HasRoom bytes =
    (length (whole_lines bytes) < MOST_RECORDS)
    ⊎ ((length (whole_lines bytes) ≤ MOST_RECORDS) × (rest_of bytes ≡ []))

-- The session has taken these bytes, and the lines that end in them.
pub record HasTaken (WantsMemory : Blueprint → Type 0) (opening : Opening) (bytes : List ℕ)
    (place : SessionState) : Type 0 where
  pub standing : StandsAt WantsMemory opening (whole_lines bytes) (run_of place)
  pub stands : StandsAfter place.session.cutter bytes
  pub taken : place.session.taken ≡ length bytes
  pub room : HasRoom bytes

-- A session goes on.
pub record IsTaking (WantsMemory : Blueprint → Type 0) (place : SessionState) : Type 0 where
  pub opening : Opening
  pub bytes : List ℕ
  pub taken : HasTaken WantsMemory opening bytes place

-- A session starts: it has taken no bytes.
pub record StartsAt (WantsMemory : Blueprint → Type 0) (place : SessionState) : Type 0 where
  pub opening : Opening
  pub taken : HasTaken WantsMemory opening [] place

-- A session that has taken bytes before a call has taken the same ones afterwards.
abbrev pub StaysTaking : (Blueprint → Type 0) → SessionState → SessionState → Type 0
StaysTaking WantsMemory old new =
    (opening : Opening) (bytes : List ℕ) → HasTaken WantsMemory opening bytes old
    → HasTaken WantsMemory opening bytes new

-- The session has taken a front of a piece too, and the rest of it is left.
pub record Advances (WantsMemory : Blueprint → Type 0) (opening : Opening)
    (bytes piece left : List ℕ) (place : SessionState) : Type 0 where
  pub front : List ℕ
  pub split : piece ≡ front ++ left
  pub taken : HasTaken WantsMemory opening (bytes ++ front) place

-- A call takes a front of a piece, and leaves the rest.
abbrev pub TakesFront : (Blueprint → Type 0) → List ℕ → List ℕ → SessionState → SessionState
    → Type 0
TakesFront WantsMemory piece left old new =
    (opening : Opening) (bytes : List ℕ) → HasTaken WantsMemory opening bytes old
    → Advances WantsMemory opening bytes piece left new

-- The bytes pass a limit, and the lines within it are taken.
pub record PassesLimit (WantsMemory : Blueprint → Type 0) (opening : Opening) (bytes : List ℕ)
    (run : RunState) : Type 0 where
  pub beyond : IsBeyond bytes
  pub standing : StandsAt WantsMemory opening (records_of bytes Limit) run

-- Of the bytes a front is taken, with the lines that end in it: all of them, unless a write was
-- lost.
pub record BreaksOff (WantsMemory : Blueprint → Type 0) (opening : Opening) (bytes : List ℕ)
    (run : RunState) : Type 0 where
  pub front : List ℕ
  pub rest : List ℕ
  pub split : bytes ≡ front ++ rest
  pub all : run.flight.printer.lost ≡ false → rest ≡ []
  pub within : ¬ IsBeyond front
  pub standing : StandsAt WantsMemory opening (whole_lines front) run

-- All is taken and written, no write was lost, and nothing is left to read.
pub record IsThrough (WantsMemory : Blueprint → Type 0) (opening : Opening) (bytes : List ℕ)
    (place : SessionState) : Type 0 where
  pub taken : HasTaken WantsMemory opening bytes place
  pub none : place.session.flight.slots.items ≡ []
  pub kept : place.session.flight.printer.lost ≡ false

-- How a session stands after the last bytes that it read.
abbrev pub EndsReading : (Blueprint → Type 0) → Opening → End → List ℕ → SessionState → Type 0
EndsReading WantsMemory opening Limit bytes place =
    PassesLimit WantsMemory opening bytes (run_of place)
EndsReading WantsMemory opening Fault bytes place = BreaksOff WantsMemory opening bytes
    (run_of place)
EndsReading WantsMemory opening Ended bytes place = IsThrough WantsMemory opening bytes place

-- How it stands after a piece that it took as far as it could: it goes on, or reads no more.
abbrev pub StandsAfterPiece : (Blueprint → Type 0) → Opening → Option End → List ℕ → SessionState
    → Type 0
StandsAfterPiece WantsMemory opening None bytes place = HasTaken WantsMemory opening bytes place
StandsAfterPiece WantsMemory opening (Some Ended) bytes place = ⊥
StandsAfterPiece WantsMemory opening (Some Fault) bytes place =
    BreaksOff WantsMemory opening bytes (run_of place)
StandsAfterPiece WantsMemory opening (Some Limit) bytes place =
    PassesLimit WantsMemory opening bytes (run_of place)

-- A call takes a piece, as far as it can.
abbrev pub TakesPiece : (Blueprint → Type 0) → List ℕ → Option End → SessionState → SessionState
    → Type 0
TakesPiece WantsMemory piece end old new =
    (opening : Opening) (bytes : List ℕ) → HasTaken WantsMemory opening bytes old
    → StandsAfterPiece WantsMemory opening end (bytes ++ piece) new

-- Since the start the session has read bytes of a source and taken them.
pub record Going (WantsMemory : Blueprint → Type 0) (opening : Opening)
    (source left : Option (List ℕ)) (place : SessionState) : Type 0 where
  pub bytes : List ℕ
  pub consumed : Consumes source left bytes
  pub taken : HasTaken WantsMemory opening bytes place

-- The session reads no more.
pub record Halts (WantsMemory : Blueprint → Type 0) (opening : Opening) (end : End)
    (source left : Option (List ℕ)) (place : SessionState) : Type 0 where
  pub bytes : List ℕ
  pub consumed : Consumes source left bytes
  pub at_end : end ≡ Ended → IsAtEnd left
  pub stops : EndsReading WantsMemory opening end bytes place

-- A session reads no more, after some bytes of a source, over some sink.
pub record HasHalted (WantsMemory : Blueprint → Type 0) (end : End) (work : Work)
    (session : Session) : Type 0 where
  pub sink : SinkView
  pub opening : Opening
  pub source : Option (List ℕ)
  pub left : Option (List ℕ)
  pub halts : Halts WantsMemory opening end source left (on work sink session)

-- The session goes on, or reads no more.
abbrev pub Goes : (Blueprint → Type 0) → Opening → Option End → Option (List ℕ)
    → Option (List ℕ) → SessionState → Type 0
Goes WantsMemory opening None source left place = Going WantsMemory opening source left place
Goes WantsMemory opening (Some end) source left place =
    Halts WantsMemory opening end source left place

-- A call reads on, where this was left before and after it: the session goes on then, or reads no
-- more.
abbrev pub ReadsOn : (Blueprint → Type 0) → Option End → Option (List ℕ) → Option (List ℕ)
    → SessionState → SessionState → Type 0
ReadsOn WantsMemory end before after old new =
    (opening : Opening) (source : Option (List ℕ)) → Going WantsMemory opening source before old
    → Goes WantsMemory opening end source after new

-- Whenever such a call read, out had caught up.
abbrev pub ReadsCaughtUp : (Blueprint → Type 0) → Option (List ℕ) → SessionState
    → Option (List ReadStart) → Option (List ReadStart) → Type 0
ReadsCaughtUp WantsMemory left old before after =
    (opening : Opening) (source : Option (List ℕ)) → Going WantsMemory opening source left old
    → ReadsOnly (HasCaughtUp opening source) before after

-- Bytes were read of a source until this end, and the records of these were taken, after which that
-- rest was read too: at the end none is left, and a limit is passed where that is it.
pub record Reads (source left : Option (List ℕ)) (end : End) (bytes rest : List ℕ) : Type 0 where
  pub consumed : Consumes source left (bytes ++ rest)
  pub at_end : end ≡ Ended → IsAtEnd left
  pub beyond : end ≡ Limit → IsBeyond bytes
  pub within : end ≢ Limit → ¬ IsBeyond bytes

-- Bytes were read until this end, and their records are taken, but of a rest that was read when a
-- write was lost.
pub record AllTaken (WantsMemory : Blueprint → Type 0) (opening : Opening) (end : End)
    (source left : Option (List ℕ)) (run : RunState) : Type 0 where
  pub bytes : List ℕ
  pub rest : List ℕ
  pub reads : Reads source left end bytes rest
  pub all : run.flight.printer.lost ≡ false → rest ≡ []
  pub standing : StandsAt WantsMemory opening (records_of bytes end) run

-- A session whose reading ended has all taken that is to be taken.
abbrev pub TakesAll : (Blueprint → Type 0) → End → SessionState → RunState → Type 0
TakesAll WantsMemory end old new =
    (opening : Opening) (source left : Option (List ℕ))
    → Halts WantsMemory opening end source left old →
    AllTaken WantsMemory opening end source left new
