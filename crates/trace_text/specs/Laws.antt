-- What holds of the texts of traces and schedules.
use Rattle.std.specs.Prelude.{◌≡◌, ℕ, List, Ok}
use Rattle.trace_text.specs.Reading.{trace_in, schedule_in}
use Rattle.trace_text.specs.Texts.{trace_text, schedule_text}
use Rattle.trace_text.specs.Values.{TraceValue, ScheduleValue, IsTrace}

-- the text of a trace is read as that trace
abbrev pub TextsAreReadBack : Type 0
TextsAreReadBack = (t : TraceValue) → IsTrace t → trace_in (trace_text t) ≡ Ok t

-- a text that is read as a trace is that trace's text
abbrev pub TracesHaveOneText : Type 0
TracesHaveOneText = (bytes : List ℕ) (t : TraceValue) → trace_in bytes ≡ Ok t → trace_text t ≡ bytes

-- a text that is read as a schedule is that schedule's text
abbrev pub SchedulesHaveOneText : Type 0
SchedulesHaveOneText =
    (bytes : List ℕ) (t : ScheduleValue) → schedule_in bytes ≡ Ok t → schedule_text t ≡ bytes
