-- What the fields of a schedule mean.
use Rattle.trace_text.specs.declared.schedule.Schedule.TheInside.{Inside}
use Rattle.trace_text.specs.Values.{ScheduleValue}

abbrev pub schedule_of : Inside → ScheduleValue
schedule_of t = record { opening = t.opening; entries = t.entries.items }
