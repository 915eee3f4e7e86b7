-- What the fields of a trace mean.
use Rattle.trace_text.specs.declared.trace.Trace.TheInside.{Inside}
use Rattle.trace_text.specs.Values.{TraceValue}

abbrev pub trace_of : Inside → TraceValue
trace_of t = record { opening = t.opening; entries = t.entries.items }
