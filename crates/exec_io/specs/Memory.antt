-- What the objects in memory show of themselves.
use Rattle.std.specs.Prelude.{◌≡◌, if◌then◌else◌, min, length, None, Some, ℕ, ◌+◌, List, [], ◌++◌, take, map, zip, Bool, true, false, String, Vec, string_bytes, vec_items}
use Rattle.std.specs.declared.alloc.Global.{Global}
use Rattle.exec_io.specs.Asked.{Asked, AsksOnce}
use Rattle.exec_io.specs.Calls.{Calls, no_calls, after_call}
use Rattle.exec_io.specs.Shelves.{Texts}
use Rattle.exec_io.specs.Views.{SinkView, SourceView, ShelfView}

-- A source: the bytes that are left to read, and its calls.
pub record SourceState : Type 0 where
  pub left : List ℕ
  pub calls : Calls

-- It tells both.
abbrev pub source_view : SourceState → SourceView
source_view source = record { left = Some source.left; faults = source.calls.faults }

-- A sink: the bytes written, how many aren't handed on, the most that a write takes, and its calls.
pub record SinkState : Type 0 where
  pub bytes : List ℕ
  pub outstanding : ℕ
  pub most : ℕ
  pub calls : Calls

-- It tells all but the most that a write takes.
abbrev pub sink_view : SinkState → SinkView
sink_view sink = record {
  written = Some sink.bytes;
  outstanding = Some sink.outstanding;
  faults = sink.calls.faults;
}

-- A sink into which nothing was written.
abbrev pub no_bytes : ℕ → List ℕ → SinkState
no_bytes most fails = record { bytes = []; outstanding = 0; most = most; calls = no_calls fails }

-- After a write took this many bytes of a piece.
abbrev pub after_write : SinkState → List ℕ → ℕ → SinkState
after_write sink piece count = record sink {
  bytes = sink.bytes ++ take count piece;
  outstanding = sink.outstanding + count;
  calls = after_call sink.calls false;
}

-- After everything was handed on.
abbrev pub after_finish : SinkState → SinkState
after_finish sink = record sink { outstanding = 0; calls = after_call sink.calls false }

-- After a call that failed: only the calls have changed.
abbrev pub after_failure : SinkState → SinkState
after_failure sink = record sink { calls = after_call sink.calls true }

-- A shelf: its texts, the names that it was asked for, and its calls.
pub record ShelfState : Type 0 where
  pub texts : Texts
  pub asked : Asked
  pub calls : Calls

-- It tells all three.
abbrev pub shelf_view : ShelfState → ShelfView
shelf_view shelf =
    record { texts = Some shelf.texts; asked = shelf.asked; faults = shelf.calls.faults }

-- Each name with the text at its place.
abbrev pub named_texts : List (String Global) → List (Vec ℕ Global) → Texts
named_texts names texts = zip (map string_bytes names) (map vec_items texts)

-- After a read of this name, which failed or didn't.
pub record IsAfterRead (old new : ShelfState) (name : List ℕ) (failed : Bool) : Type 0 where
  pub texts : new.texts ≡ old.texts
  pub asked : AsksOnce name old.asked new.asked
  pub calls : new.calls ≡ after_call old.calls failed

-- What never fails: the object that it stands over, and whether it still tells what that one holds.
pub record NeverFailsState (T : Type 0) : Type 0 where
  pub inner : T
  pub tells : Bool

-- A source that never fails tells the bytes that are left.
abbrev pub steady_source : NeverFailsState SourceState → SourceView
steady_source source = record { left = Some source.inner.left; faults = 0 }

-- A sink that never fails tells what the sink under it does, as long as it tells.
abbrev pub steady_sink : NeverFailsState SinkState → SinkView
steady_sink sink = record {
  written = if sink.tells then Some sink.inner.bytes else None;
  outstanding = if sink.tells then Some sink.inner.outstanding else None;
  faults = 0;
}

-- The sink under it took as many bytes as it takes in a write, and nothing else changed.
pub record WritesInner (old new : NeverFailsState SinkState) (piece : List ℕ) (count : ℕ)
    : Type 0 where
  pub took : count ≡ min old.inner.most (length piece)
  pub after : new ≡ record old { inner = after_write old.inner piece count }
