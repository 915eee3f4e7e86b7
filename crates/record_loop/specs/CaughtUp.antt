-- What out holds when a read begins.
use Rattle.std.specs.Prelude.{◌≡◌, ℕ, false, List, length, Option}
use Rattle.std.specs.Io.KnownBytes.{Consumes}
use Rattle.exec_value.specs.declared.outcome.Outcome.{Outcome}
use Rattle.record_lines.specs.Lines.{whole_lines}
use Rattle.record_loop.specs.Printing.{Wrote, text_so_far}
use Rattle.record_loop.specs.ReadStarts.{ReadStart}
use Rattle.record_loop.specs.Standing.{Opening}

-- Out has caught up with the source, which told this when the run began: for each record whose line
-- feed was read the outcome is written, and handed on, and no write was lost.
pub record HasCaughtUp (opening : Opening) (source : Option (List ℕ)) (start : ReadStart)
    : Type 0 where
  pub bytes : List ℕ
  pub read : Consumes source start.left bytes
  pub outcomes : List Outcome
  pub as_many : length outcomes ≡ length (whole_lines bytes)
  pub wrote : Wrote (text_so_far opening.form outcomes) opening.sink start.out false false
