-- What becomes of a stream of numbers.
use Rattle.std.specs.Prelude.{◌≡◌, ℕ, ℤ, false, List, [], map, Option, None, Some}
use Rattle.std.specs.Option.{option_and_then}
use Rattle.exec_io.specs.Views.{SinkView, SourceView}
use Rattle.exec_value.specs.Number.{int_of}
use Rattle.exec_value.specs.declared.outcome.Outcome.{Outcome}
use Rattle.exec_value.specs.declared.outcome.Outcome.TheVariants.{Done, BadRecord}
use Rattle.record_lines.specs.Lines.{text_of}
use Rattle.record_lines.specs.Records.{records_of}
use Rattle.record_loop.specs.Printing.{Finished}
use Rattle.record_loop.specs.Reading.{Reads}
use Rattle.record_loop.specs.declared.printer.Form.TheVariants.{Lines}
use Rattle.record_loop.specs.Tallies.{IsToldBy}
use Rattle.whole_run.specs.Accounts.{IsClosedFor}
use Rattle.whole_run.specs.declared.account.Account.{Account}
use Rattle.by_example.specs.Adder.{next_of, pool_adder}
use Rattle.by_example.specs.declared.streaming.TheConstants.{WINDOW}

-- the number that a line shows
abbrev pub number_of : List ℕ → Option ℤ
number_of line = option_and_then int_of (text_of line)

-- a number is answered by the next, or by the error `overflow`
abbrev pub answered : Option ℤ → Outcome
answered None = BadRecord
answered (Some number) = Done (next_of number)

abbrev pub outcome_of : List ℕ → Outcome
outcome_of line = answered (number_of line)

-- Of the source bytes were read until the end that the account names, and each of their lines was
-- answered so in the sink, in order, but those of a rest that was read when a write was lost. Each
-- number was answered by an operation of one table, which was closed with its scope joined and each
-- block given back.
pub record AddsOneToEach {S K : Type 0} (source : S → SourceView) (sink : K → SinkView)
    (old new : S) (before after : K) (account : Account) : Type 0 where
  pub bytes : List ℕ
  pub rest : List ℕ
  pub reads : Reads (source old).left (source new).left account.ending.end bytes rest
  pub all : account.ending.lost ≡ false → rest ≡ []
  pub printed : Finished Lines (sink before) (sink after) account.ending.summary account.ending.lost
      (map outcome_of (records_of bytes account.ending.end))
  pub told : IsToldBy pool_adder account.closing.board.table_id
      (map outcome_of (records_of bytes account.ending.end)) account.tally
  pub closed : IsClosedFor pool_adder WINDOW account.tally account.closing
