-- What the work on hand 0 leaves of its front.
use Rattle.std.proofs.Common.{◌≡◌, ◌≢◌, ◌≤◌, ℕ, ◌+◌, List, length, refl, sym, subst, arith}
use Rattle.std.specs.Prelude.{Result, Ok, Err, IfOk, IsErr, OnErr, OnOk}
use Rattle.std.proofs.lemmas.Bool.{false≢true}
use Rattle.std.specs.declared.alloc.AllocError.{AllocError}
use Rattle.exec_io.specs.Untouched.{IsUntouched}
use Rattle.plan_shape.specs.Blueprint.{Blueprint}
use Rattle.record_lines.specs.declared.ending.End.TheVariants.{Fault}
use Rattle.record_loop.specs.CaughtUp.{HasCaughtUp}
use Rattle.record_loop.specs.Ran.{Ran}
use Rattle.record_loop.specs.ReadStarts.{ReadsOnly}
use Rattle.record_loop.specs.Standing.{Opening, opened_by}
use Rattle.record_loop.specs.Tallies.{TalliesWith}
use Rattle.record_loop.specs.declared.ending.Ending.{Ending}
use Rattle.record_loop.specs.declared.printer.Form.{Form}
use Rattle.run_tally.specs.Gathered.{Gathered}
use Rattle.record_operations.specs.Runs.{Run, begun_by, work_of}
use Rattle.record_operations.specs.Worked.{HasWorked}
use Rattle.table_steps.specs.Views.{Board}
use Rattle.whole_run.specs.Endings.{Streams, WantsMemory, begins}
use Rattle.whole_run.specs.Fronts.{CameOut}
use Rattle.whole_run.specs.declared.working.Came.{Came}

-- what the loop over records tells, where it answered this
pub record Tells (opening : Opening) (before after : Streams) (collected : List Gathered) (running : ℕ)
    (answer : Result Ending AllocError) : Type 0 where
  pub untouched : OnErr answer (IsUntouched before.source after.source before.sink after.sink)
  pub unread : OnErr answer (after.reads ≡ before.reads)
  pub later : before.source.faults ≤ after.source.faults
  pub still : IfOk answer (λ ending. ending.end ≢ Fault → after.source.faults ≡ before.source.faults)
  pub ran : IfOk answer (Ran WantsMemory opening before.source after.source collected after.sink)
  pub told : IfOk answer (λ ending. TalliesWith collected ending.summary)
  pub ended : IfOk answer (λ _. running ≡ 0)
  pub reads : OnOk answer (ReadsOnly (HasCaughtUp opening before.source.left) before.reads after.reads)

-- so it came out
told-out : (opening : Opening) (before after : Streams) (tally : List Gathered) (answer : Result Ending AllocError) (running claimed : ℕ) →
    Tells opening before after tally running answer → HasWorked opening.plan (length tally + running) claimed →
    CameOut opening before after (record { answer = answer; tally = tally }) claimed
told-out opening before after tally (Ok ending) running claimed tells worked =
    record {
      ends = record { ran = tells.ran; tallied = tells.told; later = tells.later; still = tells.still; reads = tells.reads };
      unbegun = tt;
      worked = record {
        spawned = worked.spawned;
        claims = let all = worked.claims in let none = tells.ended in omega (arith, all, none);
        unspawned = worked.unspawned;
      };
    }
told-out opening before after tally (Err e) running claimed tells worked =
    record { ends = tt; unbegun = record { untouched = tells.untouched; unread = tells.unread }; worked = tt }

-- the run of a table over a plan came out
pub run-out : (plan : Blueprint) (board : Board Blueprint) (window : ℕ) (form : Form) (before after : Streams) (begun ran : Run)
    (tally : List Gathered) (answer : Result Ending AllocError) (had claimed : ℕ) → begun.plan ≡ plan → begun.board ≡ board → had ≡ 0 →
    tally ≡ ran.looped.tally → Tells (opened_by (work_of begun) window form before.sink) before after (work_of ran).collected (work_of ran).running answer →
    ran.plan ≡ begun.plan → HasWorked ran.plan (had + begun_by ran) claimed →
    CameOut (begins plan board.table_id window form before.sink) before after (record { answer = answer; tally = tally }) claimed
run-out plan board window form before after begun ran tally answer had claimed is-plan is-board none is-tally tells same worked =
    subst (λ (p : Blueprint). CameOut (begins p board.table_id window form before.sink) before after (record { answer = answer; tally = tally }) claimed) is-plan
    (subst (λ (b : Board Blueprint). CameOut (begins begun.plan b.table_id window form before.sink) before after (record { answer = answer; tally = tally }) claimed) is-board
    (subst (λ (t : List Gathered). CameOut (opened_by (work_of begun) window form before.sink) before after (record { answer = answer; tally = t }) claimed) (sym is-tally)
    (told-out (opened_by (work_of begun) window form before.sink) before after ran.looped.tally answer (work_of ran).running claimed tells
    (subst (λ (p : Blueprint). HasWorked p (length ran.looped.tally + (work_of ran).running) claimed) same
    (record { spawned = worked.spawned; claims = let all = worked.claims in omega (arith, all, none); unspawned = worked.unspawned })))))

-- where there was no memory for it, nothing was done
pub unbegun-out : (opening : Opening) (streams : Streams) (came : Came) (claimed : ℕ) → IsErr came.answer → CameOut opening streams streams came claimed
unbegun-out opening streams came claimed none = out came.answer came.tally none
  where
    out : (answer : Result Ending AllocError) (tally : List Gathered) → IsErr answer → CameOut opening streams streams (record { answer = answer; tally = tally }) claimed
    out (Ok ending) tally wrong = absurd (false≢true wrong)
    out (Err e) tally is =
        record { ends = tt; unbegun = record { untouched = record { source_same = refl; sink_same = refl }; unread = refl }; worked = tt }

-- where it ended, blocks were claimed for what was collected
pub worked-as : (plan : Blueprint) (claimed : ℕ) (came : Came) (ending : Ending) (tally : List Gathered) → came.answer ≡ Ok ending → tally ≡ came.tally →
    IfOk came.answer (λ _. HasWorked plan (length came.tally) claimed) → HasWorked plan (length tally) claimed
worked-as plan claimed came ending tally is-ok is-tally worked =
    subst (λ (t : List Gathered). HasWorked plan (length t) claimed) (sym is-tally)
    (subst (λ found. IfOk found (λ _. HasWorked plan (length came.tally) claimed)) is-ok worked)
