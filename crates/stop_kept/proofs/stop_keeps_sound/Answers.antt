-- Each kind of step by its own lemma.
use Rattle.stop_kept.proofs.stop_keeps_sound.Goals as goal
use Rattle.stop_kept.proofs.Arm.{sound-arm}
use Rattle.stop_kept.proofs.Look.{sound-look}
use Rattle.stop_kept.proofs.Withdraw.{sound-withdraw}
use Rattle.stop_kept.proofs.Request.{sound-request}
use Rattle.stop_kept.proofs.Run.{sound-run}
use Rattle.stop_kept.proofs.EndRun.{sound-end_run, sound-withdraw_own}
use Rattle.stop_kept.proofs.SealScan.{sound-seal_scan}
use Rattle.stop_kept.proofs.Skip.{sound-skip}

pub returns : goal.returns
returns c =
    record {
      arm = λ place s h sound below may. sound-arm s h place sound below may;
      look = λ source after s h sound below may. sound-look s h source after sound below may;
      request = λ source failure s h sound below may. sound-request s h source failure sound below may;
      run = λ source place s h sound below may. sound-run s h source place sound below may;
      end_run = λ place s h sound below may. sound-end_run s h place sound below may;
      withdraw = λ place s h sound below may. sound-withdraw s h place sound below may;
      withdraw_own = λ place s h sound below may. sound-withdraw_own s h place sound below may;
      seal_scan = λ source s h sound below may. sound-seal_scan s h source sound below may;
      skip = λ block s h sound below may. sound-skip s h block sound below may;
    }
