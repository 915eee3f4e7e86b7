use Rattle.life_kept.proofs.life_keeps_sound.Goals as goal
use Rattle.life_kept.proofs.Claim.{sound-claim}
use Rattle.life_kept.proofs.Begin.{sound-begin}
use Rattle.life_kept.proofs.Await.{sound-await}
use Rattle.life_kept.proofs.RestTake.{sound-rest, sound-take}
use Rattle.life_kept.proofs.Finish.{sound-finish}
use Rattle.life_kept.proofs.Report.{sound-report}
use Rattle.life_kept.proofs.Release.{sound-release}

pub returns : goal.returns
returns c = record {
  claim = λ block s hand sound below may. sound-claim s hand block sound below may;
  begin = λ place s hand sound below may. sound-begin s hand place sound below may;
  awaits = λ place nodes s hand sound below may. sound-await s hand place nodes sound below may;
  rest = λ place to s hand sound below may. sound-rest s hand place to sound below may;
  take = λ place s hand sound below may. sound-take s hand place sound below may;
  finish = λ place s hand sound below may. sound-finish s hand place sound below may;
  report = λ place s hand sound below may. sound-report s hand place sound below may;
  release = λ block s hand sound below may. sound-release s hand block sound below may;
}
