use denote.Param.Send.{IsSend}
use Rattle.run_tally.proofs.Sent.{log-send}
use Rattle.run_tally.specs.contracts.log.Log.{the_row}

pub send : IsSend the_row
send = log-send
