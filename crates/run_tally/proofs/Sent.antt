-- A `Log` owns nothing, so it may go to another thread.
use denote.Param.Send.{IsSend}
use Rattle.run_tally.specs.contracts.log.Log.{the_row}

pub log-send : IsSend the_row
log-send = record { owned = λ d vs. ((λ vss. (tt, ((λ uss. (tt, tt)), tt))), tt); leaving = λ k f vs. tt }
