-- A `Shown` owns nothing, so it may go to another thread.
use denote.Param.Send.{IsSend}
use Rattle.home_items.specs.contracts.shown.Shown.{the_row}

pub shown-send : IsSend the_row
shown-send = record { owned = λ d vs. ((λ vss. (tt, ((λ uss. (tt, tt)), tt))), tt); leaving = λ k f vs. tt }
