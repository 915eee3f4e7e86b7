use denote.Param.Send.{IsSend}
use Rattle.home_items.proofs.Sent.{shown-send}
use Rattle.home_items.specs.contracts.shown.Shown.{the_row}

pub send : IsSend the_row
send = shown-send
