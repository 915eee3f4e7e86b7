use Rattle.start_laws.proofs.Rooms.{room-there}
use Rattle.start_laws.proofs.alls.room_is_there.Goals as goal

pub returns : goal.returns
returns c = room-there
