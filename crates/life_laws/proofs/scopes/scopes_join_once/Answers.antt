use Rattle.life_laws.proofs.scopes.scopes_join_once.Goals as goal
use Rattle.life_laws.proofs.Laws.{joined-is_empty, leaves-once, counts-few, requested-by_hand_0}

pub returns : goal.returns
returns c = record { joined_is_empty = joined-is_empty; leaves_once = leaves-once; counts_few = counts-few; requested_by_hand_0 = requested-by_hand_0 }
