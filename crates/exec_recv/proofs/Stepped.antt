-- What a step did, seen from views and homes.
use Rattle.std.proofs.Common.{refl}
use Rattle.life_rules.specs.declared.event.Name.{Name}
use Rattle.plan_shape.specs.Blueprint.{Blueprint}
use Rattle.table_steps.specs.Views.{Board}
use Rattle.exec_recv.specs.declared.next.Next.{Next}
use Rattle.exec_recv.specs.Seats.{HandSeat}
use Rattle.exec_recv.specs.Sites.{Does, Did}

pub did-so : (does : Does) (board : Board Blueprint) (x : Name) (next : Next) (old new : HandSeat) → does board x next old new →
    Did does board x next old.me new.me
did-so does board x next old new did = record { old = old; new = new; old_is = refl; new_is = refl; did = did }
