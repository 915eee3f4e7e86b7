-- How a node that has just begun listens to the source above it.
use Rattle.std.specs.Prelude.{◌≡◌, Bool, true, false}
use Rattle.life_rules.specs.declared.event.Name.{Name}
use Rattle.plan_shape.specs.Blueprint.{Blueprint}
use Rattle.table_steps.specs.Views.{Board}
use Rattle.stop_calls.specs.declared.arming.Armed.{Armed}
use Rattle.stop_calls.specs.Armings.{is_asked, IsArmedSo}
use Rattle.exec_recv.specs.Seats.{HandSeat}
use Rattle.step_parts.specs.Heard.{hears_one, Looked}

-- its callback was registered, and the answer is what the look after it read
pub record ArmsFirst (board : Board Blueprint) (x : Name) (answer : Bool)
    (old new : HandSeat) : Type 0 where
  pub armed : Armed
  pub is : IsArmedSo board x armed old new
  pub answer_is : answer ≡ is_asked armed

-- where x hears a source, so it did; where it hears none, nothing was done
pub record Listens (board : Board Blueprint) (x : Name) (answer : Bool)
    (old new : HandSeat) : Type 0 where
  pub arms : hears_one board x ≡ true → ArmsFirst board x answer old new
  pub deaf : hears_one board x ≡ false → new ≡ old
  pub looked : Looked board x answer old.me new.me
