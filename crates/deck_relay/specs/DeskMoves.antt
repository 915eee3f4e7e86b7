-- What becomes of a name that a desk is given.
use Rattle.std.specs.Prelude.{◌≡◌, ◌⊎◌}
use Rattle.life_rules.specs.declared.event.Name.{Name}
use Rattle.loop_queue.specs.Moves.{HandsBack as ComesBack, Posts}
use Rattle.deck_relay.specs.Moves.{HandsBack, IsOwnFull, Pushes}
use Rattle.deck_relay.specs.declared.desk.Desk.{Desk}

-- The name was posted to the loop, or came back from the post. The deck is as it was.
pub record TellsPost (name : Name) (old new : Desk) : Type 0 where
  pub deck : new.deck ≡ old.deck
  pub posts : Posts name old.post new.post
      ⊎ ((back : Name) × ComesBack name old.post new.post back)

-- The name came into the deck. The post is as it was.
pub record EntersDeck (name : Name) (old new : Desk) : Type 0 where
  pub post : new.post ≡ old.post
  pub pushes : Pushes name old.deck new.deck

-- It came back from the deck, which is full. The post is as it was.
pub record LeavesDeck (name : Name) (old new : Desk) (back : Name) : Type 0 where
  pub post : new.post ≡ old.post
  pub hands : HandsBack name old.deck new.deck back
  pub full : IsOwnFull old.deck
