-- What the state of an item tells of it.
use Rattle.std.proofs.Common.{◌≡◌, true, None, Some, refl}
use Rattle.home_items.specs.declared.item.Item.{Item}
use Rattle.home_items.specs.Contents.{Start, Rest, Done}
use Rattle.home_items.specs.declared.item.State.TheVariants.{Start as Begins}
use Rattle.home_items.specs.Items.{is_start, state_of}

-- who begins has a start
pub state-start : (item : Item) → Begins ≡ state_of item → is_start item ≡ true
state-start (Start start) is = refl
state-start (Rest start None) is = cc
state-start (Rest start (Some parcel)) is = cc
state-start (Done parcel) is = cc
