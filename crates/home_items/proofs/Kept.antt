-- What the parts of an item say of the node whose home it is in.
use Rattle.std.proofs.Common.{◌≡◌, sym, subst}
use Rattle.home_items.specs.declared.item.State.{State}
use Rattle.home_items.specs.declared.item.State.TheVariants.{Start as Begins, Rest as Rests, Kept as Keeps, Done as Ends}
use Rattle.home_items.specs.declared.item.Item.{Item}
use Rattle.home_items.specs.declared.item.Item.TheInside.{Inside}
use Rattle.home_items.specs.Environments.{IsEnvironment}
use Rattle.home_items.specs.Items.{GoesOn}
use Rattle.home_items.specs.Keeping.{parcel_inside, content_by, content_of, HasEnvironment, IsKept}

environment-by : (s : State) (i : Inside) → GoesOn (content_by s i.shown.start (parcel_inside i)) → HasEnvironment s i →
    IsEnvironment i.args i.number i.asked i.child i.shown.start
environment-by Begins i goes_on has = has
environment-by Rests i goes_on has = has
environment-by Keeps i goes_on has = has
environment-by Ends i goes_on has = absurd (goes_on tt)

-- that of a node that goes on has the environment of its start
pub environment-kept : (i : Inside) (item : Item) → content_of i ≡ item → IsKept i → GoesOn item →
    IsEnvironment i.args i.number i.asked i.child i.shown.start
environment-kept i item shows kept goes_on = environment-by i.state i (subst GoesOn (sym shows) goes_on) kept.goes_on
