use Rattle.home_items.proofs.Kept.{environment-kept}
use Rattle.home_items.proofs.item.Item.keep.Goals as goal

pub invariant_of-self : goal.invariant_of-self
invariant_of-self c = record {
  goes_on = environment-kept c.self.inside c.args.self.now c.self.view_is c.self.invariant c.requires;
  delivers = rw (c.put.ensures) c.parcel.invariant;
}
