use Rattle.home_items.proofs.Kept.{environment-kept}
use Rattle.home_items.proofs.item.Item.keep_done.Goals as goal

pub invariant_of-self : goal.invariant_of-self
invariant_of-self c = record {
  goes_on = environment-kept c.self.inside c.args.self.now c.self.view_is c.self.invariant c.requires.goes_on;
  delivers = rw (c.put.ensures, c.replace.ensures.value) (rw (← c.label.view_is) at c.requires.lawful);
}
