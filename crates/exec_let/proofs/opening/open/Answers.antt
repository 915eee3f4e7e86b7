use Rattle.std.specs.Prelude.{All}
use Rattle.std.proofs.Common.{◌≡◌, ℕ, true, List, sym, ap, subst}
use Rattle.std.specs.Option.{option_map}
use Rattle.node_tree.specs.Tree.{is_child}
use Rattle.home_items.specs.Parcels.{delivery_of}
use Rattle.step_parts.specs.Takes.{TakesChild}
use Rattle.exec_let.specs.Opens.{TakesBodies}
use Rattle.exec_let.proofs.Emptied.{child-opened}
use Rattle.step_parts.proofs.Several.{empties-open}
use Rattle.exec_let.proofs.Opened.{opens-below, opens-kept}
use Rattle.exec_let.proofs.Places.{child-below, bodies-below}
use Rattle.exec_let.proofs.opening.open.Goals as goal

pub take_child_into-below-requires-clause-child : goal.take_child_into-below-requires-clause-child
take_child_into-below-requires-clause-child g c =
    let may = c.requires.may in
    subst (λ (n : ℕ). is_child c.args.site.now.frame.tree c.args.taken.now.name.node n ≡ true) (sym c.let_child.ensures)
    (child-below c.args.site.now c.args.taken.now.name c.args.node.now may.lies.is.site may.node_is may.is_let)

pub take_bodies-over-requires-clause-children : goal.take_bodies-over-requires-clause-children
take_bodies-over-requires-clause-children g c =
    let may = c.requires.may in
    subst (All (λ (n : ℕ). is_child c.args.site.now.frame.tree c.args.taken.now.name.node n ≡ true)) (sym c.let_bodies.ensures)
    (bodies-below c.args.site.now c.args.taken.now.name c.args.node.now may.lies.is.site may.node_is may.is_let)

pub take_bodies-over-requires-clause-lies : goal.take_bodies-over-requires-clause-lies
take_bodies-over-requires-clause-lies g c =
    child-opened _ _ _ _ _ _ c.take_child_into-below.ensures.takes c.requires.may.lies

pub take_kept_into-requires : goal.take_kept_into-requires
take_kept_into-requires g c = record {
  lies = empties-open _ _ _ _ _ c.take_bodies-over.ensures.empties
      (child-opened _ _ _ _ _ _ c.take_child_into-below.ensures.takes c.requires.may.lies);
}

pub returns-in-Some : goal.returns-in-Some
returns-in-Some g c =
    let board = c.args.site.now in
    let t = c.args.taken.now in
    let child = c.take_child_into-below.new.done in
    let below = option_map (λ label. delivery_of label child) c.take_child_into-below.result in
    let middle = c.take_child_into-below.new.hand in
    let over = option_map (λ label. delivery_of label c.take_bodies-over.new.done) c.take_bodies-over.result in
    let last = c.take_bodies-over.new.hand in
    opens-below board t c.args.node.now c.args.hand.now c.requires.may (delivery_of c.in-Some.label child) below over middle last
    (subst (λ (n : ℕ). TakesChild board t n below c.args.hand.now middle) c.let_child.ensures c.take_child_into-below.ensures.takes)
    (subst (λ (l : List ℕ). TakesBodies board t l over middle last) c.let_bodies.ensures c.take_bodies-over.ensures)
    (ap (option_map (λ label. delivery_of label child)) c.in-Some.is)

pub returns-in-None : goal.returns-in-None
returns-in-None g c =
    let board = c.args.site.now in
    let t = c.args.taken.now in
    let child = c.take_child_into-below.new.done in
    let below = option_map (λ label. delivery_of label child) c.take_child_into-below.result in
    let middle = c.take_child_into-below.new.hand in
    let over = option_map (λ label. delivery_of label c.take_bodies-over.new.done) c.take_bodies-over.result in
    let last = c.take_bodies-over.new.hand in
    let kept = option_map (λ label. delivery_of label c.take_kept_into.new.done) c.take_kept_into.result in
    opens-kept board t c.args.node.now c.args.hand.now c.requires.may below over kept middle last c.take_kept_into.new.hand
    (subst (λ (n : ℕ). TakesChild board t n below c.args.hand.now middle) c.let_child.ensures c.take_child_into-below.ensures.takes)
    (subst (λ (l : List ℕ). TakesBodies board t l over middle last) c.let_bodies.ensures c.take_bodies-over.ensures)
    (ap (option_map (λ label. delivery_of label child)) c.in-None.is) c.take_kept_into.ensures
