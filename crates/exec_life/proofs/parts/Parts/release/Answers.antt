use Rattle.std.proofs.Common.{◌<◌, ◌∙◌, List, length, sym, subst}
use Rattle.std.specs.Prelude.{All}
use Rattle.std.proofs.lemmas.List.{with_items_is}
use Rattle.life_rules.specs.LifeSteps.{after_release}
use Rattle.exec_life.specs.Parts.{lists_of, shown, Means}
use Rattle.exec_life.specs.ViewLists.{ViewLists}
use Rattle.exec_life.specs.ViewWrites.{ForgetsFirst}
use Rattle.exec_life.proofs.Places.{block-within, each-has}
use Rattle.exec_life.proofs.ReleaseMeans.{release-means}
use Rattle.exec_life.proofs.parts.Parts.release.Goals as goal

pub block-word-requires : goal.block-word-requires
block-word-requires c =
    block-within (lists_of c.args.self.now) c.args.hand c.args.block c.requires.needs

pub set_block-requires : goal.set_block-requires
set_block-requires c =
    block-within (lists_of c.args.self.now) c.args.hand c.args.block c.requires.needs

pub clear_places-requires : goal.clear_places-requires
clear_places-requires c =
    let d = lists_of c.args.self.now in
    let within = block-within d c.args.hand c.args.block c.requires.needs in
    subst (λ n. c.args.block < n) (sym c.set_block.ensures.count) within

pub forget_each-requires : goal.forget_each-requires
forget_each-requires c =
    let d = lists_of c.args.self.now in
    let within = block-within d c.args.hand c.args.block c.requires.needs in
    subst (λ (views : List ViewLists). All (λ v. c.args.block < v.blocks) views)
    (sym c.deref_mut.ensures.value)
    (each-has d c.args.block c.requires.ready.state within)

pub returns : goal.returns
returns c =
    let d = lists_of c.args.self.now in
    let views = c.forget_each.new.views in
    let w = c.clear_places.new.self in
    let lent = c.deref_mut.ensures.value in
    let forgets : ForgetsFirst d.views views c.args.block (length d.views) =
    subst (λ (old : List ViewLists). ForgetsFirst old views c.args.block (length old)) lent c.forget_each.ensures in
    let e = with_items_is c.args.self.now.views views (forgets.count ∙ sym c.args.self.now.views.ok.0) in
    let means = release-means d c.set_block.new.self w views c.args.hand c.args.block c.requires.ready.state
    c.requires.ready.hand_is c.requires.needs
    (rw (c.next_word.ensures, c.block-word.ensures) at c.set_block.ensures) c.clear_places.ensures forgets in
    subst (λ (items : List ViewLists). Means (record d { words = w; views = items }) (after_release (shown c.args.self.now) c.args.hand c.args.block))
    (sym e) means
