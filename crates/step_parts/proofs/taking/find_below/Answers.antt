use Rattle.std.proofs.Common.{ℕ, Option, None, sym, subst}
use Rattle.home_items.specs.Parcels.{Delivery}
use Rattle.exec_recv.specs.Sites.{node_at}
use Rattle.step_parts.specs.declared.found.Found.TheVariants.{Back, Again}
use Rattle.step_parts.specs.Takes.{IsOnlyChild, TakesOne, TakesBack, TakesFound}
use Rattle.step_parts.proofs.Finding.{found-back, found-kept, found-own}
use Rattle.step_parts.proofs.taking.find_below.Goals as goal

pub returns-in-Some-take_back-clause-found : goal.returns-in-Some-take_back-clause-found
returns-in-Some-take_back-clause-found g c =
    let board = c.args.site.now in
    subst (λ (o : Option ℕ). TakesFound board c.args.taken o (Back c.in-Some-take_back.parcel) c.args.hand.now c.take_back.new.hand) (sym c.in-Some.is)
    (found-back board c.args.taken c.in-Some.below
    (subst (λ (o : Option ℕ). TakesOne (node_at board c.args.taken.name) o) c.in-Some.is c.requires.one) c.args.hand.now c.in-Some-take_back.parcel
    c.take_back.new.hand
    (subst (λ (o : Option Delivery). TakesBack board c.args.taken c.in-Some.below o c.args.hand.now c.take_back.new.hand) c.in-Some-take_back.is
    c.take_back.ensures.takes))

pub returns-in-None-take_back-clause-found : goal.returns-in-None-take_back-clause-found
returns-in-None-take_back-clause-found g c =
    let board = c.args.site.now in
    subst (λ (o : Option ℕ). TakesFound board c.args.taken o (Again c.take_kept-kept.result) c.args.hand.now c.take_kept-kept.new.hand) (sym c.in-Some.is)
    (found-kept board c.args.taken c.in-Some.below
    (subst (λ (o : Option ℕ). TakesOne (node_at board c.args.taken.name) o) c.in-Some.is c.requires.one) c.args.hand.now c.take_back.new.hand
    c.take_kept-kept.new.hand c.requires.opened
    (subst (λ (o : Option Delivery). TakesBack board c.args.taken c.in-Some.below o c.args.hand.now c.take_back.new.hand) c.in-None-take_back.is
    c.take_back.ensures.takes)
    c.take_kept-kept.result c.take_kept-kept.ensures)

pub returns-in-None-clause-found : goal.returns-in-None-clause-found
returns-in-None-clause-found g c =
    let board = c.args.site.now in
    subst (λ (o : Option ℕ). TakesFound board c.args.taken o (Again c.take_kept-kept-in-None.result) c.args.hand.now c.take_kept-kept-in-None.new.hand)
    (sym c.in-None.is)
    (found-own board c.args.taken c.args.hand.now c.take_kept-kept-in-None.new.hand
    (subst (λ (o : Option ℕ). TakesOne (node_at board c.args.taken.name) o) c.in-None.is c.requires.one)
    (subst (λ (o : Option ℕ). IsOnlyChild board c.args.taken.name o) c.in-None.is c.requires.only) c.requires.opened
    c.take_kept-kept-in-None.result c.take_kept-kept-in-None.ensures)

pub take_kept-kept-requires : goal.take_kept-kept-requires
take_kept-kept-requires g c =
    let opened = c.requires.opened in
    record { opened = record { inside = opened.inside; kid = λ _. None; is = c.take_back.ensures.takes.own opened.inside opened.kid opened.is } }
