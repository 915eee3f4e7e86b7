use Rattle.std.proofs.Common.{◌≡◌, ◌+◌, ◌∙◌, arith, length}
use Rattle.deck_relay.specs.declared.desk.Desk.{Desk}
use Rattle.whole_run.proofs.DeskLaws.{all-there, moves, opens, opens-fresh}
use Rattle.whole_run.proofs.desks.open_desks.Goals as goal

pub loop-deck-preserved : goal.loop-deck-preserved
loop-deck-preserved c =
    let is = c.loop-deck.invariant in
    let few = c.loop-deck.desks.items in
    let more = c.push_reserved.new.self.items in
    let desk : Desk = record { deck = c.in-Some.deck; post = c.in-Some-pop.post } in
    let fewer = c.in-Some.ensures.cases in
    let fewer_posts = c.in-Some-pop.ensures.cases in
    record {
      even = omega (arith, is.even, fewer, fewer_posts, c.pop.new.self.ok.0, c.pop-in-Some.new.self.ok.0, c.loop-deck.decks.ok.0, c.loop-deck.posts.ok.0);
      decks = is.decks ∙ moves (λ (d : Desk). d.deck) c.loop-deck.decks.items c.pop.new.self.items few more desk c.in-Some.ensures.items c.push_reserved.ensures.items;
      posts = is.posts ∙ moves (λ (d : Desk). d.post) c.loop-deck.posts.items c.pop-in-Some.new.self.items few more desk c.in-Some-pop.ensures.items
          c.push_reserved.ensures.items;
      fits = omega (
        arith,
        is.fits,
        fewer,
        c.pop.new.self.ok.0,
        c.loop-deck.decks.ok.0,
        c.push_reserved.ensures.len,
        c.push_reserved.ensures.capacity,
        c.loop-deck.desks.ok.0,
        c.push_reserved.new.self.ok.0,
      );
      decks_fit = omega (arith, is.decks_fit, c.pop.ensures.capacity);
      posts_fit = omega (arith, is.posts_fit, c.pop-in-Some.ensures.capacity);
    }

pub returns-clause-close : goal.returns-clause-close
returns-clause-close c =
    let is = c.loop-deck.invariant in
    let decks = c.in_ok-decks.decks.items in
    let posts = c.in_ok-queue.posts.items in
    let desks = c.reverse.new.self.items in
    let turned = c.loop-deck.desks.items in
    let gone = c.in_default.ensures.cases in
    let none : length c.loop-deck.decks.items ≡ 0 = omega (arith, gone, c.loop-deck.decks.ok.0) in
    let no_deck : length c.pop.new.self.items ≡ 0 = omega (arith, gone, c.pop.new.self.ok.0) in
    let no_post : length c.loop-deck.posts.items ≡ 0 = is.even ∙ none in
    opens (record { queue = c.in_ok-queue.queue; decks = c.pop.new.self; posts = c.loop-deck.posts }) (c.args.workers + 1) decks posts desks
    c.in_ok-decks.ensures c.in_ok-queue.ensures
    (all-there (λ (d : Desk). d.deck) decks c.loop-deck.decks.items turned desks is.decks none c.reverse.ensures.items)
    (all-there (λ (d : Desk). d.post) posts c.loop-deck.posts.items turned desks is.posts no_post c.reverse.ensures.items)
    no_deck no_post (omega (arith, is.decks_fit, c.pop.ensures.capacity)) is.posts_fit

pub returns-clause-count : goal.returns-clause-count
returns-clause-count c =
    let is = c.loop-deck.invariant in
    let posts = c.in_ok-queue.posts.items in
    let desks = c.reverse.new.self.items in
    let none : length c.loop-deck.decks.items ≡ 0 = omega (arith, c.in_default.ensures.cases, c.loop-deck.decks.ok.0) in
    opens-fresh c.args.workers _ posts desks c.in_ok-queue.ensures
    (all-there (λ (d : Desk). d.post) posts c.loop-deck.posts.items c.loop-deck.desks.items desks is.posts (is.even ∙ none) c.reverse.ensures.items)
