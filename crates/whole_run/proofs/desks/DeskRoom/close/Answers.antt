use Rattle.std.proofs.Common.{◌≡◌, List, length, arith, ap, sym, ◌∙◌, subst}
use Rattle.std.specs.Arc.{arc_value}
use Rattle.std.proofs.lemmas.List.{length-reverse}
use Rattle.deck_relay.specs.declared.deck.Deck.{Deck}
use Rattle.deck_relay.specs.Relays.{CameBack as AreAllDecks, TakenAndLeft}
use Rattle.loop_queue.specs.declared.post.LoopPost.{LoopPost}
use Rattle.loop_queue.specs.Law.{ComeAndGoInOrder}
use Rattle.loop_queue.specs.Posts.{CameBack as AreAllPosts}
use Rattle.deck_relay.specs.declared.desk.Desk.{Desk}
use Rattle.whole_run.specs.DeskEnds.{ClosedSo, decks_of, posts_of}
use Rattle.whole_run.proofs.DeskLaws.{all-here, moves, turned-twice}
use Rattle.whole_run.proofs.desks.DeskRoom.close.Goals as goal

pub loop-desk-init : goal.loop-desk-init
loop-desk-init g c =
    let all = c.requires.all in
    let desks = c.args.desks.items in
    let turned = c.reverse.new.self.items in
    record {
      decks = turned-twice (λ (d : Desk). d.deck) c.args.self.decks.items desks turned all.no_deck c.reverse.ensures.items;
      posts = turned-twice (λ (d : Desk). d.post) c.args.self.posts.items desks turned all.no_post c.reverse.ensures.items;
      decks_fit = omega (arith, ap length all.no_deck, ap length c.reverse.ensures.items, length-reverse desks, all.decks_fit);
      posts_fit = omega (arith, ap length all.no_post, ap length c.reverse.ensures.items, length-reverse desks, all.posts_fit);
    }

pub loop-desk-preserved : goal.loop-desk-preserved
loop-desk-preserved g c =
    let is = c.loop-desk.invariant in
    let more = c.loop-desk.desks.items in
    let few = c.pop.new.self.items in
    let desk = c.in-Some.desk in
    let deck_put = c.push_reserved in
    let post_put = c.push_reserved-in-Some in
    let fewer = c.in-Some.ensures.cases in
    record {
      decks = is.decks ∙ sym (moves (λ (d : Desk). d.deck) deck_put.new.self.items c.loop-desk.decks.items few more desk deck_put.ensures.items c.in-Some.ensures.items);
      posts = is.posts ∙ sym (moves (λ (d : Desk). d.post) post_put.new.self.items c.loop-desk.posts.items few more desk post_put.ensures.items c.in-Some.ensures.items);
      decks_fit = omega (
        arith,
        is.decks_fit,
        fewer,
        c.pop.new.self.ok.0,
        c.loop-desk.desks.ok.0,
        deck_put.ensures.len,
        deck_put.ensures.capacity,
        deck_put.new.self.ok.0,
        c.loop-desk.decks.ok.0,
      );
      posts_fit = omega (
        arith,
        is.posts_fit,
        fewer,
        c.pop.new.self.ok.0,
        c.loop-desk.desks.ok.0,
        post_put.ensures.len,
        post_put.ensures.capacity,
        post_put.new.self.ok.0,
        c.loop-desk.posts.ok.0,
      );
    }

pub close-names-requires : goal.close-names-requires
close-names-requires g c =
    let none : length c.loop-desk.desks.items ≡ 0 = omega (arith, c.in_default.ensures.cases, c.loop-desk.desks.ok.0) in
    let here = all-here (λ (d : Desk). d.deck) (decks_of c.args.desks.items) c.loop-desk.decks.items c.loop-desk.desks.items c.loop-desk.invariant.decks none in
    record { all = subst (λ (l : List Deck). AreAllDecks l) (sym here) c.requires.all.all_decks }

pub close-entries-requires : goal.close-entries-requires
close-entries-requires g c =
    let none : length c.loop-desk.desks.items ≡ 0 = omega (arith, c.in_default.ensures.cases, c.loop-desk.desks.ok.0) in
    let here = all-here (λ (d : Desk). d.post) (posts_of c.args.desks.items) c.loop-desk.posts.items c.loop-desk.desks.items c.loop-desk.invariant.posts none in
    record { all = subst (λ (l : List LoopPost). AreAllPosts (arc_value c.args.self.queue) l) (sym here) c.requires.all.all_posts }

pub invariant_of-end : goal.invariant_of-end
invariant_of-end g c =
    let is = c.loop-desk.invariant in
    let gone = c.loop-desk.desks.items in
    let none : length gone ≡ 0 = omega (arith, c.in_default.ensures.cases, c.loop-desk.desks.ok.0) in
    let decks = all-here (λ (d : Desk). d.deck) (decks_of c.args.desks.items) c.loop-desk.decks.items gone is.decks none in
    let posts = all-here (λ (d : Desk). d.post) (posts_of c.args.desks.items) c.loop-desk.posts.items gone is.posts none in
    subst
    (λ (l : List Desk). ClosedSo (record { names = c.close-names.result; entries = c.close-entries.result; desks = l }))
    (sym (ap (λ v. v.items) c.of-back.ensures))
    (record {
      decks = subst (λ (l : List Deck). TakenAndLeft c.close-names.result l) decks c.close-names.ensures.law;
      posts = subst (λ (l : List LoopPost). ComeAndGoInOrder c.close-entries.result l) posts c.close-entries.ensures.law;
    })
