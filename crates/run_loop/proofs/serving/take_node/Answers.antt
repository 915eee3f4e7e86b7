use Rattle.std.proofs.Common.{inl, inr, arith, sym, ◌∙◌}
use Rattle.std.proofs.lemmas.Bool.{both_ways}
use Rattle.life_rules.specs.declared.event.Resting.TheVariants as rest
use Rattle.node_tree.specs.declared.context.Context.TheVariants.{Loop, Pool}
use Rattle.table_words.specs.Layouts.{OfControl, index}
use Rattle.op_slot.proofs.Staying.{stays-on}
use Rattle.exec_recv.proofs.Asiding.{aside-on}
use Rattle.node_walks.specs.Serving.{IsUnready, WasUnready}
use Rattle.exec_recv.proofs.Since.{since-before, since-after}
use Rattle.node_walks.proofs.Took.{first-serves}
use Rattle.deck_relay.specs.SameDecks.{keeps-on}
use Rattle.run_loop.specs.Serves.{MayHelp, moment}
use Rattle.run_loop.specs.Turns.{WasPassed}
use Rattle.run_loop.proofs.Served.{none-taken, looked-none, looked-on, one-taken, more-none, more-one, more-on}
use Rattle.run_loop.proofs.Turned.{taken-there, met-before}
use Rattle.run_loop.proofs.serving.take_node.Goals as goal

pub serve_place-requires-clause-serves : goal.serve_place-requires-clause-serves
serve_place-requires-clause-serves g c κs within = first-serves rest.Loop c.args.hand.now.me.0 c.requires.first

pub returns-then-is_some : goal.returns-then-is_some
returns-then-is_some g c =
    let does = g.T.Stepper.does in
    let board = c.args.site.now in
    let old = c.args.hand.now in
    let new = c.serve_place.new.hand in
    let some = c.one_more.ensures.some in
    let start = moment old c.args.names.now in
    let end = moment new c.serve_place.new.mail in
    let one = one-taken does board (MayHelp c.args.helps) rest.Loop c.serve_place.result start end (λ name. tt)
    (sym c.is_some.ensures ∙ c.if-is_some.true) c.serve_place.ensures.only in
    record {
      stays = c.serve_place.ensures.stays;
      rests = c.serve_place.ensures.rests;
      aside = c.serve_place.ensures.aside;
      deck = c.serve_place.ensures.mail;
      served = more-one does board (MayHelp c.args.helps) c.args.taken c.one_more.result start end c.one_more.ensures.one one;
      none = λ zero. absurd (omega (arith, some, zero));
      met = inl (taken-there does board c.args.helps rest.Loop c.serve_place.result c.args.block c.args.node old.me new.me
          (sym c.is_some.ensures ∙ c.if-is_some.true) tt c.serve_place.ensures.served c.serve_place.ensures.there);
    }

pub returns-then-not-helps : goal.returns-then-not-helps
returns-then-not-helps g c =
    let does = g.T.Stepper.does in
    let board = c.args.site.now in
    let old = c.args.hand.now in
    let new = c.serve_place.new.hand in
    let passed : WasPassed board old.me new.me c.args.helps c.args.block c.args.node = record {
      loop = none-taken c.serve_place.result (WasUnready board old.me new.me Loop c.args.block c.args.node)
          (sym c.is_some.ensures ∙ c.if-is_some.false) c.serve_place.ensures.unready;
      pool = λ help. absurd (both_ways c.args.helps c.if-not-helps.true help);
    } in
    record {
      stays = c.serve_place.ensures.stays;
      rests = c.serve_place.ensures.rests;
      aside = c.serve_place.ensures.aside;
      deck = c.serve_place.ensures.mail;
      served = let start = moment old c.args.names.now in
          let end = moment new c.serve_place.new.mail in
          more-none does board (MayHelp c.args.helps) c.args.taken start end (omega arith)
          (looked-none c.serve_place.result start end (sym c.is_some.ensures ∙ c.if-is_some.false) c.serve_place.ensures.looks
          c.serve_place.ensures.unheard);
      none = λ zero. (zero, passed);
      met = inr passed;
    }

pub returns-then-is_some-2 : goal.returns-then-is_some-2
returns-then-is_some-2 g c =
    let does = g.T.Stepper.does in
    let board = c.args.site.now in
    let old = c.args.hand.now in
    let between = c.serve_place.new.hand in
    let new = c.serve_place-2.new.hand in
    let some = c.one_more-then-is_some-2.ensures.some in
    let aside = aside-on old.me between.me new.me c.serve_place.ensures.aside c.serve_place-2.ensures.aside in
    let may = MayHelp c.args.helps in
    let start = moment old c.args.names.now in
    let here = moment between c.serve_place.new.mail in
    let end = moment new c.serve_place-2.new.mail in
    let looks = looked-none c.serve_place.result start here (sym c.is_some.ensures ∙ c.if-is_some.false) c.serve_place.ensures.looks
    c.serve_place.ensures.unheard in
    let one = one-taken does board may rest.Pool c.serve_place-2.result here end (λ name. c.if-not-helps.false)
    (sym c.is_some-2.ensures ∙ c.if-is_some-2.true) c.serve_place-2.ensures.only in
    record {
      stays = stays-on board old between new c.serve_place.ensures.stays c.serve_place-2.ensures.stays;
      rests = c.serve_place-2.ensures.rests;
      aside = aside;
      deck = keeps-on c.args.names.now.deck c.serve_place.new.mail.deck c.serve_place-2.new.mail.deck c.serve_place.ensures.mail c.serve_place-2.ensures.mail;
      served = more-on does board may c.args.taken c.args.taken c.one_more-then-is_some-2.result start here end
          (more-none does board may c.args.taken start here (omega arith) looks)
          (more-one does board may c.args.taken c.one_more-then-is_some-2.result here end c.one_more-then-is_some-2.ensures.one one);
      none = λ zero. absurd (omega (arith, some, zero));
      met = met-before board c.args.helps old.me between.me new.me c.args.block c.args.node c.serve_place.ensures.aside
          (inl (taken-there does board c.args.helps rest.Pool c.serve_place-2.result c.args.block c.args.node between.me new.me
          (sym c.is_some-2.ensures ∙ c.if-is_some-2.true) c.if-not-helps.false c.serve_place-2.ensures.served c.serve_place-2.ensures.there));
    }

pub returns : goal.returns
returns g c =
    let board = c.args.site.now in
    let i = index board.frame.layout (OfControl c.args.block c.args.node) in
    let old = c.args.hand.now in
    let between = c.serve_place.new.hand in
    let new = c.serve_place-2.new.hand in
    let aside = aside-on old.me between.me new.me c.serve_place.ensures.aside c.serve_place-2.ensures.aside in
    let passed : WasPassed board old.me new.me c.args.helps c.args.block c.args.node = record {
      loop = since-after i (IsUnready Loop) old.me between.me new.me
          (none-taken c.serve_place.result (WasUnready board old.me between.me Loop c.args.block c.args.node)
          (sym c.is_some.ensures ∙ c.if-is_some.false) c.serve_place.ensures.unready)
          c.serve_place-2.ensures.aside;
      pool = λ help.
          since-before i (IsUnready Pool) old.me between.me new.me c.serve_place.ensures.aside
          (none-taken c.serve_place-2.result (WasUnready board between.me new.me Pool c.args.block c.args.node)
          (sym c.is_some-2.ensures ∙ c.if-is_some-2.false) c.serve_place-2.ensures.unready);
    } in
    record {
      stays = stays-on board old between new c.serve_place.ensures.stays c.serve_place-2.ensures.stays;
      rests = c.serve_place-2.ensures.rests;
      aside = aside;
      deck = keeps-on c.args.names.now.deck c.serve_place.new.mail.deck c.serve_place-2.new.mail.deck c.serve_place.ensures.mail c.serve_place-2.ensures.mail;
      served = let start = moment old c.args.names.now in
          let here = moment between c.serve_place.new.mail in
          let end = moment new c.serve_place-2.new.mail in
          more-none g.T.Stepper.does board (MayHelp c.args.helps) c.args.taken start end (omega arith)
          (looked-on start here end
          (looked-none c.serve_place.result start here (sym c.is_some.ensures ∙ c.if-is_some.false) c.serve_place.ensures.looks
          c.serve_place.ensures.unheard)
          (looked-none c.serve_place-2.result here end (sym c.is_some-2.ensures ∙ c.if-is_some-2.false) c.serve_place-2.ensures.looks
          c.serve_place-2.ensures.unheard));
      none = λ zero. (zero, passed);
      met = inr passed;
    }
