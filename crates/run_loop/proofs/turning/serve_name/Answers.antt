use Rattle.std.proofs.Common.{◌∙◌, subst, refl, true, false}
use Rattle.std.specs.Prelude.{◌≢◌}
use Rattle.std.proofs.lemmas.Bool.{both_ways}
use Rattle.life_rules.specs.declared.event.Resting.TheVariants as rest
use Rattle.table_steps.specs.Steps.{control_index}
use Rattle.table_steps.specs.Takes.{rest_word}
use Rattle.op_slot.proofs.Staying.{stays-here, stays-on}
use Rattle.exec_recv.proofs.Asiding.{aside-here, aside-on}
use Rattle.exec_recv.proofs.Since.{since-before, since-after}
use Rattle.node_walks.specs.Mails.{HearsEach}
use Rattle.node_walks.proofs.Read.{looks-here, looks-on}
use Rattle.node_walks.proofs.Took.{first-serves, only-before}
use Rattle.deck_relay.specs.SameDecks.{keeps-here, keeps-on}
use Rattle.run_loop.specs.declared.loop_mail.LoopMail.{LoopMail}
use Rattle.run_loop.specs.Fetches.{HearsName}
use Rattle.run_loop.specs.Turns.{IsInner}
use Rattle.run_loop.proofs.turning.serve_name.Goals as goal

pub is_inner-requires : goal.is_inner-requires
is_inner-requires g c = record { over = rw (← c.site.view_is) at c.requires.site.over }

pub returns-then-not-is_inner-clause-stays : goal.returns-then-not-is_inner-clause-stays
returns-then-not-is_inner-clause-stays g c = stays-here c.args.site.now c.args.hand.now c.requires.hand

pub returns-then-not-is_inner-clause-aside : goal.returns-then-not-is_inner-clause-aside
returns-then-not-is_inner-clause-aside g c = aside-here c.args.hand.now.me

pub serve-requires-clause-serves : goal.serve-requires-clause-serves
serve-requires-clause-serves g c κs within = first-serves rest.Loop c.args.hand.now.me.0 c.requires.first

pub returns-clause-stays : goal.returns-clause-stays
returns-clause-stays g c =
    stays-on c.args.site.now c.args.hand.now c.serve.new.hand c.serve-2.new.hand c.serve.ensures.stays c.serve-2.ensures.stays

pub returns-clause-aside : goal.returns-clause-aside
returns-clause-aside g c =
    aside-on c.args.hand.now.me c.serve.new.hand.me c.serve-2.new.hand.me c.serve.ensures.aside c.serve-2.ensures.aside

pub returns-then-not-is_inner-clause-left : goal.returns-then-not-is_inner-clause-left
returns-then-not-is_inner-clause-left g c left inner = absurd (c.is_inner.ensures.no c.if-not-is_inner.true (rw (← c.site.view_is) at inner))

pub returns-then-not-helps-clause-left : goal.returns-then-not-helps-clause-left
returns-then-not-helps-clause-left g c left inner =
    record {
      loop = c.serve.ensures.missed c.if-serve.false;
      pool = λ help. absurd (both_ways c.args.helps c.if-not-helps.true help);
    }

pub returns-clause-left : goal.returns-clause-left
returns-clause-left g c left inner =
    let board = c.args.site.now in
    let x = c.args.name in
    let i = control_index board x in
    let old = c.args.hand.now.me in
    let between = c.serve.new.hand.me in
    let new = c.serve-2.new.hand.me in
    record {
      loop = since-after i (λ word. word ≢ rest_word x rest.Loop) old between new (c.serve.ensures.missed c.if-serve.false)
          c.serve-2.ensures.aside;
      pool = λ help.
          since-before i (λ word. word ≢ rest_word x rest.Pool) old between new c.serve.ensures.aside (c.serve-2.ensures.missed left);
    }

pub returns-then-not-is_inner-clause-looks : goal.returns-then-not-is_inner-clause-looks
returns-then-not-is_inner-clause-looks g c looks = looks-here c.args.hand.now.me

pub returns-then-serve-clause-served : goal.returns-then-serve-clause-served
returns-then-serve-clause-served g c served =
    let only = c.serve.ensures.only c.if-serve.true in
    record {
      ready = only.ready;
      leaves = record { from = rest.Loop; may_be = tt; serves = only.leaves };
      heard = only.heard;
    }

pub returns-then-not-helps-clause-looks : goal.returns-then-not-helps-clause-looks
returns-then-not-helps-clause-looks g c looks = c.serve.ensures.looks c.if-serve.false

pub returns-clause-served : goal.returns-clause-served
returns-clause-served g c served =
    let only = c.serve-2.ensures.only served in
    record {
      ready = only.ready;
      leaves = record {
        from = rest.Pool;
        may_be = c.if-not-helps.false;
        serves = only-before g.T.Stepper.does c.args.site.now rest.Pool c.args.name c.args.hand.now.me c.serve.new.hand.me
            c.serve-2.new.hand.me (c.serve.ensures.looks c.if-serve.false) only.ready only.leaves;
      };
      heard = subst (λ (n : LoopMail). HearsEach HearsName only.ready n c.serve-2.new.mail) (c.serve.ensures.unheard c.if-serve.false) only.heard;
    }

pub returns-clause-looks : goal.returns-clause-looks
returns-clause-looks g c looks =
    looks-on c.args.hand.now.me c.serve.new.hand.me c.serve-2.new.hand.me (c.serve.ensures.looks c.if-serve.false)
    (c.serve-2.ensures.looks looks)

pub returns-then-not-is_inner-clause-deck : goal.returns-then-not-is_inner-clause-deck
returns-then-not-is_inner-clause-deck g c = keeps-here c.args.names.now.deck

pub returns-clause-deck : goal.returns-clause-deck
returns-clause-deck g c =
    keeps-on c.args.names.now.deck c.serve.new.mail.deck c.serve-2.new.mail.deck c.serve.ensures.mail c.serve-2.ensures.mail

pub returns-clause-unheard : goal.returns-clause-unheard
returns-clause-unheard g c lost = c.serve-2.ensures.unheard lost ∙ c.serve.ensures.unheard c.if-serve.false

pub serve-requires-clause-place : goal.serve-requires-clause-place
serve-requires-clause-place g c κs within =
    let inner : IsInner c.args.site.now c.args.name =
    rw c.site.view_is at (c.is_inner.ensures.yes c.if-not-is_inner.false) in
    inner.place

pub serve-requires-2-clause-place : goal.serve-requires-2-clause-place
serve-requires-2-clause-place g c κs within =
    let inner : IsInner c.args.site.now c.args.name =
    rw c.site.view_is at (c.is_inner.ensures.yes c.if-not-is_inner.false) in
    inner.place

pub returns-then-not-is_inner-clause-served : goal.returns-then-not-is_inner-clause-served
returns-then-not-is_inner-clause-served g c served = absurd (both_ways false refl served)

pub returns-then-not-helps-clause-served : goal.returns-then-not-helps-clause-served
returns-then-not-helps-clause-served g c served = absurd (both_ways false refl served)

pub returns-then-serve-clause-left : goal.returns-then-serve-clause-left
returns-then-serve-clause-left g c left inner = absurd (both_ways true left refl)
