use Rattle.deck_relay.specs.SameDecks.{keeps-here, keeps-on}
use Rattle.life_rules.specs.declared.scope.ScopeWord.{ScopeWord}
use Rattle.run_loop.specs.Loops.{deck_of}
use Rattle.record_operations.proofs.Joined.{read-joined}
use Rattle.record_operations.proofs.Moved.{moved-same, read-moves, rehanded, same-here, same-on}
use Rattle.record_operations.proofs.joining.wait_joined.Goals as goal

pub loop-init : goal.loop-init
loop-init g c = record {
  next = tt;
  finite = tt;
  ready = c.requires.ready;
  same = same-here c.args.looped.now.hand.me;
  deck = keeps-here (deck_of c.args.looped.now);
}

pub take_all-taken-requires-clause-ready : goal.take_all-taken-requires-clause-ready
take_all-taken-requires-clause-ready g c κs within =
    let loop = c.loop.looped in
    let looked = c.is_joined.new.hand in
    rehanded c.args.table.now loop.hand.me.0.made loop looked c.loop.invariant.ready
    c.is_joined.ensures.stays.hand
    (read-moves loop.hand.me looked.me (λ (w : ScopeWord). w.joined) c.is_joined.result
    c.is_joined.ensures.read)

pub loop-preserved : goal.loop-preserved
loop-preserved g c =
    let before = c.loop.invariant in
    let m = c.args.looped.now.hand.me in
    let between = c.loop.looped.hand.me in
    let looked = c.is_joined.new.hand.me in
    let took = c.take_all-taken.ensures in
    record {
      next = tt;
      finite = tt;
      ready = took.ready;
      same = same-on m looked c.take_all-taken.new.looped.hand.me
          (same-on m between looked before.same
          (moved-same between looked
          (read-moves between looked (λ (w : ScopeWord). w.joined) c.is_joined.result
          c.is_joined.ensures.read)))
          (record { is = took.aside.same; sees = took.aside.sees });
      deck = keeps-on (deck_of c.args.looped.now) (deck_of c.loop.looped)
          (deck_of c.take_all-taken.new.looped) before.deck took.deck;
    }

pub returns-then-is_joined-clause-ready : goal.returns-then-is_joined-clause-ready
returns-then-is_joined-clause-ready g c =
    let loop = c.loop.looped in
    let looked = c.is_joined.new.hand in
    rehanded c.args.table.now loop.hand.me.0.made loop looked c.loop.invariant.ready
    c.is_joined.ensures.stays.hand
    (read-moves loop.hand.me looked.me (λ (w : ScopeWord). w.joined) c.is_joined.result
    c.is_joined.ensures.read)

pub returns-then-is_joined-clause-same : goal.returns-then-is_joined-clause-same
returns-then-is_joined-clause-same g c =
    let between = c.loop.looped.hand.me in
    let looked = c.is_joined.new.hand.me in
    same-on c.args.looped.now.hand.me between looked c.loop.invariant.same
    (moved-same between looked
    (read-moves between looked (λ (w : ScopeWord). w.joined) c.is_joined.result
    c.is_joined.ensures.read))

pub returns-then-is_joined-clause-joined : goal.returns-then-is_joined-clause-joined
returns-then-is_joined-clause-joined g c =
    read-joined c.is_joined.result c.loop.looped.hand.me c.is_joined.new.hand.me
    c.is_joined.ensures.read c.if-is_joined.true

pub returns-then-is_joined-clause-deck : goal.returns-then-is_joined-clause-deck
returns-then-is_joined-clause-deck g c = c.loop.invariant.deck
