use Rattle.std.proofs.Common.{refl, sym, ap, ◌∙◌, subst}
use Rattle.run_workers.specs.Crews.{HasServed, IsSpare}
use Rattle.table_steps.specs.Views.{knows}
use Rattle.exec_recv.proofs.Sites.{over-site}
use Rattle.run_workers.proofs.Hands.{TheHand, has-served, claimed-still, spare-ready}
use Rattle.deck_relay.specs.Desks.{OnlyPosts}
use Rattle.run_workers.proofs.Kept.{kept-both}
use Rattle.run_workers.proofs.serving.serve.Goals as goal

pub of-site-requires : goal.of-site-requires
of-site-requires g c = record { over = c.requires.serve.over }

pub serve-requires-clause-ready : goal.serve-requires-clause-ready
serve-requires-clause-ready g c κs within =
    rw c.of-site.ensures (spare-ready c.args.table.now c.new-worker.result.hand (subst (IsSpare c.args.table.now) (sym c.new-worker.ensures.hand) c.requires.serve.spare))

pub serve-requires-clause-site : goal.serve-requires-clause-site
serve-requires-clause-site g c κs within = rw c.of-site.ensures (over-site c.args.table.now _ c.requires.serve.over c.requires.serve.kinds)

pub returns : goal.returns
returns g c =
    let board = c.args.table.now in
    let worker = c.new-worker.result in
    let spare : IsSpare board worker.hand = subst (λ (h : TheHand). IsSpare board h) (sym c.new-worker.ensures.hand) c.requires.serve.spare in
    record {
      served = subst (λ (h : TheHand). HasServed board h) (sym c.into_parts.ensures.hand)
          (has-served board worker.hand c.serve.new.self.hand spare (rw c.of-site.ensures at c.serve.ensures.ready) c.serve.ensures.aside (rw c.of-site.ensures at c.serve.ensures.ended));
      claimed =
          ap (λ (h : TheHand). (knows h).claimed) c.into_parts.ensures.hand
          ∙ claimed-still worker.hand c.serve.new.self.hand c.serve.ensures.aside
          ∙ ap (λ (h : TheHand). (knows h).claimed) c.new-worker.ensures.hand;
      same = kept-both OnlyPosts c.args.desk worker.offers.desk c.serve.new.self.offers.desk c.into_parts.result.1 c.args.desk refl c.new-worker.ensures.desk
          (sym c.into_parts.ensures.desk) c.serve.ensures.desk;
    }
