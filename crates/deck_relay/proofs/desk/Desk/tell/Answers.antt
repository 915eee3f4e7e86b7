use Rattle.std.proofs.Common.{refl}
use Rattle.deck_relay.specs.SameDecks.{deck-here}
use Rattle.deck_relay.proofs.Told.{either-came, posts-undrained}
use Rattle.deck_relay.proofs.desk.Desk.tell.Goals as goal

pub returns-clause-same : goal.returns-clause-same
returns-clause-same g c =
    let post = c.post-back in
    record {
      same = record { deck = deck-here c.args.self.now.deck; post = post.ensures.same };
      undrained = posts-undrained c.args.name post.result c.args.self.now.post post.new.self post.ensures.posted post.ensures.back;
    }

pub returns-clause-tells : goal.returns-clause-tells
returns-clause-tells g c = record { deck = refl; posts = either-came c.post-back.result c.post-back.ensures.posted c.post-back.ensures.back }
