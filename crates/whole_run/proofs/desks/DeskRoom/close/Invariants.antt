use Rattle.std.proofs.Common.{◌≡◌, ◌+◌, ◌≤◌, ◌++◌, length, reverse, vec_capacity, vec_len}
use Rattle.whole_run.specs.DeskEnds.{decks_of, posts_of}
use Rattle.whole_run.proofs.desks.DeskRoom.close.Given as goal

abbrev pub invariant-loop-desk : goal.invariant-loop-desk
invariant-loop-desk g l =
    record {
      decks : decks_of l.fn.desks.items ≡ l.decks.items ++ decks_of (reverse l.desks.items);
      posts : posts_of l.fn.desks.items ≡ l.posts.items ++ posts_of (reverse l.desks.items);
      decks_fit : length l.decks.items + length l.desks.items ≤ vec_capacity l.decks;
      posts_fit : length l.posts.items + length l.desks.items ≤ vec_capacity l.posts;
    }

abbrev pub decreases-loop-desk : goal.decreases-loop-desk
decreases-loop-desk g l = vec_len l.desks
