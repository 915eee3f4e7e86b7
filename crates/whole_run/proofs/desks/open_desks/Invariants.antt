use Rattle.std.proofs.Common.{◌≡◌, ◌+◌, ◌≤◌, ◌++◌, length, reverse, vec_capacity, vec_len}
use Rattle.whole_run.specs.DeskEnds.{decks_of, posts_of}
use Rattle.whole_run.proofs.desks.open_desks.Given as goal

abbrev pub invariant-loop-deck : goal.invariant-loop-deck
invariant-loop-deck l =
    record {
      even : length l.posts.items ≡ length l.decks.items;
      decks : l.initial.decks.items ≡ l.decks.items ++ decks_of (reverse l.desks.items);
      posts : l.initial.posts.items ≡ l.posts.items ++ posts_of (reverse l.desks.items);
      fits : length l.decks.items + length l.desks.items ≤ vec_capacity l.desks;
      decks_fit : l.workers + 1 ≤ vec_capacity l.decks;
      posts_fit : l.workers + 1 ≤ vec_capacity l.posts;
    }

abbrev pub decreases-loop-deck : goal.decreases-loop-deck
decreases-loop-deck l = vec_len l.decks
