-- The law of the queue.
use Rattle.std.specs.Prelude.{◌≡◌, ◌≢◌, ℕ, List, [], ◌++◌, length, slice_get, Some}
use Rattle.loop_queue.specs.declared.entry.Entry.{Entry}
use Rattle.loop_queue.specs.declared.post.LoopPost.{LoopPost}
use Rattle.loop_queue.specs.Rule.{of_post}
use Rattle.loop_queue.specs.Posts.{posted_of, drained_of}

-- All draining went through the post at this place.
abbrev pub DrainsAlone : ℕ → List LoopPost → Type 0
DrainsAlone place posts = (k : ℕ) (other : LoopPost) → k ≢ place →
    slice_get posts k ≡ Some other → drained_of other ≡ []

-- So many entries are left; and where all draining went through one post, what was drained and then
-- what is left is, of each post, what it posted, in order and each once.
pub record ComeAndGoInOrder (lefts : ℕ) (posts : List LoopPost) : Type 0 where
  pub left : List Entry
  pub count : length left ≡ lefts
  pub order : (place : ℕ) (drainer : LoopPost) → slice_get posts place ≡ Some drainer →
      DrainsAlone place posts → (k : ℕ) (post : LoopPost) → slice_get posts k ≡ Some post →
      posted_of post ≡ of_post post.number (drained_of drainer ++ left)
