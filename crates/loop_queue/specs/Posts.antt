-- What a post is seen as, and which posts belong together.
use Rattle.std.specs.Prelude.{◌≡◌, ◌≢◌, ℕ, ◌<◌, false, List, [], length, sum_by, slice_get, Some}
use Rattle.atomic_table.specs.Seated.{TableId}
use Rattle.crossbeam_queue.specs.Passes.{Pass, view}
use Rattle.loop_queue.specs.declared.entry.Entry.{Entry}
use Rattle.loop_queue.specs.declared.queue.Known.{Known}
use Rattle.loop_queue.specs.declared.queue.LoopQueue.{LoopQueue}
use Rattle.loop_queue.specs.declared.post.LoopPost.{LoopPost}

-- which queue it is
abbrev pub queue_of : LoopQueue → TableId
queue_of queue = queue.line.table.shared.table_id

abbrev pub posts_queue : LoopPost → TableId
posts_queue post = post.pass.table_id

-- what the post knows
abbrev pub known_of : LoopPost → Known
known_of post = view post.pass

-- the entries that it posted, and those that were drained through it, both in order
abbrev pub posted_of : LoopPost → List Entry
posted_of post = (known_of post).posted

abbrev pub drained_of : LoopPost → List Entry
drained_of post = (known_of post).drained

-- its part of the right to know the whole
abbrev pub share_of : LoopPost → ℕ
share_of post = (known_of post).share

-- It is the same post of the same queue.
pub record IsSamePost (old new : LoopPost) : Type 0 where
  pub number : new.number ≡ old.number
  pub queue : posts_queue new ≡ posts_queue old
  pub share : share_of new ≡ share_of old

-- It posted nothing, nothing was drained through it, and it may post under this number.
pub record IsBare (number : ℕ) (v : Known) : Type 0 where
  pub some : 0 < v.share
  pub from : v.from ≡ number
  pub upto : number < v.upto
  pub posted : v.posted ≡ []
  pub drained : v.drained ≡ []
  pub plain : v.mixed ≡ false

-- a post of this queue, over this pass
pub record IsNewPost (of : LoopQueue) (over : Pass Entry Known) (at : ℕ)
    (post : LoopPost) : Type 0 where
  pub queue : posts_queue post ≡ queue_of of
  pub known : known_of post ≡ view over
  pub number : post.number ≡ at

-- It is the post of this queue with this number: it posted nothing, and drained nothing.
pub record IsNew (of : LoopQueue) (at : ℕ) (post : LoopPost) : Type 0 where
  pub number : post.number ≡ at
  pub queue : posts_queue post ≡ queue_of of
  pub posted : posted_of post ≡ []
  pub drained : drained_of post ≡ []

-- The posts with which a queue opens: so many, each at its number, and they have all shares.
pub record AreOpened (opened : ℕ) (of : LoopQueue) (posts : List LoopPost) : Type 0 where
  pub count : length posts ≡ opened
  pub new : (k : ℕ) (post : LoopPost) → slice_get posts k ≡ Some post → IsNew of k post
  pub shares : sum_by share_of posts ≡ 32

-- All posts of the queue: each is one of it, no two have one number, and their shares are all that
-- there are.
pub record CameBack (to : LoopQueue) (posts : List LoopPost) : Type 0 where
  pub queue : (k : ℕ) (post : LoopPost) → slice_get posts k ≡ Some post →
      posts_queue post ≡ queue_of to
  pub numbers : (j k : ℕ) (one other : LoopPost) → j ≢ k →
      slice_get posts j ≡ Some one → slice_get posts k ≡ Some other → one.number ≢ other.number
  pub shares : sum_by share_of posts ≡ 32
