-- What a call of a post does, and why a name comes back or none is found.
use Rattle.std.specs.Prelude.{◌≡◌, ℕ, ◌-◌, ◌^◌, ◌<◌, ◌≤◌, ◌⊎◌, List, [], ◌∷◌, ◌++◌, length, map, vec_capacity, vec_len}
use Rattle.std.specs.declared.alloc.Global.{Global}
use Rattle.std.specs.declared.vec.Vec.{Vec}
use Rattle.crossbeam_queue.specs.Fifo.{Held}
use Rattle.life_rules.specs.declared.event.Name.{Name}
use Rattle.loop_queue.specs.declared.entry.Entry.{Entry}
use Rattle.loop_queue.specs.declared.entry.Drained.{Drained}
use Rattle.loop_queue.specs.declared.entry.Drained.TheVariants.{Emptied, Most, NoMemory}
use Rattle.loop_queue.specs.declared.post.LoopPost.{LoopPost}
use Rattle.loop_queue.specs.Rule.{Stood}
use Rattle.loop_queue.specs.Posts.{known_of, posted_of, drained_of}

-- At a step of the call the queue held so many entries, of which the post knows what it posted.
abbrev pub HeldAt : ℕ → LoopPost → Type 0
HeldAt count post = Held count (Stood (known_of post))

-- the entry that the post posts next
abbrev pub next_entry : LoopPost → Name → Entry
next_entry post name =
    record { post = post.number; count = length (posted_of post); name = name }

-- The name came in as an entry of the post, the next that it counts.
pub record Posts (name : Name) (old new : LoopPost) : Type 0 where
  pub posted : posted_of new ≡ posted_of old ++ next_entry old name ∷ []
  pub drained : drained_of new ≡ drained_of old

-- This is the name, and nothing changed: the queue was full at a step of the call, or the post
-- posted all that it can count.
pub record HandsBack (name : Name) (old new : LoopPost) (back : Name) : Type 0 where
  pub is : back ≡ name
  pub same : known_of new ≡ known_of old
  pub cause : HeldAt 4096 old ⊎ (length (posted_of old) ≡ 2 ^ 64 - 1)

-- An entry with this name left the queue through the post.
pub record Takes (name : Name) (old new : LoopPost) : Type 0 where
  pub entry : Entry
  pub is : entry.name ≡ name
  pub drained : drained_of new ≡ drained_of old ++ entry ∷ []
  pub posted : posted_of new ≡ posted_of old

-- The queue was empty at a step of the call, and nothing changed.
pub record FindsNone (old new : LoopPost) : Type 0 where
  pub empty : HeldAt 0 old
  pub same : known_of new ≡ known_of old

-- So many entries left the queue through the post, and their names went to the back of a list.
pub record Moves (moved : ℕ) (names more_names : List Name) (old new : LoopPost) : Type 0 where
  pub entries : List Entry
  pub count : length entries ≡ moved
  pub is : more_names ≡ names ++ map (λ entry. entry.name) entries
  pub drained : drained_of new ≡ drained_of old ++ entries
  pub posted : posted_of new ≡ posted_of old

-- Between two calls of the post: fewer names were moved than the queue has room for, and then the
-- queue was found empty.
pub record EmptiesAfter (count : ℕ) (names more : List Name) (old new : LoopPost) : Type 0 where
  pub few : count < 4096
  pub last : LoopPost
  pub moves : Moves count names more old last
  pub none : FindsNone last new

-- Fewer names were moved than the queue has room for. The list is full, and the next name, if there
-- is one, stays in the queue.
pub record StopsAfter (count : ℕ) (names : List Name) (more : Vec Name Global)
    (old new : LoopPost) : Type 0 where
  pub few : count < 4096
  pub moves : Moves count names more.items old new
  pub full : vec_capacity more ≤ vec_len more

-- What a drain says of the names in a list, before and after, and of the post.
abbrev pub Drains : Drained → List Name → Vec Name Global → LoopPost → LoopPost → Type 0
Drains (Emptied count) names more old new = EmptiesAfter count names more.items old new
Drains Most names more old new = Moves 4096 names more.items old new
Drains (NoMemory count) names more old new = StopsAfter count names more old new
