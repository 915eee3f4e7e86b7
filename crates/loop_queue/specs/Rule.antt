-- What the queue keeps of its entries and of all that post and drain.
use Rattle.std.specs.Prelude.{◌≡◌, ◌≢◌, ℕ, ◌+◌, ◌-◌, ◌<◌, ◌≤◌, Bool, true, false, ◌&&◌, ◌||◌, List, [], ◌∷◌, ◌++◌, length, filter, sum_by, All, nat_eq}
use mathlib.Core.Option.{some}
use lib.ListN.{get_elem?}
use Rattle.loop_queue.specs.declared.entry.Entry.{Entry}
use Rattle.loop_queue.specs.declared.queue.Known.{Known}

-- the entries of one post, in their order
abbrev pub of_post : ℕ → List Entry → List Entry
of_post number entries = filter (λ e. nat_eq e.post number) entries

abbrev pub known : ℕ → ℕ → ℕ → List Entry → List Entry → Bool → Known
known share from upto posted drained mixed =
    record {
      share = share;
      from = from;
      upto = upto;
      posted = posted;
      drained = drained;
      mixed = mixed;
    }

-- The first pass may post under any number, and has every share.
abbrev pub at_first : Known
at_first = known 32 0 32 [] [] false

-- Its first number goes to a new pass, with one share.
abbrev pub without_next : Known → Known
without_next v = record v { share = v.share - 1; from = v.from + 1 }

abbrev pub with_next : Known → Known
with_next v = known 1 v.from (v.from + 1) [] [] false

-- The entry came in last, or went out first.
abbrev pub posting : Known → Entry → Known
posting v entry = record v { posted = v.posted ++ entry ∷ [] }

abbrev pub draining : Known → Entry → Known
draining v entry = record v { drained = v.drained ++ entry ∷ [] }

abbrev pub has_some : List Entry → Bool
has_some [] = false
has_some (entry ∷ entries) = true

-- Two passes are one: the order of what was drained is lost where both drained.
abbrev pub both : Known → Known → Known
both v w =
    known (v.share + w.share) v.from v.upto (v.posted ++ w.posted) (v.drained ++ w.drained)
    (v.mixed || (w.mixed || (has_some v.drained && has_some w.drained)))

abbrev pub spent : Known
spent = known 0 0 0 [] [] true

-- What the rule says of the pass of one number. Each number has one owner; what left the queue is
-- `gone`, in order, and so many entries were drained in all.
pub record Fits (owner : ℕ → ℕ) (gone items : List Entry) (drains pass : ℕ)
    (v : Known) : Type 0 where
  -- without a share it did nothing
  pub idle : v.share ≡ 0 → (v.posted ≡ []) × (v.drained ≡ [])
  -- it owns the numbers that it may post under
  pub owns : (k : ℕ) → v.from ≤ k → k < v.upto → owner k ≡ pass
  -- it posted under no other number than its own
  pub apart : (k : ℕ) → owner k ≢ pass → of_post k v.posted ≡ []
  -- what it posted is what left and then what the queue holds
  pub order : (k : ℕ) → owner k ≡ pass → of_post k v.posted ≡ of_post k (gone ++ items)
  -- where it drained all, it knows what left, in order
  pub sole : v.mixed ≡ false → drains ≡ length v.drained → v.drained ≡ gone

-- The rule, of the entries in the queue and what each pass knows.
pub record Ordered (items : List Entry) (views : List Known) : Type 0 where
  pub whole : sum_by (λ v. v.share) views ≡ 32
  pub owner : ℕ → ℕ
  pub there : (k : ℕ) → owner k < length views
  pub gone : List Entry
  pub fits : (pass : ℕ) (v : Known) → get_elem? views pass ≡ some v →
      Fits owner gone items (sum_by (λ u. length u.drained) views) pass v

-- At a moment the queue held these entries, and this pass was among those that post and drain.
pub record Stood (v : Known) (items : List Entry) : Type 0 where
  pub views : List Known
  pub pass : ℕ
  pub there : get_elem? views pass ≡ some v
  pub ordered : Ordered items views

-- What is learned with every share: under each number, what was posted is what left the queue and
-- then what it holds; and what was drained is what left it, in order, where that is known.
pub record Tells (v : Known) (items : List Entry) : Type 0 where
  pub gone : List Entry
  pub order : (k : ℕ) → of_post k v.posted ≡ of_post k (gone ++ items)
  pub sole : v.mixed ≡ false → v.drained ≡ gone

-- The pass of a post: it may post under the post's number, has a share, and posted so many entries,
-- all under that number.
pub record IsNumbered (number posts : ℕ) (v : Known) : Type 0 where
  pub some : 0 < v.share
  pub from : v.from ≡ number
  pub upto : number < v.upto
  pub count : length v.posted ≡ posts
  pub own : All (λ entry. entry.post ≡ number) v.posted
  pub plain : v.mixed ≡ false
