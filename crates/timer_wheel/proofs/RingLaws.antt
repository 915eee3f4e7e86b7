-- RingLaws: what the lists keep when a place is put in or taken out.
use Rattle.std.proofs.Common.{zero-add, ◌≡◌, ◌≢◌, ℕ, ◌+◌, ◌-◌, ◌<◌, ◌≤◌, eqb, ltb, cond, List, Option, Some, None, IsSome, length, get_or, set, replicate, refl, sym, ap, ◌∙◌, subst, inl, inr, arith}
use Rattle.std.specs.Prelude.{slice_index}
use Rattle.std.specs.List.{range_with_len}
use Rattle.std.proofs.lemmas.List.FromFn.{get_or-range_with_len, length-range_with_len}
use Rattle.std.proofs.lemmas.Bool.{cases_lt, lt-ltb, le-ltb, eq-eqb, ne_eqb, cond-true, cond-false}
use Rattle.std.proofs.lemmas.List.{get_or-set_same, get_or-set_other, get_or_past, get_or_read, get_or-replicate, length-set, length-replicate}
use Rattle.std.proofs.lemmas.Option.{same_Some, none-some}
use Rattle.timer_wheel.specs.declared.buckets.TheConstants.{BUCKETS}
use Rattle.timer_wheel.specs.declared.limits.TheConstants.{MOST_PLACES}
use Rattle.timer_wheel.specs.Links.{home_of, node_home, Descend, AreLists}
use Rattle.timer_wheel.proofs.LinkLaws.{Writes, WritesBoth-from, WritesBoth-swapped, apart, AreLinked-take_out, AreLinked-put, Descend-take_out, Descend-put, none-stands}

-- a place has its own bucket
pub node_home-place : (homes : List (Option ℕ)) (node : ℕ) → node < length homes → node_home homes node ≡ home_of homes node
unfolding node_home
node_home-place homes node within = cond-true (ltb node (length homes)) _ _ (lt-ltb node (length homes) within)

-- a node behind the places is a head or nothing
node_home-behind : (homes : List (Option ℕ)) (node : ℕ) → length homes ≤ node
    → node_home homes node ≡ cond (ltb node (length homes + BUCKETS)) (Some (node - length homes)) None
unfolding node_home
node_home-behind homes node behind = cond-false (ltb node (length homes)) _ _ (le-ltb node (length homes) behind)

-- a head has its own bucket
pub node_home-head : (homes : List (Option ℕ)) (bucket : ℕ) → bucket < BUCKETS → node_home homes (length homes + bucket) ≡ Some bucket
node_home-head homes bucket within =
    let node : ℕ = length homes + bucket in
    let number : node - length homes ≡ bucket = omega arith in
    node_home-behind homes node (omega arith)
    ∙ cond-true (ltb node (length homes + BUCKETS)) _ _ (lt-ltb node (length homes + BUCKETS) (omega arith))
    ∙ ap Some number

-- what stands in a bucket is a node
pub node_home-bound : (homes : List (Option ℕ)) (node bucket : ℕ) → node_home homes node ≡ Some bucket → node < length homes + BUCKETS
node_home-bound homes node bucket stands = elim (cases_lt node (length homes + BUCKETS)) [
  | inl within ↦ within
  | inr past ↦
      let none =
      node_home-behind homes node (omega arith)
      ∙ cond-false (ltb node (length homes + BUCKETS)) _ _ (le-ltb node (length homes + BUCKETS) past) in
      absurd (none-some bucket (sym none ∙ stands))
]

-- of the nodes behind the places only the head stands in a bucket
pub node_home-only : (homes : List (Option ℕ)) (bucket node : ℕ) → length homes ≤ node → node_home homes node ≡ Some bucket
    → node ≡ length homes + bucket
node_home-only homes bucket node behind stands =
    let within = node_home-bound homes node bucket stands in
    let is =
    node_home-behind homes node behind
    ∙ cond-true (ltb node (length homes + BUCKETS)) _ _ (lt-ltb node (length homes + BUCKETS) within) in
    omega (arith, same_Some (node - length homes) bucket (sym is ∙ stands))

-- a write to a place
Writes-node_home : (homes : List (Option ℕ)) (place : ℕ) (home : Option ℕ) → place < length homes
    → Writes (node_home homes) (node_home (set homes place home)) place home
Writes-node_home homes place home within =
    let new = set homes place home in
    let size : length new ≡ length homes = length-set homes place home in
    record {
      here = node_home-place new place (omega arith) ∙ get_or-set_same homes place home None within;
      others = λ node other. elim (cases_lt node (length homes)) [
        | inl inside ↦
            node_home-place new node (omega arith) ∙ get_or-set_other homes place node home None other
            ∙ sym (node_home-place homes node inside)
        | inr behind ↦
            node_home-behind new node (omega arith)
            ∙ ap (λ n. cond (ltb node (n + BUCKETS)) (Some (node - n)) None) size
            ∙ sym (node_home-behind homes node behind)
      ];
    }

-- a write to a list of numbers
Writes-set : (xs : List ℕ) (i v : ℕ) → i < length xs → Writes (slice_index xs) (slice_index (set xs i v)) i v
Writes-set xs i v within =
    record { here = get_or-set_same xs i v 0 within; others = λ k other. get_or-set_other xs i k v 0 other }

-- the same, where place and value have other names
Writes-renamed : (xs : List ℕ) (i v j w : ℕ) → i < length xs → j ≡ i → w ≡ v
    → Writes (slice_index xs) (slice_index (set xs i v)) j w
Writes-renamed xs i v j w within at is = record {
  here = ap (slice_index (set xs i v)) at ∙ get_or-set_same xs i v 0 within ∙ sym is;
  others = λ k other. get_or-set_other xs i k v 0 (λ e. other (e ∙ sym at));
}

-- the same numbers, with another at one of them
with_value : (ℕ → ℕ) → ℕ → ℕ → ℕ → ℕ
with_value f i v k = cond (eqb k i) v (f k)

Writes-with_value : (f : ℕ → ℕ) (i v : ℕ) → Writes f (with_value f i v) i v
unfolding with_value
Writes-with_value f i v = record {
  here = cond-true (eqb i i) v (f i) (eq-eqb i i refl);
  others = λ k other. cond-false (eqb k i) v (f k) (ne_eqb k i other);
}

-- a place that stands in a bucket is a place
pub place-from_home : (homes : List (Option ℕ)) (place bucket : ℕ) → home_of homes place ≡ Some bucket → place < length homes
place-from_home homes place bucket is = elim (cases_lt place (length homes)) [
  | inl within ↦ within
  | inr past ↦ absurd (none-some bucket (sym (get_or_past homes place None past) ∙ is))
]

-- what is there has a value
pub some-from : (o : Option ℕ) → IsSome o → (x : ℕ) × (o ≡ Some x)
some-from None some = cc
some-from (Some x) some = (x, refl)

module _ (next prev : List ℕ) (homes : List (Option ℕ)) (lists : AreLists next prev homes) where
  -- the head of a bucket, and the node after it, as they are read
  module _ (bucket head first : ℕ) (within : bucket < BUCKETS) (head_is : head ≡ length homes + bucket)
      (read : first ≡ get_or next head first) where
    -- it is the one that the links name
    first-is : first ≡ slice_index next head
    first-is = get_or_read next head first (omega (arith, lists.next_length)) read 0

    -- both stand in the bucket
    head-home : node_home homes head ≡ Some bucket
    head-home = ap (node_home homes) head_is ∙ node_home-head homes bucket within

    first-home : node_home homes first ≡ Some bucket
    first-home = ap (node_home homes) first-is ∙ (lists.forward head bucket head-home).0

    -- it is a node
    pub first-node : first < length prev
    first-node = omega (arith, node_home-bound homes first bucket first-home, lists.prev_length)

    -- and has the head behind it
    first-behind : slice_index prev first ≡ head
    first-behind = ap (slice_index prev) first-is ∙ (lists.forward head bucket head-home).1

    -- the first place stands in the bucket
    pub first-place : first < length homes → home_of homes first ≡ Some bucket
    first-place inside = sym (node_home-place homes first inside) ∙ first-home

    -- where no place follows the head, none stands in the bucket
    pub none-in : length homes ≤ first → (place : ℕ) → home_of homes place ≢ Some bucket
    none-in past place stands =
        let itself : first ≡ head = node_home-only homes bucket first past first-home ∙ sym head_is in
        let only : (node : ℕ) → length homes ≤ node → node_home homes node ≡ Some bucket → node ≡ head =
        λ node behind at. node_home-only homes bucket node behind at ∙ sym head_is in
        let back : slice_index prev head ≡ head = ap (slice_index prev) (sym itself) ∙ first-behind in
        let inside = place-from_home homes place bucket stands in
        none-stands (length homes) (slice_index next) (slice_index prev) (node_home homes) lists.rank head bucket
        lists.forward lists.descend (omega arith) only back place inside
        (node_home-place homes place inside ∙ stands)

  -- a place that stands in a bucket, and the nodes before and after it, as they are read
  module _ (place before after : ℕ) (found : (bucket : ℕ) × (home_of homes place ≡ Some bucket))
      (before_read : before ≡ get_or prev place before) (after_read : after ≡ get_or next place after) where
    -- it is a place
    inside : place < length homes
    inside = place-from_home homes place found.0 found.1

    -- it stands in that bucket as a node
    stands : node_home homes place ≡ Some found.0
    stands = node_home-place homes place inside ∙ found.1

    -- the two nodes are the ones that the links name
    before-is : slice_index prev place ≡ before
    before-is = sym (get_or_read prev place before (omega (arith, inside, lists.prev_length)) before_read 0)

    after-is : slice_index next place ≡ after
    after-is = sym (get_or_read next place after (omega (arith, inside, lists.next_length)) after_read 0)

    -- both are nodes
    pub before-node : before < length next
    before-node =
        let there = node_home-bound homes (slice_index prev place) found.0 (lists.backward place found.0 stands).0 in
        omega (arith, there, before-is, lists.next_length)

    pub after-node : after < length prev
    after-node =
        let there = node_home-bound homes (slice_index next place) found.0 (lists.forward place found.0 stands).0 in
        omega (arith, there, after-is, lists.prev_length)

    -- it is taken out
    pub AreLists-take_out : AreLists (set next before after) (set prev after before) (set homes place None)
    AreLists-take_out =
        let size = length-set homes place None in
        let new_next = set next before after in
        let new_prev = set prev after before in
        let new_home = node_home (set homes place None) in
        let down = lists.descend place found.0 inside stands in
        let after_ne : slice_index next place ≢ place = λ e. omega (arith, down, ap lists.rank e) in
        let before_ne : slice_index prev place ≢ place =
        λ e. after_ne (ap (slice_index next) (sym e) ∙ (lists.backward place found.0 stands).1) in
        let wn : Writes (slice_index next) (slice_index new_next) (slice_index prev place) (slice_index next place) =
        Writes-renamed next before after (slice_index prev place) (slice_index next place) before-node before-is after-is in
        let wp : Writes (slice_index prev) (slice_index new_prev) (slice_index next place) (slice_index prev place) =
        Writes-renamed prev after before (slice_index next place) (slice_index prev place) after-node after-is before-is in
        let wh = Writes-node_home homes place None inside in
        record {
          few = omega (arith, size, lists.few);
          next_length = omega (arith, length-set next before after, size, lists.next_length);
          prev_length = omega (arith, length-set prev after before, size, lists.prev_length);
          forward =
              AreLinked-take_out (slice_index next) (slice_index prev) (slice_index new_next) (slice_index new_prev)
              (node_home homes) new_home place found.0 lists.forward lists.backward stands after_ne wn wp wh;
          backward =
              AreLinked-take_out (slice_index prev) (slice_index next) (slice_index new_prev) (slice_index new_next)
              (node_home homes) new_home place found.0 lists.backward lists.forward stands before_ne wp wn wh;
          rank = lists.rank;
          descend =
              subst (λ n. Descend n (slice_index new_next) new_home lists.rank) (sym size)
              (Descend-take_out (length homes) (slice_index next) (slice_index prev) (slice_index new_next) (node_home homes)
              new_home lists.rank place found.0 lists.descend lists.backward inside stands wn wh);
        }

  -- a place is put in front of a list
  pub AreLists-put : (place bucket head first : ℕ) → place < length homes → home_of homes place ≡ None → bucket < BUCKETS
      → head ≡ length homes + bucket → first ≡ get_or next head first
      → AreLists (set (set next place first) head place) (set (set prev first place) place head) (set homes place (Some bucket))
  AreLists-put place bucket head first inside free within head_is read =
      let head_in = head-home bucket head first within head_is read in
      let first_is = first-is bucket head first within head_is read in
      let first_in = first-home bucket head first within head_is read in
      let back = first-behind bucket head first within head_is read in
      let alone : node_home homes place ≡ None = node_home-place homes place inside ∙ free in
      let head_ne = apart (node_home homes) place head bucket alone head_in in
      let first_ne = apart (node_home homes) place first bucket alone first_in in
      let size = length-set homes place (Some bucket) in
      let first_node = node_home-bound homes first bucket first_in in
      let next_one = set next place first in
      let prev_one = set prev first place in
      let next_one_size = length-set next place first in
      let prev_one_size = length-set prev first place in
      let new_next = set next_one head place in
      let new_prev = set prev_one place head in
      let wn = WritesBoth-from (slice_index next) (slice_index next_one) (slice_index new_next) place first head place
      (λ e. head_ne (sym e))
      (Writes-set next place first (omega (arith, lists.next_length)))
      (Writes-set next_one head place (omega (arith, lists.next_length))) in
      let wp = WritesBoth-from (slice_index prev) (slice_index prev_one) (slice_index new_prev) first place place head
      first_ne
      (Writes-set prev first place (omega (arith, lists.prev_length)))
      (Writes-set prev_one place head (omega (arith, lists.prev_length))) in
      let wh = Writes-node_home homes place (Some bucket) inside in
      let rank = with_value lists.rank place (lists.rank first + 1) in
      let new_home = node_home (set homes place (Some bucket)) in
      record {
        few = omega (arith, lists.few);
        next_length = omega (arith, length-set next_one head place, lists.next_length);
        prev_length = omega (arith, length-set prev_one place head, lists.prev_length);
        forward =
            AreLinked-put (slice_index next) (slice_index prev) (slice_index new_next) (slice_index new_prev)
            (node_home homes) new_home place bucket head first lists.forward alone head_in first_in back wn wp wh;
        backward =
            AreLinked-put (slice_index prev) (slice_index next) (slice_index new_prev) (slice_index new_next)
            (node_home homes) new_home place bucket first head lists.backward alone first_in head_in (sym first_is)
            (WritesBoth-swapped (slice_index prev) (slice_index new_prev) first place place head wp)
            (WritesBoth-swapped (slice_index next) (slice_index new_next) place first head place wn) wh;
        rank = rank;
        descend = subst (λ n. Descend n (slice_index new_next) new_home rank) (sym size)
            (Descend-put (length homes) (slice_index next) (slice_index prev) (slice_index new_next) (node_home homes) new_home lists.rank rank place bucket
            head first lists.forward lists.descend (omega arith) alone first_in wn wh
            (Writes-with_value lists.rank place (lists.rank first + 1)));
      }

-- each node of lists that were opened follows itself, and no place stands in one
pub AreLists-opened : (places : ℕ) (next prev : List ℕ) (homes : List (Option ℕ)) → places ≤ MOST_PLACES
    → next ≡ range_with_len 0 (places + BUCKETS) → prev ≡ range_with_len 0 (places + BUCKETS)
    → homes ≡ replicate places None → AreLists next prev homes
AreLists-opened places next prev homes few next_is prev_is none =
    let nodes : ℕ = places + BUCKETS in
    let next_size : length next ≡ nodes = ap length next_is ∙ length-range_with_len 0 nodes in
    let prev_size : length prev ≡ nodes = ap length prev_is ∙ length-range_with_len 0 nodes in
    let nexts : (k : ℕ) → k < nodes → slice_index next k ≡ k =
    λ k within. ap (λ xs. slice_index xs k) next_is ∙ get_or-range_with_len 0 nodes k 0 within ∙ zero-add k in
    let prevs : (k : ℕ) → k < nodes → slice_index prev k ≡ k =
    λ k within. ap (λ xs. slice_index xs k) prev_is ∙ get_or-range_with_len 0 nodes k 0 within ∙ zero-add k in
    let size : length homes ≡ places = ap length none ∙ length-replicate places None in
    let free : (place : ℕ) → home_of homes place ≡ None =
    λ place. ap (λ h. home_of h place) none ∙ none-of place in
    let node : (k b : ℕ) → node_home homes k ≡ Some b → k < places + BUCKETS =
    λ k b stands. omega (arith, node_home-bound homes k b stands) in
    record {
      few = omega arith;
      next_length = omega arith;
      prev_length = omega arith;
      forward = λ k b stands. let n = nexts k (node k b stands) in
          (ap (node_home homes) n ∙ stands, ap (slice_index prev) n ∙ prevs k (node k b stands));
      backward = λ k b stands. let p = prevs k (node k b stands) in
          (ap (node_home homes) p ∙ stands, ap (slice_index next) p ∙ nexts k (node k b stands));
      rank = λ k. 0;
      descend = λ k b inside stands. absurd (none-some b (sym (free k) ∙ sym (node_home-place homes k inside) ∙ stands));
    }
  where
    none-of : (place : ℕ) → home_of (replicate places None) place ≡ None
    none-of place = elim (cases_lt place places) [
      | inl within ↦ get_or-replicate places place None None within
      | inr past ↦ get_or_past (replicate places None) place None (omega (arith, length-replicate {A = Option ℕ} places None))
    ]
