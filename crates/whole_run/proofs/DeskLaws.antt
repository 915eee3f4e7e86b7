-- All desks of a run stay so until they are closed.
use Rattle.std.proofs.Common.{◌≡◌, ◌≤◌, ℕ, ◌+◌, zero, suc, List, [], ◌∷◌, ◌++◌, length, map, reverse, sum_by, ⊎_elim, inl, inr, arith, refl, sym, ap, ◌∙◌, subst, append_assoc, append-nil}
use Rattle.std.specs.Prelude.{Option, Some, None, MatchOption, option_to_list, slice_get, vec_capacity}
use Rattle.std.specs.Arc.{arc_value}
use Rattle.std.proofs.lemmas.Bool.{cases_lt}
use Rattle.std.proofs.lemmas.List.{length-map, length_push, reverse-append, reverse-reverse}
use Rattle.std.proofs.lemmas.List.Sums.{sum_by-cons}
use Rattle.deck_relay.specs.declared.deck.Deck.{Deck}
use Rattle.deck_relay.specs.Decks.{IsSameDeck, queue_view}
use Rattle.deck_relay.specs.Relays.{AreOpened as AreNewDecks, CameBack as AreAllDecks, IsRow, IsWhole, Marks}
use Rattle.deck_relay.proofs.Seats.{at-last, in-last, map-from, map-got, no-more, within}
use Rattle.loop_queue.specs.declared.post.LoopPost.{LoopPost}
use Rattle.loop_queue.specs.declared.queue.LoopQueue.{LoopQueue}
use Rattle.loop_queue.specs.Law.{ComeAndGoInOrder, DrainsAlone}
use Rattle.loop_queue.specs.Posts.{AreOpened as AreNewPosts, CameBack as AreAllPosts, IsSamePost, drained_of, share_of}
use Rattle.run_workers.specs.Crews.{AreLeft, IsWith}
use Rattle.run_workers.proofs.Kept.{desks-back}
use Rattle.deck_relay.specs.declared.desk.Desk.{Desk}
use Rattle.deck_relay.specs.Desks.{IsSameDesk, KeepsOwn, OnlyPosts}
use Rattle.whole_run.specs.declared.desks.DeskRoom.{DeskRoom}
use Rattle.whole_run.specs.DeskEnds.{GoInOrder, decks_of, posts_of}
use Rattle.whole_run.specs.Desks.{AreClosedFor, AreDesksOf, AreFreshDesks, CanClose, Closes, ComeBack, HasDesks, LastDrains}
use Rattle.whole_run.specs.Owns.{last_desk}
use Rattle.whole_run.specs.declared.desks.DeskEnd.{DeskEnd}

none-left : {X : Type 0} (l : List X) → length l ≡ 0 → l ≡ []
none-left [] none = refl
none-left (x ∷ l) none = absurd (omega (arith, none))

-- a desk that is there now was there before
was-there : (old new : List Desk) (k : ℕ) (now : Desk) → length new ≡ length old → slice_get new k ≡ Some now → (was : Desk) × (slice_get old k ≡ Some was)
was-there old [] k now long at = absurd (no-more now at)
was-there [] (x ∷ new) k now long at = absurd (omega (arith, long))
was-there (w ∷ old) (x ∷ new) zero now long at = (w, refl)
was-there (w ∷ old) (x ∷ new) (suc k) now long at = was-there old new k now (omega (arith, long)) at

-- parts of desks that came back, of which each is the same in its place
module _ {X : Type 0} (f : Desk → X) where
  abbrev EachSame : (X → X → Type 0) → List Desk → List Desk → Type 0
  EachSame Same old new = (k : ℕ) (was now : Desk) → slice_get old k ≡ Some was → slice_get new k ≡ Some now → Same (f was) (f now)

  before : (Same : X → X → Type 0) (old new : List Desk) → length new ≡ length old → EachSame Same old new →
      (k : ℕ) (x : X) → slice_get (map f new) k ≡ Some x → (was : X) × (slice_get (map f old) k ≡ Some was) × Same was x
  before Same old new long each k x at =
      let now = map-from f new k x at in
      let was = was-there old new k now.0 long now.1 in
      (f was.0, map-got f old k was.0 was.1, subst (Same (f was.0)) now.2 (each k was.0 now.0 was.1 now.1))

  sums : (g : X → ℕ) (old new : List Desk) → length new ≡ length old → EachSame (λ was now. g now ≡ g was) old new →
      sum_by g (map f new) ≡ sum_by g (map f old)
  sums g [] [] long each = refl
  sums g [] (x ∷ new) long each = absurd (omega (arith, long))
  sums g (w ∷ old) [] long each = absurd (omega (arith, long))
  sums g (w ∷ old) (x ∷ new) long each =
      omega (
        arith,
        each 0 w x refl refl,
        sums g old new (omega (arith, long)) (λ k was now at at'. each (suc k) was now at at'),
        sum_by-cons g (f w) (map f old),
        sum_by-cons g (f x) (map f new),
      )

  -- one of them goes from a list of parts to the desks, which stand there the last first; or back
  pub moves : (long short : List X) (few more : List Desk) (desk : Desk) → long ≡ short ++ f desk ∷ [] → more ≡ few ++ desk ∷ [] →
      long ++ map f (reverse few) ≡ short ++ map f (reverse more)
  moves long short few more desk is is' =
      ap (λ (l : List X). l ++ map f (reverse few)) is
      ∙ append_assoc short (f desk ∷ []) (map f (reverse few))
      ∙ ap (λ (l : List Desk). short ++ map f l) (sym (ap reverse is' ∙ reverse-append few (desk ∷ [])))

  -- so all are there when the desks are gone
  pub all-here : (all here : List X) (desks : List Desk) → all ≡ here ++ map f (reverse desks) → length desks ≡ 0 → here ≡ all
  all-here all here desks are none =
      sym (are ∙ ap (λ (l : List Desk). here ++ map f (reverse l)) (none-left desks none) ∙ append-nil here)

  -- and all desks, when the parts are gone
  pub all-there : (all here : List X) (turned desks : List Desk) → all ≡ here ++ map f (reverse turned) → length here ≡ 0 → desks ≡ reverse turned →
      all ≡ map f desks
  all-there all here turned desks are none is =
      are ∙ ap (λ (l : List X). l ++ map f (reverse turned)) (none-left here none) ∙ ap (λ (l : List Desk). map f l) (sym is)

  pub turned-twice : (here : List X) (desks turned : List Desk) → here ≡ [] → turned ≡ reverse desks → map f desks ≡ here ++ map f (reverse turned)
  turned-twice here desks turned none is =
      ap (λ (l : List Desk). map f l) (sym (ap reverse is ∙ reverse-reverse desks)) ∙ ap (λ (l : List X). l ++ map f (reverse turned)) (sym none)

still-whole : (marks : Marks) (hands place : ℕ) (old new : Deck) → IsSameDeck old new → IsWhole marks hands place old → IsWhole marks hands place new
still-whole marks hands place old new same whole =
    record {
      own = same.own ∙ whole.own;
      queue = same.queue ∙ whole.queue;
      seats = subst (IsRow marks) (sym same.row) whole.seats;
      long = ap length same.row ∙ whole.long;
      share = ap (λ n. n + hands) same.share ∙ whole.share;
    }

still-decks : (old new : List Desk) → AreLeft IsSameDesk old new → AreAllDecks (decks_of old) → AreAllDecks (decks_of new)
still-decks old new same all =
    let deck = λ (d : Desk). d.deck in
    let long : length (decks_of old) ≡ length (decks_of new) = length-map old deck ∙ sym same.count ∙ sym (length-map new deck) in
    record {
      marks = all.marks;
      each = λ k now at.
          let was = before deck IsSameDeck old new same.count (λ j one other at-one at-other. (same.each j one other at-one at-other).deck) k now at in
          subst (λ (n : ℕ). IsWhole all.marks n k now) long
          (still-whole all.marks (length (decks_of old)) k was.0 now was.2 (all.each k was.0 was.1));
      shares = sums deck (λ (d : Deck). (queue_view d).share) old new same.count (λ k was now at at'. (same.each k was now at at').deck.queued) ∙ all.shares;
    }

still-posts : (of : LoopQueue) (old new : List Desk) → AreLeft IsSameDesk old new → AreAllPosts of (posts_of old) → AreAllPosts of (posts_of new)
still-posts of old new same all =
    let post = λ (d : Desk). d.post in
    let was-post = before post IsSamePost old new same.count (λ j one other at-one at-other. (same.each j one other at-one at-other).post) in
    record {
      queue = λ k now at. let was = was-post k now at in was.2.queue ∙ all.queue k was.0 was.1;
      numbers = λ j k one other apart at at' is.
          let first = was-post j one at in
          let second = was-post k other at' in
          all.numbers j k first.0 second.0 apart first.1 second.1 (sym first.2.number ∙ is ∙ second.2.number);
      shares = sums post share_of old new same.count (λ k was now at at'. (same.each k was now at at').post.share) ∙ all.shares;
    }

-- desks that came back can be closed as the others could
pub still-closable : (room : Option DeskRoom) (old new : List Desk) → ComeBack old new → CanClose room old → CanClose room new
still-closable (Some room) old new came can =
    let same = came.same in
    record {
      all_decks = still-decks old new same can.all_decks;
      all_posts = still-posts (arc_value room.queue) old new same can.all_posts;
      no_deck = can.no_deck;
      no_post = can.no_post;
      decks_fit = subst (λ (n : ℕ). n ≤ vec_capacity room.decks) (sym same.count) can.decks_fit;
      posts_fit = subst (λ (n : ℕ). n ≤ vec_capacity room.posts) (sym same.count) can.posts_fit;
    }
still-closable None old new came none = none-left new (came.same.count ∙ ap length none)

-- workers drained nothing through their posts, so hand 0 drained alone
last-alone : (workers : ℕ) (old new : List Desk) → AreFreshDesks workers old → ComeBack old new → DrainsAlone workers (posts_of new)
last-alone workers old new fresh came k other apart at =
    let now = map-from (λ (d : Desk). d.post) new k other at in
    let was = was-there old new k now.0 came.same.count now.1 in
    let low = within new k now.0 now.1 in
    elim (cases_lt k workers) [
      | inl less ↦
          subst (λ (post : LoopPost). drained_of post ≡ []) now.2
          (came.last k was.0 now.0 (omega (arith, less, fresh.count)) was.1 now.1 ∙ fresh.undrained k was.0 was.1)
      | inr past ↦ absurd (apart (omega (arith, past, low, came.same.count, fresh.count)))
    ]

in-order : (place lefts : ℕ) (posts : List LoopPost) → ComeAndGoInOrder lefts posts → DrainsAlone place posts → GoInOrder place lefts posts
in-order place lefts posts law alone =
    record { left = law.left; count = law.count; order = λ drainer at k post there. law.order place drainer at alone k post there }

-- so many workers' desks, which came back, were closed
pub closed-all : (workers : ℕ) (room : Option DeskRoom) (old new : List Desk) (end : Option DeskEnd) → HasDesks workers room old →
    ComeBack old new → Closes room new end → AreClosedFor workers end
closed-all workers (Some room) old new (Some end) has came closed =
    record {
      count = ap length closed.all ∙ came.same.count ∙ has.count;
      decks = closed.so.decks;
      posts = in-order workers end.entries (posts_of end.desks) closed.so.posts
          (subst (λ (l : List Desk). DrainsAlone workers (posts_of l)) (sym closed.all) (last-alone workers old new has came));
    }
closed-all workers (Some room) old new None has came closed = absurd closed
closed-all workers None old new (Some end) has came closed = absurd closed
closed-all workers None old new None has came closed = has

-- the workers' desks come back, and hand 0's
last-drains : (last again : Option Desk) (all rest back after : List Desk) → IsWith last rest all → IsWith again back after →
    AreLeft OnlyPosts rest back → KeepsOwn last again → LastDrains all after
last-drains (Some last) (Some again) all rest back after is is' left own =
    subst (λ (t : List Desk × List Desk). LastDrains t.0 t.1) (λ j. (sym is j, sym is' j))
    (λ k before now low at_old at_new. ⊎_elim
    (λ old_last. absurd (omega (arith, low, length_push rest last, old_last.0)))
    (λ old_in. ⊎_elim
    (λ new_last. let below = within rest k before old_in in absurd (omega (arith, below, new_last.0, left.count)))
    (λ new_in. (left.each k before now old_in new_in).undrained)
    (at-last back again now k at_new))
    (at-last rest last before k at_old))
last-drains (Some last) None all rest back after is is' left own = absurd own
last-drains None (Some again) all rest back after is is' left own = absurd own
last-drains None None all rest back after is is' left own =
    subst (λ (t : List Desk × List Desk). LastDrains t.0 t.1) (λ j. (sym is j, sym is' j))
    (λ k before now low at at'. (left.each k before now at at').undrained)

pub come-back : (last again : Option Desk) (all rest back after : List Desk) → IsWith last rest all → IsWith again back after →
    AreLeft OnlyPosts rest back → KeepsOwn last again → ComeBack all after
come-back last again all rest back after is is' left own =
    let same : AreLeft IsSameDesk rest back = record { count = left.count; each = λ k before now at at'. (left.each k before now at at').same } in
    record {
      same = desks-back IsSameDesk last again all rest back after is is' same own;
      last = last-drains last again all rest back after is is' left own;
    }

-- a queue opens with all its posts
opened-posts : (count : ℕ) (of : LoopQueue) (posts : List LoopPost) → AreNewPosts count of posts → AreAllPosts of posts
opened-posts count of posts opened =
    record {
      queue = λ k post at. (opened.new k post at).queue;
      numbers = λ j k one other apart at at' is. apart (sym (opened.new j one at).number ∙ is ∙ (opened.new k other at').number);
      shares = opened.shares;
    }

-- through which nothing was drained yet
pub opens-fresh : (workers : ℕ) (of : LoopQueue) (posts : List LoopPost) (desks : List Desk) → AreNewPosts (workers + 1) of posts →
    posts ≡ posts_of desks → AreFreshDesks workers desks
opens-fresh workers of posts desks new are =
    let post = λ (d : Desk). d.post in
    record {
      count = sym (length-map desks post) ∙ ap length (sym are) ∙ new.count;
      undrained = λ k desk at.
          let there = subst (λ (l : List LoopPost). slice_get l k ≡ Some desk.post) (sym are) (map-got post desks k desk at) in
          (new.new k desk.post there).drained;
    }

-- all of them on new desks
pub opens : (room : DeskRoom) (hands : ℕ) (decks : List Deck) (posts : List LoopPost) (desks : List Desk) → AreNewDecks hands decks →
    AreNewPosts hands (arc_value room.queue) posts → decks ≡ decks_of desks → posts ≡ posts_of desks → length room.decks.items ≡ 0 →
    length room.posts.items ≡ 0 → hands ≤ vec_capacity room.decks → hands ≤ vec_capacity room.posts → AreDesksOf room desks
opens room hands decks posts desks new new' are are' none none' fit fit' =
    let long : length desks ≡ hands = sym (length-map desks (λ (d : Desk). d.deck)) ∙ ap length (sym are) ∙ new.count in
    record {
      all_decks = subst (λ (l : List Deck). AreAllDecks l) are new.all;
      all_posts = subst (λ (l : List LoopPost). AreAllPosts (arc_value room.queue) l) are' (opened-posts hands (arc_value room.queue) posts new');
      no_deck = none-left room.decks.items none;
      no_post = none-left room.posts.items none';
      decks_fit = omega (arith, long, fit);
      posts_fit = omega (arith, long, fit');
    }

-- the desk that was taken is the last of all
pub popped-with : (desk : Option Desk) (rest all : List Desk) → all ≡ rest ++ option_to_list desk → IsWith desk rest all
popped-with (Some desk) rest all is = is
popped-with None rest all is = is ∙ append-nil rest

-- it is hand 0's, where there is one
pub popped-last : (desk : Option Desk) (rest all : List Desk) (had has : ℕ) → all ≡ rest ++ option_to_list desk → had ≡ length all →
    MatchOption desk ((had ≡ 0) × (has ≡ 0)) (λ _. has + 1 ≡ had) → last_desk all ≡ desk
popped-last (Some desk) rest all had has is long fewer =
    ap last_desk is
    ∙ ap (λ n. slice_get (rest ++ desk ∷ []) n) (let more = length_push rest desk in omega (arith, more))
    ∙ in-last rest desk
popped-last None rest all had has is long none = ap last_desk (none-left all (sym long ∙ none.0))
