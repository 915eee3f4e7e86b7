-- A queue that is closed: its posts come back one after the other, and then all is told.
use Rattle.std.proofs.Common.{◌≡◌, ℕ, false, List, [], ◌∷◌, ◌++◌, length, sum_by, All, arith, refl, sym, ap, ◌∙◌, subst, append_assoc}
use Rattle.std.specs.Prelude.{slice_get}
use Rattle.common_lemmas.proofs.Lists.{slice_get-append_middle}
use Rattle.crossbeam_queue.specs.Passes.{Pass, view, IsPassOf, IsSamePass}
use Rattle.loop_queue.specs.declared.entry.Entry.{Entry}
use Rattle.loop_queue.specs.declared.queue.Known.{Known}
use Rattle.loop_queue.specs.declared.queue.LoopQueue.{LoopQueue}
use Rattle.loop_queue.specs.declared.post.LoopPost.{LoopPost}
use Rattle.loop_queue.specs.Rule.{Tells, of_post, both}
use Rattle.loop_queue.specs.Posts.{CameBack, known_of, share_of, drained_of}
use Rattle.loop_queue.specs.Law.{ComeAndGoInOrder}
use Rattle.loop_queue.proofs.Gather.{gather, shared, posted-at, drained-at}

abbrev pub number_of : LoopPost → ℕ
number_of post = post.number

-- the posts but these came back to this pass
pub record Gathering (of : LoopQueue) (posts left : List LoopPost) (whole : Pass Entry Known) : Type 0 where
  pub first : LoopPost
  pub rest : List LoopPost
  pub seated : IsPassOf of.line whole
  pub all : posts ≡ left ++ first ∷ rest
  pub knows : view whole ≡ gather number_of known_of first rest

own : (post : LoopPost) → All (λ entry. entry.post ≡ number_of post) (known_of post).posted
own post = post.numbered.own

plain : (post : LoopPost) → (known_of post).mixed ≡ false
plain post = post.numbered.plain

-- each of the posts is of the queue
pub seats : (of : LoopQueue) (posts left : List LoopPost) (post : LoopPost) (rest : List LoopPost) → CameBack of posts →
    posts ≡ left ++ post ∷ rest → IsPassOf of.line post.pass
seats of posts left post rest back all = (
  back.queue (length left) post (ap (λ l. slice_get l (length left)) all ∙ slice_get-append_middle left post rest),
  post.seated.1,
)

pub starts : (of : LoopQueue) (posts left : List LoopPost) (post : LoopPost) (whole : Pass Entry Known) → CameBack of posts →
    posts ≡ left ++ post ∷ [] → whole ≡ post.pass → Gathering of posts left whole
starts of posts left post whole back all is =
    record {
      first = post;
      rest = [];
      seated = subst (λ p. IsPassOf of.line p) (sym is) (seats of posts left post [] back all);
      all = all;
      knows = ap (λ p. view p) is;
    }

pub all-of : (of : LoopQueue) (posts old left : List LoopPost) (post : LoopPost) (whole : Pass Entry Known) →
    (is : Gathering of posts old whole) → old ≡ left ++ post ∷ [] → posts ≡ left ++ post ∷ is.first ∷ is.rest
all-of of posts old left post whole is out =
    is.all ∙ ap (λ l. l ++ is.first ∷ is.rest) out ∙ append_assoc left (post ∷ []) (is.first ∷ is.rest)

pub goes-on : (of : LoopQueue) (posts old left : List LoopPost) (post : LoopPost) (whole later : Pass Entry Known) →
    Gathering of posts old whole → old ≡ left ++ post ∷ [] → IsSamePass whole later →
    view later ≡ both (view whole) (known_of post) → Gathering of posts left later
goes-on of posts old left post whole later is out same knows =
    record {
      first = post;
      rest = is.first ∷ is.rest;
      seated = (same.0 ∙ is.seated.0, same.2 ∙ is.seated.1);
      all = all-of of posts old left post whole is out;
      knows = knows ∙ ap (λ v. both v (known_of post)) is.knows;
    }

pub has-all : (of : LoopQueue) (posts : List LoopPost) (whole : Pass Entry Known) → CameBack of posts →
    Gathering of posts [] whole → (view whole).share ≡ 32
has-all of posts whole back is =
    ap (λ (v : Known). v.share) is.knows ∙ shared number_of known_of is.first is.rest
    ∙ sym (ap (sum_by share_of) is.all) ∙ back.shares

-- the law, of what the whole tells
pub settles : (of : LoopQueue) (posts : List LoopPost) (whole : Pass Entry Known) (count : ℕ) (items : List Entry) → CameBack of posts →
    Gathering of posts [] whole → length items ≡ count → Tells (view whole) items → ComeAndGoInOrder count posts
settles of posts whole count items back is counts tells =
    record {
      left = items;
      count = counts;
      order = λ place drainer there alone k post at.
          let at-place = ap (λ l. slice_get l place) (sym is.all) ∙ there in
          let at-post = ap (λ l. slice_get l k) (sym is.all) ∙ at in
          let lone = drained-at number_of known_of own plain is.first is.rest place drainer at-place
          (λ j other apart h. alone j other apart (ap (λ l. slice_get l j) is.all ∙ h)) in
          let gone : drained_of drainer ≡ tells.gone =
          sym lone.1 ∙ sym (ap (λ (v : Known). v.drained) is.knows) ∙ tells.sole (ap (λ (v : Known). v.mixed) is.knows ∙ lone.0) in
          sym (posted-at number_of known_of own plain is.first is.rest k post at-post
          (λ j other apart h. back.numbers j k other post apart (ap (λ l. slice_get l j) is.all ∙ h) at))
          ∙ sym (ap (λ (v : Known). of_post post.number v.posted) is.knows)
          ∙ tells.order post.number
          ∙ ap (λ l. of_post post.number (l ++ items)) (sym gone);
    }

pub none-left : (l : List LoopPost) → length l ≡ 0 → l ≡ []
none-left [] none = refl
none-left (x ∷ xs) none = absurd (omega (arith, none))
