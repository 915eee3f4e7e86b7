-- Posts that are made, one after the other.
use Rattle.std.proofs.Common.{◌≡◌, ℕ, zero, suc, ◌+◌, ◌-◌, ◌<◌, ◌⊎◌, false, List, [], ◌∷◌, ◌++◌, length, sum_by, inl, inr, ⊎_elim, arith, refl, sym, ap, ◌∙◌, subst, length-append}
use Rattle.std.specs.Prelude.{slice_get, Some}
use Rattle.std.proofs.lemmas.List.Sums.{sum_by_push}
use Rattle.crossbeam_queue.specs.Fifo.{Forks}
use Rattle.crossbeam_queue.specs.Passes.{Pass, view, IsPassOf}
use Rattle.loop_queue.specs.declared.entry.Entry.{Entry}
use Rattle.loop_queue.specs.declared.queue.Known.{Known}
use Rattle.loop_queue.specs.declared.queue.LoopQueue.{LoopQueue}
use Rattle.loop_queue.specs.declared.post.LoopPost.{LoopPost}
use Rattle.loop_queue.specs.Rule.{Ordered, known, without_next, with_next}
use Rattle.loop_queue.specs.Posts.{IsBare, IsNewPost, IsNew, AreOpened, share_of}
use Rattle.loop_queue.proofs.Moves.{forks}

-- what is left of the first pass
abbrev pub left_after : ℕ → Known
left_after made = known (32 - made) made 32 [] [] false

-- so many posts were made
pub record Opening (of : LoopQueue) (made : ℕ) (rest : Pass Entry Known) (posts : List LoopPost) : Type 0 where
  pub seated : IsPassOf of.line rest
  pub knows : view rest ≡ left_after made
  pub count : length posts ≡ made
  pub new : (k : ℕ) (post : LoopPost) → slice_get posts k ≡ Some post → IsNew of k post
  pub shares : sum_by share_of posts ≡ made

pub last-got : {X : Type 0} (l : List X) (p q : X) (k : ℕ) → slice_get (l ++ p ∷ []) k ≡ Some q →
    ((k ≡ length l) × (p ≡ q)) ⊎ (slice_get l k ≡ Some q)
last-got [] p q zero e = inl (refl, cc)
last-got [] p q (suc k) e = absurd (cc)
last-got (x ∷ xs) p q zero e = inr e
last-got (x ∷ xs) p q (suc k) e = ⊎_elim (λ t. inl (ap suc t.0, t.1)) (λ t. inr t) (last-got xs p q k e)

pub splits : (pass made : ℕ) (v : Known) → v ≡ left_after made → made < 31 →
    Forks Ordered pass v (without_next v) (with_next v)
splits pass made v is more =
    forks pass v
    (let e : v.share ≡ 32 - made = ap (λ (u : Known). u.share) is in omega (arith, e, more))
    (let e : v.from ≡ made = ap (λ (u : Known). u.from) is in let f : v.upto ≡ 32 = ap (λ (u : Known). u.upto) is in omega (arith, e, f, more))
    (ap (λ (u : Known). u.posted) is) (ap (λ (u : Known). u.drained) is) (ap (λ (u : Known). u.mixed) is)

pub next-bare : (made : ℕ) (v w : Known) → v ≡ left_after made → w ≡ with_next v → IsBare made w
next-bare made v w is next =
    let e : w ≡ known 1 made (made + 1) [] [] false = next ∙ ap with_next is in
    record {
      some = let s : w.share ≡ 1 = ap (λ (u : Known). u.share) e in omega (arith, s);
      from = ap (λ (u : Known). u.from) e;
      upto = let s : w.upto ≡ made + 1 = ap (λ (u : Known). u.upto) e in omega (arith, s);
      posted = ap (λ (u : Known). u.posted) e;
      drained = ap (λ (u : Known). u.drained) e;
      plain = ap (λ (u : Known). u.mixed) e;
    }

pub rest-bare : (made : ℕ) (v : Known) → v ≡ left_after made → made < 32 → IsBare made v
rest-bare made v is more =
    record {
      some = let s : v.share ≡ 32 - made = ap (λ (u : Known). u.share) is in omega (arith, s, more);
      from = ap (λ (u : Known). u.from) is;
      upto = let s : v.upto ≡ 32 = ap (λ (u : Known). u.upto) is in omega (arith, s, more);
      posted = ap (λ (u : Known). u.posted) is;
      drained = ap (λ (u : Known). u.drained) is;
      plain = ap (λ (u : Known). u.mixed) is;
    }

pub left-next : (made : ℕ) (v w : Known) → v ≡ left_after made → w ≡ without_next v → w ≡ left_after (made + 1)
left-next made v w is next =
    let s : 32 - made - 1 ≡ 32 - (made + 1) = omega arith in
    next ∙ ap without_next is ∙ ap (λ n. known n (made + 1) 32 [] [] false) s

-- the posts with one more
module _ (of : LoopQueue) (made : ℕ) (posts : List LoopPost) (count : length posts ≡ made)
    (new : (k : ℕ) (post : LoopPost) → slice_get posts k ≡ Some post → IsNew of k post)
    (pass : Pass Entry Known) (post : LoopPost) (is : IsNewPost of pass made post) (bare : IsBare made (view pass)) where
  pub new-more : (k : ℕ) (other : LoopPost) → slice_get (posts ++ post ∷ []) k ≡ Some other → IsNew of k other
  new-more k other e =
      let mine : IsNew of made post = record {
        number = is.number;
        queue = is.queue;
        posted = ap (λ (u : Known). u.posted) is.known ∙ bare.posted;
        drained = ap (λ (u : Known). u.drained) is.known ∙ bare.drained;
      } in
      ⊎_elim (λ x. subst (λ (y : ℕ × LoopPost). IsNew of y.0 y.1) (λ i. (sym (x.0 ∙ count) i, x.1 i)) mine)
      (λ x. new k other x) (last-got posts post other k e)

pub goes-on : (of : LoopQueue) (made : ℕ) (rest later pass : Pass Entry Known) (posts : List LoopPost) (post : LoopPost) →
    Opening of made rest posts → IsPassOf of.line later → view later ≡ without_next (view rest) → view pass ≡ with_next (view rest) →
    IsNewPost of pass made post → Opening of (made + 1) later (posts ++ post ∷ [])
goes-on of made rest later pass posts post opening seated left given is =
    let bare = next-bare made (view rest) (view pass) opening.knows given in
    record {
      seated = seated;
      knows = left-next made (view rest) (view later) opening.knows left;
      count = let l = length-append posts (post ∷ []) in let c = opening.count in omega (arith, l, c);
      new = new-more of made posts opening.count opening.new pass post is bare;
      shares = let s = sum_by_push share_of posts post in let h = opening.shares in
          let one : share_of post ≡ 1 = ap (λ (u : Known). u.share) (is.known ∙ given ∙ ap with_next opening.knows) in
          omega (arith, s, h, one);
    }

pub opened : (of : LoopQueue) (made count : ℕ) (rest : Pass Entry Known) (posts : List LoopPost) (post : LoopPost) →
    Opening of made rest posts → IsNewPost of rest made post → made < 32 → made + 1 ≡ count →
    AreOpened count of (posts ++ post ∷ [])
opened of made count rest posts post opening is more whole =
    let bare = rest-bare made (view rest) opening.knows more in
    record {
      count = let l = length-append posts (post ∷ []) in let c = opening.count in omega (arith, l, c, whole);
      new = new-more of made posts opening.count opening.new rest post is bare;
      shares = let s = sum_by_push share_of posts post in let h = opening.shares in
          let own : share_of post ≡ 32 - made = ap (λ (u : Known). u.share) (is.known ∙ opening.knows) in
          omega (arith, s, h, own, more);
    }
