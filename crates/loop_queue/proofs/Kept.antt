-- All posts of a queue stay so, whatever is posted and drained.
use Rattle.std.proofs.Common.{◌≡◌, ◌≢◌, ℕ, zero, suc, ◌⊎◌, List, [], ◌∷◌, set, sum_by, inl, inr, ⊎_elim, arith, refl, sym, ap, ◌∙◌}
use Rattle.std.specs.Prelude.{slice_get, Some}
use Rattle.std.proofs.lemmas.List.Sums.{sum_by-cons}
use Rattle.loop_queue.specs.declared.queue.LoopQueue.{LoopQueue}
use Rattle.loop_queue.specs.declared.post.LoopPost.{LoopPost}
use Rattle.loop_queue.specs.Posts.{IsSamePost, CameBack, share_of}
use Rattle.loop_queue.proofs.Gather.{got, no-more}

at-changed : {X : Type 0} (l : List X) (i j : ℕ) (new x : X) → slice_get (set l i new) j ≡ Some x →
    ((j ≡ i) × (new ≡ x)) ⊎ ((j ≢ i) × (slice_get l j ≡ Some x))
at-changed [] i j new x e = absurd (no-more x e)
at-changed (y ∷ l) zero zero new x e = inl (refl, got new x e)
at-changed (y ∷ l) zero (suc j) new x e = inr ((λ same. let no : ⊥ = omega (arith, same) in no), e)
at-changed (y ∷ l) (suc i) zero new x e = inr ((λ same. let no : ⊥ = omega (arith, same) in no), e)
at-changed (y ∷ l) (suc i) (suc j) new x e =
    ⊎_elim (λ t. inl (ap suc t.0, t.1)) (λ t. inr ((λ same. t.0 (let is : j ≡ i = omega (arith, same) in is)), t.1)) (at-changed l i j new x e)

sum-same : {X : Type 0} (f : X → ℕ) (l : List X) (i : ℕ) (old new : X) → slice_get l i ≡ Some old → f new ≡ f old → sum_by f (set l i new) ≡ sum_by f l
sum-same f [] i old new e same = absurd (no-more old e)
sum-same f (y ∷ l) zero old new e same =
    let is : f y ≡ f old = ap f (got y old e) in omega (arith, is, same, sum_by-cons f y l, sum_by-cons f new l)
sum-same f (y ∷ l) (suc i) old new e same = omega (arith, sum-same f l i old new e same, sum_by-cons f y l, sum_by-cons f y (set l i new))

-- a post that is the same as one of them, in its place
pub back-kept : (of : LoopQueue) (posts : List LoopPost) (place : ℕ) (old new : LoopPost) → CameBack of posts →
    slice_get posts place ≡ Some old → IsSamePost old new → CameBack of (set posts place new)
back-kept of posts place old new back at same =
    record {
      queue = λ k post e. ⊎_elim
          (λ mine. sym (ap (λ (p : LoopPost). p.pass.table_id) mine.1) ∙ same.queue ∙ back.queue place old at)
          (λ other. back.queue k post other.1) (at-changed posts place k new post e);
      numbers = λ j k one other apart first second. ⊎_elim
          (λ mine. ⊎_elim
          (λ too. absurd (apart (mine.0 ∙ sym too.0)))
          (λ far. λ is. back.numbers place k old other (λ e. far.0 (sym e)) at far.1
          (sym same.number ∙ ap (λ (p : LoopPost). p.number) mine.1 ∙ is))
          (at-changed posts place k new other second))
          (λ far. ⊎_elim
          (λ too. λ is. back.numbers j place one old far.0 far.1 at
          (is ∙ sym (ap (λ (p : LoopPost). p.number) too.1) ∙ same.number))
          (λ both. back.numbers j k one other apart far.1 both.1)
          (at-changed posts place k new other second))
          (at-changed posts place j new one first);
      shares = sum-same share_of posts place old new at same.share ∙ back.shares;
    }
