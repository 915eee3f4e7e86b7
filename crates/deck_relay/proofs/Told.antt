-- Names that a post or another was given.
use Rattle.std.proofs.Common.{◌≡◌, ◌⊎◌, inl, inr, ap}
use Rattle.std.specs.Prelude.{Result, Ok, Err, IfErr, IfOk}
use Rattle.life_rules.specs.declared.event.Name.{Name}
use Rattle.loop_queue.specs.declared.post.LoopPost.{LoopPost}
use Rattle.loop_queue.specs.Moves.{HandsBack, Posts}
use Rattle.loop_queue.specs.Posts.{drained_of}

-- a post that took a name, or handed it back, drained nothing
pub posts-undrained : {A : Type 0} (name : Name) (answer : Result A Name) (old new : LoopPost) → IfOk answer (λ _. Posts name old new) →
    IfErr answer (HandsBack name old new) → drained_of new ≡ drained_of old
posts-undrained name (Ok done) old new posted back = posted.drained
posts-undrained name (Err same) old new posted back = ap (λ v. v.drained) back.same

-- a name that was taken, or came back
pub either-came : {A : Type 0} {P : Type 0} {B : Name → Type 0} (answer : Result A Name) → IfOk answer (λ _. P) → IfErr answer B →
    P ⊎ ((back : Name) × B back)
either-came (Ok done) came back = inl came
either-came (Err name) came back = inr (name, back)
