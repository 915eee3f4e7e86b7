use Rattle.std.proofs.Common.{◌≡◌, ℕ, ◌<◌, List, Option, Some, None, count_by, set, sym, ap, ◌∙◌, subst}
use Rattle.timer_wheel.proofs.SettlingLaws.{is_home, count_by-moved, homes_at-settled}
use Rattle.timer_wheel.proofs.settling.settle.Goals as goal

pub loop-place-smaller : goal.loop-place-smaller
loop-place-smaller c =
    let place = c.in-Some.place in
    let to = c.bucket_of.result in
    let moved =
    count_by-moved c.args.bucket c.loop-place.lists place to c.in-Some.ensures.some
    (λ same. c.requires.none place c.unwrap-due.result c.unwrap-due.ensures (sym c.bucket_of.ensures.value ∙ same)) in
    let is : c.push.new.self ≡ set (set c.loop-place.lists place None) place (Some to) =
    c.push.ensures ∙ ap (λ (homes : List (Option ℕ)). set homes place (Some to)) c.in-Some.ensures.taken in
    subst
    (λ (homes : List (Option ℕ)). count_by (is_home c.args.bucket) homes < count_by (is_home c.args.bucket) c.loop-place.lists)
    (sym is) moved

pub returns : goal.returns
returns c =
    c.in_default.ensures.same
    ∙ homes_at-settled c.args.bucket c.args.turn c.args.due_turns.now c.loop-place.lists c.loop-place.invariant c.in_default.ensures.none
