use Rattle.std.proofs.Common.{◌==◌, List, ℕ, length, map, Some, ap, sym, ◌∙◌, rules, tests}
use Rattle.std.specs.List.{slice_split}
use Rattle.std.proofs.lemmas.List.{map-append}
use Rattle.std.proofs.lemmas.Iterator.Consumers.{YieldsList-turn, YieldsList-end}
use Rattle.std.proofs.lemmas.Iterator.Splits.{YieldsList-from_slice_split}
use Rattle.trace_text.specs.Texts.{comma}
use Rattle.trace_text.specs.Words.{numbers_in, children_in}
use Rattle.trace_text.proofs.WordLaws.{numbers_in-push, numbers_in-stop}
use Rattle.trace_text.proofs.words.read_children.Goals as goal

pub returns-in_default : goal.returns-in_default
unfolding children_in
returns-in_default c =
    let bytes = c.args.bytes.now in
    let turn = YieldsList-turn (YieldsList-from_slice_split {s = c.into_iter-part-iterator.result} _ (λ b. b == comma) bytes (cc) (cc) (cc) (λ x r q k. search (rules, tests))) c.loop-part.yielded _ c.loop-part.yielded_by _ _ c.in-Some.part c.in-Some.is c.next.ensures.steps in
    sym (numbers_in-stop (slice_split (λ b. b == comma) bytes) (length c.loop-part.yielded) c.in-Some.part.now turn.0 turn.1 (sym c.read_number.ensures ∙ c.in_default.is))

pub loop-part-preserved : goal.loop-part-preserved
loop-part-preserved c =
    ap numbers_in (map-append _ c.loop-part.yielded _)
    ∙ numbers_in-push (map (λ part. part.now) c.loop-part.yielded) c.in-Some.part.now c.loop-part.children.items c.in-Some-read_number.child c.loop-part.invariant
    (sym c.read_number.ensures ∙ c.in-Some-read_number.is)
    ∙ ap (λ (l : List ℕ). Some l) (sym c.in_ok-push.ensures.items)

pub returns : goal.returns
unfolding children_in
returns c =
    let bytes = c.args.bytes.now in
    let all = YieldsList-end (YieldsList-from_slice_split {s = c.into_iter-part-iterator.result} _ (λ b. b == comma) bytes (cc) (cc) (cc) (λ x r q k. search (rules, tests))) c.loop-part.yielded _ c.loop-part.yielded_by _ _ c.in-None.is c.next.ensures.steps in
    ap (λ (l : List ℕ). Some l) (c.in_ok-children.ensures ∙ c.deref.ensures.value)
    ∙ sym c.loop-part.invariant
    ∙ ap numbers_in all.0
