use Rattle.std.specs.Option.{option_copied}
use Rattle.std.proofs.Common.{◌≡◌, ◌∷◌, ◌<◌, List, Option, None, length, get_or, set, sym, ap, ◌∙◌, subst}
use Rattle.plain_runs.specs.declared.started.Started.{Started}
use Rattle.plain_runs.specs.PlainWork.{Completes, Plain, no_table}
use Rattle.run_tally.specs.Gathered.{gathered}
use Rattle.plain_runs.proofs.BlockLaws.{collects-at, sound-frees, within-begun}
use Rattle.plain_runs.proofs.plain.PlainRunsOperations.collect.Goals as goal

pub invariant_of-self : goal.invariant_of-self
invariant_of-self g c =
    sound-frees c.self.inside.blocks.items c.args.ticket c.free_block.ensures.items c.self.invariant
    (subst (λ (p : Plain). c.args.ticket < length p.blocks) (sym c.self.view_is) (within-begun c.args.self.now c.args.ticket c.requires.begun))

pub returns : goal.returns
returns g c =
    let old = c.args.self.now in
    let blocks = ap (λ (p : Plain). p.blocks) c.self.view_is in
    let lent : c.deref.result.now ≡ c.self.inside.blocks.items = cc in
    let shown = ap (λ (bs : List (Option Started)). get_or bs c.args.ticket None) (sym blocks ∙ sym lent) in
    collects-at old _ c.args.ticket c.self.inside.next c.self.inside.small c.in_ok-started.started.now c.in_ok-done.done
    (ap (λ (p : Plain). p.plan) c.self.view_is) (ap (λ (p : Plain). p.requested) c.self.view_is)
    (c.add.ensures ∙ ap (λ (p : Plain). gathered p.plan no_table c.in_ok-started.started.now.number c.in_ok-done.done ∷ p.collected) c.self.view_is)
    (c.free_block.ensures.items ∙ ap (λ (bs : List (Option Started)). set bs c.args.ticket None) blocks)
    (within-begun old c.args.ticket c.requires.begun)
    (shown ∙ (sym c.at_block.ensures ∙ ap option_copied c.in_ok-started.was))
    (subst (λ (p : Plain). Completes p.plan c.in_ok-started.started.now c.in_ok-done.done) c.self.view_is c.in_ok-done.ensures.completes)
