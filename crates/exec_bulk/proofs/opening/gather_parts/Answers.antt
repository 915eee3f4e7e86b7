use Rattle.std.proofs.Common.{◌≡◌, ℕ, subst, arith}
use Rattle.exec_bulk.specs.Opens.{GathersParts}
use Rattle.exec_bulk.proofs.Emptied.{parts-more, parts-none, parts-open}
use Rattle.exec_bulk.proofs.opening.gather_parts.Goals as goal

pub loop-part-init : goal.loop-part-init
loop-part-init g c =
    parts-none c.args.site.now c.args.taken.now c.args.made.now c.args.hand.now c.requires.opened.is.stays.hand c.requires.none

pub gather_part-requires-clause-opened : goal.gather_part-requires-clause-opened
gather_part-requires-clause-opened g c =
    parts-open c.args.site.now c.args.taken.now c.loop-part.part c.loop-part.made c.args.hand.now c.loop-part.hand c.loop-part.invariant
    c.requires.opened

pub loop-part-preserved : goal.loop-part-preserved
loop-part-preserved g c =
    parts-more c.args.site.now c.args.taken.now c.loop-part.part c.loop-part.made c.gather_part.new.made c.args.hand.now c.loop-part.hand
    c.gather_part.new.hand c.loop-part.invariant c.gather_part.ensures (omega arith)

pub returns : goal.returns
returns g c =
    let all : c.loop-part.part ≡ c.args.count = omega arith in
    subst (λ (n : ℕ). GathersParts c.args.site.now c.args.taken.now n c.loop-part.made c.args.hand.now c.loop-part.hand) all c.loop-part.invariant
