use Rattle.std.proofs.Common.{inl, inr, subst}
use Rattle.exec_value.specs.declared.outcome.Completion.{Completion}
use Rattle.step_parts.specs.Completes.{Completes}
use Rattle.exec_bulk.proofs.Parted.{share-ends, share-wants, part-on, completes-after}
use Rattle.exec_bulk.proofs.parts.run_part.Goals as goal

pub complete-requires : goal.complete-requires
complete-requires g c =
    let made = c.make_share in
    record {
      may = share-ends c.args.site.now c.args.taken c.args.bulk c.args.part made.new.hand
          (part-on c.args.site.now c.args.taken c.args.bulk c.args.part c.args.hand.now made.new.hand made.ensures.keeps c.requires.may) c.in-Ok.done
          c.in-Ok.ensures.exact;
    }

pub want_memory-requires : goal.want_memory-requires
want_memory-requires g c =
    let made = c.make_share in
    record {
      may = share-wants c.args.site.now c.args.taken c.args.bulk c.args.part made.new.hand
          (part-on c.args.site.now c.args.taken c.args.bulk c.args.part c.args.hand.now made.new.hand made.ensures.keeps c.requires.may);
    }

pub returns-in-Ok : goal.returns-in-Ok
returns-in-Ok g c =
    inl (subst (λ (d : Completion). Completes c.args.site.now c.args.taken d _ c.complete.result c.args.hand.now c.complete.new.hand) c.in-Ok.ensures.exact
    (completes-after c.args.site.now c.args.taken c.in-Ok.done _ c.args.hand.now c.make_share.new.hand c.make_share.ensures.keeps c.complete.result
    c.complete.new.hand c.complete.ensures))

pub returns-in-Err : goal.returns-in-Err
returns-in-Err g c =
    inr (record {
      large = λ stands. let ok = c.in-Err.ensures.in_place stands in cc;
      completes = completes-after c.args.site.now c.args.taken _ _ c.args.hand.now c.make_share.new.hand c.make_share.ensures.keeps c.want_memory.result
          c.want_memory.new.hand c.want_memory.ensures;
    })
