use Rattle.std.proofs.Common.{refl, sym, subst}
use Rattle.table_steps.specs.declared.block.Block.{Block}
use Rattle.spawn_future.specs.Polls.{EndsSlotAt, IsIncomplete}
use Rattle.spawn_future.proofs.Slotted.{found-block, found-waits}
use Rattle.spawn_future.proofs.futures.Futures.poll.Goals as goal

pub end-requires-clause-has : goal.end-requires-clause-has
end-requires-clause-has g c = found-block c.args.owner c.args.self.now c.in-Some.found c.in-Some.ensures.found

pub returns-in-Some-end-clause-polled : goal.returns-in-Some-end-clause-polled
returns-in-Some-end-clause-polled g c =
    let found = c.in-Some.found in
    let waits = found-waits c.args.owner c.args.self.now found c.in-Some.ensures.found in
    record {
      slot = found.slot;
      future = waits.0;
      waits = waits.1;
      ended = c.in-Some-end.ended;
      completion_is = refl;
      saw_is = refl;
      ends = subst
          (λ (b : Block). EndsSlotAt c.args.table.now found.slot b c.args.self.now c.end.new.self c.args.hand.now.me c.end.new.hand.me c.in-Some-end.ended)
          (sym waits.2) c.in-Some-end.ensures.ended;
    }

pub returns-in-None-clause-polled : goal.returns-in-None-clause-polled
returns-in-None-clause-polled g c =
    let found = c.in-Some.found in
    let waits = found-waits c.args.owner c.args.self.now found c.in-Some.ensures.found in
    record {
      slot = found.slot;
      future = waits.0;
      waits = waits.1;
      incomplete = subst
          (λ (b : Block). IsIncomplete c.args.table.now b c.args.self.now c.end.new.self c.args.hand.now.me c.end.new.hand.me)
          (sym waits.2) c.in-None.ensures.none;
    }
