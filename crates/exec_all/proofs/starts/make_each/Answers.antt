use Rattle.std.proofs.Common.{◌≡◌, ◌+◌, List, arith, sym, subst}
use Rattle.exec_value.specs.declared.data.Datum.{Datum}
use Rattle.exec_all.specs.Starts.{AreCopies}
use Rattle.exec_all.proofs.Made.{copies-none, copies-more}
use Rattle.exec_all.proofs.starts.make_each.Goals as goal

pub loop-init : goal.loop-init
loop-init c =
    record {
      made = subst (λ (l : List (List Datum)). AreCopies c.args.values.now 0 l) (sym c.in_ok-made.ensures.items)
          (copies-none c.args.values.now);
      room = omega (arith, c.in_ok-made.ensures.capacity);
    }

pub loop-preserved : goal.loop-preserved
loop-preserved c =
    record {
      made = subst (λ (l : List (List Datum)). AreCopies c.args.values.now (c.loop.counter + 1) l) (sym c.push_reserved.ensures.items)
          (copies-more c.args.values.now c.loop.counter c.loop.made.items c.in_ok-copy_data.field-0 c.loop.invariant.made
          c.in_ok-copy_data.ensures.ok);
      room = omega (arith, c.loop.invariant.room, c.push_reserved.ensures.capacity);
    }

pub push_reserved-requires : goal.push_reserved-requires
push_reserved-requires c = omega (arith, c.loop.invariant.made.many, c.loop.invariant.room, c.loop-test.true)

pub returns : goal.returns
returns c =
    let all : c.loop.counter ≡ c.args.count = omega arith in
    subst (λ k. AreCopies c.args.values.now k c.loop.made.items) all c.loop.invariant.made
