use Rattle.std.proofs.Common.{◌≤◌, ◌<◌, [], List, ℕ, length, get_or, take, sym, subst, arith}
use Rattle.std.proofs.lemmas.List.{take_all}
use Rattle.std.proofs.lemmas.List.Elements.{All-get_or}
use Rattle.std.proofs.lemmas.Slice.Zip.{AllZip-long}
use Rattle.part_lines.specs.declared.tally.Tally.{Tally}
use Rattle.part_lines.specs.declared.limits.TheConstants.{MOST_LINES}
use Rattle.part_lines.specs.Tallies.{Tallies}
use Rattle.part_lines.specs.Streams.{in_order}
use Rattle.join_commands.proofs.JoinLaws.{in_order_more, zip_at}
use Rattle.join_commands.proofs.lines.sum_of.Goals as goal

pub loop-tally-preserved : goal.loop-tally-preserved
loop-tally-preserved c =
    let i : ℕ = c.loop-tally.tally-index in
    let all : List Tally = c.args.tallies.now in
    let most : c.tally-item.result.lines ≤ MOST_LINES = subst (λ (t : Tally). t.lines ≤ MOST_LINES) (sym c.tally-item.is) (All-get_or (λ (t : Tally). t.lines ≤ MOST_LINES) all i c.tally-item.result c.loop-tally-test.true c.requires.few) in
    record {
      few = omega (arith, most, c.loop-tally.invariant.few, c.add.ensures.lines);
      sum = λ parts each.
          let below : i < length parts = omega (arith, AllZip-long Tallies all parts each, c.loop-tally-test.true) in
          subst (Tallies c.add.new.self) (sym (in_order_more parts i below))
          (c.add.ensures.counts (in_order (take i parts)) (get_or parts i []) (c.loop-tally.invariant.sum parts each) (zip_at Tallies all parts i c.tally-item.result [] each c.loop-tally-test.true c.tally-item.is));
    }

pub returns-clause-sum : goal.returns-clause-sum
returns-clause-sum c = λ parts each.
    let i : ℕ = c.loop-tally.tally-index in
    let past : length parts ≤ i = omega (arith, AllZip-long Tallies c.args.tallies.now parts each, c.loop-tally-test.false) in
    subst (λ (l : List (List (List ℕ))). Tallies c.loop-tally.sum (in_order l)) (take_all i parts past) (c.loop-tally.invariant.sum parts each)
