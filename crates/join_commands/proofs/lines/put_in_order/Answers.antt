use Rattle.std.proofs.Common.{◌≡◌, ◌≤◌, ◌<◌, [], List, ℕ, length, get_or, subst, ◌∙◌, arith}
use Rattle.std.specs.Borrow.{Bor}
use Rattle.std.proofs.lemmas.List.{take_all}
use Rattle.std.proofs.lemmas.Slice.Zip.{AllZip-long}
use Rattle.exec_io.specs.Sinks.{Appends}
use Rattle.exec_io.proofs.PutsLemmas.{AppendsFront-whole}
use Rattle.part_lines.specs.Lines.{lines_from}
use Rattle.part_lines.specs.Tallies.{Tallies}
use Rattle.join_commands.specs.Parts.{IsWholePart}
use Rattle.part_lines.specs.Streams.{in_order}
use Rattle.join_commands.proofs.JoinLaws.{zip_at, zip_both}
use Rattle.join_commands.proofs.OrderLaws.{front_of_parts, put_more, put_stops, reads_part, unopened}
use Rattle.join_commands.proofs.lines.put_in_order.Goals as goal

pub returns-in-Err-clause-puts : goal.returns-in-Err-clause-puts
returns-in-Err-clause-puts g c = λ all parts known whole counted.
    let i : ℕ = c.loop-at.at in
    let before = c.loop-at.invariant.puts all parts known whole in
    unopened all _ (get_or parts i []) (in_order parts) (g.K.Sink.told c.args.out.now) (g.K.Sink.told c.loop-at.out) i c.in-Err.fault c.at_part.result
    (zip_both (λ (n : Bor (List ℕ)) s. IsWholePart all n.now s) c.args.names.now parts i _ [] whole c.loop-at-test.true)
    (c.in-Err.ensures.missing all (c.loop-at.invariant.texts ∙ known)) (front_of_parts parts i (AppendsFront-whole before.0)) c.at_part.ensures

pub returns-in-Err-put_lines-clause-puts : goal.returns-in-Err-put_lines-clause-puts
returns-in-Err-put_lines-clause-puts g c = λ all parts known whole counted.
    let i : ℕ = c.loop-at.at in
    let before = c.loop-at.invariant.puts all parts known whole in
    let long : length parts ≡ length c.args.names.now = AllZip-long (λ (n : Bor (List ℕ)) s. IsWholePart all n.now s) c.args.names.now parts whole in
    let below : i < length parts = omega (arith, long, c.loop-at-test.true) in
    let read = reads_part all _ (get_or parts i []) c.in-Ok.reader.ahead
    (zip_both (λ (n : Bor (List ℕ)) s. IsWholePart all n.now s) c.args.names.now parts i _ [] whole c.loop-at-test.true)
    (c.in-Ok.ensures.opens all (c.loop-at.invariant.texts ∙ known)) in
    put_stops (g.K.Sink.told c.args.out.now) (g.K.Sink.told c.loop-at.out) (g.K.Sink.told c.put_lines.new.out) parts i c.loop-at.written i c.in-Err-put_lines.fault c.at_put.result
    below before.2 before.0 before.1 (c.in-Err-put_lines.ensures.puts read.0 (get_or parts i []) read.1 read.2) c.at_put.ensures

pub returns-then-end-wanted-clause-puts : goal.returns-then-end-wanted-clause-puts
returns-then-end-wanted-clause-puts g c = λ all parts known whole counted.
    let i : ℕ = c.loop-at.at in
    let read = reads_part all _ (get_or parts i []) c.in-Ok.reader.ahead
    (zip_both (λ (n : Bor (List ℕ)) s. IsWholePart all n.now s) c.args.names.now parts i _ [] whole c.loop-at-test.true)
    (c.in-Ok.ensures.opens all (c.loop-at.invariant.texts ∙ known)) in
    let puts = c.in-Ok-put_lines.ensures.puts read.0 (get_or parts i []) read.1 read.2 in
    let within : i < length c.args.tallies.now = omega (arith, c.requires.many, c.loop-at-test.true) in
    let tallied : Tallies c.index-tallies-at.result (get_or parts i []) = zip_at Tallies c.args.tallies.now parts i c.index-tallies-at.result [] counted within c.index-tallies-at.is in
    omega (arith, puts.2, tallied.lines, c.lines.ensures, c.if-end-wanted.true)

pub loop-at-preserved : goal.loop-at-preserved
loop-at-preserved g c = record {
  puts = λ all parts known whole.
      let i : ℕ = c.loop-at.at in
      let before = c.loop-at.invariant.puts all parts known whole in
      let long : length parts ≡ length c.args.names.now = AllZip-long (λ (n : Bor (List ℕ)) s. IsWholePart all n.now s) c.args.names.now parts whole in
      let below : i < length parts = omega (arith, long, c.loop-at-test.true) in
      let read = reads_part all _ (get_or parts i []) c.in-Ok.reader.ahead
      (zip_both (λ (n : Bor (List ℕ)) s. IsWholePart all n.now s) c.args.names.now parts i _ [] whole c.loop-at-test.true)
      (c.in-Ok.ensures.opens all (c.loop-at.invariant.texts ∙ known)) in
      put_more (g.K.Sink.told c.args.out.now) (g.K.Sink.told c.loop-at.out) (g.K.Sink.told c.put_lines.new.out) parts i c.loop-at.written c.in-Ok-put_lines.end
      below before.2 before.0 before.1 (c.in-Ok-put_lines.ensures.puts read.0 (get_or parts i []) read.1 read.2);
  few = omega (arith, c.in-Ok-put_lines.ensures.few, c.loop-at.invariant.few);
  texts = c.in-Ok-put_lines.ensures.same ∙ (c.in-Ok.ensures.same ∙ c.loop-at.invariant.texts);
  read_faults = c.in-Ok-put_lines.ensures.read_cause.still (λ e. cc) ∙ (c.in-Ok.ensures.cause.still (λ e. cc) ∙ c.loop-at.invariant.read_faults);
  write_faults = c.in-Ok-put_lines.ensures.write_cause.still (λ e. cc) ∙ c.loop-at.invariant.write_faults;
}

pub returns-clause-puts : goal.returns-clause-puts
returns-clause-puts g c = λ all parts known whole counted.
    let before = c.loop-at.invariant.puts all parts known whole in
    let long : length parts ≡ length c.args.names.now = AllZip-long (λ (n : Bor (List ℕ)) s. IsWholePart all n.now s) c.args.names.now parts whole in
    let past : length parts ≤ c.loop-at.at = omega (arith, long, c.loop-at-test.false) in
    (subst (λ (l : List (List (List ℕ))). Appends (g.K.Sink.told c.args.out.now).written (g.K.Sink.told c.loop-at.out).written (lines_from 1 (in_order l))) (take_all c.loop-at.at parts past) before.0, before.1)
