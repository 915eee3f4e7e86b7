use Rattle.std.proofs.Common.{◌≡◌, ◌<◌, ◌≤◌, ◌+◌, ℕ, List, length, refl, arith}
use Rattle.std.proofs.lemmas.Option.{slice_get_read, slice_get_within}
use Rattle.part_lines.specs.declared.tally.Tally.{Tally}
use Rattle.join_commands.proofs.LevelLaws.{ended_before, level_is, level_more}
use Rattle.join_commands.proofs.turns.check_dealt.Goals.{then-at-ended, else-at-ended}
use Rattle.join_commands.proofs.turns.check_dealt.Goals as goal

pub returns-then-lines-most-clause-uneven : goal.returns-then-lines-most-clause-uneven
returns-then-lines-most-clause-uneven c =
    let all : List Tally = c.args.tallies.now in
    let ended : ℕ = c.first_ended-ended.result in
    let below : c.loop-at.at < ended → c.if-at-ended.most ≡ c.lines-fewest.result + 1 = λ b. elim c.if-at-ended.branch [
      | then-at-ended w ↦ w.most-is
      | else-at-ended w ↦ absurd (omega (arith, b, w.if-at-ended.false))
    ] in
    let past : ended ≤ c.loop-at.at → c.if-at-ended.most ≡ c.lines-fewest.result = λ p. elim c.if-at-ended.branch [
      | then-at-ended w ↦ absurd (omega (arith, p, w.if-at-ended.true))
      | else-at-ended w ↦ w.most-is
    ] in
    ended_before all c.loop-at.at ended c.lines-fewest.result c.if-at-ended.most c.index-tallies-at.result c.index-tallies-ended.result
    (slice_get_read all (length all) c.loop-at.at c.index-tallies-at.result refl c.loop-at-test.true c.index-tallies-at.is)
    (slice_get_read all (length all) ended c.index-tallies-ended.result refl c.first_ended-ended.ensures.within c.index-tallies-ended.is)
    c.lines-fewest.ensures below past (omega (arith, c.if-lines-most.true, c.lines.ensures))

pub loop-at-preserved : goal.loop-at-preserved
loop-at-preserved c =
    let all : List Tally = c.args.tallies.now in
    let ended : ℕ = c.first_ended-ended.result in
    let below : c.loop-at.at < ended → c.if-at-ended.most ≡ c.lines-fewest.result + 1 = λ b. elim c.if-at-ended.branch [
      | then-at-ended w ↦ w.most-is
      | else-at-ended w ↦ absurd (omega (arith, b, w.if-at-ended.false))
    ] in
    let past : ended ≤ c.loop-at.at → c.if-at-ended.most ≡ c.lines-fewest.result = λ p. elim c.if-at-ended.branch [
      | then-at-ended w ↦ absurd (omega (arith, p, w.if-at-ended.true))
      | else-at-ended w ↦ w.most-is
    ] in
    level_more all c.loop-at.at ended c.lines-fewest.result c.if-at-ended.most c.index-tallies-at.result
    (slice_get_read all (length all) c.loop-at.at c.index-tallies-at.result refl c.loop-at-test.true c.index-tallies-at.is)
    below past (omega (arith, c.if-lines-most.false, c.lines.ensures)) c.loop-at.invariant

pub returns-clause-level : goal.returns-clause-level
returns-clause-level c =
    let all : List Tally = c.args.tallies.now in
    level_is all c.first_ended-ended.result c.lines-fewest.result c.index-tallies-ended.result
    (slice_get_read all (length all) c.first_ended-ended.result c.index-tallies-ended.result refl c.first_ended-ended.ensures.within c.index-tallies-ended.is)
    c.lines-fewest.ensures c.first_ended-ended.ensures.first
    (λ k tally is. c.loop-at.invariant k tally (omega (arith, slice_get_within all k tally is, c.loop-at-test.false)) is)
