use Rattle.std.proofs.Common.{get_or, refl, sym, ◌∙◌, arith}
use Rattle.outcome_lines.specs.Line.{escaped}
use Rattle.outcome_lines.proofs.LineLemmas.{plain_more}
use Rattle.exec_io.proofs.PutsLemmas.{Puts-front_stop, Puts-item, Puts-item_stop}
use Rattle.outcome_lines.proofs.EscapedLemmas.{Puts-run, Puts-last, Puts-escape}
use Rattle.outcome_lines.proofs.put.put_escaped.Goals as goal
use Rattle.outcome_lines.proofs.put.put_escaped.Goals.{then-not-is_plain+in_ok-put_bytes+in_ok-put_escape, else-not-is_plain}

pub returns-in_err-put_bytes : goal.returns-in_err-put_bytes
returns-in_err-put_bytes g c =
    let start = c.loop-at.invariant in
    Puts-front_stop escaped c.args.bytes.now c.loop-at.at c.from_residual.ensures.0 (Puts-run c.args.bytes.now c.loop-at.start c.loop-at.at start.behind start.plain start.put c.in_err-put_bytes.ensures)

pub returns-in_err-put_escape : goal.returns-in_err-put_escape
returns-in_err-put_escape g c =
    let start = c.loop-at.invariant in
    let bytes = c.args.bytes.now in
    let run = Puts-run bytes c.loop-at.start c.loop-at.at start.behind start.plain start.put c.in_ok-put_bytes.ensures in
    Puts-item_stop escaped bytes c.loop-at.at (get_or bytes c.loop-at.at 0) 0 refl c.loop-at-test.true c.from_residual-in_err-put_escape.ensures.0 run (Puts-escape (get_or bytes c.loop-at.at 0) (sym c.is_plain.ensures ∙ c.if-not-is_plain.true) c.in_err-put_escape.ensures)

pub loop-at-preserved : goal.loop-at-preserved
loop-at-preserved g c =
    let start = c.loop-at.invariant in
    let bytes = c.args.bytes.now in
    elim c.if-not-is_plain.branch [
      | then-not-is_plain+in_ok-put_bytes+in_ok-put_escape w ↦
          let run = Puts-run bytes c.loop-at.start c.loop-at.at start.behind start.plain start.put w.in_ok-put_bytes.ensures in
          record {
            behind = omega arith;
            plain = λ k above below. absurd (omega arith);
            put = rw (w.sink-is, w.start-is) (Puts-item escaped bytes c.loop-at.at (get_or bytes c.loop-at.at 0) 0 refl c.loop-at-test.true run (Puts-escape (get_or bytes c.loop-at.at 0) (sym c.is_plain.ensures ∙ w.if-not-is_plain.true) w.in_ok-put_escape.ensures));
          }
      | else-not-is_plain w ↦ record {
        behind = omega arith;
        plain = plain_more bytes _ c.loop-at.at (rw w.start-is start.plain) (sym c.is_plain.ensures ∙ w.if-not-is_plain.false);
        put = rw (w.sink-is, w.start-is) start.put;
      }
    ]

pub returns : goal.returns
returns g c =
    let start = c.loop-at.invariant in
    let bytes = c.args.bytes.now in
    Puts-last bytes c.loop-at.start c.loop-at.at (omega arith) start.behind start.plain start.put c.put_bytes-2.ensures
