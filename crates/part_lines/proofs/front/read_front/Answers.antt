use Rattle.std.proofs.Common.{◌≡◌, ◌≤◌, ◌<◌, ◌-◌, length, take, drop, ap, ◌∙◌, arith, List, ℕ, [], length-take, length-drop}
use Rattle.part_lines.proofs.WindowLaws.{filled, front_ended, held_all, held_front, long_after, more_front}
use Rattle.part_lines.proofs.front.read_front.Goals as goal

pub returns-then-read-eq0-clause-front : goal.returns-then-read-eq0-clause-front
returns-then-read-eq0-clause-front g c = λ text is.
    let bytes : List ℕ = c.loop-count.buf in
    let ys : List ℕ = c.read.new.buf in
    let count : ℕ = c.loop-count.count in
    let none : take c.in_ok-read.read ys ≡ [] = ap (λ n. take n ys) c.if-read-eq0.true in
    let room : 0 < length ys = omega (arith, c.read.auto.buf, c.loop-count-test.true, length-take (length bytes - count) (drop count bytes), length-drop count bytes) in
    let whole = front_ended text (take count bytes) (take c.in_ok-read.read ys) (g.F.Folder.left c.loop-count.file) (g.F.Folder.left c.read.new.file)
    (c.loop-count.invariant.front text is) none c.in_ok-read.ensures.bytes.0 (c.in_ok-read.ensures.bytes.1 c.if-read-eq0.true room) in
    held_all bytes ys text count (length bytes - count) c.loop-count.invariant.within whole

pub loop-count-preserved : goal.loop-count-preserved
loop-count-preserved g c =
    let bytes : List ℕ = c.loop-count.buf in
    let ys : List ℕ = c.read.new.buf in
    let count : ℕ = c.loop-count.count in
    let n : ℕ = c.in_ok-read.read in
    let few : n ≤ length ys = omega (arith, c.in_ok-read.ensures.bound) in
    record {
      within = long_after bytes ys count (length bytes - count) n c.loop-count.invariant.within few;
      front = λ text is. more_front text (take count bytes) (take n ys) _ (g.F.Folder.left c.loop-count.file) (g.F.Folder.left c.read.new.file)
          (c.loop-count.invariant.front text is) (filled bytes ys count (length bytes - count) n c.loop-count.invariant.within few) c.in_ok-read.ensures.bytes.0;
      texts = c.in_ok-read.ensures.same ∙ c.loop-count.invariant.texts;
      faults = c.in_ok-read.ensures.cause.still ∙ c.loop-count.invariant.faults;
    }

pub returns-clause-front : goal.returns-clause-front
returns-clause-front g c = λ text is.
    held_front c.loop-count.buf text (g.F.Folder.left c.loop-count.file) c.loop-count.count c.loop-count.invariant.within c.loop-count-test.false (c.loop-count.invariant.front text is)
