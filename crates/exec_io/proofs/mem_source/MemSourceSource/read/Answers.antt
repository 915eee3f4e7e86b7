use Rattle.std.proofs.Common.{◌≡◌, ◌++◌, ◌∙◌, min, length, take, drop, ap, sym}
use Rattle.std.proofs.lemmas.List.{drop-drop}
use Rattle.exec_io.proofs.SourceLemmas.{reads_next, ends}
use Rattle.exec_io.proofs.mem_source.MemSourceSource.read.Goals as goal

pub returns-clause-bytes : goal.returns-clause-bytes
returns-clause-bytes c =
    let left = drop c.self.inside.at c.self.inside.bytes.items in
    let buf = c.args.buf.now in
    let n = c.fill-count.result in
    let after = c.fill-count.new.buf in
    let count : n ≡ min (length left) (length buf) = rw c.rest.ensures at c.fill-count.ensures.count in
    let is_after : after ≡ take n left ++ drop n buf = rw c.rest.ensures at c.fill-count.ensures.bytes in
    rw (← drop-drop n c.self.inside.at c.self.inside.bytes.items) (
      ap (λ s. s.left) (sym c.self.view_is) ∙ reads_next left buf after n count is_after,
      ends left buf after n count is_after,
    )
