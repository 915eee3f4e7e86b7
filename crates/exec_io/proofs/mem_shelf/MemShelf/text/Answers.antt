use Rattle.std.proofs.Common.{◌≡◌, ◌≤◌, ◌<◌, length, get_or, true, false, string_bytes, Some, sym, ◌∙◌, ap}
use Rattle.std.specs.Prelude.{bytes_eq}
use Rattle.exec_io.specs.Shelves.{text_of}
use Rattle.exec_io.proofs.ShelfLemmas.{found, passed, not_found}
use Rattle.exec_io.proofs.mem_shelf.MemShelf.text.Goals as goal

pub returns-then-eq : goal.returns-then-eq
returns-then-eq c =
    let names = c.self.inside.names.items in
    let texts = c.self.inside.texts.items in
    let name = c.entry-item.result in
    let is_name : name ≡ get_or names c.loop-i.i name = rw c.deref-entry-items.ensures.value at c.entry-item.is in
    let below : c.loop-i.i < length names = rw c.deref-entry-items.ensures.value at c.loop-i-test.true in
    let same : bytes_eq (string_bytes name) c.args.name.now ≡ true = rw c.as_str.ensures.value at (sym c.if-eq.ensures) in
    ap Some c.deref.ensures.value
    ∙ sym (found names texts c.loop-i.i name c.index.result.now c.args.name.now below c.self.invariant is_name c.index.ensures same)
    ∙ sym c.loop-i.invariant ∙ ap (λ s. text_of s.texts c.args.name.now) c.self.view_is

pub loop-i-preserved : goal.loop-i-preserved
loop-i-preserved c =
    let names = c.self.inside.names.items in
    let texts = c.self.inside.texts.items in
    let name = c.entry-item.result in
    let is_name : name ≡ get_or names c.loop-i.i name = rw c.deref-entry-items.ensures.value at c.entry-item.is in
    let below : c.loop-i.i < length names = rw c.deref-entry-items.ensures.value at c.loop-i-test.true in
    let differs : bytes_eq (string_bytes name) c.args.name.now ≡ false = rw c.as_str.ensures.value at (sym c.if-eq.ensures) in
    c.loop-i.invariant ∙ passed names texts c.loop-i.i name c.args.name.now below c.self.invariant is_name differs

pub returns : goal.returns
returns c =
    let names = c.self.inside.names.items in
    let texts = c.self.inside.texts.items in
    let past : length names ≤ c.loop-i.i = rw c.deref-entry-items.ensures.value at c.loop-i-test.false in
    sym (not_found names texts c.loop-i.i c.args.name.now past) ∙ sym c.loop-i.invariant ∙ ap (λ s. text_of s.texts c.args.name.now) c.self.view_is
