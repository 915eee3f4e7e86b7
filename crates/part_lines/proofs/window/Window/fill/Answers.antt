use Rattle.std.proofs.Common.{◌≡◌, ◌≤◌, ◌-◌, ◌+◌, false, length, take, drop, ◌++◌, length-take, length-drop, length-append, ap, sym, ◌∙◌, arith, List, ℕ}
use Rattle.std.specs.Prelude.{is_err, slice_range}
use Rattle.std.specs.Vec.{with_items}
use Rattle.std.proofs.lemmas.List.{with_items_is}
use Rattle.std.proofs.lemmas.Slice.{between_from_start}
use borrow.Rule.Slice.PartMut.{put_mid, post_of}
use Rattle.part_lines.proofs.WindowLaws.{on_ok, filled, keeps_read}
use Rattle.part_lines.proofs.window.Window.fill.Goals as goal

pub returns-in-Ok-clause-ahead : goal.returns-in-Ok-clause-ahead
returns-in-Ok-clause-ahead g c =
    let count : ℕ = c.self.inside.end - c.self.inside.start in
    let bytes : List ℕ = c.deref_mut.result.now in
    let read : List ℕ = c.read.new.buf in
    let n : ℕ = c.in-Ok.read in
    let after : List ℕ = put_mid count (length bytes - count) bytes read in
    let fine : is_err c.make_room.result ≡ false = sym c.is_err.ensures.value ∙ c.if-is_err.false in
    let front : take count bytes ≡ c.args.self.now = ap (take count) c.deref_mut.ensures.value ∙ on_ok c.make_room.result fine c.make_room.ensures.front ∙ c.self.view_is in
    let room = on_ok c.make_room.result fine c.make_room.ensures.room in
    let within : count ≤ length bytes = omega (arith, room, c.deref_mut.ensures.len) in
    let few : n ≤ length read = omega (arith, c.in-Ok.ensures.bound) in
    let room_left : ℕ = length bytes - count in
    let kept = c.make_room.new.bytes in
    let long : length after ≡ kept.len =
    omega (arith, within, c.read.auto.buf, c.deref_mut.ensures.len, length-append (take count bytes) (read ++ post_of count room_left bytes), length-append read (post_of count room_left bytes), length-take count bytes, length-drop room_left (drop count bytes), length-drop count bytes, length-take room_left (drop count bytes)) in
    keeps_read c.args.self.now (slice_range (with_items kept after).items 0 (count + n)) (take n read) (g.F.Folder.left c.args.file.now) (g.F.Folder.left c.read.new.file)
    (between_from_start (with_items kept after).items (count + n) ∙ ap (take (count + n)) (with_items_is kept after long) ∙ filled bytes read count room_left n within few ∙ ap (λ (l : List ℕ). l ++ take n read) front)
    c.in-Ok.ensures.bytes.0
