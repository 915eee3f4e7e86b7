use Rattle.std.proofs.Common.{[], arith, sym, ap, ◌∙◌}
use Rattle.table_steps.specs.Seats.{Seated}
use Rattle.table_steps.specs.Views.{split_once, fresh_after}
use Rattle.op_table.proofs.Remembered.{remembers-still}
use Rattle.table_hands_kept.proofs.TracedHands.{traced-splits}
use Rattle.op_table.proofs.table.OpTable.split_off.Goals as goal

pub split-requires-clause-table : goal.split-requires-clause-table
split-requires-clause-table g c =
    ap (λ s. s.table_id) c.first.view_is ∙ c.requires.table ∙ sym (ap (λ b. b.table_id) c.self.view_is)

pub split-requires-clause-some : goal.split-requires-clause-some
split-requires-clause-some g c = let words = c.self.invariant.2 in omega (arith, words)

pub split-requires-clause-splits : goal.split-requires-clause-splits
split-requires-clause-splits g c =
    let seat = c.first.inside.seat in
    let number = ap (λ s. s.me.0.number) c.first.view_is ∙ c.requires.first in
    let splits = ap (λ s. s.me.0.splits) c.first.view_is in
    let hands = ap (λ f. f.hands) c.self.invariant.0 in
    let all = ap (λ b. b.frame.hands) c.self.view_is in
    let more = c.requires.more in
    traced-splits g.P.Cargo c.self.inside.table.key seat.id seat.me.0 number (omega (arith, more, splits, hands, all))

pub invariant_of-first : goal.invariant_of-first
invariant_of-first g c =
    let left = c.split.ensures.left in
    remembers-still c.first.invariant c.split.ensures.table (
      ap (λ (m : Seated g.row.P.Denot g.row.P-Entry.Denot). m.0.owed) left,
      ap (λ (m : Seated g.row.P.Denot g.row.P-Entry.Denot). m.0.runs) left,
    )

pub returns-clause-table : goal.returns-clause-table
returns-clause-table g c = c.split.ensures.table ∙ ap (λ s. s.table_id) c.first.view_is

pub returns-clause-left : goal.returns-clause-left
returns-clause-left g c =
    c.split.ensures.left ∙ ap (λ s. (split_once s.me.0, s.me.1)) c.first.view_is

pub returns-clause-same_table : goal.returns-clause-same_table
returns-clause-same_table g c =
    c.split.ensures.same_table ∙ ap (λ s. s.table_id) c.first.view_is

pub returns-clause-right : goal.returns-clause-right
returns-clause-right g c =
    c.split.ensures.right ∙ ap (λ s. (fresh_after s.me.0, [])) c.first.view_is
