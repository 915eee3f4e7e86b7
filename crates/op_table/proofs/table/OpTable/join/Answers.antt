use Rattle.std.proofs.Common.{arith, sym, ap, ◌∙◌, subst}
use Rattle.atomic_table.specs.Table.{Joins}
use Rattle.table_rules.specs.Traces.{Traced}
use Rattle.table_steps.specs.Closings.{gathered, spent}
use Rattle.table_hands_kept.proofs.TracedHands.{traced-joins}
use Rattle.op_table.proofs.table.OpTable.join.Goals as goal

pub join-requires-clause-table : goal.join-requires-clause-table
join-requires-clause-table g c = c.requires.table ∙ sym (ap (λ b. b.table_id) c.self.view_is)

pub join-requires-clause-same_table : goal.join-requires-clause-same_table
join-requires-clause-same_table g c = c.requires.next ∙ sym (ap (λ b. b.table_id) c.self.view_is)

pub join-requires-clause-some : goal.join-requires-clause-some
join-requires-clause-some g c = let words = c.self.invariant.2 in omega (arith, words)

pub join-requires-clause-joins : goal.join-requires-clause-joins
join-requires-clause-joins g c =
    let first = c.args.all.now in
    let key = c.self.inside.table.key in
    subst (λ v. Joins (Traced g.P.Cargo key) first.id first.me.0 c.args.next.id c.args.next.me.0
    (gathered first.me.0 c.args.next.me.0) (spent v)) (sym c.requires.knower)
    (traced-joins g.P.Cargo key first.id c.args.next.id first.me.0 c.args.next.me.0 c.requires.itself)
