use Rattle.std.proofs.Common.{◌≡◌, ℕ, arith, rules, sym, ap, subst, ◌∙◌}
use Rattle.std.specs.Prelude.{remove, slice_index_or, vec_len}
use Rattle.steal_pool.specs.Arrangements.{HasGiven}
use Rattle.steal_pool.specs.declared.given.Given.{Given}
use Rattle.whole_run.specs.Fronts.{CameOut, opening_by, streams_of}
use Rattle.whole_run.specs.Owns.{IsMarkedBy, last_desk}
use Rattle.whole_run.proofs.BackLaws.{all-back, all-claimed}
use Rattle.whole_run.proofs.DeskLaws.{come-back, popped-last, popped-with}
use Rattle.whole_run.proofs.HandLaws.{all-serve, first-fresh, rest-count, rest-spare, rest-unclaimed}
use Rattle.whole_run.proofs.beside.run_on_table.Goals as goal

pub run_beside-left-requires-clause-serve : goal.run_beside-left-requires-clause-serve
run_beside-left-requires-clause-serve g c κs within =
    let front = c.args.front in
    all-serve front.on.table.now front.on.plan.now front.on.window (g.T.Stepper.plan front.on.stepper.now) c.remove-hand.new.self.items c.requires.runs
    (rest-spare front.on.table.now c.args.crew.workers c.args.hands.now.items c.remove-hand.new.self.items c.requires.hands
    (c.remove-hand.ensures.items ∙ ap (λ v. remove v.items 0) c.replace-others.ensures.value))

pub run_beside-left-requires-clause-needs : goal.run_beside-left-requires-clause-needs
run_beside-left-requires-clause-needs g c κs within =
    let front = c.args.front in
    let all = c.replace-theirs.result in
    let last = popped-last c.pop-own.result c.pop-own.new.self.items all.items all.len _ c.pop-own.ensures.items (omega (arith, all.ok.0)) c.pop-own.ensures.cases in (
      record {
        runs = c.requires.runs;
        fresh = first-fresh front.on.table.now c.args.crew.workers c.args.hands.now.items c.remove-hand.result c.requires.hands
            (c.remove-hand.ensures.value ∙ ap (λ v. slice_index_or v.items 0 c.remove-hand.result) c.replace-others.ensures.value);
      },
      subst (λ desk. IsMarkedBy g.B.OnTable.is g.B.OnTable.claimed g.B.OnTable.desk front.on.table.now desk)
          (ap last_desk (sym (ap (λ v. v.items) c.replace-theirs.ensures.value)) ∙ last)
          c.requires.marked,
    )

pub returns-clause-out : goal.returns-clause-out
returns-clause-out g c =
    let front = c.args.front in
    let run = c.run_beside-left in
    let left = run.result.0 in
    let none = run.ensures.claims ∙ rest-unclaimed front.on.table.now c.args.crew.workers c.args.hands.now.items c.remove-hand.new.self.items c.requires.hands
    (c.remove-hand.ensures.items ∙ ap (λ v. remove v.items 0) c.replace-others.ensures.value) in
    subst
    (λ (claimed : ℕ). CameOut (opening_by g.K.Sink.told front)
    (streams_of g.S.RecordSource.told g.S.RecordSource.reads g.K.Sink.told front)
    (streams_of g.S.RecordSource.told g.S.RecordSource.reads g.K.Sink.told left) left.came.now claimed)
    (sym (all-claimed run.result.2.items c.push_reserved.new.self.items run.result.1 none c.push_reserved.ensures.items))
    run.ensures.leaves.out

pub returns-clause-back : goal.returns-clause-back
returns-clause-back g c =
    let run = c.run_beside-left in
    all-back c.args.front.on.table.now run.result.2.items c.push_reserved.new.self.items run.result.1 (search rules) run.ensures.served run.ensures.leaves.ended c.push_reserved.ensures.items

pub returns-clause-desks : goal.returns-clause-desks
returns-clause-desks g c =
    let run = c.run_beside-left in
    come-back c.pop-own.result run.result.4 c.args.desks.now.items c.pop-own.new.self.items run.result.3.items c.put_own.new.desks.items
    (popped-with c.pop-own.result c.pop-own.new.self.items c.args.desks.now.items
    (sym (ap (λ v. v.items) c.replace-theirs.ensures.value) ∙ c.pop-own.ensures.items)) c.put_own.ensures.with run.ensures.desks run.ensures.own

pub returns-clause-given : goal.returns-clause-given
returns-clause-given g c =
    let crew = c.args.crew in
    let others = c.remove-hand.new.self in
    let count = rest-count c.args.front.on.table.now crew.workers c.args.hands.now.items others.items c.requires.hands
    (c.remove-hand.ensures.items ∙ ap (λ v. remove v.items 0) c.replace-others.ensures.value) in
    let workers : c.len.result ≡ crew.workers = omega (arith, count, others.ok.0, c.len.ensures) in
    subst (λ (told : Given). HasGiven crew.order (vec_len crew.backends) crew.workers told) (sym c.run_beside-left.ensures.given)
    (subst (λ (n : ℕ). HasGiven crew.order (vec_len crew.backends) n c.of-backends.result.told) workers c.of-backends.ensures.told)
