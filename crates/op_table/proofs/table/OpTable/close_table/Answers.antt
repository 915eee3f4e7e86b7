use Rattle.std.proofs.Common.{List, sym, ap, ◌∙◌, subst}
use Rattle.std.specs.Prelude.{Option}
use Rattle.atomic_table.specs.declared.shared.Seat.{Seat}
use Rattle.table_rules.specs.declared.view.View.{View}
use Rattle.table_steps.specs.Views.{Board, knows}
use Rattle.table_steps.specs.Closings.{IsClosing, IsClosedSo}
use Rattle.table_hands_kept.proofs.Closings.{IsLast, closes, told-within, counted-by, stands-for-all, closing-of, scope-left}
use Rattle.op_table.proofs.table.OpTable.close_table.Given as given
use Rattle.op_table.proofs.table.OpTable.close_table.Goals as goal

module _ (g : given.Over) (c : goal.After-drop-frame-2 g) where
  -- the words of the closed table are those of its last state
  last : IsLast g.P.Cargo c.args.self.frame c.gather-all.result.id (knows c.gather-all.result) c.remains_of-remains.result
  last =
      closes g.P.Cargo c.self.inside.table.key c.args.self.frame c.self.inside.frame.layout _ _
      c.gather-all.result.id (knows c.gather-all.result) c.remains_of-remains.result
      (c.self.invariant.0 ∙ ap (λ b. b.frame) c.self.view_is) (ap (λ b. b.frame.layout) c.self.view_is)
      c.close_with-closed.ensures.last c.remains_of-remains.ensures

  -- and the hands' steps left them so
  ends : IsClosing g.P.Cargo c.args.self.frame c.args.hands.items c.remains_of-remains.result
  ends =
      closing-of g.P.Cargo c.args.self.frame c.gather-all.result.id (knows c.gather-all.result) c.remains_of-remains.result last
      (stands-for-all g.P.Cargo c.args.self c.args.hands.items c.gather-all.result c.requires.hands c.gather-all.ensures)
      c.args.hands.items c.gather-all.ensures.steps

  -- so all that is said of a closed table is true of this one
  told : IsClosedSo g.P.Cargo (record { board = c.args.self; hands = c.args.hands.items; remains = c.remains_of-remains.result })
  told =
      record {
        closing = ends;
        scope = scope-left g.P.Cargo c.args.self.frame c.args.hands.items c.remains_of-remains.result ends;
        within = told-within c.self.inside.frame.layout c.args.self.frame.layout _ c.remains_of-remains.result
            (ap (λ b. b.frame.layout) c.self.view_is) c.remains_of-remains.ensures;
        counted = counted-by g.P.Cargo c.args.self c.args.hands.items c.gather-all.result c.remains_of-remains.result last
            c.requires.hands c.gather-all.ensures;
      }

pub invariant_of-result : goal.invariant_of-result
invariant_of-result g c =
    subst
    (λ (z : Board g.row.P-Over.Denot × List (Seat (Option g.row.P.Denot) (View g.row.P.Denot g.row.P-Entry.Denot))).
    IsClosedSo g.P.Cargo (record { board = z.0; hands = z.1; remains = c.remains_of-remains.result }))
    (λ k. (sym c.of-was.ensures k, ap (λ v. v.items) (sym c.of-back.ensures) k)) (told g c)

pub returns-clause-closed : goal.returns-clause-closed
returns-clause-closed g c = ends g c

pub returns-clause-scope : goal.returns-clause-scope
returns-clause-scope g c =
    scope-left g.P.Cargo c.args.self.frame c.args.hands.items c.remains_of-remains.result (ends g c)

pub returns-clause-within : goal.returns-clause-within
returns-clause-within g c =
    told-within c.self.inside.frame.layout c.args.self.frame.layout _ c.remains_of-remains.result
    (ap (λ b. b.frame.layout) c.self.view_is) c.remains_of-remains.ensures

pub returns-clause-counted : goal.returns-clause-counted
returns-clause-counted g c =
    counted-by g.P.Cargo c.args.self c.args.hands.items c.gather-all.result c.remains_of-remains.result (last g c)
    c.requires.hands c.gather-all.ensures
