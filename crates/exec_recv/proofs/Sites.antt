-- A table over a plan whose kinds match is a site.
use Rattle.std.proofs.Common.{sym, subst}
use Rattle.plan_kinds.specs.Runnable.{IsRunnable}
use Rattle.plan_shape.specs.Blueprint.{Blueprint}
use Rattle.table_steps.specs.Views.{Board}
use Rattle.exec_recv.specs.Over.{IsOver}
use Rattle.exec_recv.specs.Sites.{IsSite}

pub over-site : (board : Board Blueprint) (plan : Blueprint) → IsOver board plan → IsRunnable plan → IsSite board
over-site board plan over runs =
    let is = over.over in
    record { over = subst (IsOver board) (sym is) over; kinds = subst IsRunnable (sym is) runs }
