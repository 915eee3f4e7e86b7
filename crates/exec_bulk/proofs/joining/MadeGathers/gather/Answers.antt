use Rattle.std.proofs.Common.{Some, ◌++◌, ap, ◌∙◌}
use Rattle.exec_value.specs.declared.outcome.Completion.TheVariants.{Value}
use Rattle.exec_bulk.specs.declared.joining.Made.TheVariants.{Failed, Numbers}
use Rattle.exec_bulk.specs.Rows.{numbers_in}
use Rattle.exec_bulk.proofs.Making.{more-adds, none-adds}
use Rattle.exec_bulk.proofs.joining.MadeGathers.gather.Goals as goal

pub returns-in-Ok : goal.returns-in-Ok
returns-in-Ok c =
    let pushed = rw c.in-Ok.is at c.extend_from_slice.ensures.items in
    rw (c.in-Numbers-Some.is, c.in-Numbers-Some.field-0-is, c.in-Value.is)
    (more-adds c.in-Numbers-Some.joined c.extend_from_slice.new.self c.in-Value.values
    (pushed ∙ ap (λ l. c.in-Numbers-Some.joined.items ++ l) (c.numbers_at.ensures.numbers ∙ ap (λ l. numbers_in (Value l)) c.as_slice.ensures.data)))

pub returns-in-Err : goal.returns-in-Err
returns-in-Err c =
    rw (c.fail.ensures, c.in-Numbers-Some.is, c.in-Numbers-Some.field-0-is, c.in-Value.is)
    (none-adds (Numbers (Some c.in-Numbers-Some.joined)) (Value c.in-Value.values))

pub returns-in_default : goal.returns-in_default
returns-in_default c =
    rw (c.fail-in_default.ensures, c.in-Numbers-Some.is, c.in-Numbers-Some.field-0-is)
    (none-adds (Numbers (Some c.in-Numbers-Some.joined)) c.args.done.now)

pub returns-in-Numbers-None : goal.returns-in-Numbers-None
returns-in-Numbers-None c =
    rw (c.fail-in-Numbers-None.ensures, c.in-Numbers-None.is) (none-adds (Numbers c.in-Numbers-None.field-0) c.args.done.now)

pub returns-in-Failed : goal.returns-in-Failed
returns-in-Failed c = rw (c.in-Failed.is) (none-adds (Failed c.in-Failed.field-0) c.args.done.now)
