use Rattle.std.proofs.Common.{◌||◌, sym, ap, ◌∙◌, subst}
use Rattle.std.specs.Prelude.{IfSome}
use Rattle.exec_value.specs.declared.outcome.Completion.{Completion}
use Rattle.plan_rules.specs.Images.{value_data}
use Rattle.serve_ahead.specs.Spawned.{HasRoom}
use Rattle.serve_ahead.proofs.Both.{no-values, values-joined, failure-joined}
use Rattle.serve_ahead.proofs.joining.put_together.Goals as goal

pub with_values-requires : goal.with_values-requires
with_values-requires c =
    subst (λ (done : Completion). IfSome (value_data done) (HasRoom c.args.first)) (sym c.into_completion.ensures ∙ c.in-Value.is) c.requires

pub returns-in-Some : goal.returns-in-Some
returns-in-Some c =
    values-joined c.args.parcel c.args.first c.args.saw c.in-Value.values (sym c.into_completion.ensures ∙ c.in-Value.is) _ c.in-Some.ensures
    (c.either.ensures ∙ ap (λ b. b || c.args.saw) c.saw-own.ensures)

pub returns-in_default : goal.returns-in_default
returns-in_default c =
    failure-joined c.args.parcel c.args.first c.args.saw
    (no-values c.args.parcel.completion (λ x is. c.in_default.not-Value x (c.into_completion.ensures ∙ is))) _ c.into_completion.ensures
    c.saw-own.ensures
