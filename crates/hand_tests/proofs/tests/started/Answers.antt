use Rattle.std.proofs.Common.{◌≡◌, false, List, sym, ap, ◌∙◌, subst}
use Rattle.std.specs.Prelude.{pos}
use Rattle.exec_value.specs.declared.data.Datum.{Datum}
use Rattle.exec_value.specs.declared.data.Datum.TheVariants.{Int}
use Rattle.exec_value.specs.Kinds.{HasKind}
use Rattle.plan_rules.specs.declared.settings.Settings.{Settings}
use Rattle.exec_recv.specs.Over.{IsOver}
use Rattle.exec_recv.specs.Sites.{plan_at}
use Rattle.home_items.specs.declared.entry.Entry.{Entry}
use Rattle.home_items.specs.Entries.{record_start}
use Rattle.node_walks.specs.Starts.{CanRun}
use Rattle.node_tests.proofs.Ready.{record-runs}
use Rattle.hand_tests.proofs.tests.started.Goals as goal

pub returns : goal.returns
returns g c =
    let board = c.args.site.now in
    let plan = c.site.inside.plan.now in
    let same : plan ≡ plan_at board = c.site.invariant ∙ ap plan_at c.site.view_is in
    let kind = subst (λ (s : Settings). HasKind (Int (pos 5)) s.input) c.settings.ensures (c.is_of.ensures.0 c.if-not-is_of.false) in
    subst (λ (start : List Entry). CanRun board start) (sym c.of_record.ensures)
    (subst (λ (args : List Datum). CanRun board (record_start plan args 1 false)) (sym c.one.ensures)
    (record-runs board plan (subst (IsOver board) (sym same) c.requires.site.over) (Int (pos 5)) kind 1 false))
