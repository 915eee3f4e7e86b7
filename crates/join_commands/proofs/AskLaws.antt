-- What is asked ends as it is asked.
use Rattle.std.proofs.Common.{◌≡◌, ℕ, List, Result, Ok, Err, sym, subst}
use Rattle.std.specs.Prelude.{IfOk, IfErr}
use Rattle.std.specs.Borrow.{Bor}
use Rattle.exec_io.specs.Shelves.{Texts}
use Rattle.exec_io.specs.Views.{SinkView}
use Rattle.exec_status.specs.declared.status.Status.{Status}
use Rattle.join_commands.specs.declared.ask.Asked.{Asked}
use Rattle.join_commands.specs.declared.ask.Asked.TheVariants.{Lines, Dealt, Summary}
use Rattle.join_commands.specs.declared.fault.JoinFault.{JoinFault}
use Rattle.join_commands.specs.Endings.{EndsJoin}
use Rattle.join_commands.specs.Faults.{IsJoinFault}
use Rattle.join_commands.specs.Joins.{JoinsLines, LeavesFront}
use Rattle.join_commands.specs.Summaries.{JoinsSummaries, LeavesSumFront}
use Rattle.join_commands.specs.Unsummed.{IsUnsummed}

pub ends_lines : (all : Texts) (names : List (Bor (List ℕ))) (old new : SinkView) (asked : Asked) (result : Result Status JoinFault) → asked ≡ Lines → IfOk result (JoinsLines all Lines names old new)
    → IfErr result (IsJoinFault all names) → IfErr result (LeavesFront all Lines names old new) → EndsJoin all asked names old new result
ends_lines all names old new asked (Ok status) is joined fault front = subst (λ (a : Asked). EndsJoin all a names old new (Ok status)) (sym is) joined
ends_lines all names old new asked (Err found) is joined fault front = subst (λ (a : Asked). EndsJoin all a names old new (Err found)) (sym is) (fault, front)

pub ends_dealt : (all : Texts) (names : List (Bor (List ℕ))) (old new : SinkView) (asked : Asked) (result : Result Status JoinFault) → asked ≡ Dealt → IfOk result (JoinsLines all Dealt names old new)
    → IfErr result (IsJoinFault all names) → IfErr result (LeavesFront all Dealt names old new) → EndsJoin all asked names old new result
ends_dealt all names old new asked (Ok status) is joined fault front = subst (λ (a : Asked). EndsJoin all a names old new (Ok status)) (sym is) joined
ends_dealt all names old new asked (Err found) is joined fault front = subst (λ (a : Asked). EndsJoin all a names old new (Err found)) (sym is) (fault, front)

pub ends_summary : (all : Texts) (names : List (Bor (List ℕ))) (old new : SinkView) (asked : Asked) (result : Result Status JoinFault) → asked ≡ Summary → IfOk result (JoinsSummaries all names old new)
    → IfErr result (IsUnsummed all names) → IfErr result (LeavesSumFront all names old new) → EndsJoin all asked names old new result
ends_summary all names old new asked (Ok status) is joined fault front = subst (λ (a : Asked). EndsJoin all a names old new (Ok status)) (sym is) joined
ends_summary all names old new asked (Err found) is joined fault front = subst (λ (a : Asked). EndsJoin all a names old new (Err found)) (sym is) (fault, front)
