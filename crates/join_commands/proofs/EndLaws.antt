-- How joining lines ends.
use Rattle.std.proofs.Common.{◌≡◌, ◌≢◌, ℕ, zero, suc, List, [], ◌∷◌, Some, Result, Ok, Err, inl, inr, refl, sym, ap, ◌∙◌, subst, arith}
use Rattle.std.specs.Prelude.{IfOk, IfErr, OnOk, IsErr, IsErrAnd, slice_get}
use Rattle.std.specs.Borrow.{Bor}
use Rattle.std.specs.List.{AllZip}
use Rattle.exec_io.specs.Causes.{Rose}
use Rattle.exec_io.specs.Shelves.{Texts}
use Rattle.exec_io.specs.Sinks.{Appends}
use Rattle.exec_io.specs.Views.{SinkView}
use Rattle.exec_io.proofs.PutsLemmas.{AppendsFront-whole}
use Rattle.exec_io.proofs.SinkLemmas.{Appends-still}
use Rattle.join_commands.specs.declared.ask.Asked.{Asked}
use Rattle.exec_status.specs.declared.status.Status.{Status}
use Rattle.part_lines.specs.declared.tally.Tally.{Tally}
use Rattle.part_lines.specs.Lines.{lines_from}
use Rattle.part_lines.specs.Tallies.{Tallies}
use Rattle.join_commands.specs.declared.ask.Asked.TheVariants.{Lines, Dealt}
use Rattle.join_commands.specs.declared.fault.JoinFault.{JoinFault}
use Rattle.join_commands.specs.declared.fault.JoinFault.TheVariants.{Refused, ReadFault, WriteFault, NoMemory}
use Rattle.join_commands.specs.declared.refusal.Cause.{Cause}
use Rattle.join_commands.specs.declared.refusal.Cause.TheVariants.{NoStatus, StatusIsnt, NoLines, NotLine, StatusDiffers, NotDealt, NoSummary, Contradicts, TooLarge, Changed}
use Rattle.join_commands.specs.declared.fault.LookFault.{LookFault}
use Rattle.join_commands.specs.declared.fault.LookFault.TheVariants.{Refused as PartRefused, ReadFault as NotRead, NoMemory as NoPartMemory}
use Rattle.join_commands.specs.Faults.{at_part, HasJoinCause, HasLookCause, IsJoinFault, IsRefusedAt, IsUndealt}
use Rattle.join_commands.specs.Joins.{AreJoined, AreTallied, AreWhole, HandsOn, JoinsLines, LeavesFront, PutsJoined}
use Rattle.join_commands.specs.Parts.{IsTallied}
use Rattle.part_lines.specs.Streams.{AreDealt, in_order}
use Rattle.join_commands.specs.Statuses.{counts_status}
use Rattle.join_commands.specs.Turns.{PartHasEnded, IsUneven, IsUnevenFor}
use Rattle.join_commands.proofs.LookLaws.{by_tally}

-- the lines that were counted
pub tallied_parts : (all : Texts) (names : List (Bor (List ℕ))) (tallies : List Tally) → AreTallied all names tallies
    → (parts : List (List (List ℕ))) × AreWhole all names parts × AllZip Tallies tallies parts
tallied_parts all [] [] each = ([], tt, tt)
tallied_parts all [] (tally ∷ tallies) each = absurd each
tallied_parts all (name ∷ names) [] each = absurd each
tallied_parts all (name ∷ names) (tally ∷ tallies) each =
    let later = tallied_parts all names tallies each.1 in
    (each.0.0 ∷ later.0, (each.0.1, later.1), (each.0.2, later.2))

-- where nothing was done to a sink
pub untouched : (all : Texts) (asked : Asked) (names : List (Bor (List ℕ))) (view : SinkView) (fault : JoinFault) → LeavesFront all asked names view view fault
untouched all asked names view (Refused refusal) = refl
untouched all asked names view ReadFault = inl refl
untouched all asked names view WriteFault = inl refl
untouched all asked names view NoMemory = inl refl

-- where lines weren't written to their end a front of them was, and no part is refused
pub front_put : (all : Texts) (asked : Asked) (names : List (Bor (List ℕ))) (parts : List (List (List ℕ))) (lines : List (List ℕ)) (old new : SinkView) (fault : JoinFault) → AreWhole all names parts
    → AreJoined asked parts lines → PutsJoined lines old new (Err fault) → LeavesFront all asked names old new fault
front_put all asked names parts lines old new (Refused refusal) whole are puts = absurd puts
front_put all asked names parts lines old new ReadFault whole are puts = inr (record { parts = parts; lines = lines; whole = whole; joined = are; front = puts })
front_put all asked names parts lines old new WriteFault whole are puts = inr (record { parts = parts; lines = lines; whole = whole; joined = are; front = puts.0 })
front_put all asked names parts lines old new NoMemory whole are puts = inr (record { parts = parts; lines = lines; whole = whole; joined = are; front = puts })

pub put_fault : (all : Texts) (names : List (Bor (List ℕ))) (lines : List (List ℕ)) (old new : SinkView) (fault : JoinFault) → PutsJoined lines old new (Err fault)
    → IsJoinFault all names fault
put_fault all names lines old new (Refused refusal) puts = absurd puts
put_fault all names lines old new ReadFault puts = tt
put_fault all names lines old new WriteFault puts = tt
put_fault all names lines old new NoMemory puts = tt

-- lines in order were joined
pub joined : (all : Texts) (names : List (Bor (List ℕ))) (parts : List (List (List ℕ))) (sum : Tally) (old mid new : SinkView) (status : Status) → AreWhole all names parts
    → Appends old.written mid.written (lines_from 1 (in_order parts)) → mid.faults ≡ old.faults → HandsOn mid new → Tallies sum (in_order parts)
    → status ≡ counts_status sum.lines sum.values sum.no_memory → JoinsLines all Lines names old new status
joined all names parts sum old mid new status whole puts still ends counted is = record {
  parts = parts;
  lines = in_order parts;
  whole = whole;
  joined = refl;
  told = record { wrote = Appends-still puts ends.wrote; handed_on = ends.handed_on; still = ends.still ∙ still };
  status_is = is ∙ by_tally sum (in_order parts) counted;
}

-- a fault behind the writing is one of writing
pub finish_fault : (all : Texts) (names : List (Bor (List ℕ))) (fault : JoinFault) → fault ≡ WriteFault → IsJoinFault all names fault
finish_fault all names fault is = subst (IsJoinFault all names) (sym is) tt

-- and all lines stand there
pub front_finished : (all : Texts) (asked : Asked) (names : List (Bor (List ℕ))) (parts : List (List (List ℕ))) (lines : List (List ℕ)) (old mid new : SinkView) (result : Result Status JoinFault) → AreWhole all names parts
    → AreJoined asked parts lines → Appends old.written mid.written (lines_from 1 lines) × (mid.faults ≡ old.faults) → Appends mid.written new.written [] → IfErr result (λ fault. fault ≡ WriteFault)
    → IfErr result (LeavesFront all asked names old new)
front_finished all asked names parts lines old mid new (Ok status) whole are puts ends is = tt
front_finished all asked names parts lines old mid new (Err fault) whole are puts ends is =
    subst (LeavesFront all asked names old new) (sym is)
    (inr (record { parts = parts; lines = lines; whole = whole; joined = are; front = AppendsFront-whole (Appends-still puts.0 ends) }))

-- the same of an answer
pub joined_or : (all : Texts) (names : List (Bor (List ℕ))) (parts : List (List (List ℕ))) (sum : Tally) (old mid new : SinkView) (result : Result Status JoinFault) → AreWhole all names parts
    → Appends old.written mid.written (lines_from 1 (in_order parts)) × (mid.faults ≡ old.faults) → OnOk result (HandsOn mid new) → Tallies sum (in_order parts)
    → IfOk result (λ status. status ≡ counts_status sum.lines sum.values sum.no_memory) → IfOk result (JoinsLines all Lines names old new)
joined_or all names parts sum old mid new (Ok status) whole puts ends counted is = joined all names parts sum old mid new status whole puts.0 puts.1 ends counted is
joined_or all names parts sum old mid new (Err fault) whole puts ends counted is = tt

-- a call that isn't of this fault, and left its count
pub cause_else : {T : Type 0} (fault : JoinFault) (a b : ℕ) (result : Result T JoinFault) → b ≡ a → result ≢ Err fault → HasJoinCause fault a b result
cause_else fault a b result same other = record { later = omega (arith, same); failed = λ is. absurd (other is); still = λ not. same }

-- the same of a part that isn't read
pub look_cause_else : {T : Type 0} (a b : ℕ) (result : Result T LookFault) → b ≡ a → result ≢ Err NotRead → HasLookCause a b result
look_cause_else a b result same other = record { later = omega (arith, same); failed = λ is. absurd (other is); still = λ not. same }

-- the cause of a part that isn't read is that of the joining
pub look_to_join : {T U : Type 0} (a b c at : ℕ) (fault : LookFault) (join : JoinFault) → b ≡ a → HasLookCause {T = T} b c (Err fault) → join ≡ at_part at fault → HasJoinCause {T = U} ReadFault a c (Err join)
look_to_join a b c at (PartRefused found) join same cause is = record {
  later = omega (arith, same, cause.later);
  failed = λ e. let f : join ≡ ReadFault = cc in let g : Refused (record { at = at; cause = found }) ≡ ReadFault = sym is ∙ f in cc;
  still = λ other. cause.still (λ e. cc) ∙ same;
}
look_to_join a b c at NotRead join same cause is = record {
  later = omega (arith, same, cause.later);
  failed = λ e. subst (λ n. Rose n c) same (cause.failed refl);
  still = λ other. absurd (other (ap Err is));
}
look_to_join a b c at NoPartMemory join same cause is = record {
  later = omega (arith, same, cause.later);
  failed = λ e. let f : join ≡ ReadFault = cc in let g : NoMemory ≡ ReadFault = sym is ∙ f in cc;
  still = λ other. cause.still (λ e. cc) ∙ same;
}

pub quiet_err : {T : Type 0} (result : Result T LookFault) → IfErr result (λ fault. fault ≢ NotRead) → result ≢ Err NotRead
quiet_err (Ok done) quiet is = cc
quiet_err (Err found) quiet is = let e : found ≡ NotRead = cc in quiet e

-- a part that isn't read is no fault of writing
pub at_part_quiet : (at : ℕ) (fault : LookFault) (join : JoinFault) → join ≡ at_part at fault → join ≢ WriteFault
at_part_quiet at (PartRefused cause) join is same = cc
at_part_quiet at NotRead join is same = cc
at_part_quiet at NoPartMemory join is same = cc

-- what an answer of `?` is
pub handed_err : {T E : Type 0} (result : Result T E) (fault : E) → IsErr result → IsErrAnd result (λ f. f ≡ fault) → result ≡ Err fault
handed_err (Ok done) fault is same = absurd same
handed_err (Err found) fault is same = ap Err same

-- lines were joined from parts as they were dealt
pub joined_dealt : (all : Texts) (names : List (Bor (List ℕ))) (parts : List (List (List ℕ))) (lines : List (List ℕ)) (sum : Tally) (old mid new : SinkView) (result : Result Status JoinFault) → AreWhole all names parts
    → AreDealt parts lines → Appends old.written mid.written (lines_from 1 lines) × (mid.faults ≡ old.faults) → OnOk result (HandsOn mid new) → Tallies sum lines
    → IfOk result (λ status. status ≡ counts_status sum.lines sum.values sum.no_memory) → IfOk result (JoinsLines all Dealt names old new)
joined_dealt all names parts lines sum old mid new (Err fault) whole dealt puts ends counted is = tt
joined_dealt all names parts lines sum old mid new (Ok status) whole dealt puts ends counted is = record {
  parts = parts;
  lines = lines;
  whole = whole;
  joined = dealt;
  told = record { wrote = Appends-still puts.0 ends.wrote; handed_on = ends.handed_on; still = ends.still ∙ puts.1 };
  status_is = is ∙ by_tally sum lines counted;
}

-- what was tallied at a place is a part that is whole
tallied_there : (all : Texts) (names : List (Bor (List ℕ))) (tallies : List Tally) → AreTallied all names tallies → (at : ℕ) (tally : Tally) → slice_get tallies at ≡ Some tally
    → (name : Bor (List ℕ)) × (slice_get names at ≡ Some name) × IsTallied all name.now tally
tallied_there all [] [] each at tally is = cc
tallied_there all [] (first ∷ tallies) each at tally is = absurd each
tallied_there all (name ∷ names) [] each at tally is = absurd each
tallied_there all (name ∷ names) (first ∷ tallies) each zero tally is =
    let e : first ≡ tally = cc in
    (name, refl, subst (IsTallied all name.now) e each.0)
tallied_there all (name ∷ names) (first ∷ tallies) each (suc at) tally is = tallied_there all names tallies each.1 at tally is

-- parts that weren't dealt in turn aren't joined
undealt : (all : Texts) (names : List (Bor (List ℕ))) (tallies : List Tally) (at number ended : ℕ) → AreTallied all names tallies → PartHasEnded tallies at number ended → IsUndealt all names at number ended
undealt all names tallies at number ended each has =
    let one = tallied_there all names tallies each at has.tally has.tally_is in
    let other = tallied_there all names tallies each ended has.least has.least_is in
    record {
      name = one.0;
      other = other.0;
      said = one.2.0;
      fewer = other.2.0;
      name_is = one.1;
      other_is = other.1;
      whole = one.2.1;
      other_whole = other.2.1;
      there = omega (arith, has.there, one.2.2.lines);
      before = λ below. omega (arith, has.before below, other.2.2.lines);
      behind = λ past. omega (arith, has.behind past, other.2.2.lines);
    }

uneven_cause : (all : Texts) (names : List (Bor (List ℕ))) (tallies : List Tally) (at : ℕ) (cause : Cause) → AreTallied all names tallies → IsUnevenFor tallies at cause → IsRefusedAt all names at cause
uneven_cause all names tallies at (NotDealt number ended) each has = undealt all names tallies at number ended each has
uneven_cause all names tallies at NoStatus each has = absurd has
uneven_cause all names tallies at (StatusIsnt said) each has = absurd has
uneven_cause all names tallies at NoLines each has = absurd has
uneven_cause all names tallies at (NotLine number) each has = absurd has
uneven_cause all names tallies at (StatusDiffers told found) each has = absurd has
uneven_cause all names tallies at NoSummary each has = absurd has
uneven_cause all names tallies at (Contradicts numbers) each has = absurd has
uneven_cause all names tallies at TooLarge each has = absurd has
uneven_cause all names tallies at Changed each has = absurd has

pub uneven_fault : (all : Texts) (names : List (Bor (List ℕ))) (tallies : List Tally) (fault : JoinFault) → AreTallied all names tallies → IsUneven tallies fault → IsJoinFault all names fault
uneven_fault all names tallies (Refused refusal) each is = uneven_cause all names tallies refusal.at refusal.cause each is
uneven_fault all names tallies ReadFault each is = tt
uneven_fault all names tallies WriteFault each is = tt
uneven_fault all names tallies NoMemory each is = tt
