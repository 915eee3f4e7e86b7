-- How the lines of one part after another are written.
use Rattle.std.proofs.Common.{◌≡◌, false, ℕ, zero, suc, ◌+◌, ◌<◌, List, [], ◌∷◌, ◌++◌, length, get_or, take, Option, Some, Ok, Err, refl, sym, ap, ◌∙◌, subst, append_assoc, arith, length-append}
use Rattle.std.specs.Prelude.{is_some, IsSomeAnd}
use Rattle.exec_io.specs.Causes.{Rose}
use Rattle.exec_io.specs.Shelves.{Texts, text_of}
use Rattle.exec_io.specs.Sinks.{Appends}
use Rattle.exec_io.specs.Views.{SinkView}
use Rattle.exec_io.specs.Writing.{AppendsFront}
use Rattle.exec_io.proofs.SinkLemmas.{Appends-trans}
use Rattle.exec_io.proofs.PutsLemmas.{AppendsFront-cut, AppendsFront-then}
use Rattle.part_lines.specs.declared.putting.PutFault.{PutFault}
use Rattle.part_lines.specs.declared.putting.PutFault.TheVariants.{Part, Write}
use Rattle.part_lines.specs.declared.reader.PartFault.TheVariants.{Missing, NotLine as NoPartLine, Failed, NoMemory as NoPartMemory}
use Rattle.part_lines.specs.Lines.{lines_from, IsPartText}
use Rattle.part_lines.specs.Puts.{PutsLines}
use Rattle.part_lines.proofs.PutLaws.{lines_append}
use Rattle.join_commands.specs.declared.fault.JoinFault.{JoinFault}
use Rattle.join_commands.specs.declared.fault.LookFault.{LookFault}
use Rattle.join_commands.specs.declared.fault.LookFault.TheVariants.{Refused, ReadFault, NoMemory}
use Rattle.join_commands.specs.declared.refusal.Cause.TheVariants.{NoStatus, StatusIsnt, NoLines, NotLine, StatusDiffers, NotDealt, NoSummary, Contradicts, TooLarge, Changed}
use Rattle.join_commands.specs.Faults.{IsOfReads, IsOpenFault, at_part, at_put}
use Rattle.join_commands.specs.Joins.{PutsJoined}
use Rattle.join_commands.specs.Parts.{IsWholePart, out_name}
use Rattle.part_lines.specs.Streams.{in_order}
use Rattle.join_commands.proofs.JoinLaws.{in_order_more}
use Rattle.join_commands.proofs.LookLaws.{text_there}

-- the lines of parts, as far as they were gone through
pub front_lines : (parts : List (List (List ℕ))) (i : ℕ) → (rest : List (List ℕ)) × (in_order parts ≡ in_order (take i parts) ++ rest)
front_lines parts zero = (in_order parts, refl)
front_lines [] (suc i) = ([], refl)
front_lines (part ∷ parts) (suc i) =
    let later = front_lines parts i in
    (later.0, ap (λ (l : List (List ℕ)). part ++ l) later.1 ∙ sym (append_assoc part (in_order (take i parts)) later.0))

-- a front of the lines of the first parts is a front of all
pub front_of_parts : {old new : Option (List ℕ)} (parts : List (List (List ℕ))) (i : ℕ) → AppendsFront old new (lines_from 1 (in_order (take i parts)))
    → AppendsFront old new (lines_from 1 (in_order parts))
front_of_parts {old = old} {new = new} parts i front =
    let all = front_lines parts i in
    subst (AppendsFront old new) (sym (lines_append 1 (in_order (take i parts)) all.0) ∙ ap (λ (l : List (List ℕ)). lines_from 1 l) (sym all.1))
    (AppendsFront-cut (lines_from (1 + length (in_order (take i parts))) all.0) front)

-- the lines of one part more
pub lines_more : (parts : List (List (List ℕ))) (i written : ℕ) → i < length parts → written ≡ length (in_order (take i parts))
    → lines_from 1 (in_order (take i parts)) ++ lines_from (written + 1) (get_or parts i []) ≡ lines_from 1 (in_order (take (i + 1) parts))
lines_more parts i written below is =
    let number : written + 1 ≡ 1 + length (in_order (take i parts)) = omega (arith, is) in
    ap (λ n. lines_from 1 (in_order (take i parts)) ++ lines_from n (get_or parts i [])) number
    ∙ (sym (lines_append 1 (in_order (take i parts)) (get_or parts i [])) ∙ ap (λ (l : List (List ℕ)). lines_from 1 l) (sym (in_order_more parts i below)))

-- the lines of one part more were written
pub put_more : (old mid new : SinkView) (parts : List (List (List ℕ))) (i written end : ℕ) → i < length parts → written ≡ length (in_order (take i parts))
    → Appends old.written mid.written (lines_from 1 (in_order (take i parts))) → mid.faults ≡ old.faults → PutsLines written (get_or parts i []) mid new (Ok end)
    → Appends old.written new.written (lines_from 1 (in_order (take (i + 1) parts))) × (new.faults ≡ old.faults) × (end ≡ length (in_order (take (i + 1) parts)))
put_more old mid new parts i written end below is before still puts = (
  subst (Appends old.written new.written) (lines_more parts i written below is) (Appends-trans before puts.0),
  puts.1 ∙ still,
  omega (arith, puts.2, is, ap length (in_order_more parts i below), length-append (in_order (take i parts)) (get_or parts i [])),
)

-- a front of the lines of one part more
pub put_front : (old mid new : SinkView) (parts : List (List (List ℕ))) (i written : ℕ) → i < length parts → written ≡ length (in_order (take i parts))
    → Appends old.written mid.written (lines_from 1 (in_order (take i parts))) → AppendsFront mid.written new.written (lines_from (written + 1) (get_or parts i []))
    → AppendsFront old.written new.written (lines_from 1 (in_order parts))
put_front old mid new parts i written below is before front =
    front_of_parts parts (i + 1) (subst (AppendsFront old.written new.written) (lines_more parts i written below is) (AppendsFront-then before front))

-- the writing stops in a part
pub put_stops : (old mid new : SinkView) (parts : List (List (List ℕ))) (i written at : ℕ) (fault : PutFault) (join : JoinFault) → i < length parts → written ≡ length (in_order (take i parts))
    → Appends old.written mid.written (lines_from 1 (in_order (take i parts))) → mid.faults ≡ old.faults → PutsLines written (get_or parts i []) mid new (Err fault)
    → join ≡ at_put at fault → PutsJoined (in_order parts) old new (Err join)
put_stops old mid new parts i written at Write join below is before still puts same =
    subst (λ (f : JoinFault). PutsJoined (in_order parts) old new (Err f)) (sym same)
    (put_front old mid new parts i written below is before puts.0, subst (λ (n : ℕ). Rose n new.faults) still puts.1)
put_stops old mid new parts i written at (Part Failed) join below is before still puts same =
    subst (λ (f : JoinFault). PutsJoined (in_order parts) old new (Err f)) (sym same) (put_front old mid new parts i written below is before puts)
put_stops old mid new parts i written at (Part NoPartMemory) join below is before still puts same =
    subst (λ (f : JoinFault). PutsJoined (in_order parts) old new (Err f)) (sym same) (put_front old mid new parts i written below is before puts)
put_stops old mid new parts i written at (Part Missing) join below is before still puts same = absurd puts
put_stops old mid new parts i written at (Part (NoPartLine number)) join below is before still puts same = absurd puts

-- a part that is whole isn't opened
pub unopened : (all : Texts) (name : List ℕ) (said : List (List ℕ)) (lines : List (List ℕ)) (old new : SinkView) (at : ℕ) (fault : LookFault) (join : JoinFault) → IsWholePart all name said
    → IsOpenFault all name fault → AppendsFront old.written new.written (lines_from 1 lines) → join ≡ at_part at fault → PutsJoined lines old new (Err join)
unopened all name said lines old new at ReadFault join whole missing front same = subst (λ (f : JoinFault). PutsJoined lines old new (Err f)) (sym same) front
unopened all name said lines old new at NoMemory join whole missing front same = subst (λ (f : JoinFault). PutsJoined lines old new (Err f)) (sym same) front
unopened all name said lines old new at (Refused NoLines) join whole missing front same =
    absurd (let e : is_some (Some whole.lines.0) ≡ false = ap is_some (sym whole.lines.1) ∙ missing in cc)
unopened all name said lines old new at (Refused NoStatus) join whole missing front same = absurd missing
unopened all name said lines old new at (Refused (StatusIsnt text)) join whole missing front same = absurd missing
unopened all name said lines old new at (Refused (NotLine number)) join whole missing front same = absurd missing
unopened all name said lines old new at (Refused (StatusDiffers told found)) join whole missing front same = absurd missing
unopened all name said lines old new at (Refused (NotDealt number place)) join whole missing front same = absurd missing
unopened all name said lines old new at (Refused NoSummary) join whole missing front same = absurd missing
unopened all name said lines old new at (Refused (Contradicts numbers)) join whole missing front same = absurd missing
unopened all name said lines old new at (Refused TooLarge) join whole missing front same = absurd missing
unopened all name said lines old new at (Refused Changed) join whole missing front same = absurd missing

-- and that is for want of reads or memory
pub unopened_reads : (all : Texts) (name : List ℕ) (said : List (List ℕ)) (at : ℕ) (fault : LookFault) (join : JoinFault) → IsWholePart all name said → IsOpenFault all name fault → join ≡ at_part at fault → IsOfReads join
unopened_reads all name said at ReadFault join whole missing same = subst IsOfReads (sym same) tt
unopened_reads all name said at NoMemory join whole missing same = subst IsOfReads (sym same) tt
unopened_reads all name said at (Refused NoLines) join whole missing same =
    absurd (let e : is_some (Some whole.lines.0) ≡ false = ap is_some (sym whole.lines.1) ∙ missing in cc)
unopened_reads all name said at (Refused NoStatus) join whole missing same = absurd missing
unopened_reads all name said at (Refused (StatusIsnt text)) join whole missing same = absurd missing
unopened_reads all name said at (Refused (NotLine number)) join whole missing same = absurd missing
unopened_reads all name said at (Refused (StatusDiffers told found)) join whole missing same = absurd missing
unopened_reads all name said at (Refused (NotDealt number place)) join whole missing same = absurd missing
unopened_reads all name said at (Refused NoSummary) join whole missing same = absurd missing
unopened_reads all name said at (Refused (Contradicts numbers)) join whole missing same = absurd missing
unopened_reads all name said at (Refused TooLarge) join whole missing same = absurd missing
unopened_reads all name said at (Refused Changed) join whole missing same = absurd missing

-- the reader of a part that is whole is at the start of its text
pub reads_part : (all : Texts) (name : List ℕ) (said : List (List ℕ)) (ahead : Option (List ℕ)) → IsWholePart all name said → IsSomeAnd (text_of all (out_name name)) (λ text. ahead ≡ Some text)
    → (text : List ℕ) × (ahead ≡ Some text) × IsPartText text said
reads_part all name said ahead whole opens =
    let there = text_there (text_of all (out_name name)) ahead opens in
    let both : Some there.0 ≡ Some whole.lines.0 = sym there.1 ∙ whole.lines.1 in
    (whole.lines.0, there.2 ∙ both, whole.lines.2)
