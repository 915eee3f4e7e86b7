-- Lines are taken from their parts in turn.
use Rattle.std.proofs.Common.{◌≡◌, ◌≢◌, ◌⊎◌, inl, inr, ℕ, zero, suc, ◌+◌, ◌*◌, ◌<◌, ◌≤◌, List, [], ◌∷◌, ◌++◌, length, take, drop, set, get_or, Option, Some, Ok, Err, refl, sym, ap, ◌∙◌, subst, arith, length-take}
use Rattle.std.specs.Prelude.{slice_get, IfSome, IsSomeAnd}
use Rattle.std.specs.Option.{option_map}
use Rattle.std.specs.Io.KnownBytes.{IsAtEnd, Keeps}
use Rattle.std.proofs.Math.Nat.{suc-mul}
use Rattle.std.proofs.lemmas.Bool.{cases_order}
use Rattle.std.proofs.lemmas.List.{take_more, take_all, take-append-drop}
use Rattle.std.proofs.lemmas.Slice.Zip.{all_zipped_more}
use Rattle.std.proofs.lemmas.Option.{slice_get_within, get_or_from_slice_get}
use Rattle.exec_io.specs.declared.fault.Failed.{Failed}
use Rattle.exec_io.specs.Causes.{Rose}
use Rattle.exec_io.specs.Shelves.{Texts, text_of}
use Rattle.exec_io.specs.Sinks.{Appends}
use Rattle.exec_io.specs.Views.{SinkView}
use Rattle.exec_io.specs.Writing.{AppendsFront, Puts}
use Rattle.exec_io.proofs.SinkLemmas.{Appends-nil, Appends-trans}
use Rattle.exec_io.proofs.PutsLemmas.{AppendsFront-cut, AppendsFront-none, AppendsFront-then}
use Rattle.part_lines.specs.declared.line.Said.{Said}
use Rattle.part_lines.specs.declared.reader.PartFault.{PartFault}
use Rattle.part_lines.specs.declared.reader.PartFault.TheVariants.{Missing, NotLine, Failed as ReadFailed, NoMemory as NoPartMemory}
use Rattle.part_lines.specs.Faults.{IsFaultAt}
use Rattle.part_lines.specs.Lines.{numbered_line, lines_from, Shows}
use Rattle.part_lines.specs.Readers.{HasReadLines, ReaderView}
use Rattle.part_lines.proofs.PutLaws.{all_passed, lines_append, next_line, no_line_misses}
use Rattle.part_lines.proofs.ReadLaws.{at_start, kept_on, lines_push, passed_on}
use Rattle.join_commands.specs.declared.fault.JoinFault.{JoinFault}
use Rattle.join_commands.specs.declared.fault.JoinFault.TheVariants.{Refused, ReadFault, WriteFault, NoMemory}
use Rattle.join_commands.specs.Faults.{at_part, of_lines}
use Rattle.join_commands.specs.Joins.{PutsJoined, PutsText}
use Rattle.join_commands.specs.Parts.{IsWholePart, out_name}
use Rattle.part_lines.specs.Streams.{AreDealt}
use Rattle.join_commands.proofs.OrderLaws.{reads_part}
use Rattle.join_commands.specs.Turns.{AreAtStarts, IsAt}

abbrev Lines : Type 0
Lines = List (List ℕ)

-- what is got at a place is what is behind the others there
got_drop : (xs : Lines) (i : ℕ) (x : List ℕ) (later : Lines) → drop i xs ≡ x ∷ later → slice_get xs i ≡ Some x
got_drop [] zero x later is = cc
got_drop [] (suc i) x later is = cc
got_drop (y ∷ xs) zero x later is = cc
got_drop (y ∷ xs) (suc i) x later is = got_drop xs i x later is

pub take_got : (xs : Lines) (i : ℕ) (x : List ℕ) → slice_get xs i ≡ Some x → take (i + 1) xs ≡ take i xs ++ x ∷ []
take_got xs i x is =
    take_more xs i [] (slice_get_within xs i x is) ∙ ap (λ (l : List ℕ). take i xs ++ l ∷ []) (get_or_from_slice_get xs i x [] is)

-- the lines of a part are those passed and those behind them
cut : (said : Lines) (reader : ReaderView) → said ≡ take reader.passed said ++ drop reader.passed said
cut said reader = sym (take-append-drop reader.passed said)

-- a reader of which the same is ahead
pub at_kept : (said : Lines) (old new : ReaderView) → IsAt said old → Keeps old.ahead new.ahead → new.passed ≡ old.passed → IsAt said new
at_kept said old new at keeps passed = record {
  text = at.text;
  part = at.part;
  read = subst (λ (n : ℕ). HasReadLines at.text (take n said) new) (sym passed) (kept_on at.text (take old.passed said) old new at.read keeps passed);
}

-- the next line of a part
pub at_line : (said : Lines) (reader : ReaderView) (s : Said) (words : List ℕ) → IsAt said reader → IfSome reader.ahead (λ bytes. Shows bytes (reader.passed + 1) s words)
    → slice_get said reader.passed ≡ Some words
at_line said reader s words at shows =
    let next = next_line at.text said (take reader.passed said) (drop reader.passed said) reader at.part (cut said reader) at.read s words shows in
    got_drop said reader.passed words next.0 next.1

-- one line more is passed
pub at_next : (said : Lines) (old new : ReaderView) (s : Said) (words : List ℕ) → IsAt said old → IfSome old.ahead (λ bytes. Shows bytes (old.passed + 1) s words)
    → new.passed ≡ old.passed + 1 → new.ahead ≡ option_map (drop s.length) old.ahead → IsAt said new
at_next said old new s words at shows passed ahead =
    let more : take (old.passed + 1) said ≡ take old.passed said ++ words ∷ [] = take_got said old.passed words (at_line said old s words at shows) in
    record {
      text = at.text;
      part = at.part;
      read = subst (λ (l : Lines). HasReadLines at.text l new) (sym more ∙ ap (λ n. take n said) (sym passed)) (passed_on at.text (take old.passed said) old new s words at.read shows passed ahead);
    }

-- where a line is to come a part isn't at its end
pub at_no_end : (said : Lines) (reader : ReaderView) (words : List ℕ) → IsAt said reader → IsAtEnd reader.ahead → slice_get said reader.passed ≡ Some words → ⊥
at_no_end said reader words at end is =
    let all : take reader.passed said ≡ said = all_passed at.text said (take reader.passed said) (drop reader.passed said) reader at.part (cut said reader) at.read end in
    absurd (omega (arith, ap length all, length-take reader.passed said, slice_get_within said reader.passed words is))

-- nothing is written where the next line isn't read
pub unread : (said : Lines) (text : List ℕ) (reader : ReaderView) (view : SinkView) (at : ℕ) (fault : PartFault) (join : JoinFault) → IsAt said reader → IsFaultAt reader.ahead (reader.passed + 1) fault
    → join ≡ at_part at (of_lines fault) → PutsText text view view (Err join)
unread said text reader view at Missing join stands is same = absurd is
unread said text reader view at (NotLine number) join stands is same =
    absurd (no_line_misses stands.text said (take reader.passed said) (drop reader.passed said) reader stands.part (cut said reader) stands.read is.1)
unread said text reader view at ReadFailed join stands is same =
    subst (λ (f : JoinFault). PutsText text view view (Err f)) (sym same) (AppendsFront-none text (Appends-nil view.written))
unread said text reader view at NoPartMemory join stands is same =
    subst (λ (f : JoinFault). PutsText text view view (Err f)) (sym same) (AppendsFront-none text (Appends-nil view.written))

-- the line that was read is that of the part
pub same_line : (said : Lines) (place number : ℕ) (words read : List ℕ) → slice_get said place ≡ Some words → slice_get said place ≡ Some read → numbered_line number read ≡ numbered_line number words
same_line said place number words read is same = let e : read ≡ words = cc in ap (numbered_line number) e

pub wrote : (number : ℕ) (words read : List ℕ) (old new : SinkView) → numbered_line number read ≡ numbered_line number words → Puts old new (Ok tt) (numbered_line number read) → PutsText (numbered_line number words) old new (Ok tt)
wrote number words read old new same puts = (subst (Appends old.written new.written) same puts.ok, puts.cause.still)

pub wrote_not : (number : ℕ) (words read : List ℕ) (old new : SinkView) (fault : Failed) → numbered_line number read ≡ numbered_line number words → Puts old new (Err fault) (numbered_line number read)
    → PutsText (numbered_line number words) old new (Err WriteFault)
wrote_not number words read old new fault same puts = (subst (AppendsFront old.written new.written) same puts.part, puts.cause.failed)

-- in a round the readers before a place have passed a line more than the others
abbrev pub AreAt : ℕ → ℕ → List Lines → List ReaderView → Type 0
AreAt round at parts readers =
    (k : ℕ) (said : Lines) (reader : ReaderView) → slice_get parts k ≡ Some said → slice_get readers k ≡ Some reader
    → IsAt said reader × (k < at → reader.passed ≡ round + 1) × (at ≤ k → reader.passed ≡ round)

got_both : (parts : List Lines) (readers : List ReaderView) (k : ℕ) (said : Lines) (reader : ReaderView) → AreAtStarts parts readers → slice_get parts k ≡ Some said → slice_get readers k ≡ Some reader
    → IsAt said reader × (reader.passed ≡ 0)
got_both [] readers k said reader zip is here = cc
got_both (part ∷ parts) [] k said reader zip is here = absurd zip
got_both (part ∷ parts) (first ∷ readers) zero said reader zip is here =
    let e : part ≡ said = cc in let f : first ≡ reader = cc in
    subst (λ (l : Lines). IsAt l reader × (reader.passed ≡ 0)) e (subst (λ (r : ReaderView). IsAt part r × (r.passed ≡ 0)) f zip.0)
got_both (part ∷ parts) (first ∷ readers) (suc k) said reader zip is here = got_both parts readers k said reader zip.1 is here

pub first_round : (parts : List Lines) (readers : List ReaderView) → AreAtStarts parts readers → AreAt 0 0 parts readers
first_round parts readers zip = λ k said reader is here.
    let both = got_both parts readers k said reader zip is here in
    (both.0, λ below. absurd (omega (arith, below)), λ past. both.1)

-- what is got where one element was set
got_set_there : (readers : List ReaderView) (i : ℕ) (r reader : ReaderView) → slice_get (set readers i r) i ≡ Some reader → r ≡ reader
got_set_there [] i r reader is = cc
got_set_there (x ∷ readers) zero r reader is = cc
got_set_there (x ∷ readers) (suc i) r reader is = got_set_there readers i r reader is

got_set_else : (readers : List ReaderView) (i k : ℕ) (r : ReaderView) → k ≢ i → slice_get (set readers i r) k ≡ slice_get readers k
got_set_else [] i k r other = refl
got_set_else (x ∷ readers) zero zero r other = absurd (other refl)
got_set_else (x ∷ readers) zero (suc k) r other = refl
got_set_else (x ∷ readers) (suc i) zero r other = refl
got_set_else (x ∷ readers) (suc i) (suc k) r other = got_set_else readers i k r (λ same. other (ap suc same))

-- the reader at a place has passed a line more
pub one_passed : (round at : ℕ) (parts : List Lines) (readers : List ReaderView) (r : ReaderView) → AreAt round at parts readers → r.passed ≡ round + 1
    → ((said : Lines) → slice_get parts at ≡ Some said → IsAt said r) → AreAt round (at + 1) parts (set readers at r)
one_passed round at parts readers r before passed stands = λ k said reader is here. by_place k said reader is here (cases_order k at)
  where
    there : (said : Lines) (reader : ReaderView) → slice_get parts at ≡ Some said → slice_get (set readers at r) at ≡ Some reader → IsAt said reader × (reader.passed ≡ round + 1)
    there said reader is here =
        let e : r ≡ reader = got_set_there readers at r reader here in
        (subst (IsAt said) e (stands said is), sym (ap (λ (v : ReaderView). v.passed) e) ∙ passed)

    by_place : (k : ℕ) (said : Lines) (reader : ReaderView) → slice_get parts k ≡ Some said → slice_get (set readers at r) k ≡ Some reader → (k ≡ at) ⊎ ((k < at) ⊎ (at < k))
        → IsAt said reader × (k < at + 1 → reader.passed ≡ round + 1) × (at + 1 ≤ k → reader.passed ≡ round)
    by_place k said reader is here (inl same) =
        let one = there said reader (ap (slice_get parts) (sym same) ∙ is) (ap (slice_get (set readers at r)) (sym same) ∙ here) in
        (one.0, λ below. one.1, λ past. absurd (omega (arith, past, same)))
    by_place k said reader is here (inr (inl below)) =
        let one = before k said reader is (sym (got_set_else readers at k r (λ same. absurd (omega (arith, below, same)))) ∙ here) in
        (one.0, λ under. one.1 below, λ past. absurd (omega (arith, past, below)))
    by_place k said reader is here (inr (inr above)) =
        let one = before k said reader is (sym (got_set_else readers at k r (λ same. absurd (omega (arith, above, same)))) ∙ here) in
        (one.0, λ under. absurd (omega (arith, under, above)), λ past. one.2 (omega (arith, above)))

-- once all have, the next round begins
pub next_round : (round at : ℕ) (parts : List Lines) (readers : List ReaderView) → length parts ≤ at → AreAt round at parts readers → AreAt (round + 1) 0 parts readers
next_round round at parts readers all before = λ k said reader is here.
    let one = before k said reader is here in
    let below : k < at = omega (arith, all, slice_get_within parts k said is) in
    (one.0, λ under. absurd (omega (arith, under)), λ past. one.1 below)

-- the lines that were written, and how the readers stand then
pub record Stands (parts : List Lines) (lines : Lines) (at written : ℕ) (readers : List ReaderView) (old new : SinkView) : Type 0 where
  pub round : ℕ
  pub place : written ≡ round * length parts + at
  pub readers_at : AreAt round at parts readers
  pub wrote : Appends old.written new.written (lines_from 1 (take written lines))
  pub still : new.faults ≡ old.faults

pub begun : (parts : List Lines) (lines : Lines) (readers : List ReaderView) (view : SinkView) → AreAtStarts parts readers → Stands parts lines 0 0 readers view view
begun parts lines readers view starts = record {
  round = 0;
  place = omega arith;
  readers_at = first_round parts readers starts;
  wrote = Appends-nil view.written;
  still = refl;
}

-- the line whose turn it is
pub turn_line : (parts : List Lines) (lines said : Lines) (at written : ℕ) (readers : List ReaderView) (reader : ReaderView) (old new : SinkView) → Stands parts lines at written readers old new → AreDealt parts lines
    → slice_get parts at ≡ Some said → slice_get readers at ≡ Some reader → IsAt said reader × (slice_get said reader.passed ≡ slice_get lines written)
turn_line parts lines said at written readers reader old new stands dealt is here =
    let one = stands.readers_at at said reader is here in
    let round : reader.passed ≡ stands.round = one.2 (omega arith) in
    (one.0, ap (slice_get said) round ∙ (dealt.each at stands.round said is ∙ ap (slice_get lines) (sym stands.place)))

-- all lines before it and it
lines_on : (lines : Lines) (written : ℕ) (words : List ℕ) → slice_get lines written ≡ Some words
    → lines_from 1 (take written lines) ++ numbered_line (written + 1) words ≡ lines_from 1 (take (written + 1) lines)
lines_on lines written words is =
    let number : written + 1 ≡ 1 + length (take written lines) = omega (arith, length-take written lines, slice_get_within lines written words is) in
    ap (λ n. lines_from 1 (take written lines) ++ numbered_line n words) number
    ∙ (sym (lines_push 1 (take written lines) words) ∙ ap (lines_from 1) (sym (take_got lines written words is)))

lines_front : {old new : Option (List ℕ)} (lines : Lines) (n : ℕ) → AppendsFront old new (lines_from 1 (take n lines)) → AppendsFront old new (lines_from 1 lines)
lines_front {old = old} {new = new} lines n front =
    subst (AppendsFront old new) (sym (lines_append 1 (take n lines) (drop n lines)) ∙ ap (lines_from 1) (take-append-drop n lines))
    (AppendsFront-cut (lines_from (1 + length (take n lines)) (drop n lines)) front)

module _ (parts : List Lines) (lines : Lines) (at written : ℕ) (readers : List ReaderView) (words : List ℕ) (old mid new : SinkView) (stands : Stands parts lines at written readers old mid)
    (is : slice_get lines written ≡ Some words) where
  -- it was written
  pub turned : (r : ReaderView) → r.passed ≡ stands.round + 1 → ((said : Lines) → slice_get parts at ≡ Some said → IsAt said r) → PutsText (numbered_line (written + 1) words) mid new (Ok tt)
      → Stands parts lines (at + 1) (written + 1) (set readers at r) old new
  turned r passed on puts = record {
    round = stands.round;
    place = omega (arith, stands.place);
    readers_at = one_passed stands.round at parts readers r stands.readers_at passed on;
    wrote = subst (Appends old.written new.written) (lines_on lines written words is) (Appends-trans stands.wrote puts.0);
    still = puts.1 ∙ stands.still;
  }

  -- it wasn't
  pub stopped : (fault : JoinFault) → PutsText (numbered_line (written + 1) words) mid new (Err fault) → PutsJoined lines old new (Err fault)
  stopped fault puts = by_fault fault puts
    where
      front : AppendsFront mid.written new.written (numbered_line (written + 1) words) → AppendsFront old.written new.written (lines_from 1 lines)
      front some = lines_front lines (written + 1) (subst (AppendsFront old.written new.written) (lines_on lines written words is) (AppendsFront-then stands.wrote some))

      by_fault : (f : JoinFault) → PutsText (numbered_line (written + 1) words) mid new (Err f) → PutsJoined lines old new (Err f)
      by_fault (Refused refusal) some = absurd some
      by_fault ReadFault some = front some
      by_fault NoMemory some = front some
      by_fault WriteFault some = (front some.0, subst (λ (n : ℕ). Rose n new.faults) stands.still some.1)

-- where the last part of a round had its turn the first has the next
pub turned_round : (parts : List Lines) (lines : Lines) (at written : ℕ) (readers : List ReaderView) (old new : SinkView) → Stands parts lines at written readers old new → at ≡ length parts
    → Stands parts lines 0 written readers old new
turned_round parts lines at written readers old new stands all = record {
  round = stands.round + 1;
  place = omega (arith, stands.place, all, suc-mul stands.round (length parts), ap (λ n. n * length parts) (let e : suc stands.round ≡ stands.round + 1 = omega arith in e));
  readers_at = next_round stands.round at parts readers (omega (arith, all)) stands.readers_at;
  wrote = stands.wrote;
  still = stands.still;
}

-- at the end all lines are written
pub all_turned : (parts : List Lines) (lines : Lines) (at written : ℕ) (readers : List ReaderView) (old new : SinkView) → Stands parts lines at written readers old new → length lines ≤ written
    → PutsJoined lines old new (Ok tt)
all_turned parts lines at written readers old new stands all =
    (subst (λ (l : Lines). Appends old.written new.written (lines_from 1 l)) (take_all written lines all) stands.wrote, stands.still)

-- a reader that was opened is at the start of its part
pub at_begin : (all : Texts) (name : List ℕ) (said : Lines) (reader : ReaderView) → IsWholePart all name said → IsSomeAnd (text_of all (out_name name)) (λ text. reader.ahead ≡ Some text) → reader.passed ≡ 0
    → IsAt said reader × (reader.passed ≡ 0)
at_begin all name said reader whole opens passed =
    let read = reads_part all name said reader.ahead whole opens in
    let none : [] ≡ take reader.passed said = ap (λ n. take n said) (sym passed) in
    (record { text = read.0; part = read.2; read = subst (λ (l : Lines). HasReadLines read.0 l reader) none (at_start read.0 reader read.1 passed) }, passed)

pub starts_more : (parts : List Lines) (readers : List ReaderView) (i : ℕ) (reader : ReaderView) → i < length parts → AreAtStarts (take i parts) readers → IsAt (get_or parts i []) reader × (reader.passed ≡ 0)
    → AreAtStarts (take (i + 1) parts) (readers ++ reader ∷ [])
starts_more parts readers i reader below before one =
    subst (λ (l : List Lines). AreAtStarts l (readers ++ reader ∷ [])) (sym (take_more parts i [] below))
    (all_zipped_more (λ (s : Lines) (r : ReaderView). IsAt s r × (r.passed ≡ 0)) (take i parts) readers (get_or parts i []) reader before one)

pub same_part : (parts : List Lines) (at : ℕ) (one said : Lines) (reader : ReaderView) → slice_get parts at ≡ Some one → slice_get parts at ≡ Some said → IsAt one reader → IsAt said reader
same_part parts at one said reader here is stands = let same : one ≡ said = cc in subst (λ (l : Lines). IsAt l reader) same stands
