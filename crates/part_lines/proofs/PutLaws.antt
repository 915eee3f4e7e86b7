-- The lines of a part come one after another.
use Rattle.std.proofs.Common.{◌≡◌, ℕ, suc, ◌+◌, ◌≤◌, List, [], ◌∷◌, ◌++◌, length, decimal, All, Option, Some, None, Result, Ok, Err, refl, sym, ap, ◌∙◌, subst, append_assoc, append-nil, arith, length-append}
use Rattle.std.specs.Prelude.{IfSome}
use Rattle.std.specs.Io.KnownBytes.{IsAtEnd}
use Rattle.exec_io.specs.declared.fault.Failed.{Failed}
use Rattle.exec_io.specs.Views.{SinkView}
use Rattle.exec_io.specs.Writing.{AppendsFront, Puts}
use Rattle.exec_io.proofs.PutsLemmas.{AppendsFront-cut, Puts-then}
use Rattle.exec_value.specs.Bytes.{blank, line_feed}
use Rattle.std.proofs.lemmas.List.Elements.{All-head, All-tail}
use Rattle.part_lines.specs.declared.limits.TheConstants.{MOST_LINES}
use Rattle.part_lines.specs.declared.line.Said.{Said}
use Rattle.part_lines.specs.declared.putting.PutFault.TheVariants.{Part}
use Rattle.part_lines.specs.declared.reader.PartFault.{PartFault}
use Rattle.part_lines.specs.declared.reader.PartFault.TheVariants.{Missing, NotLine, Failed as ReadFailed, NoMemory}
use Rattle.part_lines.specs.Faults.{IsFaultAt, IsNoLine}
use Rattle.part_lines.specs.Puts.{PutsLines}
use Rattle.part_lines.specs.Readers.{HasReadLines, ReaderView}
use Rattle.part_lines.proofs.ReadLaws.{lines_push, of_rest}
use Rattle.part_lines.specs.Lines.{numbered_line, lines_from, AreLineWords, IsPartText, Shows}
use Rattle.part_lines.proofs.LineLaws.{cancel, cut_once, head_free, line_is, same_words}

-- lines, and further ones
pub lines_append : (number : ℕ) (said more : List (List ℕ)) → lines_from number (said ++ more) ≡ lines_from number said ++ lines_from (number + length said) more
lines_append number [] more = let same : number ≡ number + 0 = omega arith in ap (λ n. lines_from n more) same
lines_append number (first ∷ said) more =
    let same : number + 1 + length said ≡ number + suc (length said) = omega arith in
    ap (λ (l : List ℕ). numbered_line number first ++ l) (lines_append (number + 1) said more ∙ ap (λ n. lines_from (number + 1) said ++ lines_from n more) same)
    ∙ sym (append_assoc (numbered_line number first) (lines_from (number + 1) said) (lines_from (number + suc (length said)) more))

-- the words of the next line, where more words are to come
pub next_words : (number : ℕ) (more : List (List ℕ)) (rest : List ℕ) (said : Said) (words : List ℕ) → All AreLineWords more → lines_from number more ≡ rest → Shows rest number said words
    → (later : List (List ℕ)) × (more ≡ words ∷ later)
next_words number [] rest said words each is shows =
    absurd (omega (arith, ap length (is ∙ shows.bytes_are), length-append (numbered_line number words) shows.more, length-append (decimal number ++ blank ∷ words) (line_feed ∷ [])))
next_words number (first ∷ later) rest said words each is shows =
    let are = All-head AreLineWords first later each in
    let heads = cut_once (decimal number ++ blank ∷ first) (decimal number ++ blank ∷ words) (lines_from (number + 1) later) shows.more
    (head_free number first shows.few are.free) (head_free number words shows.few shows.are.free)
    (sym (line_is number first (lines_from (number + 1) later)) ∙ is ∙ shows.bytes_are ∙ line_is number words shows.more) in
    (later, ap (λ (w : List ℕ). w ∷ later) (same_words number first words heads))

all_behind : (said more : List (List ℕ)) → All AreLineWords (said ++ more) → All AreLineWords more
all_behind [] more all = all
all_behind (first ∷ said) more all = all_behind said more (All-tail AreLineWords first (said ++ more) all)

module _ (text : List ℕ) (said done more : List (List ℕ)) (reader : ReaderView) (part : IsPartText text said) (said_is : said ≡ done ++ more) (read : HasReadLines text done reader) where
  -- what is ahead is the rest of the lines
  rest_is : lines_from (1 + length done) more ≡ read.rest
  rest_is =
      cancel (lines_from 1 done) (lines_from (1 + length done) more) read.rest
      (sym (lines_append 1 done more) ∙ ap (lines_from 1) (sym said_is) ∙ sym part.text_is ∙ read.text_is)

  rest_words : All AreLineWords more
  rest_words = all_behind done more (subst (All AreLineWords) said_is part.each)

  number_is : 1 + length done ≡ reader.passed + 1
  number_is = omega (arith, read.passed)

  -- the next line is the next one of the part
  pub next_line : (s : Said) (words : List ℕ) → IfSome reader.ahead (λ bytes. Shows bytes (reader.passed + 1) s words) → (later : List (List ℕ)) × (more ≡ words ∷ later)
  next_line s words at_line =
      let shows : Shows read.rest (reader.passed + 1) s words = of_rest (λ bytes. Shows bytes (reader.passed + 1) s words) reader.ahead read.rest read.ahead at_line in
      next_words (reader.passed + 1) more read.rest s words rest_words (ap (λ n. lines_from n more) (sym number_is) ∙ rest_is) shows

  -- at the end all lines are passed
  pub all_passed : IsAtEnd reader.ahead → done ≡ said
  all_passed end = sym (said_is ∙ ap (λ (l : List (List ℕ)). done ++ l) (none more (rest_is ∙ nothing reader.ahead read.ahead end)) ∙ append-nil done)
    where
      nothing : (ahead : Option (List ℕ)) → ahead ≡ Some read.rest → IsAtEnd ahead → read.rest ≡ []
      nothing None is end = cc
      nothing (Some xs) is end = cc

      none : (lines : List (List ℕ)) → lines_from (1 + length done) lines ≡ [] → lines ≡ []
      none [] e = refl
      none (first ∷ lines) e =
          absurd (omega (arith, ap length e, length-append (numbered_line (1 + length done) first) (lines_from (1 + length done + 1) lines), length-append (decimal (1 + length done) ++ blank ∷ first) (line_feed ∷ [])))

  -- and no line is missing
  pub no_line_misses : IfSome reader.ahead (IsNoLine (reader.passed + 1)) → ⊥
  no_line_misses no_line =
      let none : IsNoLine (reader.passed + 1) read.rest = of_rest (IsNoLine (reader.passed + 1)) reader.ahead read.rest read.ahead no_line in
      by_lines more rest_is rest_words (omega (arith, part.few, ap length said_is, length-append done more)) none
    where
      by_lines : (lines : List (List ℕ)) → lines_from (1 + length done) lines ≡ read.rest → All AreLineWords lines → length done + length lines ≤ MOST_LINES → IsNoLine (reader.passed + 1) read.rest → ⊥
      by_lines [] e all few none = none.some (sym e)
      by_lines (first ∷ lines) e all few none = none.no_line (record {
        words = first;
        more = lines_from (1 + length done + 1) lines;
        are = All-head AreLineWords first lines all;
        bytes_are = sym e ∙ ap (λ n. numbered_line n first ++ lines_from (1 + length done + 1) lines) number_is;
        few = omega (arith, few, number_is);
      })

-- the front of a part, where it isn't read on
pub put_fault : (before : ℕ) (said : List (List ℕ)) (old new : SinkView) (ahead : Option (List ℕ)) (number : ℕ) (fault : PartFault) → (IfSome ahead (IsNoLine number) → ⊥) → IsFaultAt ahead number fault
    → AppendsFront old.written new.written (lines_from (before + 1) said) → PutsLines before said old new (Err (Part fault))
put_fault before said old new ahead number Missing whole is front = is
put_fault before said old new ahead number (NotLine at) whole is front = whole is.1
put_fault before said old new ahead number ReadFailed whole is front = front
put_fault before said old new ahead number NoMemory whole is front = front

-- the first lines were written, and a front of all was
pub front_of_all : (number : ℕ) (said done more : List (List ℕ)) {old new : Option (List ℕ)} → said ≡ done ++ more → AppendsFront old new (lines_from number done) → AppendsFront old new (lines_from number said)
front_of_all number said done more {old = old} {new = new} said_is front =
    subst (AppendsFront old new) (sym (lines_append number done more) ∙ ap (lines_from number) (sym said_is)) (AppendsFront-cut (lines_from (number + length done) more) front)

-- one line more was written
pub line_put : {s t u : SinkView} {r : Result (Unit {0}) Failed} (number at : ℕ) (done : List (List ℕ)) (words : List ℕ) → at ≡ number + length done
    → Puts s t (Ok tt) (lines_from number done) → Puts t u r (numbered_line at words) → Puts s u r (lines_from number (done ++ words ∷ []))
line_put {s = s} {u = u} {r = r} number at done words is first line =
    subst (Puts s u r) (ap (λ n. lines_from number done ++ numbered_line n words) is ∙ sym (lines_push number done words)) (Puts-then first line)

pub one_more : (said done later : List (List ℕ)) (more : List (List ℕ)) (words : List ℕ) → said ≡ done ++ more → more ≡ words ∷ later → said ≡ (done ++ words ∷ []) ++ later
one_more said done later more words said_is more_is =
    said_is ∙ ap (λ (l : List (List ℕ)). done ++ l) more_is ∙ sym (append_assoc done (words ∷ []) later)
