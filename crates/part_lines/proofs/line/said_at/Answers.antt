use Rattle.std.proofs.Common.{refl, sym}
use Rattle.part_lines.proofs.LineLaws.{no_words, too_long, no_sort, shows}
use Rattle.part_lines.proofs.line.said_at.Goals as goal

pub returns-in_default : goal.returns-in_default
returns-in_default c = no_words c.args.bytes.now c.args.end c.args.number c.requires.ends c.requires.few c.in_default.ensures

pub returns-then-words-gt-MOST_WORDS : goal.returns-then-words-gt-MOST_WORDS
returns-then-words-gt-MOST_WORDS c =
    too_long c.args.bytes.now c.args.end c.args.number c.requires.ends c.requires.few c.in-Some.words.now c.in-Some.ensures
    c.if-words-gt-MOST_WORDS.true

pub returns-in-Some-sort_of : goal.returns-in-Some-sort_of
returns-in-Some-sort_of c =
    (c.in-Some.words.now, shows c.args.bytes.now c.args.end c.args.number c.requires.ends c.requires.few c.in-Some.words.now c.in-Some.ensures _ c.if-words-gt-MOST_WORDS.false (sym c.in-Some-sort_of.ensures) refl refl)

pub returns-in-None : goal.returns-in-None
returns-in-None c =
    no_sort c.args.bytes.now c.args.end c.args.number c.requires.ends c.requires.few c.in-Some.words.now c.in-Some.ensures
    (sym c.in-None.ensures)
