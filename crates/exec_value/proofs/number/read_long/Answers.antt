use Rattle.std.proofs.Common.{sym, ◌∙◌}
use Rattle.exec_value.proofs.NumberLemmas.{int_of-parse, int_of-none, IsUtf8-numeral}
use Rattle.exec_value.proofs.TextLemmas.{none-from_utf8, some-from_utf8}
use Rattle.exec_value.proofs.number.read_long.Goals as goal

pub returns-then-not-is_numeral : goal.returns-then-not-is_numeral
returns-then-not-is_numeral c = sym (int_of-none c.args.line.now (sym c.is_numeral.ensures ∙ c.if-not-is_numeral.true))

pub returns-in_err-text : goal.returns-in_err-text
returns-in_err-text c =
    let text = IsUtf8-numeral c.args.line.now (sym c.is_numeral.ensures ∙ c.if-not-is_numeral.false) in
    absurd (none-from_utf8 c.from_utf8.result c.args.line.now _ _ c.from_utf8.ensures.cases (sym c.ok.ensures.value ∙ c.in_err-text.was) text)

pub returns : goal.returns
returns c =
    let numeral = sym c.is_numeral.ensures ∙ c.if-not-is_numeral.false in
    let same = some-from_utf8 c.from_utf8.result c.args.line.now _ _ c.in_ok-text.text c.from_utf8.ensures.cases (sym c.ok.ensures.value ∙ c.in_ok-text.was) in
    c.ok-2.ensures.value ∙ int_of-parse c.args.line.now c.parse.result numeral (rw same at c.parse.ensures.value.0)
