use Rattle.std.proofs.Common.{◌≡◌, decimal, sym, ap, subst, ◌∙◌}
use Rattle.std.specs.Result.{result_ok}
use Rattle.std.specs.Str.{IsUtf8}
use Rattle.std.proofs.lemmas.Fmt.{IsAscii-decimal, parse-decimal}
use Rattle.std.proofs.lemmas.Str.{IsUtf8-from_ascii}
use Rattle.join_commands.proofs.reading.read_number.Goals as goal

pub returns-in-Ok : goal.returns-in-Ok
returns-in-Ok c = λ number held is.
    let same : c.in-Ok.digits.now ≡ decimal number = c.in-Ok.ensures.cases.0 ∙ is in
    c.ok.ensures.value ∙ ap result_ok (parse-decimal 64 number c.in-Ok.digits.now c.parse.result held held same c.parse.ensures.value.0)

pub returns-in-Err : goal.returns-in-Err
returns-in-Err c = λ number held is.
    absurd (c.in-Err.ensures.cases.0 (subst IsUtf8 (sym is) (IsUtf8-from_ascii (decimal number) (IsAscii-decimal number held))))
