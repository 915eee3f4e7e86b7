use Rattle.std.proofs.Common.{◌≡◌, sym, ap, subst, ◌∙◌}
use Rattle.std.specs.Fmt.{signed_decimal}
use Rattle.std.specs.Result.{result_ok}
use Rattle.std.specs.Str.{IsUtf8}
use Rattle.join_commands.proofs.ReadingLaws.{parse_signed_wide, signed_utf8}
use Rattle.join_commands.proofs.reading.read_signed.Goals as goal

pub returns-in-Ok : goal.returns-in-Ok
returns-in-Ok c = λ number held is.
    let same : c.in-Ok.digits.now ≡ signed_decimal number = c.in-Ok.ensures.cases.0 ∙ is in
    c.ok.ensures.value ∙ ap result_ok (parse_signed_wide number c.in-Ok.digits.now c.parse.result held same c.parse.ensures.value.0)

pub returns-in-Err : goal.returns-in-Err
returns-in-Err c = λ number held is. absurd (c.in-Err.ensures.cases.0 (subst IsUtf8 (sym is) (signed_utf8 number held)))
