use Rattle.std.proofs.Common.{◌≡◌, Some, None, codes, sym, ap, subst, ◌∙◌}
use Rattle.std.specs.Prelude.{FitsSigned}
use Rattle.std.specs.Int.{w128}
use Rattle.std.specs.Fmt.{signed_decimal}
use Rattle.std.proofs.lemmas.Bool.Decides.{Decides-eqb}
use Rattle.std.proofs.lemmas.Int.{to_z-of_z}
use Rattle.std.proofs.lemmas.Slice.Eq.{strip_suffix_is}
use Rattle.join_commands.proofs.ReadingLaws.{bad_free, errors_free, from_records, from_stopped, from_sum, line_is, line_of_text, no_memory_free, records_free, same_numbers, stopped_free, sum_free, values_free}
use Rattle.join_commands.proofs.reading.read_numbers.Goals as goal

pub returns-in_err-line : goal.returns-in_err-line
returns-in_err-line c = λ numbers held is.
    absurd (strip_suffix_is Decides-eqb c.args.text.now (codes "\n") None c.in_err-line.ensures.cases (from_records numbers) (is ∙ line_is numbers))

pub returns-in_err-front : goal.returns-in_err-front
returns-in_err-front c = λ numbers held is.
    let cut = strip_suffix_is Decides-eqb c.args.text.now (codes "\n") (Some c.in_ok-line.line) c.in_ok-line.ensures.cases in
    let start = line_of_text numbers c.args.text.now c.in_ok-line.line.now cut is in
    absurd (c.in_err-front.ensures (codes "records") (codes "values") (codes "errors") numbers.records numbers.values numbers.errors (from_stopped numbers) records_free values_free errors_free held.records held.values held.errors start)

pub returns-in_err-back : goal.returns-in_err-back
returns-in_err-back c = λ numbers held is.
    let cut = strip_suffix_is Decides-eqb c.args.text.now (codes "\n") (Some c.in_ok-line.line) c.in_ok-line.ensures.cases in
    let start = line_of_text numbers c.args.text.now c.in_ok-line.line.now cut is in
    let front = c.in_ok-front.ensures (codes "records") (codes "values") (codes "errors") numbers.records numbers.values numbers.errors (from_stopped numbers) records_free values_free errors_free held.records held.values held.errors start in
    absurd (c.in_err-back.ensures (codes "stopped") (codes "out-of-memory") (codes "bad") numbers.stopped numbers.no_memory numbers.bad (from_sum numbers) stopped_free no_memory_free bad_free held.stopped held.no_memory held.bad front.rest_is)

pub returns-in_err-name : goal.returns-in_err-name
returns-in_err-name c = λ numbers held is.
    let cut = strip_suffix_is Decides-eqb c.args.text.now (codes "\n") (Some c.in_ok-line.line) c.in_ok-line.ensures.cases in
    let start = line_of_text numbers c.args.text.now c.in_ok-line.line.now cut is in
    let front = c.in_ok-front.ensures (codes "records") (codes "values") (codes "errors") numbers.records numbers.values numbers.errors (from_stopped numbers) records_free values_free errors_free held.records held.values held.errors start in
    let back = c.in_ok-back.ensures (codes "stopped") (codes "out-of-memory") (codes "bad") numbers.stopped numbers.no_memory numbers.bad (from_sum numbers) stopped_free no_memory_free bad_free held.stopped held.no_memory held.bad front.rest_is in
    absurd (c.in_err-name.ensures (codes "sum") (signed_decimal numbers.sum) sum_free back.rest_is)

pub returns-in_err-sum : goal.returns-in_err-sum
returns-in_err-sum c = λ numbers held is.
    let cut = strip_suffix_is Decides-eqb c.args.text.now (codes "\n") (Some c.in_ok-line.line) c.in_ok-line.ensures.cases in
    let start = line_of_text numbers c.args.text.now c.in_ok-line.line.now cut is in
    let front = c.in_ok-front.ensures (codes "records") (codes "values") (codes "errors") numbers.records numbers.values numbers.errors (from_stopped numbers) records_free values_free errors_free held.records held.values held.errors start in
    let back = c.in_ok-back.ensures (codes "stopped") (codes "out-of-memory") (codes "bad") numbers.stopped numbers.no_memory numbers.bad (from_sum numbers) stopped_free no_memory_free bad_free held.stopped held.no_memory held.bad front.rest_is in
    let name = c.in_ok-name.ensures (codes "sum") (signed_decimal numbers.sum) sum_free back.rest_is in
    let none = c.in_err-sum.ensures numbers.sum held.sum name.rest_is in
    absurd cc

pub returns : goal.returns
returns c = λ numbers held is.
    let cut = strip_suffix_is Decides-eqb c.args.text.now (codes "\n") (Some c.in_ok-line.line) c.in_ok-line.ensures.cases in
    let start = line_of_text numbers c.args.text.now c.in_ok-line.line.now cut is in
    let front = c.in_ok-front.ensures (codes "records") (codes "values") (codes "errors") numbers.records numbers.values numbers.errors (from_stopped numbers) records_free values_free errors_free held.records held.values held.errors start in
    let back = c.in_ok-back.ensures (codes "stopped") (codes "out-of-memory") (codes "bad") numbers.stopped numbers.no_memory numbers.bad (from_sum numbers) stopped_free no_memory_free bad_free held.stopped held.no_memory held.bad front.rest_is in
    let name = c.in_ok-name.ensures (codes "sum") (signed_decimal numbers.sum) sum_free back.rest_is in
    let last = c.in_ok-sum.ensures numbers.sum held.sum name.rest_is in
    let sum : c.in_ok-sum.sum ≡ numbers.sum = cc in
    let fits : FitsSigned w128 c.in_ok-sum.sum = subst (FitsSigned w128) (sym sum) held.sum in
    ap Some (same_numbers c.in_ok-front.front.first c.in_ok-front.front.second c.in_ok-front.front.third c.in_ok-back.back.first c.in_ok-back.back.second c.in_ok-back.back.third _ numbers
    front.first_is front.second_is front.third_is back.first_is back.second_is back.third_is (to_z-of_z w128 c.in_ok-sum.sum fits ∙ sum))
