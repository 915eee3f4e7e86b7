use Rattle.std.proofs.Common.{◌≡◌, ◌++◌, ◌∷◌, decimal}
use Rattle.exec_value.specs.Bytes.{blank}
use Rattle.join_commands.proofs.ReadingLaws.{decimal_free}
use Rattle.join_commands.proofs.reading.read_count.Goals as goal

pub returns-in_err-name : goal.returns-in_err-name
returns-in_err-name c = λ name count more free held is.
    absurd (c.in_err-name.ensures name (decimal count ++ (blank ∷ more)) free is)

pub returns-in_err-digits : goal.returns-in_err-digits
returns-in_err-digits c = λ name count more free held is.
    let first = c.in_ok-name.ensures name (decimal count ++ (blank ∷ more)) free is in
    absurd (c.in_err-digits.ensures (decimal count) more (decimal_free count held) first.rest_is)

pub returns-in_err-count : goal.returns-in_err-count
returns-in_err-count c = λ name count more free held is.
    let first = c.in_ok-name.ensures name (decimal count ++ (blank ∷ more)) free is in
    let second = c.in_ok-digits.ensures (decimal count) more (decimal_free count held) first.rest_is in
    let none = c.in_err-count.ensures count held second.word_is in
    absurd cc

pub returns : goal.returns
returns c = λ name count more free held is.
    let first = c.in_ok-name.ensures name (decimal count ++ (blank ∷ more)) free is in
    let second = c.in_ok-digits.ensures (decimal count) more (decimal_free count held) first.rest_is in
    let read = c.in_ok-count.ensures count held second.word_is in
    let same : c.in_ok-count.count ≡ count = cc in
    record { count_is = same; rest_is = second.rest_is }
