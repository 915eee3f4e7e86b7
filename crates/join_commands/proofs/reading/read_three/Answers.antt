use Rattle.join_commands.specs.Reads.{count_before}
use Rattle.join_commands.proofs.reading.read_three.Goals as goal

pub returns-in_err-first : goal.returns-in_err-first
returns-in_err-first c = λ a b d first second third more a_free b_free d_free one two three is.
    absurd (c.in_err-first.ensures a first (count_before b second (count_before d third more)) a_free one is)

pub returns-in_err-second : goal.returns-in_err-second
returns-in_err-second c = λ a b d first second third more a_free b_free d_free one two three is.
    let x = c.in_ok-first.ensures a first (count_before b second (count_before d third more)) a_free one is in
    absurd (c.in_err-second.ensures b second (count_before d third more) b_free two x.rest_is)

pub returns-in_err-third : goal.returns-in_err-third
returns-in_err-third c = λ a b d first second third more a_free b_free d_free one two three is.
    let x = c.in_ok-first.ensures a first (count_before b second (count_before d third more)) a_free one is in
    let y = c.in_ok-second.ensures b second (count_before d third more) b_free two x.rest_is in
    absurd (c.in_err-third.ensures d third more d_free three y.rest_is)

pub returns : goal.returns
returns c = λ a b d first second third more a_free b_free d_free one two three is.
    let x = c.in_ok-first.ensures a first (count_before b second (count_before d third more)) a_free one is in
    let y = c.in_ok-second.ensures b second (count_before d third more) b_free two x.rest_is in
    let z = c.in_ok-third.ensures d third more d_free three y.rest_is in
    record { first_is = x.count_is; second_is = y.count_is; third_is = z.count_is; rest_is = z.rest_is }
