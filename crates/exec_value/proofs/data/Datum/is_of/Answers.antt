use Rattle.std.proofs.Common.{refl}
use Rattle.exec_value.proofs.KindLemmas.{says-no, int-kind, text-kind, row-kind, some_int-kind, some_text-kind, nothing-kind}
use Rattle.exec_value.proofs.data.Datum.is_of.Goals as goal

pub returns-in-Int-matches : goal.returns-in-Int-matches
returns-in-Int-matches c = rw (c.in-Int.is, c.in-Int-matches.is) (λ yes. tt, λ has. refl)

pub returns-in_default : goal.returns-in_default
returns-in_default c =
    rw c.in-Int.is
    (says-no (λ has. c.in_default.not-Int (int-kind c.in-Int.field-0 c.args.kind has)))

pub returns-in-Text-matches : goal.returns-in-Text-matches
returns-in-Text-matches c = rw (c.in-Text.is, c.in-Text-matches.is) (λ yes. tt, λ has. refl)

pub returns-in_default-matches : goal.returns-in_default-matches
returns-in_default-matches c =
    rw c.in-Text.is
    (says-no (λ has. c.in_default-matches.not-Text (text-kind c.in-Text.field-0 c.args.kind has)))

pub returns-in-Row-matches : goal.returns-in-Row-matches
returns-in-Row-matches c = rw (c.in-Row.is, c.in-Row-matches.is) (λ yes. tt, λ has. refl)

pub returns-in_default-matches-2 : goal.returns-in_default-matches-2
returns-in_default-matches-2 c =
    rw c.in-Row.is
    (says-no (λ has. c.in_default-matches-2.not-Row (row-kind c.in-Row.field-0 c.args.kind has)))

pub returns-in-MaybeInt : goal.returns-in-MaybeInt
returns-in-MaybeInt c = rw (c.in-SomeInt.is, c.in-MaybeInt.is) (λ yes. tt, λ has. refl)

pub returns-in_default-matches-3 : goal.returns-in_default-matches-3
returns-in_default-matches-3 c =
    rw c.in-SomeInt.is
    (says-no (λ has.
    c.in_default-matches-3.not-MaybeInt (some_int-kind c.in-SomeInt.field-0 c.args.kind has)))

pub returns-in-MaybeText : goal.returns-in-MaybeText
returns-in-MaybeText c = rw (c.in-SomeText.is, c.in-MaybeText.is) (λ yes. tt, λ has. refl)

pub returns-in_default-matches-4 : goal.returns-in_default-matches-4
returns-in_default-matches-4 c =
    rw c.in-SomeText.is
    (says-no (λ has.
    c.in_default-matches-4.not-MaybeText (some_text-kind c.in-SomeText.field-0 c.args.kind has)))

pub returns-in_default-matches-5 : goal.returns-in_default-matches-5
returns-in_default-matches-5 c =
    let no = c.in_default-matches-5 in
    rw c.in-Nothing.is (says-no (nothing-kind c.args.kind no.not-MaybeInt no.not-MaybeText))
