use Rattle.std.proofs.Common.{◌≡◌, ◌++◌, ℕ, Option, sym, subst, OnOk}
use Rattle.plan_notation.specs.Tokens.{stop_words}
use Rattle.plan_notation.proofs.writing.put_stop.Goals as goal

pub returns-in-Some : goal.returns-in-Some
returns-in-Some c =
    subst (λ (o : Option ℕ). OnOk c.put_with_count.result (c.put_with_count.new.words ≡ c.args.words.now ++ stop_words o))
    (sym c.in-Some.is) c.put_with_count.ensures
