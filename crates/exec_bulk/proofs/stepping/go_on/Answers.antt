use Rattle.std.proofs.Common.{◌≡◌, length, refl, ap, arith}
use Rattle.exec_bulk.specs.Rows.{numbers_in}
use Rattle.exec_bulk.proofs.Making.{numbers-empty, numbers-some}
use Rattle.exec_bulk.proofs.stepping.go_on.Goals as goal

pub pass_on-requires : goal.pass_on-requires
pass_on-requires g c =
    let done = c.args.done.now in
    record {
      may = record {
        goes_on = c.requires.may;
        none = numbers-empty _ done done _ c.numbers_of.ensures.numbers refl c.is_empty.ensures c.if-is_empty.true;
      };
    }

pub begin_parts-requires : goal.begin_parts-requires
begin_parts-requires g c =
    let done = c.args.done.now in
    record {
      may = record {
        goes_on = c.requires.may;
        some = numbers-some _ done done _ c.numbers_of.ensures.numbers refl c.is_empty.ensures c.if-is_empty.false;
      };
    }

pub returns-then-is_empty : goal.returns-then-is_empty
returns-then-is_empty g c =
    let done = c.args.done.now in
    let empty : length (numbers_in done) ≡ 0 =
    ap length (numbers-empty _ done done _ c.numbers_of.ensures.numbers refl c.is_empty.ensures c.if-is_empty.true) in
    record { cuts = λ some. absurd (omega (arith, some, empty)); passes = λ _. c.pass_on.ensures }

pub returns : goal.returns
returns g c =
    let done = c.args.done.now in
    let some = numbers-some _ done done _ c.numbers_of.ensures.numbers refl c.is_empty.ensures c.if-is_empty.false in
    record {
      cuts = λ _. c.begin_parts.ensures;
      passes = λ none. let empty : length (numbers_in done) ≡ 0 = ap length none in absurd (omega (arith, some, empty));
    }
