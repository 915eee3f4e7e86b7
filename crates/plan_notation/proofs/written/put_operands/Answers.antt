use Rattle.std.proofs.Common.{◌≡◌, ◌<◌, List, [], ◌∷◌, ◌++◌, All, length, map, subst, arith}
use Rattle.std.proofs.lemmas.List.{take_all}
use Rattle.std.proofs.lemmas.List.Elements.{All-more}
use Rattle.exec_value.specs.declared.data.Datum.{Datum}
use Rattle.plan_writer.specs.Held.{IsHeldDatum}
use Rattle.plan_notation.specs.Tokens.{constant_word}
use Rattle.plan_notation.proofs.HeldParts.{map_next}
use Rattle.plan_notation.proofs.written.put_operands.Goals as goal

pub values-preserved : goal.values-preserved
values-preserved c =
    let values = c.args.values.now in
    let index = c.values.value-index in
    let value = c.value-item.result in
    let within : index < length values = omega arith in
    record {
      words = map_next constant_word values index value
          (c.args.words.now ++ map constant_word values) c.values.words c.put_constant.new.words within c.value-item.is
          c.in_ok-put_constant.ensures.words c.values.invariant.words;
      held = All-more IsHeldDatum values index value within c.values.invariant.held
          (subst IsHeldDatum c.value-item.is c.in_ok-put_constant.ensures.held);
    }

pub returns-clause-held : goal.returns-clause-held
returns-clause-held c =
    let P : List Datum → Type 0 = All IsHeldDatum in
    subst P (take_all c.values.value-index c.args.values.now (omega arith)) c.values.invariant.held
