use Rattle.std.proofs.Common.{◌<◌, List, [], ◌∷◌, ◌++◌, length, map, take, sym, ap, ◌∙◌, subst, arith}
use Rattle.std.proofs.lemmas.List.{map_push, map_more, take_all}
use Rattle.std.proofs.lemmas.List.Elements.{All-more}
use Rattle.serde_json.specs.Data.{Data, array}
use Rattle.serde_json.specs.View.{view, items_of}
use Rattle.serde_json.proofs.Views.{view-Array}
use Rattle.plan_writer.specs.Held.{IsHeldDatum}
use Rattle.plan_writer.specs.Values.{constant_data}
use Rattle.plan_writer.proofs.constant.constants_value.Goals as goal

pub loop-datum-preserved : goal.loop-datum-preserved
loop-datum-preserved c =
    let values = c.as_slice-datum-items.result.now in
    let index = c.loop-datum.datum-index in
    let datum = c.datum-item.result in
    let within : index < length values = omega arith in
    let written = c.in_ok-constant_value.field-0 in
    record {
      constants = c.loop-datum.invariant.constants;
      each = All-more IsHeldDatum values index datum within c.loop-datum.invariant.each
          (subst IsHeldDatum c.datum-item.is c.in_ok-constant_value.ensures.held);
      so_far = ap (map view) c.in_ok-push.ensures.items
          ∙ map_push view c.loop-datum.items.items written
          ∙ ap (λ (ds : List Data). ds ++ view written ∷ []) c.loop-datum.invariant.so_far
          ∙ ap (λ (d : Data). map constant_data (take index values) ++ d ∷ [])
          (c.in_ok-constant_value.ensures.value ∙ ap constant_data c.datum-item.is)
          ∙ sym (map_more constant_data values index datum within);
    }

pub returns-clause-value : goal.returns-clause-value
returns-clause-value c =
    let values = c.as_slice-datum-items.result.now in
    let all = take_all c.loop-datum.datum-index values (omega arith) in
    view-Array c.loop-datum.items
    ∙ ap (λ (ds : List Data). array (items_of ds)) (c.loop-datum.invariant.so_far
    ∙ ap (map constant_data) (all ∙ c.as_slice-datum-items.ensures.data))
