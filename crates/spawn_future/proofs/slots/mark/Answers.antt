use Rattle.std.proofs.Common.{List, set, ap, ◌∙◌}
use Rattle.std.specs.Prelude.{Option, Some, None}
use Rattle.std.proofs.lemmas.List.{set-set}
use Rattle.spawn_future.specs.declared.future.Future.{Future}
use Rattle.spawn_future.proofs.slots.mark.Goals as goal

pub returns : goal.returns
returns c =
    let slots = c.args.slots.now.items in
    let t = c.args.slot in
    let marked = c.into_abandoned.result in
    record {
      future = c.take-future.result;
      had = c.take-future.ensures.future;
      slots = c.put.ensures
          ∙ ap (λ (l : List (Option Future)). set l t (Some marked)) c.take-future.ensures.items
          ∙ set-set slots t None (Some marked)
          ∙ ap (λ (f : Future). set slots t (Some f)) c.into_abandoned.ensures;
    }
