use Rattle.std.proofs.Common.{◌∙◌}
use Rattle.table_hands_kept.proofs.Opening.{opens_with}
use Rattle.op_table.proofs.table.OpTable.vacant.Goals as goal

pub vacant-requires : goal.vacant-requires
vacant-requires g c =
    let filled = (c.in_ok-words.ensures {u = tt}).items_if_clones_equal (λ y is. is) in
    opens_with g.P.Cargo c.args.frame.now c.deref.result.now c.words.result c.places.result
    (c.deref.ensures.value ∙ filled) c.requires.frame c.requires.tree c.requires.hands c.words.ensures
    c.places.ensures
