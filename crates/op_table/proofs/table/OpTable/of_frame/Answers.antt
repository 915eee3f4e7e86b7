use Rattle.std.proofs.Common.{arith, sym, ap, ◌∙◌, subst}
use Rattle.table_steps.specs.Shapes.{IsShape, frame_of}
use Rattle.table_words.specs.Layouts.{words_in, places_in}
use Rattle.op_table.proofs.table.OpTable.of_frame.Goals as goal

pub invariant_of-table : goal.invariant_of-table
invariant_of-table g c =
    let told = c.in-Ok.ensures {u = tt} in
    let shape = c.shape_of.ensures in
    let frame = c.requires.frame in (
      told.key ∙ sym shape ∙ ap (frame_of c.shape_of.result) (sym told.key),
      subst (λ f. IsShape (record { tree = f.tree; layout = f.layout; hands = f.hands; kind = f.kind; most = f.most })) (sym shape)
          (record {
            blocks = omega arith;
            some_hand = c.requires.hands;
            hands = frame.hands;
            nodes = frame.nodes;
            most_nodes = frame.most_nodes;
            most = c.requires.most;
          }),
      told.words ∙ ap (λ f. words_in f.layout) (sym shape),
      told.slots ∙ ap (λ f. places_in f.layout) (sym shape),
    )
