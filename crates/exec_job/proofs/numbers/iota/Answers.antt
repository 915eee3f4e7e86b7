use Rattle.std.proofs.Common.{◌≡◌, ◌∷◌, [], ◌++◌, length, pos, ap, sym, ◌∙◌, arith, w64, to_z}
use Rattle.std.proofs.lemmas.Int.{ints}
use Rattle.std.proofs.lemmas.List.FromFn.{length-map-range_with_len, map-range_with_len_more}
use Rattle.exec_job.proofs.numbers.iota.Goals as goal

pub push_reserved-requires : goal.push_reserved-requires
push_reserved-requires c =
    omega (arith, c.loop-n.numbers.ok.0, ap length c.loop-n.invariant.items, length-map-range_with_len (λ n. pos n) 0 c.loop-n.n)

pub loop-n-preserved : goal.loop-n-preserved
loop-n-preserved c =
    let same : to_z w64 c.loop-n.n ≡ pos c.loop-n.n = omega (arith, ints) in
    record {
      items =
          c.push_reserved.ensures.items
          ∙ ap (λ z. c.loop-n.numbers.items ++ z ∷ []) same
          ∙ ap (λ l. l ++ pos c.loop-n.n ∷ []) c.loop-n.invariant.items
          ∙ sym (map-range_with_len_more (λ n. pos n) 0 c.loop-n.n c.loop-n.n (omega arith));
      room = omega (arith, c.loop-n.invariant.room, c.push_reserved.ensures.capacity);
    }
