use Rattle.std.proofs.Common.{◌≡◌, ◌+◌, [], ◌∷◌, ◌++◌, arith, refl, sym, ap, ◌∙◌, subst}
use Rattle.atomic_table.proofs.Lists.{at_index}
use Rattle.table_steps.specs.Views.{AreFreshHands}
use Rattle.table_hands_kept.proofs.FreshHands.{one_more}
use Rattle.table_hands_kept.proofs.PoppedHands.{have-none}
use Rattle.op_table.proofs.table.OpTable.all_hands.Goals as goal

pub add_hand-requires-clause-seat : goal.add_hand-requires-clause-seat
add_hand-requires-clause-seat g c κs within = (have-none c.args.self.now 1 _ c.requires.first).0

pub loop-number-init : goal.loop-number-init
loop-number-init g c =
    let none = (c.in_ok-all.ensures {u = tt}).items in
    let one = c.in_ok-add_hand.ensures {u = tt} ∙ ap (λ l. l ++ c.args.first ∷ []) none in
    (omega arith, subst (AreFreshHands c.args.self.now 1) (sym one) c.requires.first)

pub index_mut-requires : goal.index_mut-requires
index_mut-requires g c = let long = c.loop-number.invariant.1.length_is in omega (arith, long)

pub split_off-next-requires-clause-table : goal.split_off-next-requires-clause-table
split_off-next-requires-clause-table g c κs within =
    let all = c.loop-number.all.items in
    let seat = c.index_mut.result.now in
    let old = c.loop-number.invariant.1 in
    let long = old.length_is in
    let at = at_index all 0 seat (omega (arith, long)) c.index_mut.ensures.value in
    (old.each 0 seat at).0.table_is

pub split_off-next-requires-clause-first : goal.split_off-next-requires-clause-first
split_off-next-requires-clause-first g c κs within =
    let all = c.loop-number.all.items in
    let seat = c.index_mut.result.now in
    let old = c.loop-number.invariant.1 in
    let long = old.length_is in
    let at = at_index all 0 seat (omega (arith, long)) c.index_mut.ensures.value in
    ap (λ v. v.number) (old.each 0 seat at).2

pub split_off-next-requires-clause-more : goal.split_off-next-requires-clause-more
split_off-next-requires-clause-more g c κs within =
    let all = c.loop-number.all.items in
    let seat = c.index_mut.result.now in
    let old = c.loop-number.invariant.1 in
    let long = old.length_is in
    let at = at_index all 0 seat (omega (arith, long)) c.index_mut.ensures.value in
    let counts = old.splits seat at in
    let hands = ap (λ b. b.frame.hands) c.self.view_is in
    omega (arith, counts, hands)

pub add_hand-requires-in-loop-number-clause-seat : goal.add_hand-requires-in-loop-number-clause-seat
add_hand-requires-in-loop-number-clause-seat g c κs within =
    let all = c.loop-number.all.items in
    let seat = c.index_mut.result.now in
    let old = c.loop-number.invariant.1 in
    let long = old.length_is in
    let at = at_index all 0 seat (omega (arith, long)) c.index_mut.ensures.value in
    let split = c.split_off-next.ensures in
    record {
      table_is = split.same_table ∙ (old.each 0 seat at).0.table_is;
      owed = ap (λ m. m.0.owed) split.right;
      runs = ap (λ m. m.0.runs) split.right;
    }

pub loop-number-preserved : goal.loop-number-preserved
loop-number-preserved g c =
    let all = c.loop-number.all.items in
    let seat = c.index_mut.result.now in
    let old = c.loop-number.invariant.1 in
    let long = old.length_is in
    let at = at_index all 0 seat (omega (arith, long)) c.index_mut.ensures.value in
    let split = c.split_off-next.ensures in (
      omega arith,
      subst (AreFreshHands c.args.self.now (c.loop-number._number + 1)) (sym (c.in_ok-add_hand-2.ensures {u = tt}))
          (one_more c.args.self.now (record {
            hands = c.loop-number._number;
            all = all;
            seat = seat;
            cut = c.split_off-next.new.first;
            next = c.split_off-next.result;
            fresh = old;
            at = at;
            cut_table = split.table;
            cut_me = split.left;
            next_table = split.same_table ∙ refl;
            next_me = split.right;
          })),
    )

pub returns : goal.returns
returns g c =
    let hands = ap (λ b. b.frame.hands) c.self.view_is in
    let some = c.requires.hands in
    let is : c.loop-number._number ≡ c.args.self.now.frame.hands = omega (arith, hands, some) in
    subst (λ n. AreFreshHands c.args.self.now n c.loop-number.all.items) is c.loop-number.invariant.1
