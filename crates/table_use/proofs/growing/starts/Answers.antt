use Rattle.std.proofs.Common.{arith, inl, refl, ap, subst}
use Rattle.life_rules.specs.declared.event.Name.{Name}
use Rattle.table_use.specs.declared.cargo.Item.TheVariants.{Failed}
use Rattle.table_use.specs.Uses.{HasEnded}
use Rattle.table_use.proofs.Waiting.{owed-kid, still-owes, branch-stays}
use Rattle.table_use.proofs.Steps.{on}
use Rattle.table_use.proofs.Reasons.{passed, node-start, start-within, start-at, start-in, free-on, started}
use Rattle.table_use.proofs.growing.starts.Goals as goal

pub opens-requires-clause-owes : goal.opens-requires-clause-owes
opens-requires-clause-owes c =
    owed-kid c.args.table.now c.in_ok-_block.root 0 c.args.env c.awaits_two.new.hand.me c.beside-leaf.result c.beside-leaf.ensures
    c.in_ok-awaits_two.ensures.leaf

pub grows-requires-clause-owes : goal.grows-requires-clause-owes
grows-requires-clause-owes c =
    let low = ap (λ (y : Name). y.node) c.beside-leaf.ensures in
    branch-stays c.args.table.now c.in_ok-_block.root c.in_ok-_block.ensures.root.is_root.is_node c.in_ok-_block.ensures.root.is_root.three c.args.env
    c.beside-leaf.result c.beside.result c.beside-leaf.ensures c.beside.ensures c.awaits_two.new.hand.me c.opens.new.hand.me c.ends.new.hand.me
    (c.opens.ensures.beside (omega (arith, low))) (c.in_ok-ends.ensures.beside (omega (arith, low))) c.in_ok-awaits_two.ensures.branch

pub returns-clause-failed : goal.returns-clause-failed
returns-clause-failed c =
    let ended = c.in_ok-ends.ensures.ended.has in
    let root = c.in_ok-_block.root in
    record {
      env = record (c.args.env) { node = 0 };
      zero = refl;
      has = subst (λ (x : Name). HasEnded x (Failed (record (c.args.env) { node = 0 })) c.grows.new.hand.me) c.beside-leaf.ensures
          (record { entry = ended.entry; owes = still-owes c.ends.new.hand.me c.grows.new.hand.me c.beside-leaf.result _ c.grows.ensures.still.reports ended.owes; item_is = ended.item_is });
    }

pub returns-in_err-_block-clause-fault : goal.returns-in_err-_block-clause-fault
returns-in_err-_block-clause-fault c = passed c.from_residual.result _ _ c.from_residual.ensures.1 (inl c.in_err-_block.ensures.fault)

pub returns-in_err-awaits_two-clause-fault : goal.returns-in_err-awaits_two-clause-fault
returns-in_err-awaits_two-clause-fault c =
    let root = c.in_ok-_block.root in
    passed c.from_residual-in_err-awaits_two.result _ _ c.from_residual-in_err-awaits_two.ensures.1
    (started c.args.table.now c.args.hand.now c.awaits_two.new.hand c.begins.new.hand.me root c.in_ok-_block.ensures.root.is_root c.in_ok-_block.ensures.free _
    (start-in c.args.table.now c.begins.new.hand.me c.awaits_two.new.hand.me root _
    (node-start c.args.table.now c.begins.new.hand.me c.awaits_two.new.hand.me root _ c.in_err-awaits_two.ensures.fault)))

pub returns-in_err-ends-clause-fault : goal.returns-in_err-ends-clause-fault
returns-in_err-ends-clause-fault c =
    let root = c.in_ok-_block.root in
    let board = c.args.table.now in
    passed c.from_residual-in_err-ends.result _ _ c.from_residual-in_err-ends.ensures.1
    (started board c.args.hand.now c.ends.new.hand c.begins.new.hand.me root c.in_ok-_block.ensures.root.is_root c.in_ok-_block.ensures.free _
    (start-in board c.begins.new.hand.me c.ends.new.hand.me root _
    (start-within board c.begins.new.hand.me c.opens.new.hand.me c.ends.new.hand.me
    (on c.begins.new.hand.me c.awaits_two.new.hand.me c.opens.new.hand.me c.in_ok-awaits_two.ensures.steps c.opens.ensures.steps) root _
    (start-at board c.opens.new.hand.me c.ends.new.hand.me root c.beside-leaf.result 0 c.beside-leaf.ensures _
    (node-start board c.opens.new.hand.me c.ends.new.hand.me c.beside-leaf.result _ c.in_err-ends.ensures.fault)))))

pub returns-in_err-grows-clause-fault : goal.returns-in_err-grows-clause-fault
returns-in_err-grows-clause-fault c =
    let root = c.in_ok-_block.root in
    let board = c.args.table.now in
    passed c.from_residual-in_err-grows.result _ _ c.from_residual-in_err-grows.ensures.1
    (started board c.args.hand.now c.grows.new.hand c.begins.new.hand.me root c.in_ok-_block.ensures.root.is_root c.in_ok-_block.ensures.free _
    (start-in board c.begins.new.hand.me c.grows.new.hand.me root _
    (start-within board c.begins.new.hand.me c.ends.new.hand.me c.grows.new.hand.me
    (on c.begins.new.hand.me c.awaits_two.new.hand.me c.ends.new.hand.me c.in_ok-awaits_two.ensures.steps
    (on c.awaits_two.new.hand.me c.opens.new.hand.me c.ends.new.hand.me c.opens.ensures.steps c.in_ok-ends.ensures.steps)) root _
    (start-at board c.ends.new.hand.me c.grows.new.hand.me root c.beside.result 2 c.beside.ensures _ c.in_err-grows.ensures.fault))))

pub returns-clause-free : goal.returns-clause-free
returns-clause-free c =
    free-on c.args.table.now c.in_ok-_block.root c.args.hand.now.me c.begins.new.hand.me c.grows.new.hand.me c.in_ok-_block.ensures.free
    (on c.begins.new.hand.me c.awaits_two.new.hand.me c.grows.new.hand.me c.in_ok-awaits_two.ensures.steps
    (on c.awaits_two.new.hand.me c.opens.new.hand.me c.grows.new.hand.me c.opens.ensures.steps
    (on c.opens.new.hand.me c.ends.new.hand.me c.grows.new.hand.me c.in_ok-ends.ensures.steps c.in_ok-grows.ensures.steps)))
