use Rattle.std.proofs.Common.{sym, ap, ◌∙◌, subst}
use Rattle.table_steps.specs.Claims.{root_name}
use Rattle.home_items.specs.Entries.{plan_of}
use Rattle.home_items.specs.Starts.{IsReceiverStart}
use Rattle.node_walks.proofs.Completed.{is-of-root, is-for}
use Rattle.node_walks.proofs.Unready.{unready-rests}
use Rattle.node_walks.proofs.ending.end_root.Goals as goal

pub completed-requires : goal.completed-requires
completed-requires g c =
    record {
      root = is-of-root c.args.table.now (root_name c.args.table.now c.args.block.index c.args.block.generation) c.args.hand.now.me
          c.in_ok-item.item c.in_ok-item.ensures.emptied.lay _ c.requires.listed.noted c.requires.listed.receiver;
    }

pub returns-clause-ends : goal.returns-clause-ends
returns-clause-ends g c =
    let lay = c.in_ok-item.ensures.emptied.lay in
    let listed = c.requires.listed in
    record {
      completes = record {
        shows = λ e noted. c.completed.ensures.env ∙ lay.noted e noted;
        receiver = subst IsReceiverStart (sym (c.completed.ensures.env ∙ lay.noted _ listed.noted)) listed.receiver;
        key = ap plan_of c.completed.ensures.env ∙ lay.key;
        is_for = is-for c.args.table.now (root_name c.args.table.now c.args.block.index c.args.block.generation) c.args.hand.now.me
            c.in_ok-item.item lay c.completed.result.collected c.completed.ensures.completes;
      };
      moves = c.in_ok-item.ensures.emptied.moves;
      leaves = c.in_ok-item.ensures.emptied.leaves;
    }

pub returns-in_err-item-clause-rests : goal.returns-in_err-item-clause-rests
returns-in_err-item-clause-rests g c =
    unready-rests c.args.table.now c.args.block c.args.hand.now.me c.empty_root.new.hand.me c.in_err-item.ensures.none c.requires.rests
