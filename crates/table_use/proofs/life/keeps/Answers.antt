use Rattle.std.proofs.Common.{ap, ◌∙◌}
use Rattle.std.specs.Prelude.{is_some}
use Rattle.op_slot.proofs.Leaving.{rested-calm}
use Rattle.table_use.proofs.Ending.{HasLeaf, leaf-home, leaf-item, leaf-is-done, leaf-value, branch-home, own-home, keeps-puts, keeps-calm, keeps-rests}
use Rattle.table_use.proofs.Stopping.{left-rests}
use Rattle.table_use.proofs.Noted.{swapped-notes, rested-notes}
use Rattle.table_use.proofs.Steps.{on, swapped-on, rests-on}
use Rattle.table_use.proofs.life.keeps.Goals as goal

pub take_home-requires-clause-home : goal.take_home-requires-clause-home
take_home-requires-clause-home c κs =
    let has : HasLeaf c.args.table.now c.args.root c.args.env c.args.hand.now.me = record {
      is = c.requires.root;
      last = c.requires.last;
      leaf = c.beside.result;
      leaf_is = c.beside.ensures;
    } in
    leaf-home has

pub unwrap-requires : goal.unwrap-requires
unwrap-requires c =
    let has : HasLeaf c.args.table.now c.args.root c.args.env c.args.hand.now.me = record {
      is = c.requires.root;
      last = c.requires.last;
      leaf = c.beside.result;
      leaf_is = c.beside.ensures;
    } in
    ap is_some (leaf-item has c.take_home.ensures.taken)

pub delivered-value-requires : goal.delivered-value-requires
delivered-value-requires c =
    let has : HasLeaf c.args.table.now c.args.root c.args.env c.args.hand.now.me = record {
      is = c.requires.root;
      last = c.requires.last;
      leaf = c.beside.result;
      leaf_is = c.beside.ensures;
    } in
    leaf-is-done has c.take_home.ensures.taken c.unwrap.result c.unwrap.ensures

pub take_home-branch-requires-clause-home : goal.take_home-branch-requires-clause-home
take_home-branch-requires-clause-home c κs =
    let has : HasLeaf c.args.table.now c.args.root c.args.env c.args.hand.now.me = record {
      is = c.requires.root;
      last = c.requires.last;
      leaf = c.beside.result;
      leaf_is = c.beside.ensures;
    } in
    branch-home has c.take_home.ensures.taken c.beside-2.ensures

pub take_home-own-requires-clause-home : goal.take_home-own-requires-clause-home
take_home-own-requires-clause-home c κs =
    let has : HasLeaf c.args.table.now c.args.root c.args.env c.args.hand.now.me = record {
      is = c.requires.root;
      last = c.requires.last;
      leaf = c.beside.result;
      leaf_is = c.beside.ensures;
    } in
    own-home has c.take_home.ensures.taken c.beside-2.ensures c.take_home-branch.ensures.taken

pub put_home-requires-clause-needs : goal.put_home-requires-clause-needs
put_home-requires-clause-needs c κs =
    let has : HasLeaf c.args.table.now c.args.root c.args.env c.args.hand.now.me = record {
      is = c.requires.root;
      last = c.requires.last;
      leaf = c.beside.result;
      leaf_is = c.beside.ensures;
    } in
    keeps-puts has c.take_home.ensures.taken c.beside-2.ensures c.take_home-branch.ensures.taken c.take_home-own.ensures.taken
    c.delivered-value.result (c.delivered-value.ensures ∙ leaf-value has c.take_home.ensures.taken c.unwrap.result c.unwrap.ensures)

pub rest-requires-clause-needs : goal.rest-requires-clause-needs
rest-requires-clause-needs c κs =
    let has : HasLeaf c.args.table.now c.args.root c.args.env c.args.hand.now.me = record {
      is = c.requires.root;
      last = c.requires.last;
      leaf = c.beside.result;
      leaf_is = c.beside.ensures;
    } in
    keeps-rests has c.take_home.ensures.taken c.beside-2.ensures c.take_home-branch.ensures.taken c.take_home-own.ensures.taken
    c.put_home.ensures.put c.requires.calm (c.delivered-value.ensures ∙ leaf-value has c.take_home.ensures.taken c.unwrap.result c.unwrap.ensures)

pub returns-clause-calm : goal.returns-clause-calm
returns-clause-calm c =
    let has : HasLeaf c.args.table.now c.args.root c.args.env c.args.hand.now.me = record {
      is = c.requires.root;
      last = c.requires.last;
      leaf = c.beside.result;
      leaf_is = c.beside.ensures;
    } in
    rested-calm c.args.table.now.frame c.args.root c.put_home.new.hand.me c.rest.new.hand.me _ _ _ c.rest.ensures.rests.did
    (keeps-calm has c.take_home.ensures.taken c.beside-2.ensures c.take_home-branch.ensures.taken c.take_home-own.ensures.taken
    c.put_home.ensures.put c.requires.calm)

pub returns-clause-left : goal.returns-clause-left
returns-clause-left c =
    left-rests c.args.table.now c.args.root c.put_home.new.hand.me c.rest.new.hand.me c.rest.ensures.rests

pub returns-clause-notes : goal.returns-clause-notes
returns-clause-notes c =
    rested-notes c.args.table.now c.args.root c.put_home.new.hand.me c.rest.new.hand.me _ _ _ c.rest.ensures.rests.did
    ∙ swapped-notes c.args.table.now c.args.root c.take_home-own.new.hand.me c.put_home.new.hand.me _ _ c.put_home.ensures.put
    ∙ swapped-notes c.args.table.now c.args.root c.take_home-branch.new.hand.me c.take_home-own.new.hand.me _ _ c.take_home-own.ensures.taken
    ∙ swapped-notes c.args.table.now c.beside-2.result c.take_home.new.hand.me c.take_home-branch.new.hand.me _ _ c.take_home-branch.ensures.taken
    ∙ swapped-notes c.args.table.now c.beside.result c.args.hand.now.me c.take_home.new.hand.me _ _ c.take_home.ensures.taken

pub returns-clause-steps : goal.returns-clause-steps
returns-clause-steps c =
    let board = c.args.table.now in
    on c.args.hand.now.me c.take_home.new.hand.me c.rest.new.hand.me
    (swapped-on board c.beside.result c.args.hand.now.me c.take_home.new.hand.me _ _ c.take_home.ensures.taken)
    (on c.take_home.new.hand.me c.take_home-branch.new.hand.me c.rest.new.hand.me
    (swapped-on board c.beside-2.result c.take_home.new.hand.me c.take_home-branch.new.hand.me _ _ c.take_home-branch.ensures.taken)
    (on c.take_home-branch.new.hand.me c.take_home-own.new.hand.me c.rest.new.hand.me
    (swapped-on board c.args.root c.take_home-branch.new.hand.me c.take_home-own.new.hand.me _ _ c.take_home-own.ensures.taken)
    (on c.take_home-own.new.hand.me c.put_home.new.hand.me c.rest.new.hand.me
    (swapped-on board c.args.root c.take_home-own.new.hand.me c.put_home.new.hand.me _ _ c.put_home.ensures.put)
    (rests-on board c.args.root c.put_home.new.hand.me c.rest.new.hand.me _ _ _ c.rest.ensures.rests.did))))
