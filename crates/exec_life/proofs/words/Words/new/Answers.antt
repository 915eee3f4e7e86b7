use Rattle.std.proofs.Common.{refl, ◌∙◌, ap, sym, get_or, List, length}
use Rattle.std.proofs.lemmas.List.{length-replicate}
use Rattle.life_rules.specs.declared.words.BlockWord.{BlockWord}
use Rattle.exec_life.specs.WordLists.{first_word}
use Rattle.common_lemmas.proofs.Lists.{get_or-replicate_same}
use Rattle.exec_life.proofs.words.Words.new.Goals as goal

pub invariant_of-result : goal.invariant_of-result
invariant_of-result c =
    let filled = c.in_ok-vec.ensures.items_if_clones_equal (λ y same. same) in
    let blocks = sym (ap length filled ∙ length-replicate c.args.blocks first_word) in
    let control = c.in_ok-new.ensures in
    let callback = c.in_ok-new-2.ensures in
    let source = c.in_ok-new-3.ensures in
    record {
      control_size = record { rows_are = control.rows_are ∙ blocks; columns_are = control.columns_are };
      callback_size = record { rows_are = callback.rows_are ∙ blocks; columns_are = callback.columns_are };
      source_size = record { rows_are = source.rows_are ∙ blocks; columns_are = source.columns_are };
    }

pub returns : goal.returns
returns c =
    let filled = c.in_ok-vec.ensures.items_if_clones_equal (λ y same. same) in
    record {
      blocks_are = ap length filled ∙ length-replicate c.args.blocks first_word;
      nodes_are = refl;
      block_is =
          (λ t b. (ap (λ (xs : List BlockWord). get_or xs b first_word) filled
          ∙ get_or-replicate_same c.args.blocks b first_word) t);
      control_is = c.in_ok-new.ensures.cells_are;
      callback_is = c.in_ok-new-2.ensures.cells_are;
      source_is = c.in_ok-new-3.ensures.cells_are;
      scope_source_is = refl;
      scope_is = refl;
    }
