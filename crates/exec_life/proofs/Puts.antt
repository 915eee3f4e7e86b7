-- A write to the words and to the view of one hand.
use Rattle.std.proofs.Common.{◌≡◌, ℕ, ◌<◌, true, eqb, List, length, Some, refl, sym, ap, ◌∙◌, subst, get_or, set, slice_get, length-set, arith}
use Rattle.std.specs.Prelude.{nat_lt}
use Rattle.std.proofs.lemmas.Bool.{and_parts, ltb-true, cond-true, cond-false}
use Rattle.std.proofs.lemmas.Option.{slice_get-get_or}
use Rattle.life_rules.specs.declared.words.BlockWord.{BlockWord}
use Rattle.life_rules.specs.declared.event.Place.{Place}
use Rattle.life_rules.specs.States.{State, is_place, with_view}
use Rattle.life_rules.specs.Views.{View}
use Rattle.common_lemmas.proofs.Bool.{either}
use Rattle.exec_life.specs.Parts.{Means}
use Rattle.exec_life.specs.StateLists.{StateLists, machine, view_of, generations, IsFitted, IsState, IsOver}
use Rattle.exec_life.specs.ViewLists.{ViewLists, KnowsPlace}
use Rattle.exec_life.specs.WordLists.{WordLists, first_word}
use Rattle.exec_life.proofs.SameCells.{SameCells}
use Rattle.exec_life.proofs.StateMeans.{slice_get-set, means-view}

-- the lists have this hand, whose view is v
pub record HasView (d : StateLists) (h : ℕ) (v : ViewLists) : Type 0 where
  pub state : IsState d
  pub hand : h < length d.views
  pub view_is : slice_get d.views h ≡ Some v

-- the words are of as many blocks, at the same generations, and of as many nodes
pub record SameBlocks (old new : WordLists) : Type 0 where
  pub count : length new.blocks ≡ length old.blocks
  pub present : generations new ≡ generations old
  pub nodes : new.nodes ≡ old.nodes

pub blocks-stay : (old new : WordLists) → new.blocks ≡ old.blocks → new.nodes ≡ old.nodes → SameBlocks old new
blocks-stay old new blocks nodes =
    let read : List BlockWord → ℕ → ℕ = λ xs b. (get_or xs b first_word).generation in
    record { count = ap length blocks; present = ap read blocks; nodes = nodes }

pub hand-view : (d : StateLists) (h : ℕ) (v : ViewLists) → IsState d → h < length d.views →
    v ≡ get_or d.views h v → HasView d h v
hand-view d h v state hand reads =
    record {
      state = state;
      hand = hand;
      view_is = slice_get-get_or d.views h v hand ∙ ap Some (sym reads);
    }

-- the view of a hand has a cell for each place
pub knows-place : (d : StateLists) (h : ℕ) (v : ViewLists) (p : Place) → HasView d h v →
    is_place (machine d) p ≡ true → KnowsPlace v p
knows-place d h v p has there =
    let over = has.state.fitted.each_view h v has.view_is in
    let parts = and_parts (nat_lt p.block (length d.words.blocks)) (nat_lt p.node (length d.tree)) there in
    let block = ltb-true p.block (length d.words.blocks) parts.0 in
    let node = ltb-true p.node (length d.tree) parts.1 in
    record { block = omega (arith, block, over.blocks_are); node = omega (arith, node, over.nodes_are) }

pub still-knows : (old new : ViewLists) (p : Place) → SameCells old new → KnowsPlace old p → KnowsPlace new p
still-knows old new p cells knows =
    record { block = omega (arith, knows.block, cells.blocks); node = omega (arith, knows.node, cells.nodes) }

-- the lists after a write
abbrev pub after_put : StateLists → WordLists → ℕ → ViewLists → StateLists
after_put d w h v = record d { words = w; views = set d.views h v }

fitted-put : (d : StateLists) (w : WordLists) (h : ℕ) (v new : ViewLists) → HasView d h v →
    length w.blocks ≡ length d.words.blocks → w.nodes ≡ d.words.nodes → SameCells v new →
    IsFitted (after_put d w h new)
fitted-put d w h v new has blocks nodes cells =
    let old = has.state.fitted in
    record {
      nodes_are = nodes ∙ old.nodes_are;
      each_view = λ i u is.
          let there = sym (slice_get-set d.views h i new has.hand) ∙ is in
          either (eqb i h)
          (λ here.
          let same : new ≡ u =
          let e : Some new ≡ Some u = sym (cond-true (eqb i h) (Some new) (slice_get d.views i) here) ∙ there in cc in
          let over = old.each_view h v has.view_is in
          subst (λ (k : ViewLists). IsOver (length w.blocks) (length d.tree) k) same
          (record {
            blocks_are = cells.blocks ∙ over.blocks_are ∙ sym blocks;
            nodes_are = cells.nodes ∙ over.nodes_are;
          }))
          (λ apart.
          let over = old.each_view i u (sym (cond-false (eqb i h) (Some new) (slice_get d.views i) apart) ∙ there) in
          record { blocks_are = over.blocks_are ∙ sym blocks; nodes_are = over.nodes_are });
      most_blocks = omega (arith, old.most_blocks, blocks);
      most_hands = omega (arith, old.most_hands, length-set d.views h new);
      most_associations = old.most_associations;
    }

pub put-means : (d : StateLists) (w : WordLists) (h : ℕ) (v new : ViewLists) (s : State) (seen : View) →
    HasView d h v → SameBlocks d.words w → SameCells v new →
    machine (record d { words = w }) ≡ s → view_of (generations d.words) new ≡ seen →
    Means (after_put d w h new) (with_view s h seen)
put-means d w h v new s seen has same cells words view =
    let now : view_of (generations w) new ≡ seen = ap (λ present. view_of present new) same.present ∙ view in
    record {
      fitted = fitted-put d w h v new has same.count same.nodes cells;
      state_is = means-view (record d { words = w }) h new seen has.hand now ∙ ap (λ t. with_view t h seen) words;
    }

-- a write to the words alone
pub words-means : (d : StateLists) (w : WordLists) (s : State) → IsState d → SameBlocks d.words w →
    machine (record d { words = w }) ≡ s → Means (record d { words = w }) s
words-means d w s state same words =
    let old = state.fitted in
    let blocks = same.count in
    record {
      fitted = record {
        nodes_are = same.nodes ∙ old.nodes_are;
        each_view = λ i u is.
            let over = old.each_view i u is in
            record { blocks_are = over.blocks_are ∙ sym blocks; nodes_are = over.nodes_are };
        most_blocks = omega (arith, old.most_blocks, blocks);
        most_hands = old.most_hands;
        most_associations = old.most_associations;
      };
      state_is = words;
    }

-- a write to the view alone
pub view-means : (d : StateLists) (h : ℕ) (v new : ViewLists) (seen : View) → HasView d h v → SameCells v new →
    view_of (generations d.words) new ≡ seen →
    Means (record d { views = set d.views h new }) (with_view (machine d) h seen)
view-means d h v new seen has cells view =
    put-means d d.words h v new (machine d) seen has (record { count = refl; present = refl; nodes = refl }) cells refl view
