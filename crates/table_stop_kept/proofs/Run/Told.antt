-- What the load and the exchanges of a run tell, in the contract's words.
use Rattle.std.proofs.Common.{◌≡◌, ℕ, ◌<◌, true, false, ◌&&◌, ◌==◌, List, [], ◌∷◌, refl, sym, ap, ◌∙◌, subst}
use Rattle.std.specs.Prelude.{Option, Some, None}
use Rattle.std.specs.List.{list_any}
use Rattle.std.proofs.lemmas.Bool.{cond-true, cond-false}
use Rattle.node_tree.specs.declared.node.TreeNode.{TreeNode}
use Rattle.life_rules.specs.declared.words.CallbackPhase.TheVariants.{Running}
use Rattle.life_rules.specs.declared.event.Name.{Name}
use Rattle.life_rules.specs.declared.event.SourceRef.{SourceRef}
use Rattle.table_words.specs.Controls.{callback_read}
use Rattle.table_words.specs.Stamps.{stamp_of}
use Rattle.atomic_table.specs.declared.shared.Seat.{Seat}
use Rattle.table_rules.specs.declared.view.View.{View}
use Rattle.table_steps.specs.Views.{Board, aim_at}
use Rattle.table_steps.specs.Claims.{logged, with_step}
use Rattle.table_steps.specs.Seats.{Seated}
use Rattle.table_steps.specs.Slots.{Aim}
use Rattle.table_steps.specs.Runs.{says_armed, place_named, node_named, run_index, runs_place, passes_place, last_of, reads_on, meets_at, CanRun, IsOfScan, IsNewest, RanFrom, PassedFrom, IsRunFrom, IsRun}

-- after a step that was listed, and changed nothing else
module _ {P E : Type 0} (i n : ℕ) (m m' : Seated P E) (is : m' ≡ (logged i n m.0, m.1)) where
  pub newest-logged : IsNewest i n m'.0
  newest-logged = subst (λ (z : Seated P E). IsNewest i n z.0) (sym is) (record { earlier = m.0.steps; steps_are = refl })

  pub can-run-logged : (tree : List TreeNode) (source : SourceRef) (block node : ℕ) → CanRun tree m.0 source block node →
      CanRun tree m'.0 source block node
  can-run-logged tree source block node can =
      subst (λ (z : Seated P E). CanRun tree z.0 source block node) (sym is) (record {
        from = can.from;
        scans = can.scans;
        within = can.within;
        next = can.next;
        unrun = can.unrun;
      })

  of-scan-before : (tree : List TreeNode) (source : SourceRef) (x : Name) → IsOfScan tree m'.0 source x → IsOfScan tree m.0 source x
  of-scan-before tree source x so =
      let now : IsOfScan tree (logged i n m.0) source x = subst (λ (z : Seated P E). IsOfScan tree z.0 source x) is so in
      record { nearest_is = now.nearest_is; beside_it = now.beside_it }

-- the hand ran no callback of the place of the node that is named
pub unrun-named : (block node word : ℕ) (name : Name) (runs : List Name) → name ≡ node_named block node word →
    list_any (λ y. y.block == block && y.node == node) runs ≡ false → list_any (λ y. y.block == name.block && y.node == name.node) runs ≡ false
unrun-named block node word name runs is none =
    ap (λ (x : Name). list_any (λ y. y.block == x.block && y.node == x.node) runs) is ∙ none

module _ {P E O : Type 0} (board : Board O) (source : SourceRef) (block node : ℕ) where
  -- a word that says armed tells nothing but that
  pub met-armed : (i n : ℕ) (aim : Aim) (t : SourceRef) (m m' : Seated P E) → i ≡ run_index board block node → says_armed n ≡ true → m' ≡ meets_at aim t i n m →
      m' ≡ (logged (run_index board block node) n m.0, m.1)
  met-armed i n aim t m m' i_is armed told =
      told
      ∙ ap (λ (v : View P E). (logged i n v, m.1)) (cond-true (says_armed n) m.0 (passes_place aim.tree t aim.name.block aim.name.node m.0) armed)
      ∙ ap (λ j. (logged j n m.0, m.1)) i_is

  -- one that doesn't passes the place
  pub met-unarmed : (i n : ℕ) (aim : Aim) (t : SourceRef) (m m' : Seated P E) → i ≡ run_index board block node → aim ≡ aim_at board (place_named block node) → t ≡ source →
      says_armed n ≡ false → m' ≡ meets_at aim t i n m →
      m' ≡ (logged (run_index board block node) n (passes_place board.frame.tree source block node m.0), m.1)
  met-unarmed i n aim t m m' i_is aim_is t_is unarmed told =
      told
      ∙ ap (λ (v : View P E). (logged i n v, m.1)) (cond-false (says_armed n) m.0 (passes_place aim.tree t aim.name.block aim.name.node m.0) unarmed)
      ∙ (λ k. (logged (i_is k) n (passes_place (aim_is k).tree (t_is k) (aim_is k).name.block (aim_is k).name.node m.0), m.1))

  module _ (old new : Seat (Option P) (View P E)) where
    -- the exchange won
    pub won : (word generation i found left : ℕ) (aim : Aim) (t : SourceRef) → i ≡ run_index board block node → aim ≡ aim_at board (place_named block node) → t ≡ source →
        generation ≡ stamp_of word → found ≡ word → stamp_of left ≡ generation → callback_read left ≡ Running →
        (new.me ≡ (with_step i found left (runs_place (node_named aim.name.block aim.name.node found) old.me.0), old.me.1))
        × IsOfScan aim.tree old.me.0 t (node_named aim.name.block aim.name.node found) →
        RanFrom board source block node word (record { block = block; generation = generation; node = node }) old new
    won word generation i found left aim t i_is aim_is t_is stamped hit stamp_left reads_left told =
        let named : node_named block node word ≡ record { block = block; generation = generation; node = node } =
        λ k. record { block = block; generation = sym stamped k; node = node } in
        record {
          tries = [];
          later = tt;
          name_is = sym named;
          of_scan = subst (IsOfScan board.frame.tree old.me.0 source) named
              (subst (λ (z : Aim × SourceRef × ℕ). IsOfScan z.0.tree old.me.0 z.1 (node_named z.0.name.block z.0.name.node z.2))
              (λ k. (aim_is k, t_is k, hit k)) told.1);
          left = left;
          says = record { stamp_is = stamp_left; reads = reads_left };
          me_is = told.0
              ∙ (λ k. (with_step (i_is k) (hit k) left (runs_place (node_named (aim_is k).name.block (aim_is k).name.node (hit k)) old.me.0), old.me.1))
              ∙ ap (λ y. (with_step (run_index board block node) word left (runs_place y old.me.0), old.me.1)) named;
        }

    -- it found a word that isn't armed
    pub lost : (word last : ℕ) → says_armed last ≡ false →
        new.me ≡ (logged (run_index board block node) last (passes_place board.frame.tree source block node old.me.0), old.me.1) →
        PassedFrom board source block node word old new
    lost word last unarmed told = record { tries = []; later = tt; last = last; unarmed = unarmed; me_is = told }

  module _ (old mid new : Seat (Option P) (View P E)) (next : ℕ) (armed : says_armed next ≡ true) (is : mid.me ≡ (logged (run_index board block node) next old.me.0, old.me.1)) where
    -- it found a word that is armed at a later generation, and that was tried
    pub tried : (word : ℕ) (answer : Option Name) → stamp_of word < stamp_of next → IsRunFrom board source block node next answer mid new →
        IsRunFrom board source block node word answer old new
    tried word None rises so =
        record {
          tries = next ∷ so.tries;
          later = (armed, rises, so.later);
          last = so.last;
          unarmed = so.unarmed;
          me_is = so.me_is ∙ ap (λ m. (logged (run_index board block node) so.last (passes_place board.frame.tree source block node (reads_on (run_index board block node) so.tries m.0)), m.1)) is;
        }
    tried word (Some name) rises so =
        record {
          tries = next ∷ so.tries;
          later = (armed, rises, so.later);
          name_is = so.name_is;
          of_scan = of-scan-before (run_index board block node) next old.me mid.me is board.frame.tree source name so.of_scan;
          left = so.left;
          says = so.says;
          me_is = so.me_is ∙ ap (λ m. (with_step (run_index board block node) (last_of next so.tries) so.left (runs_place name (reads_on (run_index board block node) so.tries m.0)), m.1)) is;
        }

    -- the load read a word that is armed, and that was tried
    pub from-armed : (answer : Option Name) → IsRunFrom board source block node next answer mid new →
        IsRun board source block node answer old new
    from-armed None so =
        record {
          words = next ∷ so.tries;
          armed = (armed, so.later);
          last = so.last;
          unarmed = so.unarmed;
          me_is = so.me_is ∙ ap (λ m. (logged (run_index board block node) so.last (passes_place board.frame.tree source block node (reads_on (run_index board block node) so.tries m.0)), m.1)) is;
        }
    from-armed (Some name) so =
        record {
          word = next;
          armed = armed;
          tries = so.tries;
          later = so.later;
          name_is = so.name_is;
          of_scan = of-scan-before (run_index board block node) next old.me mid.me is board.frame.tree source name so.of_scan;
          left = so.left;
          says = so.says;
          me_is = so.me_is ∙ ap (λ m. (with_step (run_index board block node) (last_of next so.tries) so.left (runs_place name (reads_on (run_index board block node) so.tries m.0)), m.1)) is;
        }
