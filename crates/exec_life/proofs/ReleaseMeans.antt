-- What the writes of a release mean: the block is given back, and nothing is known of its places.
use Rattle.std.proofs.Common.{◌≡◌, ℕ, zero, suc, [], ◌∷◌, ◌-◌, ◌<◌, true, false, List, length, Some, None, sym, ap, ◌∙◌, subst, get_or, slice_get, inl, inr, arith}
use Rattle.std.specs.Option.{option_map_or}
use Rattle.std.specs.Prelude.{◌==◌, if◌then◌else◌}
use Rattle.std.proofs.lemmas.Bool.{cond-true, cond-false, eqb-true, eq-eqb, both_ways, cases_lt, ne_eqb}
use Rattle.std.proofs.lemmas.Option.{slice_get-get_or, slice_get_past, get_or_from_slice_get, slice_get_within}
use Rattle.life_rules.specs.declared.event.Name.{Name}
use Rattle.life_rules.specs.declared.event.SourceRef.TheVariants.{Node}
use Rattle.life_rules.specs.declared.words.BlockWord.{BlockWord}
use Rattle.life_rules.specs.declared.words.CallbackPhase.TheVariants.{Never}
use Rattle.life_rules.specs.declared.words.ControlWord.TheVariants.{Idle}
use Rattle.life_rules.specs.LifeSteps.{root_of, may_release, after_release, next_word}
use Rattle.life_rules.specs.States.{stand}
use Rattle.life_rules.specs.Views.{View, same, lose, forget, blank, is_scanning}
use Rattle.common_lemmas.specs.Sums.{one}
use Rattle.life_rules.specs.Words.{clear}
use Rattle.life_rules.proofs.Readings.{stand-at}
use Rattle.common_lemmas.proofs.Bool.{either}
use Rattle.life_rules.proofs.Names.{same-other}
use Rattle.exec_life.specs.Grids.{row_at}
use Rattle.exec_life.specs.Parts.{Means}
use Rattle.exec_life.specs.StateLists.{StateLists, machine, view_of, generations, IsState}
use Rattle.exec_life.specs.ViewLists.{ViewLists}
use Rattle.exec_life.specs.ViewWrites.{Forgets, ForgetsFirst}
use Rattle.exec_life.specs.WordLists.{WordLists, block_word, control_word, callback_word, source_word}
use Rattle.exec_life.specs.WordWrites.{SetsBlock, ClearsWords}
use Rattle.common_lemmas.proofs.Options.{known, none-from}
use Rattle.exec_life.proofs.StateMeans.{view-is}
use Rattle.exec_life.proofs.ForgetMeans.{forgotten-view}
use Rattle.exec_life.proofs.ReleasedNames.{no_holds, no_starts, no_reports, no_runs, no_scan, no_finished}

-- the words of a block that is given back
module _ (d : StateLists) (first w : WordLists) (b : ℕ)
    (set : SetsBlock d.words first b (next_word (block_word d.words b))) (clears : ClearsWords first w b) where
  word-is : block_word w ≡ (λ i. if i == b then next_word (block_word d.words b) else block_word d.words i)
  word-is = ap (λ (u : WordLists). block_word u) clears.rest ∙ set.word_is

  elsewhere : (i : ℕ) → (i == b) ≡ false → generations w i ≡ generations d.words i
  elsewhere i apart =
      ap (λ (f : ℕ → BlockWord). (f i).generation) word-is
      ∙ ap (λ (u : BlockWord). u.generation) (cond-false (i == b) (next_word (block_word d.words b)) (block_word d.words i) apart)

  words-count : length w.blocks ≡ length d.words.blocks
  words-count = ap (λ (u : WordLists). length u.blocks) clears.rest ∙ set.count

-- the view of each hand, after the release
released-view : (d : StateLists) (h b i : ℕ) (v u : ViewLists) (w : WordLists) → IsState d → h < length d.views →
    may_release (machine d) h b ≡ true → i < length d.views → slice_get d.views i ≡ Some v → Forgets v u b →
    ((j : ℕ) → (j == b) ≡ false → generations w j ≡ generations d.words j) →
    view_of (generations w) u
    ≡ forget b (if i == h
    then record ((machine d).view h) { finished = lose (root_of (machine d) b) ((machine d).view h).finished }
    else (machine d).view i)
released-view d h b i v u w state below may within is f stays =
    let s = machine d in
    let sound = state.sound in
    let root = root_of s b in
    let at : s.view i ≡ view_of (generations d.words) v = view-is d i v is in
    let old = view_of (generations d.words) v in
    let F : Name → ℕ = if i == h then lose root (s.view i).finished else (s.view i).finished in
    let zero : (part : View → Name → ℕ) → ((y : Name) → y.block ≡ b → stand s part y ≡ 0) →
    (y : Name) → y.block ≡ b → part old y ≡ 0 =
    λ part none y here.
    let e : part (s.view i) y ≡ part old y = ap (λ (z : View). part z y) at in
    omega (arith, stand-at s part i y within, none y here, e) in
    let others : (y : Name) → (y.block == b) ≡ false → old.finished y ≡ F y =
    λ y apart.
    let e : (s.view i).finished y ≡ old.finished y = ap (λ (z : View). z.finished y) at in
    let other : same root y ≡ false =
    same-other root y (λ t. both_ways _ apart (eq-eqb y.block b (sym (ap (λ (z : Name). z.block) t)))) in
    let lost : lose root (s.view i).finished y ≡ (s.view i).finished y - 0 =
    ap (λ t. (s.view i).finished y - one t) other in
    either (i == h)
    (λ own. sym (ap (λ (g : Name → ℕ). g y) (cond-true (i == h) (lose root (s.view i).finished) _ own) ∙ omega (arith, lost, e)))
    (λ away. sym (ap (λ (g : Name → ℕ). g y) (cond-false (i == h) _ (s.view i).finished away) ∙ e)) in
    let no_scan : (y : Name) → y.block ≡ b → old.scan (Node y) ≡ None =
    λ y here. none-from (old.scan (Node y))
    (sym (ap (λ (z : View). is_scanning z (Node y)) at) ∙ no_scan s h b sound below may i y within here) in
    let forgot : view_of (generations w) u ≡ forget b (record old { finished = F }) =
    forgotten-view v u b (generations d.words) (generations w) F f stays
    (zero (λ z. z.holds) (no_holds s h b sound below may))
    (zero (λ z. z.starts) (no_starts s h b sound below may))
    (zero (λ z. z.reports) (no_reports s h b sound below may))
    (zero (λ z. z.runs) (no_runs s h b sound below may))
    (λ y here. no_finished s h b sound below may i y within here) others no_scan in
    forgot
    ∙ ap (λ (z : View). forget b (record z { finished = F })) (sym at)
    ∙ either (i == h)
    (λ own.
    let same_hand : i ≡ h = eqb-true i h own in
    let mine : F ≡ lose root (s.view i).finished = cond-true (i == h) _ _ own in
    ap (λ (g : Name → ℕ). forget b (record (s.view i) { finished = g })) mine
    ∙ ap (λ k. forget b (record (s.view k) { finished = lose root (s.view k).finished })) same_hand
    ∙ sym (ap (forget b) (cond-true (i == h) (record (s.view h) { finished = lose root (s.view h).finished }) (s.view i) own)))
    (λ away.
    let theirs : F ≡ (s.view i).finished = cond-false (i == h) _ _ away in
    ap (λ (g : Name → ℕ). forget b (record (s.view i) { finished = g })) theirs
    ∙ sym (ap (forget b) (cond-false (i == h) (record (s.view h) { finished = lose root (s.view h).finished }) (s.view i) away)))

within_some : {A : Type 0} (xs : List A) (i : ℕ) → i < length xs → slice_get xs i ≡ None → ⊥
within_some [] i within none = omega (arith, within)
within_some (x ∷ xs) zero within none = cc
within_some (x ∷ xs) (suc i) within none = within_some xs i (omega (arith, within)) none

pub release-means : (d : StateLists) (first w : WordLists) (views : List ViewLists) (h b : ℕ) → IsState d →
    h < length d.views → may_release (machine d) h b ≡ true →
    SetsBlock d.words first b (next_word (block_word d.words b)) → ClearsWords first w b →
    ForgetsFirst d.views views b (length d.views) →
    Means (record d { words = w; views = views }) (after_release (machine d) h b)
release-means d first w views h b state below may set clears forgets =
    let s = machine d in
    let after = after_release s h b in
    let stays = elsewhere d first w b set clears in
    let meaning = view_of (generations w) in
    let each_view : (i : ℕ) → option_map_or meaning (slice_get views i) blank ≡ after.view i =
    λ i. elim (cases_lt i (length d.views)) [
      | inl within ↦
          known (slice_get d.views i)
          (λ none. absurd (within_some d.views i within none))
          (λ v is.
          let got : get_or d.views i v ≡ v = get_or_from_slice_get d.views i v v is in
          let f : Forgets v (get_or views i v) b =
          subst (λ z. Forgets z (get_or views i v) b) got (forgets.forgotten i v within within) in
          ap (λ o. option_map_or meaning o blank)
          (slice_get-get_or views i v (omega (arith, within, forgets.count)))
          ∙ released-view d h b i v (get_or views i v) w state below may within is f stays)
      | inr past ↦
          let away : (i == h) ≡ false = ne_eqb i h (λ e. absurd (omega (arith, e, past, below))) in
          ap (λ o. option_map_or meaning o blank) (slice_get_past views i (omega (arith, past, forgets.count)))
          ∙ sym (ap (forget b) (cond-false (i == h) _ (s.view i) away
          ∙ ap (λ o. option_map_or (view_of (generations d.words)) o blank) (slice_get_past d.views i past)))
    ] in
    let control : control_word w ≡ row_at (control_word d.words) b Idle =
    clears.control_is ∙ ap (λ (u : WordLists). row_at (control_word u) b Idle) set.rest in
    let callback : callback_word w ≡ row_at (callback_word d.words) b Never =
    clears.callback_is ∙ ap (λ (u : WordLists). row_at (callback_word u) b Never) set.rest in
    let source : source_word w ≡ row_at (source_word d.words) b clear =
    clears.source_is ∙ ap (λ (u : WordLists). row_at (source_word u) b clear) set.rest in
    let scope_source : w.scope_source ≡ d.words.scope_source =
    ap (λ (u : WordLists). u.scope_source) clears.rest ∙ ap (λ (u : WordLists). u.scope_source) set.rest in
    let scope : w.scope ≡ d.words.scope =
    ap (λ (u : WordLists). u.scope) clears.rest ∙ ap (λ (u : WordLists). u.scope) set.rest in
    let block : block_word w ≡ after.block =
    word-is d first w b set clears in
    let blocks = words-count d first w b set clears in
    let fitted = state.fitted in
    record {
      fitted = record {
        nodes_are = ap (λ (u : WordLists). u.nodes) clears.rest ∙ ap (λ (u : WordLists). u.nodes) set.rest ∙ fitted.nodes_are;
        each_view = λ i u is.
            let within : i < length d.views = omega (arith, slice_get_within views i u is, forgets.count) in
            known (slice_get d.views i)
            (λ none. absurd (within_some d.views i within none))
            (λ v old.
            let got : get_or d.views i v ≡ v = get_or_from_slice_get d.views i v v old in
            let new : get_or views i v ≡ u = get_or_from_slice_get views i u v is in
            let f : Forgets v u b =
            subst (λ z. Forgets v z b) new
            (subst (λ z. Forgets z (get_or views i v) b) got (forgets.forgotten i v within within)) in
            let over = fitted.each_view i v old in
            record {
              blocks_are = ap (λ (z : ViewLists). z.blocks) f.rest ∙ over.blocks_are ∙ sym blocks;
              nodes_are = ap (λ (z : ViewLists). z.nodes) f.rest ∙ over.nodes_are;
            });
        most_blocks = omega (arith, fitted.most_blocks, blocks);
        most_hands = omega (arith, fitted.most_hands, forgets.count);
        most_associations = fitted.most_associations;
      };
      state_is = λ t. record s {
        blocks = blocks t;
        hands = forgets.count t;
        block = block t;
        control = control t;
        callback = callback t;
        source = source t;
        scope_source = scope_source t;
        scope = scope t;
        view = λ i. each_view i t;
      };
    }
