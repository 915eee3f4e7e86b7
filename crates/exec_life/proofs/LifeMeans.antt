-- What the writes of a life step mean: the state after the step.
use Rattle.std.proofs.Common.{◌≡◌, ℕ, ◌-◌, ◌≤◌, true, false, eqb, length, refl, sym, ap, ◌∙◌, subst, slice_get, arith}
use Rattle.std.specs.Option.{option_map_or}
use Rattle.std.specs.Prelude.{nat_le, nat_lt, if◌then◌else◌}
use Rattle.std.proofs.lemmas.Bool.{and_parts, cond-true, cond-false, eqb-true, false_from_ne_true, both_ways}
use Rattle.life_rules.specs.declared.event.Place.{Place}
use Rattle.life_rules.specs.declared.event.Resting.{Resting}
use Rattle.life_rules.specs.declared.words.BlockState.TheVariants.{Open}
use Rattle.life_rules.specs.declared.words.BlockWord.{BlockWord}
use Rattle.life_rules.specs.declared.words.ControlWord.{ControlWord}
use Rattle.life_rules.specs.declared.words.ControlWord.TheVariants.{Idle, Busy, ReadyLoop, ReadyPool, Parked, Done}
use Rattle.life_rules.specs.LifeSteps.{may_leave_node, may_claim, after_claim, may_begin, after_begin, may_rest, after_rest, may_take, after_take, may_finish, after_finish, root_of}
use Rattle.life_rules.specs.States.{State, size, is_place, name_of, name_at, is_live, control_at, phase_at, stand, with_view, with_block, with_control}
use Rattle.node_tree.specs.Tree.{is_root}
use Rattle.life_rules.specs.Views.{View, blank}
use Rattle.life_rules.specs.Words.{is_free, is_open, is_held, is_under_way, may_be_taken, resting_at}
use Rattle.life_rules.proofs.Readings.{stand-at, lives}
use Rattle.common_lemmas.proofs.Bool.{either}
use Rattle.life_kept.proofs.Fitting.{Fits-along}
use Rattle.life_laws.proofs.Blocks.{free-shut}
use Rattle.exec_life.specs.declared.view.Role.TheVariants.{Nothing, Holds, OwesStart, OwesReport, HoldsFinished}
use Rattle.exec_life.specs.Parts.{Means}
use Rattle.exec_life.specs.StateLists.{StateLists, machine, view_of, generations}
use Rattle.exec_life.specs.ViewLists.{ViewLists, role_in}
use Rattle.exec_life.specs.ViewWrites.{SetsRole}
use Rattle.exec_life.specs.WordLists.{WordLists, block_word}
use Rattle.exec_life.specs.WordWrites.{SetsBlock, SetsControl}
use Rattle.exec_life.proofs.Puts.{HasView, SameBlocks, after_put, put-means}
use Rattle.exec_life.proofs.Roles.{role_changed, role-means, role-cells, control_role-means, starter-from, holder-from, nothing-from, unowned}
use Rattle.exec_life.proofs.StateMeans.{view-is}

module _ (d : StateLists) (w : WordLists) (h : ℕ) (v new : ViewLists) (p : Place) (has : HasView d h v) where
  pub begin-means : may_begin (machine d) h p ≡ true → SetsControl d.words w p.block p.node (Busy 0) →
      SetsRole v new p.block p.node Holds → Means (after_put d w h new) (after_begin (machine d) h p)
  begin-means needs set_word set_role =
      let parts = and_parts (is_place (machine d) p) _ needs in
      control_role-means d w h v new p (Busy 0) OwesStart Holds has set_word set_role
      (starter-from d h v p.block p.node has.view_is parts.1)

  held-role : may_leave_node ((machine d).view h) (name_at (machine d) p) ≡ true → role_in v p.block p.node ≡ Holds
  held-role leaves =
      let s = machine d in
      let parts = and_parts (nat_le 1 ((s.view h).holds (name_at s p))) _ leaves in
      holder-from d h v p.block p.node has.view_is parts.0

  pub rest-means : (to : Resting) → may_rest (machine d) h p ≡ true →
      SetsControl d.words w p.block p.node (resting_at to) → SetsRole v new p.block p.node Nothing →
      Means (after_put d w h new) (after_rest (machine d) h p to)
  rest-means to needs set_word set_role =
      let parts = and_parts (is_place (machine d) p) _ needs in
      control_role-means d w h v new p (resting_at to) Holds Nothing has set_word set_role (held-role parts.1)

  taken : (word : ControlWord) → may_be_taken word h ≡ true → (is_under_way word ≡ true) × (is_held word ≡ false)
  taken Idle t = absurd (cc)
  taken (Busy children) t = absurd (cc)
  taken ReadyLoop t = (refl, refl)
  taken ReadyPool t = (refl, refl)
  taken Parked t = (refl, refl)
  taken Done t = absurd (cc)

  pub take-means : may_take (machine d) h p ≡ true → SetsControl d.words w p.block p.node (Busy 0) →
      SetsRole v new p.block p.node Holds → Means (after_put d w h new) (after_take (machine d) h p)
  take-means needs set_word set_role =
      let parts = and_parts (is_place (machine d) p) _ needs in
      let word = taken (control_at (machine d) (name_at (machine d) p)) parts.1 in
      control_role-means d w h v new p (Busy 0) Nothing Holds has set_word set_role
      (unowned d h v p.block p.node has word.0 word.1)

  pub finish-means : may_finish (machine d) h p ≡ true → SetsControl d.words w p.block p.node Done →
      SetsRole v new p.block p.node (if is_root d.tree p.node then HoldsFinished else OwesReport) →
      Means (after_put d w h new) (after_finish (machine d) h p)
  finish-means needs set_word set_role =
      let s = machine d in
      let x = name_at s p in
      let phase = phase_at s x in
      let parts = and_parts (is_place s p) _ needs in
      let held = held-role (and_parts (may_leave_node (s.view h) x) _ parts.1).0 in
      let root_view : View = role_changed Holds HoldsFinished x (s.view h) in
      let child_view : View = role_changed Holds OwesReport x (s.view h) in
      let state : View → State = λ u. with_view (with_control s p.block p.node Done) h u in
      either (is_root d.tree p.node)
      (λ root.
      let set = subst (λ r. SetsRole v new p.block p.node r) (cond-true (is_root d.tree p.node) HoldsFinished OwesReport root) set_role in
      let means = control_role-means d w h v new p Done Holds HoldsFinished has set_word set held in
      subst (λ u. Means (after_put d w h new) (state u)) (sym (cond-true (is_root d.tree p.node) root_view child_view root)) means)
      (λ other.
      let set = subst (λ r. SetsRole v new p.block p.node r) (cond-false (is_root d.tree p.node) HoldsFinished OwesReport other) set_role in
      let means = control_role-means d w h v new p Done Holds OwesReport has set_word set held in
      subst (λ u. Means (after_put d w h new) (state u)) (sym (cond-false (is_root d.tree p.node) root_view child_view other)) means)

-- claim: the block's word, at the same generation
block-blocks : (old new : WordLists) (b : ℕ) (word : BlockWord) → SetsBlock old new b word →
    word.generation ≡ (block_word old b).generation → SameBlocks old new
block-blocks old new b word set same =
    let each : (i : ℕ) → generations new i ≡ generations old i =
    λ i. ap (λ f. (f i).generation) set.word_is
    ∙ either (eqb i b)
    (λ here.
    ap (λ (u : BlockWord). u.generation) (cond-true (eqb i b) word (block_word old i) here)
    ∙ same ∙ ap (generations old) (sym (eqb-true i b here)))
    (λ apart. ap (λ (u : BlockWord). u.generation) (cond-false (eqb i b) word (block_word old i) apart)) in
    record {
      count = set.count;
      present = λ t i. each i t;
      nodes = ap (λ (u : WordLists). u.nodes) set.rest;
    }

means-block : (d : StateLists) (w : WordLists) (b : ℕ) (word : BlockWord) → SetsBlock d.words w b word →
    SameBlocks d.words w → machine (record d { words = w }) ≡ with_block (machine d) b word
means-block d w b word set same =
    λ t. record (machine (record d { words = set.rest t })) {
      blocks = same.count t;
      block = set.word_is t;
      view = λ h. option_map_or (view_of (same.present t)) (slice_get d.views h) blank;
    }

-- a node of a free block is in no hand's view
free-unowned : (d : StateLists) (h : ℕ) (v : ViewLists) (b n : ℕ) → HasView d h v →
    is_free (block_word d.words b).state ≡ true → role_in v b n ≡ Nothing
free-unowned d h v b n has free =
    let s = machine d in
    let x = name_of s b n in
    let shut : is_open (s.block b).state ≡ false = free-shut (block_word d.words b).state free in
    let dead : is_live s x ≡ false =
    false_from_ne_true (is_live s x) (λ live. both_ways _ shut (lives s x live).is_opened) in
    let idle : control_at s x ≡ Idle = cond-false (is_live s x) _ Idle dead in
    let fits = Fits-along refl refl refl refl (sym dead) refl (sym idle) (has.state.sound.owned.names x) in
    let no_hold : stand s (λ u. u.holds) x ≡ 0 = fits.held in
    let no_start : stand s (λ u. u.starts) x ≤ 0 = fits.start in
    let no_report : stand s (λ u. u.reports) x ≤ 0 = fits.report in
    let no_finish : stand s (λ u. u.finished) x ≡ 0 = fits.finish in
    nothing-from d h v b n has.view_is
    (omega (arith, stand-at s (λ u. u.holds) h x has.hand, no_hold))
    (omega (arith, stand-at s (λ u. u.starts) h x has.hand, no_start))
    (omega (arith, stand-at s (λ u. u.reports) h x has.hand, no_report))
    (omega (arith, stand-at s (λ u. u.finished) h x has.hand, no_finish))

pub claim-means : (d : StateLists) (w : WordLists) (h : ℕ) (v new : ViewLists) (b : ℕ) → HasView d h v →
    may_claim (machine d) h b ≡ true → SetsBlock d.words w b (record (block_word d.words b) { state = Open }) →
    SetsRole v new b (size (machine d) - 1) OwesStart → Means (after_put d w h new) (after_claim (machine d) h b)
claim-means d w h v new b has needs set_word set_role =
    let s = machine d in
    let root = size s - 1 in
    let word : BlockWord = record (block_word d.words b) { state = Open } in
    let parts = and_parts (nat_lt b (length d.words.blocks)) (is_free (block_word d.words b).state) needs in
    let same = block-blocks d.words w b word set_word refl in
    put-means d w h v new (with_block s b word) (role_changed Nothing OwesStart (root_of s b) (s.view h)) has same
    (role-cells v new b root OwesStart set_role)
    (means-block d w b word set_word same)
    (role-means (generations d.words) v new b root Nothing OwesStart (free-unowned d h v b root has parts.1) set_role
    ∙ ap (role_changed Nothing OwesStart (root_of s b)) (sym (view-is d h v has.view_is)))
