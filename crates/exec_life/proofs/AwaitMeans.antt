-- What the writes of an await mean.
use Rattle.std.proofs.Common.{◌≡◌, ℕ, ◌+◌, ◌<◌, ◌≤◌, Bool, true, false, ◌&&◌, ◌||◌, cond, List, [], ◌∷◌, length, refl, sym, ap, ◌∙◌, get_or, take, arith}
use Rattle.std.specs.List.{list_any, list_all}
use Rattle.std.specs.Prelude.{◌==◌, nat_le, if◌then◌else◌}
use Rattle.std.proofs.lemmas.Bool.{and_parts, cond-true, cond-false, eqb-true, eq-eqb, false_from_ne_true, both_ways, or_from}
use Rattle.std.proofs.lemmas.List.Folds.{list_any_more}
use Rattle.life_rules.specs.declared.event.Name.{Name}
use Rattle.life_rules.specs.declared.event.Place.{Place}
use Rattle.life_rules.specs.declared.words.ControlWord.TheVariants.{Idle, Busy}
use Rattle.life_rules.specs.LifeSteps.{may_leave_node, may_be_awaited, may_await, after_await}
use Rattle.common_lemmas.specs.Lists.{are_different}
use Rattle.life_rules.specs.States.{size, is_place, name_at, control_at, set_at, stand}
use Rattle.common_lemmas.specs.Sums.{total}
use Rattle.node_tree.specs.Tree.{is_child}
use Rattle.life_rules.specs.Views.{View, same, beside, gain_each}
use Rattle.common_lemmas.specs.Sums.{one}
use Rattle.life_rules.specs.Words.{is_idle, pending}
use Rattle.life_rules.specs.Owned.{weight}
use Rattle.life_rules.proofs.Readings.{stand-at}
use Rattle.common_lemmas.proofs.Bool.{either, one-true, one-false, one-most, eqb-sym}
use Rattle.life_rules.proofs.Names.{same-true}
use Rattle.common_lemmas.proofs.Totals.{total-most, total-ones}
use Rattle.life_kept.proofs.Fitting.{Fits-along, idle-word}
use Rattle.life_kept.proofs.Holding.{held-by, weight-most, leave-needs}
use Rattle.life_kept.proofs.Members.{any-passes, any-beside, count-different}
use Rattle.life_kept.proofs.Trees.{child-parent}
use Rattle.node_tree.proofs.Walk.{parent_within}
use Rattle.exec_life.specs.declared.view.Role.{Role}
use Rattle.exec_life.specs.declared.view.Role.TheVariants.{Nothing, Holds, OwesStart}
use Rattle.exec_life.specs.Parts.{Means}
use Rattle.exec_life.specs.StateLists.{StateLists, machine, view_of, generations, said_of}
use Rattle.exec_life.specs.ViewLists.{ViewLists, role_in, is_holder, is_starter, is_reporter, is_finisher}
use Rattle.exec_life.specs.ViewWrites.{SetsRole, OwesStarts}
use Rattle.exec_life.specs.WordLists.{WordLists}
use Rattle.exec_life.specs.WordWrites.{SetsControl}
use Rattle.exec_life.proofs.Puts.{HasView, after_put, put-means}
use Rattle.exec_life.proofs.Roles.{role_changed, role-means, role-cells, control-blocks, holder-from, nothing-from}
use Rattle.exec_life.proofs.ReportMeans.{stays-nothing}
use Rattle.exec_life.proofs.StateMeans.{view-is, means-control}

-- tests in a row
in_row : {A : Type 0} (a b c e : Bool) (v x : A) → (c || b) ≡ e → cond (a && b) v (cond (a && c) v x) ≡ cond (a && e) v x
in_row true true true e v x h = ap (λ t. cond t v x) h
in_row true true false e v x h = ap (λ t. cond t v x) h
in_row true false true e v x h = ap (λ t. cond t v x) h
in_row true false false e v x h = ap (λ t. cond t v x) h
in_row false b c e v x h = refl

none-same : (x y : Name) (nodes : List ℕ) → ((n : ℕ) → beside x n ≡ y → ⊥) →
    list_any (λ n. same (beside x n) y) nodes ≡ false
none-same x y [] none = refl
none-same x y (n ∷ ns) none =
    or_from (same (beside x n) y) (list_any (λ m. same (beside x m) y) ns)
    (false_from_ne_true _ (λ t. none n (same-true (beside x n) y t))) (none-same x y ns none)

-- whether the list names a node, by its block and number
in_list : (x y : Name) (nodes : List ℕ) (present : ℕ → ℕ) → x.generation ≡ present x.block →
    (y.generation == present y.block) ≡ true →
    (y.block == x.block && list_any (λ m. m == y.node) nodes) ≡ list_any (λ n. same (beside x n) y) nodes
in_list x y nodes present at now =
    either (y.block == x.block)
    (λ here.
    let block : y.block ≡ x.block = eqb-true y.block x.block here in
    let generation : y.generation ≡ x.generation =
    eqb-true y.generation (present y.block) now ∙ ap present block ∙ sym at in
    let is : beside x y.node ≡ y =
    λ t. record { block = sym block t; generation = sym generation t; node = y.node } in
    ap (λ t. t && list_any (λ m. m == y.node) nodes) here
    ∙ sym (any-beside x y.node nodes)
    ∙ ap (λ z. list_any (λ n. same (beside x n) z) nodes) is)
    (λ apart.
    ap (λ t. t && list_any (λ m. m == y.node) nodes) apart
    ∙ sym (none-same x y nodes (λ n e. both_ways _ apart (eq-eqb y.block x.block (ap (λ (z : Name). z.block) (sym e))))))

out_of_list : (x y : Name) (nodes : List ℕ) (present : ℕ → ℕ) → x.generation ≡ present x.block →
    (y.generation == present y.block) ≡ false → list_any (λ n. same (beside x n) y) nodes ≡ false
out_of_list x y nodes present at gone =
    none-same x y nodes (λ n e.
    let block : x.block ≡ y.block = ap (λ (z : Name). z.block) e in
    let generation : x.generation ≡ y.generation = ap (λ (z : Name). z.generation) e in
    both_ways _ gone (eq-eqb y.generation (present y.block) (sym generation ∙ at ∙ ap present block)))

-- one node more is owed
pub owes-more : (f : ℕ → ℕ → Role) (b i : ℕ) (nodes : List ℕ) (node d : ℕ) → i < length nodes → node ≡ get_or nodes i d →
    set_at (λ k n. if k == b && list_any (λ m. m == n) (take i nodes) then OwesStart else f k n) b node OwesStart
    ≡ (λ k n. if k == b && list_any (λ m. m == n) (take (i + 1) nodes) then OwesStart else f k n)
owes-more f b i nodes node d within reads =
    let before : ℕ → Bool = λ n. list_any (λ m. m == n) (take i nodes) in
    let after : ℕ → Bool = λ n. list_any (λ m. m == n) (take (i + 1) nodes) in
    let more : (n : ℕ) → (before n || n == node) ≡ after n =
    λ n.
    ap (λ t. before n || t) (eqb-sym n node)
    ∙ ap (λ k. before n || k == n) reads
    ∙ sym (list_any_more (λ m. m == n) nodes i d within) in
    λ t k n. in_row (k == b) (n == node) (before n) (after n) OwesStart (f k n) (more n) t

-- an awaited child is a node of the tree that no hand's view has
module _ (d : StateLists) (h : ℕ) (v : ViewLists) (p : Place) (nodes : List ℕ) (has : HasView d h v)
    (needs : may_await (machine d) h p nodes ≡ true) where
  pub leaves : may_leave_node ((machine d).view h) (name_at (machine d) p) ≡ true
  leaves =
      let s = machine d in
      let parts = and_parts (is_place s p) _ needs in
      (and_parts (may_leave_node (s.view h) (name_at s p)) _ parts.1).0

  lists : (are_different nodes && list_all (may_be_awaited (machine d) (name_at (machine d) p)) nodes) ≡ true
  lists =
      let s = machine d in
      let parts = and_parts (is_place s p) _ needs in
      let more = and_parts (may_leave_node (s.view h) (name_at s p)) _ parts.1 in
      (and_parts (nat_le 1 (length nodes)) _ more.1).1

  pub awaited : list_all (may_be_awaited (machine d) (name_at (machine d) p)) nodes ≡ true
  awaited = (and_parts (are_different nodes) _ lists).1

  pub different : are_different nodes ≡ true
  different = (and_parts (are_different nodes) _ lists).0

  pub held : role_in v p.block p.node ≡ Holds
  held = holder-from d h v p.block p.node has.view_is (and_parts (nat_le 1 (((machine d).view h).holds (name_at (machine d) p))) _ leaves).0

  pub child-within : (n : ℕ) → may_be_awaited (machine d) (name_at (machine d) p) n ≡ true → n < size (machine d)
  child-within n test =
      let child = and_parts (is_child d.tree p.node n) _ test in
      let up = parent_within d.tree n p.node has.state.sound.tree (child-parent d.tree p.node n child.0) in
      omega (arith, up.0, up.1)

  child-nothing : (n : ℕ) → may_be_awaited (machine d) (name_at (machine d) p) n ≡ true →
      role_in v p.block n ≡ Nothing
  child-nothing n test =
      let s = machine d in
      let x = name_at s p in
      let y = beside x n in
      let sound = has.state.sound in
      let parts = and_parts (is_child d.tree p.node n) (is_idle (control_at s y)) test in
      let idle : control_at s y ≡ Idle = idle-word (control_at s y) parts.1 in
      let fits = Fits-along refl refl refl refl refl refl (sym idle) (sound.owned.names y) in
      let word : pending (control_at s x) ≡ 0 =
      ap pending (held-by s h x sound has.hand (leave-needs (s.view h) x leaves).holds).word in
      let light : weight s y ≤ pending (control_at s x) =
      weight-most s x n sound (child-within n test) parts.0 in
      let no_start : stand s (λ u. u.starts) y ≡ 0 = omega (arith, light, word) in
      let no_hold : stand s (λ u. u.holds) y ≡ 0 = fits.held in
      let no_report : stand s (λ u. u.reports) y ≤ 0 = fits.report in
      let no_finish : stand s (λ u. u.finished) y ≡ 0 = fits.finish in
      nothing-from d h v p.block n has.view_is
      (omega (arith, stand-at s (λ u. u.holds) h y has.hand, no_hold))
      (omega (arith, stand-at s (λ u. u.starts) h y has.hand, no_start))
      (omega (arith, stand-at s (λ u. u.reports) h y has.hand, no_report))
      (omega (arith, stand-at s (λ u. u.finished) h y has.hand, no_finish))

  -- so few children are named
  pub few : length nodes ≤ size (machine d)
  few =
      let s = machine d in
      let test : ℕ → Bool = may_be_awaited s (name_at s p) in
      let all = count-different nodes (size s) test child-within different awaited in
      let most : total (λ n. one (list_any (λ m. m == n) nodes)) (size s) ≤ total (λ n. 1) (size s) =
      total-most (λ n. one (list_any (λ m. m == n) nodes)) (λ n. 1) (size s) (λ i l. one-most (list_any (λ m. m == i) nodes)) in
      omega (arith, all, most, total-ones (size s))

  -- what the view has of the place and its children, after both writes
  owed-means : (first new : ViewLists) → SetsRole v first p.block p.node Nothing →
      OwesStarts first new p.block nodes →
      view_of (generations d.words) new
      ≡ record (view_of (generations d.words) first) {
        starts = gain_each (name_at (machine d) p) nodes (view_of (generations d.words) first).starts;
      }
  owed-means first new set_held set_owed =
      let s = machine d in
      let x = name_at s p in
      let present = generations d.words in
      let cell : ℕ → ℕ → Role = λ k n. if k == p.block && list_any (λ m. m == n) nodes then OwesStart else role_in first k n in
      let any : Name → Bool = λ y. list_any (λ n. same (beside x n) y) nodes in
      let count : (Role → Bool) → Role → ℕ = λ test r. one (test r) in
      let nothing : (y : Name) → any y ≡ true → role_in first y.block y.node ≡ Nothing =
      λ y in_list.
      let found = any-passes x y (may_be_awaited s x) nodes in_list awaited in
      let none = stays-nothing v first p.block p.node p.block found.0 set_held (child-nothing found.0 found.2) in
      ap (λ (z : Name). role_in first z.block z.node) (sym found.1) ∙ none in
      let hit : (y : Name) → (y.generation == present y.block) ≡ true →
      (y.block == p.block && list_any (λ m. m == y.node) nodes) ≡ any y =
      λ y now. in_list x y nodes present refl now in
      let off : (y : Name) → (y.generation == present y.block) ≡ false → any y ≡ false =
      λ y gone. out_of_list x y nodes present refl gone in
      let same_count : (test : Role → Bool) → test OwesStart ≡ false → test Nothing ≡ false → (y : Name) →
      said_of present 0 (λ k n. one (test (cell k n))) y
      ≡ said_of present 0 (λ k n. one (test (role_in first k n))) y =
      λ test owes none y.
      either (y.generation == present y.block)
      (λ now.
      ap (λ (r : ℕ). cond (y.generation == present y.block) r 0)
      (ap (λ t. one (test (cond t OwesStart (role_in first y.block y.node)))) (hit y now)
      ∙ either (any y)
      (λ in_list.
      ap (λ t. one (test (cond t OwesStart (role_in first y.block y.node)))) in_list
      ∙ ap one owes ∙ sym (ap one none) ∙ sym (ap (λ r. one (test r)) (nothing y in_list)))
      (λ out. ap (λ t. one (test (cond t OwesStart (role_in first y.block y.node)))) out)))
      (λ gone. cond-false _ _ 0 gone ∙ sym (cond-false _ _ 0 gone)) in
      let more : (y : Name) → said_of present 0 (λ k n. one (is_starter (cell k n))) y
      ≡ gain_each x nodes (view_of present first).starts y =
      λ y.
      either (y.generation == present y.block)
      (λ now.
      let old : (view_of present first).starts y ≡ one (is_starter (role_in first y.block y.node)) =
      cond-true (y.generation == present y.block) _ 0 now in
      let read : said_of present 0 (λ k n. one (is_starter (cell k n))) y
      ≡ one (is_starter (cond (any y) OwesStart (role_in first y.block y.node))) =
      cond-true (y.generation == present y.block) _ 0 now
      ∙ ap (λ t. one (is_starter (cond t OwesStart (role_in first y.block y.node)))) (hit y now) in
      either (any y)
      (λ in_list.
      let none : one (is_starter (role_in first y.block y.node)) ≡ 0 = ap (λ r. one (is_starter r)) (nothing y in_list) in
      let here : one (is_starter (cond (any y) OwesStart (role_in first y.block y.node))) ≡ 1 =
      ap (λ t. one (is_starter (cond t OwesStart (role_in first y.block y.node)))) in_list in
      omega (arith, old, read, none, here, one-true in_list))
      (λ out.
      let here : one (is_starter (cond (any y) OwesStart (role_in first y.block y.node)))
      ≡ one (is_starter (role_in first y.block y.node)) =
      ap (λ t. one (is_starter (cond t OwesStart (role_in first y.block y.node)))) out in
      omega (arith, old, read, here, one-false out)))
      (λ gone.
      let old : (view_of present first).starts y ≡ 0 = cond-false (y.generation == present y.block) _ 0 gone in
      let read : said_of present 0 (λ k n. one (is_starter (cell k n))) y ≡ 0 =
      cond-false (y.generation == present y.block) _ 0 gone in
      omega (arith, old, read, one-false (off y gone))) in
      let part : (Role → Bool) → (ℕ → ℕ → Role) → Name → ℕ = λ test f. said_of present 0 (λ k n. one (test (f k n))) in
      let eh : part is_holder (role_in new) ≡ part is_holder (role_in first) =
      ap (part is_holder) set_owed.cell ∙ (λ t y. same_count is_holder refl refl y t) in
      let es : part is_starter (role_in new) ≡ gain_each x nodes (view_of present first).starts =
      ap (part is_starter) set_owed.cell ∙ (λ t y. more y t) in
      let er : part is_reporter (role_in new) ≡ part is_reporter (role_in first) =
      ap (part is_reporter) set_owed.cell ∙ (λ t y. same_count is_reporter refl refl y t) in
      let ef : part is_finisher (role_in new) ≡ part is_finisher (role_in first) =
      ap (part is_finisher) set_owed.cell ∙ (λ t y. same_count is_finisher refl refl y t) in
      λ t. record (view_of present (set_owed.rest t)) { holds = eh t; starts = es t; reports = er t; finished = ef t }

  pub await-means : (w : WordLists) (first new : ViewLists) →
      SetsControl d.words w p.block p.node (Busy (length nodes)) → SetsRole v first p.block p.node Nothing →
      OwesStarts first new p.block nodes → Means (after_put d w h new) (after_await (machine d) h p nodes)
  await-means w first new set_word set_held set_owed =
      let s = machine d in
      let x = name_at s p in
      let left : View → View = λ u. role_changed Holds Nothing x u in
      let owed : View → View = λ u. record u { starts = gain_each x nodes u.starts } in
      let cells = role-cells v first p.block p.node Nothing set_held in
      let view : view_of (generations d.words) new ≡ owed (left (s.view h)) =
      owed-means first new set_held set_owed
      ∙ ap owed (role-means (generations d.words) v first p.block p.node Holds Nothing held set_held
      ∙ ap left (sym (view-is d h v has.view_is))) in
      put-means d w h v new _ (owed (left (s.view h))) has (control-blocks d.words w p.block p.node _ set_word)
      (record {
        blocks = ap (λ (u : ViewLists). u.blocks) set_owed.rest ∙ cells.blocks;
        nodes = ap (λ (u : ViewLists). u.nodes) set_owed.rest ∙ cells.nodes;
      })
      (means-control d w p.block p.node (Busy (length nodes)) set_word) view
