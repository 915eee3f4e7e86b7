-- A begin keeps what the hands know.
use Rattle.std.proofs.Common.{◌≡◌, ℕ, ◌≤◌, Bool, true, false, not, ◌&&◌, List, [], length, Option, Some, None, refl, sym, ap, ◌∙◌, subst, arith}
use Rattle.std.specs.Prelude.{MatchOption}
use Rattle.std.proofs.lemmas.Bool.{cond-true, cond-false}
use Rattle.life_rules.specs.declared.words.BlockWord.{BlockWord}
use Rattle.life_rules.specs.declared.event.Name.{Name}
use Rattle.node_tree.specs.declared.node.TreeNode.{TreeNode}
use Rattle.node_tree.specs.Tree.{is_root, is_child, parent_of}
use Rattle.life_rules.specs.Words.{is_idle, is_done, pending}
use Rattle.common_lemmas.specs.Sums.{one}
use Rattle.life_rules.specs.Views.{same, beside}
use Rattle.life_rules.specs.States.{State, control_at, stand}
use Rattle.life_rules.specs.Callbacks.{nearest_is_requested}
use Rattle.common_lemmas.proofs.Bool.{either}
use Rattle.life_rules.proofs.Names.{same-refl, same-true}
use Rattle.life_rules.proofs.Readings.{lives}
use Rattle.life_kept.proofs.Trees.{parent-child}
use Rattle.life_kept.proofs.Fitting.{held-word}
use Rattle.table_rules.specs.declared.view.View.{View}
use Rattle.table_rules.specs.declared.view.Held.{Held}
use Rattle.table_rules.specs.declared.view.Owed.{Owed}
use Rattle.table_rules.specs.declared.view.Reported.{Reported}
use Rattle.table_rules.specs.declared.view.Rooted.{Rooted}
use Rattle.table_rules.specs.Named.{Each}
use Rattle.table_rules.specs.ShownViews.{shown_view}
use Rattle.table_rules.specs.Scenes.{Scene}
use Rattle.table_rules.specs.Homes.{HomesStand}
use Rattle.table_rules.specs.Notes.{IsHeldSo, IsOwedSo, IsReportedSo, IsRootedSo, IsKnown, children_are_requested}
use Rattle.table_steps.specs.Slots.{kids_of}
use Rattle.table_steps.specs.Begins.{begins, notes_start}
use Rattle.table_kept.proofs.Entries.{each-map, count-without, each-without, each-by}
use Rattle.table_kept.proofs.Among.{IsAmong}
use Rattle.table_life_kept.proofs.Begin.State.{MayBegin, beginning, x-live, x-idle, kid-idle, kid-weightless, word-here, word-other}
use Rattle.table_life_kept.proofs.Begin.Homes.{begun_scene}
use Rattle.table_kept.proofs.BeginSeats.{kids-are}
use Rattle.table_life_kept.proofs.Begin.Items.{begun-other, start-other, start-here}

-- what is shown of the hand that began the node
pub begins-shown : {P E : Type 0} (blocks : ℕ → BlockWord) (tree : List TreeNode) (x : Name) (start : List E) (told kids : Bool) (v : View P E) →
    shown_view blocks (begins tree x start told kids v) ≡ beginning x (shown_view blocks v)
begins-shown blocks tree x start told kids v =
    λ k. record (beginning x (shown_view blocks v)) { starts = λ y. count-without (λ e. e.name) v.owed x y k }

module _ {P E : Type 0} (s : Scene P E) (h : ℕ) (x : Name) (may : MayBegin s.state h x) (homes : HomesStand s) (start : List E) where
  abbrev old : State
  old = s.state

  abbrev now : Scene P E
  now = begun_scene s h x may homes start

  held-busy : (y : Name) → 1 ≤ stand old (λ v. v.holds) y → pending (control_at old y) ≡ 0
  held-busy y m =
      let is = (may.sound.owned.names y).held in
      ap pending (held-word (control_at old y) (Rattle.common_lemmas.proofs.Bool.one-is (omega (arith, m, is))))

  not-held : (y : Name) → 1 ≤ stand old (λ v. v.holds) y → x ≡ y → ⊥
  not-held y m e =
      let is = (may.sound.owned.names y).held in
      let none : one (Rattle.life_rules.specs.Words.is_held (control_at old y)) ≡ 0 =
      ap (λ z. one (Rattle.life_rules.specs.Words.is_held (control_at old z))) (sym e)
      ∙ ap (λ c. one (Rattle.life_rules.specs.Words.is_held c)) (x-idle old h x may) in
      absurd (omega (arith, m, is, none))

  -- a node whose start is owed is no child of a node that a hand holds
  not-below : (y : Name) (n : ℕ) → 1 ≤ stand old (λ v. v.holds) y → is_child old.tree y.node n ≡ true →
      x ≡ beside y n → ⊥
  not-below y n m child e =
      let most = Rattle.life_kept.proofs.Holding.weight-most old y n may.sound
      (Rattle.life_kept.proofs.Trees.child-within old.tree y.node n child) child in
      let none = held-busy y m in
      let all = Rattle.life_rules.proofs.Readings.stand-at old (λ v. v.starts) h x may.below in
      let owes = may.owes in
      let here : stand old (λ v. v.starts) x ≡ stand old (λ v. v.starts) (beside y n) = ap (stand old (λ v. v.starts)) e in
      absurd (omega (arith, most, none, all, owes, here))

  held-begun : (e : Held E) → 1 ≤ stand old (λ v. v.holds) e.name → IsHeldSo s e → IsHeldSo now e
  held-begun e m was =
      let ne = not-held e.name m in
      record {
        start = was.start ∙ sym (start-other s h x may homes start e.name ne);
        named = was.named ∙ sym (cond-false (same x e.name) 0 (s.past.named e.name)
            (Rattle.life_rules.proofs.Names.same-other x e.name ne));
        told = was.told;
        told_children = was.told_children;
        lot = was.lot;
        phase = was.phase;
        idle = each-map _ _ (λ n i. (
          i.0,
          ap is_idle (word-other old h x may (beside e.name n) (not-below e.name n m i.0)) ∙ i.1,
        )) e.idle was.idle;
      }

  owed-begun : (e : Owed E) → 1 ≤ stand old (λ v. v.starts) e.name → IsOwedSo s e → IsOwedSo now e
  owed-begun e m was =
      owed-by (parent_of old.tree e.name.node) refl was
    where
      owed-by : (o : Option ℕ) → parent_of old.tree e.name.node ≡ o →
          MatchOption o ((e.above ≡ []) × (e.lot ≡ []))
          (λ p. (e.above ≡ s.past.start (beside e.name p)) × (e.lot ≡ s.past.lot (beside e.name p))) →
          MatchOption o ((e.above ≡ []) × (e.lot ≡ []))
          (λ p. (e.above ≡ now.past.start (beside e.name p)) × (e.lot ≡ now.past.lot (beside e.name p)))
      owed-by None is w = w
      owed-by (Some p) is w =
          let ne : x ≡ beside e.name p → ⊥ =
          λ same_name.
          let child : is_child old.tree x.node e.name.node ≡ true =
          subst (λ q. is_child old.tree q e.name.node ≡ true) (λ k. (sym same_name k).node)
          (parent-child old.tree p e.name.node is) in
          let kid : beside x e.name.node ≡ e.name =
          λ k. record { block = (same_name k).block; generation = (same_name k).generation; node = e.name.node } in
          let none = kid-weightless old h x may e.name.node child in
          let here : stand old (λ v. v.starts) (beside x e.name.node) ≡ stand old (λ v. v.starts) e.name =
          ap (stand old (λ v. v.starts)) kid in
          absurd (omega (arith, m, none, here)) in
          (w.0 ∙ sym (start-other s h x may homes start (beside e.name p) ne), w.1)

  reported-begun : (e : Reported P E) → 1 ≤ stand old (λ v. v.reports) e.name → IsReportedSo s e → IsReportedSo now e
  reported-begun e m was =
      let ne : x ≡ e.name → ⊥ =
      λ is.
      let most = (may.sound.owned.names e.name).report in
      let none : one (is_done (control_at old e.name) && not (Rattle.node_tree.specs.Tree.is_root old.tree e.name.node)) ≡ 0 =
      ap (λ z. one (is_done (control_at old z) && not (Rattle.node_tree.specs.Tree.is_root old.tree z.node))) (sym is)
      ∙ ap (λ c. one (is_done c && not (Rattle.node_tree.specs.Tree.is_root old.tree x.node))) (x-idle old h x may) in
      absurd (omega (arith, m, most, none)) in
      (was.0 ∙ sym (start-other s h x may homes start e.name ne), was.1)

  rooted-begun : (e : Rooted E) → IsRootedSo s e → IsRootedSo now e
  rooted-begun e was = (
    was.0,
    (λ present.
        let w = was.1 present in
        let ne = begun-other s h x may homes start e.name w.0 in
        (ap is_idle (word-other old h x may e.name ne) ∙ w.0, start-other s h x may homes start e.name ne ∙ w.1)),
  )

  pub known-begun : (u : View P E) → IsAmong old u → IsKnown s u → IsKnown now u
  known-begun u among was =
      record {
        held = each-by (λ e. e.name) (IsHeldSo s) (IsHeldSo now) (stand old (λ v. v.holds)) held-begun u.held among.held was.held;
        owed = each-by (λ e. e.name) (IsOwedSo s) (IsOwedSo now) (stand old (λ v. v.starts)) owed-begun u.owed among.owed was.owed;
        reported = each-by (λ e. e.name) (IsReportedSo s) (IsReportedSo now) (stand old (λ v. v.reports)) reported-begun u.reported
            among.reported was.reported;
        noted = each-map _ _ rooted-begun u.noted was.noted;
        unlooked = was.unlooked;
        seen_after = was.seen_after;
        seen = was.seen;
      }

  -- the start that was noted of the root is so
  rooted-here : IsRootedSo now (record { name = x; start = start })
  rooted-here = (
    let l = lives old x (x-live old h x may) in let g = l.generation in omega (arith, g),
    λ present. (ap is_idle (word-here old h x may), start-here s h x may homes start),
  )

  noted-begun : (root : Bool) (noted : List (Rooted E)) → Each (IsRootedSo now) noted →
      Each (IsRootedSo now) (notes_start root x start noted)
  noted-begun true noted all = (rooted-here, all)
  noted-begun false noted all = all

  -- no child of the node has begun
  kids-idle : Each (λ n. (is_child old.tree x.node n ≡ true) × (is_idle (control_at now.state (beside x n)) ≡ true))
      (kids_of old.tree x.node)
  kids-idle =
      each-map (λ n. is_child old.tree x.node n ≡ true) _
      (λ n child.
      let ne : x ≡ beside x n → ⊥ =
      λ e.
      let none = kid-weightless old h x may n child in
      let all = Rattle.life_rules.proofs.Readings.stand-at old (λ v. v.starts) h x may.below in
      let owes = may.owes in
      let here : stand old (λ v. v.starts) x ≡ stand old (λ v. v.starts) (beside x n) = ap (stand old (λ v. v.starts)) e in
      absurd (omega (arith, none, all, owes, here)) in
      (child, ap is_idle (word-other old h x may (beside x n) ne) ∙ kid-idle old h x may n child))
      (kids_of old.tree x.node) (kids-are old.tree x.node (length old.tree))

  -- and what the hand that began the node knows of it is so
  pub mine-begun : (u : View P E) (told kids : Bool) → (told ≡ true → nearest_is_requested old x ≡ true) →
      (kids ≡ true → children_are_requested old x ≡ true) → IsAmong old u → IsKnown s u →
      IsKnown now (begins old.tree x start told kids u)
  mine-begun u told kids told_so kids_so among was =
      let k = known-begun u among was in
      record {
        held = (
          record {
            start = sym (start-here s h x may homes start);
            named = sym (cond-true (same x x) 0 (s.past.named x) (same-refl x));
            told = told_so;
            told_children = kids_so;
            lot = tt;
            phase = (may.sound.begins x (ap is_idle (x-idle old h x may))).callback;
            idle = kids-idle;
          },
          k.held,
        );
        owed = each-without (IsOwedSo now) (λ e. e.name) u.owed x k.owed;
        reported = k.reported;
        noted = noted-begun (is_root old.tree x.node) u.noted k.noted;
        unlooked = k.unlooked;
        seen_after = k.seen_after;
        seen = k.seen;
      }
