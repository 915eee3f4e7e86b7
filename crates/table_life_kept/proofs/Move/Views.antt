-- What the hands know is kept by a step on the control word of a node under way.
use Rattle.std.proofs.Common.{◌≡◌, ◌⊎◌, ℕ, ◌-◌, ◌≤◌, true, false, not, List, [], Option, Some, None, refl, sym, ap, ◌∙◌, subst, ⊎_elim, arith}
use Rattle.std.specs.Prelude.{MatchOption}
use Rattle.std.proofs.lemmas.Bool.{and_parts, both_ways}
use Rattle.life_rules.specs.declared.event.Name.{Name}
use Rattle.node_tree.specs.Tree.{is_root, is_child, parent_of}
use Rattle.life_rules.specs.Words.{is_idle, is_done, is_held, pending}
use Rattle.life_rules.specs.Views.{beside, lose}
use Rattle.life_rules.specs.States.{State, control_at, stand}
use Rattle.life_rules.specs.Owned.{weight}
use Rattle.common_lemmas.proofs.Bool.{one-is, one-most}
use Rattle.life_kept.proofs.Trees.{parent-child, child-within}
use Rattle.life_rules.proofs.Names.{by_name, lose-here}
use Rattle.life_kept.proofs.Fitting.{under_way-parts}
use Rattle.life_kept.proofs.Holding.{weight-most}
use Rattle.table_rules.specs.declared.view.View.{View}
use Rattle.table_rules.specs.declared.view.Held.{Held}
use Rattle.table_rules.specs.declared.view.Owed.{Owed}
use Rattle.table_rules.specs.declared.view.Reported.{Reported}
use Rattle.table_rules.specs.declared.view.Rooted.{Rooted}
use Rattle.table_rules.specs.Named.{count_by, without, Each}
use Rattle.table_rules.specs.Scenes.{Scene}
use Rattle.table_rules.specs.Notes.{IsHeldSo, IsOwedSo, IsReportedSo, IsRootedSo, IsKnown}
use Rattle.table_life_kept.proofs.Move.Seats.{Move}
use Rattle.table_kept.proofs.Entries.{each-map, each-by, each-without, count-without}
use Rattle.table_kept.proofs.Among.{IsAmong}
use Rattle.table_life_kept.proofs.Move.State as moving

module _ {P E : Type 0} (s : Scene P E) (task : Move s) where
  open task use {hand as h, name as x, word as w, view as u, put as p, home, past, moves as mv}

  abbrev base : State
  base = s.state

  abbrev put_state : State
  put_state = moving.put_state s h x w u p home past

  abbrev moved : Scene P E
  moved = moving.moved s h x w u p home past

  word-other : (y : Name) → (x ≡ y → ⊥) → control_at put_state y ≡ control_at base y
  word-other = moving.word-other s h x w u p home past mv

  -- the lot of the node is what it was, or nobody owes a child of it
  abbrev pub KeepsLot : Type 0
  KeepsLot = (past.lot x ≡ s.past.lot x) ⊎ (pending (control_at base x) ≡ 0)

  module _ (start : (y : Name) → past.start y ≡ s.past.start y) (lot : (y : Name) → (x ≡ y → ⊥) → past.lot y ≡ s.past.lot y) (delivered : (y : Name) → (x ≡ y → ⊥) → past.delivered y ≡ s.past.delivered y) (keeps_lot : KeepsLot) where
    -- a node that had begun has begun
    begun-still : (y : Name) → is_idle (control_at base y) ≡ false → is_idle (control_at put_state y) ≡ false
    begun-still y begun =
        by_name x y
        (λ e. subst (λ z. is_idle (control_at put_state z) ≡ false) e
        (ap is_idle (moving.word-here s h x w u p home past mv) ∙ mv.begun))
        (λ ne. ap is_idle (word-other y ne) ∙ begun)

    -- one that hadn't, and isn't this one, hasn't
    idle-still : (y : Name) → is_idle (control_at base y) ≡ true → is_idle (control_at put_state y) ≡ true
    idle-still y idle =
        by_name x y
        (λ e. absurd (both_ways (is_idle (control_at base x)) (under_way-parts (control_at base x) mv.under_way).0
        (subst (λ z. is_idle (control_at base z) ≡ true) (sym e) idle)))
        (λ ne. ap is_idle (word-other y ne) ∙ idle)

    pub held-moved : (e : Held E) → (x ≡ e.name → ⊥) → IsHeldSo s e → IsHeldSo moved e
    held-moved e ne was =
        record {
          start = was.start ∙ sym (start e.name);
          named = was.named ∙ sym (mv.named_other e.name ne);
          told = was.told;
          told_children = was.told_children;
          lot = subst (λ l. MatchOption e.lot (Unit {0}) (λ own. own ≡ l)) (sym (lot e.name ne)) was.lot;
          phase = was.phase;
          idle = each-map _ _ (λ n i. (i.0, idle-still (beside e.name n) i.1)) e.idle was.idle;
        }

    owed-moved : (e : Owed E) → 1 ≤ stand base (λ v. v.starts) e.name → IsOwedSo s e → IsOwedSo moved e
    owed-moved e owed was = by_parent (parent_of base.tree e.name.node) refl was
      where
        lot-same : (q : ℕ) → is_child base.tree q e.name.node ≡ true → past.lot (beside e.name q) ≡ s.past.lot (beside e.name q)
        lot-same q child =
            by_name x (beside e.name q)
            (λ same_name.
            ⊎_elim (λ (kept : past.lot x ≡ s.past.lot x). subst (λ z. past.lot z ≡ s.past.lot z) same_name kept)
            (λ (none : pending (control_at base x) ≡ 0).
            let most : weight base e.name ≤ pending (control_at base (beside e.name q)) =
            weight-most base (beside e.name q) e.name.node p.sound (child-within base.tree q e.name.node child) child in
            let zero_of : pending (control_at base (beside e.name q)) ≡ 0 = subst (λ z. pending (control_at base z) ≡ 0) same_name none in
            absurd (omega (arith, owed, most, zero_of))) keeps_lot)
            (λ ne. lot (beside e.name q) ne)

        by_parent : (o : Option ℕ) → parent_of base.tree e.name.node ≡ o →
            MatchOption o ((e.above ≡ []) × (e.lot ≡ []))
            (λ q. (e.above ≡ s.past.start (beside e.name q)) × (e.lot ≡ s.past.lot (beside e.name q))) →
            MatchOption o ((e.above ≡ []) × (e.lot ≡ []))
            (λ q. (e.above ≡ past.start (beside e.name q)) × (e.lot ≡ past.lot (beside e.name q)))
        by_parent None is so = so
        by_parent (Some q) is so = (
          so.0 ∙ sym (start (beside e.name q)),
          so.1 ∙ sym (lot-same q (parent-child base.tree q e.name.node is)),
        )

    reported-moved : (e : Reported P E) → 1 ≤ stand base (λ v. v.reports) e.name → IsReportedSo s e → IsReportedSo moved e
    reported-moved e owed was =
        let ne : x ≡ e.name → ⊥ =
        λ is.
        let most = (p.sound.owned.names e.name).report in
        let done = (and_parts (is_done (control_at base e.name)) (not (is_root base.tree e.name.node)) (one-is (omega (arith, owed, most)))).0 in
        both_ways (is_done (control_at base e.name))
        (subst (λ z. is_done (control_at base z) ≡ false) is (under_way-parts (control_at base x) mv.under_way).1) done in
        (was.0 ∙ sym (start e.name), delivered e.name ne ∙ was.1)

    rooted-moved : (e : Rooted E) → IsRootedSo s e → IsRootedSo moved e
    rooted-moved e was = (
      was.0,
      (λ present. let so = was.1 present in (begun-still e.name so.0, start e.name ∙ so.1)),
    )

    -- what a hand knows beside the nodes that it holds
    pub known-beside : (v : View P E) → IsAmong base v → IsKnown s v → (held : List (Held E)) → Each (IsHeldSo moved) held →
        IsKnown moved (record v { held = held })
    known-beside v among was held so =
        record {
          held = so;
          owed = each-by (λ e. e.name) (IsOwedSo s) (IsOwedSo moved) (stand base (λ v. v.starts)) owed-moved v.owed among.owed was.owed;
          reported = each-by (λ e. e.name) (IsReportedSo s) (IsReportedSo moved) (stand base (λ v. v.reports)) reported-moved v.reported
              among.reported was.reported;
          noted = each-map _ _ rooted-moved v.noted was.noted;
          unlooked = was.unlooked;
          seen_after = was.seen_after;
          seen = was.seen;
        }

    -- a hand that doesn't hold the node knows what it knew
    pub known-moved : (v : View P E) → IsAmong base v → count_by (λ e. e.name) v.held x ≡ 0 → IsKnown s v → IsKnown moved v
    known-moved v among none was =
        known-beside v among was v.held
        (each-by (λ e. e.name) (IsHeldSo s) (IsHeldSo moved) (count_by (λ e. e.name) v.held)
        (λ e counts so. held-moved e (λ is. absurd (let z : count_by (λ e. e.name) v.held e.name ≡ 0 =
        ap (count_by (λ e. e.name) v.held) (sym is) ∙ none in omega (arith, counts, z))) so)
        v.held (λ y. omega arith) was.held)

    -- and what the hand that made the step knows of other nodes that it holds
    pub others-held : (v : View P E) → IsAmong base v → IsKnown s v → Each (IsHeldSo moved) (without (λ e. e.name) v.held x)
    others-held v among was =
        let count = count_by (λ (e : Held E). e.name) v.held in
        each-by (λ e. e.name) (IsHeldSo s) (IsHeldSo moved) (lose x count)
        (λ e counts so. held-moved e (λ is. absurd
        (let fit = (p.sound.owned.names x).held in
        let most = among.held x in
        let own : lose x count e.name ≡ count x - 1 = ap (lose x count) (sym is) ∙ lose-here x count in
        let single = one-most (is_held (control_at base x)) in
        omega (arith, counts, own, fit, most, single))) so)
        (without (λ e. e.name) v.held x)
        (λ y. let c = count-without (λ (e : Held E). e.name) v.held x y in omega (arith, c))
        (each-without (IsHeldSo s) (λ e. e.name) v.held x was.held)
