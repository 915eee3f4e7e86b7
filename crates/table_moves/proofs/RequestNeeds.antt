-- What a hand needs to request a stop gives what the pure machine's request needs.
use Rattle.std.proofs.Common.{◌≡◌, inl, inr, zero, suc, ℕ, ◌+◌, ◌≤◌, Bool, true, false, not, ◌&&◌, ◌||◌, length, refl, sym, ap, ◌∙◌, subst, arith}
use Rattle.std.specs.Prelude.{nat_le}
use Rattle.std.specs.Option.{option_map_or}
use Rattle.std.proofs.lemmas.Bool.{and_parts, and_from, or_left, or_right, le-leb, eq-eqb}
use Rattle.common_lemmas.specs.Sums.{one}
use Rattle.common_lemmas.proofs.Bool.{either, one-is}
use Rattle.node_tree.specs.Tree.{Nearest, TheScope, TheNode, Nowhere, is_child, is_root, nearest}
use Rattle.life_rules.specs.declared.event.Name.{Name}
use Rattle.life_rules.specs.declared.event.SourceAt.TheVariants.{Scope as AtScope}
use Rattle.life_rules.specs.declared.event.SourceRef.TheVariants.{Scope, Node}
use Rattle.life_rules.specs.declared.words.ControlWord.{ControlWord}
use Rattle.life_rules.specs.declared.words.ControlWord.TheVariants.{Idle, Busy, ReadyLoop, ReadyPool, Parked, Done}
use Rattle.life_rules.specs.Words.{is_idle, is_done}
use Rattle.life_rules.specs.Views.{View as PureView, beside}
use Rattle.life_rules.specs.States.{State, is_live, control_at, source_for, nearest_of}
use Rattle.life_rules.specs.StopSteps.{some_below, owes_report_below, has_begun_below, has_seen_nearest, may_forward, has, is_live_for, may_request_first, may_repeat}
use Rattle.life_rules.proofs.Readings.{lives, begun-live}
use Rattle.life_kept.proofs.Trees.{child-within}
use Rattle.table_rules.specs.declared.cargo.Cargo.{Ghosts}
use Rattle.table_rules.specs.declared.frame.Frame.{Frame}
use Rattle.table_rules.specs.declared.view.Held.{Held}
use Rattle.table_rules.specs.declared.view.Owed.{Owed}
use Rattle.table_rules.specs.declared.view.Reported.{Reported}
use Rattle.table_rules.specs.Named.{count_by}
use Rattle.table_rules.specs.ShownWords.{block_of}
use Rattle.table_rules.specs.ShownViews.{shown_view, has_source_ref}
use Rattle.table_rules.specs.Scenes.{shown}
use Rattle.table_steps.specs.Sights.{HasPartIn, ByNode, ByStart, ByReport, ByRun, ByRoot}
use Rattle.table_steps.specs.Requests.{OwesFailed, HoldsAsked, MayForward, MayAskScope, HasAsked}
use Rattle.table_kept.proofs.Standing.{Standing}
use Rattle.table_kept.proofs.Entries.{found}
use Rattle.table_kept.proofs.Among.{among}
use Rattle.table_kept.proofs.HeldNow.{Holding, held, holds-now, idle-known}
use Rattle.table_kept.proofs.SeenStands.{beside-present}
use Rattle.table_kept.proofs.ViewMoves.{view-here}
use Rattle.table_stop_kept.proofs.Run.Live.{run-live}
use Rattle.table_stop_kept.proofs.Scan.Skip.{some_below-from}

none-below : (test : ℕ → Bool) (n : ℕ) → ((k : ℕ) → test k ≡ false) → some_below test n ≡ false
none-below test zero all = refl
none-below test (suc n) all = λ i. none-below test n all i || all n i

done-begun : (w : ControlWord) → is_done w ≡ true → is_idle w ≡ false
done-begun Idle d = cc
done-begun (Busy n) d = refl
done-begun ReadyLoop d = refl
done-begun ReadyPool d = refl
done-begun Parked d = refl
done-begun Done d = refl

module _ {P E O : Type 0} (cargo : Ghosts P E O) (f : Frame O) (hand : Standing cargo f) where
  open hand use {state as s, id, view as v, running as r, at}

  abbrev now : State
  now = shown f s

  abbrev mine : PureView
  mine = now.view id

  is-shown : mine ≡ shown_view (block_of f.layout s.words) v
  is-shown = view-here (block_of f.layout s.words) s.views id v at

  -- hand 0 asks of the scope
  pub asks-scope : MayAskScope f v → may_request_first now id AtScope false ≡ true
  asks-scope may =
      and_from _ _ (eq-eqb id 0 (sym (r.stands.views.number id v at) ∙ may.number)) may.counting

  -- the hand owes the report of a child
  pub owes-report : (x : Name) → OwesFailed cargo f.tree v x → owes_report_below now mine x ≡ true
  owes-report x may =
      let y = beside x may.child in
      let counts = (found (λ (e : Reported P E). e.name) v.reported y may.entry may.owes).counts in
      let owed : 1 ≤ mine.reports y = subst (λ (u : PureView). 1 ≤ u.reports y) (sym is-shown) counts in
      some_below-from (λ n. is_child f.tree x.node n && nat_le 1 (mine.reports (beside x n))) (length f.tree) may.child
      (child-within f.tree x.node may.child may.is_below) (and_from _ _ may.is_below (le-leb 1 (mine.reports y) owed))

  -- none of the children has begun of a node that never awaited any
  module _ (x : Name) (holds : HoldsAsked f.tree v x) where
    abbrev holding : Holding hand
    holding = record { name = x; entry = holds.held; holds = holds.holds }

    begun-none : (n : ℕ) → (is_child f.tree x.node n && not (is_idle (control_at now (beside x n)))) ≡ false
    begun-none n =
        either (is_child f.tree x.node n)
        (λ child.
        let idle = idle-known cargo f hand holding n child (or_left _ _ (eq-eqb holds.held.named 0 holds.before)) in
        λ i. child i && not (idle i))
        (λ apart. λ i. apart i && not (is_idle (control_at now (beside x n))))

    seen-near : (k : Nearest) → option_map_or (has_source_ref v.seen) (source_for x k) false ≡ true →
        option_map_or (shown_view (block_of f.layout s.words) v).seen (source_for x k) false ≡ true
    seen-near TheScope h = and_from _ _ h refl
    seen-near (TheNode p) h = and_from _ _ h (beside-present cargo f hand x (held cargo f hand holding).live p)
    seen-near Nowhere h = cc

    holds-asked : (nat_le 1 (mine.holds x) && (not (has_begun_below now x) && has_seen_nearest now mine x)) ≡ true
    holds-asked =
        and_from _ _ (le-leb 1 (mine.holds x) (holds-now cargo f hand holding))
        (and_from _ _
        (ap not (none-below (λ n. is_child f.tree x.node n && not (is_idle (control_at now (beside x n)))) (length f.tree) begun-none))
        (subst (λ (u : PureView). option_map_or u.seen (nearest_of now x) false ≡ true) (sym is-shown)
        (seen-near (nearest f.tree x.node) holds.seen)))

  -- the hand passes a request on
  pub forwards : (x : Name) → MayForward f.tree v x → may_forward now mine x ≡ true
  forwards x may =
      elim may [
        | inl runs ↦
            or_left (nat_le 1 (mine.runs x)) _
            (le-leb 1 (mine.runs x) (subst (λ (u : PureView). 1 ≤ u.runs x) (sym is-shown) runs))
        | inr holds ↦ or_right (nat_le 1 (mine.runs x)) _ (holds-asked x holds)
      ]

  -- what the hand has a part in is live
  start-live : (y : Name) → 1 ≤ count_by (λ e. e.name) v.owed y → is_live now y ≡ true
  start-live y c =
      let most = (among f s id v r.sized.seats at).owed y in
      let fit = (r.stands.sound.owned.names y).start in
      (and_parts (is_live now y) (is_idle (control_at now y)) (one-is (omega (arith, c, most, fit)))).0

  done-live : (y : Name) (b : Bool) → 1 ≤ one (is_done (control_at now y) && b) → is_live now y ≡ true
  done-live y b some_one =
      begun-live now y (done-begun (control_at now y) (and_parts (is_done (control_at now y)) b (one-is some_one)).0)

  report-live : (y : Name) → 1 ≤ count_by (λ e. e.name) v.reported y → is_live now y ≡ true
  report-live y c =
      let most = (among f s id v r.sized.seats at).reported y in
      let fit = (r.stands.sound.owned.names y).report in
      done-live y (not (is_root f.tree y.node)) (omega (arith, c, most, fit))

  root-live : (y : Name) → 1 ≤ count_by (λ e. e) v.finished y → is_live now y ≡ true
  root-live y c =
      let most = (among f s id v r.sized.seats at).finished y in
      let fit = (r.stands.sound.owned.names y).finish in
      done-live y (is_root f.tree y.node) (omega (arith, c, most, fit))

  -- the hand has a part in the operation
  module _ (x : Name) where
    at-node : (n : ℕ) → is_live now (beside x n) ≡ true →
        (let w = shown_view (block_of f.layout s.words) v in let y = beside x n in
        1 ≤ w.holds y + w.starts y + w.reports y + w.finished y + w.runs y) →
        is_live_for now mine (Node x) ≡ true
    at-node n live counts =
        some_below-from (λ m. has mine (beside x m)) (length f.tree) n (lives now (beside x n) live).node
        (subst (λ (u : PureView). has u (beside x n) ≡ true) (sym is-shown) (le-leb 1 _ counts))

    live-by : HasPartIn v x → is_live_for now mine (Node x) ≡ true
    live-by (ByNode n e is) =
        let c = (found (λ (e : Held E). e.name) v.held (beside x n) e is).counts in
        let holding : Holding hand = record { name = beside x n; entry = e; holds = is } in
        at-node n (held cargo f hand holding).live (omega (arith, c))
    live-by (ByStart n e is) =
        let c = (found (λ (e : Owed E). e.name) v.owed (beside x n) e is).counts in
        at-node n (start-live (beside x n) c) (omega (arith, c))
    live-by (ByReport n e is) =
        let c = (found (λ (e : Reported P E). e.name) v.reported (beside x n) e is).counts in
        at-node n (report-live (beside x n) c) (omega (arith, c))
    live-by (ByRun n c) = at-node n (run-live cargo f hand (beside x n) c) (omega (arith, c))
    live-by (ByRoot n c) = at-node n (root-live (beside x n) c) (omega (arith, c))

  -- the hand has seen the request, on a source that can't go away under it
  pub repeats-scope : HasAsked v Scope → may_repeat now mine Scope false ≡ true
  repeats-scope again =
      and_from _ _ (subst (λ (u : PureView). u.seen Scope ≡ true) (sym is-shown) (and_from _ _ again.0 refl)) refl

  pub repeats : (x : Name) → is_live now x ≡ true → HasAsked v (Node x) → may_repeat now mine (Node x) false ≡ true
  repeats x live again =
      and_from _ _
      (subst (λ (u : PureView). u.seen (Node x) ≡ true) (sym is-shown)
      (and_from _ _ again.0 (beside-present cargo f hand x live x.node)))
      (live-by x again.1)
