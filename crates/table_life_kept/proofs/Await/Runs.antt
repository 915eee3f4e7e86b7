-- The store by which a node awaits children keeps the rule.
use Rattle.std.proofs.Common.{◌≡◌, ℕ, ◌+◌, ◌*◌, ◌<◌, Bool, true, false, ◌&&◌, ◌||◌, ◌==◌, cond, List, length, refl, sym, ap, ◌∙◌, subst, inl, inr, arith}
use Rattle.std.specs.Prelude.{Option, Some, nat_le}
use Rattle.std.specs.List.{list_any, list_all}
use Rattle.std.proofs.lemmas.Bool.{and_parts, and_from, both_ways, cond-true, cond-false, eq-eqb, ne_eqb, false_from_ne_true, le-leb}
use Rattle.life_rules.specs.declared.words.ControlWord.{ControlWord}
use Rattle.life_rules.specs.declared.words.ControlWord.TheVariants.{Busy}
use Rattle.life_rules.specs.declared.event.Name.{Name}
use Rattle.std.specs.Option.{option_map_or}
use Rattle.node_tree.specs.Tree.{is_child, parent_of}
use Rattle.life_rules.specs.Words.{is_idle, is_done, is_held, is_under_way}
use Rattle.life_rules.specs.Views.{View as PureView, same, beside, lose, gain_each}
use Rattle.common_lemmas.specs.Sums.{one}
use Rattle.life_rules.specs.States.{State, size, control_at, stand}
use Rattle.common_lemmas.specs.Lists.{are_different}
use Rattle.life_rules.specs.LifeSteps.{may_be_awaited, may_leave_node}
use Rattle.life_rules.specs.Sound.{Sound}
use Rattle.common_lemmas.proofs.Bool.{either}
use Rattle.life_rules.proofs.Names.{same-refl, same-other}
use Rattle.common_lemmas.proofs.Totals.{total-same}
use Rattle.life_rules.proofs.Readings.{lives, is_live-from}
use Rattle.life_kept.proofs.Puts.{put, IsPut, reads-other, moves, stays}
use Rattle.life_kept.proofs.Members.{any-passes, any-beside, count-different}
use Rattle.life_kept.proofs.Trees.{child-within, child-parent}
use Rattle.life_kept.proofs.Await.{sound-await}
use Rattle.table_words.specs.Layouts.{place_number}
use Rattle.table_rules.specs.declared.cargo.Cargo.{Ghosts}
use Rattle.table_rules.specs.declared.frame.Frame.{Frame}
use Rattle.table_rules.specs.Scenes.{Home, Out, Empty, Full, is_out, is_full, Past, Scene, shown, scene}
use Rattle.table_rules.specs.Homes.{named_below, seats_of, is_waiting}
use Rattle.table_steps.specs.Slots.{slot_of, knows_idle, IsSeated}
use Rattle.table_steps.specs.Awaits.{is_named, is_unnamed, CanAwait}
use Rattle.table_kept.proofs.Standing.{Standing}
use Rattle.table_kept.proofs.LiveNames.{place_of, place-live, name-live}
use Rattle.table_kept.proofs.HeldNow.{Holding, idle-known}
use Rattle.table_kept.proofs.BeginSeats.{or-left, kid-any-number}
use Rattle.table_life_kept.proofs.ShedHomes.{not-family}
use Rattle.table_kept.proofs.Awaiting.{all-imp, all-named, unnamed-family, unnamed-kid, named-kid}
use Rattle.table_life_kept.proofs.Leaving.{ToLeave, is-held, is-below, may-leave, place-n, quiet, home, home-given, kid-given, home-still}
use Rattle.table_life_kept.proofs.Move.State.{Moves, KidMoves, moved, parent-differs, some-seat, no-seat}

-- which node awaits which children
pub record ToAwait {P E O : Type 0} {cargo : Ghosts P E O} {f : Frame O}
    (hand : Standing cargo f) : Type 0 where
  pub name : Name
  pub nodes : List ℕ
  pub carried : List (ℕ × Option P)
  pub seated : IsSeated f.tree f.layout (hand.view, carried)
  pub can : CanAwait cargo f (hand.view, carried) name nodes

module _ {P E O : Type 0} (cargo : Ghosts P E O) (f : Frame O) (hand : Standing cargo f)
    (task : ToAwait hand) where
  open hand use {state as s, id, view as v, running as r, at}
  open task use {name as x, nodes, carried as c, seated, can}

  abbrev now : State
  now = shown f s

  abbrev here : Scene P E
  here = scene f s r.past

  abbrev pub gone : ℕ → Bool
  gone = is_unnamed f.tree f.layout x nodes

  abbrev leaving : ToLeave hand
  leaving = record { name = x; carried = c; seated = seated; leave = can.leave }

  abbrev pub homes_now : ℕ → ℕ → Home P
  homes_now = home cargo f hand leaving gone

  abbrev pub w : ControlWord
  w = Busy (length nodes)

  abbrev pub u : PureView
  u = record (now.view id) { holds = lose x (now.view id).holds; starts = gain_each x nodes (now.view id).starts }

  pub is-put : IsPut now id x w u
  is-put =
      record {
        sound = r.stands.sound;
        hand = is-below cargo f hand leaving;
        live = (is-held cargo f hand leaving).live;
        views = refl;
      }

  abbrev holding : Holding hand
  holding = record { name = x; entry = can.leave.held; holds = can.leave.holds }

  -- each that is named is a child that hasn't begun
  awaitable : list_all (may_be_awaited now x) nodes ≡ true
  awaitable =
      all-imp (λ n. is_child f.tree x.node n && knows_idle can.leave.held n) (may_be_awaited now x)
      (λ n both.
      let parts = and_parts (is_child f.tree x.node n) (knows_idle can.leave.held n) both in
      and_from _ _ parts.0 (idle-known cargo f hand holding n parts.0 parts.1)) nodes can.idle

  pub sound-now : Sound (put now id x w u)
  sound-now =
      let name = name-live now x (is-held cargo f hand leaving).live in
      let of : Name → Type 0 = λ z.
      (may_leave_node (now.view id) z && (nat_le 1 (length nodes) && (are_different nodes && list_all (may_be_awaited now z) nodes))) ≡ true in
      subst (λ z. Sound (put now id z w (record (now.view id) { holds = lose z (now.view id).holds; starts = gain_each z nodes (now.view id).starts }))) name
      (sound-await now id (place_of x) nodes r.stands.sound (is-below cargo f hand leaving)
      (and_from _ _ (place-live now x (is-held cargo f hand leaving).live)
      (subst of (sym name)
      (and_from _ _ (may-leave cargo f hand leaving)
      (and_from _ _ (le-leb 1 (length nodes) can.some_child) (and_from _ _ can.different awaitable))))))

  -- what the rule remembers of the await
  abbrev pub past : Past P E
  past =
      record r.past {
        named = λ y. cond (same x y) (length nodes) (r.past.named y);
        lot = λ y. cond (same x y) (cargo.lot can.item) (r.past.lot y);
      }

  pub named-here : past.named x ≡ length nodes
  named-here = cond-true (same x x) (length nodes) (r.past.named x) (same-refl x)

  pub named-other : (y : Name) → (x ≡ y → ⊥) → past.named y ≡ r.past.named y
  named-other y ne = cond-false (same x y) (length nodes) (r.past.named y) (same-other x y ne)

  pub lot-here : past.lot x ≡ cargo.lot can.item
  lot-here = cond-true (same x x) (cargo.lot can.item) (r.past.lot x) (same-refl x)

  pub lot-other : (y : Name) → (x ≡ y → ⊥) → past.lot y ≡ r.past.lot y
  lot-other y ne = cond-false (same x y) (cargo.lot can.item) (r.past.lot y) (same-other x y ne)

  pub own-home : homes_now x.block x.node ≡ Full can.item
  own-home =
      home-given cargo f hand leaving gone x.node (Some can.item) (place-n cargo f hand leaving)
      (or-left (slot_of f.layout x == slot_of f.layout x) _ (eq-eqb (slot_of f.layout x) (slot_of f.layout x) refl)) can.home

  kid-below : (n : ℕ) → is_child f.tree x.node n ≡ true → n < f.layout.nodes
  kid-below n child = let l = child-within f.tree x.node n child in let e = r.frame.nodes in omega (arith, l, e)

  kid-differs : (n : ℕ) → is_child f.tree x.node n ≡ true → x.node ≡ n → ⊥
  kid-differs n child e = parent-differs f.tree r.stands.sound.tree x.node n child e

  -- a child that isn't named has an empty home at home
  unnamed-home : (n : ℕ) → is_child f.tree x.node n ≡ true → is_named nodes n ≡ false → homes_now x.block n ≡ Empty
  unnamed-home n child unnamed =
      kid-given cargo f hand leaving gone n child
      (unnamed-kid f.tree f.layout x nodes n (kid-any-number f.tree x n child) unnamed)

  -- one that is named has its home out, as before
  named-home : (n : ℕ) → is_child f.tree x.node n ≡ true → is_named nodes n ≡ true → homes_now x.block n ≡ here.home x.block n
  named-home n child named =
      home-still cargo f hand leaving gone x.block n
      (λ hn. named-kid f.tree f.layout x nodes n (sym r.frame.nodes) (place-n cargo f hand leaving) hn (kid-differs n child) named)

  -- the homes of all children were out
  kid-out : (n : ℕ) → is_child f.tree x.node n ≡ true → is_out (here.home x.block n) ≡ true
  kid-out n child =
      let held = is-held cargo f hand leaving in
      let holds : stand now (λ v. v.holds) x ≡ 1 = (r.stands.sound.owned.names x).held ∙ ap (λ w. one (is_held w)) held.word in
      let above : option_map_or (λ p. stand now (λ u. u.holds) (beside (beside x n) p)) (parent_of f.tree n) 0 ≡ stand now (λ u. u.holds) x =
      ap (λ o. option_map_or (λ p. stand now (λ u. u.holds) (beside (beside x n) p)) o 0) (child-parent f.tree x.node n child) in
      let l = lives now x held.live in
      r.stands.homes.out (beside x n) (is_live-from now (beside x n) (record {
        block = l.block;
        node = child-within f.tree x.node n child;
        is_opened = l.is_opened;
        generation = l.generation;
      })) ∙ some-seat (seats_of here (beside x n)) (omega (arith, holds, above))

  starts-kid : (n : ℕ) → is_child f.tree x.node n ≡ true → stand (put now id x w u) (λ v. v.starts) (beside x n) ≡ one (is_named nodes n)
  starts-kid n child =
      let m = moves now id x w u is-put (λ v. v.starts) (beside x n) in
      let none = (quiet cargo f hand leaving n child).starts in
      let more : gain_each x nodes (now.view id).starts (beside x n) ≡ (now.view id).starts (beside x n) + one (is_named nodes n) =
      ap (λ b. (now.view id).starts (beside x n) + one b) (any-beside x n nodes) in
      omega (arith, m, none, more)

  begun-word : is_held w ≡ false
  begun-word = ne_eqb (length nodes) 0 (λ e. let l = can.some_child in absurd (omega (arith, l, e)))

  kid-moves : (n : ℕ) → is_child f.tree x.node n ≡ true → KidMoves here id x w u is-put homes_now past n
  kid-moves n child =
      let q = quiet cargo f hand leaving n child in
      let a = starts-kid n child in
      let b = q.held in
      let z : one (is_held w) ≡ 0 = ap one begun-word in
      let all = stand (put now id x w u) (λ v. v.starts) (beside x n) + one (is_held (control_at now (beside x n))) + one (is_held w) in
      either (is_named nodes n)
      (λ named.
      let same_home = named-home n child named in
      let o : one (is_named nodes n) ≡ 1 = ap one named in
      record {
        out = ap is_out same_home ∙ kid-out n child ∙ sym (some-seat all (omega (arith, a, o)));
        keeps = inl same_home;
        shut = λ none. cc;
      })
      (λ unnamed.
      let empty = unnamed-home n child unnamed in
      let o : one (is_named nodes n) ≡ 0 = ap one unnamed in
      record {
        out = ap is_out empty ∙ sym (no-seat all (omega (arith, a, b, z, o)));
        keeps = inr (ap is_full empty, q.under_way, stays now id x w u is-put (λ v. v.reports) (beside x n) refl ∙ q.reports);
        shut = λ none. cc;
      })

  -- no home of a child is full
  pub kid-unfull : (n : ℕ) → is_child f.tree x.node n ≡ true → is_full (homes_now x.block n) ≡ false
  kid-unfull n child =
      either (is_named nodes n)
      (λ named.
      let out = ap is_out (named-home n child named) ∙ kid-out n child in
      false_from_ne_true (is_full (homes_now x.block n)) (λ full. out-unfull (homes_now x.block n) out full))
      (λ unnamed. ap is_full (unnamed-home n child unnamed))
    where
      out-unfull : (h : Home P) → is_out h ≡ true → is_full h ≡ true → ⊥
      out-unfull Out o e = both_ways false refl e
      out-unfull Empty o e = both_ways false refl o
      out-unfull (Full item) o e = both_ways false refl o

  -- a child that isn't one of the node's isn't owed anew
  owes-far : (y : Name) → (y.block == x.block && is_child f.tree x.node y.node) ≡ false → u.starts y ≡ (now.view id).starts y
  owes-far y apart =
      let none : list_any (λ n. same (beside x n) y) nodes ≡ false =
      false_from_ne_true (list_any (λ n. same (beside x n) y) nodes) (λ t.
      let at_one = any-passes x y (may_be_awaited now x) nodes t awaitable in
      let child = (and_parts (is_child f.tree x.node at_one.0) (is_idle (control_at now (beside x at_one.0))) at_one.2).0 in
      both_ways (y.block == x.block && is_child f.tree x.node y.node) apart
      (and_from _ _ (eq-eqb y.block x.block (λ k. (sym at_one.1 k).block))
      (subst (λ m. is_child f.tree x.node m ≡ true) (λ k. (at_one.1 k).node) child))) in
      let o : one (list_any (λ n. same (beside x n) y) nodes) ≡ 0 = ap one none in omega (arith, o)

  unfull-kid : (b : Bool) (h : Bool) → h ≡ false → one (b && h) ≡ 0
  unfull-kid true h e = ap one e
  unfull-kid false h e = refl

  -- the children count for as many as are named
  names-all : named_below (moved here id x w u is-put homes_now past) x ≡ length nodes
  names-all =
      total-same _ (λ n. one (is_named nodes n)) (size now) (λ n below.
      either (is_child f.tree x.node n)
      (λ child.
      let q = quiet cargo f hand leaving n child in
      let word : control_at (put now id x w u) (beside x n) ≡ control_at now (beside x n) =
      reads-other now id x w u is-put (beside x n) (λ e. kid-differs n child (λ k. (e k).node)) in
      let a : one (is_child f.tree x.node n) ≡ 1 = ap one child in
      let b : one (is_under_way (control_at (put now id x w u) (beside x n))) ≡ 0 = ap one (ap is_under_way word ∙ q.under_way) in
      let d = starts-kid n child in
      let e = unfull-kid (is_done (control_at (put now id x w u) (beside x n))) (is_full (homes_now x.block n)) (kid-unfull n child) in
      ap (λ k. k * (one (is_under_way (control_at (put now id x w u) (beside x n))) + stand (put now id x w u) (λ v. v.starts) (beside x n)
      + one (is_done (control_at (put now id x w u) (beside x n)) && is_full (homes_now x.block n)))) a
      ∙ omega (arith, b, d, e))
      (λ other.
      let a : one (is_child f.tree x.node n) ≡ 0 = ap one other in
      let unnamed : is_named nodes n ≡ false =
      false_from_ne_true (is_named nodes n) (λ t.
      both_ways (is_child f.tree x.node n) other (and_parts _ _ (all-named (may_be_awaited now x) nodes n awaitable t)).0) in
      let z : one (is_named nodes n) ≡ 0 = ap one unnamed in
      ap (λ k. k * (one (is_under_way (control_at (put now id x w u) (beside x n))) + stand (put now id x w u) (λ v. v.starts) (beside x n)
      + one (is_done (control_at (put now id x w u) (beside x n)) && is_full (homes_now x.block n)))) a
      ∙ omega (arith, z)))
      ∙ count-different nodes (size now) (may_be_awaited now x)
      (λ n passes. child-within f.tree x.node n (and_parts (is_child f.tree x.node n) (is_idle (control_at now (beside x n))) passes).0) can.different awaitable

  pub await-moves : Moves here id x w u is-put homes_now past
  await-moves =
      record {
        sound = sound-now;
        under_way = ap is_under_way (is-held cargo f hand leaving).word;
        begun = refl;
        owes = owes-far;
        reports = λ y ne. omega arith;
        named_other = named-other;
        far = λ j m own kid.
            home-still cargo f hand leaving gone j m
            (λ hm. unnamed-family f.tree f.layout x nodes (place_number f.layout j m)
            (not-family f.tree f.layout x j m (sym r.frame.nodes) (place-n cargo f hand leaving) hm own kid));
        own = ap is_out own-home ∙ (λ k. sym begun-word k || false);
        waits = λ _. ap is_full own-home;
        settled = λ none. cc;
        kids = kid-moves;
        named = λ _. names-all ∙ sym named-here;
        met = λ none. absurd (both_ways (is_waiting w) none (le-leb 1 (length nodes) can.some_child));
        asked = λ n child begun.
            let some_named = can.some_child in
            let here_named = named-here in omega (arith, some_named, here_named);
      }
