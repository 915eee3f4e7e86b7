-- A claim keeps what is said of homes, starts, items and lots: the root's home goes out.
use Rattle.std.proofs.Common.{◌≡◌, ℕ, ◌+◌, ◌-◌, ◌≤◌, true, false, not, ◌&&◌, ◌||◌, ◌==◌, refl, sym, ap, ◌∙◌, subst, arith, ◌*◌}
use Rattle.std.specs.Prelude.{nat_le}
use Rattle.std.specs.Option.{option_map_or}
use Rattle.std.proofs.lemmas.Bool.{and_parts, and_from, cond-true, cond-false, both_ways, eqb-true, eq-eqb, false_from_ne_true}
use Rattle.std.proofs.lemmas.Bool.Decides.{nat_tests}
use Rattle.life_rules.specs.declared.words.BlockState.TheVariants.{Open}
use Rattle.life_rules.specs.declared.event.Name.{Name}
use Rattle.life_rules.specs.declared.event.SourceRef.TheVariants.{Node}
use Rattle.node_tree.specs.Tree.{is_child, parent_of}
use Rattle.life_rules.specs.Words.{is_open, is_idle, is_done, is_under_way}
use Rattle.life_rules.specs.Views.{beside}
use Rattle.common_lemmas.specs.Sums.{one}
use Rattle.life_rules.specs.States.{State, size, is_live, control_at, stand, set_at}
use Rattle.common_lemmas.proofs.Bool.{either}
use Rattle.common_lemmas.proofs.Totals.{total-same}
use Rattle.life_rules.proofs.Readings.{live_unique}
use Rattle.life_rules.proofs.Names.{by_name}
use Rattle.life_kept.proofs.Puts.{times-same}
use Rattle.table_rules.specs.declared.cargo.Cargo.{Ghosts}
use Rattle.table_rules.specs.Scenes.{Out, Empty, Full, is_out, is_full, Scene}
use Rattle.table_rules.specs.Homes.{is_waiting, is_resting, home_of, seats_of, named_below, done_below, HomesStand}
use Rattle.table_rules.specs.Starts.{StartsStand}
use Rattle.table_rules.specs.Items.{HasFailedChild, ItemsStand}
use Rattle.table_rules.specs.Lots.{LotsStand}
use Rattle.table_life_kept.proofs.Claim.Cases.{none-counts}
use Rattle.table_life_kept.proofs.Claim.State.{MayClaim, bits-same, closed, control-same, finished-same, holds-same, later, live-other, nearest-same, reports-same, root, root-apart, root-live, root-no_child, root-owed, starts-other, unowned-before}

module _ {P E : Type 0} (s : Scene P E) (h b : ℕ) (may : MayClaim s.state h b) (homes : HomesStand s) where
  abbrev base : State
  base = s.state

  abbrev pub claimed : Scene P E
  claimed =
      record { state = later base h b may; home = set_at s.home b (size base - 1) Out; past = s.past }

  like : (x : Name) → control_at claimed.state x ≡ control_at base x
  like = control-same base h b may

  home-closed : (x : Name) → (x.block == b) ≡ true → home_of s x ≡ Empty
  home-closed x at =
      (λ k. s.home (eqb-true x.block b at k) x.node) ∙ homes.closed b x.node (closed base h b may)

  -- no home of the block is full
  full-apart : (x : Name) → is_full (home_of s x) ≡ true → (x.block == b) ≡ false
  full-apart x full =
      either (x.block == b) (λ at. absurd (both_ways (is_full (home_of s x)) (ap is_full (home-closed x at)) full)) (λ f. f)

  full-same : (i n : ℕ) → is_full (claimed.home i n) ≡ is_full (s.home i n)
  full-same i n =
      either (i == b && n == (size base - 1))
      (λ t.
      let at = and_parts (i == b) (n == (size base - 1)) t in
      let x : Name = record { block = i; generation = 0; node = n } in
      ap is_full (cond-true (i == b && n == (size base - 1)) Out (s.home i n) t)
      ∙ sym (ap is_full (home-closed x at.0)))
      (λ f. ap is_full (cond-false (i == b && n == (size base - 1)) Out (s.home i n) f))

  item-same : (i n : ℕ) (item : P) → claimed.home i n ≡ Full item → s.home i n ≡ Full item
  item-same i n item e =
      either (i == b && n == (size base - 1))
      (λ t.
      let out : Out ≡ Full item = sym (cond-true (i == b && n == (size base - 1)) Out (s.home i n) t) ∙ e in cc)
      (λ f. sym (cond-false (i == b && n == (size base - 1)) Out (s.home i n) f) ∙ e)

  live-full : (x : Name) → is_full (home_of s x) ≡ true → is_live claimed.state x ≡ true → is_live base x ≡ true
  live-full x full live = sym (live-other base h b may x (full-apart x full)) ∙ live

  seats-along : (x : Name) (n : ℕ) → stand claimed.state (λ v. v.starts) x ≡ n →
      seats_of claimed x
      ≡ n + stand base (λ v. v.holds) x + stand base (λ v. v.finished) x
      + option_map_or (λ p. stand base (λ v. v.holds) (beside x p)) (parent_of base.tree x.node) 0
  seats-along x n e =
      λ k. e k + holds-same base h b may x k + finished-same base h b may x k
      + option_map_or (λ p. holds-same base h b may (beside x p) k) (parent_of base.tree x.node) 0

  -- nobody has a slot of the block before
  no-seats : (x : Name) → (x.block == b) ≡ true → seats_of s x ≡ 0
  no-seats x at =
      let mine = unowned-before base h b may x at in
      let none = none-counts (parent_of base.tree x.node) (λ p. stand base (λ v. v.holds) (beside x p))
      (λ p. (unowned-before base h b may (beside x p) at).held) in
      let held = mine.held in
      let start = mine.start in
      let finish = mine.finish in
      omega (arith, held, start, finish, none)

  out-root : is_out (home_of claimed (root base h b may)) ≡ nat_le 1 (seats_of claimed (root base h b may))
  out-root =
      let r = root base h b may in
      let owed = root-owed base h b may in
      let out : is_out (home_of claimed r) ≡ true =
      ap is_out (cond-true (b == b && (size base - 1) == (size base - 1)) Out (s.home b (size base - 1))
      (and_from (b == b) ((size base - 1) == (size base - 1)) (eq-eqb b b refl) (eq-eqb (size base - 1) (size base - 1) refl))) in
      let some : 1 ≤ seats_of claimed r = omega (arith, owed) in
      let is : nat_le 1 (seats_of claimed r) ≡ true = grind (arith, nat_tests) in
      out ∙ sym is

  out-beside : (x : Name) → (x.block == b) ≡ true → (root base h b may ≡ x → ⊥) → is_live claimed.state x ≡ true →
      is_out (home_of claimed x) ≡ nat_le 1 (seats_of claimed x)
  out-beside x at ne live =
      let apart : (x.block == b && x.node == (size base - 1)) ≡ false =
      false_from_ne_true (x.block == b && x.node == (size base - 1)) (λ t.
      let parts = and_parts (x.block == b) (x.node == (size base - 1)) t in
      ne (live_unique claimed.state (root base h b may) x (root-live base h b may) live
      (sym (eqb-true x.block b parts.0)) (sym (eqb-true x.node (size base - 1) parts.1)))) in
      let home : is_out (home_of claimed x) ≡ false =
      ap is_out (cond-false (x.block == b && x.node == (size base - 1)) Out (home_of s x) apart ∙ home-closed x at) in
      let seats : seats_of claimed x ≡ 0 =
      seats-along x (stand base (λ v. v.starts) x) (starts-other base h b may x ne) ∙ no-seats x at in
      home ∙ sym (ap (nat_le 1) seats)

  out-apart : (x : Name) → (x.block == b) ≡ false → is_live claimed.state x ≡ true →
      is_out (home_of claimed x) ≡ nat_le 1 (seats_of claimed x)
  out-apart x apart live =
      let test : (x.block == b && x.node == (size base - 1)) ≡ false = ap (λ t. t && x.node == (size base - 1)) apart in
      let seats : seats_of claimed x ≡ seats_of s x =
      seats-along x (stand base (λ v. v.starts) x) (starts-other base h b may x (root-apart base h b may x apart)) in
      ap is_out (cond-false (x.block == b && x.node == (size base - 1)) Out (home_of s x) test)
      ∙ homes.out x (sym (live-other base h b may x apart) ∙ live) ∙ sym (ap (nat_le 1) seats)

  named-same : (x : Name) → named_below claimed x ≡ named_below s x
  named-same x =
      total-same _ _ (size base) (λ n below. times-same (is_child base.tree x.node n) _ _ (λ child.
      λ k. one (is_under_way (control-same base h b may (beside x n) k))
      + starts-other base h b may (beside x n) (root-no_child base h b may x n below child) k
      + one (is_done (control-same base h b may (beside x n) k) && full-same x.block n k)))

  done-same : (x : Name) → done_below claimed.state x ≡ done_below base x
  done-same x =
      total-same _ _ (size base) (λ n below k. one (is_child base.tree x.node n) * one (is_done (like (beside x n) k)))

  pub homes-claimed : HomesStand claimed
  homes-claimed =
      record {
        out = λ x live.
            either (x.block == b)
            (λ at. by_name (root base h b may) x
            (λ e. subst (λ y. is_out (home_of claimed y) ≡ nat_le 1 (seats_of claimed y)) e out-root)
            (λ ne. out-beside x at ne live))
            (λ apart. out-apart x apart live);
        closed = λ i n shut.
            either (i == b)
            (λ at. absurd (both_ways (is_open (claimed.state.block i).state) shut
            (λ k. is_open (cond-true (i == b) (record (base.block b) { state = Open }) (base.block i) at k).state)))
            (λ apart.
            let test : (i == b && n == (size base - 1)) ≡ false = ap (λ t. t && n == (size base - 1)) apart in
            cond-false (i == b && n == (size base - 1)) Out (s.home i n) test
            ∙ homes.closed i n
            ((λ k. is_open (sym (cond-false (i == b) (record (base.block b) { state = Open }) (base.block i) apart) k).state) ∙ shut));
        begun = λ x live full.
            let was = sym (full-same x.block x.node) ∙ full in
            ap is_idle (like x) ∙ homes.begun x (live-full x was live) was;
        above = λ x p live full is.
            let was = sym (full-same x.block x.node) ∙ full in
            ap is_done (like (beside x p)) ∙ homes.above x p (live-full x was live) was is;
        waiting = λ x w.
            full-same x.block x.node
            ∙ homes.waiting x ((λ k. is_waiting (sym (like x) k) || is_resting (sym (like x) k)) ∙ w);
        reported = λ x r.
            let e = reports-same base h b may x in
            full-same x.block x.node ∙ homes.reported x (omega (arith, r, e));
        resting = λ x n r child.
            full-same x.block n ∙ homes.resting x n (ap is_resting (sym (like x)) ∙ r) child;
        named = λ x w. named-same x ∙ homes.named x (ap is_waiting (sym (like x)) ∙ w);
        met = λ x begun rests.
            let was = homes.met x (ap is_idle (sym (like x)) ∙ begun) (ap is_waiting (sym (like x)) ∙ rests) in
            let same = done-same x in omega (arith, was, same);
        asked = λ x n child begun. homes.asked x n child (ap is_idle (sym (like (beside x n))) ∙ begun);
      }

  module _ {O : Type 0} (cargo : Ghosts P E O) (over : O) where
    pub starts-claimed : StartsStand cargo over s → StartsStand cargo over claimed
    starts-claimed old =
        record {
          shows = λ x item live e.
              let was = item-same x.block x.node item e in
              old.shows x item (live-full x (ap is_full was) live) was;
          descends = λ x p begun is. old.descends x p (ap is_idle (sym (like x)) ∙ begun) is;
          key = λ x begun. old.key x (ap is_idle (sym (like x)) ∙ begun);
        }

    failed-claimed : (x : Name) → HasFailedChild cargo s x → HasFailedChild cargo claimed x
    failed-claimed x f =
        (f.0, f.1, f.2, ap is_done (control-same base h b may (beside x f.0)) ∙ f.3, f.4, f.5)

    pub items-claimed : ItemsStand cargo s → ItemsStand cargo claimed
    items-claimed old =
        record {
          fit = λ x item live e.
              let was = item-same x.block x.node item e in
              subst (cargo.fits item x.node) (sym (nearest-same base h b may x)) (old.fit x item (live-full x (ap is_full was) live) was);
          goes_on = λ x item live e d.
              let was = item-same x.block x.node item e in
              old.goes_on x item (live-full x (ap is_full was) live) was (ap is_done (sym (like x)) ∙ d);
          rests = λ x item live e rest.
              let was = item-same x.block x.node item e in
              old.rests x item (live-full x (ap is_full was) live) was (ap is_resting (sym (like x)) ∙ rest);
          bound = λ x item live e.
              let was = item-same x.block x.node item e in
              old.bound x item (live-full x (ap is_full was) live) was;
          ended = λ x d r.
              let t = old.ended x (ap is_done (sym (like x)) ∙ d) r in
              (t.0, t.1, t.2, subst (cargo.fits t.0 x.node) (sym (nearest-same base h b may x)) t.3);
          delivered = λ x item d r e.
              old.delivered x item (ap is_done (sym (like x)) ∙ d) r (item-same x.block x.node item e);
          enough = λ x item d r is. old.enough x item (ap is_done (sym (like x)) ∙ d) r is;
          failures = λ x r n.
              failed-claimed x (old.failures x
              ((λ k. (sym (bits-same base h b may (Node x)) k).requested) ∙ r) (sym (nearest-same base h b may x) ∙ n));
        }

    pub lots-claimed : LotsStand cargo s → LotsStand cargo claimed
    lots-claimed old =
        record {
          own = λ x item w e. old.own x item (ap is_waiting (sym (like x)) ∙ w) (item-same x.block x.node item e);
          below = λ x n w child begun d.
              old.below x n (ap is_waiting (sym (like x)) ∙ w) child (ap is_idle (sym (like (beside x n))) ∙ begun)
              ((λ k. not (is_done (sym (like (beside x n)) k)) || sym (full-same x.block n) k) ∙ d);
        }
