-- A release keeps what is said of homes, starts, items and lots: nothing touches the block any more, so all
-- its homes are empty once the root's is given back.
use Rattle.std.proofs.Common.{◌≡◌, ℕ, ◌+◌, ◌-◌, ◌<◌, ◌≤◌, Bool, true, false, not, ◌&&◌, ◌||◌, ◌==◌, refl, sym, ap, ◌∙◌, subst, arith, ◌*◌}
use Rattle.std.specs.Prelude.{nat_le, nat_lt, if◌then◌else◌}
use Rattle.std.specs.Option.{option_map_or}
use Rattle.std.proofs.lemmas.Bool.{and_from, both_ways, cond-true, cond-false, eqb-true, eq-eqb, ltb-true, ltb-false, false_from_ne_true}
use Rattle.life_rules.specs.declared.words.ControlWord.{ControlWord}
use Rattle.life_rules.specs.declared.words.ControlWord.TheVariants.{Idle, Busy, ReadyLoop, ReadyPool, Parked, Done}
use Rattle.life_rules.specs.declared.event.Name.{Name}
use Rattle.life_rules.specs.declared.event.SourceRef.TheVariants.{Node}
use Rattle.node_tree.specs.Tree.{is_root, is_child, parent_of}
use Rattle.life_rules.specs.Words.{is_idle, is_done, is_under_way}
use Rattle.common_lemmas.specs.Sums.{one}
use Rattle.life_rules.specs.Views.{beside}
use Rattle.life_rules.specs.States.{State, size, is_live, control_at, bits_at, stand, name_of}
use Rattle.life_rules.specs.LifeSteps.{root_of, after_release}
use Rattle.life_rules.specs.Quiet.{IsQuietAt}
use Rattle.life_rules.specs.Sound.{Sound}
use Rattle.common_lemmas.proofs.Bool.{either}
use Rattle.common_lemmas.proofs.Totals.{total-same}
use Rattle.life_rules.proofs.Readings.{lives, is_live-from, live_unique, begun-live}
use Rattle.life_kept.proofs.Puts.{times-same}
use Rattle.life_kept.proofs.Trees.{child-parent, parent-above}
use Rattle.life_kept.proofs.Quiet.{MayRelease, root-finished, quiet-all}
use Rattle.life_kept.proofs.Released.{live-other, dead-after, control-other, control-gone, bits-other, bits-gone, still-closed, requested-other}
use Rattle.life_kept.proofs.ReleaseOwned.{holds-kept, starts-kept, reports-kept}
use Rattle.table_rules.specs.declared.cargo.Cargo.{Ghosts}
use Rattle.table_rules.specs.Scenes.{Home, Out, Empty, Full, is_out, is_full, Scene}
use Rattle.table_rules.specs.Homes.{is_waiting, is_resting, home_of, seats_of, named_below, done_below, HomesStand}
use Rattle.table_rules.specs.Starts.{StartsStand}
use Rattle.table_rules.specs.Items.{HasFailedChild, ItemsStand}
use Rattle.table_rules.specs.Lots.{LotsStand}
use Rattle.table_life_kept.proofs.Begin.State.{empty-from}
use Rattle.table_life_kept.proofs.Move.State.{some-seat, no-seat}

done-if : (c : ControlWord) → is_idle c ≡ false → (is_idle c || is_done c) ≡ true → is_done c ≡ true
done-if Idle i h = cc
done-if (Busy n) i h = cc
done-if ReadyLoop i h = cc
done-if ReadyPool i h = cc
done-if Parked i h = cc
done-if Done i h = refl

out-unfull : {P : Type 0} (h : Home P) → is_out h ≡ true → is_full h ≡ false
out-unfull Out e = refl
out-unfull Empty e = cc
out-unfull (Full item) e = cc

no-one : (b : Bool) → one (b && false) ≡ 0
no-one true = refl
no-one false = refl

module _ {P E : Type 0} (s : Scene P E) (h b : ℕ) (needs : MayRelease s.state h b) (later : Sound (after_release s.state h b)) (homes : HomesStand s) (far : (n : ℕ) → (n < size s.state → ⊥) → s.home b n ≡ Empty) where
  abbrev base : State
  base = s.state

  abbrev t : State
  t = after_release base h b

  abbrev root : Name
  root = root_of base b

  abbrev pub released_scene : Scene P E
  released_scene =
      record {
        state = t;
        home = λ i n. if i == b && n == size base - 1 then Empty else s.home i n;
        past = s.past;
      }

  pub quiet : (x : Name) → (x.block == b) ≡ true → IsQuietAt base x
  quiet x at = quiet-all base h b needs x (eqb-true x.block b at)

  root-live : is_live base root ≡ true
  root-live = begun-live base root (ap is_idle (root-finished base h b needs).1)

  -- the name of a node of the block is live
  block-live : (n : ℕ) → n < size base → is_live base (name_of base b n) ≡ true
  block-live n below =
      let l = lives base root root-live in
      is_live-from base (name_of base b n) (record {
        block = l.block;
        node = below;
        is_opened = l.is_opened;
        generation = refl;
      })

  root-out : is_out (home_of s root) ≡ true
  root-out =
      let fin = (root-finished base h b needs).0 in
      homes.out root root-live ∙ some-seat (seats_of s root) (omega (arith, fin))

  -- no home of the block is full
  block-unfull : (x : Name) → (x.block == b) ≡ true → is_live base x ≡ true → is_full (home_of s x) ≡ false
  block-unfull x at live =
      false_from_ne_true (is_full (home_of s x)) (λ full.
      either (is_root base.tree x.node)
      (λ is.
      let last = eqb-true (x.node + 1) (size base) is in
      let same : root ≡ x =
      live_unique base root x root-live live (sym (eqb-true x.block b at)) (omega (arith, last)) in
      both_ways (is_full (home_of s x)) (subst (λ z. is_full (home_of s z) ≡ false) same (out-unfull (home_of s root) root-out)) full)
      (λ other.
      let up = parent-above base.tree needs.sound.tree x.node (lives base x live).node other in
      let p = beside x up.0 in
      let begun = homes.begun x live full in
      let awake : is_idle (control_at base p) ≡ false =
      false_from_ne_true (is_idle (control_at base p)) (λ idle.
      both_ways (is_idle (control_at base x)) begun ((needs.sound.begins p idle).children x.node up.1)) in
      both_ways (is_done (control_at base p)) (homes.above x up.0 live full (child-parent base.tree up.0 x.node up.1))
      (done-if (control_at base p) awake (quiet p at).control)))

  -- none but the root's is out
  block-in : (x : Name) → (x.block == b) ≡ true → is_live base x ≡ true → is_root base.tree x.node ≡ false →
      is_out (home_of s x) ≡ false
  block-in x at live other =
      let q = quiet x at in
      let up = parent-above base.tree needs.sound.tree x.node (lives base x live).node other in
      let a = q.starts in
      let c = q.holds in
      let d : stand base (λ v. v.finished) x ≡ 0 =
      (needs.sound.owned.names x).finish ∙ ap (λ r. one (is_done (control_at base x) && r)) other ∙ no-one (is_done (control_at base x)) in
      let e : option_map_or (λ p. stand base (λ v. v.holds) (beside x p)) (parent_of base.tree x.node) 0 ≡ 0 =
      ap (λ o. option_map_or (λ p. stand base (λ v. v.holds) (beside x p)) o 0) (child-parent base.tree up.0 x.node up.1)
      ∙ (quiet (beside x up.0) at).holds in
      homes.out x live ∙ no-seat (seats_of s x) (omega (arith, a, c, d, e))

  -- all homes of the block are empty
  pub block-empty : (n : ℕ) → released_scene.home b n ≡ Empty
  block-empty n =
      either (b == b && n == size base - 1)
      (λ is. cond-true (b == b && n == size base - 1) Empty (s.home b n) is)
      (λ other.
      cond-false (b == b && n == size base - 1) Empty (s.home b n) other
      ∙ either (nat_lt n (size base))
      (λ within.
      let below = ltb-true n (size base) within in
      let x = name_of base b n in
      let live = block-live n below in
      let at = eq-eqb b b refl in
      let not_root : is_root base.tree n ≡ false =
      false_from_ne_true (is_root base.tree n) (λ r.
      let last = eqb-true (n + 1) (size base) r in
      both_ways (b == b && n == size base - 1) other (and_from _ _ at (eq-eqb n (size base - 1) (omega (arith, last))))) in
      empty-from (s.home b n) (block-in x at live not_root) (block-unfull x at live))
      (λ without. far n (λ l. let g = ltb-false n (size base) without in absurd (omega (arith, l, g)))))

  home-other : (i n : ℕ) → (i == b) ≡ false → released_scene.home i n ≡ s.home i n
  home-other i n apart = cond-false (i == b && n == size base - 1) Empty (s.home i n) (ap (λ z. z && n == size base - 1) apart)

  -- a name is of another block, where something is said of it that is said of none of this one
  by_block : {G : Type 0} (x : Name) → ((x.block == b) ≡ true → ⊥) → ((x.block == b) ≡ false → G) → G
  by_block x none other = either (x.block == b) (λ at. absurd (none at)) other

  live-apart : (x : Name) → is_live t x ≡ true → (x.block == b) ≡ false
  live-apart x live = by_block x (λ at. both_ways (is_live t x) (dead-after base h b x at) live) (λ f. f)

  live-before : (x : Name) → is_live t x ≡ true → is_live base x ≡ true
  live-before x live = sym (live-other base h b x (live-apart x live)) ∙ live

  word-apart : (test : ControlWord → Bool) → test Idle ≡ false → (x : Name) → test (control_at t x) ≡ true → (x.block == b) ≡ false
  word-apart test unlike x is =
      by_block x (λ at. both_ways (test (control_at t x)) (ap test (control-gone base h b x at) ∙ unlike) is) (λ f. f)

  begun-apart : (x : Name) → is_idle (control_at t x) ≡ false → (x.block == b) ≡ false
  begun-apart x begun = by_block x (λ at. both_ways (is_idle (control_at t x)) begun (ap is_idle (control-gone base h b x at))) (λ f. f)

  word-same : (x : Name) → (x.block == b) ≡ false → control_at t x ≡ control_at base x
  word-same = control-other base h b

  finished-same : (x : Name) → (x.block == b) ≡ false → stand t (λ v. v.finished) x ≡ stand base (λ v. v.finished) x
  finished-same x apart =
      (later.owned.names x).finish ∙ ap (λ c. one (is_done c && is_root base.tree x.node)) (word-same x apart)
      ∙ sym (needs.sound.owned.names x).finish

  seats-same : (x : Name) → (x.block == b) ≡ false → seats_of released_scene x ≡ seats_of s x
  seats-same x apart =
      λ k. starts-kept base h b needs x k + holds-kept base h b needs x k + finished-same x apart k
      + option_map_or (λ p. holds-kept base h b needs (beside x p) k) (parent_of base.tree x.node) 0

  named-same : (x : Name) → (x.block == b) ≡ false → named_below released_scene x ≡ named_below s x
  named-same x apart =
      total-same _ _ (size base) (λ n below. times-same (is_child base.tree x.node n) _ _ (λ child.
      λ k. one (is_under_way (word-same (beside x n) apart k)) + starts-kept base h b needs (beside x n) k
      + one (is_done (word-same (beside x n) apart k) && is_full (home-other x.block n apart k))))

  done-same : (x : Name) → (x.block == b) ≡ false → done_below t x ≡ done_below base x
  done-same x apart =
      total-same _ _ (size base) (λ n below k.
      one (is_child base.tree x.node n) * one (is_done (word-same (beside x n) apart k)))

  pub homes-released : HomesStand released_scene
  homes-released =
      record {
        out = λ x live.
            let apart = live-apart x live in
            ap is_out (home-other x.block x.node apart) ∙ homes.out x (live-before x live) ∙ sym (ap (nat_le 1) (seats-same x apart));
        closed = λ i n shut.
            either (i == b)
            (λ at. subst (λ j. released_scene.home j n ≡ Empty) (sym (eqb-true i b at)) (block-empty n))
            (λ apart. home-other i n apart ∙ homes.closed i n (still-closed base h b i apart shut));
        begun = λ x live full.
            let apart = live-apart x live in
            ap is_idle (word-same x apart) ∙ homes.begun x (live-before x live) (ap is_full (sym (home-other x.block x.node apart)) ∙ full);
        above = λ x p live full is.
            let apart = live-apart x live in
            ap is_done (word-same (beside x p) apart)
            ∙ homes.above x p (live-before x live) (ap is_full (sym (home-other x.block x.node apart)) ∙ full) is;
        waiting = λ x w.
            let apart = word-apart (λ c. is_waiting c || is_resting c) refl x w in
            ap is_full (home-other x.block x.node apart) ∙ homes.waiting x (ap (λ c. is_waiting c || is_resting c) (sym (word-same x apart)) ∙ w);
        reported = λ x r.
            let kept = reports-kept base h b needs x in
            let was : 1 ≤ stand base (λ v. v.reports) x = omega (arith, r, kept) in
            let apart = by_block x (λ at. let none = (quiet x at).reports in absurd (omega (arith, was, none))) (λ f. f) in
            ap is_full (home-other x.block x.node apart) ∙ homes.reported x was;
        resting = λ x n r child.
            let apart = word-apart is_resting refl x r in
            ap is_full (home-other x.block n apart) ∙ homes.resting x n (ap is_resting (sym (word-same x apart)) ∙ r) child;
        named = λ x w.
            let apart = word-apart is_waiting refl x w in
            named-same x apart ∙ homes.named x (ap is_waiting (sym (word-same x apart)) ∙ w);
        met = λ x begun rests.
            let apart = begun-apart x begun in
            let word = sym (word-same x apart) in
            let was = homes.met x (ap is_idle word ∙ begun) (ap is_waiting word ∙ rests) in
            let same = done-same x apart in omega (arith, was, same);
        asked = λ x n child begun.
            let apart = begun-apart (beside x n) begun in homes.asked x n child (ap is_idle (sym (word-same (beside x n) apart)) ∙ begun);
      }

  module _ {O : Type 0} (cargo : Ghosts P E O) (over : O) where
    item-same : (x : Name) → (x.block == b) ≡ false → (item : P) → released_scene.home x.block x.node ≡ Full item →
        s.home x.block x.node ≡ Full item
    item-same x apart item e = sym (home-other x.block x.node apart) ∙ e

    begun-before : (x : Name) → is_idle (control_at t x) ≡ false → is_idle (control_at base x) ≡ false
    begun-before x begun = ap is_idle (sym (word-same x (begun-apart x begun))) ∙ begun

    pub starts-released : StartsStand cargo over s → StartsStand cargo over released_scene
    starts-released old =
        record {
          shows = λ x item live e. old.shows x item (live-before x live) (item-same x (live-apart x live) item e);
          descends = λ x p begun is. old.descends x p (begun-before x begun) is;
          key = λ x begun. old.key x (begun-before x begun);
        }

    failed-released : (x : Name) → (x.block == b) ≡ false → HasFailedChild cargo s x → HasFailedChild cargo released_scene x
    failed-released x apart f = (f.0, f.1, f.2, ap is_done (word-same (beside x f.0) apart) ∙ f.3, f.4, f.5)

    pub items-released : ItemsStand cargo s → ItemsStand cargo released_scene
    items-released old =
        record {
          fit = λ x item live e.
              let apart = live-apart x live in
              subst (cargo.fits item x.node) (sym (requested-other base h b x apart)) (old.fit x item (live-before x live) (item-same x apart item e));
          goes_on = λ x item live e d.
              let apart = live-apart x live in
              old.goes_on x item (live-before x live) (item-same x apart item e) (ap is_done (sym (word-same x apart)) ∙ d);
          rests = λ x item live e rest.
              let apart = live-apart x live in
              old.rests x item (live-before x live) (item-same x apart item e) (ap is_resting (sym (word-same x apart)) ∙ rest);
          bound = λ x item live e. old.bound x item (live-before x live) (item-same x (live-apart x live) item e);
          ended = λ x d r.
              let apart = word-apart is_done refl x d in
              let z = old.ended x (ap is_done (sym (word-same x apart)) ∙ d) r in
              (z.0, z.1, z.2, subst (cargo.fits z.0 x.node) (sym (requested-other base h b x apart)) z.3);
          delivered = λ x item d r e.
              let apart = word-apart is_done refl x d in
              old.delivered x item (ap is_done (sym (word-same x apart)) ∙ d) r (item-same x apart item e);
          enough = λ x item d r is.
              let apart = word-apart is_done refl x d in
              old.enough x item (ap is_done (sym (word-same x apart)) ∙ d) r is;
          failures = λ x r n.
              let apart = by_block x (λ at. both_ways ((bits_at t (Node x)).requested) (ap (λ z. z.requested) (bits-gone base h b (Node x) at)) r) (λ f. f) in
              failed-released x apart (old.failures x
              (ap (λ z. z.requested) (sym (bits-other base h b (Node x) apart)) ∙ r) (sym (requested-other base h b x apart) ∙ n));
        }

    pub lots-released : LotsStand cargo s → LotsStand cargo released_scene
    lots-released old =
        record {
          own = λ x item w e.
              let apart = word-apart is_waiting refl x w in
              old.own x item (ap is_waiting (sym (word-same x apart)) ∙ w) (item-same x apart item e);
          below = λ x n w child begun d.
              let apart = word-apart is_waiting refl x w in
              old.below x n (ap is_waiting (sym (word-same x apart)) ∙ w) child (begun-before (beside x n) begun)
              ((λ k. not (is_done (sym (word-same (beside x n) apart) k)) || is_full (sym (home-other x.block n apart) k)) ∙ d);
        }
