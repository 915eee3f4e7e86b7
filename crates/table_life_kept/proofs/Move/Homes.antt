-- What is said of homes is kept by a step on the control word of a node under way.
use Rattle.std.proofs.Common.{◌≡◌, inl, inr, ℕ, ◌+◌, ◌≤◌, Bool, true, false, not, ◌&&◌, ◌||◌, ◌==◌, Some, refl, sym, ap, ◌∙◌, subst, arith}
use Rattle.std.proofs.lemmas.Bool.{and_parts, and_from, both_ways, eqb-true, false_from_ne_true}
use Rattle.life_rules.specs.declared.words.ControlWord.{ControlWord}
use Rattle.life_rules.specs.declared.words.ControlWord.TheVariants.{Idle, Busy, ReadyLoop, ReadyPool, Parked, Done}
use Rattle.life_rules.specs.declared.event.Name.{Name}
use Rattle.node_tree.specs.Tree.{is_root, is_child, parent_of}
use Rattle.life_rules.specs.Words.{is_open, is_idle, is_done, is_under_way}
use Rattle.life_rules.specs.Views.{beside}
use Rattle.common_lemmas.specs.Sums.{one}
use Rattle.life_rules.specs.States.{State, size, is_live, control_at, stand}
use Rattle.common_lemmas.proofs.Bool.{one-is}
use Rattle.common_lemmas.proofs.Totals.{total-same}
use Rattle.life_rules.proofs.Readings.{lives, is_live-from, begun-live}
use Rattle.life_kept.proofs.Trees.{parent-child, child-within, root-orphan, parent-same}
use Rattle.life_rules.proofs.Names.{by_name}
use Rattle.life_kept.proofs.Fitting.{Fits-busy, under_way-parts, done-word}
use Rattle.life_kept.proofs.Puts.{moves, times-same}
use Rattle.table_rules.specs.Scenes.{is_full, Scene}
use Rattle.table_rules.specs.Homes.{is_waiting, is_resting, named_below, done_below, HomesStand}
use Rattle.table_life_kept.proofs.DoneBelow.{done-more}
use Rattle.table_life_kept.proofs.Move.State as moving
use Rattle.table_life_kept.proofs.Move.Seats.{Move, starts-same, starts-none, out-moved}

pub waiting-busy : (c : ControlWord) → (is_waiting c || is_resting c) ≡ true → is_under_way c ≡ true
waiting-busy Idle h = cc
waiting-busy (Busy n) h = refl
waiting-busy ReadyLoop h = refl
waiting-busy ReadyPool h = refl
waiting-busy Parked h = refl
waiting-busy Done h = cc

pub busy-begun : (c : ControlWord) → is_under_way c ≡ true → is_idle c ≡ false
busy-begun c on = (under_way-parts c on).0

-- what a node counts for in what its parent's await named, that began and is under way, or done with a
-- full home
counts-once : (c : ControlWord) (full : Bool) → is_idle c ≡ false → (is_done c ≡ true → full ≡ true) →
    one (is_under_way c) + one (is_done c && full) ≡ 1
counts-once Idle full begun settled = cc
counts-once (Busy n) full begun settled = refl
counts-once ReadyLoop full begun settled = refl
counts-once ReadyPool full begun settled = refl
counts-once Parked full begun settled = refl
counts-once Done full begun settled = ap (λ b. 0 + one b) (settled refl)

module _ {P E : Type 0} (s : Scene P E) (task : Move s) (homes : HomesStand s) where
  open task use {hand as h, name as x, word as w, view as u, put as p, home, past, moves as mv}

  abbrev base : State
  base = s.state

  abbrev put_state : State
  put_state = moving.put_state s h x w u p home past

  abbrev moved : Scene P E
  moved = moving.moved s h x w u p home past

  abbrev is_kid : ℕ → ℕ → Bool
  is_kid = moving.is_kid s h x w u p home past

  word-here : control_at put_state x ≡ w
  word-here = moving.word-here s h x w u p home past mv

  word-other : (y : Name) → (x ≡ y → ⊥) → control_at put_state y ≡ control_at base y
  word-other = moving.word-other s h x w u p home past mv

  full-before : (y : Name) → is_live base y ≡ true → (x ≡ y → ⊥) → is_full (home y.block y.node) ≡ true →
      is_full (s.home y.block y.node) ≡ true
  full-before = moving.full-before s h x w u p home past mv

  reports-most : (y : Name) → (x ≡ y → ⊥) → stand put_state (λ v. v.reports) y ≤ stand base (λ v. v.reports) y
  reports-most y ne =
      let m = moves base h x w u p (λ v. v.reports) y in
      let l = mv.reports y ne in omega (arith, m, l)

  -- another child of a node is counted as before
  named-term : (y : Name) (n : ℕ) → is_live base y ≡ true → (x ≡ y → ⊥) → is_child base.tree y.node n ≡ true → (x ≡ beside y n → ⊥) →
      one (is_under_way (control_at put_state (beside y n))) + stand put_state (λ v. v.starts) (beside y n)
      + one (is_done (control_at put_state (beside y n)) && is_full (home y.block n))
      ≡ one (is_under_way (control_at base (beside y n))) + stand base (λ v. v.starts) (beside y n)
      + one (is_done (control_at base (beside y n)) && is_full (s.home y.block n))
  named-term y n live ne child apart =
      let l = lives base y live in
      let there : is_live base (beside y n) ≡ true =
      is_live-from base (beside y n) (record {
        block = l.block;
        node = child-within base.tree y.node n child;
        is_opened = l.is_opened;
        generation = l.generation;
      }) in
      moving.by_place s h x w u p home past mv (beside y n) there (λ is. absurd (apart is))
      (λ m own is. absurd (ne (parent-same base.tree x y m n own child is)))
      (λ _ far same.
      let c = word-other (beside y n) apart in
      let b = starts-same s task (beside y n) far in
      λ k. one (is_under_way (c k)) + b k + one (is_done (c k) && is_full (same k)))

  -- and so is this node, at its parent
  named-own : (y : Name) (n : ℕ) → is_child base.tree y.node n ≡ true → x ≡ beside y n →
      one (is_under_way (control_at put_state (beside y n))) + stand put_state (λ v. v.starts) (beside y n)
      + one (is_done (control_at put_state (beside y n)) && is_full (home y.block n))
      ≡ one (is_under_way (control_at base (beside y n))) + stand base (λ v. v.starts) (beside y n)
      + one (is_done (control_at base (beside y n)) && is_full (s.home y.block n))
  named-own y n child e =
      subst (λ z. one (is_under_way (control_at put_state z)) + stand put_state (λ v. v.starts) z
      + one (is_done (control_at put_state z) && is_full (home z.block z.node))
      ≡ one (is_under_way (control_at base z)) + stand base (λ v. v.starts) z
      + one (is_done (control_at base z) && is_full (s.home z.block z.node))) e
      (let not_root : is_root base.tree x.node ≡ false =
      false_from_ne_true (is_root base.tree x.node) (λ root.
      both_ways (is_child base.tree y.node x.node)
      (root-orphan base.tree p.sound.tree y.node x.node (lives base x p.live).node root)
      (subst (λ m. is_child base.tree y.node m ≡ true) (λ k. (sym e k).node) child)) in
      let old = under_way-parts (control_at base x) mv.under_way in
      let a = starts-none s task in
      let b = (Fits-busy mv.under_way (p.sound.owned.names x)).starts in
      let c : one (is_under_way (control_at put_state x)) ≡ one (is_under_way w) = ap (λ c. one (is_under_way c)) word-here in
      let d : one (is_done (control_at put_state x) && is_full (home x.block x.node)) ≡ one (is_done w && is_full (home x.block x.node)) =
      ap (λ c. one (is_done c && is_full (home x.block x.node))) word-here in
      let once = counts-once w (is_full (home x.block x.node)) mv.begun
      (λ done. mv.settled (and_from (is_done w) (not (is_root base.tree x.node)) done (ap not not_root))) in
      let was : one (is_under_way (control_at base x)) ≡ 1 = ap one mv.under_way in
      let none : one (is_done (control_at base x) && is_full (s.home x.block x.node)) ≡ 0 =
      ap (λ b. one (b && is_full (s.home x.block x.node))) old.1 in
      omega (arith, a, b, c, d, once, was, none))

  named-same : (y : Name) → is_live base y ≡ true → (x ≡ y → ⊥) → named_below moved y ≡ named_below s y
  named-same y live ne =
      total-same _ _ (size base) (λ n below. times-same (is_child base.tree y.node n) _ _ (λ child.
      by_name x (beside y n) (named-own y n child) (named-term y n live ne child)))

  live-waits : (y : Name) → (is_waiting (control_at base y) || is_resting (control_at base y)) ≡ true → is_live base y ≡ true
  live-waits y w = begun-live base y (busy-begun (control_at base y) (waiting-busy (control_at base y) w))

  waits-moved : (y : Name) → (is_waiting (control_at put_state y) || is_resting (control_at put_state y)) ≡ true →
      is_full (home y.block y.node) ≡ true
  waits-moved y is =
      by_name x y
      (λ e. subst (λ z. is_full (home z.block z.node) ≡ true) e
      (mv.waits (ap (λ c. is_waiting c || is_resting c) (sym word-here ∙ ap (control_at put_state) e) ∙ is)))
      (λ ne.
      let was = ap (λ c. is_waiting c || is_resting c) (sym (word-other y ne)) ∙ is in
      moving.full-still s h x w u p home past mv y (live-waits y was) ne (inl (waiting-busy (control_at base y) was)) (homes.waiting y was))

  reported-moved : (y : Name) → 1 ≤ stand put_state (λ v. v.reports) y → is_full (home y.block y.node) ≡ true
  reported-moved y r =
      by_name x y
      (λ e. subst (λ z. is_full (home z.block z.node) ≡ true) e
      (let own : 1 ≤ stand put_state (λ v. v.reports) x = subst (λ z. 1 ≤ stand put_state (λ v. v.reports) z) (sym e) r in
      let most = (mv.sound.owned.names x).report in
      mv.settled (ap (λ c. is_done c && not (is_root base.tree x.node)) (sym word-here) ∙ one-is (omega (arith, own, most)))))
      (λ ne.
      let less = reports-most y ne in
      let was : 1 ≤ stand base (λ v. v.reports) y = omega (arith, r, less) in
      let most = (p.sound.owned.names y).report in
      let done = (and_parts (is_done (control_at base y)) (not (is_root base.tree y.node)) (one-is (omega (arith, was, most)))).0 in
      moving.full-still s h x w u p home past mv y (begun-live base y (ap is_idle (done-word (control_at base y) done))) ne (inr r)
      (homes.reported y was))

  -- the homes of the children of a node that rests
  resting-moved : (y : Name) (n : ℕ) → is_resting (control_at put_state y) ≡ true → is_child base.tree y.node n ≡ true →
      is_full (home y.block n) ≡ false
  resting-moved y n rests child =
      by_name x y
      (λ e. subst (λ z. is_child base.tree z.node n ≡ true → is_full (home z.block n) ≡ false) e
      (λ own. (mv.kids n own).shut
      (ap (λ b. is_done w || b) (ap is_resting (sym word-here ∙ ap (control_at put_state) e) ∙ rests) ∙ or-true (is_done w))) child)
      (λ ne.
      let was = ap is_resting (sym (word-other y ne)) ∙ rests in
      let live = live-waits y (ap (λ b. is_waiting (control_at base y) || b) was ∙ or-true (is_waiting (control_at base y))) in
      let l = lives base y live in
      let there : is_live base (beside y n) ≡ true =
      is_live-from base (beside y n) (record {
        block = l.block;
        node = child-within base.tree y.node n child;
        is_opened = l.is_opened;
        generation = l.generation;
      }) in
      by_name x (beside y n)
      (λ e. absurd (both_ways (is_resting (control_at base y))
      (subst (λ z. is_resting (control_at base z) ≡ false)
      (λ k. record { block = (e k).block; generation = (e k).generation; node = y.node })
      (moving.parent-waits s h x w u p home past mv y.node
      (subst (λ m. is_child base.tree y.node m ≡ true) (λ k. (sym e k).node) child)).rests) was))
      (λ apart.
      false_from_ne_true (is_full (home y.block n)) (λ full.
      both_ways (is_full (s.home y.block n)) (homes.resting y n was child) (full-before (beside y n) there apart full))))
    where
      or-true : (a : Bool) → (a || true) ≡ true
      or-true true = refl
      or-true false = refl

  above-moved : (y : Name) (q : ℕ) → is_live base y ≡ true → is_full (home y.block y.node) ≡ true →
      parent_of base.tree y.node ≡ Some q → is_done (control_at put_state (beside y q)) ≡ false
  above-moved y q live full is =
      let child = parent-child base.tree q y.node is in
      by_name x y
      (λ e.
      let up = moving.parent-waits s h x w u p home past mv q (subst (λ z. is_child base.tree q z.node ≡ true) (sym e) child) in
      subst (λ z. is_done (control_at put_state (beside z q)) ≡ false) e
      (ap is_done (word-other (beside x q)
      (moving.parent-other s h x w u p home past mv q (subst (λ z. is_child base.tree q z.node ≡ true) (sym e) child))) ∙ up.done))
      (λ ne.
      by_name x (beside y q)
      (λ e.
      let own : is_child base.tree x.node y.node ≡ true =
      subst (λ m. is_child base.tree m y.node ≡ true) (λ k. (sym e k).node) child in
      false_from_ne_true (is_done (control_at put_state (beside y q))) (λ done.
      let shut : is_full (home x.block y.node) ≡ false =
      (mv.kids y.node own).shut
      (ap (λ b. b || is_resting w) (ap is_done (sym word-here ∙ ap (control_at put_state) e) ∙ done)) in
      both_ways (is_full (home y.block y.node)) (subst (λ b. is_full (home b y.node) ≡ false) (λ k. (e k).block) shut) full))
      (λ apart.
      ap is_done (word-other (beside y q) apart) ∙ homes.above y q live (full-before y live ne full) is))

  -- a child that is done is another node, and is done still
  done-moved : (y : Name) → done_below base y ≤ done_below put_state y
  done-moved y =
      done-more (is_child base.tree y.node) (λ n. is_done (control_at base (beside y n)))
      (λ n. is_done (control_at put_state (beside y n))) (size base) (λ n child done.
      by_name x (beside y n)
      (λ e. absurd (both_ways (is_done (control_at base (beside y n)))
      (ap (λ z. is_done (control_at base z)) (sym e) ∙ (under_way-parts (control_at base x) mv.under_way).1) done))
      (λ ne. ap is_done (word-other (beside y n) ne) ∙ done))

  -- a node that has begun had begun before
  begun-before : (y : Name) → is_idle (control_at put_state y) ≡ false → is_idle (control_at base y) ≡ false
  begun-before y begun =
      by_name x y
      (λ e. subst (λ z. is_idle (control_at base z) ≡ false) e (under_way-parts (control_at base x) mv.under_way).0)
      (λ ne. ap is_idle (sym (word-other y ne)) ∙ begun)

  -- of a node whose child has begun the last await named some
  asked-moved : (y : Name) (n : ℕ) → is_child base.tree y.node n ≡ true → is_idle (control_at put_state (beside y n)) ≡ false →
      1 ≤ past.named y
  asked-moved y n child begun =
      let was = begun-before (beside y n) begun in
      by_name x y
      (λ e.
      subst (λ z. 1 ≤ past.named z) e
      (mv.asked n (subst (λ z. is_child base.tree z.node n ≡ true) (sym e) child)
      (subst (λ z. is_idle (control_at base (beside z n)) ≡ false) (sym e) was)))
      (λ ne.
      let before = homes.asked y n child was in
      let named = mv.named_other y ne in omega (arith, before, named))

  pub homes-moved : HomesStand moved
  homes-moved =
      record {
        out = out-moved s task homes;
        closed = λ i n shut.
            let other : (i == x.block) ≡ false =
            false_from_ne_true (i == x.block) (λ t.
            both_ways (is_open (base.block i).state) shut
            (subst (λ j. is_open (base.block j).state ≡ true) (sym (eqb-true i x.block t)) (lives base x p.live).is_opened)) in
            mv.far i n (ap (λ b. b && n == x.node) other) (ap (λ b. b && is_child base.tree x.node n) other) ∙ homes.closed i n shut;
        begun = λ y live full.
            by_name x y
            (λ e. ap (λ z. is_idle (control_at put_state z)) (sym e) ∙ ap is_idle word-here ∙ mv.begun)
            (λ ne. ap is_idle (word-other y ne) ∙ homes.begun y live (full-before y live ne full));
        above = above-moved;
        waiting = waits-moved;
        reported = reported-moved;
        resting = resting-moved;
        named = λ y is.
            by_name x y
            (λ e. subst (λ z. named_below moved z ≡ past.named z) e
            (mv.named (ap is_waiting (sym word-here ∙ ap (control_at put_state) e) ∙ is)))
            (λ ne.
            let was = ap is_waiting (sym (word-other y ne)) ∙ is in
            let live = live-waits y (ap (λ b. b || is_resting (control_at base y)) was) in
            named-same y live ne ∙ homes.named y was ∙ sym (mv.named_other y ne));
        met = λ y begun still.
            let more = done-moved y in
            by_name x y
            (λ e. subst (λ z. past.named z ≤ done_below put_state z) e
            (let own = mv.met (ap is_waiting (sym word-here ∙ ap (control_at put_state) e) ∙ still) in
            let grown = done-moved x in omega (arith, own, grown)))
            (λ ne.
            let word = sym (word-other y ne) in
            let was = homes.met y (ap is_idle word ∙ begun) (ap is_waiting word ∙ still) in
            let named = mv.named_other y ne in omega (arith, was, named, more));
        asked = asked-moved;
      }
