-- A begin keeps what is said of homes: the node's word becomes held, its children's homes go out, and the
-- rule remembers its start.
use Rattle.std.proofs.Common.{◌≡◌, ℕ, ◌+◌, ◌*◌, ◌≤◌, Bool, true, false, not, ◌&&◌, ◌||◌, ◌==◌, if◌then◌else◌, List, Option, Some, None, refl, sym, ap, ◌∙◌, subst, arith}
use Rattle.std.specs.Prelude.{nat_le}
use Rattle.std.specs.Option.{option_map_or}
use Rattle.std.proofs.lemmas.Bool.{and_parts, and_from, cond-true, cond-false, both_ways, eqb-true, eq-eqb, false_from_ne_true, le-leb}
use Rattle.std.proofs.lemmas.Bool.Decides.{nat_tests}
use Rattle.life_rules.specs.declared.words.ControlWord.{ControlWord}
use Rattle.life_rules.specs.declared.words.ControlWord.TheVariants.{Idle, Busy}
use Rattle.life_rules.specs.declared.event.Name.{Name}
use Rattle.node_tree.specs.Tree.{is_root, is_child, parent_of}
use Rattle.life_rules.specs.Words.{is_open, is_idle, is_done, is_under_way, pending}
use Rattle.common_lemmas.specs.Sums.{one}
use Rattle.life_rules.specs.Views.{beside, same}
use Rattle.life_rules.specs.States.{State, size, is_live, control_at, stand}
use Rattle.common_lemmas.proofs.Bool.{either}
use Rattle.life_rules.proofs.Names.{same-refl, same-other, by_name}
use Rattle.common_lemmas.proofs.Totals.{total-same, total-at}
use Rattle.life_rules.proofs.Readings.{lives, is_live-from, stand-at}
use Rattle.life_kept.proofs.Trees.{child-parent, parent-child, child-within}
use Rattle.life_kept.proofs.Holding.{weight-most}
use Rattle.life_kept.proofs.Puts.{times-same}
use Rattle.table_rules.specs.Scenes.{Out, Empty, Full, is_out, is_full, Past, Scene}
use Rattle.table_rules.specs.Homes.{is_waiting, is_resting, home_of, seats_of, named_below, done_below, HomesStand}
use Rattle.table_life_kept.proofs.DoneBelow.{done-more}
use Rattle.table_life_kept.proofs.Begin.State.{empty-from, MayBegin, held_state, x-live, x-idle, word-here, word-other, reports-same, finished-same, holds-other, holds-here, starts-other, starts-here, kid-idle, kid-weightless, kid-live, unheld, unfinished}

module _ {P E : Type 0} (s : Scene P E) (h : ℕ) (x : Name) (may : MayBegin s.state h x) (homes : HomesStand s) (start : List E) where
  abbrev base : State
  base = s.state

  abbrev pub is_kid : ℕ → ℕ → Bool
  is_kid i n = i == x.block && is_child base.tree x.node n

  abbrev pub begun_past : Past P E
  begun_past =
      record s.past {
        start = λ y. if same x y then start else s.past.start y;
        named = λ y. if same x y then 0 else s.past.named y;
      }

  abbrev pub begun_scene : Scene P E
  begun_scene =
      record {
        state = held_state base h x may;
        home = λ i n. if is_kid i n then Out else s.home i n;
        past = begun_past;
      }

  pub kid-empty : (n : ℕ) → is_child base.tree x.node n ≡ true → home_of s (beside x n) ≡ Empty
  kid-empty n child =
      let y = beside x n in
      let idle = kid-idle base h x may n child in
      let live = kid-live base h x may n child in
      let starts = kid-weightless base h x may n child in
      let holds = unheld base h x may y idle in
      let finished = unfinished base h x may y idle in
      let above : option_map_or (λ p. stand base (λ v. v.holds) (beside y p)) (parent_of base.tree n) 0 ≡ 0 =
      ap (λ o. option_map_or (λ p. stand base (λ v. v.holds) (beside y p)) o 0) (child-parent base.tree x.node n child)
      ∙ unheld base h x may x (ap is_idle (x-idle base h x may)) in
      let seats : seats_of s y ≡ 0 = omega (arith, starts, holds, finished, above) in
      empty-from (home_of s y) (homes.out y live ∙ ap (nat_le 1) seats)
      (false_from_ne_true (is_full (home_of s y)) (λ full.
      both_ways (is_idle (control_at base y)) (homes.begun y live full) idle))

  pub full-before : (i n : ℕ) → is_full (begun_scene.home i n) ≡ true → is_full (s.home i n) ≡ true
  full-before i n full =
      either (is_kid i n)
      (λ t. absurd (both_ways (is_full (begun_scene.home i n)) (ap is_full (cond-true (is_kid i n) Out (s.home i n) t)) full))
      (λ f. ap is_full (sym (cond-false (is_kid i n) Out (s.home i n) f)) ∙ full)

  pub item-before : (i n : ℕ) (item : P) → begun_scene.home i n ≡ Full item → s.home i n ≡ Full item
  item-before i n item e =
      either (is_kid i n)
      (λ t. let out : Out ≡ Full item = sym (cond-true (is_kid i n) Out (s.home i n) t) ∙ e in cc)
      (λ f. sym (cond-false (is_kid i n) Out (s.home i n) f) ∙ e)

  -- a home is as full as it was, since the children's were empty
  full-same : (y : Name) → is_live base y ≡ true → is_full (begun_scene.home y.block y.node) ≡ is_full (home_of s y)
  full-same y live =
      either (is_kid y.block y.node)
      (λ t.
      let parts = and_parts (y.block == x.block) (is_child base.tree x.node y.node) t in
      let home : s.home y.block y.node ≡ Empty =
      (λ k. s.home (eqb-true y.block x.block parts.0 k) y.node) ∙ kid-empty y.node parts.1 in
      ap is_full (cond-true (is_kid y.block y.node) Out (s.home y.block y.node) t) ∙ sym (ap is_full home))
      (λ f. ap is_full (cond-false (is_kid y.block y.node) Out (s.home y.block y.node) f))

  seats-of-other : (y : Name) → (x ≡ y → ⊥) → is_kid y.block y.node ≡ false → is_live base y ≡ true →
      seats_of begun_scene y ≡ seats_of s y
  seats-of-other y ne apart live =
      let above : option_map_or (λ p. stand (held_state base h x may) (λ v. v.holds) (beside y p)) (parent_of base.tree y.node) 0
      ≡ option_map_or (λ p. stand base (λ v. v.holds) (beside y p)) (parent_of base.tree y.node) 0 =
      parent-same-holds (parent_of base.tree y.node) refl in
      λ k. starts-other base h x may y ne k + holds-other base h x may y ne k
      + finished-same base h x may y k + above k
    where
      same-block : x ≡ beside y x.node → (y.block == x.block) ≡ true
      same-block e = eq-eqb y.block x.block (λ k. (sym e k).block)

      parent-same-holds : (o : Option ℕ) → parent_of base.tree y.node ≡ o →
          option_map_or (λ p. stand (held_state base h x may) (λ v. v.holds) (beside y p)) o 0
          ≡ option_map_or (λ p. stand base (λ v. v.holds) (beside y p)) o 0
      parent-same-holds None e = refl
      parent-same-holds (Some p) e =
          holds-other base h x may (beside y p) (λ is.
          let block : (y.block == x.block) ≡ true = eq-eqb y.block x.block (λ k. (sym is k).block) in
          let node : p ≡ x.node = λ k. (sym is k).node in
          let child : is_child base.tree x.node y.node ≡ true =
          subst (λ q. is_child base.tree q y.node ≡ true) node (parent-child base.tree p y.node e) in
          both_ways (is_kid y.block y.node) apart (and_from (y.block == x.block) (is_child base.tree x.node y.node) block child))

  -- the node is no child of its own
  pub not-own : is_kid x.block x.node ≡ false
  not-own =
      false_from_ne_true (is_kid x.block x.node) (λ t.
      let parts = and_parts (x.block == x.block) (is_child base.tree x.node x.node) t in
      let idle = kid-weightless base h x may x.node parts.1 in
      let all = stand-at base (λ v. v.starts) h x may.below in
      let owes = may.owes in absurd (omega (arith, idle, all, owes)))

  out-own : is_out (home_of begun_scene x) ≡ nat_le 1 (seats_of begun_scene x)
  out-own =
      let a = starts-here base h x may in
      let b = holds-here base h x may in
      let all = stand-at base (λ v. v.starts) h x may.below in
      let owes = may.owes in
      let was : 1 ≤ seats_of s x = omega (arith, all, owes) in
      let now : 1 ≤ seats_of begun_scene x = omega (arith, b) in
      let t : nat_le 1 (seats_of s x) ≡ true = grind (arith, nat_tests) in
      let u : nat_le 1 (seats_of begun_scene x) ≡ true = grind (arith, nat_tests) in
      ap is_out (cond-false (is_kid x.block x.node) Out (s.home x.block x.node) not-own)
      ∙ homes.out x (x-live base h x may) ∙ t ∙ sym u

  out-kid : (y : Name) → is_kid y.block y.node ≡ true → is_live base y ≡ true →
      is_out (home_of begun_scene y) ≡ nat_le 1 (seats_of begun_scene y)
  out-kid y t live =
      let parts = and_parts (y.block == x.block) (is_child base.tree x.node y.node) t in
      let block : y.block ≡ x.block = eqb-true y.block x.block parts.0 in
      let generation : y.generation ≡ x.generation =
      (lives base y live).generation ∙ ap (λ i. (base.block i).generation) block
      ∙ sym (lives base x (x-live base h x may)).generation in
      let parent : beside y x.node ≡ x = λ k. record { block = block k; generation = generation k; node = x.node } in
      let above : option_map_or (λ p. stand (held_state base h x may) (λ v. v.holds) (beside y p)) (parent_of base.tree y.node) 0
      ≡ stand (held_state base h x may) (λ v. v.holds) x =
      ap (λ o. option_map_or (λ p. stand (held_state base h x may) (λ v. v.holds) (beside y p)) o 0)
      (child-parent base.tree x.node y.node parts.1)
      ∙ ap (stand (held_state base h x may) (λ v. v.holds)) parent in
      let b = holds-here base h x may in
      let now : 1 ≤ seats_of begun_scene y = omega (arith, above, b) in
      let u : nat_le 1 (seats_of begun_scene y) ≡ true = grind (arith, nat_tests) in
      ap is_out (cond-true (is_kid y.block y.node) Out (s.home y.block y.node) t) ∙ sym u

  out-apart : (y : Name) → (x ≡ y → ⊥) → is_kid y.block y.node ≡ false → is_live base y ≡ true →
      is_out (home_of begun_scene y) ≡ nat_le 1 (seats_of begun_scene y)
  out-apart y ne apart live =
      ap is_out (cond-false (is_kid y.block y.node) Out (s.home y.block y.node) apart)
      ∙ homes.out y live ∙ sym (ap (nat_le 1) (seats-of-other y ne apart live))

  -- the node's own home is out, so it isn't full
  pub own-out : is_full (home_of s x) ≡ true → ⊥
  own-out full =
      both_ways (is_idle (control_at base x)) (homes.begun x (x-live base h x may) full) (ap is_idle (x-idle base h x may))

  -- the words of other nodes say what they said
  pub still : {A : Type 0} (f : ControlWord → A) (y : Name) → (x ≡ y → ⊥) →
      f (control_at begun_scene.state y) ≡ f (control_at base y)
  still f y ne = ap f (word-other base h x may y ne)

  -- a word that is neither idle nor held is of another node
  pub other-by : (test : ControlWord → Bool) → test (Busy 0) ≡ false → (y : Name) →
      test (control_at begun_scene.state y) ≡ true → x ≡ y → ⊥
  other-by test unlike y is e =
      both_ways (test (control_at begun_scene.state y))
      (ap (λ z. test (control_at begun_scene.state z)) (sym e) ∙ ap test (word-here base h x may) ∙ unlike) is

  -- a name that is live after it was live before
  live-waiting : (y : Name) → (is_waiting (control_at base y) || is_resting (control_at base y)) ≡ true →
      is_live base y ≡ true
  live-waiting y w =
      either (is_live base y) (λ l. l)
      (λ dead. absurd (both_ways (is_waiting (control_at base y) || is_resting (control_at base y))
      (ap (λ c. is_waiting c || is_resting c) (cond-false (is_live base y) (base.control y.block y.node) Idle dead)) w))

  one-start : (n : ℕ) (y : Name) → x ≡ beside y n →
      one (is_under_way (control_at begun_scene.state (beside y n))) + stand begun_scene.state (λ v. v.starts) (beside y n)
      + one (is_done (control_at begun_scene.state (beside y n)) && is_full (begun_scene.home y.block n))
      ≡ one (is_under_way (control_at base (beside y n))) + stand base (λ v. v.starts) (beside y n)
      + one (is_done (control_at base (beside y n)) && is_full (s.home y.block n))
  one-start n y e =
      let now : control_at begun_scene.state (beside y n) ≡ Busy 0 =
      ap (control_at begun_scene.state) (sym e) ∙ word-here base h x may in
      let was : control_at base (beside y n) ≡ Idle = ap (control_at base) (sym e) ∙ x-idle base h x may in
      let a : one (is_under_way (control_at begun_scene.state (beside y n))) ≡ 1 = ap (λ c. one (is_under_way c)) now in
      let b : one (is_done (control_at begun_scene.state (beside y n)) && is_full (begun_scene.home y.block n)) ≡ 0 =
      ap (λ c. one (is_done c && is_full (begun_scene.home y.block n))) now in
      let c : one (is_under_way (control_at base (beside y n))) ≡ 0 = ap (λ c. one (is_under_way c)) was in
      let d : one (is_done (control_at base (beside y n)) && is_full (s.home y.block n)) ≡ 0 =
      ap (λ c. one (is_done c && is_full (s.home y.block n))) was in
      let g : stand begun_scene.state (λ v. v.starts) (beside y n) + 1 ≡ stand base (λ v. v.starts) (beside y n) =
      ap (λ z. stand begun_scene.state (λ v. v.starts) z + 1) (sym e) ∙ starts-here base h x may
      ∙ ap (stand base (λ v. v.starts)) e in
      omega (arith, a, b, c, d, g)

  named-same : (y : Name) → is_live base y ≡ true → named_below begun_scene y ≡ named_below s y
  named-same y live =
      total-same _ _ (size base) (λ n below. times-same (is_child base.tree y.node n) _ _ (λ child.
      by_name x (beside y n)
      (λ e. one-start n y e)
      (λ ne.
      let l = lives base y live in
      let there : is_live base (beside y n) ≡ true =
      is_live-from base (beside y n) (record {
        block = l.block;
        node = child-within base.tree y.node n child;
        is_opened = l.is_opened;
        generation = l.generation;
      }) in
      λ k. one (is_under_way (word-other base h x may (beside y n) ne k)) + starts-other base h x may (beside y n) ne k
      + one (is_done (word-other base h x may (beside y n) ne k) && full-same (beside y n) there k))))

  -- a child that is done isn't this node, and is done still
  done-begun : (y : Name) → done_below base y ≤ done_below begun_scene.state y
  done-begun y =
      done-more (is_child base.tree y.node) (λ n. is_done (control_at base (beside y n)))
      (λ n. is_done (control_at begun_scene.state (beside y n))) (size base) (λ n child done.
      by_name x (beside y n)
      (λ e. absurd (both_ways (is_done (control_at base (beside y n)))
      (ap (λ z. is_done (control_at base z)) (sym e) ∙ ap is_done (x-idle base h x may)) done))
      (λ ne. still is_done (beside y n) ne ∙ done))

  -- the parent of a node whose start is owed waits, and its last await named some
  parent-named : (y : Name) (n : ℕ) → is_child base.tree y.node n ≡ true → x ≡ beside y n → 1 ≤ s.past.named y
  parent-named y n child is =
      let within = child-within base.tree y.node n child in
      let all = stand-at base (λ v. v.starts) h x may.below in
      let owes = may.owes in
      let here : stand base (λ v. v.starts) x ≡ stand base (λ v. v.starts) (beside y n) = ap (stand base (λ v. v.starts)) is in
      let most = weight-most base y n may.sound within child in
      let waits = homes.named y (le-leb 1 (pending (control_at base y)) (omega (arith, most, all, owes, here))) in
      let kid : ℕ → ℕ =
      λ m. one (is_under_way (control_at base (beside y m))) + stand base (λ v. v.starts) (beside y m)
      + one (is_done (control_at base (beside y m)) && is_full (home_of s (beside y m))) in
      let at : one (is_child base.tree y.node n) * kid n ≤ named_below s y = total-at (λ m. one (is_child base.tree y.node m) * kid m) (size base) n within in
      let whole : one (is_child base.tree y.node n) * kid n ≡ 1 * kid n = λ k. one (child k) * kid n in
      omega (arith, at, whole, waits, all, owes, here)

  pub homes-begun : HomesStand begun_scene
  homes-begun =
      record {
        out = λ y live.
            either (is_kid y.block y.node) (λ t. out-kid y t live)
            (λ apart. by_name x y
            (λ e. subst (λ z. is_out (home_of begun_scene z) ≡ nat_le 1 (seats_of begun_scene z)) e out-own)
            (λ ne. out-apart y ne apart live));
        closed = λ i n shut.
            let apart : is_kid i n ≡ false =
            false_from_ne_true (is_kid i n) (λ t.
            let parts = and_parts (i == x.block) (is_child base.tree x.node n) t in
            both_ways (is_open (base.block i).state) shut
            (subst (λ j. is_open (base.block j).state ≡ true) (sym (eqb-true i x.block parts.0))
            (lives base x (x-live base h x may)).is_opened)) in
            cond-false (is_kid i n) Out (s.home i n) apart ∙ homes.closed i n shut;
        begun = λ y live full.
            let was = full-before y.block y.node full in
            by_name x y
            (λ e. absurd (own-out (subst (λ z. is_full (home_of s z) ≡ true) (sym e) was)))
            (λ ne. still is_idle y ne ∙ homes.begun y live was);
        above = λ y p live full is.
            let was = full-before y.block y.node full in
            by_name x (beside y p)
            (λ e. ap (λ z. is_done (control_at begun_scene.state z)) (sym e) ∙ ap is_done (word-here base h x may))
            (λ ne. still is_done (beside y p) ne ∙ homes.above y p live was is);
        waiting = λ y w.
            let ne = other-by (λ c. is_waiting c || is_resting c) refl y w in
            let was = sym (still (λ c. is_waiting c || is_resting c) y ne) ∙ w in
            full-same y (live-waiting y was) ∙ homes.waiting y was;
        reported = λ y r.
            let e = reports-same base h x may y in
            let was = homes.reported y (omega (arith, r, e)) in
            either (is_live base y)
            (λ live. full-same y live ∙ was)
            (λ dead.
            let none = (may.sound.owned.names y).report in
            let word : control_at base y ≡ Idle = cond-false (is_live base y) (base.control y.block y.node) Idle dead in
            let zero_most : one (is_done (control_at base y) && not (is_root base.tree y.node)) ≡ 0 =
            ap (λ c. one (is_done c && not (is_root base.tree y.node))) word in
            absurd (omega (arith, r, e, none, zero_most)));
        resting = λ y n r child.
            let ne = other-by is_resting refl y r in
            let was = sym (still is_resting y ne) ∙ r in
            false_from_ne_true (is_full (begun_scene.home y.block n)) (λ full.
            both_ways (is_full (s.home y.block n)) (homes.resting y n was child) (full-before y.block n full));
        named = λ y w.
            let ne = other-by is_waiting refl y w in
            let was = sym (still is_waiting y ne) ∙ w in
            let live = live-waiting y (ap (λ b. b || is_resting (control_at base y)) was) in
            named-same y live ∙ homes.named y was ∙ sym (cond-false (same x y) 0 (s.past.named y) (same-other x y ne));
        met = λ y begun rests.
            by_name x y
            (λ e. subst (λ z. begun_past.named z ≤ done_below begun_scene.state z) e
            (let none : begun_past.named x ≡ 0 = cond-true (same x x) 0 (s.past.named x) (same-refl x) in omega (arith, none)))
            (λ ne.
            let was = homes.met y (sym (still is_idle y ne) ∙ begun) (sym (still is_waiting y ne) ∙ rests) in
            let named : begun_past.named y ≡ s.past.named y = cond-false (same x y) 0 (s.past.named y) (same-other x y ne) in
            let more = done-begun y in omega (arith, was, named, more));
        asked = λ y n child begun.
            by_name x y
            (λ e.
            let below : is_child base.tree x.node n ≡ true = subst (λ z. is_child base.tree z.node n ≡ true) (sym e) child in
            let apart : x ≡ beside x n → ⊥ =
            λ own.
            let none = kid-weightless base h x may n below in
            let all = stand-at base (λ v. v.starts) h x may.below in
            let owes = may.owes in
            let here : stand base (λ v. v.starts) x ≡ stand base (λ v. v.starts) (beside x n) = ap (stand base (λ v. v.starts)) own in
            absurd (omega (arith, none, all, owes, here)) in
            let now : is_idle (control_at begun_scene.state (beside x n)) ≡ false =
            subst (λ z. is_idle (control_at begun_scene.state (beside z n)) ≡ false) (sym e) begun in
            absurd (both_ways (is_idle (control_at base (beside x n)))
            (ap is_idle (sym (word-other base h x may (beside x n) apart)) ∙ now) (kid-idle base h x may n below)))
            (λ ne.
            let named : begun_past.named y ≡ s.past.named y = cond-false (same x y) 0 (s.past.named y) (same-other x y ne) in
            let some : 1 ≤ s.past.named y =
            by_name x (beside y n)
            (λ is. parent-named y n child is)
            (λ apart. homes.asked y n child (ap is_idle (sym (word-other base h x may (beside y n) apart)) ∙ begun)) in
            omega (arith, named, some));
      }
