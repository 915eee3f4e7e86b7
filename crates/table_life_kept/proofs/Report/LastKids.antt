-- The children of a node at the last report: none of them is under way, and all their homes are at home.
use Rattle.std.proofs.Common.{◌≡◌, ℕ, ◌*◌, ◌≤◌, Bool, true, false, not, ◌&&◌, ◌||◌, ◌==◌, ◌∷◌, Option, Some, None, refl, sym, ap, ◌∙◌, subst, ⊎_elim, arith}
use Rattle.std.specs.Prelude.{nat_le, is_some}
use Rattle.std.specs.Option.{option_map_or}
use Rattle.std.proofs.lemmas.Bool.{both_ways, false_from_ne_true, leb-true, leb-false, cases_eq, cond-true}
use Rattle.life_rules.specs.declared.words.ControlWord.{ControlWord}
use Rattle.life_rules.specs.declared.words.ControlWord.TheVariants.{Idle, Busy, ReadyLoop, ReadyPool, Parked, Done}
use Rattle.life_rules.specs.declared.event.Name.{Name}
use Rattle.life_rules.specs.declared.event.SourceRef.TheVariants.{Node}
use Rattle.node_tree.specs.Tree.{is_child, is_root, parent_of, has_source, is_unstoppable, TheNode}
use Rattle.life_rules.specs.Words.{is_idle, is_done, is_held, is_under_way, pending}
use Rattle.common_lemmas.specs.Sums.{one}
use Rattle.life_rules.specs.Views.{beside}
use Rattle.life_rules.specs.States.{State, size, is_live, control_at, bits_at, source_for, stand}
use Rattle.common_lemmas.specs.Sums.{total}
use Rattle.life_rules.specs.Owned.{weight}
use Rattle.life_rules.specs.Callbacks.{nearest_is_requested}
use Rattle.common_lemmas.proofs.Bool.{either}
use Rattle.common_lemmas.proofs.Totals.{total-single, total-same}
use Rattle.life_rules.proofs.Readings.{lives, is_live-from, stand-at}
use Rattle.life_kept.proofs.Puts.{times-same}
use Rattle.life_kept.proofs.Trees.{child-parent, child-within, root-orphan}
use Rattle.life_kept.proofs.Holding.{weight-most}
use Rattle.node_tree.proofs.Walk.{nearest-some}
use Rattle.table_rules.specs.declared.cargo.Cargo.{Ghosts}
use Rattle.table_rules.specs.declared.frame.Frame.{Frame}
use Rattle.table_rules.specs.Scenes.{Full, is_out, is_full, Scene, shown, scene}
use Rattle.table_rules.specs.Homes.{is_waiting, seats_of, done_below}
use Rattle.table_rules.specs.Notes.{children_are_requested}
use Rattle.table_steps.specs.Reports.{CanReport}
use Rattle.table_kept.proofs.Standing.{Standing}
use Rattle.table_life_kept.proofs.Hearing.{children-pass, children-sheltered}
use Rattle.table_life_kept.proofs.LaidSlots.{content_of, content-full, content-some}
use Rattle.table_life_kept.proofs.DoneBelow.{done-more}
use Rattle.table_life_kept.proofs.Move.State.{some-seat, no-seat}
use Rattle.table_life_kept.proofs.Report.State.{above, below, child, owes-now, waits, word-is, above-live}

unheld-way : (c : ControlWord) → is_under_way c ≡ false → one (is_held c) ≡ 0
unheld-way Idle h = refl
unheld-way (Busy n) h = cc
unheld-way ReadyLoop h = cc
unheld-way ReadyPool h = cc
unheld-way Parked h = cc
unheld-way Done h = refl

done-way : (c : ControlWord) → is_idle c ≡ false → is_under_way c ≡ false → is_done c ≡ true
done-way Idle i h = cc
done-way (Busy n) i h = cc
done-way ReadyLoop i h = cc
done-way ReadyPool i h = cc
done-way Parked i h = cc
done-way Done i h = refl

no-one : (b : Bool) → one (b && false) ≡ 0
no-one true = refl
no-one false = refl

one-both : (d full : Bool) → (full ≡ true → d ≡ true) → one (d && full) ≡ one full
one-both true full e = refl
one-both false true e = absurd (both_ways false refl (e refl))
one-both false false e = refl

-- the report of the last child that its parent waits for
pub record LastReport {P E O : Type 0} {cargo : Ghosts P E O} {f : Frame O}
    (hand : Standing cargo f) : Type 0 where
  pub child : Name
  pub can : CanReport f.tree hand.view child
  pub last : pending (control_at (shown f hand.state) (beside child can.parent)) ≡ 1

module _ {P E O : Type 0} (cargo : Ghosts P E O) (f : Frame O) (hand : Standing cargo f)
    (task : LastReport hand) where
  open hand use {state as s, id, view as v, running as r, at}
  open task use {child as c, can, last}

  abbrev now : State
  now = shown f s

  abbrev here : Scene P E
  here = scene f s r.past

  abbrev x : Name
  x = above cargo f hand c can

  abbrev term : ℕ → ℕ
  term n = one (is_child f.tree x.node n) * weight now (beside x n)

  term-of : (n : ℕ) → is_child f.tree x.node n ≡ true → term n ≡ weight now (beside x n)
  term-of n own = let e : term n ≡ 1 * weight now (beside x n) = λ k. one (own k) * weight now (beside x n) in omega (arith, e)

  pub reports-c : 1 ≤ stand now (λ v. v.reports) c
  reports-c =
      let all = stand-at now (λ v. v.reports) id c (below cargo f hand c can) in
      let owes = owes-now cargo f hand c can in omega (arith, all, owes)

  -- what a child of the node counts for, which is nothing but the report of this one
  pub record IsSettledKid (n : ℕ) : Type 0 where
    pub starts : stand now (λ v. v.starts) (beside x n) ≡ 0
    pub under_way : is_under_way (control_at now (beside x n)) ≡ false
    pub reports : (c.node ≡ n → ⊥) → stand now (λ v. v.reports) (beside x n) ≡ 0
    pub most : stand now (λ v. v.reports) (beside x n) ≤ 1

  kid-light : (n : ℕ) → is_child f.tree x.node n ≡ true → (c.node ≡ n → ⊥) → weight now (beside x n) ≡ 0
  kid-light n own ne =
      either (nat_le 1 (weight now (beside x n)))
      (λ t.
      let heavy = leb-true 1 (weight now (beside x n)) t in
      let here_too = term-of n own in
      let this = term-of c.node (child cargo f hand c can) in
      let rep = reports-c in
      let counts = r.stands.sound.counted x in
      absurd (ne (total-single term (size now) c.node n (omega (arith, counts, last))
      (child-within f.tree can.parent c.node (child cargo f hand c can)) (child-within f.tree x.node n own)
      (omega (arith, this, rep)) (omega (arith, here_too, heavy)))))
      (λ t. let none = leb-false 1 (weight now (beside x n)) t in omega (arith, none))

  not-way : (b : Bool) → one b ≡ 0 → b ≡ false
  not-way true h = absurd (omega (arith, h))
  not-way false h = refl

  pub kid-settled : (n : ℕ) → is_child f.tree x.node n ≡ true → IsSettledKid n
  kid-settled n own =
      ⊎_elim
      (λ (e : c.node ≡ n).
      subst IsSettledKid e
      (let most : weight now c ≤ pending (control_at now x) =
      weight-most now x c.node r.stands.sound (child-within f.tree can.parent c.node (child cargo f hand c can)) (child cargo f hand c can) in
      let rep = reports-c in
      record {
        starts = omega (arith, most, last, rep);
        under_way = not-way (is_under_way (control_at now c)) (omega (arith, most, last, rep));
        reports = λ ne. absurd (ne refl);
        most = omega (arith, most, last);
      }))
      (λ ne.
      let light = kid-light n own ne in
      record {
        starts = omega (arith, light);
        under_way = not-way (is_under_way (control_at now (beside x n))) (omega (arith, light));
        reports = λ _. omega (arith, light);
        most = omega (arith, light);
      })
      (cases_eq c.node n)

  pub kid-live : (n : ℕ) → is_child f.tree x.node n ≡ true → is_live now (beside x n) ≡ true
  kid-live n own =
      let l = lives now x (above-live cargo f hand c can) in
      is_live-from now (beside x n) (record {
        block = l.block;
        node = child-within f.tree x.node n own;
        is_opened = l.is_opened;
        generation = l.generation;
      })

  pub unheld-before : one (is_held (control_at now x)) ≡ 0
  unheld-before = ap (λ w. one (is_held w)) (word-is cargo f hand c can) ∙ ap (λ n. one (n == 0)) last

  pub waits-before : is_waiting (control_at now x) ≡ true
  waits-before = some-seat (pending (control_at now x)) (waits cargo f hand c can)

  pub kid-root : (n : ℕ) → is_child f.tree x.node n ≡ true → is_root f.tree n ≡ false
  kid-root n own =
      false_from_ne_true (is_root f.tree n) (λ t.
      both_ways (is_child f.tree x.node n) (root-orphan f.tree r.stands.sound.tree x.node n (child-within f.tree x.node n own) t) own)

  -- no home of a child is out
  pub kid-in : (n : ℕ) → is_child f.tree x.node n ≡ true → is_out (here.home x.block n) ≡ false
  kid-in n own =
      let y = beside x n in
      let kid = kid-settled n own in
      let names = r.stands.sound.owned.names y in
      let a = kid.starts in
      let b = names.held ∙ unheld-way (control_at now y) kid.under_way in
      let d : stand now (λ v. v.finished) y ≡ 0 =
      names.finish ∙ ap (λ t. one (is_done (control_at now y) && t)) (kid-root n own) ∙ no-one (is_done (control_at now y)) in
      let e : option_map_or (λ q. stand now (λ v. v.holds) (beside y q)) (parent_of f.tree n) 0 ≡ 0 =
      ap (λ o. option_map_or (λ q. stand now (λ v. v.holds) (beside y q)) o 0) (child-parent f.tree x.node n own)
      ∙ (r.stands.sound.owned.names x).held ∙ unheld-before in
      r.stands.homes.out y (kid-live n own) ∙ no-seat (seats_of here y) (omega (arith, a, b, d, e))

  -- a child with a full home is done
  pub full-done : (n : ℕ) → is_child f.tree x.node n ≡ true → is_full (here.home x.block n) ≡ true →
      is_done (control_at now (beside x n)) ≡ true
  full-done n own full =
      done-way (control_at now (beside x n)) (r.stands.homes.begun (beside x n) (kid-live n own) full) (kid-settled n own).under_way

  abbrev pub content : ℕ → Option P
  content n = content_of (here.home x.block n)

  -- as many of the homes are full as were named
  pub counts-named : total (λ n. one (is_child f.tree x.node n) * one (is_some (content n))) (size now) ≡ r.past.named x
  counts-named =
      total-same _ _ (size now) (λ n within. times-same (is_child f.tree x.node n) _ _ (λ own.
      let kid = kid-settled n own in
      let a : one (is_under_way (control_at now (beside x n))) ≡ 0 = ap one kid.under_way in
      let b = kid.starts in
      let d = one-both (is_done (control_at now (beside x n))) (is_full (here.home x.block n)) (full-done n own) in
      let e : one (is_some (content n)) ≡ one (is_full (here.home x.block n)) = ap one (content-some (here.home x.block n)) in
      omega (arith, a, b, d, e)))
      ∙ r.stands.homes.named x waits-before

  -- and as many of the children are done
  pub full-kids-done : total (λ n. one (is_child f.tree x.node n) * one (is_some (content n))) (size now) ≤ done_below now x
  full-kids-done =
      done-more (is_child f.tree x.node) (λ n. is_some (content n)) (λ n. is_done (control_at now (beside x n))) (size now)
      (λ n own full. full-done n own (sym (content-some (here.home x.block n)) ∙ full))

  -- what lies in a child's home
  pub record IsKid (n : ℕ) (item : P) : Type 0 where
    pub full : here.home x.block n ≡ Full item
    pub done : is_done (control_at now (beside x n)) ≡ true
    pub delivered : r.past.delivered (beside x n) ≡ Some item

  pub kid-item : (n : ℕ) (item : P) → is_child f.tree x.node n ≡ true → content n ≡ Some item → IsKid n item
  kid-item n item own is =
      let full = content-full (here.home x.block n) item is in
      let done = full-done n own (ap is_full full) in
      record { full = full; done = done; delivered = r.stands.items.delivered (beside x n) item done (kid-root n own) full }

  same-item : (a b : P) → Some a ≡ Some b → a ≡ b
  same-item a b e = cc

  pub kid-ends : (n : ℕ) (item : P) → is_child f.tree x.node n ≡ true → content n ≡ Some item → cargo.ends item
  kid-ends n item own is =
      let kid = kid-item n item own is in
      let t = r.stands.items.ended (beside x n) kid.done (kid-root n own) in
      subst cargo.ends (same-item t.0 item (sym t.1 ∙ kid.delivered)) t.2

  kid-hears : (n : ℕ) → is_child f.tree x.node n ≡ true → nearest_is_requested now (beside x n) ≡ children_are_requested now x
  kid-hears n own =
      ap (λ near. option_map_or (λ source. (bits_at now source).requested) (source_for x near) false)
      (nearest-some f.tree n x.node r.stands.sound.tree (child-parent f.tree x.node n own))

  pub kid-fits : (n : ℕ) (item : P) → is_child f.tree x.node n ≡ true → content n ≡ Some item →
      cargo.fits item n (children_are_requested now x)
  kid-fits n item own is =
      subst (cargo.fits item n) (kid-hears n own)
      (r.stands.items.fit (beside x n) item (kid-live n own) (kid-item n item own is).full)

  pub kid-below : (n : ℕ) (item : P) → is_child f.tree x.node n ≡ true → content n ≡ Some item →
      (e : E) × (cargo.start item ≡ e ∷ r.past.start x)
  kid-below n item own is =
      let full = (kid-item n item own is).full in
      let begun = r.stands.homes.begun (beside x n) (kid-live n own) (ap is_full full) in
      let up = r.stands.starts.descends (beside x n) x.node begun (child-parent f.tree x.node n own) in
      (up.0, r.stands.starts.shows (beside x n) item (kid-live n own) full ∙ up.1)

  pub kid-draws : (n : ℕ) (item : P) → is_child f.tree x.node n ≡ true → content n ≡ Some item →
      cargo.drawn (cargo.start item) ≡ r.past.lot x
  kid-draws n item own is =
      let full = (kid-item n item own is).full in
      let begun = r.stands.homes.begun (beside x n) (kid-live n own) (ap is_full full) in
      ap cargo.drawn (r.stands.starts.shows (beside x n) item (kid-live n own) full)
      ∙ r.stands.lots.below x n waits-before own begun
      (ap (λ b. not (is_done (control_at now (beside x n))) || b) (ap is_full full) ∙ or-true (not (is_done (control_at now (beside x n)))))
    where
      or-true : (a : Bool) → (a || true) ≡ true
      or-true true = refl
      or-true false = refl

  -- where a stop was requested of the children and not above, the request is on the node's own source
  own-source : children_are_requested now x ≡ true → nearest_is_requested now x ≡ false → (bits_at now (Node x)).requested ≡ true
  own-source kids calm =
      either (has_source f.tree x.node)
      (λ has.
      ap (λ near. option_map_or (λ source. (bits_at now source).requested) (source_for x near) false)
      (sym (cond-true (has_source f.tree x.node) (TheNode x.node) _ has)) ∙ kids)
      (λ none.
      either (is_unstoppable f.tree x.node)
      (λ deaf. absurd (both_ways (children_are_requested now x) (children-sheltered now x none deaf) kids))
      (λ hears. absurd (both_ways (children_are_requested now x) (children-pass now x none hears ∙ calm) kids)))

  -- then a child failed that saw no request, and its item lies in its home where all are full
  pub kid-failed : children_are_requested now x ≡ true → nearest_is_requested now x ≡ false →
      ((n : ℕ) → is_child f.tree x.node n ≡ true → is_some (content n) ≡ true) →
      (n : ℕ) × (item : P) × (is_child f.tree x.node n ≡ true) × (content n ≡ Some item) × cargo.fits item x.node false
  kid-failed kids calm all =
      let t = r.stands.items.failures x (own-source kids calm) calm in
      let given = some-content (content t.0) (all t.0 t.2) in
      let kid = kid-item t.0 given.0 t.2 given.1 in
      (t.0, given.0, t.2, given.1, subst (λ i. cargo.fits i x.node false) (same-item t.1 given.0 (sym t.4 ∙ kid.delivered)) t.5)
    where
      some-content : (o : Option P) → is_some o ≡ true → (item : P) × (o ≡ Some item)
      some-content None e = cc
      some-content (Some item) e = (item, refl)
