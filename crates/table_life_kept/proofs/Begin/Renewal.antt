-- The store by which the source of a node that hasn't begun is written as clear keeps the rule: it read
-- as clear before.
use Rattle.std.proofs.Common.{◌≡◌, ℕ, ◌^◌, ◌<◌, ◌≤◌, true, false, not, ◌&&◌, ◌==◌, List, set, refl, sym, ap, ◌∙◌, subst, arith, length-set}
use Rattle.std.specs.Prelude.{Some, slice_index}
use Rattle.std.proofs.lemmas.Bool.{and_parts, and_from, both_ways, cond-true, eqb-true, eq-eqb, lt-ltb}
use Rattle.life_rules.specs.declared.words.ControlWord.TheVariants.{Idle}
use Rattle.life_rules.specs.declared.words.CallbackPhase.TheVariants.{Never}
use Rattle.life_rules.specs.declared.event.Name.{Name}
use Rattle.node_tree.specs.Tree.{has_source}
use Rattle.life_rules.specs.declared.words.Bits.{Bits}
use Rattle.life_rules.specs.Words.{is_idle, is_under_way, clear}
use Rattle.life_rules.specs.Views.{View as PureView}
use Rattle.life_rules.specs.States.{State, is_live}
use Rattle.common_lemmas.proofs.Bool.{either}
use Rattle.life_rules.proofs.Readings.{lives}
use Rattle.life_kept.proofs.Holding.{IsOwedStart, owed-start}
use Rattle.table_words.specs.Stamps.{stamp_of}
use Rattle.table_words.specs.Controls.{control_read, callback_read, source_read}
use Rattle.table_words.specs.ScopeNumbers.{scope_read}
use Rattle.table_words.specs.Layouts.{Spot, TheScope, TheScopeSource, OfControl, OfCallback, OfSource, IsSpot, index}
use Rattle.atomic_table.specs.Table.{Allows, keeps}
use Rattle.table_rules.specs.declared.cargo.Cargo.{Ghosts}
use Rattle.table_rules.specs.declared.frame.Frame.{Frame}
use Rattle.table_rules.specs.declared.view.View.{View}
use Rattle.table_rules.specs.declared.view.Owed.{Owed}
use Rattle.table_rules.specs.Named.{find_by}
use Rattle.table_rules.specs.ShownWords.{is_retired, is_said, is_there, block_of, word_of, said_at, control_of, source_of}
use Rattle.table_rules.specs.ShownViews.{view_at, shown_view}
use Rattle.table_rules.specs.Scenes.{shown, scene}
use Rattle.table_rules.specs.Grown.{HasBitsOfSource, IsLaterSource}
use Rattle.table_rules.specs.Running.{Stands, Running}
use Rattle.table_steps.specs.Claims.{with_step}
use Rattle.table_steps.specs.Seats.{Seated}
use Rattle.table_steps.specs.Lefts.{FoundSource}
use Rattle.table_steps.specs.Begins.{Renews}
use Rattle.table_kept.proofs.Standing.{Standing}
use Rattle.table_kept.proofs.Entries.{found}
use Rattle.table_kept.proofs.Seats.{at_within}
use Rattle.table_kept.proofs.Loads.{known-listed}
use Rattle.table_kept.proofs.Stamping.{is_on, bits-same, written-risen, unsaid-kept, renewed-kept}
use Rattle.table_kept.proofs.Counts.{counts-moved}
use Rattle.table_kept.proofs.ViewMoves.{view-here, view-kept, views-same, views-moved}
use Rattle.table_kept.proofs.WordMoves.{word-here}
use Rattle.table_kept.proofs.PlaceMoves as places
use Rattle.table_kept.proofs.LiveNames.{open-kept}
use Rattle.table_kept.proofs.FoundNow.{found-as}

-- which node's source is written as clear
pub record ToRenew {P E O : Type 0} {cargo : Ghosts P E O} {f : Frame O}
    (hand : Standing cargo f) : Type 0 where
  pub value : ℕ
  pub name : Name
  pub owed : Owed E
  pub owes : find_by (λ e. e.name) hand.view.owed name ≡ Some owed
  pub stamped : stamp_of value ≡ name.generation
  pub reads : source_read value ≡ clear

module _ {P E O : Type 0} (cargo : Ghosts P E O) (f : Frame O) (hand : Standing cargo f)
    (task : ToRenew hand) where
  open hand use {state as s, id, view as v, running as r, at}
  open task use {value, name as x, owed, owes, stamped, reads}

  abbrev now : State
  now = shown f s

  shows : now.view id ≡ shown_view (block_of f.layout s.words) v
  shows = view-here (block_of f.layout s.words) s.views id v at

  start : IsOwedStart now x
  start =
      owed-start now id x r.stands.sound
      (let l = at_within s.views id v at in let m = r.sized.seats in omega (arith, l, m))
      (subst (λ (u : PureView). 1 ≤ u.starts x) (sym shows) (found (λ e. e.name) v.owed x owed owes).counts)

  place-b : x.block < f.layout.blocks
  place-b = (lives now x start.live).block

  place-n : x.node < f.layout.nodes
  place-n = let l = (lives now x start.live).node in let e = r.frame.nodes in omega (arith, l, e)

  abbrev at_spot : Spot
  at_spot = OfSource x.block x.node

  abbrev i : ℕ
  i = index f.layout at_spot

  abbrev words : List ℕ
  words = set s.words i value

  spot-kept : (y : Spot) → IsSpot f.layout y → (at_spot ≡ y → ⊥) → word_of f.layout words y ≡ word_of f.layout s.words y
  spot-kept = places.spot-same f.layout s.words r.sized.words at_spot (place-b, place-n) (λ i e. cc) value

  block-kept : (j : ℕ) → block_of f.layout words j ≡ block_of f.layout s.words j
  block-kept = places.blocks-same f.layout s.words r.sized.words at_spot (place-b, place-n) (λ i e. cc) value

  present : stamp_of value ≡ (block_of f.layout s.words x.block).generation
  present = stamped ∙ (lives now x start.live).generation

  there : is_there f.layout x.block x.node ≡ true
  there = and_from _ _ (lt-ltb x.block f.layout.blocks place-b) (lt-ltb x.node f.layout.nodes place-n)

  here : word_of f.layout words at_spot ≡ value
  here = word-here f.layout s.words r.sized.words at_spot (place-b, place-n) value

  -- the node hasn't begun, so its source read as clear
  source-before : source_of f.layout s.words x.block x.node ≡ clear
  source-before =
      sym (cond-true (is_live now x) (now.source x.block x.node) clear start.live)
      ∙ (r.stands.sound.begins x (ap is_idle start.word)).source

  pub found-clear : FoundSource x clear (word_of f.layout s.words at_spot)
  found-clear = found-as cargo f s r x start.live clear source_read OfSource clear (r.stamped.source x.block x.node place-b place-n) source-before

  source-now : source_of f.layout words x.block x.node ≡ clear
  source-now =
      let block = block_of f.layout s.words x.block in
      let kept = open-kept block.state (lives now x start.live).is_opened in
      let test : (not (is_retired block.state) && stamp_of value == block.generation) ≡ true =
      and_from _ _ (ap not kept) (eq-eqb (stamp_of value) block.generation present) in
      cond-true (is_there f.layout x.block x.node) (said_at (block_of f.layout words x.block) clear source_read (word_of f.layout words at_spot)) clear there
      ∙ (λ k. said_at (block-kept x.block k) clear source_read (here k))
      ∙ cond-true (not (is_retired block.state) && stamp_of value == block.generation) (source_read value) clear test
      ∙ reads

  source-kept : (j m : ℕ) → source_of f.layout words j m ≡ source_of f.layout s.words j m
  source-kept j m =
      either (j == x.block && m == x.node)
      (λ t.
      let parts = and_parts (j == x.block) (m == x.node) t in
      let same : (ws : List ℕ) → source_of f.layout ws j m ≡ source_of f.layout ws x.block x.node =
      λ ws k. source_of f.layout ws (eqb-true j x.block parts.0 k) (eqb-true m x.node parts.1 k) in
      same words ∙ source-now ∙ sym source-before ∙ sym (same s.words))
      (λ apart.
      places.said-same f.layout s.words r.sized.words at_spot (place-b, place-n) (λ i e. cc) value clear source_read OfSource j m (λ p q. (p, q))
      (λ e.
      let p : x.block ≡ j = cc in
      let q : x.node ≡ m = cc in
      both_ways (j == x.block && m == x.node) apart (and_from _ _ (eq-eqb j x.block (sym p)) (eq-eqb m x.node (sym q)))))

  stamp-kept : (y : Spot) (j : ℕ) → IsSpot f.layout y → (at_spot ≡ y → ⊥) →
      stamp_of (word_of f.layout s.words y) ≤ (block_of f.layout s.words j).generation →
      stamp_of (word_of f.layout words y) ≤ (block_of f.layout words j).generation
  stamp-kept y j is ne old =
      subst (λ b. stamp_of (word_of f.layout words y) ≤ b.generation) (sym (block-kept j))
      (subst (λ n. stamp_of n ≤ (block_of f.layout s.words j).generation) (sym (spot-kept y is ne)) old)

  stamp-source : (j m : ℕ) → j < f.layout.blocks → m < f.layout.nodes →
      stamp_of (word_of f.layout words (OfSource j m)) ≤ (block_of f.layout words j).generation
  stamp-source j m hj hm =
      either (j == x.block && m == x.node)
      (λ t.
      let parts = and_parts (j == x.block) (m == x.node) t in
      let e : stamp_of (word_of f.layout words at_spot) ≡ (block_of f.layout words x.block).generation =
      ap stamp_of here ∙ present ∙ ap (λ b. b.generation) (sym (block-kept x.block)) in
      let own : stamp_of (word_of f.layout words at_spot) ≤ (block_of f.layout words x.block).generation = omega (arith, e) in
      subst (λ (p : ℕ × ℕ). stamp_of (word_of f.layout words (OfSource p.0 p.1)) ≤ (block_of f.layout words p.0).generation)
      (λ k. (sym (eqb-true j x.block parts.0) k, sym (eqb-true m x.node parts.1) k)) own)
      (λ apart.
      stamp-kept (OfSource j m) j (hj, hm)
      (λ e.
      let p : x.block ≡ j = cc in
      let q : x.node ≡ m = cc in
      both_ways (j == x.block && m == x.node) apart (and_from _ _ (eq-eqb j x.block (sym p)) (eq-eqb m x.node (sym q))))
      (r.stamped.source j m hj hm))

  renewed-source : (j m : ℕ) → j < f.layout.blocks → m < f.layout.nodes → has_source f.tree m ≡ true →
      is_idle (control_of f.layout words j m) ≡ false →
      stamp_of (word_of f.layout words (OfSource j m)) ≡ (block_of f.layout words j).generation
  renewed-source j m hj hm has =
      either (j == x.block && m == x.node)
      (λ t begun.
      let parts = and_parts (j == x.block) (m == x.node) t in
      subst (λ (p : ℕ × ℕ). stamp_of (word_of f.layout words (OfSource p.0 p.1)) ≡ (block_of f.layout words p.0).generation)
      (λ k. (sym (eqb-true j x.block parts.0) k, sym (eqb-true m x.node parts.1) k))
      (ap stamp_of here ∙ present ∙ ap (λ b. b.generation) (sym (block-kept x.block))))
      (λ apart.
      renewed-kept f.layout s.words words j m
      (places.said-same f.layout s.words r.sized.words at_spot (place-b, place-n) (λ i e. cc) value Idle control_read OfControl j m (λ p q. (p, q)) (λ e. cc))
      (spot-kept (OfSource j m) (hj, hm)
      (λ e.
      let p : x.block ≡ j = cc in
      let q : x.node ≡ m = cc in
      both_ways (j == x.block && m == x.node) apart (and_from _ _ (eq-eqb j x.block (sym p)) (eq-eqb m x.node (sym q)))))
      (ap (λ b. b.generation) (block-kept j)) (r.stamped.renewed j m hj hm has))

  -- the word that is written is of no earlier generation. The one before was clear where it was of this one
  grows : IsLaterSource (word_of f.layout s.words at_spot) value
  grows =
      let old = r.stamped.source x.block x.node place-b place-n in
      let e = present in
      let word = word_of f.layout s.words at_spot in
      let block = block_of f.layout s.words x.block in
      record {
        stamp = omega (arith, old, e);
        bits = λ same.
            let said : is_said block word ≡ true =
            and_from _ _ (ap not (open-kept block.state (lives now x start.live).is_opened)) (eq-eqb (stamp_of word) block.generation (same ∙ e)) in
            let was : source_read word ≡ clear =
            sym (cond-true (is_there f.layout x.block x.node) (said_at block clear source_read word) clear there
            ∙ cond-true (is_said block word) (source_read word) clear said)
            ∙ source-before in
            subst (λ (z : Bits × Bits). HasBitsOfSource z.0 z.1) (λ k. (sym was k, sym reads k)) (bits-same clear);
      }

  abbrev mine : View P E
  mine = with_step i (slice_index s.words i) value v

  view-renewed : (h : ℕ) → view_at (block_of f.layout words) (set s.views id mine) h ≡ now.view h
  view-renewed h =
      views-same (block_of f.layout s.words) (block_of f.layout words)
      (λ y k. not (is_retired (block-kept y.block k).state) && y.generation == (block-kept y.block k).generation)
      (set s.views id mine) h
      ∙ view-kept (block_of f.layout s.words) s.views id v mine at refl h

  scene-renewed : scene f record { words = words; homes = s.homes; views = set s.views id mine } r.past ≡ scene f s r.past
  scene-renewed =
      λ k. record {
        state = record {
          tree = f.tree;
          blocks = f.layout.blocks;
          hands = f.hands;
          kind = f.kind;
          most = f.most;
          block = λ j. block-kept j k;
          control = λ j m. places.said-same f.layout s.words r.sized.words at_spot (place-b, place-n) (λ i e. cc) value
              Idle control_read OfControl j m (λ p q. (p, q)) (λ e. cc) k;
          callback = λ j m. places.said-same f.layout s.words r.sized.words at_spot (place-b, place-n) (λ i e. cc) value
              Never callback_read OfCallback j m (λ p q. (p, q)) (λ e. cc) k;
          source = λ j m. source-kept j m k;
          scope_source = source_read (spot-kept TheScopeSource tt (λ e. cc) k);
          scope = scope_read (spot-kept TheScope tt (λ e. cc) k);
          view = λ h. view-renewed h k;
        };
        home = (scene f s r.past).home;
        past = r.past;
      }

  pub renewal-runs : Running cargo f record { words = words; homes = s.homes; views = set s.views id mine }
  renewal-runs =
      let same = scene f s r.past in
      record {
        frame = r.frame;
        sized = record {
          words = length-set s.words i value ∙ r.sized.words;
          homes = r.sized.homes;
          seats = subst (λ n. n ≤ f.hands) (sym (length-set s.views id mine)) r.sized.seats;
        };
        stamped = record {
          control = λ j m hj hm. stamp-kept (OfControl j m) j (hj, hm) (λ e. cc) (r.stamped.control j m hj hm);
          callback = λ j m hj hm. stamp-kept (OfCallback j m) j (hj, hm) (λ e. cc) (r.stamped.callback j m hj hm);
          source = stamp-source;
          settled = λ j m hj hm old.
              let word = spot-kept (OfControl j m) (hj, hm) (λ e. cc) in
              ap (λ w. is_under_way (control_read w)) word
              ∙ r.stamped.settled j m hj hm ((λ k. is_said (sym (block-kept j) k) (sym word k)) ∙ old);
          quiet = λ j m hj hm.
              unsaid-kept (block_of f.layout s.words j) (block_of f.layout words j) (word_of f.layout s.words (OfCallback j m)) (word_of f.layout words (OfCallback j m))
              is_on (block-kept j) (spot-kept (OfCallback j m) (hj, hm) (λ e. cc)) (r.stamped.quiet j m hj hm);
          renewed = renewed-source;
          rises = written-risen f.layout s.views id v mine at s.words value at_spot r.sized.words (place-b, place-n)
              grows refl r.stamped.rises;
          scope = subst (λ w. w < 2 ^ 36) (sym (spot-kept TheScope tt (λ e. cc))) r.stamped.scope;
        };
        past = r.past;
        stands = subst (λ z. Stands cargo f.over.value z (set s.views id mine)) (sym scene-renewed) (record {
          sound = r.stands.sound;
          homes = r.stands.homes;
          starts = r.stands.starts;
          items = r.stands.items;
          lots = r.stands.lots;
          views = views-moved same same s.views id v mine at (λ j u _ _ k. k)
              (known-listed same i (slice_index s.words i) value v (r.stands.views.each id v at)) refl refl r.stands.views;
          counts = counts-moved same.state same.state s.views id v mine at refl refl r.stands.counts;
        });
      }

-- what the renewal owes
pub renews_allowed : {P E O : Type 0} (cargo : Ghosts P E O) (f : Frame O) (slots id value : ℕ) (x : Name) (owed : Owed E) (m : Seated P E) →
    find_by (λ e. e.name) m.0.owed x ≡ Some owed → stamp_of value ≡ x.generation → source_read value ≡ clear →
    Allows (Running cargo f) slots id m (index f.layout (OfSource x.block x.node)) (λ _. value)
    (λ n. Renews x (index f.layout (OfSource x.block x.node)) n value m)
renews_allowed cargo f slots id value x owed m owes stamped reads s r deep at small =
    let hand : Standing cargo f = record { state = s; id = id; view = m.0; running = r; at = at } in
    let renewing : ToRenew hand = record {
      value = value;
      name = x;
      owed = owed;
      owes = owes;
      stamped = stamped;
      reads = reads;
    } in
    let i = index f.layout (OfSource x.block x.node) in (
      with_step i (slice_index s.words i) value m.0,
      keeps,
      tt,
      renewal-runs cargo f hand renewing,
      record { found = found-clear cargo f hand renewing; me_is = refl },
    )
