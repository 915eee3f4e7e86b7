-- What the step by which a stop is requested owes: on what it rests, what the word says that it finds, and
-- which child failed where nothing was requested above.
use Rattle.std.proofs.Common.{◌≡◌, inl, inr, ℕ, ◌<◌, ◌≤◌, Bool, true, false, not, ◌&&◌, ◌||◌, List, length, refl, sym, ap, ◌∙◌, subst, arith}
use Rattle.std.specs.Prelude.{bit_or, nat_le, slice_index}
use Rattle.std.proofs.lemmas.Bool.{and_from, or_left, or_right, or_cases, both_ways, not-true, cond-true, eq-eqb, le-leb, lt-ltb}
use Rattle.node_tree.specs.declared.node.TreeNode.{TreeNode}
use Rattle.life_rules.specs.declared.words.Bits.{Bits}
use Rattle.life_rules.specs.declared.words.ControlWord.TheVariants.{Idle}
use Rattle.life_rules.specs.declared.event.Name.{Name}
use Rattle.life_rules.specs.declared.event.SourceRef.{SourceRef}
use Rattle.life_rules.specs.declared.event.SourceRef.TheVariants.{Scope, Node}
use Rattle.node_tree.specs.Tree.{is_child}
use Rattle.life_rules.specs.Words.{is_idle, is_running, has_run, clear}
use Rattle.life_rules.specs.Views.{View as PureView, beside}
use Rattle.life_rules.specs.States.{State, is_live, phase_at, bits_at, nearest_of}
use Rattle.life_rules.specs.Callbacks.{nearest_is_requested}
use Rattle.life_rules.specs.Requests.{may_scan}
use Rattle.life_rules.proofs.Readings.{lives, begun-live}
use Rattle.life_kept.proofs.Trees.{child-within}
use Rattle.stop_kept.proofs.Standing.{runs-running}
use Rattle.stop_kept.proofs.Sources.{has_begun, source_cases, requested-begun, requested-more}
use Rattle.stop_kept.proofs.Asking.{Grounds, after_asking, reads-asking, still-requested}
use Rattle.stop_kept.proofs.Grounds.{first-grounds}
use Rattle.table_words.specs.declared.layout.Layout.{Layout}
use Rattle.table_words.specs.Stamps.{stamp_of}
use Rattle.table_words.specs.Controls.{source_read}
use Rattle.table_words.specs.Layouts.{OfSource, IsSpot, index}
use Rattle.atomic_table.specs.Table.{Allows, keeps, stepped}
use Rattle.table_rules.specs.declared.cargo.Cargo.{Ghosts}
use Rattle.table_rules.specs.declared.frame.Frame.{Frame}
use Rattle.table_rules.specs.declared.view.Reported.{Reported}
use Rattle.table_rules.specs.ShownWords.{block_of, is_there, is_said, word_of, said_at}
use Rattle.table_rules.specs.ShownViews.{shown_view}
use Rattle.table_rules.specs.Scenes.{Scene, shown, scene}
use Rattle.table_rules.specs.Items.{HasFailedChild}
use Rattle.table_rules.specs.Running.{Running}
use Rattle.table_steps.specs.Claims.{with_step}
use Rattle.table_steps.specs.Seats.{Seated}
use Rattle.table_steps.specs.Slots.{IsSeated}
use Rattle.table_steps.specs.Sights.{spot_of, has_one}
use Rattle.table_steps.specs.Requests.{mask, asks, asks_at, AsksAt, IsWordOf, OwesFailed, MayAskScope, MayForward, HasAsked, MayRequest}
use Rattle.table_kept.proofs.Standing.{Standing}
use Rattle.table_kept.proofs.Listing.{AllowsListed, allows-listed, lists-one}
use Rattle.table_kept.proofs.Seats.{at_within}
use Rattle.table_kept.proofs.Entries.{found}
use Rattle.table_kept.proofs.ViewMoves.{view-here}
use Rattle.table_kept.proofs.LiveNames.{open-kept}
use Rattle.table_kept.proofs.HeldNow.{held, holds-now}
use Rattle.table_kept.proofs.SeenStands.{seen-stands}
use Rattle.table_stop_kept.proofs.PartsLive.{seen-stays}
use Rattle.table_stop_kept.proofs.Scan.Skip.{some_below-from}
use Rattle.table_stop_kept.proofs.Source.Spots.{SaysOf, IsLiveSource}
use Rattle.table_stop_kept.proofs.Request.Blame.{blamed}
use Rattle.table_stop_kept.proofs.Request.Runs.{request-runs}

pub read-of : (word : ℕ) (bits : Bits) (t : SourceRef) → SaysOf word bits t → source_read word ≡ bits
read-of word bits Scope says = says
read-of word bits (Node y) says = says.0

word-of : (word : ℕ) (bits : Bits) (t : SourceRef) → SaysOf word bits t → IsWordOf t word
word-of word bits Scope says = tt
word-of word bits (Node y) says = says.1

module _ {P E O : Type 0} (cargo : Ghosts P E O) (f : Frame O) (hand : Standing cargo f) where
  open hand use {state as s, id, view as v, running as r, at}

  abbrev now : State
  now = shown f s

  abbrev here : Scene P E
  here = scene f s r.past

  is-shown : now.view id ≡ shown_view (block_of f.layout s.words) v
  is-shown = view-here (block_of f.layout s.words) s.views id v at

  hand_below : id < f.hands
  hand_below = let l = at_within s.views id v at in let m = r.sized.seats in omega (arith, l, m)

  -- the word of a source that has begun says its bits now
  pub says-now : (t : SourceRef) → IsSpot f.layout (spot_of t) → has_one f.tree t → has_begun now t ≡ true →
      SaysOf (slice_index s.words (index f.layout (spot_of t))) (bits_at now t) t
  says-now Scope spot one begun = refl
  says-now (Node y) spot one begun =
      let alive : is_live now y ≡ true = begun-live now y (not-true _ begun) in
      let l = lives now y alive in
      let n = word_of f.layout s.words (OfSource y.block y.node) in
      let busy : is_idle (now.control y.block y.node) ≡ false =
      ap is_idle (sym (cond-true (is_live now y) (now.control y.block y.node) Idle alive)) ∙ not-true _ begun in
      let stamped : stamp_of n ≡ (now.block y.block).generation = r.stamped.renewed y.block y.node spot.0 spot.1 one busy in
      let there : is_there f.layout y.block y.node ≡ true =
      and_from _ _ (lt-ltb y.block f.layout.blocks spot.0) (lt-ltb y.node f.layout.nodes spot.1) in
      let said : is_said (now.block y.block) n ≡ true =
      and_from _ _ (ap not (open-kept (now.block y.block).state l.is_opened)) (eq-eqb _ _ stamped) in (
        sym (cond-true (is_live now y) (now.source y.block y.node) clear alive
            ∙ cond-true (is_there f.layout y.block y.node) (said_at (now.block y.block) clear source_read n) clear there
            ∙ cond-true (is_said (now.block y.block) n) (source_read n) clear said),
        stamped ∙ sym l.generation,
      )

  pub live-now : (t : SourceRef) → has_begun now t ≡ true → IsLiveSource now t
  live-now Scope begun = tt
  live-now (Node y) begun = begun-live now y (not-true _ begun)

  -- hand 0 asks of the scope
  scope-grounds : MayAskScope f v → Grounds now id Scope false
  scope-grounds may =
      record {
        begun = refl;
        within = λ x e none. cc;
        cause = λ x e. cc;
        scope = λ e none. sym (r.stands.views.number id v at) ∙ may.number;
      }

  -- the hand owes the report of a child
  failed-grounds : (x : Name) → OwesFailed cargo f.tree v x → Grounds now id (Node x) true
  failed-grounds x may =
      let y = beside x may.child in
      let counts = (found (λ (e : Reported P E). e.name) v.reported y may.entry may.owes).counts in
      let owed : 1 ≤ (now.view id).reports y = subst (λ (u : PureView). 1 ≤ u.reports y) (sym is-shown) counts in
      first-grounds now id x true r.stands.sound hand_below
      (some_below-from (λ n. is_child f.tree x.node n && nat_le 1 ((now.view id).reports (beside x n))) (length f.tree) may.child
      (child-within f.tree x.node may.child may.is_below) (and_from _ _ may.is_below (le-leb 1 ((now.view id).reports y) owed)))

  module _ (x : Name) (may : MayForward f.tree v x) where
    -- the request that is passed on stands
    near-asked : nearest_is_requested now x ≡ true
    near-asked =
        elim may [
          | inl runs ↦
              let run : 1 ≤ (now.view id).runs x = subst (λ (u : PureView). 1 ≤ u.runs x) (sym is-shown) runs in
              r.stands.sound.runs.cause x
              (or_left (is_running (phase_at now x)) (has_run (phase_at now x)) (runs-running now id x r.stands.sound.runs hand_below run))
          | inr holds ↦
              seen-stands cargo f hand x (held cargo f hand (record {
                name = x;
                entry = holds.held;
                holds = holds.holds;
              })).live holds.seen
        ]

    forward-grounds : Grounds now id (Node x) false
    forward-grounds =
        elim may [
          | inl runs ↦
              let run : 1 ≤ (now.view id).runs x = subst (λ (u : PureView). 1 ≤ u.runs x) (sym is-shown) runs in
              first-grounds now id x false r.stands.sound hand_below (or_left (nat_le 1 ((now.view id).runs x)) _ (le-leb 1 ((now.view id).runs x) run))
          | inr holds ↦
              let held_now = held cargo f hand (record {
                name = x;
                entry = holds.held;
                holds = holds.holds;
              }) in
              let hold : 1 ≤ (now.view id).holds x = holds-now cargo f hand (record {
                name = x;
                entry = holds.held;
                holds = holds.holds;
              }) in
              let bits = bits_at now (Node x) in
              record {
                begun = ap not (ap is_idle held_now.word);
                within = λ y e none.
                    let is : x ≡ y = cc in
                    let scans : 1 ≤ may_scan now (now.view id) x = omega (arith, hold) in
                    subst (λ z. 1 ≤ may_scan now (now.view id) z) is scans;
                cause = λ y e.
                    let is : x ≡ y = cc in
                    subst (λ z. ((bits.failed || false) || nearest_is_requested now z) ≡ true) is
                    (or_right (bits.failed || false) (nearest_is_requested now x) near-asked);
                scope = λ e none. cc;
              }
        ]

  -- a request that the hand has seen, and whose source can't go away, stands
  still-asked : (t : SourceRef) → HasAsked v t → (bits_at now t).requested ≡ true
  still-asked t again = seen-stays cargo f hand t again.0 again.1

  again-grounds : (t : SourceRef) → HasAsked v t → Grounds now id t false
  again-grounds Scope again =
      record {
        begun = refl;
        within = λ x e none. cc;
        cause = λ x e. cc;
        scope = λ e none. absurd (both_ways (bits_at now Scope).requested none (still-asked Scope again));
      }
  again-grounds (Node x) again =
      let asked = still-asked (Node x) again in
      record {
        begun = requested-begun now (Node x) r.stands.sound asked;
        within = λ y e none. absurd (both_ways (bits_at now (Node x)).requested none asked);
        cause = λ y e.
            let is : x ≡ y = cc in
            subst (λ z. (((bits_at now (Node x)).failed || false) || nearest_is_requested now z) ≡ true) is
            (elim (or_cases _ _ (r.stands.sound.requests.cause x asked)) [
              | inl failed ↦ or_left ((bits_at now (Node x)).failed || false) _ (or_left (bits_at now (Node x)).failed false failed)
              | inr near ↦ or_right ((bits_at now (Node x)).failed || false) _ near
            ]);
        scope = λ e none. cc;
      }

  pub grounds : (t : SourceRef) (failure : Bool) → MayRequest cargo f v t failure → Grounds now id t failure
  grounds Scope true may = absurd may
  grounds Scope false may = elim may [ inl asks ↦ scope-grounds asks | inr again ↦ again-grounds Scope again ]
  grounds (Node x) true may = failed-grounds x may
  grounds (Node x) false may = elim may [ inl passes ↦ forward-grounds x passes | inr again ↦ again-grounds (Node x) again ]

  -- where the request is new, and nothing is requested above, a child failed
  blame : (t : SourceRef) (failure : Bool) → has_one f.tree t → (may : MayRequest cargo f v t failure) (new : Bool) (y : Name) → Node y ≡ t →
      (bits_at now (Node y)).requested ≡ false →
      nearest_is_requested (after_asking now id t failure new) y ≡ false → HasFailedChild cargo here y
  blame Scope failure one may new y is calm above = cc
  blame (Node x) true one may new y is calm above =
      let same : x ≡ y = cc in
      subst (HasFailedChild cargo here) same
      (blamed cargo f hand (record {
        name = x;
        child = may.child;
        is_child = may.is_below;
        has = one;
        entry = may.entry;
        owes = may.owes;
        failed = may.failed;
        calm = (subst (λ z. (bits_at now (Node z)).requested ≡ false) (sym same) calm);
      }))
  blame (Node x) false one may new y is calm above =
      let same : x ≡ y = cc in
      elim may [
        | inl passes ↦
            let after : State = after_asking now id (Node x) false new in
            let more = still-requested now after (Node x) false (reads-asking now id (Node x) false new (forward-grounds x passes).begun) in
            let near : nearest_is_requested now y ≡ true = subst (λ z. nearest_is_requested now z ≡ true) same (near-asked x passes) in
            absurd (both_ways (nearest_is_requested after y) above (requested-more now after (nearest_of now y) more near))
        | inr again ↦
            absurd (both_ways ((bits_at now (Node y)).requested) calm
            (subst (λ z. (bits_at now (Node z)).requested ≡ true) same (still-asked (Node x) again)))
      ]

-- what the step owes
asks_allowed : {P E O : Type 0} (cargo : Ghosts P E O) (f : Frame O) (slots id : ℕ) (source : SourceRef) (failure : Bool) (m : Seated P E) →
    IsSpot f.layout (spot_of source) → has_one f.tree source → MayRequest cargo f m.0 source failure →
    Allows (Running cargo f) slots id m (index f.layout (spot_of source)) (λ n. bit_or n (mask failure))
    (λ n m'. AsksAt source (index f.layout (spot_of source)) n (bit_or n (mask failure)) m m')
asks_allowed {P} {E} cargo f slots id source failure m spot one may s r deep at small =
    let hand : Standing cargo f = record { state = s; id = id; view = m.0; running = r; at = at } in
    let now : State = shown f s in
    let i = index f.layout (spot_of source) in
    let n = slice_index s.words i in
    let g : Grounds now id source failure = grounds cargo f hand source failure may in
    let says : SaysOf n (bits_at now source) source = says-now cargo f hand source spot one g.begun in
    let read : source_read n ≡ bits_at now source = read-of n (bits_at now source) source says in
    let new : Bool = not (bits_at now source).requested in
    let after : State = after_asking now id source failure new in (
      (asks_at source i n (bit_or n (mask failure)) m).0,
      keeps,
      tt,
      subst (λ (b : Bits). Running cargo f (stepped s i (bit_or n (mask failure)) id m.1 (with_step i n (bit_or n (mask failure)) (asks source (not b.requested) m.0)) keeps)) (sym read)
          (request-runs cargo f hand (record {
            source = source;
            failure = failure;
            spot = spot;
            live = live-now cargo f hand source g.begun;
            says = says;
            grounds = g;
          })
          (λ y asked calm above.
          source_cases (Node y) source
          (λ is. blame cargo f hand source failure one may new y is calm above)
          (λ other.
          absurd (both_ways ((bits_at now (Node y)).requested) calm
          (ap (λ b. b.requested) (sym ((reads-asking now id source failure new g.begun).there (Node y) other)) ∙ asked))))),
      record {
        me_is = refl;
        is_of = word-of n (bits_at now source) source says;
        stands = λ seen alive. ap (λ b. b.requested) read ∙ seen-stays cargo f hand source seen alive;
      },
    )

-- the same by the frame that the table shows
pub asks-at : {P E O : Type 0} (cargo : Ghosts P E O) (board f : Frame O) (slots id i bits : ℕ) (source t : SourceRef) (failure : Bool) (m : Seated P E) → board ≡ f →
    i ≡ index board.layout (spot_of source) → bits ≡ mask failure → t ≡ source → IsSpot board.layout (spot_of source) → has_one board.tree source →
    MayRequest cargo board m.0 source failure →
    AllowsListed cargo f slots id m i (λ n. bit_or n bits) (λ n m'. AsksAt t i n (bit_or n bits) m m')
asks-at cargo board f slots id i bits source t failure m same i_is bits_are t_is spot one may =
    allows-listed cargo f slots id m i (λ n. bit_or n bits) (λ n m'. AsksAt t i n (bit_or n bits) m m')
    (λ n m' told. lists-one i n (bit_or n bits) m m' (asks t (not (source_read n).requested) m.0) (ap (λ z. z.0) told.me_is) refl refl refl refl)
    (subst (λ z. Allows (Running cargo z) slots id m i (λ n. bit_or n bits) (λ n m'. AsksAt t i n (bit_or n bits) m m')) same
    (subst (λ (z : ℕ × ℕ × SourceRef). Allows (Running cargo board) slots id m z.0 (λ n. bit_or n z.1) (λ n m'. AsksAt z.2 z.0 n (bit_or n z.1) m m'))
    (λ k. (sym i_is k, sym bits_are k, sym t_is k))
    (asks_allowed cargo board slots id source failure m spot one may)))

-- the hand still carries each slot once
pub asked-seated : {P E : Type 0} (tree : List TreeNode) (l : Layout) (i n left : ℕ) (source : SourceRef) (m : Seated P E) → IsSeated tree l m →
    IsSeated tree l (asks_at source i n left m)
asked-seated tree l i n left source m old = record { apart = old.apart; given = old.given; itself = old.itself }
