-- The step by which a scan is sealed keeps the rule.
use Rattle.std.proofs.Common.{◌≡◌, ℕ, ◌-◌, ◌*◌, ◌/◌, ◌%◌, ◌^◌, ◌<◌, true, false, not, ◌==◌, List, length, set, refl, sym, ap, ◌∙◌, subst, arith}
use Rattle.std.specs.Prelude.{Some, None, is_some, bit_or, slice_index}
use Rattle.std.specs.Option.{option_map_or}
use Rattle.std.specs.Int.Bits.{or_zero_r}
use Rattle.std.proofs.lemmas.Nat.{or_mod, or_shr}
use Rattle.std.proofs.lemmas.Bool.{and_parts, and_from, both_ways, cond-true, cond-false, eqb-true, eq-eqb, lt-ltb}
use Rattle.node_tree.specs.declared.node.TreeNode.{TreeNode}
use Rattle.life_rules.specs.declared.words.Bits.{Bits}
use Rattle.life_rules.specs.declared.event.Name.{Name}
use Rattle.life_rules.specs.declared.event.SourceRef.{SourceRef}
use Rattle.life_rules.specs.declared.event.SourceRef.TheVariants.{Scope, Node}
use Rattle.life_rules.specs.declared.event.SourceAt.TheVariants.{Scope as AtScope, At}
use Rattle.life_rules.specs.Words.{clear}
use Rattle.life_rules.specs.Views.{View as PureView, scan_at}
use Rattle.life_rules.specs.States.{State, is_live, bits_at, with_view}
use Rattle.life_rules.specs.Scans.{is_past_all}
use Rattle.life_rules.specs.Requests.{IsScannable}
use Rattle.life_rules.specs.Sound.{Sound}
use Rattle.common_lemmas.proofs.Bool.{either}
use Rattle.life_rules.proofs.Readings.{lives}
use Rattle.stop_kept.proofs.Sources.{words_with, scope_with, asked, Reads, reads, requested-begun, source_cases}
use Rattle.stop_kept.proofs.SealScan.{sound-seal_scan}
use Rattle.table_words.specs.declared.layout.Layout.{Layout}
use Rattle.table_words.specs.Stamps.{stamp_of, code_of}
use Rattle.table_words.specs.Controls.{source_read}
use Rattle.table_words.specs.Layouts.{OfSource, IsSpot, index}
use Rattle.atomic_table.specs.Table.{Allows, keeps}
use Rattle.table_rules.specs.declared.cargo.Cargo.{Ghosts}
use Rattle.table_rules.specs.declared.frame.Frame.{Frame}
use Rattle.table_rules.specs.declared.view.View.{View}
use Rattle.table_rules.specs.ShownWords.{block_of, is_there, is_said, said_at}
use Rattle.table_rules.specs.ShownViews.{shown_view}
use Rattle.table_rules.specs.Scenes.{Scene, shown, scene}
use Rattle.table_rules.specs.Notes.{IsKnown}
use Rattle.table_rules.specs.Running.{Running}
use Rattle.table_steps.specs.Claims.{with_step}
use Rattle.table_steps.specs.Seats.{Seated}
use Rattle.table_steps.specs.Slots.{IsSeated}
use Rattle.table_steps.specs.Sights.{spot_of, says_requested, has_one}
use Rattle.table_steps.specs.ScanSeals.{CanSealScan, seals_scan, SaysUnscanned, SealsScanAt}
use Rattle.table_kept.proofs.Standing.{Standing}
use Rattle.table_kept.proofs.Listing.{AllowsListed, allows-listed, lists-one}
use Rattle.table_kept.proofs.Seats.{at_within}
use Rattle.table_kept.proofs.Masks.{or-four}
use Rattle.table_kept.proofs.Loads.{known-listed}
use Rattle.table_kept.proofs.ViewMoves.{view-here}
use Rattle.table_kept.proofs.LiveNames.{open-kept, place_of, place-live, name-live}
use Rattle.table_stop_kept.proofs.Scan.Views.{scan-dropped}
use Rattle.table_stop_kept.proofs.Scan.Orders.{IsPresentIn, none-heard}
use Rattle.table_stop_kept.proofs.Look.State as looking
use Rattle.table_kept.proofs.Asides.{known-aside}
use Rattle.table_stop_kept.proofs.Source.Runs.{ToWriteSource, source-runs, stands-calm}
use Rattle.table_stop_kept.proofs.Source.Spots.{SaysOf, IsLiveSource}

-- the word with the scanned bit set
module _ (w : ℕ) where
  stamp-kept : stamp_of (bit_or w 4) ≡ stamp_of w
  stamp-kept =
      let none : 4 / 2 ^ 32 ≡ 0 = refl in
      or_shr w 4 32 ∙ ap (bit_or (w / 2 ^ 32)) none ∙ or_zero_r (w / 2 ^ 32)

  scanned-read : source_read (bit_or w 4) ≡ record (source_read w) { scanned = true }
  scanned-read =
      let mask : 4 % 2 ^ 32 ≡ 4 = refl in
      let code : code_of (bit_or w 4) ≡ bit_or (code_of w) 4 = or_mod w 4 32 ∙ ap (bit_or (w % 2 ^ 32)) mask in
      let four = or-four (code_of w) in
      let c = code_of w in
      let d = code_of (bit_or w 4) in
      let a : d % 2 ≡ c % 2 = omega (arith, code, four) in
      let b : d / 2 % 2 ≡ c / 2 % 2 = omega (arith, code, four) in
      let e : d / 4 % 2 ≡ 1 = omega (arith, code, four) in
      λ i. record { requested = a i == 1; failed = b i == 1; scanned = eq-eqb (d / 4 % 2) 1 e i }

pub requested-live : (s : State) (y : Name) → (bits_at s (Node y)).requested ≡ true → is_live s y ≡ true
requested-live s y asks =
    either (is_live s y) (λ t. t)
    (λ dead. absurd (both_ways true (sym asks ∙ ap (λ b. b.requested) (cond-false (is_live s y) (s.source y.block y.node) clear dead)) refl))

-- a word that says of the source what the state has says that it is requested, and not scanned yet
says-unscanned : (w : ℕ) (t : SourceRef) (bits : Bits) → SaysOf w bits t → bits.requested ≡ true → bits.scanned ≡ false → SaysUnscanned t w
says-unscanned w Scope bits so asks calm =
    record { is_of = tt; requested = ap (λ b. b.requested) so ∙ asks; unscanned = ap (λ b. b.scanned) so ∙ calm }
says-unscanned w (Node y) bits so asks calm =
    record { is_of = so.1; requested = ap (λ b. b.requested) so.0 ∙ asks; unscanned = ap (λ b. b.scanned) so.0 ∙ calm }

-- which source's scan is sealed
pub record ToSealScan {P E O : Type 0} {cargo : Ghosts P E O} {f : Frame O}
    (hand : Standing cargo f) : Type 0 where
  pub source : SourceRef
  pub spot : IsSpot f.layout (spot_of source)
  pub one : has_one f.tree source
  pub can : CanSealScan f hand.view source

module _ {P E O : Type 0} (cargo : Ghosts P E O) (f : Frame O) (hand : Standing cargo f)
    (task : ToSealScan hand) where
  open hand use {state as s, id, view as v, running as r, at}
  open task use {source, spot, one, can}

  abbrev now : State
  now = shown f s

  abbrev here : Scene P E
  here = scene f s r.past

  abbrev i : ℕ
  i = index f.layout (spot_of source)

  abbrev n : ℕ
  n = slice_index s.words i

  abbrev old_view : PureView
  old_view = now.view id

  is-shown : old_view ≡ shown_view (block_of f.layout s.words) v
  is-shown = view-here (block_of f.layout s.words) s.views id v at

  hand_below : id < f.hands
  hand_below = let l = at_within s.views id v at in let m = r.sized.seats in omega (arith, l, m)

  scans-now : old_view.scan source ≡ Some can.from
  scans-now = ap (λ (z : PureView). z.scan source) is-shown ∙ can.scans

  scannable : IsScannable now source
  scannable = r.stands.sound.scans.cause id source hand_below (ap is_some scans-now)

  live : (t : SourceRef) → (bits_at now t).requested ≡ true → IsLiveSource now t
  live Scope asks = tt
  live (Node y) asks = requested-live now y asks

  present : (t : SourceRef) → (bits_at now t).requested ≡ true → IsPresentIn now t
  present Scope asks = tt
  present (Node y) asks = (lives now y (requested-live now y asks)).generation

  -- what the word says of the source
  says-now : (t : SourceRef) → source ≡ t → SaysOf n (bits_at now t) t
  says-now Scope is = ap (λ z. source_read (slice_index s.words (index f.layout (spot_of z)))) is
  says-now (Node y) is =
      let asks : (bits_at now (Node y)).requested ≡ true = subst (λ z. (bits_at now z).requested ≡ true) is scannable.requested in
      let alive = requested-live now y asks in
      let l = lives now y alive in
      let placed : IsSpot f.layout (OfSource y.block y.node) = subst (λ z. IsSpot f.layout (spot_of z)) is spot in
      let says : says_requested (Node y) n ≡ true =
      subst (λ z. says_requested z n ≡ true) is (looking.stands-read cargo f s source r spot scannable.requested) in
      let stamped : stamp_of n ≡ y.generation = eqb-true (stamp_of n) y.generation (and_parts (stamp_of n == y.generation) (source_read n).requested says).0 in
      let own = slice_index s.words (index f.layout (OfSource y.block y.node)) in
      let word : own ≡ n = ap (λ z. slice_index s.words (index f.layout (spot_of z))) (sym is) in
      let there : is_there f.layout y.block y.node ≡ true =
      and_from _ _ (lt-ltb y.block f.layout.blocks placed.0) (lt-ltb y.node f.layout.nodes placed.1) in
      let said : is_said (now.block y.block) n ≡ true =
      and_from _ _ (ap not (open-kept (now.block y.block).state l.is_opened)) (eq-eqb _ _ (stamped ∙ l.generation)) in (
        sym (cond-true (is_live now y) (now.source y.block y.node) clear alive
            ∙ cond-true (is_there f.layout y.block y.node) (said_at (now.block y.block) clear source_read own) clear there
            ∙ ap (said_at (now.block y.block) clear source_read) word
            ∙ cond-true (is_said (now.block y.block) n) (source_read n) clear said),
        stamped,
      )

  abbrev bits : Bits
  bits = record (bits_at now source) { scanned = true }

  says-sealed : (t : SourceRef) → SaysOf n (bits_at now t) t → SaysOf (bit_or n 4) (record (bits_at now t) { scanned = true }) t
  says-sealed Scope so = scanned-read n ∙ ap (λ (b : Bits). record b { scanned = true }) so
  says-sealed (Node y) so = (scanned-read n ∙ ap (λ (b : Bits). record b { scanned = true }) so.0, stamp-kept n ∙ so.1)

  abbrev u : PureView
  u = record old_view { scan = scan_at source None old_view.scan }

  past-now : option_map_or (λ j. is_past_all now source j) (old_view.scan source) false ≡ true
  past-now =
      ap (λ o. option_map_or (λ j. is_past_all now source j) o false) scans-now
      ∙ none-heard now source (present source scannable.requested) can.from (length f.tree * f.layout.blocks - can.from) ∙ can.past

  sound-by : (t : SourceRef) → source ≡ t → Sound (asked now t (record (bits_at now t) { scanned = true }) (with_view now id (record old_view { scan = scan_at t None old_view.scan })).view)
  sound-by Scope is =
      sound-seal_scan now id AtScope r.stands.sound hand_below
      (subst (λ z. option_map_or (λ j. is_past_all now z j) (old_view.scan z) false ≡ true) is past-now)
  sound-by (Node y) is =
      let asks : (bits_at now (Node y)).requested ≡ true = subst (λ z. (bits_at now z).requested ≡ true) is scannable.requested in
      let alive = requested-live now y asks in
      let name = name-live now y alive in
      subst (λ z. Sound (asked now (Node z) (record (bits_at now (Node z)) { scanned = true }) (with_view now id (record old_view { scan = scan_at (Node z) None old_view.scan })).view)) name
      (sound-seal_scan now id (At (place_of y)) r.stands.sound hand_below
      (and_from _ _ (and_from _ _ (place-live now y alive) (subst (has_one f.tree) is one))
      (subst (λ z. option_map_or (λ j. is_past_all now (Node z) j) (old_view.scan (Node z)) false ≡ true) (sym name)
      (subst (λ z. option_map_or (λ j. is_past_all now z j) (old_view.scan z) false ≡ true) is past-now))))

  abbrev after_state : State
  after_state = asked now source bits (with_view now id u).view

  reads-after : Reads now after_state source bits
  reads-after = reads now source bits (with_view now id u).view (requested-begun now source r.stands.sound scannable.requested)

  same-requests : (t : SourceRef) → (bits_at after_state t).requested ≡ (bits_at now t).requested
  same-requests t =
      source_cases t source
      (λ is. subst (λ z. (bits_at after_state z).requested ≡ (bits_at now z).requested) (sym is) (ap (λ b. b.requested) reads-after.here))
      (λ other. ap (λ b. b.requested) (reads-after.there t other))

  abbrev mine : View P E
  mine = with_step i n (bit_or n 4) (seals_scan source v)

  shows-mine : shown_view (block_of f.layout s.words) mine ≡ u
  shows-mine =
      (λ k. record (shown_view (block_of f.layout s.words) v) { scan = λ t. scan-dropped source v.scans t k })
      ∙ ap (λ (z : PureView). record z { scan = scan_at source None z.scan }) (sym is-shown)

  known-still : (z : View P E) → IsKnown here z → IsKnown (record here { state = after_state }) z
  known-still z old =
      known-aside here now.callback (words_with now source bits) (scope_with now source bits) now.scope (with_view now id u).view
      (λ t h. same-requests t ∙ h) z (λ y counts known so. so) old

  pub seal-runs : Running cargo f record { words = set s.words i (bit_or n 4); homes = s.homes; views = set s.views id mine }
  seal-runs =
      let says = says-sealed source (says-now source refl) in
      let alive = live source scannable.requested in
      let writing : ToWriteSource hand = record {
        value = bit_or n 4;
        source = source;
        bits = bits;
        spot = spot;
        says = says;
        live = alive;
      } in
      let k = known-still v (r.stands.views.each id v at) in
      source-runs cargo f hand writing mine u shows-mine
      (record { requested = λ t. t; failed = λ t. t; scanned = λ _. refl }) refl
      (stands-calm cargo f hand writing mine u shows-mine (sound-by source refl) same-requests refl refl refl refl
      (λ j z ne there old. known-still z old)
      (known-listed (record here { state = after_state }) i n (bit_or n 4) (seals_scan source v) (record {
        held = k.held;
        owed = k.owed;
        reported = k.reported;
        noted = k.noted;
        unlooked = k.unlooked;
        seen_after = k.seen_after;
        seen = k.seen;
      })))

  -- the word that the step finds
  pub found-unscanned : SaysUnscanned source n
  found-unscanned = says-unscanned n source (bits_at now source) (says-now source refl) scannable.requested scannable.unscanned

-- what the step leaves
pub left-scanned : (n : ℕ) → (stamp_of (bit_or n 4) ≡ stamp_of n) × (source_read (bit_or n 4) ≡ record (source_read n) { scanned = true })
left-scanned n = (stamp-kept n, scanned-read n)

-- what the step owes, by the frame that the table shows
pub seals-at : {P E O : Type 0} (cargo : Ghosts P E O) (board f : Frame O) (slots id i : ℕ) (source t : SourceRef) (m : Seated P E) → board ≡ f →
    i ≡ index board.layout (spot_of source) → t ≡ source → IsSpot board.layout (spot_of source) → has_one board.tree source → CanSealScan board m.0 source →
    AllowsListed cargo f slots id m i (λ n. bit_or n 4) (λ n. SealsScanAt t i n (bit_or n 4) m)
seals-at cargo board f slots id i source t m same i_is t_is spot one can =
    allows-listed cargo f slots id m i (λ n. bit_or n 4) (λ n. SealsScanAt t i n (bit_or n 4) m)
    (λ n m' told. lists-one i n (bit_or n 4) m m' (seals_scan t m.0) (ap (λ z. z.0) told.me_is) refl refl refl refl)
    (subst (λ z. Allows (Running cargo z) slots id m i (λ n. bit_or n 4) (λ n. SealsScanAt t i n (bit_or n 4) m)) same
    (subst (λ (z : ℕ × SourceRef). Allows (Running cargo board) slots id m z.0 (λ n. bit_or n 4) (λ n. SealsScanAt z.1 z.0 n (bit_or n 4) m))
    (λ k. (sym i_is k, sym t_is k))
    (λ s r deep at small.
    let hand : Standing cargo board = record {
      state = s;
      id = id;
      view = m.0;
      running = r;
      at = at;
    } in
    let sealing : ToSealScan hand = record {
      source = source;
      spot = spot;
      one = one;
      can = can;
    } in (
      with_step (index board.layout (spot_of source)) (slice_index s.words (index board.layout (spot_of source)))
          (bit_or (slice_index s.words (index board.layout (spot_of source))) 4) (seals_scan source m.0),
      keeps,
      tt,
      seal-runs cargo board hand sealing,
      record { found = found-unscanned cargo board hand sealing; me_is = refl },
    ))))

-- the hand still carries each slot once
pub seal-seated : {P E : Type 0} (tree : List TreeNode) (l : Layout) (i n left : ℕ) (source : SourceRef) (m : Seated P E) → IsSeated tree l m →
    IsSeated tree l (with_step i n left (seals_scan source m.0), m.1)
seal-seated tree l i n left source m old = record { apart = old.apart; given = old.given; itself = old.itself }
