-- The step by which a scan is sealed is a move of the pure machine.
use Rattle.std.proofs.Common.{◌≡◌, ℕ, ◌<◌, ◌-◌, ◌*◌, true, false, not, length, refl, sym, ap, ◌∙◌, subst, arith}
use Rattle.std.specs.Prelude.{Option, Some, None, is_some, slice_index, slice_set}
use Rattle.std.specs.Option.{option_map_or}
use Rattle.std.proofs.lemmas.Bool.{and_from, cond-true, eq-eqb, lt-ltb}
use Rattle.life_rules.specs.declared.words.Bits.{Bits}
use Rattle.life_rules.specs.declared.event.Name.{Name}
use Rattle.life_rules.specs.declared.event.SourceRef.{SourceRef}
use Rattle.life_rules.specs.declared.event.SourceRef.TheVariants.{Scope, Node}
use Rattle.life_rules.specs.Words.{clear}
use Rattle.life_rules.specs.Requests.{IsScannable}
use Rattle.life_rules.specs.Views.{View as PureView, scan_at}
use Rattle.life_rules.specs.States.{State, is_live, bits_at, with_view}
use Rattle.life_rules.specs.Scans.{is_past_all}
use Rattle.life_rules.proofs.Readings.{lives}
use Rattle.stop_kept.proofs.Sources.{asked}
use Rattle.table_words.specs.Stamps.{stamp_of}
use Rattle.table_words.specs.Controls.{source_read}
use Rattle.table_words.specs.Layouts.{OfSource, IsSpot, index}
use Rattle.atomic_table.specs.Table as table
use Rattle.atomic_table.specs.declared.shared.Seat.{Seat}
use Rattle.table_rules.specs.declared.cargo.Cargo.{Ghosts}
use Rattle.table_rules.specs.declared.frame.Frame.{Frame}
use Rattle.table_rules.specs.declared.view.View.{View}
use Rattle.table_rules.specs.ShownWords.{block_of, is_said, is_there, said_at}
use Rattle.table_rules.specs.ShownViews.{shown_view}
use Rattle.table_rules.specs.Scenes.{shown}
use Rattle.table_rules.specs.Running.{Running}
use Rattle.table_steps.specs.Views.{Board}
use Rattle.table_steps.specs.Claims.{with_step}
use Rattle.table_steps.specs.Requests.{IsWordOf}
use Rattle.table_steps.specs.ScanSeals.{CanSealScan, IsScanSealed, seals_scan}
use Rattle.table_steps.specs.Sights.{spot_of, IsSourceIn}
use Rattle.table_kept.proofs.LiveNames.{open-kept, place-live, name-live}
use Rattle.table_stop_kept.proofs.Scan.Orders.{IsPresentIn, none-heard}
use Rattle.table_stop_kept.proofs.Scan.Seal.{requested-live}
use Rattle.table_stop_kept.proofs.Scan.Views.{scan-dropped}
use Rattle.table_kept.proofs.Seats.{at_within}
use Rattle.table_stop_kept.proofs.Source.Spots.{IsLiveSource, SaysOf}
use Rattle.table_kept.proofs.ViewMoves.{view-here}
use Rattle.table_moves.specs.Moves.{HasStepped}
use Rattle.table_moves.specs.SourceMoves.{SealsScanByMove}
use Rattle.table_moves.proofs.SourceWords.{shown-after}

-- a hand whose scan is through
module _ {P E O : Type 0} (cargo : Ghosts P E O) (board : Board O) (source : SourceRef) (old new : Seat (Option P) (View P E)) (is-in : IsSourceIn board source) (can : CanSealScan board.frame old.me.0 source) (did : IsScanSealed board source old new) (s s' : table.State (Option P) (View P E)) (r : Running cargo board.frame s) (stepped : HasStepped (index board.frame.layout (spot_of source)) did.read did.left old.id old.me.0 new.me.0 s s') where
  abbrev f : Frame O
  f = board.frame

  abbrev now : State
  now = shown f s

  abbrev id : ℕ
  id = old.id

  abbrev v : View P E
  v = old.me.0

  pub below : id < f.hands
  below = let l = at_within s.views id v stepped.before in let m = r.sized.seats in omega (arith, l, m)

  is-shown : now.view id ≡ shown_view (block_of f.layout s.words) v
  is-shown = view-here (block_of f.layout s.words) s.views id v stepped.before

  scans-now : (now.view id).scan source ≡ Some can.from
  scans-now = ap (λ (z : PureView). z.scan source) is-shown ∙ can.scans

  pub scannable : IsScannable now source
  scannable = r.stands.sound.scans.cause id source below (ap is_some scans-now)

  live : (t : SourceRef) → (bits_at now t).requested ≡ true → IsLiveSource now t
  live Scope asks = tt
  live (Node y) asks = requested-live now y asks

  present : (t : SourceRef) → (bits_at now t).requested ≡ true → IsPresentIn now t
  present Scope asks = tt
  present (Node y) asks = (lives now y (requested-live now y asks)).generation

  -- the word that was read says what the source says
  read-is : (t : SourceRef) → source ≡ t → (bits_at now t).requested ≡ true → bits_at now t ≡ source_read did.read
  read-is Scope is asks = ap (λ z. source_read (slice_index s.words (index f.layout (spot_of z)))) (sym is) ∙ ap source_read stepped.read_is
  read-is (Node y) is asks =
      let alive = requested-live now y asks in
      let l = lives now y alive in
      let placed : IsSpot f.layout (OfSource y.block y.node) = subst (λ z. IsSpot f.layout (spot_of z)) is is-in.spot in
      let stamped : stamp_of did.read ≡ y.generation = subst (λ z. IsWordOf z did.read) is did.found.is_of in
      let own = slice_index s.words (index f.layout (OfSource y.block y.node)) in
      let word : own ≡ did.read = ap (λ z. slice_index s.words (index f.layout (spot_of z))) (sym is) ∙ stepped.read_is in
      let there : is_there f.layout y.block y.node ≡ true =
      and_from _ _ (lt-ltb y.block f.layout.blocks placed.0) (lt-ltb y.node f.layout.nodes placed.1) in
      let said : is_said (now.block y.block) did.read ≡ true =
      and_from _ _ (ap not (open-kept (now.block y.block).state l.is_opened)) (eq-eqb _ _ (stamped ∙ l.generation)) in
      cond-true (is_live now y) (now.source y.block y.node) clear alive
      ∙ cond-true (is_there f.layout y.block y.node) (said_at (now.block y.block) clear source_read own) clear there
      ∙ ap (said_at (now.block y.block) clear source_read) word
      ∙ cond-true (is_said (now.block y.block) did.read) (source_read did.read) clear said

  abbrev bits : Bits
  bits = record (bits_at now source) { scanned = true }

  says-left : (t : SourceRef) → source ≡ t → (bits_at now t).requested ≡ true → SaysOf did.left (record (bits_at now t) { scanned = true }) t
  says-left Scope is asks = did.left_is ∙ ap (λ (b : Bits). record b { scanned = true }) (sym (read-is Scope is asks))
  says-left (Node y) is asks = (
    did.left_is ∙ ap (λ (b : Bits). record b { scanned = true }) (sym (read-is (Node y) is asks)),
    did.stamp_is ∙ subst (λ z. IsWordOf z did.read) is did.found.is_of,
  )

  abbrev u : SourceRef → PureView
  u t = record (now.view id) { scan = scan_at t None (now.view id).scan }

  pub sealed : shown f s' ≡ asked now source bits (with_view now id (u source)).view
  sealed =
      shown-after cargo f s r id v stepped.before did.left source bits is-in.spot (says-left source refl scannable.requested)
      (live source scannable.requested)
      (with_step (index f.layout (spot_of source)) did.read did.left (seals_scan source v)) (u source)
      ((λ k. record (shown_view (block_of f.layout s.words) v) { scan = λ t. scan-dropped source v.scans t k })
      ∙ ap (λ (z : PureView). record z { scan = scan_at source None z.scan }) (sym is-shown))
      s' stepped.words_are (stepped.views_are ∙ ap (λ z. slice_set s.views id z.0) did.me_is)

  pub past-now : option_map_or (λ j. is_past_all now source j) ((now.view id).scan source) false ≡ true
  past-now =
      ap (λ o. option_map_or (λ j. is_past_all now source j) o false) scans-now
      ∙ none-heard now source (present source scannable.requested) can.from (length f.tree * f.layout.blocks - can.from) ∙ can.past

pub seals-scan-by_move : {P E O : Type 0} (cargo : Ghosts P E O) → SealsScanByMove cargo
seals-scan-by_move cargo board Scope old new is_in can did s s' r stepped =
    record {
      hand_is = below cargo board Scope old new is_in can did s s' r stepped;
      needs = past-now cargo board Scope old new is_in can did s s' r stepped;
      gives = sealed cargo board Scope old new is_in can did s s' r stepped;
    }
seals-scan-by_move cargo board (Node y) old new is_in can did s s' r stepped =
    let f = board.frame in
    let now = shown f s in
    let id = old.id in
    let alive = requested-live now y (scannable cargo board (Node y) old new is_in can did s s' r stepped).requested in
    let name = name-live now y alive in
    record {
      hand_is = below cargo board (Node y) old new is_in can did s s' r stepped;
      needs = and_from _ _ (and_from _ _ (place-live now y alive) is_in.is_one)
          (subst (λ z. option_map_or (λ j. is_past_all now (Node z) j) ((now.view id).scan (Node z)) false ≡ true) (sym name)
          (past-now cargo board (Node y) old new is_in can did s s' r stepped));
      gives = sealed cargo board (Node y) old new is_in can did s s' r stepped
          ∙ ap (λ (z : Name). asked now (Node z) (record (bits_at now (Node z)) { scanned = true })
          (with_view now id (record (now.view id) { scan = scan_at (Node z) None (now.view id).scan })).view) (sym name);
    }
