-- The step by which a stop is requested is a move of the pure machine.
use Rattle.std.proofs.Common.{◌≡◌, inl, inr, ℕ, ◌<◌, Bool, true, false, not, ◌||◌, if◌then◌else◌, refl, sym, ap, ◌∙◌, subst, arith}
use Rattle.std.specs.Prelude.{Option, slice_index, slice_set}
use Rattle.std.proofs.lemmas.Bool.{and_from, or_left, or_right}
use Rattle.life_rules.specs.declared.words.Bits.{Bits}
use Rattle.life_rules.specs.declared.event.Name.{Name}
use Rattle.life_rules.specs.declared.event.SourceAt.TheVariants.{Scope as AtScope}
use Rattle.life_rules.specs.declared.event.SourceRef.{SourceRef}
use Rattle.life_rules.specs.declared.event.SourceRef.TheVariants.{Scope, Node}
use Rattle.life_rules.specs.Views.{View as PureView}
use Rattle.life_rules.specs.States.{State, is_live, bits_at}
use Rattle.life_rules.specs.StopSteps.{owes_report_below, may_forward, may_repeat, may_request, may_request_first}
use Rattle.stop_kept.proofs.Asking.{Grounds, after_asking, requested_word, requester}
use Rattle.table_words.specs.Layouts.{index}
use Rattle.table_words.specs.Controls.{source_read}
use Rattle.atomic_table.specs.Table as table
use Rattle.atomic_table.specs.declared.shared.Seat.{Seat}
use Rattle.table_rules.specs.declared.cargo.Cargo.{Ghosts}
use Rattle.table_rules.specs.declared.frame.Frame.{Frame}
use Rattle.table_rules.specs.declared.view.View.{View}
use Rattle.table_rules.specs.ShownWords.{block_of}
use Rattle.table_rules.specs.ShownViews.{shown_view}
use Rattle.table_rules.specs.Scenes.{shown}
use Rattle.table_rules.specs.Running.{Running}
use Rattle.table_steps.specs.Views.{Board}
use Rattle.table_steps.specs.Claims.{with_step}
use Rattle.table_steps.specs.Requests.{IsAsked, IsWordOf, MayRequest, asks, bits_asked}
use Rattle.table_steps.specs.Sights.{spot_of, IsSourceIn}
use Rattle.table_kept.proofs.Standing.{Standing}
use Rattle.table_kept.proofs.LiveNames.{place-live, name-live}
use Rattle.table_kept.proofs.Seats.{at_within}
use Rattle.table_stop_kept.proofs.Request.Allowed.{grounds, live-now, read-of, says-now}
use Rattle.table_stop_kept.proofs.Request.Runs.{ToRequest, shows-mine}
use Rattle.table_stop_kept.proofs.Source.Spots.{IsLiveSource, SaysOf}
use Rattle.table_moves.specs.Moves.{HasStepped}
use Rattle.table_moves.specs.SourceMoves.{RequestsByMove}
use Rattle.table_moves.proofs.SourceWords.{shown-after}
use Rattle.table_moves.proofs.RequestNeeds.{asks-scope, owes-report, forwards, repeats-scope, repeats}

-- a hand that requests a stop
module _ {P E O : Type 0} (cargo : Ghosts P E O) (board : Board O) (source : SourceRef) (failure : Bool) (answer : Bits) (old new : Seat (Option P) (View P E)) (is-in : IsSourceIn board source) (may : MayRequest cargo board.frame old.me.0 source failure) (did : IsAsked board source failure answer old new) (s s' : table.State (Option P) (View P E)) (r : Running cargo board.frame s) (stepped : HasStepped (index board.frame.layout (spot_of source)) did.word did.left old.id old.me.0 new.me.0 s s') where
  abbrev f : Frame O
  f = board.frame

  abbrev now : State
  now = shown f s

  abbrev id : ℕ
  id = old.id

  abbrev v : View P E
  v = old.me.0

  abbrev pub hand : Standing cargo f
  hand = record { state = s; id = id; view = v; running = r; at = stepped.before }

  pub below : id < f.hands
  below = let l = at_within s.views id v stepped.before in let m = r.sized.seats in omega (arith, l, m)

  because : Grounds now id source failure
  because = grounds cargo f hand source failure may

  pub live : IsLiveSource now source
  live = live-now cargo f hand source because.begun

  says : SaysOf (slice_index s.words (index f.layout (spot_of source))) (bits_at now source) source
  says = says-now cargo f hand source is-in.spot is-in.is_one because.begun

  -- the answer is what the source's word says
  answer-is : answer ≡ bits_at now source
  answer-is =
      did.answer_is ∙ ap source_read (sym stepped.read_is)
      ∙ read-of (slice_index s.words (index f.layout (spot_of source))) (bits_at now source) source says

  abbrev bits : Bits
  bits = requested_word now source failure

  says-left : (t : SourceRef) → source ≡ t → SaysOf did.left bits t
  says-left Scope is = did.left_is ∙ ap (bits_asked failure) answer-is
  says-left (Node y) is = (
    did.left_is ∙ ap (bits_asked failure) answer-is,
    did.stamp_is ∙ subst (λ z. IsWordOf z did.word) is did.is_of,
  )

  abbrev task : ToRequest hand
  task = record {
    source = source;
    failure = failure;
    spot = is-in.spot;
    live = live;
    says = says;
    grounds = because;
  }

  abbrev fresh : Bool
  fresh = not (bits_at now source).requested

  pub asked-after : shown f s' ≡ after_asking now id source failure fresh
  asked-after =
      shown-after cargo f s r id v stepped.before did.left source bits is-in.spot (says-left source refl) live
      (with_step (index f.layout (spot_of source)) did.word did.left (asks source (not answer.requested) v))
      (requester now id source fresh)
      ((λ k. shown_view (block_of f.layout s.words) (asks source (not (answer-is k).requested) v)) ∙ shows-mine cargo f hand task)
      s' stepped.words_are (stepped.views_are ∙ ap (λ z. slice_set s.views id z.0) did.me_is)

-- what the pure machine's request needs
module _ {P E O : Type 0} (cargo : Ghosts P E O) (f : Frame O) (hand : Standing cargo f) where
  abbrev before : State
  before = shown f hand.state

  abbrev mine : PureView
  mine = before.view hand.id

  scope-needs : (failure : Bool) → MayRequest cargo f hand.view Scope failure → may_request before hand.id AtScope failure ≡ true
  scope-needs true may = absurd may
  scope-needs false may =
      elim may [
        | inl asks ↦ or_left (may_request_first before hand.id AtScope false) (may_repeat before mine Scope false) (asks-scope cargo f hand asks)
        | inr again ↦ or_right (may_request_first before hand.id AtScope false) (may_repeat before mine Scope false) (repeats-scope cargo f hand again)
      ]

  abbrev on_node : Bool → Name → Bool
  on_node failure x =
      (if failure then owes_report_below before mine x else may_forward before mine x) || may_repeat before mine (Node x) failure

  node-needs : (x : Name) (failure : Bool) → is_live before x ≡ true → MayRequest cargo f hand.view (Node x) failure → on_node failure x ≡ true
  node-needs x true alive may = or_left (owes_report_below before mine x) _ (owes-report cargo f hand x may)
  node-needs x false alive may =
      elim may [
        | inl passes ↦ or_left (may_forward before mine x) _ (forwards cargo f hand x passes)
        | inr again ↦ or_right (may_forward before mine x) _ (repeats cargo f hand x alive again)
      ]

pub requests-by_move : {P E O : Type 0} (cargo : Ghosts P E O) → RequestsByMove cargo
requests-by_move cargo board Scope failure answer old new is_in may did s s' r stepped =
    record {
      hand_is = below cargo board Scope failure answer old new is_in may did s s' r stepped;
      needs = scope-needs cargo board.frame (hand cargo board Scope failure answer old new is_in may did s s' r stepped) failure may;
      gives = asked-after cargo board Scope failure answer old new is_in may did s s' r stepped;
    }
requests-by_move cargo board (Node y) failure answer old new is_in may did s s' r stepped =
    let f = board.frame in
    let now = shown f s in
    let id = old.id in
    let me = hand cargo board (Node y) failure answer old new is_in may did s s' r stepped in
    let alive = live cargo board (Node y) failure answer old new is_in may did s s' r stepped in
    let name = name-live now y alive in
    record {
      hand_is = below cargo board (Node y) failure answer old new is_in may did s s' r stepped;
      needs = and_from _ _ (and_from _ _ (place-live now y alive) is_in.is_one)
          (subst (λ z. on_node cargo f me failure z ≡ true) (sym name) (node-needs cargo f me y failure alive may));
      gives = asked-after cargo board (Node y) failure answer old new is_in may did s s' r stepped
          ∙ ap (λ (z : Name). after_asking now id (Node z) failure (not (bits_at now (Node z)).requested)) (sym name);
    }
