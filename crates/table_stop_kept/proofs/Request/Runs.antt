-- The step by which a stop is requested keeps the rule, where the source's word is of its generation, and a
-- child failed where nothing was requested above.
use Rattle.std.proofs.Common.{◌≡◌, ℕ, ◌+◌, ◌*◌, ◌/◌, ◌%◌, ◌^◌, ◌<◌, Bool, true, false, not, ◌&&◌, ◌||◌, ◌==◌, cond, ◌∷◌, set, refl, sym, ap, ◌∙◌, arith, max}
use Rattle.std.specs.Prelude.{Some, bit_or, slice_index}
use Rattle.std.specs.Int.Bits.{or_zero_r}
use Rattle.std.proofs.lemmas.Nat.{or_mod, or_shr}
use Rattle.std.proofs.lemmas.Bool.{and_from, eq-eqb, or_left}
use lib.Bits.{or_step}
use Rattle.life_rules.specs.declared.words.Bits.{Bits}
use Rattle.life_rules.specs.declared.event.Name.{Name}
use Rattle.life_rules.specs.declared.event.SourceRef.{SourceRef}
use Rattle.life_rules.specs.declared.event.SourceRef.TheVariants.{Scope, Node}
use Rattle.life_rules.specs.Views.{View as PureView, same_source, note, scan_at}
use Rattle.life_rules.specs.States.{State, bits_at, with_view}
use Rattle.life_rules.specs.StopSteps.{is_scope}
use Rattle.life_rules.specs.Callbacks.{nearest_is_requested}
use Rattle.life_rules.proofs.Readings.{lives}
use Rattle.stop_kept.proofs.StopFrames.{related}
use Rattle.stop_kept.proofs.Sources.{words_with, scope_with}
use Rattle.stop_kept.proofs.Asking.{Grounds, requested_word, requester, after_asking, reads-asking, still-requested}
use Rattle.stop_kept.proofs.Request.{sound-asking}
use Rattle.table_words.specs.Stamps.{stamp_of, code_of}
use Rattle.table_words.specs.Controls.{source_read}
use Rattle.table_words.specs.Layouts.{IsSpot, index}
use Rattle.table_rules.specs.declared.cargo.Cargo.{Ghosts}
use Rattle.table_rules.specs.declared.frame.Frame.{Frame}
use Rattle.table_rules.specs.declared.view.View.{View}
use Rattle.table_rules.specs.ShownWords.{block_of, is_present_source}
use Rattle.table_rules.specs.ShownViews.{shown_view, scan_in}
use Rattle.table_rules.specs.Scenes.{Scene, shown, scene}
use Rattle.table_rules.specs.Items.{HasFailedChild}
use Rattle.table_rules.specs.Notes.{IsPastSource, IsKnown}
use Rattle.table_rules.specs.Grown.{HasBitsOfSource}
use Rattle.table_rules.specs.Running.{Running}
use Rattle.table_steps.specs.Claims.{with_step}
use Rattle.table_steps.specs.Sights.{spot_of}
use Rattle.table_steps.specs.Requests.{asks, mask}
use Rattle.table_kept.proofs.Standing.{Standing}
use Rattle.table_kept.proofs.Seats.{at_within}
use Rattle.table_kept.proofs.Masks.{or-one}
use Rattle.table_kept.proofs.Loads.{known-listed}
use Rattle.table_kept.proofs.Counts.{counts-moved}
use Rattle.table_kept.proofs.ViewMoves.{view-here, views-moved}
use Rattle.table_kept.proofs.LiveNames.{open-kept}
use Rattle.table_stop_kept.proofs.Learning.{one-more}
use Rattle.table_kept.proofs.Asides.{owning, homes-aside, starts-aside, lots-aside, known-aside}
use Rattle.table_stop_kept.proofs.Request.Items.{items-asked}
use Rattle.table_stop_kept.proofs.Source.Runs.{ToWriteSource, source-runs}
use Rattle.table_stop_kept.proofs.Source.Spots.{SaysOf, IsLiveSource}

module _ (w : ℕ) where
  stamp-kept : (m : ℕ) → m / 2 ^ 32 ≡ 0 → stamp_of (bit_or w m) ≡ stamp_of w
  stamp-kept m none = or_shr w m 32 ∙ ap (bit_or (w / 2 ^ 32)) none ∙ or_zero_r (w / 2 ^ 32)

  plain-read : source_read (bit_or w 1) ≡ record (source_read w) { requested = true }
  plain-read =
      let c = code_of w in
      let d = code_of (bit_or w 1) in
      let low : 1 % 2 ^ 32 ≡ 1 = refl in
      let code : d ≡ bit_or c 1 = or_mod w 1 32 ∙ ap (bit_or (w % 2 ^ 32)) low in
      let set_one = or-one c in
      let a : d % 2 ≡ 1 = omega (arith, code, set_one) in
      let b : d / 2 % 2 ≡ c / 2 % 2 = omega (arith, code, set_one) in
      let e : d / 4 % 2 ≡ c / 4 % 2 = omega (arith, code, set_one) in
      λ i. record { requested = eq-eqb (d % 2) 1 a i; failed = b i == 1; scanned = e i == 1 }

  failed-read : source_read (bit_or w 3) ≡ record (source_read w) { requested = true; failed = true }
  failed-read =
      let c = code_of w in
      let d = code_of (bit_or w 3) in
      let low : 3 % 2 ^ 32 ≡ 3 = refl in
      let code : d ≡ bit_or c 3 = or_mod w 3 32 ∙ ap (bit_or (w % 2 ^ 32)) low in
      let step : bit_or c 3 ≡ bit_or (c / 2) 1 * 2 + max (c % 2) 1 = or_step c 3 in
      let set_one = or-one (c / 2) in
      let a : d % 2 ≡ 1 = omega (arith, code, step, set_one) in
      let b : d / 2 % 2 ≡ 1 = omega (arith, code, step, set_one) in
      let e : d / 4 % 2 ≡ c / 4 % 2 = omega (arith, code, step, set_one) in
      λ i. record { requested = eq-eqb (d % 2) 1 a i; failed = eq-eqb (d / 2 % 2) 1 b i; scanned = e i == 1 }

  or-false : (b : Bool) → (b || false) ≡ b
  or-false true = refl
  or-false false = refl

  or-true : (b : Bool) → (b || true) ≡ true
  or-true true = refl
  or-true false = refl

  pub mask-stamp : (failure : Bool) → stamp_of (bit_or w (mask failure)) ≡ stamp_of w
  mask-stamp true = stamp-kept 3 refl
  mask-stamp false = stamp-kept 1 refl

  -- the bits that the word says after the request
  pub mask-read : (failure : Bool) (bits : Bits) → source_read w ≡ bits →
      source_read (bit_or w (mask failure)) ≡ record bits { requested = true; failed = bits.failed || failure }
  mask-read true bits is =
      failed-read ∙ (λ i. record (is i) { requested = true; failed = true }) ∙ (λ i. record bits { requested = true; failed = sym (or-true bits.failed) i })
  mask-read false bits is =
      plain-read ∙ (λ i. record (is i) { requested = true }) ∙ (λ i. record bits { requested = true; failed = sym (or-false bits.failed) i })

not-twice : (b : Bool) → b ≡ not (not b)
not-twice true = refl
not-twice false = refl

-- of which source a stop is requested, and on which grounds
pub record ToRequest {P E O : Type 0} {cargo : Ghosts P E O} {f : Frame O}
    (hand : Standing cargo f) : Type 0 where
  pub source : SourceRef
  pub failure : Bool
  pub spot : IsSpot f.layout (spot_of source)
  pub live : IsLiveSource (shown f hand.state) source
  pub says : SaysOf (slice_index hand.state.words (index f.layout (spot_of source))) (bits_at (shown f hand.state) source) source
  pub grounds : Grounds (shown f hand.state) hand.id source failure

module _ {P E O : Type 0} (cargo : Ghosts P E O) (f : Frame O) (hand : Standing cargo f)
    (task : ToRequest hand) where
  open hand use {state as s, id, view as v, running as r, at}
  open task use {source, failure, spot, live, says, grounds}

  abbrev now : State
  now = shown f s

  abbrev here : Scene P E
  here = scene f s r.past

  abbrev i : ℕ
  i = index f.layout (spot_of source)

  abbrev n : ℕ
  n = slice_index s.words i

  abbrev value : ℕ
  value = bit_or n (mask failure)

  abbrev old_view : PureView
  old_view = now.view id

  is-shown : old_view ≡ shown_view (block_of f.layout s.words) v
  is-shown = view-here (block_of f.layout s.words) s.views id v at

  hand_below : id < f.hands
  hand_below = let l = at_within s.views id v at in let m = r.sized.seats in omega (arith, l, m)

  abbrev new : Bool
  new = not (bits_at now source).requested

  abbrev bits : Bits
  bits = requested_word now source failure

  says-after : (t : SourceRef) → SaysOf n (bits_at now t) t →
      SaysOf value (record (bits_at now t) { requested = true; failed = (bits_at now t).failed || failure }) t
  says-after Scope so = mask-read n failure (bits_at now Scope) so
  says-after (Node y) so = (mask-read n failure (bits_at now (Node y)) so.0, mask-stamp n failure ∙ so.1)

  present : (t : SourceRef) → IsLiveSource now t → is_present_source now.block t ≡ true
  present Scope alive = refl
  present (Node y) alive =
      let l = lives now y alive in
      and_from _ _ (ap not (open-kept (now.block y.block).state l.is_opened)) (eq-eqb _ _ l.generation)

  past : (t : SourceRef) → IsLiveSource now t → IsPastSource now t
  past Scope alive = tt
  past (Node y) alive = let g = (lives now y alive).generation in omega (arith, g)

  abbrev u : PureView
  u = requester now id source new

  abbrev mine : View P E
  mine = with_step i n value (asks source new v)

  scans-shown : (b : Bool) → scan_in (cond b (record { source = source; next = 0 } ∷ v.scans) v.scans)
      ≡ cond b (λ t. cond (same_source source t) (Some 0) (scan_in v.scans t)) (scan_in v.scans)
  scans-shown true = refl
  scans-shown false = refl

  pub shows-mine : shown_view (block_of f.layout s.words) mine ≡ u
  shows-mine =
      (λ k. record (shown_view (block_of f.layout s.words) v) {
        seen = λ t. one-more now v source t (present source live) k;
        scan = scans-shown new k;
        requested = v.requested || (new && is_scope source);
      })
      ∙ (λ k. let z = sym is-shown k in record z {
        seen = note source true z.seen;
        scan = cond new (scan_at source (Some 0) z.scan) z.scan;
        requested = z.requested || (new && is_scope source);
      })

  abbrev after_state : State
  after_state = after_asking now id source failure new

  more : (t : SourceRef) → (bits_at now t).requested ≡ true → (bits_at after_state t).requested ≡ true
  more = still-requested now after_state source failure (reads-asking now id source failure new grounds.begun)

  known-still : (z : View P E) → IsKnown here z → IsKnown (record here { state = after_state }) z
  known-still z old =
      known-aside here now.callback (words_with now source bits) (scope_with now source bits) now.scope (with_view now id u).view
      more z (λ y counts known so. so) old

  -- no bit goes away
  more-bits : HasBitsOfSource (bits_at now source) bits
  more-bits =
      record { requested = λ _. refl; failed = λ t. or_left (bits_at now source).failed failure t; scanned = λ t. t }

  abbrev writing : ToWriteSource hand
  writing = record {
    value = value;
    source = source;
    bits = bits;
    spot = spot;
    says = says-after source says;
    live = live;
  }

  pub request-runs : ((y : Name) → (bits_at after_state (Node y)).requested ≡ true → (bits_at now (Node y)).requested ≡ false →
      nearest_is_requested after_state y ≡ false → HasFailedChild cargo here y) →
      Running cargo f record { words = set s.words i value; homes = s.homes; views = set s.views id mine }
  request-runs blame =
      let q = words_with now source bits in
      let z = scope_with now source bits in
      let w = (with_view now id u).view in
      let k = known-still v (r.stands.views.each id v at) in
      source-runs cargo f hand writing mine u shows-mine more-bits refl
      (record {
        sound = sound-asking now id source failure new r.stands.sound hand_below grounds (not-twice (bits_at now source).requested);
        homes = homes-aside here now.callback q z now.scope w (related now id u (λ a b. owning a ≡ owning b) (λ _. refl) refl) r.stands.homes;
        starts = starts-aside here now.callback q z now.scope w cargo f.over.value r.stands.starts;
        items = items-asked cargo here
            (record { callback = now.callback; source = q; scope_source = z; scope = now.scope; view = w; more = more }) blame
            r.stands.items;
        lots = lots-aside here now.callback q z now.scope w cargo r.stands.lots;
        views = views-moved here (record here { state = after_state }) s.views id v mine at (λ j y ne there old. known-still y old)
            (known-listed (record here { state = after_state }) i n value (asks source new v) (record {
              held = k.held;
              owed = k.owed;
              reported = k.reported;
              noted = k.noted;
              unlooked = k.unlooked;
              seen_after = k.seen_after;
              seen = (past source live, k.seen);
            }))
            refl refl r.stands.views;
        counts = counts-moved now after_state s.views id v mine at refl refl r.stands.counts;
      })
