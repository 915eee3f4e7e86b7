-- What a write to the words or the views means in the state.
use Rattle.std.proofs.Common.{◌≡◌, ℕ, ◌<◌, eqb, cond, List, length, Some, sym, ap, ◌∙◌, get_or, set, slice_get, inl, inr, length-set, arith}
use Rattle.std.specs.Option.{option_map_or}
use Rattle.std.proofs.lemmas.Bool.{cond-true, cond-false, eqb-true, eqb-false, cases_lt}
use Rattle.std.proofs.lemmas.List.{get_or-set_same, get_or-set_other}
use Rattle.std.proofs.lemmas.Option.{slice_get-get_or, slice_get_past}
use Rattle.life_rules.specs.declared.event.SourceAt.{SourceAt}
use Rattle.life_rules.specs.declared.event.SourceAt.TheVariants.{Scope as AtScope, At}
use Rattle.life_rules.specs.declared.words.Bits.{Bits}
use Rattle.life_rules.specs.declared.words.CallbackPhase.{CallbackPhase}
use Rattle.life_rules.specs.declared.words.ControlWord.{ControlWord}
use Rattle.life_rules.specs.States.{with_view, with_control, with_callback, with_bits}
use Rattle.life_rules.specs.StopSteps.{source_of}
use Rattle.life_rules.specs.Views.{View, blank}
use Rattle.common_lemmas.proofs.Bool.{either}
use Rattle.exec_life.specs.StateLists.{StateLists, machine, view_of, generations}
use Rattle.exec_life.specs.ViewLists.{ViewLists}
use Rattle.exec_life.specs.WordLists.{WordLists}
use Rattle.exec_life.specs.WordWrites.{SetsControl, SetsCallback, SetsSource}

pub means-control : (d : StateLists) (w : WordLists) (b n : ℕ) (word : ControlWord) →
    SetsControl d.words w b n word → machine (record d { words = w }) ≡ with_control (machine d) b n word
means-control d w b n word h = λ t. record (machine (record d { words = h.rest t })) { control = h.word_is t }

pub means-callback : (d : StateLists) (w : WordLists) (b n : ℕ) (phase : CallbackPhase) →
    SetsCallback d.words w b n phase → machine (record d { words = w }) ≡ with_callback (machine d) b n phase
means-callback d w b n phase h = λ t. record (machine (record d { words = h.rest t })) { callback = h.word_is t }

pub means-source : (d : StateLists) (w : WordLists) (source : SourceAt) (bits : Bits) →
    SetsSource d.words w source bits →
    machine (record d { words = w }) ≡ with_bits (machine d) (source_of (machine d) source) bits
means-source d w AtScope bits h = ap (λ u. machine (record d { words = u })) h
means-source d w (At place) bits h = λ t. record (machine (record d { words = h.rest t })) { source = h.word_is t }

-- a list after a write, by its index
pub slice_get-set : {A : Type 0} (xs : List A) (h i : ℕ) (v : A) → h < length xs →
    slice_get (set xs h v) i ≡ cond (eqb i h) (Some v) (slice_get xs i)
slice_get-set xs h i v within =
    either (eqb i h)
    (λ here.
    let at : i ≡ h = eqb-true i h here in
    slice_get-get_or (set xs h v) i v (omega (arith, length-set xs h v))
    ∙ ap (λ k. Some (get_or (set xs h v) k v)) at
    ∙ ap Some (get_or-set_same xs h v v within)
    ∙ sym (cond-true (eqb i h) (Some v) (slice_get xs i) here))
    (λ apart.
    let other = eqb-false i h apart in
    elim (cases_lt i (length xs)) [
      | inl below ↦
          slice_get-get_or (set xs h v) i v (omega (arith, length-set xs h v))
          ∙ ap Some (get_or-set_other xs h i v v other)
          ∙ sym (slice_get-get_or xs i v below)
      | inr past ↦
          slice_get_past (set xs h v) i (omega (arith, length-set xs h v)) ∙ sym (slice_get_past xs i past)
    ]
    ∙ sym (cond-false (eqb i h) (Some v) (slice_get xs i) apart))

pub means-view : (d : StateLists) (h : ℕ) (v : ViewLists) (seen : View) → h < length d.views →
    view_of (generations d.words) v ≡ seen →
    machine (record d { views = set d.views h v }) ≡ with_view (machine d) h seen
means-view d h v seen within e =
    let meaning = view_of (generations d.words) in
    let each : (i : ℕ) → option_map_or meaning (slice_get (set d.views h v) i) blank
    ≡ cond (eqb i h) seen (option_map_or meaning (slice_get d.views i) blank) =
    λ i. ap (λ o. option_map_or meaning o blank) (slice_get-set d.views h i v within)
    ∙ either (eqb i h)
    (λ here.
    ap (λ o. option_map_or meaning o blank) (cond-true (eqb i h) (Some v) (slice_get d.views i) here)
    ∙ e ∙ sym (cond-true (eqb i h) _ _ here))
    (λ apart.
    ap (λ o. option_map_or meaning o blank) (cond-false (eqb i h) (Some v) (slice_get d.views i) apart)
    ∙ sym (cond-false (eqb i h) _ _ apart)) in
    λ t. record (machine d) { hands = length-set d.views h v t; view = λ i. each i t }

-- the view of a hand
pub view-is : (d : StateLists) (h : ℕ) (v : ViewLists) → slice_get d.views h ≡ Some v →
    (machine d).view h ≡ view_of (generations d.words) v
view-is d h v e = ap (λ o. option_map_or (view_of (generations d.words)) o blank) e
