-- What a step left stays as long as some hand lists the step.
use Rattle.std.proofs.Common.{◌≡◌, ℕ, ◌<◌, ◌≤◌, true, false, not, ◌&&◌, List, [], ◌∷◌, ◌++◌, refl, sym, ap, ◌∙◌, subst, arith}
use Rattle.std.specs.Prelude.{Option, Some}
use Rattle.std.proofs.lemmas.Bool.{and_from, and_right, cond-true, cond-false, eq-eqb, lt-ltb}
use Rattle.life_rules.specs.declared.words.ControlWord.{ControlWord}
use Rattle.life_rules.specs.declared.words.ControlWord.TheVariants.{Idle, Done}
use Rattle.life_rules.specs.declared.words.CallbackPhase.{CallbackPhase}
use Rattle.life_rules.specs.declared.words.CallbackPhase.TheVariants.{Never, Armed, Running as Runs, Ran, Removed}
use Rattle.life_rules.specs.declared.words.Bits.{Bits}
use Rattle.life_rules.specs.declared.event.Name.{Name}
use Rattle.life_rules.specs.declared.event.Resting.{Resting}
use Rattle.life_rules.specs.declared.event.Resting.TheVariants as rest
use Rattle.life_rules.specs.declared.event.SourceRef.{SourceRef}
use Rattle.life_rules.specs.declared.event.SourceRef.TheVariants.{Scope, Node}
use Rattle.life_rules.specs.declared.scope.ScopeWord.{ScopeWord}
use Rattle.life_rules.specs.Words.{clear, is_idle, is_held, is_done, is_never, is_armed, pending, resting_at}
use Rattle.life_rules.specs.Views.{beside}
use Rattle.node_tree.specs.Tree.{is_root, Nearest, TheScope as OnScope, TheNode, Nowhere, nearest}
use Rattle.life_rules.specs.States.{State, is_live, control_at, phase_at, bits_at, source_for, nearest_of}
use Rattle.common_lemmas.proofs.Bool.{either}
use Rattle.life_rules.proofs.Readings.{lives, is_live-from}
use Rattle.stop_kept.proofs.Standing.{phase-live}
use Rattle.table_kept.proofs.LiveNames.{open-kept}
use Rattle.table_words.specs.Stamps.{stamp_of}
use Rattle.table_words.specs.Controls.{control_read, source_read}
use Rattle.table_words.specs.ScopeNumbers.{scope_read}
use Rattle.table_words.specs.Layouts.{Spot, TheScope, TheScopeSource, OfControl, OfSource, IsSpot, index}
use Rattle.atomic_table.specs.Table as table
use Rattle.atomic_table.specs.declared.shared.Seat.{Seat}
use Rattle.listed_words.specs.declared.seen.Seen.{Seen}
use Rattle.listed_words.specs.Lists.{entry}
use Rattle.table_rules.specs.declared.cargo.Cargo.{Ghosts}
use Rattle.table_rules.specs.declared.frame.Frame.{Frame}
use Rattle.table_rules.specs.declared.view.View.{View}
use Rattle.table_rules.specs.Named.{Each}
use Rattle.table_rules.specs.Grown.{HasBitsOf, IsLater, HasRisen, KeepsBits}
use Rattle.table_rules.specs.ShownWords.{word_of, is_there, is_said, said_at, scope_of}
use Rattle.table_rules.specs.Scenes.{shown}
use Rattle.table_rules.specs.Running.{Running}
use Rattle.table_steps.specs.Views.{Board}
use Rattle.table_steps.specs.Steps.{Finished}
use Rattle.table_steps.specs.Takes.{rest_word}
use Rattle.table_steps.specs.Sights.{spot_of}
use Rattle.table_steps.specs.Requests.{IsWordOf}
use Rattle.table_laws.specs.Lasting.{StillLists, IsEmptied, IsOverForGood, DoneForGood, SealMissesNone, BitsStay, SealedIsEmpty, MadeIsUsed}
use Rattle.table_laws.proofs.Ends.{now-over, rest-reads, rest-goes_on}
use Rattle.table_laws.proofs.Misses.{misses-none, joined-is_empty}

each-later : {A : Type 0} (Q : A → Type 0) (newer l : List A) → Each Q (newer ++ l) → Each Q l
each-later Q [] l all = all
each-later Q (e ∷ es) l all = each-later Q es l all.1

-- the word of a node that rests is of its generation
rest-stamp : (x : Name) (from : Resting) → stamp_of (rest_word x from) ≡ x.generation
rest-stamp x rest.Loop = omega arith
rest-stamp x rest.Pool = omega arith
rest-stamp x rest.Parked = omega arith

armed-once : (p : CallbackPhase) → is_armed p ≡ true → is_never p ≡ false
armed-once Never a = cc
armed-once Armed a = refl
armed-once Runs a = cc
armed-once Ran a = cc
armed-once Removed a = cc

-- the word that was left is the source's, as the one that was read
left-of : (source : SourceRef) (read left : ℕ) → stamp_of left ≡ stamp_of read → IsWordOf source read → IsWordOf source left
left-of Scope read left stamp of = tt
left-of (Node y) read left stamp of = stamp ∙ of

-- the word is of no earlier generation than x's, and says at that generation that x is done
record IsDoneSince (x : Name) (word : ℕ) : Type 0 where
  stamp : x.generation ≤ stamp_of word
  done : stamp_of word ≡ x.generation → control_read word ≡ Done

-- and that a source was scanned
record IsScannedSince (y : Name) (word : ℕ) : Type 0 where
  stamp : y.generation ≤ stamp_of word
  scanned : stamp_of word ≡ y.generation → (source_read word).scanned ≡ true

-- whether it was the root or not, the newest step of the hand that finished it is that on its control word
finished-step : {P E O : Type 0} (cargo : Ghosts P E O) (board : Board O) (x : Name) (old new : Seat (Option P) (View P E)) →
    (did : Finished board x old new cargo) →
    new.me.0.steps ≡ entry (index board.frame.layout (OfControl x.block x.node)) did.read did.left ∷ old.me.0.steps
finished-step cargo board x old new did =
    either (is_root board.frame.tree x.node)
    (λ root. ap (λ m. m.0.steps) (did.did.1 root).me_is)
    (λ below. ap (λ m. m.0.steps) (did.did.0 below).me_is)

module _ {P E O : Type 0} (cargo : Ghosts P E O) (f : Frame O) (s : table.State (Option P) (View P E)) (r : Running cargo f s) where
  abbrev now : State
  now = shown f s

  -- the newest of the steps that some hand still lists has risen to what stands there
  newest-risen : (new : Seat (Option P) (View P E)) (i read left : ℕ) (earlier : List Seen) → new.me.0.steps ≡ entry i read left ∷ earlier →
      StillLists new s → HasRisen f.layout s.words (entry i read left)
  newest-risen new i read left earlier steps lists =
      let newer = lists.grew.0 in
      let all = r.stamped.rises lists.hand lists.view lists.at in
      let those = each-later (HasRisen f.layout s.words) newer new.me.0.steps (subst (Each (HasRisen f.layout s.words)) lists.grew.1 all) in
      (subst (Each (HasRisen f.layout s.words)) steps those).0

  -- what was left at a spot may be followed by what stands there
  left-later : (new : Seat (Option P) (View P E)) (y : Spot) (read left : ℕ) (earlier : List Seen) → IsSpot f.layout y →
      new.me.0.steps ≡ entry (index f.layout y) read left ∷ earlier → StillLists new s → IsLater y left (word_of f.layout s.words y)
  left-later new y read left earlier spot steps lists =
      (newest-risen new (index f.layout y) read left earlier steps lists y spot refl).1

  is-there : (x : Name) → is_live now x ≡ true → is_there f.layout x.block x.node ≡ true
  is-there x live =
      let l = lives now x live in
      let n = l.node in
      let e = r.frame.nodes in
      and_from _ _ (lt-ltb x.block f.layout.blocks l.block) (lt-ltb x.node f.layout.nodes (omega (arith, n, e)))

  module _ (x : Name) where
    abbrev control : ℕ
    control = word_of f.layout s.words (OfControl x.block x.node)

    module _ (later : IsDoneSince x control) where
      live-done : is_live now x ≡ true → control_at now x ≡ Done
      live-done live =
          let l = lives now x live in
          let n = l.node in
          let e = r.frame.nodes in
          let least = later.stamp in
          let most = r.stamped.control x.block x.node l.block (omega (arith, n, e)) in
          let generation = l.generation in
          let stamp : stamp_of control ≡ x.generation = omega (arith, least, most, generation) in
          let says : is_said (now.block x.block) control ≡ true =
          and_from _ _ (ap not (open-kept (now.block x.block).state l.is_opened)) (eq-eqb _ _ (stamp ∙ l.generation)) in
          cond-true (is_live now x) (now.control x.block x.node) Idle live
          ∙ cond-true (is_there f.layout x.block x.node) (said_at (now.block x.block) Idle control_read control) Idle (is-there x live)
          ∙ cond-true (is_said (now.block x.block) control) (control_read control) Idle says ∙ later.done stamp

      -- what holds of a node that is done, and of one that hasn't begun, holds of x
      either-way : {A : Type 0} (g : ControlWord → A) (is : A) → g Done ≡ is → g Idle ≡ is → g (control_at now x) ≡ is
      either-way g is done idle =
          either (is_live now x) (λ live. ap g (live-done live) ∙ done)
          (λ dead. ap g (cond-false (is_live now x) (now.control x.block x.node) Idle dead) ∙ idle)

      rests-not : (from : Resting) → control ≡ rest_word x from → ⊥
      rests-not from same =
          let stamp : stamp_of control ≡ x.generation = ap stamp_of same ∙ rest-stamp x from in
          let rests : Done ≡ resting_at from = sym (later.done stamp) ∙ ap control_read same ∙ rest-reads x from in
          let no : true ≡ false = ap is_done rests ∙ rest-goes_on from in cc

      over-since : IsOverForGood cargo f s x
      over-since =
          record {
            done = λ live. ap is_done (live-done live);
            over = now-over cargo f s r x (either-way is_held false refl refl)
                (either (is_live now x)
                (λ live. and_right (is_live now x) (is_idle (control_at now x)) (ap is_idle (live-done live)))
                (λ dead. ap (λ b. b && is_idle (control_at now x)) dead))
                (either-way pending 0 refl refl) rests-not;
          }

  -- the source was scanned at y's generation, and is read so as long as y is there
  live-scanned : (y : Name) → IsScannedSince y (word_of f.layout s.words (OfSource y.block y.node)) → is_live now y ≡ true →
      (bits_at now (Node y)).scanned ≡ true
  live-scanned y later live =
      let w = word_of f.layout s.words (OfSource y.block y.node) in
      let l = lives now y live in
      let n = l.node in
      let e = r.frame.nodes in
      let least = later.stamp in
      let most = r.stamped.source y.block y.node l.block (omega (arith, n, e)) in
      let generation = l.generation in
      let stamp : stamp_of w ≡ y.generation = omega (arith, least, most, generation) in
      let says : is_said (now.block y.block) w ≡ true =
      and_from _ _ (ap not (open-kept (now.block y.block).state l.is_opened)) (eq-eqb _ _ (stamp ∙ l.generation)) in
      ap (λ (b : Bits). b.scanned)
      (cond-true (is_live now y) (now.source y.block y.node) clear live
      ∙ cond-true (is_there f.layout y.block y.node) (said_at (now.block y.block) clear source_read w) clear (is-there y live)
      ∙ cond-true (is_said (now.block y.block) w) (source_read w) clear says)
      ∙ later.scanned stamp

  -- a source that a live place hears is of an operation that is there
  heard-live : (x y : Name) → is_live now x ≡ true → y.node < f.layout.nodes → (above : Nearest) → source_for x above ≡ Some (Node y) →
      is_live now y ≡ true
  heard-live x y live within OnScope is = cc
  heard-live x y live within (TheNode p) is =
      let l = lives now x live in
      let e = r.frame.nodes in
      let is_y : beside x p ≡ y = cc in
      let small : p < f.layout.nodes = subst (λ (z : Name). z.node < f.layout.nodes) (sym is_y) within in
      subst (λ z. is_live now z ≡ true) is_y
      (is_live-from now (beside x p)
      (record { block = l.block; node = omega (arith, small, e); is_opened = l.is_opened; generation = l.generation }))
  heard-live x y live within Nowhere is = cc

  scanned-now : (new : Seat (Option P) (View P E)) (source : SourceRef) (read left : ℕ) (earlier : List Seen) (x : Name) →
      IsSpot f.layout (spot_of source) → new.me.0.steps ≡ entry (index f.layout (spot_of source)) read left ∷ earlier →
      StillLists new s → IsWordOf source left → (source_read left).scanned ≡ true → nearest_of now x ≡ Some source →
      is_live now x ≡ true → (bits_at now source).scanned ≡ true
  scanned-now new Scope read left earlier x spot steps lists of scanned hears live =
      (left-later new TheScopeSource read left earlier spot steps lists).scanned scanned
  scanned-now new (Node y) read left earlier x spot steps lists of scanned hears live =
      let later = left-later new (OfSource y.block y.node) read left earlier spot steps lists in
      let rises = later.stamp in
      live-scanned y
      (record { stamp = omega (arith, rises, of); scanned = λ stamp. (later.bits (of ∙ sym stamp)).scanned scanned })
      (heard-live x y live spot.1 (nearest f.tree x.node) hears)

  -- the scope's word has the bits of the one that was left
  pub scope-later : (new : Seat (Option P) (View P E)) (read left : ℕ) (earlier : List Seen) → new.me.0.steps ≡ entry 0 read left ∷ earlier →
      StillLists new s → HasBitsOf (scope_read left) (scope_of f.layout s.words)
  scope-later new read left earlier steps lists = left-later new TheScope read left earlier tt steps lists

  -- so where that was joined, no hand has an association but such as is being refused
  pub emptied-since : (new : Seat (Option P) (View P E)) (read left : ℕ) (earlier : List Seen) → new.me.0.steps ≡ entry 0 read left ∷ earlier →
      StillLists new s → (scope_read left).joined ≡ true → IsEmptied f s
  emptied-since new read left earlier steps lists sealed =
      let joined = (scope-later new read left earlier steps lists).joined sealed in
      record {
        joined = joined;
        made = λ h v at. (joined-is_empty cargo f s r joined h v at).0;
        making = λ h v at. (joined-is_empty cargo f s r joined h v at).1;
      }

pub done-for_good : {P E O : Type 0} (cargo : Ghosts P E O) → DoneForGood cargo
done-for_good cargo board x old new place did s r lists =
    let f = board.frame in
    let later = left-later cargo f s r new (OfControl x.block x.node) did.read did.left old.me.0.steps (place.block, place.node)
    (finished-step cargo board x old new did) lists in
    let rises = later.stamp in
    let stamp_is = did.says.stamp_is in
    over-since cargo f s r x
    (record { stamp = omega (arith, rises, stamp_is); done = λ stamp. later.done (did.says.stamp_is ∙ sym stamp) did.says.reads })

pub seal-misses_none : {P E O : Type 0} (cargo : Ghosts P E O) → SealMissesNone cargo
seal-misses_none cargo board source old new within did s r lists x hears armed =
    let f = board.frame in
    let live = phase-live (shown f s) x (armed-once (phase_at (shown f s) x) armed) in
    let scanned = scanned-now cargo f s r new source did.read did.left old.me.0.steps x within.spot (ap (λ m. m.0.steps) did.me_is) lists
    (left-of source did.read did.left did.stamp_is did.found.is_of) (ap (λ (b : Bits). b.scanned) did.left_is) hears live in
    let minded = misses-none cargo f s r source x scanned hears armed in
    record { hand = minded.0; view = minded.1; at = minded.2; minds = minded.3 }

pub bits-stay : {P E O : Type 0} (cargo : Ghosts P E O) → BitsStay cargo
bits-stay cargo f s r h v at = kept v.steps (r.stamped.rises h v at)
  where
    kept : (l : List Seen) → Each (HasRisen f.layout s.words) l → KeepsBits l (scope_of f.layout s.words)
    kept [] all = tt
    kept (e ∷ es) all = (λ is. all.0 TheScope tt is, kept es all.1)

pub sealed-is_empty : {P E O : Type 0} (cargo : Ghosts P E O) → SealedIsEmpty cargo
sealed-is_empty cargo expected old new did f s r lists =
    emptied-since cargo f s r new did.word did.left old.me.0.steps (ap (λ m. m.0.steps) did.me_is) lists
    (ap (λ (w : ScopeWord). w.joined) did.cause.1)

pub made-is_used : {P E O : Type 0} (cargo : Ghosts P E O) → MadeIsUsed cargo
made-is_used cargo old new made f s r lists =
    let did = made.1 in
    let later = scope-later cargo f s r new did.read did.left old.me.0.steps (ap (λ m. m.0.steps) did.me_is) lists in
    later.used (ap (λ (w : ScopeWord). w.used) did.left_is)
