-- What is read after a callback word was written, at a node that is under way.
use Rattle.std.proofs.Common.{◌≡◌, ℕ, Bool, true, false, ◌||◌, refl, sym, ap, ◌∙◌, subst, eqb, ◌&&◌}
use Rattle.std.proofs.lemmas.Bool.{both_ways, eqb-true, false_from_ne_true, and_left, cond-false}
use Rattle.life_rules.specs.declared.event.Name.{Name}
use Rattle.life_rules.specs.declared.event.Place.{Place}
use Rattle.life_rules.specs.declared.words.CallbackPhase.{CallbackPhase}
use Rattle.life_rules.specs.declared.words.CallbackPhase.TheVariants.{Ran, Removed, Never, Armed, Running}
use Rattle.life_rules.specs.Words.{is_never, is_armed, is_running, is_open, is_idle, is_under_way}
use Rattle.life_rules.specs.Views.{View}
use Rattle.life_rules.specs.States.{State, phase_at, control_at, name_at, set_at, is_live}
use Rattle.life_rules.specs.Callbacks.{BeginsInOrder, ArmedLives}
use Rattle.life_rules.proofs.Names.{by_name}
use Rattle.life_rules.proofs.Readings.{begun-live, lives, read-here, read-other}
use Rattle.stop_kept.proofs.StopFrames.{changed}
use Rattle.stop_kept.proofs.Standing.{begun}

-- the callback word of x, which is under way, reads `phase` in t, and each other one as in s
pub record Writes (s t : State) (x : Name) (phase : CallbackPhase) : Type 0 where
  pub under_way : is_under_way (control_at s x) ≡ true
  pub live : is_live s x ≡ true
  pub here : phase_at t x ≡ phase
  pub there : (y : Name) → (y ≡ x → ⊥) → phase_at t y ≡ phase_at s y

pub writes : (s : State) (p : Place) (phase : CallbackPhase) (w : ℕ → View) →
    is_under_way (control_at s (name_at s p)) ≡ true →
    Writes s (changed s (set_at s.callback p.block p.node phase) s.source s.scope_source w)
    (name_at s p) phase
writes s p phase w busy =
    let x = name_at s p in
    let live : is_live s x ≡ true = begun-live s x (begun s x busy) in
    record {
      under_way = busy;
      live = live;
      here = read-here s s.callback Never phase x live;
      there = λ y other. read-other s s.callback Never phase x y live other;
    }

-- no word of a block that isn't open was written
pub set_at-shut : {A : Type 0} (s : State) (f : ℕ → ℕ → A) (x : Name) (v : A) → is_live s x ≡ true →
    (b n : ℕ) → is_open (s.block b).state ≡ false → set_at f x.block x.node v b n ≡ f b n
set_at-shut s f x v live b n shut =
    let apart : eqb b x.block ≡ false =
    false_from_ne_true _ (λ at.
    both_ways _ (subst (λ i. is_open (s.block i).state ≡ false) (eqb-true b x.block at) shut)
    (lives s x live).is_opened) in
    cond-false (eqb b x.block && eqb n x.node) v (f b n) (and_left (eqb b x.block) (eqb n x.node) apart)

-- an idle node's callback word wasn't written
pub idle_same : (s t : State) (x : Name) (phase : CallbackPhase) → Writes s t x phase → (y : Name) →
    is_idle (control_at s y) ≡ true → phase_at t y ≡ phase_at s y
idle_same s t x phase wrote y idle =
    wrote.there y (λ at.
    both_ways _ (begun s x wrote.under_way) (subst (λ z. is_idle (control_at s z) ≡ true) at idle))

pub begins-written : (s : State) (c : ℕ → ℕ → CallbackPhase) (w : ℕ → View) (x : Name)
    (phase : CallbackPhase) →
    BeginsInOrder s → Writes s (changed s c s.source s.scope_source w) x phase →
    BeginsInOrder (changed s c s.source s.scope_source w)
begins-written s c w x phase begins wrote y idle =
    let fresh = begins y idle in
    record {
      callback = idle_same s (changed s c s.source s.scope_source w) x phase wrote y idle ∙ fresh.callback;
      source = fresh.source;
      children = fresh.children;
    }

pub armed-written : (s : State) (c : ℕ → ℕ → CallbackPhase) (w : ℕ → View) (x : Name)
    (phase : CallbackPhase) →
    ArmedLives s → Writes s (changed s c s.source s.scope_source w) x phase →
    ArmedLives (changed s c s.source s.scope_source w)
armed-written s c w x phase armed wrote y e =
    by_name y x
    (λ at. subst (λ z. is_under_way (control_at s z) ≡ true) (sym at) wrote.under_way)
    (λ other. armed y (subst (λ f. (is_armed f || is_running f) ≡ true) (wrote.there y other) e))

-- a test that doesn't tell the new phase of x from its old one reads everywhere as before
pub tests_alike : (s t : State) (x : Name) (old new : CallbackPhase) (f : CallbackPhase → Bool) →
    Writes s t x new → phase_at s x ≡ old → f new ≡ f old → (y : Name) →
    f (phase_at t y) ≡ f (phase_at s y)
tests_alike s t x old new f wrote was alike y =
    by_name y x
    (λ at. subst (λ z. f (phase_at t z) ≡ f (phase_at s z)) (sym at)
    (ap f wrote.here ∙ alike ∙ sym (ap f was)))
    (λ other. ap f (wrote.there y other))

pub never-is : (f : CallbackPhase) → is_never f ≡ true → f ≡ Never
never-is Never e = refl
never-is Armed e = cc
never-is Running e = cc
never-is Ran e = cc
never-is Removed e = cc

pub armed-is : (f : CallbackPhase) → is_armed f ≡ true → f ≡ Armed
armed-is Never e = cc
armed-is Armed e = refl
armed-is Running e = cc
armed-is Ran e = cc
armed-is Removed e = cc

pub running-is : (f : CallbackPhase) → is_running f ≡ true → f ≡ Running
running-is Never e = cc
running-is Armed e = cc
running-is Running e = refl
running-is Ran e = cc
running-is Removed e = cc
