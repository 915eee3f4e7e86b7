-- What is said of items is kept where a stop is requested, if a child failed where it wasn't requested above.
use Rattle.std.proofs.Common.{◌≡◌, ℕ, Bool, true, false, refl, sym, subst}
use Rattle.std.specs.Prelude.{Option, Some, None}
use Rattle.std.specs.Option.{option_map_or}
use Rattle.std.proofs.lemmas.Bool.{both_ways}
use Rattle.life_rules.specs.declared.words.CallbackPhase.{CallbackPhase}
use Rattle.life_rules.specs.declared.words.Bits.{Bits}
use Rattle.life_rules.specs.declared.scope.ScopeWord.{ScopeWord}
use Rattle.life_rules.specs.declared.event.Name.{Name}
use Rattle.life_rules.specs.declared.event.SourceRef.{SourceRef}
use Rattle.life_rules.specs.declared.event.SourceRef.TheVariants.{Node}
use Rattle.life_rules.specs.Views.{View as PureView}
use Rattle.life_rules.specs.States.{State, bits_at, nearest_of}
use Rattle.life_rules.specs.Callbacks.{nearest_is_requested}
use Rattle.common_lemmas.proofs.Bool.{either}
use Rattle.table_rules.specs.declared.cargo.Cargo.{Ghosts}
use Rattle.table_rules.specs.Scenes.{Scene}
use Rattle.table_rules.specs.Items.{HasFailedChild, ItemsStand}
use Rattle.table_kept.proofs.Asides as asides

-- what a step leaves that requests a stop, and takes no request back
pub record Asks {P E : Type 0} (s : Scene P E) : Type 0 where
  pub callback : ℕ → ℕ → CallbackPhase
  pub source : ℕ → ℕ → Bits
  pub scope_source : Bits
  pub scope : ScopeWord
  pub view : ℕ → PureView
  pub more : (t : SourceRef) → (bits_at s.state t).requested ≡ true →
      (bits_at (asides.aside_state s callback source scope_source scope view) t).requested ≡ true

module _ {P E O : Type 0} (cargo : Ghosts P E O) (s : Scene P E) (asks : Asks s) where
  open asks use {callback as c, source as q, scope_source as z, scope as k, view as w, more}

  abbrev base : State
  base = s.state

  abbrev after : State
  after = asides.aside_state s c q z k w

  -- what fits as far as nothing was requested fits as far as something is
  wider : (item : P) (node : ℕ) (a b : Bool) → (a ≡ true → b ≡ true) → cargo.fits item node a → cargo.fits item node b
  wider item node true b so fits = subst (cargo.fits item node) (sym (so refl)) fits
  wider item node false true so fits = cargo.widens item node fits
  wider item node false false so fits = fits

  asked-more : (o : Option SourceRef) → option_map_or (λ t. (bits_at base t).requested) o false ≡ true →
      option_map_or (λ t. (bits_at after t).requested) o false ≡ true
  asked-more None h = h
  asked-more (Some t) h = more t h

  near-more : (y : Name) → nearest_is_requested base y ≡ true → nearest_is_requested after y ≡ true
  near-more y = asked-more (nearest_of base y)

  pub items-asked : ((y : Name) → (bits_at after (Node y)).requested ≡ true → (bits_at base (Node y)).requested ≡ false →
      nearest_is_requested after y ≡ false → HasFailedChild cargo s y) → ItemsStand cargo s → ItemsStand cargo (asides.aside s c q z k w)
  items-asked blame old =
      record {
        fit = λ y item live is.
            wider item y.node (nearest_is_requested base y) (nearest_is_requested after y) (near-more y) (old.fit y item live is);
        goes_on = old.goes_on;
        rests = old.rests;
        bound = old.bound;
        ended = λ y done below.
            let so = old.ended y done below in
            (so.0, so.1, so.2, wider so.0 y.node (nearest_is_requested base y) (nearest_is_requested after y) (near-more y) so.3);
        delivered = old.delivered;
        enough = old.enough;
        failures = λ y asked calm.
            either ((bits_at base (Node y)).requested)
            (λ was.
            old.failures y was
            (either (nearest_is_requested base y)
            (λ t. absurd (both_ways (nearest_is_requested after y) calm (near-more y t)))
            (λ f. f)))
            (λ new. blame y asked new calm);
      }
