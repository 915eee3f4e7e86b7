-- What is read after a source word was written, and what such a step leaves alone.
use Rattle.std.specs.Option.{option_map_or}
use Rattle.std.proofs.Common.{◌≡◌, ℕ, ◌<◌, ◌≤◌, Bool, true, false, ◌||◌, Option, Some, None, refl, sym, ap, ◌∙◌, subst, not}
use Rattle.std.proofs.lemmas.Bool.{both_ways, not_from_false, not-true, false_from_ne_true, cond-false, cond-true}
use Rattle.life_rules.specs.declared.event.Name.{Name}
use Rattle.life_rules.specs.declared.event.SourceRef.{SourceRef}
use Rattle.life_rules.specs.declared.event.SourceRef.TheVariants.{Scope, Node}
use Rattle.life_rules.specs.declared.words.Bits.{Bits}
use Rattle.life_rules.specs.Words.{is_armed, is_open, is_idle, clear}
use Rattle.life_rules.specs.Views.{View, scan_at, same_source}
use Rattle.common_lemmas.specs.Sums.{one}
use Rattle.life_rules.specs.States.{State, phase_at, bits_at, nearest_of, control_at, set_at, is_live}
use Rattle.common_lemmas.specs.Sums.{total}
use Rattle.life_rules.specs.StopSteps.{passed}
use Rattle.life_rules.specs.Callbacks.{is_next_of_nearest, nearest_is_requested}
use Rattle.life_rules.specs.Requests.{ScansStand, WasPassed}
use Rattle.life_rules.specs.Associations.{ScopeRequested}
use Rattle.life_rules.specs.Sound.{Sound}
use Rattle.life_rules.proofs.Names.{same_source-true, same_source-refl}
use Rattle.common_lemmas.proofs.Bool.{either}
use Rattle.life_rules.proofs.Readings.{begun-live, read-here, read-other}
use Rattle.stop_kept.proofs.StopFrames.{changed, SameRoles, owned-kept, counted-kept, associations-kept}
use Rattle.stop_kept.proofs.Standing.{begun}
use Rattle.stop_kept.proofs.Phases.{set_at-shut}
use Rattle.stop_kept.proofs.Notes.{is_noted}

pub same_source-other : (t u : SourceRef) → (u ≡ t → ⊥) → same_source t u ≡ false
same_source-other t u other = false_from_ne_true _ (λ e. other (sym (same_source-true t u e)))

-- two sources are one or not
pub source_cases : {G : Type 0} (t u : SourceRef) → (t ≡ u → G) → ((t ≡ u → ⊥) → G) → G
source_cases t u one other =
    either (same_source t u) (λ e. one (same_source-true t u e))
    (λ e. other (λ at. both_ways _ e (subst (λ a. same_source t a ≡ true) at (same_source-refl t))))

pub scan_at-here : (source : SourceRef) (i : Option ℕ) (f : SourceRef → Option ℕ) →
    scan_at source i f source ≡ i
scan_at-here source i f = cond-true (same_source source source) i (f source) (same_source-refl source)

pub scan_at-other : (source : SourceRef) (i : Option ℕ) (f : SourceRef → Option ℕ) (t : SourceRef) →
    (t ≡ source → ⊥) → scan_at source i f t ≡ f t
scan_at-other source i f t other =
    cond-false (same_source source t) i (f t) (same_source-other source t other)

-- the source words and the scope's, after w is written to one of them
abbrev pub words_with : State → SourceRef → Bits → ℕ → ℕ → Bits
words_with s Scope w = s.source
words_with s (Node x) w = set_at s.source x.block x.node w

abbrev pub scope_with : State → SourceRef → Bits → Bits
scope_with s Scope w = w
scope_with s (Node x) w = s.scope_source

-- the state with this source word and these views
abbrev pub asked : State → SourceRef → Bits → (ℕ → View) → State
asked s source bits w = changed s s.callback (words_with s source bits) (scope_with s source bits) w

-- the source is the scope's, or of a node that has begun
abbrev pub has_begun : State → SourceRef → Bool
has_begun s Scope = true
has_begun s (Node x) = not (is_idle (control_at s x))

-- the source's word reads `bits` in t, and each other one as in s
pub record Reads (s t : State) (source : SourceRef) (bits : Bits) : Type 0 where
  pub here : bits_at t source ≡ bits
  pub there : (u : SourceRef) → (u ≡ source → ⊥) → bits_at t u ≡ bits_at s u

other-node : (s : State) (x : Name) (bits : Bits) (w : ℕ → View) → is_live s x ≡ true →
    (u : SourceRef) →
    (u ≡ Node x → ⊥) → bits_at (asked s (Node x) bits w) u ≡ bits_at s u
other-node s x bits w live Scope other = refl
other-node s x bits w live (Node y) other =
    read-other s s.source clear bits x y live (λ at. other (ap Node at))

other-scope : (s : State) (bits : Bits) (w : ℕ → View) (u : SourceRef) → (u ≡ Scope → ⊥) →
    bits_at (asked s Scope bits w) u ≡ bits_at s u
other-scope s bits w Scope other = absurd (other refl)
other-scope s bits w (Node y) other = refl

begun-lives : (s : State) (x : Name) → has_begun s (Node x) ≡ true → is_live s x ≡ true
begun-lives s x begun = begun-live s x (not-true _ begun)

pub reads : (s : State) (source : SourceRef) (bits : Bits) (w : ℕ → View) →
    has_begun s source ≡ true →
    Reads s (asked s source bits w) source bits
reads s Scope bits w begun = record { here = refl; there = other-scope s bits w }
reads s (Node x) bits w begun =
    let live : is_live s x ≡ true = begun-lives s x begun in
    record { here = read-here s s.source clear bits x live; there = other-node s x bits w live }

shut_same : (s : State) (source : SourceRef) (bits : Bits) → has_begun s source ≡ true →
    (b n : ℕ) → is_open (s.block b).state ≡ false → words_with s source bits b n ≡ s.source b n
shut_same s Scope bits begun b n shut = refl
shut_same s (Node x) bits begun b n shut =
    set_at-shut s s.source x bits (begun-lives s x begun) b n shut

-- an idle node's source word wasn't written
idle_same : (s : State) (source : SourceRef) (bits : Bits) (w : ℕ → View) →
    has_begun s source ≡ true →
    (y : Name) → is_idle (control_at s y) ≡ true →
    bits_at (asked s source bits w) (Node y) ≡ bits_at s (Node y)
idle_same s source bits w begun y idle =
    (reads s source bits w begun).there (Node y)
    (λ at.
    both_ways _ (ap not idle) (subst (λ t. has_begun s t ≡ true) (sym at) begun))

-- a source on which a stop is requested can be written
pub requested-begun : (s : State) (source : SourceRef) → Sound s →
    (bits_at s source).requested ≡ true →
    has_begun s source ≡ true
requested-begun s Scope sound e = refl
requested-begun s (Node x) sound e =
    either (is_idle (control_at s x))
    (λ idle. absurd (both_ways _ (ap (λ w. w.requested) (sound.begins x idle).source) e))
    (λ busy. not_from_false _ busy)

pub requested-more : (s t : State) (o : Option SourceRef) →
    ((a : SourceRef) → (bits_at s a).requested ≡ true → (bits_at t a).requested ≡ true) →
    option_map_or (λ a. (bits_at s a).requested) o false ≡ true →
    option_map_or (λ a. (bits_at t a).requested) o false ≡ true
requested-more s t None more e = e
requested-more s t (Some a) more e = more a e

-- a step that writes one source word, and changes no phase, role, run or note
pub sound-source : (s : State) (source : SourceRef) (bits : Bits) (w : ℕ → View) → Sound s →
    has_begun s source ≡ true → ((i : ℕ) → SameRoles (s.view i) (w i)) →
    ((i : ℕ) → (s.view i).runs ≡ (w i).runs) →
    ((i : ℕ) (y : Name) → is_noted (s.view i) y ≡ is_noted (w i) y) →
    ((a : SourceRef) → (bits_at s a).requested ≡ true → (bits_at (asked s source bits w) a).requested ≡ true) →
    ((i : ℕ) (y : Name) → i < s.hands → 1 ≤ (w i).runs y →
    is_next_of_nearest (asked s source bits w) (w i) y ≡ true) →
    ScansStand (asked s source bits w) →
    ((y : Name) → (bits_at (asked s source bits w) (Node y)).requested ≡ true →
    ((bits_at (asked s source bits w) (Node y)).failed || nearest_is_requested (asked s source bits w) y) ≡ true) →
    ((i : ℕ) (a : SourceRef) → i < s.hands → (w i).seen a ≡ true →
    (bits_at (asked s source bits w) a).requested ≡ true) →
    ((y : Name) (a : SourceRef) → nearest_of s y ≡ Some a → is_armed (phase_at s y) ≡ true →
    WasPassed (asked s source bits w) a y → WasPassed s a y) →
    ScopeRequested (asked s source bits w) → Sound (asked s source bits w)
sound-source s source bits w sound begun roles runs noted more next scans cause seen passed scope =
    let q : ℕ → ℕ → Bits = words_with s source bits in
    let z : Bits = scope_with s source bits in
    let t : State = asked s source bits w in
    record {
      tree = sound.tree;
      hands = sound.hands;
      owned = owned-kept s s.callback q z w sound.owned roles (λ b n shut. refl)
          (shut_same s source bits begun);
      counted = counted-kept s s.callback q z w sound.counted roles;
      begins = λ y idle. let fresh = sound.begins y idle in
          record {
            callback = fresh.callback;
            source = idle_same s source bits w begun y idle ∙ fresh.source;
            children = fresh.children;
          };
      armed = sound.armed;
      runs = record {
        runs = λ y. ap (λ f. total f s.hands) (λ k i. sym (runs i) k y) ∙ sound.runs.runs y;
        next = next;
        cause = λ y e. requested-more s t (nearest_of s y) more (sound.runs.cause y e);
      };
      scans = scans;
      requests = record {
        cause = cause;
        seen = seen;
        noted = λ i y below e. sound.requests.noted i y below (noted i y ∙ e);
      };
      missed = λ y a near armed was.
          let n = sound.missed y a near armed (passed y a near armed was) in
          (n.0, n.1, sym (noted n.0 y) ∙ n.2);
      associations = associations-kept s s.callback q z w sound.associations roles;
      scope = scope;
    }

pub requested_of : (s : State) (x : Name) (source : SourceRef) → nearest_of s x ≡ Some source →
    nearest_is_requested s x ≡ true → (bits_at s source).requested ≡ true
requested_of s x source near e =
    subst (λ o. option_map_or (λ t. (bits_at s t).requested) o false ≡ true) near e
