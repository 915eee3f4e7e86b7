-- What a step of stop sources and callbacks leaves alone.
use Rattle.std.specs.Option.{option_map_or}
use Rattle.std.specs.Prelude.{nat_le}
use Rattle.std.proofs.Common.{◌≡◌, ℕ, Bool, false, Option, Some, None, refl, sym, ap, ◌∙◌, subst, eqb, ◌&&◌, ◌-◌}
use Rattle.std.proofs.Math.Path.{fun_ext}
use Rattle.std.proofs.lemmas.Bool.{eqb-true, cond_both, cond-true, eqb-false, eq-eqb}
use Rattle.life_rules.specs.declared.event.Name.{Name}
use Rattle.life_rules.specs.declared.event.SourceRef.{SourceRef}
use Rattle.life_rules.specs.declared.words.Bits.{Bits}
use Rattle.life_rules.specs.declared.words.CallbackPhase.{CallbackPhase}
use Rattle.life_rules.specs.Words.{is_open}
use Rattle.life_rules.specs.Views.{View, same, blank}
use Rattle.life_rules.specs.States.{State, nearest_of, with_view}
use Rattle.life_rules.specs.Scans.{index, is_next_in, is_nearest}
use Rattle.life_rules.specs.Owned.{Counted, Owned, IsOwned}
use Rattle.life_rules.specs.Callbacks.{is_next_of_nearest}
use Rattle.life_rules.specs.Associations.{Associations}
use Rattle.life_rules.proofs.ScanOrder.{has_none-frame}

-- the state with other callback words, source words and views
abbrev pub changed : State → (ℕ → ℕ → CallbackPhase) → (ℕ → ℕ → Bits) → Bits → (ℕ → View) → State
changed s c q z w = record s { callback = c; source = q; scope_source = z; view = w }

-- each view is as before, or as the hand's after the step
pub related : (s : State) (h : ℕ) (v : View) (R : View → View → Type 0) → ((u : View) → R u u) →
    R (s.view h) v → (i : ℕ) → R (s.view i) ((with_view s h v).view i)
related s h v R same here i =
    cond_both (eqb i h) v (s.view i) (λ u. R (s.view i) u)
    (λ at. subst (λ j. R (s.view j) v) (sym (eqb-true i h at)) here)
    (λ other. same (s.view i))

-- the same, with the hand at hand
pub related_at : (s : State) (h : ℕ) (v : View) (R : ℕ → View → Type 0) → R h v →
    ((i : ℕ) → (i ≡ h → ⊥) → R i (s.view i)) → (i : ℕ) → R i ((with_view s h v).view i)
related_at s h v R here there i =
    cond_both (eqb i h) v (s.view i) (λ u. R i u)
    (λ at. subst (λ j. R j v) (sym (eqb-true i h at)) here)
    (λ other. there i (eqb-false i h other))

pub view-here : (s : State) (h : ℕ) (v : View) → (with_view s h v).view h ≡ v
view-here s h v = cond-true (eqb h h) v (s.view h) (eq-eqb h h refl)

-- the view's roles and associations alone
abbrev pub bare : View → View
bare v =
    record blank {
      holds = v.holds;
      starts = v.starts;
      reports = v.reports;
      finished = v.finished;
      made = v.made;
      making = v.making;
      refused = v.refused;
    }

-- the same roles and associations
abbrev pub SameRoles : View → View → Type 0
SameRoles v u = bare v ≡ bare u

-- the state with these views' roles alone
abbrev aside : State → (ℕ → View) → State
aside s w = record s { view = λ i. bare (w i) }

same_aside : (s : State) (w : ℕ → View) → ((i : ℕ) → SameRoles (s.view i) (w i)) →
    aside s s.view ≡ aside s w
same_aside s w same = λ k. record s { view = λ i. same i k }

pub owned-kept : (s : State) (c : ℕ → ℕ → CallbackPhase) (q : ℕ → ℕ → Bits) (z : Bits)
    (w : ℕ → View) →
    Owned s → ((i : ℕ) → SameRoles (s.view i) (w i)) →
    ((b n : ℕ) → is_open (s.block b).state ≡ false → c b n ≡ s.callback b n) →
    ((b n : ℕ) → is_open (s.block b).state ≡ false → q b n ≡ s.source b n) →
    Owned (changed s c q z w)
owned-kept s c q z w o same shut_c shut_q =
    record {
      names = subst (λ t. (x : Name) → IsOwned t x) (same_aside s w same) o.names;
      unused = λ b n shut. let u = o.unused b n shut in
          record {
            control = u.control;
            callback = shut_c b n shut ∙ u.callback;
            source = shut_q b n shut ∙ u.source;
          };
    }

pub counted-kept : (s : State) (c : ℕ → ℕ → CallbackPhase) (q : ℕ → ℕ → Bits) (z : Bits)
    (w : ℕ → View) →
    Counted s → ((i : ℕ) → SameRoles (s.view i) (w i)) → Counted (changed s c q z w)
counted-kept s c q z w counted same = subst Counted (same_aside s w same) counted

pub associations-kept : (s : State) (c : ℕ → ℕ → CallbackPhase) (q : ℕ → ℕ → Bits) (z : Bits)
    (w : ℕ → View) →
    Associations s → ((i : ℕ) → SameRoles (s.view i) (w i)) → Associations (changed s c q z w)
associations-kept s c q z w a same =
    let b : Associations (aside s s.view) =
    record { count = a.count; joined = a.joined; single = a.single; most = a.most } in
    let d : Associations (aside s w) = subst Associations (same_aside s w same) b in
    record { count = d.count; joined = d.joined; single = d.single; most = d.most }

pub map_or-same : {A : Type 0} (f g : A → Bool) (o : Option A) →
    ((x : A) → o ≡ Some x → f x ≡ g x) → option_map_or f o false ≡ option_map_or g o false
map_or-same f g None e = refl
map_or-same f g (Some x) e = e x refl

-- the next place of a source's scan is the same, where the scan is
pub next_in-frame : (s : State) (c : ℕ → ℕ → CallbackPhase) (q : ℕ → ℕ → Bits) (z : Bits)
    (w : ℕ → View)
    (v u : View) (source : SourceRef) (x : Name) → u.scan source ≡ v.scan source →
    is_next_in (changed s c q z w) u source x ≡ is_next_in s v source x
next_in-frame s c q z w v u source x e =
    let t = changed s c q z w in
    ap (λ o. is_next_in t (record u { scan = λ _. o }) source x) e
    ∙ ap (λ f. option_map_or f (v.scan source) false)
    (fun_ext (λ i. ap (λ b. is_nearest s source x && (nat_le i (index s x) && b))
    (has_none-frame s t source i (index s x - i) (λ j. refl))))

pub next-frame : (s : State) (c : ℕ → ℕ → CallbackPhase) (q : ℕ → ℕ → Bits) (z : Bits)
    (w : ℕ → View)
    (v u : View) (x : Name) →
    ((source : SourceRef) → nearest_of s x ≡ Some source → u.scan source ≡ v.scan source) →
    is_next_of_nearest (changed s c q z w) u x ≡ is_next_of_nearest s v x
next-frame s c q z w v u x e =
    let t = changed s c q z w in
    map_or-same (λ source. is_next_in t u source x) (λ source. is_next_in s v source x) (nearest_of s x)
    (λ source at. next_in-frame s c q z w v u source x (e source at))
