-- Functions of a name that change at one name.
use Rattle.std.proofs.Common.{◌≡◌, ℕ, ◌+◌, ◌-◌, Bool, false, ◌&&◌, ◌||◌, cond, eqb, refl, sym, ap, ◌∙◌, arith}
use Rattle.std.specs.Prelude.{if◌then◌else◌}
use Rattle.std.proofs.lemmas.Bool.{and_parts, and_from, eqb-true, eq-eqb, false_from_ne_true, both_ways, cond-true, cond-false}
use Rattle.std.proofs.Math.Bool.{or-false}
use Rattle.life_rules.specs.declared.event.Name.{Name}
use Rattle.life_rules.specs.declared.event.SourceRef.{SourceRef}
use Rattle.life_rules.specs.declared.event.SourceRef.TheVariants.{Scope, Node}
use Rattle.life_rules.specs.Views.{same, same_source, gain, lose, note}
use Rattle.life_rules.specs.States.{set_at}
use Rattle.common_lemmas.proofs.Bool.{either, one-true, one-false}
use Rattle.life_rules.proofs.Names.{same-true, same_source-true}
use Rattle.exec_life.specs.StateLists.{said_of, said_of_source}

-- f, but k at x
abbrev pub turned : {B : Type 0} → Name → B → (Name → B) → Name → B
turned x k f y = if same x y then k else f y

-- f, but k at this source
abbrev pub turned_source : {B : Type 0} → SourceRef → B → (SourceRef → B) → SourceRef → B
turned_source s k f t = if same_source s t then k else f t

-- the name of a place at these generations
abbrev pub named : (ℕ → ℕ) → ℕ → ℕ → Name
named present b n = record { block = b; generation = present b; node = n }

-- what a present name's cell says
pub said-here : {A : Type 0} (present : ℕ → ℕ) (nothing : A) (f : ℕ → ℕ → A) (b n : ℕ) →
    said_of present nothing f (named present b n) ≡ f b n
said-here present nothing f b n = cond-true _ (f b n) nothing (eq-eqb (present b) (present b) refl)

-- a written cell speaks of one name alone
pub said-set : {A B : Type 0} (present : ℕ → ℕ) (nothing : B) (g : A → B) (f : ℕ → ℕ → A) (b n : ℕ) (v : A) →
    said_of present nothing (λ i j. g (set_at f b n v i j))
    ≡ turned (named present b n) (g v) (said_of present nothing (λ i j. g (f i j)))
said-set present nothing g f b n v =
    let x = named present b n in
    let new : Name → _ = said_of present nothing (λ i j. g (set_at f b n v i j)) in
    let old : Name → _ = said_of present nothing (λ i j. g (f i j)) in
    let each : (y : Name) → new y ≡ turned x (g v) old y =
    λ y. either (same x y)
    (λ here.
    let at : x ≡ y = same-true x y here in
    let there : new x ≡ g v =
    said-here present nothing (λ i j. g (set_at f b n v i j)) b n
    ∙ ap g (cond-true _ v (f b n) (and_from _ _ (eq-eqb b b refl) (eq-eqb n n refl))) in
    ap new (sym at) ∙ there ∙ sym (cond-true (same x y) (g v) (old y) here))
    (λ apart.
    either (eqb y.generation (present y.block))
    (λ now.
    let other : (eqb y.block b && eqb y.node n) ≡ false =
    false_from_ne_true _ (λ both.
    let parts = and_parts (eqb y.block b) (eqb y.node n) both in
    let block : y.block ≡ b = eqb-true _ _ parts.0 in
    let node : y.node ≡ n = eqb-true _ _ parts.1 in
    let generation : y.generation ≡ present b = eqb-true _ _ now ∙ ap present block in
    both_ways _ apart (and_from _ _ (eq-eqb b y.block (sym block))
    (and_from _ _ (eq-eqb (present b) y.generation (sym generation)) (eq-eqb n y.node (sym node))))) in
    ap (λ w. cond (eqb y.generation (present y.block)) (g w) nothing) (cond-false _ v (f y.block y.node) other))
    (λ gone. cond-false _ _ nothing gone ∙ sym (cond-false _ _ nothing gone))
    ∙ sym (cond-false (same x y) (g v) (old y) apart)) in
    λ t y. each y t

-- the same of sources
pub said-set_source : {A : Type 0} (present : ℕ → ℕ) (nothing scope : A) (f : ℕ → ℕ → A) (b n : ℕ) (v : A) →
    said_of_source present nothing scope (set_at f b n v)
    ≡ turned_source (Node (named present b n)) v (said_of_source present nothing scope f)
said-set_source {A} present nothing scope f b n v =
    let each : (t : SourceRef) → said_of_source present nothing scope (set_at f b n v) t
    ≡ turned_source (Node (named present b n)) v (said_of_source present nothing scope f) t =
    λ t. elim t as (λ u. said_of_source present nothing scope (set_at f b n v) u
    ≡ turned_source (Node (named present b n)) v (said_of_source present nothing scope f) u) [
      | Scope ↦ refl
      | Node y ↦ ap (λ (h : Name → A). h y) (said-set present nothing (λ (a : A). a) f b n v)
    ] in
    λ i t. each t i

pub said-scope : {A : Type 0} (present : ℕ → ℕ) (nothing scope new : A) (f : ℕ → ℕ → A) →
    said_of_source present nothing new f ≡ turned_source Scope new (said_of_source present nothing scope f)
said-scope {A} present nothing scope new f =
    let each : (t : SourceRef) → said_of_source present nothing new f t
    ≡ turned_source Scope new (said_of_source present nothing scope f) t =
    λ t. elim t as (λ u. said_of_source present nothing new f u
    ≡ turned_source Scope new (said_of_source present nothing scope f) u) [ Scope ↦ refl | Node y ↦ refl ] in
    λ i t. each t i

-- a change at one name, as the rules say it
pub turned-gain : (x : Name) (k : ℕ) (f : Name → ℕ) → k ≡ f x + 1 → turned x k f ≡ gain x f
turned-gain x k f e =
    let each : (y : Name) → turned x k f y ≡ gain x f y =
    λ y. either (same x y)
    (λ here.
    let at : f x ≡ f y = ap f (same-true x y here) in
    let a : turned x k f y ≡ k = cond-true (same x y) k (f y) here in
    omega (arith, a, e, at, one-true here))
    (λ apart.
    let a : turned x k f y ≡ f y = cond-false (same x y) k (f y) apart in
    omega (arith, a, one-false apart)) in
    λ t y. each y t

pub turned-lose : (x : Name) (k : ℕ) (f : Name → ℕ) → k ≡ f x - 1 → turned x k f ≡ lose x f
turned-lose x k f e =
    let each : (y : Name) → turned x k f y ≡ lose x f y =
    λ y. either (same x y)
    (λ here.
    let at : f x ≡ f y = ap f (same-true x y here) in
    let a : turned x k f y ≡ k = cond-true (same x y) k (f y) here in
    omega (arith, a, e, at, one-true here))
    (λ apart.
    let a : turned x k f y ≡ f y = cond-false (same x y) k (f y) apart in
    omega (arith, a, one-false apart)) in
    λ t y. each y t

pub turned-same : {B : Type 0} (x : Name) (k : B) (f : Name → B) → k ≡ f x → turned x k f ≡ f
turned-same x k f e =
    let each : (y : Name) → turned x k f y ≡ f y =
    λ y. either (same x y)
    (λ here. cond-true (same x y) k (f y) here ∙ e ∙ ap f (same-true x y here))
    (λ apart. cond-false (same x y) k (f y) apart) in
    λ t y. each y t

-- a request that was read, noted
pub turned-note : (s : SourceRef) (b : Bool) (f : SourceRef → Bool) →
    turned_source s (f s || b) f ≡ note s b f
turned-note s b f =
    let each : (t : SourceRef) → turned_source s (f s || b) f t ≡ note s b f t =
    λ t. either (same_source s t)
    (λ here.
    cond-true (same_source s t) (f s || b) (f t) here
    ∙ ap (λ u. f u || b) (same_source-true s t here)
    ∙ sym (ap (λ c. f t || (c && b)) here))
    (λ apart. cond-false (same_source s t) (f s || b) (f t) apart ∙ sym (ap (λ c. f t || (c && b)) apart ∙ or-false (f t))) in
    λ i t. each t i
