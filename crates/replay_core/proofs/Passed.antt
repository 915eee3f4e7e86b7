-- Which looks and runs needn't be tried.
use Rattle.std.proofs.Common.{◌≡◌, ℕ, ◌+◌, ◌<◌, ◌≤◌, Bool, true, false, cond, List, [], ◌∷◌, ◌++◌, length, take, get_or, Option, Some, None, refl, sym, ap, subst, ◌∙◌}
use Rattle.std.specs.Prelude.{is_some}
use Rattle.std.specs.List.{filter, flat_map}
use Rattle.std.specs.Option.{option_map_or}
use Rattle.std.proofs.lemmas.Bool.{and_parts, and_left, and_right, cond-true, cond-false, false_from_ne_true, both_ways, false≢true}
use Rattle.std.proofs.lemmas.List.{append-nil, take_all}
use Rattle.std.proofs.lemmas.List.Elements.{filter_more}
use Rattle.common_lemmas.proofs.Bool.{either}
use Rattle.common_lemmas.proofs.Options.{none-from}
use Rattle.life_rules.proofs.Names.{same-true}
use Rattle.life_rules.specs.declared.event.Event.{Event}
use Rattle.life_rules.specs.declared.event.Event.TheVariants.{Look, Run}
use Rattle.life_rules.specs.declared.event.Name.{Name}
use Rattle.life_rules.specs.declared.event.Place.{Place}
use Rattle.life_rules.specs.declared.event.SourceAt.{SourceAt}
use Rattle.life_rules.specs.declared.event.SourceAt.TheVariants.{Scope, At}
use Rattle.life_rules.specs.Scans.{is_next, is_next_in}
use Rattle.life_rules.specs.States.{State, is_place, name_at, source_for}
use Rattle.life_rules.specs.Steps.{may_happen}
use Rattle.life_rules.specs.Scans.{is_nearest}
use Rattle.life_rules.specs.StopSteps.{source_of, may_look, may_run}
use Rattle.node_tree.specs.Tree.{Nearest, TheScope, TheNode, Nowhere, nearest}
use Rattle.life_rules.specs.Views.{same_source, same, beside}
use Rattle.replay_core.specs.Candidates.{place_of, places_of, looks_at, runs_at}
use Rattle.replay_core.specs.Listings.{Keeps, source_named, is_waiting}

-- a filter keeps the same of fewer elements, where those that are left out give nothing that it keeps
kept-fewer : (test : Event → Bool) (waits : Place → Bool) (f : Place → Event) → ((p : Place) → test (f p) ≡ true → waits p ≡ true) → (ps : List Place) →
    filter test (flat_map (λ p. f p ∷ []) ps) ≡ filter test (flat_map (λ p. f p ∷ []) (filter waits ps))
kept-fewer test waits f only [] = refl
kept-fewer test waits f only (p ∷ ps) =
    let g : Place → List Event = λ q. f q ∷ [] in
    let later = kept-fewer test waits f only ps in
    either (waits p)
    (λ here.
    ap (λ (l : List Event). cond (test (f p)) (f p ∷ l) l) later
    ∙ ap (λ (l : List Place). filter test (flat_map g l)) (sym (cond-true (waits p) (p ∷ filter waits ps) (filter waits ps) here)))
    (λ gone.
    cond-false (test (f p)) (f p ∷ filter test (flat_map g ps)) (filter test (flat_map g ps))
    (false_from_ne_true (test (f p)) (λ kept. both_ways (waits p) gone (only p kept)))
    ∙ later
    ∙ ap (λ (l : List Place). filter test (flat_map g l)) (sym (cond-false (waits p) (p ∷ filter waits ps) (filter waits ps) gone)))

-- it keeps nothing where no element gives anything that it keeps
kept-nothing : (test : Event → Bool) (f : Place → Event) → ((p : Place) → test (f p) ≡ false) → (ps : List Place) → filter test (flat_map (λ p. f p ∷ []) ps) ≡ []
kept-nothing test f none [] = refl
kept-nothing test f none (p ∷ ps) =
    let g : Place → List Event = λ q. f q ∷ [] in
    cond-false (test (f p)) (f p ∷ filter test (flat_map g ps)) (filter test (flat_map g ps)) (none p) ∙ kept-nothing test f none ps

-- a look is at the nearest source
look-named : (s : State) (h : ℕ) (p : Place) (source : SourceAt) (near : Nearest) →
    option_map_or (same_source (source_of s source)) (source_for (name_at s p) near) false ≡ true → may_look s h source (Some p) ≡ true →
    option_map_or (λ t. may_look s h t (Some p)) (source_named p near) false ≡ true
look-named s h p Scope TheScope is may = may
look-named s h p (At q) TheScope is may = absurd (false≢true is)
look-named s h p Scope (TheNode n) is may = absurd (false≢true is)
look-named s h p (At q) (TheNode n) is may =
    let names = same-true (name_at s q) (beside (name_at s p) n) is in
    let block : q.block ≡ p.block = ap (λ (x : Name). x.block) names in
    let node : q.node ≡ n = ap (λ (x : Name). x.node) names in
    let place : q ≡ place_of p.block n = ap (λ (b : ℕ). place_of b q.node) block ∙ ap (λ (m : ℕ). place_of p.block m) node in
    subst (λ (t : Place). may_look s h (At t) (Some p) ≡ true) place may
look-named s h p source Nowhere is may = absurd (false≢true is)

look-waits : (s : State) (h : ℕ) (source : SourceAt) (p : Place) → may_look s h source (Some p) ≡ true → is_waiting s h p ≡ true
look-waits s h source p may =
    let at = and_parts (is_place s p) _ may in
    let near = and_parts ((s.view h).unlooked (name_at s p)) (is_nearest s (source_of s source) (name_at s p)) at.1 in
    look-named s h p source (nearest s.tree p.node) near.1 may

-- all looks at a source were tried, where those after the arming of waiting places were
pub keeps_looks : (s : State) (h : ℕ) (old new : List Event) (source : SourceAt) (waiting : List Place) → waiting ≡ filter (is_waiting s h) (places_of s) →
    Keeps s h old new (flat_map (λ p. Look source (Some p) ∷ []) waiting) → Keeps s h old new (looks_at s source)
keeps_looks s h old new source waiting are kept =
    record {
      added =
          kept.added
          ∙ ap (λ (l : List Place). old ++ filter (may_happen s h) (flat_map (λ p. Look source (Some p) ∷ []) l)) are
          ∙ ap (λ (l : List Event). old ++ l)
          (sym (kept-fewer (may_happen s h) (is_waiting s h) (λ p. Look source (Some p)) (λ p may. look-waits s h source p may) (places_of s)));
    }

-- no run is a step without a scan
run-none : (s : State) (h : ℕ) (source : SourceAt) (p : Place) → (s.view h).scan (source_of s source) ≡ None → may_run s h source p ≡ false
run-none s h source p none =
    let next : is_next_in s (s.view h) (source_of s source) (name_at s p) ≡ false =
    ap (λ (o : Option ℕ). option_map_or (λ i. is_next s (source_of s source) i (name_at s p)) o false) none in
    and_right (is_place s p) _ (and_left (is_next_in s (s.view h) (source_of s source) (name_at s p)) _ next)

pub keeps_no_run : (s : State) (h : ℕ) (old : List Event) (source : SourceAt) (scan : Option ℕ) → (s.view h).scan (source_of s source) ≡ scan → is_some scan ≡ false → Keeps s h old old (runs_at s source)
keeps_no_run s h old source scan is none =
    record {
      added =
          sym (append-nil old)
          ∙ ap (λ (l : List Event). old ++ l)
          (sym (kept-nothing (may_happen s h) (λ p. Run source p) (λ p. run-none s h source p (is ∙ none-from scan none)) (places_of s)));
    }

-- the waiting places among the first, and among one more
pub waiting_yes : (test : Place → Bool) (ps xs old new : List Place) (i : ℕ) (x d : Place) → ps ≡ xs → i < length ps → x ≡ get_or ps i d → test x ≡ true →
    old ≡ filter test (take i xs) → new ≡ old ++ x ∷ [] → new ≡ filter test (take (i + 1) xs)
waiting_yes test ps xs old new i x d same here at passes so_far is =
    let within = subst (λ (l : List Place). i < length l) same here in
    let there : x ≡ get_or xs i d = at ∙ ap (λ (l : List Place). get_or l i d) same in
    is
    ∙ ap (λ (l : List Place). l ++ x ∷ []) so_far
    ∙ ap (λ (l : List Place). filter test (take i xs) ++ l) (sym (cond-true (test x) (x ∷ []) [] passes))
    ∙ ap (λ (y : Place). filter test (take i xs) ++ cond (test y) (y ∷ []) []) there
    ∙ sym (filter_more test xs i d within)

pub waiting_no : (test : Place → Bool) (ps xs old : List Place) (i : ℕ) (x d : Place) → ps ≡ xs → i < length ps → x ≡ get_or ps i d → test x ≡ false →
    old ≡ filter test (take i xs) → old ≡ filter test (take (i + 1) xs)
waiting_no test ps xs old i x d same here at fails so_far =
    let within = subst (λ (l : List Place). i < length l) same here in
    let there : x ≡ get_or xs i d = at ∙ ap (λ (l : List Place). get_or l i d) same in
    so_far
    ∙ sym (append-nil (filter test (take i xs)))
    ∙ ap (λ (l : List Place). filter test (take i xs) ++ l) (sym (cond-false (test x) (x ∷ []) [] fails))
    ∙ ap (λ (y : Place). filter test (take i xs) ++ cond (test y) (y ∷ []) []) there
    ∙ sym (filter_more test xs i d within)

pub waiting_all : (test : Place → Bool) (ps xs : List Place) (i : ℕ) → ps ≡ xs → length ps ≤ i → filter test (take i xs) ≡ filter test xs
waiting_all test ps xs i same done = ap (filter test) (take_all i xs (subst (λ (l : List Place). length l ≤ i) same done))
