-- What a step names is there.
use Rattle.std.proofs.Common.{◌≡◌, ℕ, zero, suc, ◌+◌, ◌<◌, ◌≤◌, ◌^◌, true, false, ◌&&◌, List, [], ◌∷◌, length, get_or, Option, Some, None, refl, sym, ap, subst, ◌∙◌, arith}
use Rattle.std.specs.Prelude.{nat_lt, nat_le, ◌==◌, not}
use Rattle.std.specs.List.{list_all, slice_get, flat_map, range_with_len}
use Rattle.std.proofs.lemmas.List.Folds.{list_all-append}
use Rattle.std.specs.Option.{option_map_or, option_and_then}
use Rattle.std.proofs.lemmas.Bool.{and_parts, and_from, eqb-true, lt-ltb, ltb-true, false≢true}
use Rattle.std.proofs.lemmas.Option.{slice_get_within}
use Rattle.life_rules.proofs.Names.{same-true}
use Rattle.common_lemmas.proofs.Lists.{list_all-read}
use Rattle.life_rules.specs.declared.event.Event.{Event}
use Rattle.life_rules.specs.declared.event.Event.TheVariants.{Claim, Begin, Await, Rest, Take, Finish, Report, Release, Arm, Look, Request, Run, EndRun, Withdraw, WithdrawOwn, SealScan, Skip, Rouse, Enter, MarkUsed, Leave, Close, Join, Seal}
use Rattle.life_rules.specs.declared.event.Name.{Name}
use Rattle.life_rules.specs.declared.event.Place.{Place}
use Rattle.life_rules.specs.declared.event.SourceAt.{SourceAt}
use Rattle.life_rules.specs.declared.event.SourceAt.TheVariants.{Scope as AtScope, At}
use Rattle.life_rules.specs.declared.event.SourceRef.{SourceRef}
use Rattle.node_tree.specs.declared.node.TreeNode.{TreeNode}
use Rattle.life_rules.specs.LifeSteps.{may_be_awaited, may_leave_node}
use Rattle.common_lemmas.specs.Lists.{are_different}
use Rattle.life_rules.specs.Scans.{is_nearest, is_next, is_next_in}
use Rattle.life_rules.specs.Scopes.{may_seal}
use Rattle.life_rules.specs.ScopeSteps.{same_word}
use Rattle.life_rules.specs.States.{State, size, is_place, name_at, source_for}
use Rattle.life_rules.specs.Steps.{may_happen}
use Rattle.life_rules.specs.StopSteps.{source_of, is_source, may_end_run}
use Rattle.node_tree.specs.Tree.{Nearest, TheScope, TheNode, Nowhere, nearest, is_child}
use Rattle.life_rules.specs.Views.{same, same_source, beside}
use Rattle.node_tree.proofs.Walk.{nearest-source}
use Rattle.replay_core.specs.Candidates.{place_of, places_in, places_of, sources_of}
use Rattle.replay_core.specs.Listings.{is_known}
use Rattle.exec_life.specs.Reading.{TellsView}
use Rattle.exec_life.specs.ViewLists.{ViewLists, KnowsSource}
use Rattle.trace_text.specs.Setups.{Setup}
use Rattle.trace_text.specs.Values.{has_node, has_source, has_children, has_event}

-- what a state is of
abbrev pub setup_in : State → Setup
setup_in s = record { nodes = s.tree; blocks = s.blocks; hands = s.hands; kind = s.kind; most = s.most }

-- a child is a node
child-there : (tree : List TreeNode) (p n : ℕ) → is_child tree p n ≡ true → nat_lt n (length tree) ≡ true
child-there tree p n e =
    let read : (o : Option TreeNode) → slice_get tree n ≡ o → option_map_or (λ q. q == p) (option_and_then (λ (node : TreeNode). node.parent) o) false ≡ true → nat_lt n (length tree) ≡ true =
    λ o. elim o as (λ o. slice_get tree n ≡ o → option_map_or (λ q. q == p) (option_and_then (λ (node : TreeNode). node.parent) o) false ≡ true → nat_lt n (length tree) ≡ true) [
      | None ↦ λ is t. absurd (false≢true t)
      | Some node ↦ λ is t. lt-ltb n (length tree) (slice_get_within tree n node is)
    ] in
    read (slice_get tree n) refl e

children-there : (s : State) (x : Name) (nodes : List ℕ) → list_all (may_be_awaited s x) nodes ≡ true → list_all (has_node (setup_in s)) nodes ≡ true
children-there s x [] e = refl
children-there s x (n ∷ nodes) e =
    let parts = and_parts (may_be_awaited s x n) (list_all (may_be_awaited s x) nodes) e in
    and_from (has_node (setup_in s) n) (list_all (has_node (setup_in s)) nodes)
    (child-there s.tree x.node n (and_parts (is_child s.tree x.node n) _ parts.0).0)
    (children-there s x nodes parts.1)

-- a source is there
source-there : (s : State) (source : SourceAt) → is_source s source ≡ true → has_source (setup_in s) source ≡ true
source-there s AtScope e = refl
source-there s (At p) e = (and_parts (is_place s p) _ e).0

-- so is the source of a node's own operation
own-there : (s : State) (p q : Place) (m : ℕ) → is_place s p ≡ true → m < size s → same (name_at s q) (beside (name_at s p) m) ≡ true → is_place s q ≡ true
own-there s p q m there within e =
    let names = same-true (name_at s q) (beside (name_at s p) m) e in
    let block : q.block ≡ p.block = ap (λ (x : Name). x.block) names in
    let node : q.node ≡ m = ap (λ (x : Name). x.node) names in
    and_from (nat_lt q.block s.blocks) (nat_lt q.node (size s))
    (subst (λ (b : ℕ). nat_lt b s.blocks ≡ true) (sym block) (and_parts (nat_lt p.block s.blocks) _ there).0)
    (subst (λ (n : ℕ). nat_lt n (size s) ≡ true) (sym node) (lt-ltb m (size s) within))

-- the nearest source of a place is there
nearest-there : (s : State) (p : Place) (source : SourceAt) (near : Nearest) → nearest s.tree p.node ≡ near → is_place s p ≡ true →
    option_map_or (same_source (source_of s source)) (source_for (name_at s p) near) false ≡ true → has_source (setup_in s) source ≡ true
nearest-there s p AtScope near is there e = refl
nearest-there s p (At q) TheScope is there e = absurd (false≢true e)
nearest-there s p (At q) (TheNode m) is there e = own-there s p q m there (nearest-source s.tree p.node m is).1 e
nearest-there s p (At q) Nowhere is there e = absurd (false≢true e)

-- the next place of a scan hears the scan's source
next-for : (s : State) (source : SourceRef) (x : Name) (scan : Option ℕ) → option_map_or (λ i. is_next s source i x) scan false ≡ true → is_nearest s source x ≡ true
next-for s source x None e = absurd (false≢true e)
next-for s source x (Some i) e = (and_parts (is_nearest s source x) _ e).0

-- what a step names is there
pub step-there : (s : State) (h : ℕ) (event : Event) → may_happen s h event ≡ true → has_event (setup_in s) event ≡ true
step-there s h (Claim b) e = (and_parts (nat_lt b s.blocks) _ e).0
step-there s h (Begin p) e = (and_parts (is_place s p) _ e).0
step-there s h (Await p nodes) e =
    let at = and_parts (is_place s p) _ e in
    let held = and_parts (may_leave_node (s.view h) (name_at s p)) _ at.1 in
    let some = and_parts (nat_le 1 (length nodes)) _ held.1 in
    let each = and_parts (are_different nodes) _ some.1 in
    and_from (is_place s p) (has_children (setup_in s) nodes) at.0
    (and_from (nat_le 1 (length nodes)) (list_all (has_node (setup_in s)) nodes) some.0
    (children-there s (name_at s p) nodes each.1))
step-there s h (Rest p to) e = (and_parts (is_place s p) _ e).0
step-there s h (Take p) e = (and_parts (is_place s p) _ e).0
step-there s h (Finish p) e = (and_parts (is_place s p) _ e).0
step-there s h (Report p) e = (and_parts (is_place s p) _ e).0
step-there s h (Release b) e = (and_parts (nat_lt b s.blocks) _ e).0
step-there s h (Arm p) e = (and_parts (is_place s p) _ e).0
step-there s h (Look source None) e = and_from (has_source (setup_in s) source) true (source-there s source e) refl
step-there s h (Look source (Some p)) e =
    let at = and_parts (is_place s p) _ e in
    let near = and_parts ((s.view h).unlooked (name_at s p)) _ at.1 in
    and_from (has_source (setup_in s) source) (is_place s p)
    (nearest-there s p source (nearest s.tree p.node) refl at.0 near.1) at.0
step-there s h (Request source failure) e = source-there s source (and_parts (is_source s source) _ e).0
step-there s h (Run source p) e =
    let at = and_parts (is_place s p) _ e in
    let next = and_parts (is_next_in s (s.view h) (source_of s source) (name_at s p)) _ at.1 in
    let for = next-for s (source_of s source) (name_at s p) ((s.view h).scan (source_of s source)) next.0 in
    and_from (has_source (setup_in s) source) (is_place s p)
    (nearest-there s p source (nearest s.tree p.node) refl at.0 for) at.0
step-there s h (EndRun p) e = (and_parts (is_place s p) _ e).0
step-there s h (Withdraw p) e = (and_parts (is_place s p) _ e).0
step-there s h (WithdrawOwn p) e = (and_parts (is_place s p) _ (and_parts (may_end_run s h p) _ e).0).0
step-there s h (SealScan source) e = source-there s source (and_parts (is_source s source) _ e).0
step-there s h (Skip b) e = (and_parts (nat_lt b s.blocks) _ e).0
step-there s h (Rouse p) e = (and_parts (is_place s p) _ e).0
step-there s h Enter e = refl
step-there s h MarkUsed e = refl
step-there s h Leave e = refl
step-there s h Close e = refl
step-there s h Join e = refl
step-there s h (Seal w) e =
    let seals = and_parts (same_word s.scope w) (may_seal w) e in
    let parts = and_parts (w.joining && not w.joined) (w.count == 0) seals.1 in
    lt-ltb w.count (2 ^ 32) (omega (arith, eqb-true w.count 0 parts.1))

-- all places that are listed are there
nodes-there : (s : State) (b a n : ℕ) → b < s.blocks → a + n ≤ size s → list_all (is_place s) (flat_map (λ m. place_of b m ∷ []) (range_with_len a n)) ≡ true
nodes-there s b a zero block within = refl
nodes-there s b a (suc n) block within =
    and_from (is_place s (place_of b a)) (list_all (is_place s) (flat_map (λ m. place_of b m ∷ []) (range_with_len (a + 1) n)))
    (and_from (nat_lt b s.blocks) (nat_lt a (size s)) (lt-ltb b s.blocks block) (lt-ltb a (size s) (omega (arith, within))))
    (nodes-there s b (a + 1) n block (omega (arith, within)))

blocks-there : (s : State) (a n : ℕ) → a + n ≤ s.blocks → list_all (is_place s) (flat_map (places_in s) (range_with_len a n)) ≡ true
blocks-there s a zero within = refl
blocks-there s a (suc n) within =
    list_all-append (is_place s) (places_in s a) (flat_map (places_in s) (range_with_len (a + 1) n))
    ∙ and_from (list_all (is_place s) (places_in s a)) (list_all (is_place s) (flat_map (places_in s) (range_with_len (a + 1) n)))
    (nodes-there s a 0 (size s) (omega (arith, within)) (omega arith))
    (blocks-there s (a + 1) n (omega (arith, within)))

pub place-there : (s : State) (ps : List Place) (i : ℕ) (d : Place) → ps ≡ places_of s → i < length ps → is_place s (get_or ps i d) ≡ true
place-there s ps i d are here =
    list_all-read (is_place s) ps i d here
    (ap (list_all (is_place s)) are ∙ blocks-there s 0 s.blocks (omega arith))

-- so are the places of all sources that are listed
known-each : (s : State) (ps : List Place) → list_all (is_place s) ps ≡ true → list_all (is_known s) (flat_map (λ p. At p ∷ []) ps) ≡ true
known-each s [] all = refl
known-each s (p ∷ ps) all =
    let parts = and_parts (is_place s p) (list_all (is_place s) ps) all in
    and_from (is_place s p) (list_all (is_known s) (flat_map (λ q. At q ∷ []) ps)) parts.0 (known-each s ps parts.1)

pub source-known : (s : State) (ts : List SourceAt) (i : ℕ) (d : SourceAt) → ts ≡ sources_of s → i < length ts → is_known s (get_or ts i d) ≡ true
source-known s ts i d are here =
    let nodes = flat_map (λ p. At p ∷ []) (places_of s) in
    list_all-read (is_known s) ts i d here
    (ap (list_all (is_known s)) are
    ∙ list_all-append (is_known s) nodes (AtScope ∷ [])
    ∙ and_from (list_all (is_known s) nodes) true (known-each s (places_of s) (blocks-there s 0 s.blocks (omega arith))) refl)

-- a view has cells for them
pub source-knows : (s : State) (h : ℕ) (v : ViewLists) (source : SourceAt) → TellsView s h v → is_known s source ≡ true → KnowsSource v source
source-knows s h v AtScope tells known = tt
source-knows s h v (At p) tells known =
    let parts = and_parts (nat_lt p.block s.blocks) (nat_lt p.node (size s)) known in
    record {
      block = subst (λ (n : ℕ). p.block < n) (sym tells.blocks) (ltb-true p.block s.blocks parts.0);
      node = subst (λ (n : ℕ). p.node < n) (sym tells.nodes) (ltb-true p.node (size s) parts.1);
    }
