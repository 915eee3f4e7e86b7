-- What holds along a schedule.
use Rattle.std.proofs.Common.{◌≡◌, ℕ, zero, suc, ◌+◌, ◌%◌, ◌<◌, ◌≤◌, Bool, true, false, List, [], ◌∷◌, ◌++◌, length, take, drop, get_or, Option, Some, None, refl, sym, ap, subst, ◌∙◌, append_assoc, length-append, drop-cons, inl, inr, arith}
use Rattle.std.specs.Prelude.{nat_lt, MatchOption}
use Rattle.std.specs.List.{filter, list_all, slice_get}
use Rattle.std.specs.Option.{option_map_or}
use Rattle.std.proofs.lemmas.Bool.{and_parts, and_from, cond-true, cond-false, lt-ltb, ltb-true, both_ways, cases_lt}
use Rattle.std.proofs.lemmas.List.{append-nil, drop_all, take_at, take-append-le}
use Rattle.std.proofs.lemmas.List.Folds.{list_all-append, list_all_at}
use Rattle.common_lemmas.proofs.Bool.{either}
use Rattle.life_rules.specs.declared.event.Event.{Event}
use Rattle.life_rules.specs.States.{State}
use Rattle.life_rules.specs.Steps.{is_step, may_happen, moved}
use Rattle.exec_life.specs.Reading.{SameTable}
use Rattle.common_lemmas.proofs.Options.{known}
use Rattle.common_lemmas.proofs.Lists.{slice_get-append_left, slice_get-append_middle}
use Rattle.trace_text.specs.declared.entry.Choice.{Choice}
use Rattle.trace_text.specs.declared.entry.Entry.{Entry}
use Rattle.trace_text.specs.Setups.{Setup}
use Rattle.trace_text.specs.Values.{has_entry, has_event, has_choice}
use Rattle.replay_core.specs.Candidates.{candidates, life_events, stop_events, scope_events}
use Rattle.replay_core.specs.Replays.{chosen, entry_of, entries_from, Follows}
use Rattle.replay_core.specs.Traces.{first_state, move_of, state_after, is_taken, AreTaken}
use Rattle.replay_core.proofs.Along.{state_after-more}
use Rattle.replay_core.proofs.There.{setup_in, step-there}

-- what holds between the choices: the state and the entries so far, and those to come
pub record Follow (o : Setup) (s : State) (es : List Entry) (rest all : List Choice) : Type 0 where
  pub state : s ≡ state_after o es
  pub rule : es ++ entries_from s rest ≡ entries_from (first_state o) all
  pub taken : AreTaken (record { opening = o; entries = es }) (length es)
  pub there : list_all (has_entry o) es ≡ true
  pub table : SameTable (first_state o) s
  pub few : length es + length rest ≤ length all

pub same_table : (s : State) → SameTable s s
same_table s = record { tree = refl; blocks = refl; hands = refl; kind = refl; most = refl }

pub same_table-join : (s t u : State) → SameTable s t → SameTable t u → SameTable s u
same_table-join s t u p q =
    record {
      tree = q.tree ∙ p.tree;
      blocks = q.blocks ∙ p.blocks;
      hands = q.hands ∙ p.hands;
      kind = q.kind ∙ p.kind;
      most = q.most ∙ p.most;
    }

-- a state with the table of an opening is of that opening
setup_in-same : (o : Setup) (s : State) → SameTable (first_state o) s → setup_in s ≡ o
setup_in-same o s e =
    ap (λ v. record (setup_in s) { nodes = v }) e.tree
    ∙ ap (λ v. record { nodes = o.nodes; blocks = v; hands = s.hands; kind = s.kind; most = s.most }) e.blocks
    ∙ ap (λ v. record { nodes = o.nodes; blocks = o.blocks; hands = v; kind = s.kind; most = s.most }) e.hands
    ∙ ap (λ v. record { nodes = o.nodes; blocks = o.blocks; hands = o.hands; kind = v; most = s.most }) e.kind
    ∙ ap (λ v. record { nodes = o.nodes; blocks = o.blocks; hands = o.hands; kind = o.kind; most = v }) e.most

first : (o : Setup) (all : List Choice) → Follow o (first_state o) [] all all
first o all =
    record {
      state = refl;
      rule = refl;
      taken = λ k below. absurd (omega arith);
      there = refl;
      table = same_table (first_state o);
      few = omega arith;
    }

-- before the first choice
pub follow-first : (o : Setup) (s : State) (es : List Entry) (rest all : List Choice) → s ≡ first_state o → es ≡ [] → rest ≡ all → Follow o s es rest all
follow-first o s es rest all is none whole =
    subst (λ (u : State). Follow o u es rest all) (sym is)
    (subst (λ (l : List Entry). Follow o (first_state o) l rest all) (sym none)
    (subst (λ (l : List Choice). Follow o (first_state o) [] l all) (sym whole) (first o all)))

-- what a filter keeps passes its test
kept-head : {X : Type 0} (p : X → Bool) (x : X) (xs : List X) (i : ℕ) (e : X) → p x ≡ true → ((j : ℕ) → slice_get xs j ≡ Some e → p e ≡ true) → slice_get (x ∷ xs) i ≡ Some e → p e ≡ true
kept-head p x xs zero e passes later is = let same : x ≡ e = cc in subst (λ y. p y ≡ true) same passes
kept-head p x xs (suc i) e passes later is = later i is

pub kept-passes : {X : Type 0} (p : X → Bool) (xs : List X) (i : ℕ) (e : X) → slice_get (filter p xs) i ≡ Some e → p e ≡ true
kept-passes p [] i e is = absurd (cc)
kept-passes p (x ∷ xs) i e is =
    either (p x)
    (λ passes. kept-head p x (filter p xs) i e passes (λ j there. kept-passes p xs j e there)
    (ap (λ (l : List _). slice_get l i) (sym (cond-true (p x) (x ∷ filter p xs) (filter p xs) passes)) ∙ is))
    (λ fails. kept-passes p xs i e (ap (λ (l : List _). slice_get l i) (sym (cond-false (p x) (x ∷ filter p xs) (filter p xs) fails)) ∙ is))

-- an entry before the last one is a step with it as without it
taken-before : (o : Setup) (es : List Entry) (e : Entry) (k : ℕ) → k < length es → is_taken (record { opening = o; entries = es ++ e ∷ [] }) k ≡ is_taken (record { opening = o; entries = es }) k
taken-before o es e k below =
    let front : take k (es ++ e ∷ []) ≡ take k es = take-append-le k es (e ∷ []) (omega arith) in
    let here : slice_get (es ++ e ∷ []) k ≡ slice_get es k =
    slice_get-append_left es (e ∷ []) k below in
    ap (λ (l : List Entry). option_map_or (λ x. is_step (state_after o l) (move_of x)) (slice_get (es ++ e ∷ []) k) false) front
    ∙ ap (λ (w : Option Entry). option_map_or (λ x. is_step (state_after o (take k es)) (move_of x)) w false) here

-- the last entry is a step where its move is one
taken-last : (o : Setup) (s : State) (es : List Entry) (e : Entry) → s ≡ state_after o es → is_step s (move_of e) ≡ true → is_taken (record { opening = o; entries = es ++ e ∷ [] }) (length es) ≡ true
taken-last o s es e is step =
    let front : take (length es) (es ++ e ∷ []) ≡ es = take_at es (e ∷ []) (length es) refl in
    let here : slice_get (es ++ e ∷ []) (length es) ≡ Some e = slice_get-append_middle es e [] in
    ap (λ (l : List Entry). option_map_or (λ x. is_step (state_after o l) (move_of x)) (slice_get (es ++ e ∷ []) (length es)) false) front
    ∙ ap (λ (w : Option Entry). option_map_or (λ x. is_step (state_after o es) (move_of x)) w false) here
    ∙ ap (λ (u : State). is_step u (move_of e)) (sym is)
    ∙ step

taken-more : (o : Setup) (s : State) (es : List Entry) (e : Entry) → s ≡ state_after o es → is_step s (move_of e) ≡ true → AreTaken (record { opening = o; entries = es }) (length es) → AreTaken (record { opening = o; entries = es ++ e ∷ [] }) (length (es ++ e ∷ []))
taken-more o s es e is step taken k below =
    elim (cases_lt k (length es)) [
      | inl before ↦ taken-before o es e k before ∙ taken k before
      | inr last ↦
          let at : length es ≡ k = omega (arith, length-append es (e ∷ []), below, last) in
          subst (λ (n : ℕ). is_taken (record { opening = o; entries = es ++ e ∷ [] }) n ≡ true) at (taken-last o s es e is step)
    ]

there-more : (o : Setup) (s : State) (c : Choice) (event : Event) (es : List Entry) → SameTable (first_state o) s → c.hand < s.hands → may_happen s c.hand event ≡ true → list_all (has_entry o) es ≡ true → list_all (has_entry o) (es ++ entry_of c event ∷ []) ≡ true
there-more o s c event es table hand may there =
    let e = entry_of c event in
    let named : has_event o event ≡ true =
    subst (λ (u : Setup). has_event u event ≡ true) (setup_in-same o s table) (step-there s c.hand event may) in
    let hand_there : nat_lt c.hand o.hands ≡ true = lt-ltb c.hand o.hands (subst (λ (n : ℕ). c.hand < n) table.hands hand) in
    let one : list_all (has_entry o) (e ∷ []) ≡ true =
    and_from (has_entry o e) true (and_from (nat_lt c.hand o.hands) (has_event o event) hand_there named) refl in
    list_all-append (has_entry o) es (e ∷ []) ∙ and_from (list_all (has_entry o) es) (list_all (has_entry o) (e ∷ [])) there one

-- a choice without a candidate
follow-none : (o : Setup) (s : State) (es : List Entry) (c : Choice) (rest all : List Choice) → Follow o s es (c ∷ rest) all → chosen s c ≡ None → Follow o s es rest all
follow-none o s es c rest all a none =
    record {
      state = a.state;
      rule =
          ap (λ (w : Option Event). es ++ option_map_or (λ event. entry_of c event ∷ entries_from (moved s (move_of (entry_of c event))) rest) w (entries_from s rest)) (sym none)
          ∙ a.rule;
      taken = a.taken;
      there = a.there;
      table = a.table;
      few = omega (arith, a.few);
    }

-- a choice with one
follow-some : (o : Setup) (s : State) (es : List Entry) (c : Choice) (rest all : List Choice) (event : Event) → Follow o s es (c ∷ rest) all → chosen s c ≡ Some event → c.hand < s.hands → SameTable s (moved s (move_of (entry_of c event))) → Follow o (moved s (move_of (entry_of c event))) (es ++ entry_of c event ∷ []) rest all
follow-some o s es c rest all event a some hand table =
    let e = entry_of c event in
    let t = moved s (move_of e) in
    let may : may_happen s c.hand event ≡ true =
    kept-passes (may_happen s c.hand) (life_events s ++ (stop_events s ++ scope_events s)) (c.choice % length (candidates s c.hand)) event some in
    let step : is_step s (move_of e) ≡ true = and_from (nat_lt c.hand s.hands) (may_happen s c.hand event) (lt-ltb c.hand s.hands hand) may in
    record {
      state = ap (λ (u : State). moved u (move_of e)) a.state ∙ sym (state_after-more o es e);
      rule =
          append_assoc es (e ∷ []) (entries_from t rest)
          ∙ ap (λ (w : Option Event). es ++ option_map_or (λ v. entry_of c v ∷ entries_from (moved s (move_of (entry_of c v))) rest) w (entries_from s rest)) (sym some)
          ∙ a.rule;
      taken = taken-more o s es e a.state step a.taken;
      there = there-more o s c event es a.table hand may a.there;
      table = same_table-join (first_state o) s t a.table table;
      few = omega (arith, a.few, length-append es (e ∷ []));
    }

-- one choice more
pub follow-more : (o : Setup) (s t : State) (es fs : List Entry) (c : Choice) (rest all : List Choice) → Follow o s es (c ∷ rest) all → Follows s t c es fs → SameTable s t → c.hand < s.hands → Follow o t fs rest all
follow-more o s t es fs c rest all a followed table hand =
    let P : Option Event → Type 0 =
    λ w. MatchOption w ((t ≡ s) × (fs ≡ es)) (λ event. (t ≡ moved s (move_of (entry_of c event))) × (fs ≡ es ++ entry_of c event ∷ [])) in
    known (chosen s c)
    (λ none.
    let same = subst P none followed in
    subst (λ (u : State). Follow o u fs rest all) (sym same.0)
    (subst (λ (l : List Entry). Follow o s l rest all) (sym same.1) (follow-none o s es c rest all a none)))
    (λ event some.
    let next = subst P some followed in
    subst (λ (u : State). Follow o u fs rest all) (sym next.0)
    (subst (λ (l : List Entry). Follow o (moved s (move_of (entry_of c event))) l rest all) (sym next.1)
    (follow-some o s es c rest all event a some hand (subst (λ (u : State). SameTable s u) next.0 table))))

-- what is left before a choice
pub rest-next : (all : List Choice) (i : ℕ) (c d : Choice) → i < length all → c ≡ get_or all i d → drop i all ≡ c ∷ drop (i + 1) all
rest-next all i c d here is =
    let next : suc i ≡ i + 1 = omega arith in
    drop-cons all i d here ∙ ap (λ (x : Choice). x ∷ drop (suc i) all) (sym is) ∙ ap (λ (n : ℕ). c ∷ drop n all) next

-- the hand of a choice is there
pub hand-there : (o : Setup) (s : State) (all : List Choice) (i : ℕ) (c d : Choice) → list_all (has_choice o) all ≡ true → SameTable (first_state o) s → i < length all → c ≡ get_or all i d → c.hand < s.hands
hand-there o s all i c d each table here is =
    let has : has_choice o (get_or all i d) ≡ true =
    either (has_choice o (get_or all i d)) (λ passes. passes)
    (λ fails. absurd (both_ways (list_all (has_choice o) all) (list_all_at (has_choice o) all i d here fails) each)) in
    let named = subst (λ (x : Choice). has_choice o x ≡ true) (sym is) has in
    subst (λ (n : ℕ). c.hand < n) (sym table.hands) (ltb-true c.hand o.hands (and_parts (nat_lt c.hand o.hands) _ named).0)

-- after the last choice
pub follow-all : (o : Setup) (s : State) (es : List Entry) (all : List Choice) (i : ℕ) → Follow o s es (drop i all) all → length all ≤ i → es ≡ entries_from (first_state o) all
follow-all o s es all i a done =
    sym (append-nil es) ∙ ap (λ (l : List Choice). es ++ entries_from s l) (sym (drop_all i all done)) ∙ a.rule
