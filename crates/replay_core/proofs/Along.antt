-- Lists of moves, one move longer.
use Rattle.std.proofs.Common.{◌≡◌, ℕ, ◌+◌, ◌<◌, false, List, [], ◌∷◌, ◌++◌, map, length, take, get_or, Option, Some, refl, sym, ap, ◌∙◌}
use Rattle.std.specs.Option.{option_map_or}
use Rattle.std.proofs.lemmas.List.{take_more, map-append}
use Rattle.std.proofs.lemmas.Option.{slice_get-get_or}
use Rattle.life_rules.specs.States.{State}
use Rattle.life_rules.specs.Steps.{Move, is_step, moved, run}
use Rattle.life_laws.proofs.Laws.{sound-reached}
use Rattle.trace_text.specs.declared.entry.Entry.{Entry}
use Rattle.trace_text.specs.Setups.{Setup, IsSetup}
use Rattle.trace_text.specs.Values.{TraceValue}
use Rattle.replay_core.specs.Traces.{first_state, move_of, state_after, state_at, is_taken, AreSound}

-- one move after others
pub run-more : (ms : List Move) (m : Move) (s : State) → run (ms ++ m ∷ []) s ≡ moved (run ms s) m
run-more [] m s = refl
run-more (n ∷ ms) m s = run-more ms m (moved s n)

-- the state after one entry more
pub state_after-more : (o : Setup) (es : List Entry) (e : Entry) → state_after o (es ++ e ∷ []) ≡ moved (state_after o es) (move_of e)
state_after-more o es e =
    ap (λ (ms : List Move). run ms (first_state o)) (map-append move_of es (e ∷ []))
    ∙ run-more (map move_of es) (move_of e) (first_state o)

-- the state that the next entry meets
pub state_at-more : (t : TraceValue) (i : ℕ) (e : Entry) → i < length t.entries → e ≡ get_or t.entries i e → state_at t (i + 1) ≡ moved (state_at t i) (move_of e)
state_at-more t i e here is =
    ap (state_after t.opening) (take_more t.entries i e here ∙ ap (λ (x : Entry). take i t.entries ++ x ∷ []) (sym is))
    ∙ state_after-more t.opening (take i t.entries) e

-- whether the trace's entry i is a step
pub is_taken-at : (t : TraceValue) (i : ℕ) (e : Entry) → i < length t.entries → e ≡ get_or t.entries i e → is_taken t i ≡ is_step (state_at t i) (move_of e)
is_taken-at t i e here is =
    ap (λ (o : Option Entry). option_map_or (λ x. is_step (state_at t i) (move_of x)) o false)
    (slice_get-get_or t.entries i e here ∙ ap (λ (x : Entry). Some x) (sym is))

-- each state along a trace is sound
pub AreSound-trace : (t : TraceValue) → IsSetup t.opening → AreSound t
AreSound-trace t o k within =
    sound-reached (state_at t k) (record {
      nodes = t.opening.nodes;
      blocks = t.opening.blocks;
      hands = t.opening.hands;
      kind = t.opening.kind;
      most = t.opening.most;
      tree = o.tree;
      some_hand = o.within.some_hand;
      moves = map move_of (take k t.entries);
      leads = refl;
    })
