-- The states along a trace, one entry further.
use Rattle.std.proofs.Common.{◌≡◌, ℕ, ◌+◌, ◌<◌, List, length, get_or, sym, ap, ◌∙◌}
use Rattle.life_rules.specs.States.{State}
use Rattle.life_rules.specs.Steps.{moved}
use Rattle.replay_core.specs.Traces.{state_at, move_of}
use Rattle.replay_core.proofs.Along.{state_at-more}
use Rattle.trace_text.specs.declared.entry.Entry.{Entry}
use Rattle.trace_text.specs.Values.{TraceValue}

-- the state after one entry more
pub state-next : (t : TraceValue) (entries : List Entry) (i : ℕ) (e : Entry) (s u : State) → entries ≡ t.entries → i < length t.entries → e ≡ get_or entries i e
    → s ≡ state_at t i → u ≡ moved s (move_of e) → u ≡ state_at t (i + 1)
state-next t entries i e s u same here is was now =
    now
    ∙ ap (λ (x : State). moved x (move_of e)) was
    ∙ sym (state_at-more t i e here (is ∙ ap (λ (l : List Entry). get_or l i e) same))
