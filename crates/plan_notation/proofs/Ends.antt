-- What the end of a text makes of the state.
use Rattle.std.proofs.Common.{◌≡◌, ℕ, true, false, List, length, Ok, Err, sym, ap, ◌∙◌}
use Rattle.std.proofs.lemmas.Bool.{cond-false, cond-true}
use Rattle.plan_words.specs.Cutting.{tokens_of}
use Rattle.plan_notation.specs.Assembled.{plan_json}
use Rattle.plan_notation.specs.Frames.{SpotSeen}
use Rattle.plan_notation.specs.Machine.{machine_at_start, is_text_done}
use Rattle.plan_notation.specs.Reading.{reads_if_done, reads_at_end, lacking, last_begun, read_in, run_tokens, then_reads}
use Rattle.plan_notation.specs.States.{MachineState}

pub ended : (end : ℕ) (s : MachineState) (json : List ℕ) (spots : List SpotSeen) (at : ℕ) → is_text_done s ≡ true
    → json ≡ plan_json s.said s.sender.text → spots ≡ s.spots → at ≡ s.said.scope_at
    → reads_if_done end s ≡ Ok (record { json = json; spots = spots; scope_at = at })
ended end s json spots at done e f g =
    cond-true (is_text_done s) _ _ done
    ∙ ap (λ (j : List ℕ). Ok (record { json = j; spots = s.spots; scope_at = s.said.scope_at })) (sym e)
    ∙ ap (λ (l : List SpotSeen). Ok (record { json = json; spots = l; scope_at = s.said.scope_at })) (sym f)
    ∙ ap (λ (n : ℕ). Ok (record { json = json; spots = spots; scope_at = n })) (sym g)

pub not_ended : (end : ℕ) (s : MachineState) → is_text_done s ≡ false → reads_if_done end s ≡ Err (record { at = end; wanted = lacking s.expect })
not_ended end s h = cond-false (is_text_done s) _ _ h

pub finished_on : (end : ℕ) (s m : MachineState) → last_begun s.expect s ≡ Ok m → reads_at_end end s ≡ reads_if_done end m
finished_on end s m e = ap (then_reads (reads_if_done end)) e

pub read_on : (text : List ℕ) (m : MachineState) → run_tokens (tokens_of text) machine_at_start ≡ Ok m → read_in text ≡ reads_at_end (length text) m
read_on text m e = ap (then_reads (reads_at_end (length text))) e

pub ruleset whole_texts = (ended, not_ended)
