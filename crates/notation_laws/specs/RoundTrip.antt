-- What a plan is written in, in the notation of senders, is read back.
use Rattle.std.specs.Prelude.{◌≡◌, ℕ, List, Ok}
use Rattle.plan_shape.specs.Blueprint.{Blueprint, IsPlan}
use Rattle.plan_words.specs.Seen.{words_in}
use Rattle.plan_writer.specs.Canonical.{plan_text}
use Rattle.plan_notation.specs.NodeTokens.{HasHeldNodes, notation_words}
use Rattle.plan_notation.specs.Reading.{json_in}

-- a text of a plan's tokens, however it is laid out, is read as the plan's canonical JSON
abbrev pub NotationIsReadBack : Type 0
NotationIsReadBack =
    (plan : Blueprint) → IsPlan plan → HasHeldNodes plan.nodes →
    (text : List ℕ) → words_in text ≡ notation_words plan → json_in text ≡ Ok (plan_text plan)
