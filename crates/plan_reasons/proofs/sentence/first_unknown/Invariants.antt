use Rattle.std.proofs.Common.{◌≡◌, map, length, string_bytes}
use Rattle.serde_json.specs.View.{members_view}
use Rattle.plan_parts.specs.Objects.{keys_of}
use Rattle.plan_reasons.specs.Sentences.{first_unknown}
use Rattle.plan_reasons.proofs.sentence.first_unknown.Given as goal

-- the keys that were passed are known: the first that isn't is the first of those that are left
abbrev pub invariant-keys : goal.invariant-keys
invariant-keys l =
    first_unknown (map (λ key. key.now) l.known) (keys_of (members_view l.members.entries))
    ≡ first_unknown (map (λ key. key.now) l.known) (map string_bytes l.found)

abbrev pub decreases-keys : goal.decreases-keys
decreases-keys l = length l.found
