use Rattle.std.proofs.Common.{◌≡◌, map, length, string_bytes}
use Rattle.serde_json.specs.View.{members_view}
use Rattle.plan_parts.specs.Objects.{keys_of, has_unknown}
use Rattle.plan_parts.proofs.object.has_unknown.Given as goal

-- the keys that were passed are known: one isn't exactly where one of those that are left isn't
abbrev pub invariant-keys : goal.invariant-keys
invariant-keys l =
    has_unknown (map (λ key. key.now) l.known) (keys_of (members_view l.members.entries))
    ≡ has_unknown (map (λ key. key.now) l.known) (map string_bytes l.found)

abbrev pub decreases-keys : goal.decreases-keys
decreases-keys l = length l.found
