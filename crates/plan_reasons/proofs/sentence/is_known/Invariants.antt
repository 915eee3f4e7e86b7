use Rattle.std.proofs.Common.{◌≡◌, map, drop}
use Rattle.std.specs.List.{list_any}
use Rattle.std.specs.Str.{bytes_eq}
use Rattle.plan_reasons.proofs.sentence.is_known.Given as goal

-- the key is none of those that were passed
abbrev pub invariant-known : goal.invariant-known
invariant-known l =
    list_any (bytes_eq l.name) (map (λ key. key.now) l.known)
    ≡ list_any (bytes_eq l.name) (map (λ key. key.now) (drop l.key-index l.known))
