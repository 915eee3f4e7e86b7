-- Lists in which one name stands once more.
use Rattle.std.proofs.Common.{List, [], ◌∷◌, ◌++◌, arith}
use Rattle.std.proofs.lemmas.List.Sums.{sum_by-append}
use Rattle.life_rules.specs.declared.event.Name.{Name}
use Rattle.deck_relay.specs.Laws.{AreMore, IsOnceMore}

pub in-first : (name : Name) (a b : List Name) → IsOnceMore name (a ++ b) ((a ++ name ∷ []) ++ b)
in-first name a b weight =
    let x = sum_by-append weight a (name ∷ []) in
    let y = sum_by-append weight (a ++ name ∷ []) b in
    let z = sum_by-append weight a b in
    omega (arith, x, y, z)

pub in-second : (name : Name) (a b : List Name) → IsOnceMore name (a ++ b) (a ++ (b ++ name ∷ []))
in-second name a b weight =
    let x = sum_by-append weight b (name ∷ []) in
    let y = sum_by-append weight a (b ++ name ∷ []) in
    let z = sum_by-append weight a b in
    omega (arith, x, y, z)

pub before : (name : Name) (a b c : List Name) → IsOnceMore name a b → IsOnceMore name (a ++ c) (b ++ c)
before name a b c once weight =
    let x = once weight in
    let y = sum_by-append weight b c in
    let z = sum_by-append weight a c in
    omega (arith, x, y, z)

-- and such where more stand
pub all-behind : (names a b c : List Name) → AreMore names b c → AreMore names (a ++ b) (a ++ c)
all-behind names a b c more weight =
    let x = more weight in
    let y = sum_by-append weight a b in
    let z = sum_by-append weight a c in
    omega (arith, x, y, z)

pub all-in-first : (names a b : List Name) → AreMore names (a ++ b) ((a ++ names) ++ b)
all-in-first names a b weight =
    let x = sum_by-append weight a names in
    let y = sum_by-append weight (a ++ names) b in
    let z = sum_by-append weight a b in
    omega (arith, x, y, z)
