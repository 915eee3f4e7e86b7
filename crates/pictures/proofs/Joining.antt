-- What several additions come to.
use Rattle.std.proofs.Common.{◌≡◌, ℕ, ◌+◌, ◌<◌, ◌≤◌, List, [], ◌∷◌, ◌++◌, length, take, get_or, sym, ap, subst, ◌∙◌, append_assoc}
use Rattle.std.specs.List.{flat_map}
use Rattle.std.proofs.lemmas.List.{append-nil, flat_map_more, take_more, take_all}
use Rattle.pictures.specs.Adding.{Adds}

-- nothing was added
pub Adds-nil : (old : List ℕ) → Adds old old []
Adds-nil old = record { added = sym (append-nil old) }

-- some bytes were added, and then others
pub Adds-then : {old mid new a b : List ℕ} → Adds old mid a → Adds mid new b → Adds old new (a ++ b)
Adds-then {old} {mid} {new} {a} {b} p q =
    record { added = q.added ∙ ap (λ (l : List ℕ). l ++ b) p.added ∙ append_assoc old a b }

-- the same bytes, under another name
pub Adds-same : {old new a b : List ℕ} → a ≡ b → Adds old new a → Adds old new b
Adds-same {old} {new} e p = subst (Adds old new) e p

-- what one element more gives was added
pub Adds-more : {X : Type 0} (g : X → List ℕ) (xs : List X) (i : ℕ) (x d : X) {old mid new : List ℕ} → Adds old mid (flat_map g (take i xs)) → Adds mid new (g x) → i < length xs → x ≡ get_or xs i d → Adds old new (flat_map g (take (i + 1) xs))
Adds-more g xs i x d {old} {mid} {new} p q here is =
    let e : flat_map g (take i xs) ++ g x ≡ flat_map g (take (i + 1) xs) =
    ap (λ y. flat_map g (take i xs) ++ g y) is
    ∙ flat_map_more g [] (take i xs) (get_or xs i d)
    ∙ ap (flat_map g) (sym (take_more xs i d here)) in
    Adds-same e (Adds-then p q)

-- what all elements give was added
pub Adds-each : {X : Type 0} (g : X → List ℕ) (xs : List X) (i : ℕ) {old new : List ℕ} → Adds old new (flat_map g (take i xs)) → length xs ≤ i → Adds old new (flat_map g xs)
Adds-each g xs i {old} {new} p all = Adds-same (ap (flat_map g) (take_all i xs all)) p
