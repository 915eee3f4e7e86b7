-- How a text is put together.
use Rattle.std.proofs.Common.{◌≡◌, ℕ, ◌+◌, ◌-◌, ◌<◌, ◌≤◌, List, [], ◌∷◌, ◌++◌, length, take, drop, get_or, arith, sym, ap, subst, ◌∙◌, append_assoc, Result, Ok, Err, OnOk}
use Rattle.std.specs.Fmt.{decimal}
use Rattle.std.specs.List.{flat_map}
use Rattle.std.proofs.lemmas.List.{append-nil, flat_map_more, take_more, take_all}
use Rattle.trace_text.specs.Adding.{Adds}
use Rattle.trace_text.specs.Texts.{apart, blank, comma, children_text}

-- nothing was added
pub adds_none : {old : List ℕ} → Adds old old []
adds_none {old} = record { added = sym (append-nil old) }

-- one part was added, and then another
pub adds_join : {old mid new a b : List ℕ} → Adds old mid a → Adds mid new b → Adds old new (a ++ b)
adds_join {old} {mid} {new} {a} {b} p q =
    record { added = q.added ∙ ap (λ (l : List ℕ). l ++ b) p.added ∙ append_assoc old a b }

-- the same bytes under another name
pub adds_same : {old new a b : List ℕ} → a ≡ b → Adds old new a → Adds old new b
adds_same {old} {new} e p = subst (Adds old new) e p

-- the same, where the second part may have failed
pub adds_then : {T E : Type 0} (r : Result T E) {old mid a : List ℕ} (new b : List ℕ) → Adds old mid a → OnOk r (Adds mid new b) → OnOk r (Adds old new (a ++ b))
adds_then (Ok x) new b p q = adds_join p q
adds_then (Err e) new b p q = q

-- one part was added, with a blank behind it, and then another
pub adds_apart : {T E : Type 0} (r : Result T E) (a : List ℕ) {old mid : List ℕ} (new b : List ℕ) → Adds old mid (apart a []) → OnOk r (Adds mid new b) → OnOk r (Adds old new (apart a b))
adds_apart (Ok x) a new b p q = adds_same (append_assoc a (blank ∷ []) b) (adds_join p q)
adds_apart (Err e) a new b p q = q

-- numbers with commas between them are the first, and each later one behind a comma
pub children_text-cons : (n : ℕ) (ns : List ℕ) → decimal n ++ flat_map (λ m. comma ∷ decimal m) ns ≡ children_text (n ∷ ns)
children_text-cons n [] = append-nil (decimal n)
children_text-cons n (m ∷ ns) = ap (λ (l : List ℕ). decimal n ++ comma ∷ l) (children_text-cons m ns)

pub children_text-first : (children : List ℕ) → 0 < length children → decimal (get_or children 0 0) ++ flat_map (λ m. comma ∷ decimal m) (take (length children - 1) (drop 1 children)) ≡ children_text children
children_text-first [] some = absurd (omega arith)
children_text-first (n ∷ ns) some =
    ap (λ (l : List ℕ). decimal n ++ flat_map (λ m. comma ∷ decimal m) l) (take_all (length (n ∷ ns) - 1) ns (omega arith))
    ∙ children_text-cons n ns

-- what one element more gives was added
pub adds_more : {X : Type 0} (g : X → List ℕ) (xs : List X) (i : ℕ) (x d : X) {old mid new : List ℕ} → Adds old mid (flat_map g (take i xs)) → Adds mid new (g x) → i < length xs → x ≡ get_or xs i d → Adds old new (flat_map g (take (i + 1) xs))
adds_more g xs i x d {old} {mid} {new} p q here is =
    let e : flat_map g (take i xs) ++ g x ≡ flat_map g (take (i + 1) xs) =
    ap (λ y. flat_map g (take i xs) ++ g y) is
    ∙ flat_map_more g [] (take i xs) (get_or xs i d)
    ∙ ap (flat_map g) (sym (take_more xs i d here)) in
    adds_same e (adds_join p q)

-- what all elements give was added
pub adds_each : {X : Type 0} (g : X → List ℕ) (xs : List X) (i : ℕ) {old new : List ℕ} → Adds old new (flat_map g (take i xs)) → length xs ≤ i → Adds old new (flat_map g xs)
adds_each g xs i {old} {new} p all = adds_same (ap (flat_map g) (take_all i xs all)) p
