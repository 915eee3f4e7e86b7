-- What one text more does to folds.
use Rattle.std.proofs.Common.{◌≡◌, ℕ, ◌+◌, ◌<◌, Bool, true, false, List, [], ◌∷◌, ◌++◌, length, drop, take, get_or, ◌≤◌, sym, ap, ◌∙◌, append_assoc, drop-cons, add-one}
use Rattle.std.specs.Prelude.{bytes_eq, map, if◌then◌else◌}
use Rattle.std.specs.declared.alloc.Global.{Global}
use Rattle.std.specs.declared.vec.Vec.{Vec}
use Rattle.std.proofs.lemmas.List.{drop-map, map_push, map_more, take_all}
use Rattle.pictures.specs.declared.plans.folds.Fold.{Fold}
use Rattle.pictures.specs.Plans.Folds.{folds_from, texts_of}

-- the next text
pub texts-next : (later : List (Vec ℕ Global)) (i : ℕ) (next : Vec ℕ Global) → i < length later → next ≡ get_or later i next → drop i (texts_of later) ≡ next.items ∷ drop (i + 1) (texts_of later)
texts-next later i next here is =
    let f = λ (text : Vec ℕ Global). text.items in
    drop-map f i later
    ∙ ap (map f) (drop-cons later i next here)
    ∙ ap (λ k. (get_or later i next).items ∷ map f (drop k later)) (sym (add-one i))
    ∙ ap (λ (x : Vec ℕ Global). x.items ∷ map f (drop (i + 1) later)) (sym is)
    ∙ ap (λ ts. next.items ∷ ts) (sym (drop-map f (i + 1) later))

-- it is the same
pub folds-same : (at count : ℕ) (text next : List ℕ) (rest all : List (List ℕ)) → all ≡ next ∷ rest → bytes_eq next text ≡ true → folds_from at count text all ≡ folds_from at (count + 1) text rest
folds-same at count text next rest all is same =
    ap (folds_from at count text) is
    ∙ ap (λ (b : Bool). if b then folds_from at (count + 1) text rest else record { at = at; count = count } ∷ folds_from (at + count) 1 next rest) same

-- it is another
pub folds-other : (at count : ℕ) (text next : List ℕ) (rest all : List (List ℕ)) → all ≡ next ∷ rest → bytes_eq next text ≡ false → folds_from at count text all ≡ record { at = at; count = count } ∷ folds_from (at + count) 1 next rest
folds-other at count text next rest all is other =
    ap (folds_from at count text) is
    ∙ ap (λ (b : Bool). if b then folds_from at (count + 1) text rest else record { at = at; count = count } ∷ folds_from (at + count) 1 next rest) other

-- one more text of a list
pub texts-more : {X : Type 0} (g : X → List ℕ) (xs : List X) (i : ℕ) (x d : X) (old new : List (Vec ℕ Global)) (made : Vec ℕ Global) → new ≡ old ++ made ∷ [] → texts_of old ≡ map g (take i xs) → made.items ≡ g x → i < length xs → x ≡ get_or xs i d → texts_of new ≡ map g (take (i + 1) xs)
texts-more g xs i x d old new made pushed so_far is here at =
    ap texts_of pushed
    ∙ map_push (λ (text : Vec ℕ Global). text.items) old made
    ∙ ap (λ (ts : List (List ℕ)). ts ++ made.items ∷ []) so_far
    ∙ ap (λ (t : List ℕ). map g (take i xs) ++ t ∷ []) (is ∙ ap g at)
    ∙ sym (map_more g xs i d here)

-- all of them
pub texts-all : {X : Type 0} (g : X → List ℕ) (xs : List X) (i : ℕ) (texts : List (Vec ℕ Global)) → texts_of texts ≡ map g (take i xs) → length xs ≤ i → texts_of texts ≡ map g xs
texts-all g xs i texts so_far all = so_far ∙ ap (map g) (take_all i xs all)

-- another fold behind those so far
pub folds-pushed : (folds folds' : List Fold) (at count : ℕ) (text text' next first : List ℕ) (rest before all : List (List ℕ)) → folds' ≡ folds ++ record { at = at; count = count } ∷ [] → text' ≡ next → before ≡ next ∷ rest → bytes_eq next text ≡ false → folds ++ folds_from at count text before ≡ folds_from 0 1 first all → folds' ++ folds_from (at + count) 1 text' rest ≡ folds_from 0 1 first all
folds-pushed folds folds' at count text text' next first rest before all pushed is there other so_far =
    let later = folds_from (at + count) 1 next rest in
    ap (λ (t : List ℕ). folds' ++ folds_from (at + count) 1 t rest) is
    ∙ ap (λ (fs : List Fold). fs ++ later) pushed
    ∙ append_assoc folds (record { at = at; count = count } ∷ []) later
    ∙ ap (λ (fs : List Fold). folds ++ fs) (sym (folds-other at count text next rest before there other))
    ∙ so_far
