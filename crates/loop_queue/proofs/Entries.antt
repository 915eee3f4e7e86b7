-- The entries of one post among others.
use Rattle.std.proofs.Common.{◌≡◌, ◌≢◌, ℕ, false, List, [], ◌∷◌, ◌++◌, All, nat_eq, arith, refl, sym, ap, ◌∙◌, cond, eq-eqb, ne_eqb}
use Rattle.std.proofs.lemmas.List.Elements.{filter-append, All-tail}
use Rattle.loop_queue.specs.declared.entry.Entry.{Entry}
use Rattle.loop_queue.specs.Rule.{of_post, has_some}

pub of-append : (k : ℕ) (a b : List Entry) → of_post k (a ++ b) ≡ of_post k a ++ of_post k b
of-append k a b = filter-append (λ e. nat_eq e.post k) a b

pub of-other : (k : ℕ) (x : Entry) → k ≢ x.post → of_post k (x ∷ []) ≡ []
of-other k x apart = ap (λ b. cond b (x ∷ []) []) (ne_eqb x.post k (λ same. apart (sym same)))

pub has-none : (l : List Entry) → has_some l ≡ false → l ≡ []
has-none [] none = refl
has-none (x ∷ xs) none = absurd (cc)

-- entries of one number are their own
pub of-own : (k : ℕ) (l : List Entry) → All (λ entry. entry.post ≡ k) l → of_post k l ≡ l
of-own k [] own = refl
of-own k (x ∷ xs) own =
    let mine : x.post ≡ k = own 0 x (omega arith) in
    ap (λ b. cond b (x ∷ of_post k xs) (of_post k xs)) (eq-eqb x.post k mine)
    ∙ ap (λ l. x ∷ l) (of-own k xs (All-tail (λ entry. entry.post ≡ k) x xs own))

pub of-none : (j k : ℕ) (l : List Entry) → j ≢ k → All (λ entry. entry.post ≡ k) l → of_post j l ≡ []
of-none j k [] apart own = refl
of-none j k (x ∷ xs) apart own =
    let mine : x.post ≡ k = own 0 x (omega arith) in
    ap (λ b. cond b (x ∷ of_post j xs) (of_post j xs)) (ne_eqb x.post j (λ same. apart (sym same ∙ mine)))
    ∙ of-none j k xs apart (All-tail (λ entry. entry.post ≡ k) x xs own)
