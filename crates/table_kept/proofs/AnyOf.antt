-- Lists some entry of which has a property.
use Rattle.std.proofs.Common.{◌≡◌, ◌⊎◌, inl, inr, List, [], ◌∷◌, ◌++◌, refl, subst, ⊎_elim}
use Rattle.table_rules.specs.Named.{AnyOf, Each}
use Rattle.table_kept.proofs.Entries.{each-map}

module _ {A : Type 0} where
  pub any-map : (Q R : A → Type 0) → ((a : A) → Q a → R a) → (l : List A) → AnyOf Q l → AnyOf R l
  any-map Q R f [] h = h
  any-map Q R f (e ∷ es) h = ⊎_elim (λ a. inl (f e a)) (λ r. inr (any-map Q R f es r)) h

  pub any-left : (Q : A → Type 0) (l m : List A) → AnyOf Q l → AnyOf Q (l ++ m)
  any-left Q [] m h = absurd h
  any-left Q (e ∷ es) m h = ⊎_elim (λ a. inl a) (λ r. inr (any-left Q es m r)) h

  pub any-right : (Q : A → Type 0) (l m : List A) → AnyOf Q m → AnyOf Q (l ++ m)
  any-right Q [] m h = h
  any-right Q (e ∷ es) m h = inr (any-right Q es m h)

  pub any-among : (Q : A → Type 0) (l m : List A) → AnyOf Q (l ++ m) → AnyOf Q l ⊎ AnyOf Q m
  any-among Q [] m h = inr h
  any-among Q (e ∷ es) m h =
      ⊎_elim (λ a. inl (inl a)) (λ r. ⊎_elim (λ a. inl (inr a)) (λ b. inr b) (any-among Q es m r)) h

  -- what holds of each entry holds of this one
  pub each-any : (Q : A → Type 0) (l : List A) (a : A) → Each Q l → AnyOf (λ d. d ≡ a) l → Q a
  each-any Q [] a all h = absurd h
  each-any Q (e ∷ es) a all h = ⊎_elim (λ is. subst Q is all.0) (λ r. each-any Q es a all.1 r) h

  -- what holds of some entry, and of each where the first holds, holds of one with both
  pub any-each : (Q R : A → Type 0) (l : List A) → Each R l → AnyOf Q l → (a : A) × Q a × R a
  any-each Q R [] all h = absurd h
  any-each Q R (e ∷ es) all h = ⊎_elim (λ q. (e, q, all.0)) (λ r. any-each Q R es all.1 r) h

  pub each-append : (Q : A → Type 0) (l m : List A) → Each Q l → Each Q m → Each Q (l ++ m)
  each-append Q [] m a b = b
  each-append Q (e ∷ es) m a b = (a.0, each-append Q es m a.1 b)

  -- each entry stands in its list
  pub each-itself : (l : List A) → Each (λ e. AnyOf (λ d. d ≡ e) l) l
  each-itself [] = tt
  each-itself (e ∷ es) =
      (inl refl, each-map (λ d. AnyOf (λ c. c ≡ d) es) (λ d. AnyOf (λ c. c ≡ d) (e ∷ es)) (λ d h. inr h) es (each-itself es))
