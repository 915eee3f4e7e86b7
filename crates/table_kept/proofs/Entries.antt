-- The entries of a view's lists, by their names.
use Rattle.std.proofs.Common.{◌≡◌, ◌⊎◌, inl, inr, ℕ, ◌≤◌, Bool, true, ◌||◌, cond, List, [], ◌∷◌, Option, Some, sym, ap, ◌∙◌, subst, arith}
use Rattle.std.specs.List.{list_any}
use Rattle.std.proofs.lemmas.Bool.{or_cases, cond-true, cond-false}
use Rattle.life_rules.specs.declared.event.Name.{Name}
use Rattle.common_lemmas.specs.Sums.{one}
use Rattle.life_rules.specs.Views.{same, lose}
use Rattle.common_lemmas.proofs.Bool.{either}
use Rattle.life_rules.proofs.Names.{same-refl, same-true}
use Rattle.table_rules.specs.Named.{count_by, find_by, without, Each}
use Rattle.table_rules.specs.ShownViews.{has_name}

pub each-map : {A : Type 0} (P Q : A → Type 0) → ((e : A) → P e → Q e) → (l : List A) → Each P l → Each Q l
each-map P Q f [] h = tt
each-map P Q f (e ∷ es) h = (f e h.0, each-map P Q f es h.1)

pub each-both : {A : Type 0} (P Q : A → Type 0) → (l : List A) → Each P l → Each Q l → Each (λ e. P e × Q e) l
each-both P Q [] h k = tt
each-both P Q (e ∷ es) h k = ((h.0, k.0), each-both P Q es h.1 k.1)

-- an entry taken out counts once less
pub count-without : {A : Type 0} (name : A → Name) (l : List A) (x y : Name) →
    count_by name (without name l x) y ≡ lose x (count_by name l) y
count-without name [] x y = omega arith
count-without name (e ∷ es) x y =
    either (same (name e) x)
    (λ t.
    let is : name e ≡ x = same-true (name e) x t in
    let a : one (same (name e) y) ≡ one (same x y) = ap (λ z. one (same z y)) is in
    ap (λ l. count_by name l y) (cond-true (same (name e) x) es (e ∷ without name es x) t) ∙ omega (arith, a))
    (λ f.
    let old = count-without name es x y in
    ap (λ l. count_by name l y) (cond-false (same (name e) x) es (e ∷ without name es x) f)
    ∙ either (same x y)
    (λ t.
    let is : x ≡ y = same-true x y t in
    let a : one (same (name e) y) ≡ 0 = ap (λ z. one (same (name e) z)) (sym is) ∙ ap one f in
    omega (arith, old, a))
    (λ ne. let b : one (same x y) ≡ 0 = ap one ne in omega (arith, old, b)))

pub each-without : {A : Type 0} (P : A → Type 0) (name : A → Name) (l : List A) (x : Name) → Each P l →
    Each P (without name l x)
each-without P name [] x all = tt
each-without P name (e ∷ es) x all =
    either (same (name e) x)
    (λ t. subst (Each P) (sym (cond-true (same (name e) x) es (e ∷ without name es x) t)) all.1)
    (λ f. subst (Each P) (sym (cond-false (same (name e) x) es (e ∷ without name es x) f)) (all.0, each-without P name es x all.1))

-- what holds of the entries that a list has, by how often it has their names
pub each-by : {A : Type 0} (name : A → Name) (P Q : A → Type 0) (most : Name → ℕ) →
    ((e : A) → 1 ≤ most (name e) → P e → Q e) → (l : List A) → ((y : Name) → count_by name l y ≤ most y) → Each P l →
    Each Q l
each-by name P Q most f [] sub all = tt
each-by name P Q most f (e ∷ es) sub all = (
  f e
      (let m = sub (name e) in let o : one (same (name e) (name e)) ≡ 1 = ap one (same-refl (name e)) in omega (arith, m, o))
      all.0,
  each-by name P Q most f es (λ y. let m = sub y in omega (arith, m)) all.1,
)

-- the entry that is found has the name, and counts
pub record IsFound {A : Type 0} (name : A → Name) (l : List A) (x : Name) (e : A) : Type 0 where
  pub name_is : name e ≡ x
  pub counts : 1 ≤ count_by name l x

found-first : {A : Type 0} (b : Bool) (d e : A) (o : Option A) → b ≡ true → cond b (Some d) o ≡ Some e → d ≡ e
found-first b d e o t is = let at : Some d ≡ Some e = sym (cond-true b (Some d) o t) ∙ is in cc

pub found : {A : Type 0} (name : A → Name) (l : List A) (x : Name) (e : A) → find_by name l x ≡ Some e →
    IsFound name l x e
found name [] x e is = cc
found name (d ∷ ds) x e is =
    either (same (name d) x)
    (λ t.
    let here : d ≡ e = found-first (same (name d) x) d e (find_by name ds x) t is in
    let o : one (same (name d) x) ≡ 1 = ap one t in
    record { name_is = ap name (sym here) ∙ same-true (name d) x t; counts = omega (arith, o) })
    (λ f.
    let more = found name ds x e (sym (cond-false (same (name d) x) (Some d) (find_by name ds x) f) ∙ is) in
    let c = more.counts in
    record { name_is = more.name_is; counts = omega (arith, c) })

-- and what holds of each entry holds of it
pub each-found : {A : Type 0} (P : A → Type 0) (name : A → Name) (l : List A) (x : Name) (e : A) →
    find_by name l x ≡ Some e → Each P l → P e
each-found P name [] x e is all = cc
each-found P name (d ∷ ds) x e is all =
    either (same (name d) x)
    (λ t. subst P (found-first (same (name d) x) d e (find_by name ds x) t is) all.0)
    (λ f. each-found P name ds x e (sym (cond-false (same (name d) x) (Some d) (find_by name ds x) f) ∙ is) all.1)

-- an entry that passes the test meets what each entry of the list meets
pub each-passing : {A : Type 0} (P : A → Type 0) (test : A → Bool) (l : List A) → list_any test l ≡ true → Each P l →
    (e : A) × (test e ≡ true) × P e
each-passing P test [] h all = cc
each-passing P test (e ∷ es) h all =
    either (test e)
    (λ t. (e, t, all.0))
    (λ f. each-passing P test es (ap (λ b. b || list_any test es) (sym f) ∙ h) all.1)

-- an entry of the list passes the test
pub record Passes {A : Type 0} (name : A → Name) (test : A → Bool) (l : List A) : Type 0 where
  pub entry : A
  pub test_is : test entry ≡ true
  pub counts : 1 ≤ count_by name l (name entry)

pub any-some : {A : Type 0} (name : A → Name) (test : A → Bool) (l : List A) → list_any test l ≡ true →
    Passes name test l
any-some name test [] h = cc
any-some name test (e ∷ es) h =
    either (test e)
    (λ t.
    let o : one (same (name e) (name e)) ≡ 1 = ap one (same-refl (name e)) in
    record { entry = e; test_is = t; counts = omega (arith, o) })
    (λ f.
    let more = any-some name test es (ap (λ b. b || list_any test es) (sym f) ∙ h) in
    let c = more.counts in
    record { entry = more.entry; test_is = more.test_is; counts = omega (arith, c) })

-- without the entry of x another still passes the test, or that of x passed it
pub any-without : {A : Type 0} (name : A → Name) (test : A → Bool) (l : List A) (x : Name) → list_any test l ≡ true →
    (list_any test (without name l x) ≡ true) ⊎ ((e : A) × (name e ≡ x) × (test e ≡ true))
any-without name test [] x h = cc
any-without {A} name test (e ∷ es) x h =
    either (same (name e) x)
    (λ t.
    either (test e)
    (λ at. inr (e, same-true (name e) x t, at))
    (λ f.
    inl (ap (list_any test) (cond-true (same (name e) x) es (e ∷ without name es x) t)
    ∙ ap (λ b. b || list_any test es) (sym f) ∙ h)))
    (λ ne.
    let rest : list_any test (without name (e ∷ es) x) ≡ (test e || list_any test (without name es x)) =
    ap (list_any test) (cond-false (same (name e) x) es (e ∷ without name es x) ne) in
    either (test e)
    (λ at. inl (rest ∙ ap (λ b. b || list_any test (without name es x)) at))
    (λ f.
    elim (any-without name test es x (ap (λ b. b || list_any test es) (sym f) ∙ h)) [
      | inl more ↦ inl (rest ∙ ap (λ b. b || list_any test (without name es x)) f ∙ more)
      | inr of_x ↦ inr of_x
    ]))

-- what holds of each name holds of one that the list has
pub each-has : (Q : Name → Type 0) (x : Name) (l : List Name) → has_name l x ≡ true → Each Q l → Q x
each-has Q x [] h all = cc
each-has Q x (y ∷ ys) h all =
    elim (or_cases (same y x) (has_name ys x) h) [
      | inl here ↦ subst Q (same-true y x here) all.0
      | inr more ↦ each-has Q x ys more all.1
    ]

-- a name that a list has counts
pub has-counts : (l : List Name) (x : Name) → has_name l x ≡ true → 1 ≤ count_by (λ y. y) l x
has-counts [] x h = cc
has-counts (y ∷ ys) x h =
    elim (or_cases (same y x) (has_name ys x) h) [
      | inl here ↦ let o : one (same y x) ≡ 1 = ap one here in omega (arith, o)
      | inr later ↦ let old = has-counts ys x later in omega (arith, old)
    ]
