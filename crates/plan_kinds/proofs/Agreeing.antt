-- Shapes that agree, and the signatures of several nodes by their places.
use Rattle.std.proofs.Common.{◌≡◌, ℕ, zero, suc, ◌<◌, Bool, true, IsTrue, ◌&&◌, List, [], ◌∷◌, length, Some, None, refl, sym, subst, arith}
use Rattle.std.specs.Prelude.{slice_index}
use Rattle.std.specs.List.{list_all, list_any}
use Rattle.std.specs.Option.{option_or}
use Rattle.std.proofs.lemmas.Bool.{and_parts, or_left, or_right}
use Rattle.exec_value.specs.Kinds.{HaveKinds}
use Rattle.exec_value.specs.declared.data.Datum.{Datum}
use Rattle.plan_kinds.specs.Equal.{Decides-same_kinds}
use Rattle.plan_kinds.specs.Shapes.{Shape, HasShape, agrees, common, all_agree}
use Rattle.plan_kinds.specs.Values.{shapes_of}
use Rattle.plan_kinds.specs.Signatures.{Signatures, sigs_at}
use Rattle.plan_kinds.specs.declared.sig.Sig.{Sig}

-- the shape of a node's value, and those of several that run under the same arguments
abbrev pub value_at : Signatures → ℕ → Shape → Shape
value_at below n b = (below n b).value

abbrev pub values_at : Signatures → List ℕ → Shape → List Shape
values_at below numbers b = shapes_of (sigs_at below numbers b)

-- data of a shape are of the joint one that it agrees with, unless that alone is never a value
agreed : (joint shape : Shape) (values : List Datum) → IsTrue (agrees joint shape) →
    (joint ≡ None → shape ≡ None) → HasShape values shape → HasShape values joint
agreed (Some first) (Some second) values agree none have =
    subst (HaveKinds values) (sym ((Decides-same_kinds first second).0 agree)) have
agreed None (Some second) values agree none have = let wrong = none refl in cc
agreed joint None values agree none have = absurd have

-- the first of two that isn't never, where there is none
pub both-none : (shape other : Shape) → option_or shape other ≡ None → (shape ≡ None) × (other ≡ None)
both-none None other e = (refl, e)
both-none (Some kinds) other e = cc

-- the joint shape is the first one's, where that isn't never
pub front-common : (shape : Shape) (shapes : List Shape) (values : List Datum) → HasShape values shape →
    HasShape values (common (shape ∷ shapes))
front-common (Some kinds) shapes values have = have
front-common None shapes values have = absurd have

-- and that of the second, where the two agree
pub second-common : (shape other : Shape) (values : List Datum) → IsTrue (all_agree (shape ∷ other ∷ [])) →
    HasShape values other → HasShape values (common (shape ∷ other ∷ []))
second-common shape other values agree have =
    let joint : Shape = common (shape ∷ other ∷ []) in
    let behind = (and_parts (agrees joint shape) (agrees joint other && true) agree).1 in
    agreed joint other values (and_parts (agrees joint other) true behind).0
    (λ e. (both-none other None (both-none shape (option_or other None) e).1).0) have

module _ (below : Signatures) (b : Shape) where
  -- the joint shape is never a value only where no shape is one
  none-at : (xs : List ℕ) (i : ℕ) → i < length xs → common (values_at below xs b) ≡ None →
      value_at below (slice_index xs i) b ≡ None
  none-at [] i within e = absurd (omega arith)
  none-at (x ∷ xs) zero within e = (both-none (value_at below x b) (common (values_at below xs b)) e).0
  none-at (x ∷ xs) (suc i) within e =
      none-at xs i (omega arith) (both-none (value_at below x b) (common (values_at below xs b)) e).1

  agrees-at : (joint : Shape) (xs : List ℕ) (i : ℕ) → i < length xs →
      IsTrue (list_all (agrees joint) (values_at below xs b)) →
      IsTrue (agrees joint (value_at below (slice_index xs i) b))
  agrees-at joint [] i within all = absurd (omega arith)
  agrees-at joint (x ∷ xs) zero within all =
      (and_parts (agrees joint (value_at below x b)) (list_all (agrees joint) (values_at below xs b)) all).0
  agrees-at joint (x ∷ xs) (suc i) within all =
      agrees-at joint xs i (omega arith)
      (and_parts (agrees joint (value_at below x b)) (list_all (agrees joint) (values_at below xs b)) all).1

  -- data of one of some shapes that all agree are of their joint shape
  pub common-at : (xs : List ℕ) (i : ℕ) → i < length xs → (values : List Datum) →
      IsTrue (all_agree (values_at below xs b)) →
      HasShape values (value_at below (slice_index xs i) b) → HasShape values (common (values_at below xs b))
  common-at xs i within values agree have =
      let joint : Shape = common (values_at below xs b) in
      agreed joint (value_at below (slice_index xs i) b) values (agrees-at joint xs i within agree)
      (none-at xs i within) have

  -- also where another stands in front
  pub behind-common : (shape : Shape) (xs : List ℕ) (i : ℕ) → i < length xs → (values : List Datum) →
      IsTrue (all_agree (shape ∷ values_at below xs b)) →
      HasShape values (value_at below (slice_index xs i) b) →
      HasShape values (common (shape ∷ values_at below xs b))
  behind-common shape xs i within values agree have =
      let joint : Shape = common (shape ∷ values_at below xs b) in
      agreed joint (value_at below (slice_index xs i) b) values
      (agrees-at joint xs i within
      (and_parts (agrees joint shape) (list_all (agrees joint) (values_at below xs b)) agree).1)
      (λ e. none-at xs i within (both-none shape (common (values_at below xs b)) e).1) have

  -- a flag that one has, some have
  pub any-at : (test : Sig → Bool) (xs : List ℕ) (i : ℕ) → i < length xs →
      IsTrue (test (below (slice_index xs i) b)) → IsTrue (list_any test (sigs_at below xs b))
  any-at test [] i within holds = absurd (omega arith)
  any-at test (x ∷ xs) zero within holds =
      or_left (test (below x b)) (list_any test (sigs_at below xs b)) holds
  any-at test (x ∷ xs) (suc i) within holds =
      or_right (test (below x b)) (list_any test (sigs_at below xs b)) (any-at test xs i (omega arith) holds)
