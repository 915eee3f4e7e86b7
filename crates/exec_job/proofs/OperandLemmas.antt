-- What data of known kinds are.
use Rattle.std.proofs.Common.{◌≡◌, ℕ, ℤ, true, List, [], ◌∷◌, length, ◌||◌, inl, inr, subst, sym, refl}
use Rattle.std.proofs.lemmas.Slice.Zip.{AllZip-long}
use Rattle.exec_value.specs.Kinds.{HasKind, HaveKinds}
use Rattle.exec_job.specs.Apply.{HasLength}
use Rattle.exec_job.specs.Takes.{is_text, is_row, is_maybe_int, is_maybe_text}
use Rattle.exec_value.specs.declared.kinds.Kind.{Kind}
use Rattle.exec_value.specs.declared.kinds.Kind.TheVariants.{Int as IntKind, Text as TextKind, Row as RowKind, MaybeInt, MaybeText}
use Rattle.exec_value.specs.declared.data.Datum.{Datum}
use Rattle.exec_value.specs.declared.data.Datum.TheVariants.{Int, Text}

-- data of one kind are one datum
pub one-length : (values : List Datum) (kind : Kind) → HaveKinds values (kind ∷ []) → length values ≡ 1
one-length [] kind h = absurd h
one-length (datum ∷ []) kind h = refl
one-length (datum ∷ e ∷ values) kind h = absurd h.1

-- which is of that kind
pub one-kind : (values : List Datum) (datum : Datum) (kind : Kind) → HaveKinds values (kind ∷ []) → values ≡ datum ∷ [] → HasKind datum kind
one-kind values datum kind h e = (subst (λ (l : List Datum). HaveKinds l (kind ∷ [])) e h).0

-- a datum that is no int isn't of that kind, and so on
pub not_int : (datum : Datum) → HasKind datum IntKind → ((n : ℤ) → datum ≡ Int n → ⊥) → ⊥
not_int (Int n) h other = other n refl
not_int datum h other = absurd h

pub not_text : (datum : Datum) → HasKind datum TextKind → ((bytes : List ℕ) → datum ≡ Text bytes → ⊥) → ⊥
not_text (Text bytes) h other = other bytes refl
not_text datum h other = absurd h

-- data of a kind that a test asks for are one datum of that kind
pub maybe_int-length : (values : List Datum) (kinds : List Kind) → HaveKinds values kinds → is_maybe_int kinds ≡ true → length values ≡ 1
maybe_int-length values (MaybeInt ∷ []) h e = one-length values MaybeInt h
maybe_int-length values kinds h e = cc

pub maybe_text-length : (values : List Datum) (kinds : List Kind) → HaveKinds values kinds → is_maybe_text kinds ≡ true → length values ≡ 1
maybe_text-length values (MaybeText ∷ []) h e = one-length values MaybeText h
maybe_text-length values kinds h e = cc

-- which has a length, where the kind is text or row
pub measured : (values : List Datum) (kinds : List Kind) → HaveKinds values kinds → (is_text kinds || is_row kinds) ≡ true → (length values ≡ 1) × ((datum : Datum) → values ≡ datum ∷ [] → HasLength datum)
measured values (TextKind ∷ []) h e = (one-length values TextKind h, λ datum is. inl (one-kind values datum TextKind h is))
measured values (RowKind ∷ []) h e = (one-length values RowKind h, λ datum is. inr (one-kind values datum RowKind h is))
measured values kinds h e = cc

-- there are as many data as kinds
pub kinds-length : (values : List Datum) (kinds : List Kind) → HaveKinds values kinds → length values ≡ length kinds
kinds-length values kinds h = sym (AllZip-long HasKind values kinds h)
