-- What the parcels of a `when_all`'s children come to: the second walk is made apart, and put behind the first.
use Rattle.std.proofs.Common.{◌≡◌, ◌≢◌, inl, inr, ℕ, zero, suc, Bool, true, false, not, ◌&&◌, [], ◌∷◌, arith, refl, sym, ap, ◌∙◌, subst}
use Rattle.std.specs.Prelude.{⊤, Result, Ok, Err, OnOk, IfErr}
use Rattle.std.proofs.lemmas.Bool.{or_parts, or_from, both_ways, cases_eq}
use Rattle.std.proofs.lemmas.List.{append-nil}
use Rattle.exec_value.specs.declared.outcome.Completion.{Completion}
use Rattle.exec_value.specs.declared.outcome.Completion.TheVariants.{Value, Error, Stopped, NoMemory}
use Rattle.home_items.specs.Parcels.{Delivery}
use Rattle.node_images.specs.Joined.{Tells}
use Rattle.node_images.specs.declared.join.NoRoom.{NoRoom}
use Rattle.node_images.specs.declared.join.NoRoom.TheVariants.{Memory, Limit}
use Rattle.plan_rules.specs.Settle.{and_then}
use Rattle.start_laws.specs.AllEnds.{is_failure, fails_late, joins_where, first_ends, late_ends, all_ends, saw_together}
use Rattle.exec_all.specs.Joined.{is_want, some_want, NoneWants, PutsAll, TellsAll}

-- no data, or a failure
abbrev IsLate : Completion → Type 0
IsLate (Value []) = ⊤
IsLate (Value (x ∷ xs)) = ⊥
IsLate (Error e) = ⊤
IsLate Stopped = ⊤
IsLate NoMemory = ⊥

-- no want of memory
abbrev IsMade : Completion → Type 0
IsMade NoMemory = ⊥
IsMade done = ⊤

behind-none : (front : Completion) → IsMade front → and_then front (Value []) ≡ front
behind-none (Value vs) made = ap (λ l. Value l) (append-nil vs)
behind-none (Error e) made = refl
behind-none Stopped made = refl
behind-none NoMemory made = absurd made

then-again : (front late c : Completion) → IsMade front → IsLate late → is_failure c ≡ true →
    and_then (and_then front late) c ≡ and_then front (and_then late c)
then-again front late (Value xs) made is fails = cc
then-again front late NoMemory made is fails = cc
then-again NoMemory late c made is fails = absurd made
then-again front NoMemory c made is fails = absurd is
then-again front (Value (x ∷ xs)) c made is fails = absurd is
then-again (Value vs) (Value []) (Error e) made is fails = refl
then-again (Value vs) (Value []) Stopped made is fails = refl
then-again (Value vs) (Error f) (Error e) made is fails = refl
then-again (Value vs) (Error f) Stopped made is fails = refl
then-again (Value vs) Stopped (Error e) made is fails = refl
then-again (Value vs) Stopped Stopped made is fails = refl
then-again (Error g) late c made is fails = refl
then-again Stopped (Value []) (Error e) made is fails = refl
then-again Stopped (Value []) Stopped made is fails = refl
then-again Stopped (Error f) (Error e) made is fails = refl
then-again Stopped (Error f) Stopped made is fails = refl
then-again Stopped Stopped (Error e) made is fails = refl
then-again Stopped Stopped Stopped made is fails = refl

-- one child more
late-fails : (c late : Completion) → IsLate late → IsLate (joins_where (is_failure c) late c)
late-fails (Value xs) late is = is
late-fails NoMemory late is = is
late-fails (Error e) (Value []) is = tt
late-fails (Error e) (Value (x ∷ xs)) is = absurd is
late-fails (Error e) (Error f) is = tt
late-fails (Error e) Stopped is = tt
late-fails (Error e) NoMemory is = absurd is
late-fails Stopped (Value []) is = tt
late-fails Stopped (Value (x ∷ xs)) is = absurd is
late-fails Stopped (Error f) is = tt
late-fails Stopped Stopped is = tt
late-fails Stopped NoMemory is = absurd is

late-joins : (saw : Bool) (c late : Completion) → IsLate late → IsLate (joins_where (saw && is_failure c) late c)
late-joins true c late is = late-fails c late is
late-joins false c late is = is

late-is : (ends : ℕ → Delivery) (n : ℕ) → IsLate (late_ends ends n (Value []))
late-is ends zero = tt
late-is ends (suc n) = late-joins (ends n).saw (ends n).completion (late_ends ends n (Value [])) (late-is ends n)

made-then : (front c : Completion) → IsMade front → (c ≡ NoMemory → ⊥) → IsMade (and_then front c)
made-then NoMemory c made memory = absurd made
made-then front NoMemory made memory = absurd (memory refl)
made-then (Value vs) (Value xs) made memory = tt
made-then (Value vs) (Error e) made memory = tt
made-then (Value vs) Stopped made memory = tt
made-then (Error f) c made memory = tt
made-then Stopped (Value xs) made memory = tt
made-then Stopped (Error e) made memory = tt
made-then Stopped Stopped made memory = tt

made-joins : (joins : Bool) (front c : Completion) → IsMade front → (c ≡ NoMemory → ⊥) → IsMade (joins_where joins front c)
made-joins true front c made memory = made-then front c made memory
made-joins false front c made memory = made

first-made : (ends : ℕ → Delivery) (n : ℕ) → NoneWants ends n → IsMade (first_ends ends n)
first-made ends zero none = tt
first-made ends (suc n) none =
    made-joins (not (fails_late (ends n))) (first_ends ends n) (ends n).completion
    (first-made ends n (λ i within. none i (omega (arith, within)))) (none n (omega arith))

merged-fails : (c front late both : Completion) → IsMade front → IsLate late → both ≡ and_then front late →
    joins_where (is_failure c) both c ≡ and_then front (joins_where (is_failure c) late c)
merged-fails (Value xs) front late both made is e = e
merged-fails NoMemory front late both made is e = e
merged-fails (Error f) front late both made is e = ap (λ d. and_then d (Error f)) e ∙ then-again front late (Error f) made is refl
merged-fails Stopped front late both made is e = ap (λ d. and_then d Stopped) e ∙ then-again front late Stopped made is refl

merged-joins : (saw : Bool) (c front late both : Completion) → IsMade front → IsLate late → both ≡ and_then front late →
    joins_where (saw && is_failure c) both c ≡ and_then front (joins_where (saw && is_failure c) late c)
merged-joins true c front late both made is e = merged-fails c front late both made is e
merged-joins false c front late both made is e = e

merged : (ends : ℕ → Delivery) (n : ℕ) (front : Completion) → IsMade front →
    late_ends ends n front ≡ and_then front (late_ends ends n (Value []))
merged ends zero front made = sym (behind-none front made)
merged ends (suc n) front made =
    merged-joins (ends n).saw (ends n).completion front (late_ends ends n (Value [])) (late_ends ends n front) made (late-is ends n)
    (merged ends n front made)

-- the second walk can be put behind the first
all-merged : (ends : ℕ → Delivery) (n : ℕ) → NoneWants ends n →
    all_ends ends n ≡ and_then (first_ends ends n) (late_ends ends n (Value []))
all-merged ends n none = merged ends n (first_ends ends n) (first-made ends n none)

-- where none failed late, the first walk is all
pub alone : (ends : ℕ → Delivery) (n : ℕ) (front : Result Completion NoRoom) → NoneWants ends n → Tells front (first_ends ends n) →
    late_ends ends n (Value []) ≡ Value [] → Tells front (all_ends ends n)
alone ends n front none tells nothing =
    subst (Tells front)
    (sym (all-merged ends n none ∙ ap (and_then (first_ends ends n)) nothing ∙ behind-none (first_ends ends n) (first-made ends n none))) tells

-- else what failed late is put behind it
pub behind : (ends : ℕ → Delivery) (n : ℕ) (late : Completion) (all : Result Completion NoRoom) → NoneWants ends n →
    late ≡ late_ends ends n (Value []) → Tells all (and_then (first_ends ends n) late) → Tells all (all_ends ends n)
behind ends n late all none is joined =
    subst (Tells all) (ap (and_then (first_ends ends n)) is ∙ sym (all-merged ends n none)) joined

-- what tells all was put in place
pub put-all : (ends : ℕ → Delivery) (n : ℕ) (all : Result Completion NoRoom) (done : Completion) (result : Result (Unit {0}) NoRoom) →
    Tells all (all_ends ends n) → OnOk result (all ≡ Ok done) → IfErr result (λ why. all ≡ Err why) → PutsAll ends n done result
put-all ends n all done (Ok unit) tells ok err = record { ok = subst (λ r. Tells r (all_ends ends n)) ok tells; err = tt }
put-all ends n all done (Err why) tells ok err = record { ok = tt; err = subst (λ r. Tells r (all_ends ends n)) err tells }

-- who wants memory
want-is : (c : Completion) → is_want c ≡ false → c ≡ NoMemory → ⊥
want-is c none e = both_ways (is_want c) none (ap is_want e)

no-want : (c : Completion) → (c ≡ NoMemory → ⊥) → is_want c ≡ false
no-want (Value xs) none = refl
no-want (Error e) none = refl
no-want Stopped none = refl
no-want NoMemory none = absurd (none refl)

pub want-none : (ends : ℕ → Delivery) (n : ℕ) → some_want ends n ≡ false → NoneWants ends n
want-none ends zero none i within = absurd (omega (arith, within))
want-none ends (suc n) none i within =
    let parts = or_parts (some_want ends n) (is_want (ends n).completion) none in
    elim (cases_eq i n) [
      | inl same ↦ subst (λ k. (ends k).completion ≢ NoMemory) (sym same) (want-is (ends n).completion parts.1)
      | inr other ↦ want-none ends n parts.0 i (omega (arith, within, other))
    ]

pub none-want : (ends : ℕ → Delivery) (n : ℕ) → NoneWants ends n → some_want ends n ≡ false
none-want ends zero none = refl
none-want ends (suc n) none =
    or_from (some_want ends n) (is_want (ends n).completion)
    (none-want ends n (λ i within. none i (omega (arith, within)))) (no-want (ends n).completion (none n (omega arith)))

-- there is room for what failed late
late-room : (why : NoRoom) (late : Completion) → IsLate late → Tells (Err why) late → ⊥
late-room Memory (Value []) is more = omega (arith, more)
late-room Memory (Value (x ∷ xs)) is more = absurd is
late-room Memory (Error e) is more = more
late-room Memory Stopped is more = more
late-room Memory NoMemory is more = more
late-room Limit (Value []) is more = omega (arith, more)
late-room Limit (Value (x ∷ xs)) is more = absurd is
late-room Limit (Error e) is more = more
late-room Limit Stopped is more = more
late-room Limit NoMemory is more = more

pub late-there : {G : Type 0} (ends : ℕ → Delivery) (n : ℕ) (why : NoRoom) → Tells (Err why) (late_ends ends n (Value [])) → G
late-there ends n why more = absurd (late-room why (late_ends ends n (Value [])) (late-is ends n) more)

-- what all complete with, and whether a request was seen
pub tells-ok : (ends : ℕ → Delivery) (n : ℕ) (done : Completion) (saw : Bool) → done ≡ all_ends ends n → saw ≡ saw_together done ends n →
    TellsAll ends n done (Ok saw)
tells-ok ends n done saw is seen = record { ok = (is, seen ∙ ap (λ c. saw_together c ends n) is); err = tt }
