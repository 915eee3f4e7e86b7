-- How the bytes of a sink grow over several calls.
use Rattle.std.proofs.Common.{ℕ, ◌+◌, ◌≤◌, List, [], ◌++◌, Option, None, Some, sym, ap, ◌∙◌, append_assoc, append-nil, arith}
use Rattle.exec_io.specs.Sinks.{Appends, AddsAtMost}

-- before the first call
pub Appends-nil : (told : Option (List ℕ)) → Appends told told []
Appends-nil None = record { grown = tt }
Appends-nil (Some xs) = record { grown = sym (append-nil xs) }

-- one call after the other
pub Appends-trans : {old mid new : Option (List ℕ)} {xs ys : List ℕ} → Appends old mid xs → Appends mid new ys → Appends old new (xs ++ ys)
Appends-trans {new = None} first second = record { grown = tt }
Appends-trans {mid = None} {new = Some zs} first second = absurd second.grown
Appends-trans {old = None} {mid = Some ys} {new = Some zs} first second = absurd first.grown
Appends-trans {old = Some xs} {mid = Some ys} {new = Some zs} {xs = bs} {ys = cs} first second =
    record { grown = second.grown ∙ ap (λ l. l ++ cs) first.grown ∙ append_assoc xs bs cs }

-- a call that appends nothing, after another
pub Appends-still : {old mid new : Option (List ℕ)} {xs : List ℕ} → Appends old mid xs → Appends mid new [] → Appends old new xs
Appends-still {new = None} first second = record { grown = tt }
Appends-still {mid = None} {new = Some zs} first second = absurd second.grown
Appends-still {old = None} {mid = Some ys} {new = Some zs} first second = absurd first.grown
Appends-still {old = Some xs} {mid = Some ys} {new = Some zs} first second = record { grown = second.grown ∙ append-nil ys ∙ first.grown }

-- before the first call
pub AddsAtMost-zero : (told : Option ℕ) → AddsAtMost told told 0
AddsAtMost-zero None = record { grown = tt }
AddsAtMost-zero (Some n) = record { grown = omega arith }

-- one call after the other
pub AddsAtMost-trans : {old mid new : Option ℕ} {m n : ℕ} → AddsAtMost old mid m → AddsAtMost mid new n → AddsAtMost old new (m + n)
AddsAtMost-trans {new = None} first second = record { grown = tt }
AddsAtMost-trans {mid = None} {new = Some c} first second = absurd second.grown
AddsAtMost-trans {old = None} {mid = Some b} {new = Some c} first second = absurd first.grown
AddsAtMost-trans {old = Some a} {mid = Some b} {new = Some c} first second = record { grown = omega (arith, first.grown, second.grown) }

-- a larger bound
pub AddsAtMost-more : {old new : Option ℕ} {m n : ℕ} → AddsAtMost old new m → m ≤ n → AddsAtMost old new n
AddsAtMost-more {new = None} adds le = record { grown = tt }
AddsAtMost-more {old = None} {new = Some b} adds le = absurd adds.grown
AddsAtMost-more {old = Some a} {new = Some b} adds le = record { grown = omega (arith, adds.grown) }
