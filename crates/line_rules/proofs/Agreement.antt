-- A license is the stop state of the record, or that state is May.
use Rattle.std.proofs.Common.{◌≡◌, ◌⊎◌, ℕ, ◌+◌, ◌<◌, ◌≤◌, Bool, true, false, List, length, Option, Some, None, IfSome, nat_le, nat_lt, refl, sym, ap, ◌∙◌, subst, inl, inr, arith}
use Rattle.std.proofs.lemmas.Bool.{leb-true, leb-false, ltb-true, ltb-false}
use Rattle.std.specs.Prelude.{if◌then◌else◌}
use Rattle.exec_value.specs.declared.outcome.Outcome.{Outcome}
use Rattle.plan_rules.specs.declared.stop.StopState.{StopState}
use Rattle.plan_rules.specs.declared.stop.StopState.TheVariants.{Never, May, Stands}
use Rattle.line_rules.specs.StopStates.{StopRules, stronger, state_between, state_after, state_after_error, state_on_error, first_error, stop_state}
use Rattle.line_rules.specs.Moments.{Moment, license, IsQuiet, IsDue, IsTimely, IsCaused}

-- no request stands, or one may come
MayBeUnseen : StopState → Type 0
MayBeUnseen Never = Unit {0}
MayBeUnseen May = Unit {0}
MayBeUnseen Stands = ⊥

-- a request may come, or stands
MayBeSeen : StopState → Type 0
MayBeSeen Never = ⊥
MayBeSeen May = Unit {0}
MayBeSeen Stands = Unit {0}

module _ where
  unseen-stronger : (a b : StopState) → MayBeUnseen a → MayBeUnseen b → MayBeUnseen (stronger a b)
  unfolding MayBeUnseen
  unseen-stronger Never b first second = second
  unseen-stronger May Never first second = tt
  unseen-stronger May May first second = tt
  unseen-stronger May Stands first second = second
  unseen-stronger Stands b first second = first

  seen-first : (a b : StopState) → MayBeSeen a → MayBeSeen (stronger a b)
  unfolding MayBeSeen
  seen-first Never b seen = absurd seen
  seen-first May Never seen = tt
  seen-first May May seen = tt
  seen-first May Stands seen = tt
  seen-first Stands b seen = tt

  seen-second : (a b : StopState) → MayBeSeen b → MayBeSeen (stronger a b)
  unfolding MayBeSeen
  seen-second Never b seen = seen
  seen-second May Never seen = tt
  seen-second May May seen = tt
  seen-second May Stands seen = tt
  seen-second Stands b seen = tt

-- where the number of the one isn't reached, no request stands
unseen-between : (before from : Bool) → (before ≡ false → from ≡ true → ⊥) → MayBeUnseen (state_between before from)
unfolding MayBeUnseen
unseen-between true from apart = tt
unseen-between false true apart = apart refl refl
unseen-between false false apart = tt

seen-between : (before from : Bool) → before ≡ false → MayBeSeen (state_between before from)
unfolding MayBeSeen
seen-between true from behind = cc
seen-between false true behind = tt
seen-between false false behind = tt

-- a record below k has no request that stands
unseen-after : (after : Option ℕ) (window read number : ℕ) → IfSome after (λ k. number < k) → MayBeUnseen (state_after after window read number)
unfolding MayBeUnseen
unseen-after None window read number below = tt
unseen-after (Some k) window read number below = by (nat_lt read k)
  where
    by : (b : Bool) → MayBeUnseen (if b then Never else state_between (nat_le (number + window) k) (nat_le k number))
    by true = tt
    by false = unseen-between (nat_le (number + window) k) (nat_le k number) (λ _ from. omega (arith, leb-true k number from, below))

-- one that is less than a window below k may have seen the request
seen-after : (k window read number : ℕ) → k ≤ read → k < number + window → MayBeSeen (state_after (Some k) window read number)
seen-after k window read number reached near = by (nat_lt read k) refl
  where
    behind : (b : Bool) → nat_le (number + window) k ≡ b → b ≡ false
    behind true is = absurd (omega (arith, leb-true (number + window) k is, near))
    behind false is = refl

    by : (b : Bool) → nat_lt read k ≡ b → MayBeSeen (if b then Never else state_between (nat_le (number + window) k) (nat_le k number))
    by true is = absurd (omega (arith, ltb-true read k is, reached))
    by false is = seen-between (nat_le (number + window) k) (nat_le k number) (behind (nat_le (number + window) k) refl)

-- a record up to a window after the first error has no request that stands
unseen-error : (on_error : Bool) (first : Option ℕ) (window number : ℕ) → (on_error ≡ true → IfSome first (λ j. (number ≤ j) ⊎ (number < j + window))) → MayBeUnseen (state_on_error on_error first window number)
unfolding MayBeUnseen
unseen-error false first window number near = tt
unseen-error true None window number near = tt
unseen-error true (Some j) window number near = unseen-between (nat_le number j) (nat_le (j + window) number) (apart (near refl))
  where
    apart : (number ≤ j) ⊎ (number < j + window) → nat_le number j ≡ false → nat_le (j + window) number ≡ true → ⊥
    apart (inl up) behind from = omega (arith, leb-false number j behind, up)
    apart (inr below) behind from = omega (arith, leb-true (j + window) number from, below)

-- one behind the first error may have seen the request
seen-error : (j window number : ℕ) → j < number → MayBeSeen (state_on_error true (Some j) window number)
seen-error j window number behind = seen-between (nat_le number j) (nat_le (j + window) number) (past (nat_le number j) refl)
  where
    past : (b : Bool) → nat_le number j ≡ b → b ≡ false
    past true is = absurd (omega (arith, leb-true number j is, behind))
    past false is = refl

module _ (rules : StopRules) (window : ℕ) (outcomes : List Outcome) (moment : Moment) (timely : IsTimely rules window (length outcomes) outcomes moment) (number : ℕ) where
  state : StopState
  state = stop_state rules window outcomes number

  -- a record that was started before the request doesn't stand under it
  unseen-state : number < moment.first → MayBeUnseen (stop_state rules window outcomes number)
  unseen-state before =
      unseen-stronger _ _
      (unseen-after rules.after window (length outcomes) number (below rules.after timely.after))
      (unseen-error rules.on_error (first_error 1 outcomes) window number (λ set. near (first_error 1 outcomes) (timely.on_error set)))
    where
      below : (after : Option ℕ) → IfSome after (λ k. moment.first ≤ k) → IfSome after (λ k. number < k)
      below None up = tt
      below (Some k) up = omega (arith, up, before)

      near : (first : Option ℕ) → IfSome first (λ j. moment.written ≤ j) → IfSome first (λ j. (number ≤ j) ⊎ (number < j + window))
      near None up = tt
      near (Some j) up = inr (omega (arith, up, before, timely.within))

  -- one that was written after it may have seen it
  seen-state : moment.written < number → MayBeSeen (stop_state rules window outcomes number)
  seen-state behind = by timely.due
    where
      by : IsDue rules window (length outcomes) outcomes moment → MayBeSeen (stop_state rules window outcomes number)
      by (inl k) =
          let P : Option ℕ → Type 0 = λ after. MayBeSeen (state_after after window (length outcomes) number) in
          seen-first _ _ (subst P (sym k.1) (seen-after k.0 window (length outcomes) number k.2 (omega (arith, k.3, behind))))
      by (inr j) =
          let P : Option ℕ → Type 0 = λ first. MayBeSeen (state_on_error rules.on_error first window number) in
          let Q : Bool → Type 0 = λ on_error. MayBeSeen (state_on_error on_error (Some moment.written) window number) in
          seen-second _ _ (subst P (sym j.1) (subst Q (sym j.0) (seen-error moment.written window number behind)))

-- the license of a moment, by where the record stands
agrees-between : (before from : Bool) (state : StopState) → (before ≡ true → MayBeUnseen state) → (before ≡ false → MayBeSeen state) → (from ≡ false → MayBeUnseen state) → (state_between before from ≡ state) ⊎ (state ≡ May)
unfolding MayBeSeen MayBeUnseen
agrees-between true from Never unseen seen early = inl refl
agrees-between true from May unseen seen early = inr refl
agrees-between true from Stands unseen seen early = absurd (unseen refl)
agrees-between false true Never unseen seen early = absurd (seen refl)
agrees-between false true May unseen seen early = inr refl
agrees-between false true Stands unseen seen early = inl refl
agrees-between false false Never unseen seen early = absurd (seen refl)
agrees-between false false May unseen seen early = inr refl
agrees-between false false Stands unseen seen early = absurd (early refl)

-- without a request no record has a stop state but Never
quiet-state : (rules : StopRules) (window : ℕ) (outcomes : List Outcome) (number : ℕ) → IsQuiet rules (length outcomes) outcomes → Never ≡ stop_state rules window outcomes number
quiet-state rules window outcomes number quiet = both _ _ (never-after rules.after quiet.after) (never-error rules.on_error (first_error 1 outcomes) quiet.on_error)
  where
    both : (a b : StopState) → a ≡ Never → b ≡ Never → Never ≡ stronger a b
    both Never b first second = sym second
    both May b first second = cc
    both Stands b first second = cc

    never-after : (after : Option ℕ) → IfSome after (λ k. length outcomes < k) → state_after after window (length outcomes) number ≡ Never
    never-after None below = refl
    never-after (Some k) below = by (nat_lt (length outcomes) k) refl
      where
        by : (b : Bool) → nat_lt (length outcomes) k ≡ b → (if b then Never else state_between (nat_le (number + window) k) (nat_le k number)) ≡ Never
        by true is = refl
        by false is = absurd (omega (arith, ltb-false (length outcomes) k is, below))

    never-error : (on_error : Bool) (first : Option ℕ) → (on_error ≡ true → first ≡ None) → state_on_error on_error first window number ≡ Never
    never-error false first none = refl
    never-error true None none = refl
    never-error true (Some j) none = let e : Some j ≡ None = none refl in cc

-- a license is the stop state of the record, or that state is May
pub agrees : (rules : StopRules) (window : ℕ) (outcomes : List Outcome) (moment : Option Moment) → IsCaused rules window (length outcomes) outcomes moment → (number : ℕ)
    → (license moment number ≡ stop_state rules window outcomes number) ⊎ (stop_state rules window outcomes number ≡ May)
agrees rules window outcomes None quiet number = inl (quiet-state rules window outcomes number quiet)
agrees rules window outcomes (Some moment) timely number =
    agrees-between (nat_le number moment.written) (nat_le moment.first number) (stop_state rules window outcomes number)
    (λ written. unseen-state rules window outcomes moment timely number (omega (arith, leb-true number moment.written written, timely.ahead)))
    (λ after. seen-state rules window outcomes moment timely number (leb-false number moment.written after))
    (λ early. unseen-state rules window outcomes moment timely number (leb-false moment.first number early))
