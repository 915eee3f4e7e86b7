-- How slots stand for records.
use Rattle.std.proofs.Common.{◌≡◌, ◌≢◌, ℕ, suc, ◌+◌, ◌<◌, ◌≤◌, Bool, true, false, List, [], ◌∷◌, ◌++◌, length, Option, Some, None, nat_le, cond, refl, sym, ap, ◌∙◌, subst, inl, inr, arith}
use Rattle.std.proofs.lemmas.Bool.{leb-true}
use Rattle.std.specs.Prelude.{is_some}
use Rattle.exec_value.specs.declared.outcome.Outcome.{Outcome}
use Rattle.exec_value.specs.declared.outcome.Outcome.TheVariants.{Done, BadRecord}
use Rattle.plan_rules.specs.declared.stop.StopState.{StopState}
use Rattle.plan_shape.specs.Blueprint.{Blueprint}
use Rattle.line_rules.specs.Lawful.{Terms, MayEnd}
use Rattle.line_rules.specs.Moments.{Moment, license, is_asked_before}
use Rattle.line_rules.specs.PlanTerms.{terms_of, AllowsRecord}
use Rattle.line_rules.specs.StopStates.{state_between}
use Rattle.line_rules.proofs.LicenseLaws.{late-license}
use Rattle.record_loop.specs.declared.slot.Slot.{Slot}
use Rattle.record_loop.specs.declared.slot.Slot.TheVariants.{Running, Bad, NoMemory}
use Rattle.record_loop.specs.Slots.{SettlesSlot, has_operation}
use Rattle.record_loop.specs.Standing.{StandsFor, StandForAll}
use Rattle.plan_rules.specs.Seen.{seen_state}
use Rattle.record_loop.specs.Works.{Begun, Work, KeepsWork, MayCompleteWork}

-- each slot stands for one record
pub StandForAll-length : (terms : Terms) (work : Work) (moment : Option Moment) (before : ℕ) (slots : List Slot) (lines : List (List ℕ)) → StandForAll terms work moment before slots lines → length slots ≡ length lines
StandForAll-length terms work moment before [] [] stand = refl
StandForAll-length terms work moment before [] (line ∷ lines) stand = absurd stand
StandForAll-length terms work moment before (slot ∷ slots) [] stand = absurd stand
StandForAll-length terms work moment before (slot ∷ slots) (line ∷ lines) stand = ap suc (StandForAll-length terms work moment (before + 1) slots lines stand.1)

pub StandsFor-kept : (terms : Terms) (old new : Work) (moment : Option Moment) (number : ℕ) (line : List ℕ) (slot : Slot) → ((b : ℕ) (begun : Begun) → old.tickets b ≡ Some begun → new.tickets b ≡ Some begun) → StandsFor terms old moment number line slot → StandsFor terms new moment number line slot
StandsFor-kept terms old new moment number line (Running ticket) kept stands = record {
  datum = stands.datum;
  shows = stands.shows;
  begun = kept ticket _ stands.begun;
}
StandsFor-kept terms old new moment number line Bad kept stands = stands
StandsFor-kept terms old new moment number line NoMemory kept stands = stands

pub StandForAll-kept : (terms : Terms) (old new : Work) (moment : Option Moment) (before : ℕ) (slots : List Slot) (lines : List (List ℕ)) → ((b : ℕ) (begun : Begun) → old.tickets b ≡ Some begun → new.tickets b ≡ Some begun) → StandForAll terms old moment before slots lines → StandForAll terms new moment before slots lines
StandForAll-kept terms old new moment before [] [] kept stand = tt
StandForAll-kept terms old new moment before [] (line ∷ lines) kept stand = absurd stand
StandForAll-kept terms old new moment before (slot ∷ slots) [] kept stand = absurd stand
StandForAll-kept terms old new moment before (slot ∷ slots) (line ∷ lines) kept stand =
    (StandsFor-kept terms old new moment (before + 1) line slot kept stand.0, StandForAll-kept terms old new moment (before + 1) slots lines kept stand.1)

-- the operations of all tickets but one are kept, and the one had a record that comes before
StandsFor-others : (terms : Terms) (old new : Work) (moment : Option Moment) (ticket : ℕ) (first : Begun) (number : ℕ) (line : List ℕ) (slot : Slot) → old.tickets ticket ≡ Some first → first.number < number → ((b : ℕ) (begun : Begun) → b ≢ ticket → old.tickets b ≡ Some begun → new.tickets b ≡ Some begun) → StandsFor terms old moment number line slot → StandsFor terms new moment number line slot
StandsFor-others terms old new moment ticket first number line (Running b) is earlier kept stands = record {
  datum = stands.datum;
  shows = stands.shows;
  begun = kept b _ apart stands.begun;
}
  where
    apart : b ≢ ticket
    apart same =
        let numbers : Some first.number ≡ Some number = ap (elim [ None ↦ None | Some x ↦ Some x.number ]) (sym is ∙ ap old.tickets (sym same) ∙ stands.begun) in
        let equal : first.number ≡ number = cc in
        omega (arith, equal, earlier)
StandsFor-others terms old new moment ticket first number line Bad is earlier kept stands = stands
StandsFor-others terms old new moment ticket first number line NoMemory is earlier kept stands = stands

pub StandForAll-others : (terms : Terms) (old new : Work) (moment : Option Moment) (ticket : ℕ) (first : Begun) (before : ℕ) (slots : List Slot) (lines : List (List ℕ)) → old.tickets ticket ≡ Some first → first.number ≤ before → ((b : ℕ) (begun : Begun) → b ≢ ticket → old.tickets b ≡ Some begun → new.tickets b ≡ Some begun) → StandForAll terms old moment before slots lines → StandForAll terms new moment before slots lines
StandForAll-others terms old new moment ticket first before [] [] is earlier kept stand = tt
StandForAll-others terms old new moment ticket first before [] (line ∷ lines) is earlier kept stand = absurd stand
StandForAll-others terms old new moment ticket first before (slot ∷ slots) [] is earlier kept stand = absurd stand
StandForAll-others terms old new moment ticket first before (slot ∷ slots) (line ∷ lines) is earlier kept stand = (
  StandsFor-others terms old new moment ticket first (before + 1) line slot is (omega (arith, earlier)) kept stand.0,
  StandForAll-others terms old new moment ticket first (before + 1) slots lines is (omega (arith, earlier)) kept stand.1,
)

-- records that were started before the request weren't asked
not-asked : (moment : Moment) (number : ℕ) → number < moment.first → is_asked_before None number ≡ is_asked_before (Some moment) number
not-asked moment number early = by (nat_le moment.first number) refl
  where
    by : (b : Bool) → nat_le moment.first number ≡ b → false ≡ b
    by true is = absurd (omega (arith, leb-true moment.first number is, early))
    by false is = refl

StandsFor-asks : (terms : Terms) (work : Work) (moment : Moment) (number : ℕ) (line : List ℕ) (slot : Slot) → number < moment.first → StandsFor terms work None number line slot → StandsFor terms work (Some moment) number line slot
StandsFor-asks terms work moment number line (Running ticket) early stands = record {
  datum = stands.datum;
  shows = stands.shows;
  begun = stands.begun ∙ ap (λ asked. Some (record { number = number; datum = stands.datum; asked = asked })) (not-asked moment number early);
}
StandsFor-asks terms work moment number line Bad early stands = stands
StandsFor-asks terms work moment number line NoMemory early stands = stands

pub StandForAll-asks : (terms : Terms) (work : Work) (moment : Moment) (before : ℕ) (slots : List Slot) (lines : List (List ℕ)) → before + length slots < moment.first → StandForAll terms work None before slots lines → StandForAll terms work (Some moment) before slots lines
StandForAll-asks terms work moment before [] [] early stand = tt
StandForAll-asks terms work moment before [] (line ∷ lines) early stand = absurd stand
StandForAll-asks terms work moment before (slot ∷ slots) [] early stand = absurd stand
StandForAll-asks terms work moment before (slot ∷ slots) (line ∷ lines) early stand = (
  StandsFor-asks terms work moment (before + 1) line slot (omega (arith, early)) stand.0,
  StandForAll-asks terms work moment (before + 1) slots lines (omega (arith, early)) stand.1,
)

-- one more slot stands for one more record
pub StandForAll-push : (terms : Terms) (work : Work) (moment : Option Moment) (before : ℕ) (slots : List Slot) (lines : List (List ℕ)) (slot : Slot) (line : List ℕ) (number : ℕ) → number ≡ before + length slots + 1 → StandForAll terms work moment before slots lines → StandsFor terms work moment number line slot → StandForAll terms work moment before (slots ++ slot ∷ []) (lines ++ line ∷ [])
StandForAll-push terms work moment before [] [] slot line number is stand stands =
    let same : number ≡ before + 1 = omega (arith, is) in
    (subst (λ (n : ℕ). StandsFor terms work moment n line slot) same stands, tt)
StandForAll-push terms work moment before [] (l ∷ lines) slot line number is stand stands = absurd stand
StandForAll-push terms work moment before (s ∷ slots) [] slot line number is stand stands = absurd stand
StandForAll-push terms work moment before (s ∷ slots) (l ∷ lines) slot line number is stand stands =
    (stand.0, StandForAll-push terms work moment (before + 1) slots lines slot line number (omega (arith, is)) stand.1 stands)

-- what an operation may have seen is what the moment licenses, where its line is the next one
seen-licensed : (moment : Option Moment) (number : ℕ) (requested : Bool) → requested ≡ is_some moment → ((m : Moment) → moment ≡ Some m → m.written < number) → seen_state (is_asked_before moment number) requested ≡ license moment number
seen-licensed None number requested is late = ap (seen_state false) is
seen-licensed (Some m) number requested is late =
    ap (seen_state (nat_le m.first number)) is ∙ by (nat_le m.first number) ∙ late-license m number (late m refl) (nat_le m.first number) refl
  where
    by : (asked : Bool) → seen_state asked true ≡ state_between false asked
    by true = refl
    by false = refl

module _ (Wants : Blueprint → Type 0) (plan : Blueprint) (window : ℕ) (old new : Work) (of : old.plan ≡ plan) (moment : Option Moment) (number : ℕ) (line : List ℕ) where
  -- a record ends as its slot settles
  pub MayEnd-settles : (slot : Slot) (outcome : Outcome) → old.requested ≡ is_some moment → ((m : Moment) → moment ≡ Some m → m.written < number)
      → StandsFor (terms_of Wants plan window) old moment number line slot → SettlesSlot Wants old new slot outcome
      → MayEnd (terms_of Wants plan window) number (license moment number) line outcome
  MayEnd-settles (Running ticket) (Done completion) requested late stands collects = ends (collects.ends _ stands.begun)
    where
      ends : MayCompleteWork Wants old (record { number = number; datum = stands.datum; asked = is_asked_before moment number }) completion → MayEnd (terms_of Wants plan window) number (license moment number) line (Done completion)
      ends (inl wants) =
          let P : Blueprint → Type 0 = λ p. (terms_of Wants p window).wants in
          inl (wants.0, subst P of wants.1)
      ends (inr allowed) =
          let P : Blueprint → Type 0 = λ p. AllowsRecord p number stands.datum (seen_state (is_asked_before moment number) old.requested) completion in
          let Q : StopState → Type 0 = λ stop. AllowsRecord plan number stands.datum stop completion in
          inr (record { datum = stands.datum; shows = stands.shows; allowed = subst Q (seen-licensed moment number old.requested requested late) (subst P of allowed) })
  MayEnd-settles (Running ticket) BadRecord requested late stands collects = absurd collects
  MayEnd-settles Bad outcome requested late stands settles =
      let P : Outcome → Type 0 = λ o. MayEnd (terms_of Wants plan window) number (license moment number) line o in
      subst P (sym settles.0) stands
  MayEnd-settles NoMemory outcome requested late stands settles =
      let P : Outcome → Type 0 = λ o. MayEnd (terms_of Wants plan window) number (license moment number) line o in
      subst P (sym settles.0) (inl (refl, stands))

-- once a slot is settled the plan, the table and the request are as they were, and one less runs where
-- the slot had an operation
pub record SettlesAt (old new : Work) (slot : Slot) : Type 0 where
  pub plan : new.plan ≡ old.plan
  pub table : new.table ≡ old.table
  pub running : old.running ≡ cond (has_operation slot) 1 0 + new.running
  pub requested : new.requested ≡ old.requested

abbrev one : Bool → ℕ
one b = cond b 1 0

kept-at : {old new : Work} (slot : Slot) → has_operation slot ≡ false → KeepsWork old new → SettlesAt old new slot
kept-at slot none keeps = record {
  plan = keeps.plan;
  table = keeps.table;
  running = omega (arith, keeps.running, ap one none);
  requested = keeps.requested;
}

pub settled-at : (Wants : Blueprint → Type 0) (old new : Work) (slot : Slot) (outcome : Outcome) → SettlesSlot Wants old new slot outcome → SettlesAt old new slot
settled-at Wants old new (Running ticket) (Done completion) collects = record {
  plan = collects.plan;
  table = collects.table;
  running = omega (arith, collects.running);
  requested = collects.requested;
}
settled-at Wants old new (Running ticket) BadRecord collects = absurd collects
settled-at Wants old new Bad outcome settles = kept-at Bad refl settles.1
settled-at Wants old new NoMemory outcome settles = kept-at NoMemory refl settles.1

-- and the other slots stand for their records
pub StandForAll-settles : (Wants : Blueprint → Type 0) (terms : Terms) (old new : Work) (moment : Option Moment) (before : ℕ) (slot : Slot) (line : List ℕ) (outcome : Outcome) (slots : List Slot) (lines : List (List ℕ)) → SettlesSlot Wants old new slot outcome
    → StandsFor terms old moment (before + 1) line slot → StandForAll terms old moment (before + 1) slots lines → StandForAll terms new moment (before + 1) slots lines
StandForAll-settles Wants terms old new moment before (Running ticket) line (Done completion) slots lines collects stands stand =
    StandForAll-others terms old new moment ticket _ (before + 1) slots lines stands.begun (omega arith) collects.others stand
StandForAll-settles Wants terms old new moment before (Running ticket) line BadRecord slots lines collects stands stand = absurd collects
StandForAll-settles Wants terms old new moment before Bad line outcome slots lines settles stands stand = StandForAll-kept terms old new moment (before + 1) slots lines settles.1.tickets stand
StandForAll-settles Wants terms old new moment before NoMemory line outcome slots lines settles stands stand = StandForAll-kept terms old new moment (before + 1) slots lines settles.1.tickets stand
