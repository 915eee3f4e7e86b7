-- A round of steals, as far as it has come.
use Rattle.std.proofs.Common.{◌≡◌, ◌≢◌, ℕ, zero, suc, ◌+◌, ◌<◌, ◌≤◌, List, [], ◌∷◌, ◌++◌, length, map, get_or, set, sum_by, ⊎_elim, arith, refl, sym, ap, ◌∙◌, subst}
use Rattle.std.specs.Prelude.{slice_get, Some}
use Rattle.std.proofs.lemmas.Bool.{cases_eq}
use Rattle.std.proofs.lemmas.List.{map-set}
use Rattle.std.proofs.lemmas.List.Sums.{sum_by-append}
use Rattle.crossbeam_deque.specs.Handles.{worker_view}
use Rattle.life_rules.specs.declared.event.Name.{Name}
use Rattle.deck_relay.specs.declared.tokens.Tokens.{Tokens}
use Rattle.deck_relay.specs.declared.thefts.Theft.{Theft}
use Rattle.deck_relay.specs.declared.stealing.TheConstants.{MOST_STOLEN}
use Rattle.deck_relay.specs.Rule.{giving, taking}
use Rattle.deck_relay.specs.Decks.{theft_view, theft_deque, all_taken, stolen_of}
use Rattle.deck_relay.specs.Steals.{Missed, MissedBelow, StealsInTurn, Steals, BringsHome, Owner, IsSameOwner}
use Rattle.deck_relay.specs.Laws.{AreMore}
use Rattle.deck_relay.proofs.Seats.{got, no-more, map-same, map-got}

module _ {X : Type 0} where
  -- what an index reads is there
  pub read : (l : List X) (i : ℕ) (d : X) → i < length l → slice_get l i ≡ Some (get_or l i d)
  read [] i d short = absurd (let no : ⊥ = omega (arith, short) in no)
  read (y ∷ l) zero d short = refl
  read (y ∷ l) (suc i) d short = read l i d (omega (arith, short))

  got-here : (l : List X) (i : ℕ) (new x : X) → i < length l → slice_get (set l i new) i ≡ Some x → new ≡ x
  got-here [] i new x short e = absurd (let no : ⊥ = omega (arith, short) in no)
  got-here (y ∷ l) zero new x short e = got new x e
  got-here (y ∷ l) (suc i) new x short e = got-here l i new x (omega (arith, short)) e

  got-else : (l : List X) (i j : ℕ) (new : X) → j ≢ i → slice_get (set l i new) j ≡ slice_get l j
  got-else [] i j new apart = refl
  got-else (y ∷ l) zero zero new apart = absurd (apart refl)
  got-else (y ∷ l) zero (suc j) new apart = refl
  got-else (y ∷ l) (suc i) zero new apart = refl
  got-else (y ∷ l) (suc i) (suc j) new apart = got-else l i j new (λ e. apart (ap suc e))

-- the round was at each place below this one
pub record Round (place at : ℕ) (old new : List Theft) : Type 0 where
  pub deques : map theft_deque new ≡ map theft_deque old
  pub views : map theft_view new ≡ map theft_view old
  pub missed : MissedBelow at place old new
  pub rest : (k : ℕ) → at ≤ k → slice_get new k ≡ slice_get old k

at-least : (k at : ℕ) → k ≡ at → at ≤ k
at-least k at same = omega (arith, same)

nearer-than : (k at : ℕ) → k < at → k ≢ at
nearer-than k at below same = omega (arith, same, below)

nearer : (k at : ℕ) → k < at + 1 → k ≢ at → k < at
nearer k at below differs = omega (arith, below, differs)

beyond : (k at : ℕ) → at + 1 ≤ k → k ≢ at
beyond k at far same = omega (arith, same, far)

far-enough : (k at : ℕ) → at + 1 ≤ k → at ≤ k
far-enough k at far = omega (arith, far)

pub begins : (place : ℕ) (thefts : List Theft) → Round place 0 thefts thefts
begins place thefts =
    record {
      deques = refl;
      views = refl;
      missed = λ k before after below apart was is. absurd (let no : ⊥ = omega (arith, below) in no);
      rest = λ k far. refl;
    }

-- one more place, where the steal missed
pub misses : (place at : ℕ) (old now : List Theft) (before after : Theft) → Round place at old now → at < length now → slice_get now at ≡ Some before →
    theft_deque after ≡ theft_deque before → theft_view after ≡ theft_view before → Missed before after → Round place (at + 1) old (set now at after)
misses place at old now before after round short here deque view missed =
    record {
      deques = map-same theft_deque now at before after here deque ∙ round.deques;
      views = map-same theft_view now at before after here view ∙ round.views;
      missed = λ k first last below apart was is. ⊎_elim
          (λ same.
          let was-here : first ≡ before =
          got first before (sym was ∙ sym (round.rest k (at-least k at same)) ∙ ap (slice_get now) same ∙ here) in
          let is-here : after ≡ last = got-here now at after last short (ap (slice_get (set now at after)) (sym same) ∙ is) in
          subst (λ (y : Theft × Theft). Missed y.0 y.1) (λ i. (sym was-here i, is-here i)) missed)
          (λ differs. round.missed k first last (nearer k at below differs) apart was (sym (got-else now at k after differs) ∙ is))
          (cases_eq k at);
      rest = λ k far. got-else now at k after (beyond k at far) ∙ round.rest k (far-enough k at far);
    }

-- the place that is passed over
pub passes : (place at : ℕ) (old now : List Theft) → Round place at old now → at ≡ place → Round place (at + 1) old now
passes place at old now round is =
    record {
      deques = round.deques;
      views = round.views;
      missed = λ k first last below apart was here. ⊎_elim (λ same. absurd (apart (same ∙ is)))
          (λ differs. round.missed k first last (nearer k at below differs) apart was here) (cases_eq k at);
      rest = λ k far. round.rest k (far-enough k at far);
    }

-- names that one pass took
taken-once : (names : List Name) (views : List Tokens) (i : ℕ) (v w : Tokens) → slice_get views i ≡ Some v → w ≡ taking v names →
    AreMore names (all_taken views) (all_taken (set views i w))
taken-once names [] i v w here is weight = absurd (no-more v here)
taken-once names (x ∷ xs) zero v w here is weight =
    let same : x ≡ v = got x v here in
    let one : sum_by weight w.taken ≡ sum_by weight (v.taken ++ names) = ap (λ (u : Tokens). sum_by weight u.taken) is in
    let two = sum_by-append weight v.taken names in
    let was : sum_by weight x.taken ≡ sum_by weight v.taken = ap (λ (u : Tokens). sum_by weight u.taken) same in
    let a = sum_by-append weight w.taken (all_taken xs) in
    let b = sum_by-append weight x.taken (all_taken xs) in
    omega (arith, one, two, was, a, b)
taken-once names (x ∷ xs) (suc i) v w here is weight =
    let later = taken-once names xs i v w here is weight in
    let a = sum_by-append weight x.taken (all_taken (set xs i w)) in
    let b = sum_by-append weight x.taken (all_taken xs) in
    omega (arith, later, a, b)

pub stolen-once : (place : ℕ) (old new : List Theft) (name : Name) (more : List Name) → StealsInTurn place old new name more →
    AreMore (name ∷ more) (stolen_of old) (stolen_of new)
stolen-once place old new name more by weight =
    let view : Tokens = theft_view by.theft in
    let once = taken-once (name ∷ more) (map theft_view old) by.from view (taking view (name ∷ more)) (map-got theft_view old by.from by.theft by.there) refl weight in
    let is : sum_by weight (stolen_of new) ≡ sum_by weight (all_taken (set (map theft_view old) by.from (taking view (name ∷ more)))) =
    ap (λ l. sum_by weight (all_taken l)) by.views in
    is ∙ once

-- the place where a steal gave a name, and more
stole : (place at : ℕ) (old now : List Theft) (before after : Theft) (name : Name) (more : List Name) → Round place at old now → at ≢ place →
    slice_get now at ≡ Some before → length more < MOST_STOLEN → theft_view after ≡ taking (theft_view before) (name ∷ more) →
    StealsInTurn place old (set now at after) name more
stole place at old now before after name more round other here few is =
    record {
      few = few;
      from = at;
      other = other;
      theft = before;
      there = sym (round.rest at (at-least at at refl)) ∙ here;
      views = map-set theft_view now at after ∙ (λ i. set (round.views i) at (is i));
      before = λ k first last below apart was seen.
          round.missed k first last below apart was (sym (got-else now at k after (nearer-than k at below)) ∙ seen);
    }

pub steals : (place at : ℕ) (old now : List Theft) (before after : Theft) (was mid is : Owner) (name : Name) → Round place at old now → at ≢ place →
    slice_get now at ≡ Some before → worker_view mid ≡ worker_view was → Steals before after mid is name →
    BringsHome place old (set now at after) was is name
steals place at old now before after was mid is name round other here own by =
    record {
      more = by.more;
      steals = stole place at old now before after name by.more round other here by.few by.took;
      own = by.own ∙ ap (λ (v : Tokens). giving v by.more) own;
    }

-- the thief's own deque, as far as the round has come without a name
pub record Waits (was is : Owner) : Type 0 where
  pub same : IsSameOwner was is
  pub view : worker_view is ≡ worker_view was

pub owner-here : (own : Owner) → Waits own own
owner-here own = record { same = record { deque = refl; flavor = refl; share = refl }; view = refl }

pub owner-on : (first second third : Owner) → IsSameOwner first second → IsSameOwner second third → IsSameOwner first third
owner-on first second third one next =
    record { deque = next.deque ∙ one.deque; flavor = next.flavor ∙ one.flavor; share = next.share ∙ one.share }

pub waits-on : (first second third : Owner) → Waits first second → IsSameOwner second third → worker_view third ≡ worker_view second → Waits first third
waits-on first second third one same view =
    record { same = owner-on first second third one.same same; view = view ∙ one.view }

pub keeps-deques : (place at : ℕ) (old now : List Theft) (before after : Theft) → Round place at old now → slice_get now at ≡ Some before →
    theft_deque after ≡ theft_deque before → map theft_deque (set now at after) ≡ map theft_deque old
keeps-deques place at old now before after round here same = map-same theft_deque now at before after here same ∙ round.deques
