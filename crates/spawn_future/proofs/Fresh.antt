-- Slots that are all free, and slots that are all taken.
use Rattle.std.proofs.Common.{◌≡◌, ℕ, zero, suc, ◌+◌, ◌*◌, ◌<◌, ◌≤◌, true, List, length, replicate, take, get_or, refl, sym, ap, ◌∙◌, subst, arith}
use Rattle.std.specs.Prelude.{Option, Some, None, IsSome, is_some}
use Rattle.std.proofs.lemmas.List.{length-replicate, take_all}
use Rattle.std.proofs.lemmas.List.Folds.{sum_by-replicate}
use Rattle.std.proofs.lemmas.List.Sums.{count_by_more_yes}
use Rattle.common_lemmas.proofs.Lists.{get_or-replicate_same}
use Rattle.spawn_future.specs.declared.future.Future.{Future}
use Rattle.spawn_future.specs.declared.limits.TheConstants.{MOST_FUTURES}
use Rattle.spawn_future.specs.Opened.{IsOpened}
use Rattle.spawn_future.specs.Slots.{kept_in, Has, IsFull, AllTaken, AreSlots}
use Rattle.spawn_future.proofs.Slotted.{one_if, one-less, has-within}

none-some : {A : Type 0} (e : A) → None ≡ Some e → ⊥
none-some e is = cc

module _ (most : ℕ) (slots : List (Option Future)) (are : slots ≡ replicate most None) where
  fresh-none : kept_in slots ≡ 0
  fresh-none =
      let all : kept_in (replicate most None) ≡ most * 0 = sum_by-replicate one_if most None in
      ap kept_in are ∙ all ∙ omega arith

  fresh-free : (t : ℕ) (f : Future) → ¬ Has slots t f
  fresh-free t f has =
      none-some f
      (sym (ap (λ (l : List (Option Future)). get_or l t None) are ∙ get_or-replicate_same most t None) ∙ has)

  pub fresh-slots : 1 ≤ most → most ≤ MOST_FUTURES → AreSlots slots 0
  fresh-slots some few =
      let long : length slots ≡ most = ap length are ∙ length-replicate most None in
      record {
        some = subst (λ n. 1 ≤ n) (sym long) some;
        few = subst (λ n. n ≤ MOST_FUTURES) (sym long) few;
        count = sym fresh-none;
        owners = λ owner t u f g has_f has_g waited_f waited_g. absurd (fresh-free t f has_f);
      }

  pub fresh-opened : IsOpened most slots
  fresh-opened = record { slots_are = are; none = fresh-none; free = fresh-free }

-- where none is kept each slot is free
pub none-kept : (slots : List (Option Future)) → kept_in slots ≡ 0 → (t : ℕ) → get_or slots t None ≡ None
none-kept slots none t = at (get_or slots t None) refl
  where
    at : (o : Option Future) → get_or slots t None ≡ o → o ≡ None
    at None has = refl
    at (Some f) has =
        absurd (let less = one-less slots t (has-within slots t f has) f has in omega (arith, none, less))

some-true : (o : Option Future) → IsSome o → is_some o ≡ true
some-true None some = some
some-true (Some f) some = refl

-- where each slot is taken as many are kept as there are slots
full-below : (slots : List (Option Future)) → AllTaken slots → (i : ℕ) → i ≤ length slots → kept_in (take i slots) ≡ i
full-below slots all zero le = refl
full-below slots all (suc i) le =
    let below : i < length slots = omega (arith, le) in
    let next : i + 1 ≡ suc i = omega arith in
    let more = subst (λ k. kept_in (take k slots) ≡ kept_in (take i slots) + 1) next
    (count_by_more_yes is_some slots i None below (some-true (get_or slots i None) (all i below))) in
    let before = full-below slots all i (omega (arith, le)) in
    omega (arith, more, before)

pub all-full : (slots : List (Option Future)) → AllTaken slots → IsFull slots
all-full slots all =
    ap kept_in (sym (take_all (length slots) slots (omega arith))) ∙ full-below slots all (length slots) (omega arith)
