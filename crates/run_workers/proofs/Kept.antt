-- Desks that come back.
use Rattle.std.proofs.Common.{◌≡◌, ◌<◌, ◌≤◌, ℕ, ◌+◌, List, [], ◌∷◌, ◌++◌, length, ⊎_elim, refl, sym, ap, ◌∙◌, subst, arith}
use Rattle.std.specs.Prelude.{Option, Some, None, IfSome, MatchOption}
use Rattle.std.proofs.lemmas.List.{length_push}
use Rattle.deck_relay.proofs.Seats.{at-last, got, within}
use Rattle.deck_relay.specs.declared.desk.Desk.{Desk}
use Rattle.deck_relay.specs.Desks.{KeepsBy, OnlyPosts, posts-here}
use Rattle.run_workers.specs.Crews.{AreLeft, IsWith}

-- desks that nobody used
pub desks-here : (desks : List Desk) → AreLeft OnlyPosts desks desks
desks-here desks =
    record {
      count = refl;
      each = λ k before after at at'. subst (λ d. OnlyPosts before d) (got before after (sym at ∙ at')) (posts-here before);
    }

-- the room that was there stays
pub room-stays : (old took has new : ℕ) → took ≡ old → took ≤ has → new ≡ has → old ≤ new
room-stays old took has new same within is = omega arith

pub room-same : (old new : ℕ) → new ≡ old → old ≤ new
room-same old new is = omega arith

-- and there is a place for what was taken
pub room-for : (had took has cap cap_took cap_has : ℕ) → took + 1 ≡ had → has ≡ took → had ≤ cap →
    cap_took ≡ cap → cap_took ≤ cap_has → has < cap_has
room-for had took has cap cap_took cap_has fewer same within is more = omega arith

-- desks that are left so
module _ (Same : Desk → Desk → Type 0) where
  -- so it is of the desk that was given, and of the one that is given back
  pub kept-both : (given first second back middle : Option Desk) → given ≡ middle → first ≡ middle → second ≡ back → KeepsBy Same first second →
      KeepsBy Same given back
  kept-both given first second back middle old new is keeps =
      subst (λ (t : Option Desk × Option Desk). KeepsBy Same t.0 t.1) (λ j. ((new ∙ sym old) j, is j)) keeps

  pub kept-from : (given first back : Option Desk) → first ≡ given → KeepsBy Same first back → KeepsBy Same given back
  kept-from given first back is keeps = subst (λ o. KeepsBy Same o back) is keeps

  -- all of these desks, and one more
  desk-more : (all rest back after : List Desk) (last again : Desk) → all ≡ rest ++ last ∷ [] → after ≡ back ++ again ∷ [] →
      AreLeft Same rest back → Same last again → AreLeft Same all after
  desk-more all rest back after last again is is' same one =
      subst (λ (t : List Desk × List Desk). AreLeft Same t.0 t.1) (λ j. (sym is j, sym is' j))
      (record {
        count = search-count;
        each = λ k before now at_old at_new. ⊎_elim
            (λ old_last. ⊎_elim
            (λ new_last. subst (λ (t : Desk × Desk). Same t.0 t.1) (λ j. (old_last.1 j, new_last.1 j)) one)
            (λ new_in. let low = within back k now new_in in absurd (omega (arith, low, old_last.0, same.count)))
            (at-last back again now k at_new))
            (λ old_in. ⊎_elim
            (λ new_last. let low = within rest k before old_in in absurd (omega (arith, low, new_last.0, same.count)))
            (λ new_in. same.each k before now old_in new_in)
            (at-last back again now k at_new))
            (at-last rest last before k at_old);
      })
    where
      search-count : length (back ++ again ∷ []) ≡ length (rest ++ last ∷ [])
      search-count = length_push back again ∙ ap (λ n. n + 1) same.count ∙ sym (length_push rest last)

  -- all of these, and the last where there is one
  pub desks-back : (last again : Option Desk) (all rest back after : List Desk) → IsWith last rest all → IsWith again back after →
      AreLeft Same rest back → KeepsBy Same last again → AreLeft Same all after
  desks-back (Some last) (Some again) all rest back after is is' same one = desk-more all rest back after last again is is' same one
  desks-back (Some last) None all rest back after is is' same one = absurd one
  desks-back None (Some again) all rest back after is is' same one = absurd one
  desks-back None None all rest back after is is' same one =
      subst (λ (t : List Desk × List Desk). AreLeft Same t.0 t.1) (λ j. (sym is j, sym is' j)) same

  -- and there is room for it, where it was taken from there
  pub room-back : (last again : Option Desk) (had took has room : ℕ) → MatchOption last (took ≡ had) (λ _. took + 1 ≡ had) → had ≤ room → has ≡ took →
      KeepsBy Same last again → IfSome again (λ _. has < room)
  room-back (Some last) (Some again) had took has room fewer within is one = omega arith
  room-back (Some last) None had took has room fewer within is one = absurd one
  room-back None (Some again) had took has room fewer within is one = absurd one
  room-back None None had took has room fewer within is one = tt
