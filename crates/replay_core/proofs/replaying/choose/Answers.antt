use Rattle.std.proofs.Common.{◌≡◌, ◌<◌, ◌%◌, ℕ, Bool, false, List, [], ◌∷◌, ◌++◌, length, get_or, Some, None, refl, sym, ap, ◌∙◌, arith}
use Rattle.std.specs.Prelude.{◌==◌, vec_len}
use Rattle.std.specs.List.{flat_map, slice_get}
use Rattle.std.proofs.lemmas.Bool.{eqb-true, eqb-false}
use Rattle.std.proofs.lemmas.Option.{slice_get-get_or}
use Rattle.life_rules.specs.declared.event.Event.{Event}
use Rattle.life_rules.specs.declared.event.Place.{Place}
use Rattle.life_rules.specs.declared.event.SourceAt.TheVariants.{Scope, At}
use Rattle.exec_life.specs.StateLists.{machine}
use Rattle.replay_core.specs.Candidates.{candidates}
use Rattle.replay_core.proofs.replaying.choose.Goals as goal

-- no candidate is chosen where there is none
chosen-none : (xs : List Event) (k : ℕ) → length xs ≡ 0 → None ≡ slice_get xs k
chosen-none [] k none = refl
chosen-none (x ∷ xs) k none = absurd (omega (arith, none))

-- there are some where their number isn't 0
some-found : (n : ℕ) (empty : Bool) → empty ≡ (n == 0) → empty ≡ false → 0 < n
some-found n empty is not = omega (arith, eqb-false n 0 (sym is ∙ not))

-- one of them is chosen, counting round and round
chosen-at : (xs ys : List Event) (k n : ℕ) (event : Event) → ys ≡ xs → n ≡ length ys → 0 < n → event ≡ get_or ys (k % n) event → Some event ≡ slice_get xs (k % length xs)
chosen-at xs ys k n event same long some at =
    ap Some at
    ∙ sym (slice_get-get_or ys (k % n) event (omega (arith, long, some)))
    ∙ ap (λ j. slice_get ys (k % j)) long
    ∙ ap (λ (l : List Event). slice_get l (k % length l)) same

pub invariant_of-listing : goal.invariant_of-listing
invariant_of-listing c =
    let places = c.in_ok-places.ensures in
    record {
      ready = record {
        hand_is = c.requires;
        places_are = c.deref-2.ensures.value ∙ places;
        sources_are =
            c.deref-3.ensures.value
            ∙ c.in_ok-sources.ensures
            ∙ ap (λ (ps : List Place). flat_map (λ p. At p ∷ []) ps ++ Scope ∷ []) (c.deref.ensures.value ∙ places);
      };
    }

pub returns-then-is_empty : goal.returns-then-is_empty
returns-then-is_empty c =
    let empty : vec_len c.in_ok-found.found ≡ 0 = eqb-true _ _ (sym c.is_empty.ensures ∙ c.if-is_empty.true) in
    chosen-none (candidates (machine c.args.state.now) c.args.choice.hand) _
    (omega (arith, empty, c.in_ok-found.found.ok.0, ap length c.in_ok-found.ensures))

pub nonzero_rem-number : goal.nonzero_rem-number
nonzero_rem-number c = omega (arith, c.len.ensures, some-found _ _ c.is_empty.ensures c.if-is_empty.false)

pub swap_remove-requires : goal.swap_remove-requires
swap_remove-requires c = omega (arith, c.len.ensures, some-found _ _ c.is_empty.ensures c.if-is_empty.false)

pub returns : goal.returns
returns c =
    let found = c.in_ok-found.found in
    let some : 0 < vec_len found = some-found _ _ c.is_empty.ensures c.if-is_empty.false in
    chosen-at (candidates (machine c.args.state.now) c.args.choice.hand) found.items c.args.choice.choice c.len.result c.swap_remove.result
    c.in_ok-found.ensures (omega (arith, c.len.ensures, found.ok.0)) (omega (arith, c.len.ensures, some)) c.swap_remove.ensures.value
