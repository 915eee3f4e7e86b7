-- Each step of the scope, and rousing, keeps what is sound.
use Rattle.std.proofs.Common.{◌≡◌, ℕ, ◌+◌, ◌-◌, ◌<◌, ◌≤◌, Bool, true, false, cond, not, ◌&&◌, refl, sym, ◌∙◌, subst, arith, eqb, leb, Some, None}
use Rattle.std.proofs.lemmas.Bool.{cond-true, cond-false, leb-true, leb-false, eqb-true, and_parts, both_ways, true≢false}
use Rattle.life_rules.specs.declared.event.Place.{Place}
use Rattle.life_rules.specs.declared.event.Event.TheVariants.{Rouse, Enter, MarkUsed, Leave, Close, Join, Seal}
use Rattle.life_rules.specs.Keeping.{KeepsSound}
use Rattle.life_rules.specs.declared.scope.ScopeWord.{ScopeWord}
use Rattle.std.specs.Prelude.{is_some}
use Rattle.life_rules.specs.declared.scope.Refused.{Refused}
use Rattle.life_rules.specs.Scopes.{is_refused, may_seal}
use Rattle.life_rules.specs.Views.{View}
use Rattle.life_rules.specs.States.{State, with_view, with_scope}
use Rattle.life_rules.specs.ScopeSteps.{may_enter, after_enter, entered, may_mark_used, after_mark_used, may_leave, after_leave, left, may_seal_as, after_seal, agree, same_word}
use Rattle.life_rules.specs.Associations.{Associations, kept}
use Rattle.life_rules.specs.Sound.{Sound}
use Rattle.common_lemmas.proofs.Bool.{either}
use Rattle.common_lemmas.proofs.Totals.{total-at}
use Rattle.scope_kept.proofs.Frames.{bare, other_parts, sound_from, others-kept, word-kept}
use Rattle.scope_kept.proofs.Rouse.{sound-rouse}
use Rattle.scope_kept.proofs.Counts.{all_kept, count-parts, associations-kept}

-- a word that doesn't refuse isn't joined, and counts fewer than the scope takes
record Takes (w : ScopeWord) (most : ℕ) : Type 0 where
  unjoined : w.joined ≡ false
  room : w.count < most

takes-at : (joined closed full : Bool) (reason1 reason2 reason3 : Refused) →
    is_some (cond joined (Some reason1) (cond closed (Some reason2) (cond full (Some reason3) None))) ≡ false →
    (joined ≡ false) × (full ≡ false)
takes-at true closed full r1 r2 r3 h = absurd (true≢false h)
takes-at false true full r1 r2 r3 h = absurd (true≢false h)
takes-at false false true r1 r2 r3 h = absurd (true≢false h)
takes-at false false false r1 r2 r3 h = (refl, refl)

takes : (w : ScopeWord) (most : ℕ) → is_refused w most ≡ false → Takes w most
takes w most h =
    let parts = takes-at w.joined w.closed (leb most w.count) _ _ _ h in
    record { unjoined = parts.0; room = leb-false _ _ parts.1 }

-- an association that joins those of a view
module _ (s : State) (h : ℕ) (sound : Sound s) (l : h < s.hands) where
  old : View
  old = s.view h

  sound-with : (v : View) (w : ScopeWord) → bare v ≡ bare (s.view h) →
      Associations (with_view (with_scope s w) h v) → Sound (with_view (with_scope s w) h v)
  sound-with v w same a = sound_from _ (others-kept s h v w same (other_parts s sound)) a

  pub sound-enter : may_enter s h ≡ true → Sound (after_enter s h)
  sound-enter needs =
      let a = sound.associations in
      let none : (s.view h).making + (s.view h).refused ≡ 0 = eqb-true _ _ needs in
      let w : ScopeWord = record s.scope { count = s.scope.count + 1 } in
      let v = s.view h in
      either (is_refused s.scope s.most)
      (λ refuses.
      let e : entered s.scope s.most v ≡ record v { refused = v.refused + 1 } = cond-true _ _ _ refuses in
      subst (λ u. Sound (with_view (with_scope s w) h u)) (sym e)
      (sound-with _ w refl
      (associations-kept s h _ w a l (omega arith) (omega arith)
      (λ j. let k = a.joined j in omega (arith, k)) (omega (arith, a.most)))))
      (λ accepts.
      let t = takes s.scope s.most accepts in
      let room : s.scope.count < s.most = t.room in
      let parts = count-parts s a in
      either s.scope.used
      (λ used.
      let e : entered s.scope s.most v ≡ record v { made = v.made + 1 } =
      cond-false _ _ _ accepts ∙ cond-true _ _ _ used in
      subst (λ u. Sound (with_view (with_scope s w) h u)) (sym e)
      (sound-with _ w refl
      (associations-kept s h _ w a l (omega arith) (a.single h l)
      (λ j. absurd (both_ways _ t.unjoined j)) (omega (arith, parts, room)))))
      (λ unused.
      let e : entered s.scope s.most v ≡ record v { making = v.making + 1 } =
      cond-false _ _ _ accepts ∙ cond-false _ _ _ unused in
      subst (λ u. Sound (with_view (with_scope s w) h u)) (sym e)
      (sound-with _ w refl
      (associations-kept s h _ w a l (omega arith) (omega arith)
      (λ j. absurd (both_ways _ t.unjoined j)) (omega (arith, parts, room))))))

  pub sound-mark_used : may_mark_used s h ≡ true → Sound (after_mark_used s h)
  sound-mark_used needs =
      let a = sound.associations in
      let some : 1 ≤ (s.view h).making = leb-true _ _ needs in
      let single = a.single h l in
      sound-with _ _ refl
      (associations-kept s h _ _ a l (omega arith) (omega arith)
      (λ j. let k = a.joined j in omega (arith, k)) (omega (arith, a.most)))

  pub sound-leave : may_leave s h ≡ true → Sound (after_leave s h)
  sound-leave needs =
      let a = sound.associations in
      let some : 1 ≤ (s.view h).made + (s.view h).refused = leb-true _ _ needs in
      let single = a.single h l in
      let v = s.view h in
      let w : ScopeWord = record s.scope { count = s.scope.count - 1 } in
      let here = total-at (λ i. kept (s.view i) + (s.view i).refused) s.hands h l in
      let counted : 1 ≤ s.scope.count = omega (arith, a.count, here) in
      either (leb 1 v.refused)
      (λ refused.
      let more : 1 ≤ v.refused = leb-true _ _ refused in
      let e : left v ≡ record v { refused = v.refused - 1 } = cond-true _ _ _ refused in
      subst (λ u. Sound (with_view (with_scope s w) h u)) (sym e)
      (sound-with _ w refl
      (associations-kept s h _ w a l (omega arith) (omega arith)
      (λ j. let k = a.joined j in omega (arith, k)) (omega (arith, a.most)))))
      (λ none.
      let few : v.refused < 1 = leb-false _ _ none in
      let e : left v ≡ record v { made = v.made - 1 } = cond-false _ _ _ none in
      subst (λ u. Sound (with_view (with_scope s w) h u)) (sym e)
      (sound-with _ w refl
      (associations-kept s h _ w a l (omega arith) (omega arith)
      (λ j. let k = a.joined j in omega (arith, k)) (omega (arith, a.most)))))

-- a step that changes the bits of the word alone
sound-word : (s : State) (w : ScopeWord) → Sound s → w.count ≡ s.scope.count →
    (w.joined ≡ true → all_kept s ≡ 0) → Sound (with_scope s w)
sound-word s w sound count joined =
    let a = sound.associations in
    sound_from (with_scope s w) (word-kept s w (other_parts s sound))
    (record {
      count = count ∙ a.count;
      joined = joined;
      single = a.single;
      most = a.most;
    })

same_word-count : (v w : ScopeWord) → same_word v w ≡ true → v.count ≡ w.count
same_word-count v w h =
    let closed = and_parts (agree v.used w.used) _ h in
    let joining = and_parts (agree v.closed w.closed) _ closed.1 in
    let joined = and_parts (agree v.joining w.joining) _ joining.1 in
    let count = and_parts (agree v.joined w.joined) _ joined.1 in
    eqb-true v.count w.count count.1

may_seal-count : (w : ScopeWord) → may_seal w ≡ true → w.count ≡ 0
may_seal-count w h = eqb-true w.count 0 (and_parts (w.joining && not w.joined) (eqb w.count 0) h).1

pub sound-seal : (s : State) (expected : ScopeWord) → Sound s → may_seal_as s expected ≡ true →
    Sound (after_seal s)
sound-seal s expected sound needs =
    let parts = and_parts (same_word s.scope expected) (may_seal expected) needs in
    let same = same_word-count s.scope expected parts.0 in
    let empty = may_seal-count expected parts.1 in
    let counted = count-parts s sound.associations in
    sound-word s _ sound refl (λ _. omega (arith, counted, same, empty))

-- the same, as the law says it of each event

pub keeps-rouse : (place : Place) → KeepsSound (Rouse place)
keeps-rouse place s h sound l needs = sound-rouse s h place sound needs

pub keeps-enter : KeepsSound Enter
keeps-enter s h sound l needs = sound-enter s h sound l needs

pub keeps-mark_used : KeepsSound MarkUsed
keeps-mark_used s h sound l needs = sound-mark_used s h sound l needs

pub keeps-leave : KeepsSound Leave
keeps-leave s h sound l needs = sound-leave s h sound l needs

pub keeps-close : KeepsSound Close
keeps-close s h sound l needs = sound-word s _ sound refl sound.associations.joined

pub keeps-join : KeepsSound Join
keeps-join s h sound l needs = sound-word s _ sound refl sound.associations.joined

pub keeps-seal : (expected : ScopeWord) → KeepsSound (Seal expected)
keeps-seal expected s h sound l needs = sound-seal s expected sound needs
