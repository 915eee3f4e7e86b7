-- What the steps of the counting scope owe.
use Rattle.std.proofs.Common.{◌≡◌, ℕ, ◌+◌, ◌-◌, ◌^◌, ◌<◌, ◌≤◌, Bool, true, false, set, refl, sym, ap, ◌∙◌, subst, arith, eq-eqb}
use Rattle.std.specs.Prelude.{bit_or, nat_le, slice_index}
use Rattle.std.proofs.lemmas.Bool.{and_from, cond-true, cond-false, le-leb}
use Rattle.life_rules.specs.declared.scope.ScopeWord.{ScopeWord}
use Rattle.life_rules.specs.Scopes.{may_seal}
use Rattle.life_rules.specs.Views.{View as PureView}
use Rattle.life_rules.specs.States.{State, with_view, with_scope}
use Rattle.life_rules.specs.Associations.{kept}
use Rattle.life_rules.specs.ScopeSteps.{agree, same_word, left}
use Rattle.life_rules.specs.Sound.{Sound}
use Rattle.common_lemmas.proofs.Bool.{either as test}
use Rattle.common_lemmas.proofs.Totals.{total-at}
use Rattle.scope_kept.proofs.Steps.{sound-mark_used, sound-leave, sound-seal, keeps-close, keeps-join}
use Rattle.table_words.specs.Stamps.{code_of}
use Rattle.table_words.specs.ScopeNumbers.{scope_read}
use Rattle.table_rules.specs.declared.cargo.Cargo.{Ghosts}
use Rattle.table_rules.specs.declared.frame.Frame.{Frame}
use Rattle.table_rules.specs.declared.view.View.{View}
use Rattle.table_rules.specs.ShownWords.{block_of}
use Rattle.table_rules.specs.ShownViews.{shown_view}
use Rattle.table_rules.specs.Scenes.{shown}
use Rattle.table_rules.specs.Grown.{HasBitsOf}
use Rattle.table_rules.specs.Running.{Running}
use Rattle.table_steps.specs.Lefts.{less_one}
use Rattle.table_steps.specs.Claims.{with_step}
use Rattle.table_steps.specs.ScopeMoves.{IsMaking, MayLeaveScope, makes, leaves_scope, with_one_less}
use Rattle.table_kept.proofs.Standing.{Standing}
use Rattle.table_kept.proofs.Seats.{at_within}
use Rattle.table_kept.proofs.ViewMoves.{view-here}
use Rattle.table_kept.proofs.AsideSteps.{unmoved}
use Rattle.table_kept.proofs.Masks.{narrow-used, narrow-closed, narrow-joining, reads-used, reads-closed, reads-joining, reads-less}
use Rattle.table_kept.proofs.Stamping.{bits-counted}
use Rattle.table_scope_kept.proofs.ScopeRuns.{ToWriteScope, scope-runs}

agree-refl : (b : Bool) → agree b b ≡ true
agree-refl true = refl
agree-refl false = refl

same-refl : (w : ScopeWord) → same_word w w ≡ true
same-refl w =
    and_from _ _ (agree-refl w.used)
    (and_from _ _ (agree-refl w.closed)
    (and_from _ _ (agree-refl w.joining) (and_from _ _ (agree-refl w.joined) (eq-eqb w.count w.count refl))))

module _ {P E O : Type 0} (cargo : Ghosts P E O) (f : Frame O) (hand : Standing cargo f) where
  open hand use {state as s, id, view as v, running as r, at}

  abbrev now : State
  now = shown f s

  abbrev n : ℕ
  n = slice_index s.words 0

  abbrev old_view : PureView
  old_view = now.view id

  is-shown : old_view ≡ shown_view (block_of f.layout s.words) v
  is-shown = view-here (block_of f.layout s.words) s.views id v at

  hand_below : id < f.hands
  hand_below = let l = at_within s.views id v at in let m = r.sized.seats in omega (arith, l, m)

  -- an association is made
  pub makes-runs : IsMaking v → Running cargo f record { words = set s.words 0 (bit_or n (2 ^ 32)); homes = s.homes; views = set s.views id (with_step 0 n (bit_or n (2 ^ 32)) (makes v)) }
  makes-runs making =
      scope-runs cargo f hand (record {
        value = bit_or n (2 ^ 32);
        word = record (scope_read n) { used = true };
        reads = reads-used n;
        narrow = narrow-used n r.stamped.scope;
        bits = record { used = λ _. refl; closed = λ t. t; joining = λ t. t; joined = λ t. t };
        made = v.made + 1;
        making = v.making - 1;
        refused = v.refused;
      })
      (subst (λ (z : PureView). Sound (with_view (with_scope now (record now.scope { used = true })) id z))
      (λ k. record old_view { made = (is-shown k).made + 1; making = (is-shown k).making - 1; refused = (is-shown k).refused })
      (sound-mark_used now id r.stands.sound hand_below
      (le-leb 1 old_view.making (subst (λ (z : PureView). 1 ≤ z.making) (sym is-shown) making))))

  -- one is left
  module _ (may : MayLeaveScope v) (small : n < 18446744073709551616) where
    abbrev less : ℕ
    less = less_one n

    has-one : 1 ≤ old_view.made + old_view.refused
    has-one = subst (λ (z : PureView). 1 ≤ z.made + z.refused) (sym is-shown) may

    counted : 1 ≤ code_of n
    counted =
        let count = r.stands.sound.associations.count in
        let own = total-at (λ i. kept (now.view i) + (now.view i).refused) f.hands id hand_below in
        let one = has-one in
        omega (arith, count, own, one)

    -- the word that is left counts one less
    pub counts-less : scope_read less ≡ with_one_less (scope_read n)
    counts-less = reads-less n counted (omega (arith, small))

    narrow : less < 2 ^ 36
    narrow = let wide = r.stamped.scope in let one = counted in omega (arith, wide, one)

    abbrev word : ScopeWord
    word = record (scope_read n) { count = code_of n - 1 }

    sound-left : Sound (with_view (with_scope now word) id (left old_view))
    sound-left = sound-leave now id r.stands.sound hand_below (le-leb 1 (old_view.made + old_view.refused) has-one)

    left-runs : (made refused : ℕ) → left old_view ≡ record old_view { made = made; making = v.making; refused = refused } →
        Running cargo f record { words = set s.words 0 less; homes = s.homes; views = set s.views id (with_step 0 n less (record v { made = made; refused = refused })) }
    left-runs made refused is =
        let writing : ToWriteScope hand = record {
          value = less;
          word = word;
          reads = counts-less;
          narrow = narrow;
          bits = bits-counted (scope_read n) (code_of n - 1);
          made = made;
          making = v.making;
          refused = refused;
        } in
        scope-runs cargo f hand writing
        (subst (λ (z : PureView). Sound (with_view (with_scope now word) id z)) is sound-left)

    pub leaves-runs : Running cargo f record { words = set s.words 0 less; homes = s.homes; views = set s.views id (with_step 0 n less (leaves_scope v)) }
    leaves-runs =
        let one_refused : PureView → PureView = λ z. record z { refused = z.refused - 1 } in
        let one_made : PureView → PureView = λ z. record z { made = z.made - 1 } in
        let mine : View P E → _ = λ z. Running cargo f record { words = set s.words 0 less; homes = s.homes; views = set s.views id (with_step 0 n less z) } in
        let same : nat_le 1 old_view.refused ≡ nat_le 1 v.refused = ap (λ (z : PureView). nat_le 1 z.refused) is-shown in
        test (nat_le 1 v.refused)
        (λ t.
        subst mine (sym (cond-true (nat_le 1 v.refused) (record v { refused = v.refused - 1 }) (record v { made = v.made - 1 }) t))
        (left-runs v.made (v.refused - 1)
        (cond-true (nat_le 1 old_view.refused) (one_refused old_view) (one_made old_view) (same ∙ t)
        ∙ (λ k. record old_view { made = (is-shown k).made; making = (is-shown k).making; refused = (is-shown k).refused - 1 }))))
        (λ no.
        subst mine (sym (cond-false (nat_le 1 v.refused) (record v { refused = v.refused - 1 }) (record v { made = v.made - 1 }) no))
        (left-runs (v.made - 1) v.refused
        (cond-false (nat_le 1 old_view.refused) (one_refused old_view) (one_made old_view) (same ∙ no)
        ∙ (λ k. record old_view { made = (is-shown k).made - 1; making = (is-shown k).making; refused = (is-shown k).refused }))))

  -- the word alone changes
  word-runs : (value : ℕ) (word : ScopeWord) → scope_read value ≡ word → value < 2 ^ 36 → HasBitsOf (scope_read n) word → Sound (with_scope now word) →
      Running cargo f record { words = set s.words 0 value; homes = s.homes; views = set s.views id (with_step 0 n value v) }
  word-runs value word reads narrow bits sound =
      let writing : ToWriteScope hand = record {
        value = value;
        word = word;
        reads = reads;
        narrow = narrow;
        bits = bits;
        made = v.made;
        making = v.making;
        refused = v.refused;
      } in
      scope-runs cargo f hand writing
      (subst (λ (z : PureView). Sound (with_view (with_scope now word) id z))
      (λ k. record old_view { made = (is-shown k).made; making = (is-shown k).making; refused = (is-shown k).refused })
      (subst Sound (sym (unmoved (with_scope now word) id)) sound))

  pub closes-runs : Running cargo f record { words = set s.words 0 (bit_or n (2 ^ 33)); homes = s.homes; views = set s.views id (with_step 0 n (bit_or n (2 ^ 33)) v) }
  closes-runs =
      word-runs (bit_or n (2 ^ 33)) (record (scope_read n) { closed = true }) (reads-closed n) (narrow-closed n r.stamped.scope)
      (record { used = λ t. t; closed = λ _. refl; joining = λ t. t; joined = λ t. t }) (keeps-close now id r.stands.sound hand_below refl)

  pub joins-runs : Running cargo f record { words = set s.words 0 (bit_or n (2 ^ 34)); homes = s.homes; views = set s.views id (with_step 0 n (bit_or n (2 ^ 34)) v) }
  joins-runs =
      word-runs (bit_or n (2 ^ 34)) (record (scope_read n) { joining = true }) (reads-joining n) (narrow-joining n r.stamped.scope)
      (record { used = λ t. t; closed = λ t. t; joining = λ _. refl; joined = λ t. t }) (keeps-join now id r.stands.sound hand_below refl)

  pub seals-runs : (expected : ScopeWord) (new : ℕ) → may_seal expected ≡ true → scope_read n ≡ expected → scope_read new ≡ record expected { joined = true } →
      new < 2 ^ 36 → Running cargo f record { words = set s.words 0 new; homes = s.homes; views = set s.views id (with_step 0 n new v) }
  seals-runs expected new may is reads narrow =
      word-runs new (record expected { joined = true }) reads narrow
      (subst (λ (z : ScopeWord). HasBitsOf z (record expected { joined = true })) (sym is)
      (record { used = λ t. t; closed = λ t. t; joining = λ t. t; joined = λ _. refl }))
      (subst (λ (z : ScopeWord). Sound (with_scope now (record z { joined = true }))) is
      (sound-seal now expected r.stands.sound
      (and_from (same_word now.scope expected) (may_seal expected)
      (subst (λ z. same_word z expected ≡ true) (sym is) (same-refl expected)) may)))
