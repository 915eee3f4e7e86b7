-- What a step of the scope leaves alone: all parts of `Sound` but the one on associations.
use Rattle.std.specs.Prelude.{◌==◌}
use Rattle.std.proofs.Common.{◌≡◌, ℕ, ◌<◌, false, refl, sym, ap, ◌∙◌, subst}
use Rattle.std.proofs.lemmas.Bool.{cond-true, cond-false, eqb-true}
use Rattle.life_rules.specs.declared.scope.ScopeWord.{ScopeWord}
use Rattle.life_rules.specs.declared.event.Name.{Name}
use Rattle.node_tree.specs.Tree.{IsTree}
use Rattle.life_rules.specs.Views.{View}
use Rattle.life_rules.specs.States.{State, with_view, with_scope}
use Rattle.life_rules.specs.Owned.{Owned, Counted}
use Rattle.life_rules.specs.Callbacks.{BeginsInOrder, ArmedLives, RunsAreScanned, is_next_of_nearest}
use Rattle.life_rules.specs.Requests.{ScansStand, RequestsFollow, NothingMissed}
use Rattle.life_rules.specs.Associations.{Associations, ScopeRequested}
use Rattle.life_rules.specs.Sound.{Sound}
use Rattle.common_lemmas.proofs.Bool.{either}
use Rattle.life_rules.proofs.ScanOrder.{is_next_of_nearest-frame}

-- all of `Sound` but the part on associations
pub record OtherParts (s : State) : Type 0 where
  pub tree : IsTree s.tree
  pub hands : 0 < s.hands
  pub owned : Owned s
  pub counted : Counted s
  pub begins : BeginsInOrder s
  pub armed : ArmedLives s
  pub runs : RunsAreScanned s
  pub scans : ScansStand s
  pub requests : RequestsFollow s
  pub missed : NothingMissed s
  pub scope : ScopeRequested s

-- the view without its associations
abbrev pub bare : View → View
bare v = record v { made = 0; making = 0; refused = 0 }

-- the state without the scope's word and all associations
abbrev pub aside : State → State
aside s =
    record s {
      scope = record { used = false; closed = false; joining = false; joined = false; count = 0 };
      view = λ i. bare (s.view i);
    }

next_of_nearest-aside : (s : State) (v : View) (x : Name) →
    is_next_of_nearest (aside s) (bare v) x ≡ is_next_of_nearest s v x
next_of_nearest-aside s v x =
    is_next_of_nearest-frame s (aside s) refl (λ _. refl) v (bare v) x (λ _. refl)

to_aside : (s : State) → OtherParts s → OtherParts (aside s)
to_aside s p =
    record {
      tree = p.tree;
      hands = p.hands;
      counted = p.counted;
      armed = p.armed;
      missed = p.missed;
      owned = record {
        names = p.owned.names;
        unused = λ b n shut. let u = p.owned.unused b n shut in
            record { control = u.control; callback = u.callback; source = u.source };
      };
      begins = λ x idle. let f = p.begins x idle in
          record { callback = f.callback; source = f.source; children = f.children };
      runs = record {
        runs = p.runs.runs;
        next = λ h x l r. next_of_nearest-aside s (s.view h) x ∙ p.runs.next h x l r;
        cause = p.runs.cause;
      };
      scans = record {
        single = p.scans.single;
        cause = λ h source l scans. let c = p.scans.cause h source l scans in
            record { requested = c.requested; unscanned = c.unscanned };
        within = p.scans.within;
        sealed = p.scans.sealed;
      };
      requests = record { cause = p.requests.cause; seen = p.requests.seen; noted = p.requests.noted };
      scope = record { by_hand_0 = p.scope.by_hand_0; scan = p.scope.scan };
    }

from_aside : (s : State) → OtherParts (aside s) → OtherParts s
from_aside s p =
    record {
      tree = p.tree;
      hands = p.hands;
      counted = p.counted;
      armed = p.armed;
      missed = p.missed;
      owned = record {
        names = p.owned.names;
        unused = λ b n shut. let u = p.owned.unused b n shut in
            record { control = u.control; callback = u.callback; source = u.source };
      };
      begins = λ x idle. let f = p.begins x idle in
          record { callback = f.callback; source = f.source; children = f.children };
      runs = record {
        runs = p.runs.runs;
        next = λ h x l r. sym (next_of_nearest-aside s (s.view h) x) ∙ p.runs.next h x l r;
        cause = p.runs.cause;
      };
      scans = record {
        single = p.scans.single;
        cause = λ h source l scans. let c = p.scans.cause h source l scans in
            record { requested = c.requested; unscanned = c.unscanned };
        within = p.scans.within;
        sealed = p.scans.sealed;
      };
      requests = record { cause = p.requests.cause; seen = p.requests.seen; noted = p.requests.noted };
      scope = record { by_hand_0 = p.scope.by_hand_0; scan = p.scope.scan };
    }

pub other_parts : (s : State) → Sound s → OtherParts s
other_parts s p =
    record {
      tree = p.tree;
      hands = p.hands;
      owned = p.owned;
      counted = p.counted;
      begins = p.begins;
      armed = p.armed;
      runs = p.runs;
      scans = p.scans;
      requests = p.requests;
      missed = p.missed;
      scope = p.scope;
    }

pub sound_from : (s : State) → OtherParts s → Associations s → Sound s
sound_from s p a =
    record {
      tree = p.tree;
      hands = p.hands;
      owned = p.owned;
      counted = p.counted;
      begins = p.begins;
      armed = p.armed;
      runs = p.runs;
      scans = p.scans;
      requests = p.requests;
      missed = p.missed;
      associations = a;
      scope = p.scope;
    }

-- where only the scope's word and one view's associations changed, the other parts are kept
pub others-kept : (s : State) (h : ℕ) (v : View) (w : ScopeWord) → bare v ≡ bare (s.view h) →
    OtherParts s → OtherParts (with_view (with_scope s w) h v)
others-kept s h v w same p =
    let t : State = with_view (with_scope s w) h v in
    let views : (i : ℕ) → bare (t.view i) ≡ bare (s.view i) =
    λ i. either (i == h)
    (λ here.
    ap bare (cond-true (i == h) v (s.view i) here) ∙ same
    ∙ ap (λ j. bare (s.view j)) (sym (eqb-true i h here)))
    (λ there. ap bare (cond-false (i == h) v (s.view i) there)) in
    let e : aside t ≡ aside s = λ k. record (aside s) { view = λ i. views i k } in
    from_aside t (subst OtherParts (sym e) (to_aside s p))

-- and so they are where the scope's word alone changed
pub word-kept : (s : State) (w : ScopeWord) → OtherParts s → OtherParts (with_scope s w)
word-kept s w p = from_aside (with_scope s w) (to_aside s p)
