-- Rousing a parked node keeps what is sound: each part asks of a word only what parked and ready
-- words have alike.
use Rattle.std.specs.Prelude.{◌==◌}
use Rattle.std.proofs.Common.{◌≡◌, ℕ, ◌+◌, ◌*◌, ◌≤◌, Bool, true, false, not, ◌&&◌, ◌||◌, refl, sym, ap, ap₂, ◌∙◌, subst}
use Rattle.std.proofs.lemmas.Bool.{cond-false, and_parts, and_left, ne_eqb, both_ways, false≢true}
use Rattle.life_rules.specs.declared.words.ControlWord.{ControlWord}
use Rattle.life_rules.specs.declared.words.ControlWord.TheVariants.{Idle, Busy, ReadyLoop, ReadyPool, Parked, Done}
use Rattle.life_rules.specs.declared.event.Name.{Name}
use Rattle.life_rules.specs.declared.event.Place.{Place}
use Rattle.node_tree.specs.Tree.{is_child}
use Rattle.life_rules.specs.Words.{is_open, is_idle, is_held, is_done, is_parked, is_under_way, pending}
use Rattle.life_rules.specs.Views.{same, beside}
use Rattle.common_lemmas.specs.Sums.{one}
use Rattle.life_rules.specs.States.{State, size, is_live, is_place, name_at, control_at, stand}
use Rattle.life_rules.specs.ScopeSteps.{may_rouse, after_rouse}
use Rattle.life_rules.specs.Owned.{Fits, weight, owed_below}
use Rattle.life_rules.specs.Sound.{Sound}
use Rattle.common_lemmas.proofs.Bool.{either}
use Rattle.life_rules.proofs.Names.{same-refl, same-true}
use Rattle.common_lemmas.proofs.Totals.{total-same}
use Rattle.life_rules.proofs.Readings.{lives, read-here, read-other}
use Rattle.life_rules.proofs.ScanOrder.{is_next_of_nearest-frame}

-- what the parts of `Sound` ask of a control word
record Alike (v w : ControlWord) : Type 0 where
  idle : is_idle v ≡ is_idle w
  held : is_held v ≡ is_held w
  done : is_done v ≡ is_done w
  children : pending v ≡ pending w

alike-refl : (v : ControlWord) → Alike v v
alike-refl v = record { idle = refl; held = refl; done = refl; children = refl }

parked-is : (w : ControlWord) → is_parked w ≡ true → w ≡ Parked
parked-is Idle h = absurd (false≢true h)
parked-is (Busy n) h = absurd (false≢true h)
parked-is ReadyLoop h = absurd (false≢true h)
parked-is ReadyPool h = absurd (false≢true h)
parked-is Parked h = refl
parked-is Done h = absurd (false≢true h)

under_way-alike : (v w : ControlWord) → Alike v w → is_under_way v ≡ is_under_way w
under_way-alike v w a = ap₂ (λ i d. not (i || d)) a.idle a.done

fits-alike : (a b c d : ℕ) (live root : Bool) (v w : ControlWord) → Alike v w →
    Fits a b c d live root w → Fits a b c d live root v
fits-alike a b c d live root v w e f =
    record {
      held = f.held ∙ ap one (sym e.held);
      start = subst (λ i. b ≤ one (live && i)) (sym e.idle) f.start;
      root_start = subst (λ i. one (root && (live && i)) ≤ b) (sym e.idle) f.root_start;
      report = subst (λ i. c ≤ one (i && not root)) (sym e.done) f.report;
      finish = subst (λ i. d ≡ one (i && root)) (sym e.done) f.finish;
    }

module _ (s : State) (h : ℕ) (p : Place) (sound : Sound s) (needs : may_rouse s h p ≡ true) where
  abbrev t : State
  t = after_rouse s h p

  abbrev x : Name
  x = name_at s p

  was_parked : control_at s x ≡ Parked
  was_parked =
      let parts = and_parts (is_place s p) _ needs in
      parked-is _ (and_parts (is_parked (control_at s x)) _ parts.1).0

  live : is_live s x ≡ true
  live =
      either (is_live s x) (λ alive. alive)
      (λ dead.
      let idle : control_at s x ≡ Idle = cond-false _ _ _ dead in
      let no : Idle ≡ Parked = sym idle ∙ was_parked in
      absurd cc)

  at_x : Alike (control_at t x) (control_at s x)
  at_x =
      let now : control_at t x ≡ ReadyLoop = read-here s s.control Idle ReadyLoop x live in
      let words : Alike ReadyLoop Parked =
      record { idle = refl; held = refl; done = refl; children = refl } in
      subst (λ w. Alike (control_at t x) w) (sym was_parked) (subst (λ w. Alike w Parked) (sym now) words)

  alike : (y : Name) → Alike (control_at t y) (control_at s y)
  alike y =
      either (same x y)
      (λ here. subst (λ z. Alike (control_at t z) (control_at s z)) (same-true x y here) at_x)
      (λ there.
      let other : y ≡ x → ⊥ = λ e. both_ways _ there (subst (λ z. same x z ≡ true) (sym e) (same-refl x)) in
      let e : control_at t y ≡ control_at s y = read-other s s.control Idle ReadyLoop x y live other in
      subst (λ w. Alike w (control_at s y)) (sym e) (alike-refl (control_at s y)))

  weight-alike : (y : Name) → weight t y ≡ weight s y
  weight-alike y =
      ap (λ b. one b + stand s (λ v. v.starts) y + stand s (λ v. v.reports) y)
      (under_way-alike _ _ (alike y))

  owed_below-alike : (y : Name) → owed_below t y ≡ owed_below s y
  owed_below-alike y =
      total-same _ _ (size s) (λ n _. ap (λ w. one (is_child s.tree y.node n) * w) (weight-alike (beside y n)))

  pub sound-rouse : Sound (after_rouse s h p)
  sound-rouse =
      record {
        tree = sound.tree;
        hands = sound.hands;
        missed = sound.missed;
        owned = record {
          names = λ y. fits-alike _ _ _ _ _ _ _ _ (alike y) (sound.owned.names y);
          unused = λ b n shut.
              let u = sound.owned.unused b n shut in
              let apart : (b == p.block && n == p.node) ≡ false =
              and_left _ _ (ne_eqb b p.block (λ e.
              both_ways _ shut (subst (λ i. is_open (s.block i).state ≡ true) (sym e) (lives s x live).is_opened))) in
              record { control = cond-false _ _ _ apart ∙ u.control; callback = u.callback; source = u.source };
        };
        counted = λ y. (alike y).children ∙ sound.counted y ∙ sym (owed_below-alike y);
        begins = λ y idle.
            let f = sound.begins y (sym (alike y).idle ∙ idle) in
            record { callback = f.callback; source = f.source; children = λ n c. (alike (beside y n)).idle ∙ f.children n c };
        armed = λ y a. under_way-alike _ _ (alike y) ∙ sound.armed y a;
        runs = record {
          runs = sound.runs.runs;
          next = λ i y l r.
              is_next_of_nearest-frame s t refl (λ _. refl) (s.view i) (s.view i) y (λ _. refl) ∙ sound.runs.next i y l r;
          cause = sound.runs.cause;
        };
        scans = record {
          single = sound.scans.single;
          cause = λ i source l scans. let c = sound.scans.cause i source l scans in
              record { requested = c.requested; unscanned = c.unscanned };
          within = sound.scans.within;
          sealed = sound.scans.sealed;
        };
        requests = record { cause = sound.requests.cause; seen = sound.requests.seen; noted = sound.requests.noted };
        associations = record {
          count = sound.associations.count;
          joined = sound.associations.joined;
          single = sound.associations.single;
          most = sound.associations.most;
        };
        scope = record { by_hand_0 = sound.scope.by_hand_0; scan = sound.scope.scan };
      }
