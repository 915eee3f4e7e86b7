-- The step claim.
use Rattle.std.proofs.Common.{◌≡◌, ℕ, ◌+◌, ◌-◌, ◌<◌, ◌≤◌, Bool, true, false, ◌&&◌, ◌||◌, ◌==◌, nat_lt, cond, if◌then◌else◌, refl, sym, ap, ◌∙◌, subst, arith}
use Rattle.std.proofs.lemmas.Bool.{and_parts, cond-true, cond-false, both_ways, eqb-true, eq-eqb, ltb-true, false_from_ne_true}
use Rattle.std.proofs.Math.Bool.{and-true}
use Rattle.life_rules.specs.declared.words.BlockWord.{BlockWord}
use Rattle.life_rules.specs.declared.words.BlockState.{BlockState}
use Rattle.life_rules.specs.declared.words.BlockState.TheVariants.{Free, Open, Retired}
use Rattle.life_rules.specs.declared.words.ControlWord.TheVariants.{Idle}
use Rattle.life_rules.specs.declared.words.CallbackPhase.TheVariants.{Never}
use Rattle.life_rules.specs.declared.event.Name.{Name}
use Rattle.life_rules.specs.declared.event.SourceRef.{SourceRef}
use Rattle.life_rules.specs.declared.event.SourceRef.TheVariants.{Scope, Node}
use Rattle.node_tree.specs.Tree.{is_root, is_child}
use Rattle.life_rules.specs.Words.{is_open, is_free, is_idle, is_under_way, is_armed, is_running, pending, clear}
use Rattle.life_rules.specs.Views.{View, beside, gain, is_scanning}
use Rattle.common_lemmas.specs.Sums.{one}
use Rattle.life_rules.specs.States.{State, size, is_live, control_at, bits_at, stand, with_block}
use Rattle.life_rules.specs.LifeSteps.{root_of, may_claim, after_claim}
use Rattle.life_rules.specs.Owned.{Fits, IsOwned, IsUnused, Counted}
use Rattle.life_rules.specs.Callbacks.{BeginsInOrder, ArmedLives}
use Rattle.life_rules.specs.Requests.{may_scan}
use Rattle.life_rules.specs.Sound.{Sound}
use Rattle.common_lemmas.proofs.Bool.{either, one-most}
use Rattle.common_lemmas.proofs.Totals.{total-same}
use Rattle.life_rules.proofs.Readings.{Lives, lives, is_live-from, live_unique, stand-with_view}
use Rattle.life_kept.proofs.Trees.{root-orphan}
use Rattle.life_kept.proofs.ScopeFrames.{of_scope, associations-framed, scope-framed}
use Rattle.life_rules.proofs.Names.{by_name, gain-here, gain-other}
use Rattle.life_kept.proofs.Fitting.{Fits-along}
use Rattle.life_kept.proofs.Frames.{rest, over, IsFramed, runs-framed, requests-framed, missed-framed, scans-framed}
use Rattle.life_kept.proofs.Puts.{views-same, views-each, times-same}

pub free-closed : (w : BlockState) → is_free w ≡ true → is_open w ≡ false
free-closed Free h = refl
free-closed Open h = cc
free-closed Retired h = cc

pub cond-dull : {A : Type 0} (b : Bool) (v dull : A) → v ≡ dull → cond b v dull ≡ dull
cond-dull true v dull e = e
cond-dull false v dull e = refl

-- what claim needs
pub record MayClaim (s : State) (h b : ℕ) : Type 0 where
  pub sound : Sound s
  pub below : h < s.hands
  pub within : b < s.blocks
  pub closed : is_open (s.block b).state ≡ false

module _ (s : State) (h b : ℕ) (needs : MayClaim s h b) where
  abbrev pub opened : ℕ → BlockWord
  opened i = if i == b then record (s.block b) { state = Open } else s.block i

  abbrev pub claiming : View
  claiming = record (s.view h) { starts = gain (root_of s b) (s.view h).starts }

  abbrev pub views : ℕ → View
  views i = if i == h then claiming else s.view i

  abbrev pub claimed : State
  claimed = over s opened s.control views

  pub live-other : (x : Name) → (x.block == b) ≡ false → is_live claimed x ≡ is_live s x
  live-other x apart =
      let word : opened x.block ≡ s.block x.block =
      cond-false (x.block == b) (record (s.block b) { state = Open }) (s.block x.block) apart in
      λ k. nat_lt x.block s.blocks
      && (nat_lt x.node (size s) && (is_open (word k).state && x.generation == (word k).generation))

  pub dead-before : (x : Name) → (x.block == b) ≡ true → is_live s x ≡ false
  dead-before x at =
      let block : x.block ≡ b = eqb-true x.block b at in
      false_from_ne_true (is_live s x)
      (λ live. both_ways (is_open (s.block b).state) needs.closed
      (subst (λ i. is_open (s.block i).state ≡ true) block (lives s x live).is_opened))

  -- a place of the block reads as before, since its words are as at first
  pub read-same : {A : Type 0} (f : ℕ → ℕ → A) (dull : A) → ((n : ℕ) → f b n ≡ dull) → (x : Name) →
      cond (is_live claimed x) (f x.block x.node) dull ≡ cond (is_live s x) (f x.block x.node) dull
  read-same f dull unused x =
      either (x.block == b)
      (λ at.
      let e : f x.block x.node ≡ dull =
      (λ k. f (eqb-true x.block b at k) x.node) ∙ unused x.node in
      cond-dull (is_live claimed x) (f x.block x.node) dull e ∙ sym (cond-dull (is_live s x) (f x.block x.node) dull e))
      (λ apart. λ k. cond (live-other x apart k) (f x.block x.node) dull)

  pub unused-before : (n : ℕ) → IsUnused s b n
  unused-before n = needs.sound.owned.unused b n needs.closed

  pub control-same : (x : Name) → control_at claimed x ≡ control_at s x
  control-same = read-same s.control Idle (λ n. (unused-before n).control)

  pub bits-same : (source : SourceRef) → bits_at claimed source ≡ bits_at s source
  bits-same Scope = refl
  bits-same (Node x) = read-same s.source clear (λ n. (unused-before n).source) x

  pub generation-same : (i : ℕ) → (opened i).generation ≡ (s.block i).generation
  generation-same i =
      either (i == b)
      (λ at. (λ k. (cond-true (i == b) (record (s.block b) { state = Open }) (s.block i) at k).generation)
      ∙ ap (λ j. (s.block j).generation) (sym (eqb-true i b at)))
      (λ apart. λ k. (cond-false (i == b) (record (s.block b) { state = Open }) (s.block i) apart k).generation)

  claim-framed : IsFramed s opened s.control views
  claim-framed = record {
    phase = read-same s.callback Never (λ n. (unused-before n).callback);
    bits = bits-same;
    generation = generation-same;
    views = views-same s h claiming rest refl;
  }

  pub moves : (part : View → Name → ℕ) (y : Name) →
      stand claimed part y + part (s.view h) y ≡ stand s part y + part claiming y
  moves part y = stand-with_view (with_block s b (record (s.block b) { state = Open })) h claiming part y needs.below

  pub stays : (part : View → Name → ℕ) (y : Name) → part claiming y ≡ part (s.view h) y →
      stand claimed part y ≡ stand s part y
  stays part y e = let m = moves part y in omega (arith, m, e)

  pub starts-other : (y : Name) → (root_of s b ≡ y → ⊥) → stand claimed (λ v. v.starts) y ≡ stand s (λ v. v.starts) y
  starts-other y ne = stays (λ v. v.starts) y (gain-other (root_of s b) y (s.view h).starts ne)

  pub some-node : 0 < size s
  some-node = needs.sound.tree.some

  pub root-live : is_live claimed (root_of s b) ≡ true
  root-live =
      let word : opened b ≡ record (s.block b) { state = Open } =
      cond-true (b == b) (record (s.block b) { state = Open }) (s.block b) (eq-eqb b b refl) in
      let some = some-node in
      let here : Lives claimed (root_of s b) = record {
        block = needs.within;
        node = omega (arith, some);
        is_opened = λ k. is_open (word k).state;
        generation = sym (generation-same b);
      } in
      is_live-from claimed (root_of s b) here

  -- a name of the block isn't live before, so nobody has it
  unowned-before : (y : Name) → (y.block == b) ≡ true →
      Fits (stand s (λ v. v.holds) y) (stand s (λ v. v.starts) y) (stand s (λ v. v.reports) y)
      (stand s (λ v. v.finished) y) false (is_root s.tree y.node) Idle
  unowned-before y at =
      let dead = dead-before y at in
      let word : control_at s y ≡ Idle = cond-false (is_live s y) (s.control y.block y.node) Idle dead in
      Fits-along refl refl refl refl (sym dead) refl (sym word) (needs.sound.owned.names y)

  idle-after : (y : Name) → (y.block == b) ≡ true → control_at claimed y ≡ Idle
  idle-after y at = control-same y ∙ cond-false (is_live s y) (s.control y.block y.node) Idle (dead-before y at)

  -- the root's start is owed
  root-owned : IsOwned claimed (root_of s b)
  root-owned =
      let r : Name = root_of s b in
      let at : (r.block == b) ≡ true = eq-eqb b b refl in
      let old = unowned-before r at in
      let most : stand s (λ v. v.starts) r ≤ 0 = old.start in
      let more : gain r (s.view h).starts r ≡ (s.view h).starts r + 1 = gain-here r (s.view h).starts in
      let m = moves (λ v. v.starts) r in
      let root : one (is_root s.tree r.node && true) ≤ 1 = one-most (is_root s.tree r.node && true) in
      let new : Fits (stand s (λ v. v.holds) r) (stand claimed (λ v. v.starts) r) (stand s (λ v. v.reports) r)
      (stand s (λ v. v.finished) r) true (is_root s.tree r.node) Idle =
      record {
        held = old.held;
        start = omega (arith, most, more, m);
        root_start = omega (arith, most, more, m, root);
        report = old.report;
        finish = old.finish;
      } in
      Fits-along (stays (λ v. v.holds) r refl) refl (stays (λ v. v.reports) r refl) (stays (λ v. v.finished) r refl)
      root-live refl (idle-after r at) new

  last-root : is_root s.tree (size s - 1) ≡ true
  last-root = let some = some-node in eq-eqb (size s - 1 + 1) (size s) (omega (arith, some))

  -- the root is the one name of the block that is live and of a root
  root-alone : (y : Name) → (y.block == b) ≡ true → (is_root s.tree y.node && is_live claimed y) ≡ true →
      root_of s b ≡ y
  root-alone y at rooted =
      let parts = and_parts (is_root s.tree y.node) (is_live claimed y) rooted in
      let last : y.node + 1 ≡ size s = eqb-true (y.node + 1) (size s) parts.0 in
      let some = some-node in
      live_unique claimed (root_of s b) y root-live parts.1 (sym (eqb-true y.block b at)) (omega (arith, last, some))

  claim-owned : (y : Name) → IsOwned claimed y
  claim-owned y =
      by_name (root_of s b) y
      (λ e. subst (IsOwned claimed) e root-owned)
      (λ ne. either (y.block == b)
      (λ at.
      let old = unowned-before y at in
      let starts : stand claimed (λ v. v.starts) y ≡ stand s (λ v. v.starts) y = starts-other y ne in
      let most : stand s (λ v. v.starts) y ≤ 0 = old.start in
      let alone : (is_root s.tree y.node && is_live claimed y) ≡ false =
      false_from_ne_true (is_root s.tree y.node && is_live claimed y) (λ t. ne (root-alone y at t)) in
      let none : one (is_root s.tree y.node && (is_live claimed y && true)) ≡ 0 =
      (λ k. one (is_root s.tree y.node && and-true (is_live claimed y) k)) ∙ ap one alone in
      let new : Fits (stand s (λ v. v.holds) y) (stand claimed (λ v. v.starts) y) (stand s (λ v. v.reports) y)
      (stand s (λ v. v.finished) y) (is_live claimed y) (is_root s.tree y.node) Idle =
      record {
        held = old.held;
        start = omega (arith, starts, most);
        root_start = omega (arith, none);
        report = old.report;
        finish = old.finish;
      } in
      Fits-along (stays (λ v. v.holds) y refl) refl (stays (λ v. v.reports) y refl) (stays (λ v. v.finished) y refl)
      refl refl (idle-after y at) new)
      (λ apart. Fits-along (stays (λ v. v.holds) y refl) (starts-other y ne) (stays (λ v. v.reports) y refl)
      (stays (λ v. v.finished) y refl) (live-other y apart) refl (control-same y) (needs.sound.owned.names y)))

  claim-unused : (i n : ℕ) → is_open (opened i).state ≡ false → IsUnused claimed i n
  claim-unused i n shut =
      let word = s.block b in
      either (i == b)
      (λ at. absurd (both_ways (is_open (opened i).state) shut
      (λ k. is_open (cond-true (i == b) (record word { state = Open }) (s.block i) at k).state)))
      (λ apart.
      let old = needs.sound.owned.unused i n
      ((λ k. is_open (sym (cond-false (i == b) (record word { state = Open }) (s.block i) apart) k).state) ∙ shut) in
      record { control = old.control; callback = old.callback; source = old.source })

  claim-counted : Counted claimed
  claim-counted y =
      ap pending (control-same y) ∙ needs.sound.counted y
      ∙ sym (total-same _ _ (size s) (λ n below. times-same (is_child s.tree y.node n) _ _ (λ child.
      let ne : root_of s b ≡ beside y n → ⊥ = λ e.
      let root : is_root s.tree n ≡ true = (λ k. is_root s.tree (sym e k).node) ∙ last-root in
      both_ways (is_child s.tree y.node n) (root-orphan s.tree needs.sound.tree y.node n below root) child in
      λ k. one (is_under_way (control-same (beside y n) k)) + starts-other (beside y n) ne k
      + stays (λ v. v.reports) (beside y n) refl k)))

  claim-begins : BeginsInOrder claimed
  claim-begins y idle =
      let old = needs.sound.begins y (ap is_idle (sym (control-same y)) ∙ idle) in
      record {
        callback = claim-framed.phase y ∙ old.callback;
        source = claim-framed.bits (Node y) ∙ old.source;
        children = λ n child. ap is_idle (control-same (beside y n)) ∙ old.children n child;
      }

  claim-armed : ArmedLives claimed
  claim-armed y on =
      ap is_under_way (control-same y)
      ∙ needs.sound.armed y
      ((λ k. is_armed (sym (claim-framed.phase y) k) || is_running (sym (claim-framed.phase y) k)) ∙ on)

  claim-sound : Sound claimed
  claim-sound =
      let c = s.control in
      let f = claim-framed in
      let g : (i : ℕ) → of_scope (views i) ≡ of_scope (s.view i) = λ i k. of_scope (f.views i k) in
      record {
        tree = needs.sound.tree;
        hands = needs.sound.hands;
        owned = record { names = claim-owned; unused = claim-unused };
        counted = claim-counted;
        begins = claim-begins;
        armed = claim-armed;
        runs = runs-framed s opened c views f needs.sound.runs;
        scans = scans-framed s opened c views f needs.sound.scans (λ i y below.
            views-each s h claiming
            (λ j q. is_scanning (s.view j) (Node y) ≡ true → may_scan s (s.view j) y ≤ may_scan s q y)
            (λ on. omega arith) (λ j on. omega arith) i);
        requests = requests-framed s opened c views f needs.sound.requests;
        missed = missed-framed s opened c views f needs.sound.missed;
        associations = associations-framed s opened c s.callback s.source views g needs.sound.associations;
        scope = scope-framed s opened c s.callback s.source views g needs.sound.scope;
      }

pub sound-claim : (s : State) (h b : ℕ) → Sound s → h < s.hands → may_claim s h b ≡ true →
    Sound (after_claim s h b)
sound-claim s h b sound below may =
    let parts = and_parts (nat_lt b s.blocks) (is_free (s.block b).state) may in
    claim-sound s h b (record {
      sound = sound;
      below = below;
      within = ltb-true b s.blocks parts.0;
      closed = free-closed (s.block b).state parts.1;
    })
