-- A claim moves the pure state.
use Rattle.std.proofs.Common.{◌≡◌, ℕ, ◌+◌, ◌-◌, ◌<◌, ◌≤◌, true, false, ◌==◌, refl, sym, ◌∙◌, arith}
use Rattle.std.specs.Option.{option_map_or}
use Rattle.std.proofs.lemmas.Bool.{cond-false, both_ways, eq-eqb}
use Rattle.life_rules.specs.declared.words.ControlWord.TheVariants.{Idle}
use Rattle.life_rules.specs.declared.words.CallbackPhase.TheVariants.{Never}
use Rattle.life_rules.specs.declared.event.Name.{Name}
use Rattle.life_rules.specs.declared.event.SourceRef.{SourceRef}
use Rattle.node_tree.specs.Tree.{is_root, is_child}
use Rattle.life_rules.specs.Words.{is_open, is_free}
use Rattle.life_rules.specs.Views.{View, beside, gain}
use Rattle.life_rules.specs.States.{State, size, is_live, control_at, phase_at, bits_at, nearest_of, stand}
use Rattle.life_rules.specs.LifeSteps.{root_of, after_claim}
use Rattle.life_rules.specs.Owned.{Fits}
use Rattle.life_rules.specs.Callbacks.{nearest_is_requested}
use Rattle.life_rules.specs.Sound.{Sound}
use Rattle.life_kept.proofs.Claim as claim
use Rattle.life_kept.proofs.Claim.{free-closed}
use Rattle.life_kept.proofs.Trees.{root-orphan}
use Rattle.life_rules.proofs.Names.{gain-here}
use Rattle.life_kept.proofs.Fitting.{Fits-along}

-- what a claim by the hand h of the block b needs
pub record MayClaim (s : State) (h b : ℕ) : Type 0 where
  pub sound : Sound s
  pub below : h < s.hands
  pub within : b < s.blocks
  pub free : is_free (s.block b).state ≡ true

module _ (s : State) (h b : ℕ) (may : MayClaim s h b) where
  abbrev pub later : State
  later = after_claim s h b

  abbrev pub root : Name
  root = root_of s b

  pub closed : is_open (s.block b).state ≡ false
  closed = free-closed (s.block b).state may.free

  needs : claim.MayClaim s h b
  needs = record { sound = may.sound; below = may.below; within = may.within; closed = closed }

  pub live-other : (x : Name) → (x.block == b) ≡ false → is_live later x ≡ is_live s x
  live-other = claim.live-other s h b needs

  pub dead-before : (x : Name) → (x.block == b) ≡ true → is_live s x ≡ false
  dead-before = claim.dead-before s h b needs

  pub control-same : (x : Name) → control_at later x ≡ control_at s x
  control-same = claim.control-same s h b needs

  pub phase-same : (x : Name) → phase_at later x ≡ phase_at s x
  phase-same = claim.read-same s h b needs s.callback Never (λ n. (claim.unused-before s h b needs n).callback)

  pub bits-same : (source : SourceRef) → bits_at later source ≡ bits_at s source
  bits-same = claim.bits-same s h b needs

  pub nearest-same : (x : Name) → nearest_is_requested later x ≡ nearest_is_requested s x
  nearest-same x = λ k. option_map_or (λ source. (bits-same source k).requested) (nearest_of s x) false

  moves : (part : View → Name → ℕ) (y : Name) →
      stand later part y + part (s.view h) y
      ≡ stand s part y + part (record (s.view h) { starts = gain root (s.view h).starts }) y
  moves = claim.moves s h b needs

  pub holds-same : (y : Name) → stand later (λ v. v.holds) y ≡ stand s (λ v. v.holds) y
  holds-same y = claim.stays s h b needs (λ v. v.holds) y refl

  pub reports-same : (y : Name) → stand later (λ v. v.reports) y ≡ stand s (λ v. v.reports) y
  reports-same y = claim.stays s h b needs (λ v. v.reports) y refl

  pub finished-same : (y : Name) → stand later (λ v. v.finished) y ≡ stand s (λ v. v.finished) y
  finished-same y = claim.stays s h b needs (λ v. v.finished) y refl

  pub starts-other : (y : Name) → (root ≡ y → ⊥) → stand later (λ v. v.starts) y ≡ stand s (λ v. v.starts) y
  starts-other = claim.starts-other s h b needs

  pub root-owed : 1 ≤ stand later (λ v. v.starts) root
  root-owed =
      let m = moves (λ v. v.starts) root in
      let g = gain-here root (s.view h).starts in omega (arith, m, g)

  -- a name of the block isn't live before, so nobody has it
  pub unowned-before : (y : Name) → (y.block == b) ≡ true →
      Fits (stand s (λ v. v.holds) y) (stand s (λ v. v.starts) y) (stand s (λ v. v.reports) y)
      (stand s (λ v. v.finished) y) false (is_root s.tree y.node) Idle
  unowned-before y at =
      let dead = dead-before y at in
      let word : control_at s y ≡ Idle = cond-false (is_live s y) (s.control y.block y.node) Idle dead in
      Fits-along refl refl refl refl (sym dead) refl (sym word) (may.sound.owned.names y)

  pub root-live : is_live later root ≡ true
  root-live = claim.root-live s h b needs

  pub last-root : is_root s.tree (size s - 1) ≡ true
  last-root = let some = may.sound.tree.some in eq-eqb (size s - 1 + 1) (size s) (omega (arith, some))

  pub root-no_child : (x : Name) (n : ℕ) → n < size s → is_child s.tree x.node n ≡ true → root ≡ beside x n → ⊥
  root-no_child x n below child e =
      both_ways (is_child s.tree x.node n)
      (root-orphan s.tree may.sound.tree x.node n below ((λ k. is_root s.tree (sym e k).node) ∙ last-root)) child

  pub root-apart : (x : Name) → (x.block == b) ≡ false → root ≡ x → ⊥
  root-apart x apart e = both_ways (x.block == b) apart (eq-eqb x.block b (λ k. (sym e k).block))
