-- The pure state at a begin: the node's word becomes held, and the hand holds it.
use Rattle.std.proofs.Common.{◌≡◌, ℕ, ◌+◌, ◌<◌, ◌≤◌, true, false, ◌&&◌, refl, ap, ◌∙◌, arith}
use Rattle.life_rules.specs.declared.words.ControlWord.TheVariants.{Idle, Busy}
use Rattle.life_rules.specs.declared.event.Name.{Name}
use Rattle.node_tree.specs.Tree.{is_root, is_child}
use Rattle.life_rules.specs.Words.{is_idle, is_done, is_held, pending}
use Rattle.life_rules.specs.Views.{View, beside, gain, lose}
use Rattle.common_lemmas.specs.Sums.{one}
use Rattle.life_rules.specs.States.{State, is_live, control_at, stand}
use Rattle.life_rules.specs.Sound.{Sound}
use Rattle.life_rules.proofs.Readings.{lives, is_live-from, stand-at}
use Rattle.life_kept.proofs.Trees.{child-within}
use Rattle.life_rules.proofs.Names.{gain-here, gain-other, lose-here, lose-other}
use Rattle.life_kept.proofs.Puts.{put, IsPut, reads-here, reads-other, moves}
use Rattle.life_kept.proofs.Holding.{owed-start, weight-most}
use Rattle.table_rules.specs.Scenes.{Home, Out, Empty, Full, is_out, is_full}

pub empty-from : {P : Type 0} (h : Home P) → is_out h ≡ false → is_full h ≡ false → h ≡ Empty
empty-from Out o f = cc
empty-from Empty o f = refl
empty-from (Full item) o f = cc

abbrev pub beginning : Name → View → View
beginning x v = record v { starts = lose x v.starts; holds = gain x v.holds }

-- what a begin needs of the pure state
pub record MayBegin (s : State) (h : ℕ) (x : Name) : Type 0 where
  pub sound : Sound s
  pub below : h < s.hands
  pub owes : 1 ≤ (s.view h).starts x

module _ (s : State) (h : ℕ) (x : Name) (may : MayBegin s h x) where
  abbrev pub held_state : State
  held_state = put s h x (Busy 0) (beginning x (s.view h))

  pub x-live : is_live s x ≡ true
  x-live = (owed-start s h x may.sound may.below may.owes).live

  pub x-idle : control_at s x ≡ Idle
  x-idle = (owed-start s h x may.sound may.below may.owes).word

  pub is-put : IsPut s h x (Busy 0) (beginning x (s.view h))
  is-put = record { sound = may.sound; hand = may.below; live = x-live; views = refl }

  pub word-here : control_at held_state x ≡ Busy 0
  word-here = reads-here s h x (Busy 0) (beginning x (s.view h)) is-put

  pub word-other : (y : Name) → (x ≡ y → ⊥) → control_at held_state y ≡ control_at s y
  word-other = reads-other s h x (Busy 0) (beginning x (s.view h)) is-put

  pub move : (part : View → Name → ℕ) (y : Name) →
      stand held_state part y + part (s.view h) y ≡ stand s part y + part (beginning x (s.view h)) y
  move = moves s h x (Busy 0) (beginning x (s.view h)) is-put

  pub reports-same : (y : Name) → stand held_state (λ v. v.reports) y ≡ stand s (λ v. v.reports) y
  reports-same y = let m = move (λ v. v.reports) y in omega (arith, m)

  pub finished-same : (y : Name) → stand held_state (λ v. v.finished) y ≡ stand s (λ v. v.finished) y
  finished-same y = let m = move (λ v. v.finished) y in omega (arith, m)

  pub holds-other : (y : Name) → (x ≡ y → ⊥) → stand held_state (λ v. v.holds) y ≡ stand s (λ v. v.holds) y
  holds-other y ne =
      let m = move (λ v. v.holds) y in
      let g = gain-other x y (s.view h).holds ne in omega (arith, m, g)

  pub holds-here : stand held_state (λ v. v.holds) x ≡ stand s (λ v. v.holds) x + 1
  holds-here =
      let m = move (λ v. v.holds) x in
      let g = gain-here x (s.view h).holds in omega (arith, m, g)

  pub starts-other : (y : Name) → (x ≡ y → ⊥) → stand held_state (λ v. v.starts) y ≡ stand s (λ v. v.starts) y
  starts-other y ne =
      let m = move (λ v. v.starts) y in
      let g = lose-other x y (s.view h).starts ne in omega (arith, m, g)

  -- the start that was owed is owed no more
  pub starts-here : stand held_state (λ v. v.starts) x + 1 ≡ stand s (λ v. v.starts) x
  starts-here =
      let m = move (λ v. v.starts) x in
      let g = lose-here x (s.view h).starts in
      let all = stand-at s (λ v. v.starts) h x may.below in
      let owes = may.owes in omega (arith, m, g, all, owes)

  -- no child of the node has begun, and nobody has one
  pub kid-idle : (n : ℕ) → is_child s.tree x.node n ≡ true → is_idle (control_at s (beside x n)) ≡ true
  kid-idle n child = (may.sound.begins x (ap is_idle x-idle)).children n child

  pub kid-weightless : (n : ℕ) → is_child s.tree x.node n ≡ true → stand s (λ v. v.starts) (beside x n) ≡ 0
  kid-weightless n child =
      let most = weight-most s x n may.sound (child-within s.tree x.node n child) child in
      let none : pending (control_at s x) ≡ 0 = ap pending x-idle in omega (arith, most, none)

  pub kid-live : (n : ℕ) → is_child s.tree x.node n ≡ true → is_live s (beside x n) ≡ true
  kid-live n child =
      let l = lives s x x-live in
      is_live-from s (beside x n) (record {
        block = l.block;
        node = child-within s.tree x.node n child;
        is_opened = l.is_opened;
        generation = l.generation;
      })

  pub unheld : (y : Name) → is_idle (control_at s y) ≡ true → stand s (λ v. v.holds) y ≡ 0
  unheld y idle =
      let word = Rattle.life_kept.proofs.Fitting.idle-word (control_at s y) idle in
      (may.sound.owned.names y).held ∙ ap (λ w. one (is_held w)) word

  pub unfinished : (y : Name) → is_idle (control_at s y) ≡ true → stand s (λ v. v.finished) y ≡ 0
  unfinished y idle =
      let word = Rattle.life_kept.proofs.Fitting.idle-word (control_at s y) idle in
      (may.sound.owned.names y).finish ∙ ap (λ w. one (is_done w && is_root s.tree y.node)) word
