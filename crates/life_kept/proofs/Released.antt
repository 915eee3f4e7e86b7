-- What reads after a release: the block's places as at first, all others as before.
use Rattle.std.proofs.Common.{◌≡◌, ℕ, ◌+◌, ◌-◌, ◌/◌, ◌%◌, Bool, true, false, ◌&&◌, ◌==◌, nat_lt, nat_le, cond, if◌then◌else◌, Some, refl, sym, ◌∙◌, subst}
use Rattle.std.specs.Option.{option_map_or}
use Rattle.std.proofs.lemmas.Bool.{cond-true, cond-false, both_ways, eqb-true, false_from_ne_true, and_left}
use Rattle.life_rules.specs.declared.words.BlockWord.{BlockWord}
use Rattle.life_rules.specs.declared.words.BlockState.TheVariants.{Free, Retired}
use Rattle.life_rules.specs.declared.words.ControlWord.TheVariants.{Idle}
use Rattle.life_rules.specs.declared.words.CallbackPhase.TheVariants.{Never}
use Rattle.life_rules.specs.declared.event.Name.{Name}
use Rattle.life_rules.specs.declared.event.SourceRef.{SourceRef}
use Rattle.life_rules.specs.declared.event.SourceRef.TheVariants.{Scope, Node}
use Rattle.node_tree.specs.Tree.{Nearest, TheScope, TheNode, Nowhere, nearest}
use Rattle.life_rules.specs.Words.{is_open, clear}
use Rattle.life_rules.specs.Views.{View, beside, lose, forget, is_in_block, same, same_source}
use Rattle.life_rules.specs.States.{State, size, is_live, control_at, phase_at, bits_at, source_for, stand}
use Rattle.life_rules.specs.Scans.{is_nearest, place_at, index, is_next, is_next_in}
use Rattle.life_rules.specs.LifeSteps.{root_of, last_generation, after_release}
use Rattle.life_rules.specs.Callbacks.{is_next_of_nearest, nearest_is_requested}
use Rattle.common_lemmas.proofs.Bool.{either}
use Rattle.common_lemmas.proofs.Totals.{total-same}
use Rattle.life_rules.proofs.Readings.{lives}
use Rattle.life_rules.proofs.ScanOrder.{has_none-frame}
use Rattle.life_kept.proofs.Puts.{views-same}

-- the view but for the finished roots that it holds
abbrev pub unfinished : View → View
unfinished v = record v { finished = λ _. 0 }

-- where a test fails of all sources of block b, it need be the same only of sources of other blocks
by_source : (b : ℕ) (test other : SourceRef → Bool) (x : Name) (near : Nearest) → (x.block == b) ≡ false →
    ((source : SourceRef) → is_in_block b source ≡ false → test source ≡ other source) →
    option_map_or test (source_for x near) false ≡ option_map_or other (source_for x near) false
by_source b test other x TheScope apart same = same Scope refl
by_source b test other x (TheNode p) apart same = same (Node (beside x p)) apart
by_source b test other x Nowhere apart same = refl

-- the nearest source of a place of another block is of no place of block b
pub source-apart : (b : ℕ) (x : Name) (near : Nearest) (source : SourceRef) → source_for x near ≡ Some source →
    (x.block == b) ≡ false → is_in_block b source ≡ false
source-apart b x TheScope source is apart =
    let e : Scope ≡ source = cc in subst (λ t. is_in_block b t ≡ false) e refl
source-apart b x (TheNode p) source is apart =
    let e : Node (beside x p) ≡ source = cc in subst (λ t. is_in_block b t ≡ false) e apart
source-apart b x Nowhere source is apart = cc

other-block : (b : ℕ) (q x : Name) → (q.block == b) ≡ false → (x.block == b) ≡ true → same q x ≡ false
other-block b q x apart at =
    and_left (q.block == x.block) (q.generation == x.generation && q.node == x.node)
    ((λ k. q.block == eqb-true x.block b at k) ∙ apart)

-- a source that isn't of block b is the source of a place of b whatever the place's generation is
is_nearest-gone : (b : ℕ) (source : SourceRef) (x y : Name) (near : Nearest) → is_in_block b source ≡ false →
    (x.block == b) ≡ true → (y.block == b) ≡ true →
    option_map_or (same_source source) (source_for x near) false
    ≡ option_map_or (same_source source) (source_for y near) false
is_nearest-gone b Scope x y TheScope apart at_x at_y = refl
is_nearest-gone b Scope x y (TheNode p) apart at_x at_y = refl
is_nearest-gone b Scope x y Nowhere apart at_x at_y = refl
is_nearest-gone b (Node q) x y TheScope apart at_x at_y = refl
is_nearest-gone b (Node q) x y (TheNode p) apart at_x at_y =
    other-block b q (beside x p) apart at_x ∙ sym (other-block b q (beside y p) apart at_y)
is_nearest-gone b (Node q) x y Nowhere apart at_x at_y = refl

module _ (s : State) (h b : ℕ) where
  abbrev pub released : State
  released = after_release s h b

  -- the block's word at the next generation
  abbrev given_back : BlockWord
  given_back =
      let g = (s.block b).generation in
      if g == last_generation
      then record { generation = g; state = Retired }
      else record { generation = g + 1; state = Free }

  block-other : (i : ℕ) → (i == b) ≡ false → released.block i ≡ s.block i
  block-other i apart = cond-false (i == b) given_back (s.block i) apart

  given_back-closed : is_open given_back.state ≡ false
  given_back-closed =
      let g = (s.block b).generation in
      let last : BlockWord = record { generation = g; state = Retired } in
      let next : BlockWord = record { generation = g + 1; state = Free } in
      either (g == last_generation)
      (λ t. λ k. is_open (cond-true (g == last_generation) last next t k).state)
      (λ f. λ k. is_open (cond-false (g == last_generation) last next f k).state)

  pub block-closed : (i : ℕ) → (i == b) ≡ true → is_open (released.block i).state ≡ false
  block-closed i at =
      (λ k. is_open (cond-true (i == b) given_back (s.block i) at k).state)
      ∙ given_back-closed

  pub still-closed : (i : ℕ) → (i == b) ≡ false → is_open (released.block i).state ≡ false →
      is_open (s.block i).state ≡ false
  still-closed i apart shut = (λ k. is_open (sym (block-other i apart) k).state) ∙ shut

  pub live-other : (x : Name) → (x.block == b) ≡ false → is_live released x ≡ is_live s x
  live-other x apart =
      let word = block-other x.block apart in
      λ k. nat_lt x.block s.blocks
      && (nat_lt x.node (size s) && (is_open (word k).state && x.generation == (word k).generation))

  pub dead-after : (x : Name) → (x.block == b) ≡ true → is_live released x ≡ false
  dead-after x at =
      false_from_ne_true (is_live released x)
      (λ live. both_ways (is_open (released.block x.block).state) (block-closed x.block at) (lives released x live).is_opened)

  -- a place of another block reads as before, one of the block as at first
  read-other : {A : Type 0} (f : ℕ → ℕ → A) (dull : A) (x : Name) → (x.block == b) ≡ false →
      cond (is_live released x) (if x.block == b then dull else f x.block x.node) dull
      ≡ cond (is_live s x) (f x.block x.node) dull
  read-other f dull x apart =
      λ k. cond (live-other x apart k) (cond-false (x.block == b) dull (f x.block x.node) apart k) dull

  pub control-other : (x : Name) → (x.block == b) ≡ false → control_at released x ≡ control_at s x
  control-other = read-other s.control Idle

  pub control-gone : (x : Name) → (x.block == b) ≡ true → control_at released x ≡ Idle
  control-gone x at = cond-false (is_live released x) (released.control x.block x.node) Idle (dead-after x at)

  pub phase-other : (x : Name) → (x.block == b) ≡ false → phase_at released x ≡ phase_at s x
  phase-other = read-other s.callback Never

  pub phase-gone : (x : Name) → (x.block == b) ≡ true → phase_at released x ≡ Never
  phase-gone x at = cond-false (is_live released x) (released.callback x.block x.node) Never (dead-after x at)

  pub bits-other : (source : SourceRef) → is_in_block b source ≡ false → bits_at released source ≡ bits_at s source
  bits-other Scope apart = refl
  bits-other (Node x) apart = read-other s.source clear x apart

  pub bits-gone : (source : SourceRef) → is_in_block b source ≡ true → bits_at released source ≡ clear
  bits-gone Scope at = cc
  bits-gone (Node x) at = cond-false (is_live released x) (released.source x.block x.node) clear (dead-after x at)

  -- the views are as before, but for the finished root and what is forgotten
  pub views-kept : (i : ℕ) → unfinished (released.view i) ≡ forget b (unfinished (s.view i))
  views-kept i =
      let w : View = record (s.view h) { finished = lose (root_of s b) (s.view h).finished } in
      λ k. forget b (views-same s h w unfinished refl i k)

  pub stand-kept : (part : View → Name → ℕ) (x : Name) →
      ((v u : View) → unfinished v ≡ forget b (unfinished u) → part v x ≡ part u x) →
      stand released part x ≡ stand s part x
  stand-kept part x same =
      total-same _ _ s.hands (λ i below. same (released.view i) (s.view i) (views-kept i))

  -- the order of a scan of a source that isn't of the block
  place-other : (source : SourceRef) → is_in_block b source ≡ false → (j : ℕ) →
      is_nearest s source (place_at released j) ≡ is_nearest s source (place_at s j)
  place-other source apart j =
      let i : ℕ = j / size s in
      either (i == b)
      (λ at. is_nearest-gone b source (place_at released j) (place_at s j) (nearest s.tree (j % size s)) apart at at)
      (λ away. λ k. is_nearest s source (record {
        block = i;
        generation = (block-other i away k).generation;
        node = j % size s;
      }))

  next-other : (source : SourceRef) (i : ℕ) (x : Name) → is_in_block b source ≡ false →
      is_next released source i x ≡ is_next s source i x
  next-other source i x apart =
      let none = has_none-frame s released source i (index s x - i) (place-other source apart) in
      λ k. is_nearest s source x && (nat_le i (index s x) && none k)

  next_in-other : (hand : ℕ) (source : SourceRef) (x : Name) → is_in_block b source ≡ false →
      is_next_in released (released.view hand) source x ≡ is_next_in s (s.view hand) source x
  next_in-other hand source x apart =
      λ k. option_map_or (λ i. next-other source i x apart k) ((views-kept hand k).scan source) false

  pub next_of-other : (hand : ℕ) (x : Name) → (x.block == b) ≡ false →
      is_next_of_nearest released (released.view hand) x ≡ is_next_of_nearest s (s.view hand) x
  next_of-other hand x apart =
      by_source b (λ source. is_next_in released (released.view hand) source x)
      (λ source. is_next_in s (s.view hand) source x) x (nearest s.tree x.node) apart
      (λ source away. next_in-other hand source x away)

  pub requested-other : (x : Name) → (x.block == b) ≡ false →
      nearest_is_requested released x ≡ nearest_is_requested s x
  requested-other x apart =
      by_source b (λ source. (bits_at released source).requested) (λ source. (bits_at s source).requested)
      x (nearest s.tree x.node) apart (λ source away k. (bits-other source away k).requested)
