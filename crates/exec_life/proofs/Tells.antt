-- What the words and views of a state tell of it.
use Rattle.std.proofs.Common.{◌≡◌, ℕ, ◌-◌, true, false, None, refl, sym, ap, ◌∙◌}
use Rattle.std.proofs.lemmas.Bool.{and_parts, cond-true, cond-false}
use Rattle.life_rules.specs.declared.event.Place.{Place}
use Rattle.life_rules.specs.declared.event.SourceAt.{SourceAt}
use Rattle.life_rules.specs.declared.event.SourceAt.TheVariants.{Scope as AtScope, At}
use Rattle.life_rules.specs.declared.event.SourceRef.{SourceRef}
use Rattle.life_rules.specs.declared.words.CallbackPhase.TheVariants.{Never}
use Rattle.life_rules.specs.declared.words.ControlWord.TheVariants.{Idle}
use Rattle.life_rules.specs.Owned.{IsUnused}
use Rattle.life_rules.specs.Sound.{Sound}
use Rattle.life_rules.specs.States.{State, size, is_place, is_live, name_at, bits_at}
use Rattle.life_rules.specs.StopSteps.{source_of, is_source}
use Rattle.life_rules.specs.Views.{View}
use Rattle.common_lemmas.specs.Sums.{one}
use Rattle.life_rules.specs.Words.{clear, is_open}
use Rattle.life_rules.proofs.Readings.{name_at-live}
use Rattle.common_lemmas.proofs.Bool.{either}
use Rattle.exec_life.specs.Reading.{TellWords, TellsView}
use Rattle.exec_life.specs.StateLists.{StateLists, machine, view_of, generations, IsState}
use Rattle.exec_life.specs.ViewLists.{ViewLists, role_in, runs_in, scan_of, scan_in, seen_in, is_finisher}
use Rattle.exec_life.specs.WordLists.{bits_in}
use Rattle.exec_life.proofs.Cases.{said-here}
use Rattle.exec_life.proofs.Puts.{HasView}
use Rattle.exec_life.proofs.Roles.{holds-here, starts-here, reports-here, finished-here}
use Rattle.exec_life.proofs.StateMeans.{view-is}
use Rattle.exec_life.proofs.StopMeans.{source-is}
use Rattle.exec_life.proofs.ViewMeans.{seen-here}

-- a place is of an open block, or reads as at first
place-life : {G : Type 0} (s : State) (p : Place) → Sound s → is_place s p ≡ true →
    (is_live s (name_at s p) ≡ true → G) → (is_live s (name_at s p) ≡ false → IsUnused s p.block p.node → G) → G
place-life s p sound there lives unused =
    either (is_open (s.block p.block).state)
    (λ opened. lives (name_at-live s p there opened))
    (λ shut.
    either (is_live s (name_at s p)) lives (λ dead. unused dead (sound.owned.unused p.block p.node shut)))

pub tell-words : (d : StateLists) → IsState d → TellWords (machine d) d.words
tell-words d state =
    let s = machine d in
    let sound = state.sound in
    let source : (t : SourceAt) → is_source s t ≡ true → bits_in d.words t ≡ bits_at s (source_of s t) =
    λ t. elim t as (λ z. is_source s z ≡ true → bits_in d.words z ≡ bits_at s (source_of s z)) [
      | AtScope ↦ λ _. refl
      | At p ↦ λ has.
          place-life s p sound (and_parts (is_place s p) _ has).0
          (λ live. sym (cond-true (is_live s (name_at s p)) (s.source p.block p.node) clear live))
          (λ dead unused. unused.source ∙ sym (cond-false (is_live s (name_at s p)) (s.source p.block p.node) clear dead))
    ] in
    record {
      block = λ b. refl;
      control = λ p there.
          place-life s p sound there
          (λ live. sym (cond-true (is_live s (name_at s p)) (s.control p.block p.node) Idle live))
          (λ dead unused. unused.control ∙ sym (cond-false (is_live s (name_at s p)) (s.control p.block p.node) Idle dead));
      callback = λ p there.
          place-life s p sound there
          (λ live. sym (cond-true (is_live s (name_at s p)) (s.callback p.block p.node) Never live))
          (λ dead unused. unused.callback ∙ sym (cond-false (is_live s (name_at s p)) (s.callback p.block p.node) Never dead));
      source = source;
      scope = refl;
      blocks = refl;
      nodes = state.fitted.nodes_are;
    }

pub tells-view : (d : StateLists) (h : ℕ) (v : ViewLists) → HasView d h v → TellsView (machine d) h v
tells-view d h v has =
    let s = machine d in
    let is = has.view_is in
    let present = generations d.words in
    let here = view-is d h v is in
    let over = has.state.fitted.each_view h v is in
    let seen : (t : SourceAt) → (s.view h).seen (source_of s t) ≡ seen_in v t =
    λ t. ap (λ (u : View). u.seen (source_of s t)) here ∙ ap (λ (r : SourceRef). (view_of present v).seen r) (sym (source-is d t)) ∙ seen-here present v t in
    let scans : (t : SourceAt) → (s.view h).scan (source_of s t) ≡ scan_in v t =
    λ t. elim t as (λ z. (s.view h).scan (source_of s z) ≡ scan_in v z) [
      | AtScope ↦ ap (λ (u : View). u.scan (source_of s AtScope)) here
      | At p ↦ ap (λ (u : View). u.scan (source_of s (At p))) here ∙ said-here present None (scan_of v) p.block p.node
    ] in
    record {
      holds = λ p. holds-here d h v p.block p.node is;
      starts = λ p. starts-here d h v p.block p.node is;
      reports = λ p. reports-here d h v p.block p.node is;
      finished = λ b.
          finished-here d h v b (size s - 1) is ∙ ap (λ k. one (is_finisher (role_in v b (k - 1)))) (sym over.nodes_are);
      runs = λ p.
          ap (λ (u : View). u.runs (name_at s p)) here
          ∙ said-here present 0 (λ i j. one (runs_in v i j)) p.block p.node;
      scans = scans;
      seen = seen;
      blocks = over.blocks_are;
      nodes = over.nodes_are;
    }
