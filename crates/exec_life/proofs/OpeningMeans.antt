-- The state that the first lists mean.
use Rattle.std.proofs.Common.{◌≡◌, ℕ, ◌<◌, ◌≤◌, ◌^◌, Bool, false, length, Option, Some, None, refl, sym, ap, ◌∙◌, subst, get_or, slice_get, arith}
use Rattle.std.specs.Option.{option_map_or}
use Rattle.std.specs.Prelude.{◌==◌}
use Rattle.std.proofs.lemmas.Option.{get_or_from_slice_get, slice_get_within}
use Rattle.life_rules.specs.declared.event.Name.{Name}
use Rattle.life_rules.specs.declared.event.SourceRef.{SourceRef}
use Rattle.life_rules.specs.declared.event.SourceRef.TheVariants.{Scope, Node}
use Rattle.life_rules.specs.declared.limits.TheConstants.{MOST_BLOCKS, MOST_HANDS}
use Rattle.life_rules.specs.Opening.{opening}
use Rattle.life_rules.specs.Sound.{Sound}
use Rattle.node_tree.specs.Tree.{IsTree}
use Rattle.common_lemmas.specs.Sums.{one}
use Rattle.life_rules.specs.Views.{blank}
use Rattle.life_rules.proofs.Opened.{sound-opening}
use Rattle.common_lemmas.proofs.Options.{known}
use Rattle.common_lemmas.proofs.Bool.{both-same}
use Rattle.exec_life.specs.declared.view.Role.{Role}
use Rattle.exec_life.specs.declared.view.Role.TheVariants.{Nothing}
use Rattle.exec_life.specs.StateLists.{StateLists, machine, view_of, generations, said_of, said_of_source, IsState}
use Rattle.exec_life.specs.ViewLists.{ViewLists, IsBlankView, AreBlankViews, role_in, runs_in, unlooked_in, seen_after_in, seen_at, scan_of, is_holder, is_starter, is_reporter, is_finisher}
use Rattle.exec_life.specs.WordLists.{AreFirstWords}

said-blank : {A : Type 0} (present : ℕ → ℕ) (nothing : A) → said_of present nothing (λ b n. nothing) ≡ (λ x. nothing)
said-blank present nothing = λ t x. both-same (x.generation == present x.block) nothing t

-- a view with blank cells is that of a hand that has done nothing
blank-view : (present : ℕ → ℕ) (blocks nodes : ℕ) (v : ViewLists) → IsBlankView blocks nodes v →
    view_of present v ≡ blank
blank-view present blocks nodes v is =
    let role : (test : Role → Bool) → test Nothing ≡ false →
    said_of present 0 (λ i j. one (test (role_in v i j))) ≡ (λ x. 0) =
    λ test dull.
    ap (λ (c : ℕ → ℕ → Role). said_of present 0 (λ i j. one (test (c i j)))) is.role_is
    ∙ ap (λ b. said_of present 0 (λ i j. one b)) dull ∙ said-blank present 0 in
    let runs : said_of present 0 (λ i j. one (runs_in v i j)) ≡ (λ x. 0) =
    ap (λ (c : ℕ → ℕ → Bool). said_of present 0 (λ i j. one (c i j))) is.runs_is ∙ said-blank present 0 in
    let flag : (c : ℕ → ℕ → Bool) → c ≡ (λ b n. false) → said_of present false c ≡ (λ x. false) =
    λ c e. ap (said_of present false) e ∙ said-blank present false in
    let scans : said_of present None (scan_of v) ≡ (λ x. None) =
    ap (λ (c : ℕ → ℕ → Option ℕ). said_of present None c) is.scan_is ∙ said-blank present None in
    let scan_each : (t : SourceRef) → said_of_source present None v.scope_scan (scan_of v) t ≡ None =
    λ t. elim t as (λ z. said_of_source present None v.scope_scan (scan_of v) z ≡ None) [
      | Scope ↦ is.scope_scan_is
      | Node y ↦ ap (λ (f : Name → Option ℕ). f y) scans
    ] in
    let seen_each : (t : SourceRef) → said_of_source present false v.scope_seen (seen_at v) t ≡ false =
    λ t. elim t as (λ z. said_of_source present false v.scope_seen (seen_at v) z ≡ false) [
      | Scope ↦ is.scope_seen_is
      | Node y ↦ ap (λ (f : Name → Bool). f y) (flag (seen_at v) is.seen_is)
    ] in
    let holds = role is_holder refl in
    let starts = role is_starter refl in
    let reports = role is_reporter refl in
    let finished = role is_finisher refl in
    let unlooked = flag (unlooked_in v) is.unlooked_is in
    let after = flag (seen_after_in v) is.seen_after_is in
    λ t. record {
      holds = holds t;
      starts = starts t;
      reports = reports t;
      finished = finished t;
      runs = runs t;
      scan = λ z. scan_each z t;
      unlooked = unlooked t;
      seen_after = after t;
      seen = λ z. seen_each z t;
      made = is.made_is t;
      making = is.making_is t;
      refused = is.refused_is t;
      requested = is.requested_is t;
    }

module _ (d : StateLists) (blocks hands : ℕ) (words : AreFirstWords blocks (length d.tree) d.words)
    (views : AreBlankViews blocks (length d.tree) hands d.views) where
  blank-at : (i : ℕ) (v : ViewLists) → slice_get d.views i ≡ Some v → IsBlankView blocks (length d.tree) v
  blank-at i v is =
      let got : get_or d.views i v ≡ v = get_or_from_slice_get d.views i v v is in
      subst (IsBlankView blocks (length d.tree)) got (views.each i v (slice_get_within d.views i v is))

  pub opening-means : machine d ≡ opening d.tree blocks hands d.kind d.most
  opening-means =
      let meaning = view_of (generations d.words) in
      let each : (i : ℕ) → option_map_or meaning (slice_get d.views i) blank ≡ blank =
      λ i. known (slice_get d.views i)
      (λ none. ap (λ o. option_map_or meaning o blank) none)
      (λ v is.
      ap (λ o. option_map_or meaning o blank) is
      ∙ blank-view (generations d.words) blocks (length d.tree) v (blank-at i v is)) in
      λ t. record {
        tree = d.tree;
        blocks = words.blocks_are t;
        hands = views.count t;
        kind = d.kind;
        most = d.most;
        block = words.block_is t;
        control = words.control_is t;
        callback = words.callback_is t;
        source = words.source_is t;
        scope_source = words.scope_source_is t;
        scope = words.scope_is t;
        view = λ i. each i t;
      }

  pub opening-state : IsTree d.tree → blocks ≤ MOST_BLOCKS → 1 ≤ hands → hands ≤ MOST_HANDS → d.most < 2 ^ 16 → IsState d
  opening-state tree most_blocks some_hand most_hands most =
      record {
        fitted = record {
          nodes_are = words.nodes_are;
          each_view = λ i v is.
              let blank_at = blank-at i v is in
              record { blocks_are = blank_at.blocks_are ∙ sym words.blocks_are; nodes_are = blank_at.nodes_are };
          most_blocks = omega (arith, words.blocks_are, most_blocks);
          most_hands = omega (arith, views.count, most_hands);
          most_associations = most;
        };
        sound =
            subst Sound (sym opening-means)
            (sound-opening d.tree blocks hands d.kind d.most tree (omega (arith, some_hand)));
      }
