-- What a write to a view's cells means.
use Rattle.std.proofs.Common.{◌≡◌, ℕ, Bool, true, false, ◌||◌, Option, Some, None, refl, sym, ap, ◌∙◌}
use Rattle.std.proofs.Math.Bool.{or-false, or-true}
use Rattle.life_rules.specs.declared.event.Name.{Name}
use Rattle.life_rules.specs.declared.event.Place.{Place}
use Rattle.life_rules.specs.declared.event.SourceAt.{SourceAt}
use Rattle.life_rules.specs.declared.event.SourceAt.TheVariants.{Scope as AtScope, At}
use Rattle.life_rules.specs.declared.event.SourceRef.{SourceRef}
use Rattle.life_rules.specs.declared.event.SourceRef.TheVariants.{Scope, Node}
use Rattle.life_rules.specs.StopSteps.{is_scope}
use Rattle.common_lemmas.specs.Sums.{one}
use Rattle.life_rules.specs.Views.{mark, scan_at}
use Rattle.exec_life.specs.declared.view.Role.{Role}
use Rattle.exec_life.specs.StateLists.{said_of, said_of_source, view_of}
use Rattle.exec_life.specs.ViewLists.{ViewLists, role_in, runs_in, unlooked_in, seen_after_in, seen_at, scan_of, seen_in, is_holder, is_starter, is_reporter, is_finisher}
use Rattle.exec_life.specs.ViewWrites.{SetsRole, SetsRuns, SetsUnlooked, LooksAfter, SetsSeen, SetsScan, BeginsScan}
use Rattle.exec_life.proofs.SameCells.{SameCells}
use Rattle.exec_life.proofs.Cases.{turned, turned_source, named, said-set, said-set_source, said-scope, said-here}

-- the source at these generations
abbrev pub source_named : (ℕ → ℕ) → SourceAt → SourceRef
source_named present AtScope = Scope
source_named present (At p) = Node (named present p.block p.node)

module _ (present : ℕ → ℕ) (old new : ViewLists) where
  pub means-role : (b n : ℕ) (r : Role) → SetsRole old new b n r → (H S R F : Name → ℕ) →
      turned (named present b n) (one (is_holder r)) (view_of present old).holds ≡ H →
      turned (named present b n) (one (is_starter r)) (view_of present old).starts ≡ S →
      turned (named present b n) (one (is_reporter r)) (view_of present old).reports ≡ R →
      turned (named present b n) (one (is_finisher r)) (view_of present old).finished ≡ F →
      view_of present new ≡ record (view_of present old) { holds = H; starts = S; reports = R; finished = F }
  means-role b n r h H S R F eh es er ef =
      let part : (test : Role → Bool) → said_of present 0 (λ i j. one (test (role_in new i j)))
      ≡ turned (named present b n) (one (test r)) (said_of present 0 (λ i j. one (test (role_in old i j)))) =
      λ test. ap (λ (f : ℕ → ℕ → Role). said_of present 0 (λ i j. one (test (f i j)))) h.cell
      ∙ said-set present 0 (λ q. one (test q)) (role_in old) b n r in
      let ph = part is_holder ∙ eh in
      let ps = part is_starter ∙ es in
      let pr = part is_reporter ∙ er in
      let pf = part is_finisher ∙ ef in
      λ t. record (view_of present (h.rest t)) { holds = ph t; starts = ps t; reports = pr t; finished = pf t }

  pub means-runs : (b n : ℕ) (v : Bool) → SetsRuns old new b n v → (R : Name → ℕ) →
      turned (named present b n) (one v) (view_of present old).runs ≡ R →
      view_of present new ≡ record (view_of present old) { runs = R }
  means-runs b n v h R e =
      let p : said_of present 0 (λ i j. one (runs_in new i j)) ≡ R =
      ap (λ (f : ℕ → ℕ → Bool). said_of present 0 (λ i j. one (f i j))) h.cell
      ∙ said-set present 0 one (runs_in old) b n v ∙ e in
      λ t. record (view_of present (h.rest t)) { runs = p t }

  pub means-unlooked : (b n : ℕ) (v : Bool) → SetsUnlooked old new b n v →
      view_of present new
      ≡ record (view_of present old) { unlooked = mark (named present b n) v (view_of present old).unlooked }
  means-unlooked b n v h =
      let p : said_of present false (unlooked_in new) ≡ mark (named present b n) v (view_of present old).unlooked =
      ap (λ (f : ℕ → ℕ → Bool). said_of present false f) h.cell
      ∙ said-set present false (λ (c : Bool). c) (unlooked_in old) b n v in
      λ t. record (view_of present (h.rest t)) { unlooked = p t }

  pub means-look_after : (p : Place) (read : Bool) → LooksAfter old new p read →
      view_of present new
      ≡ record (view_of present old) {
        unlooked = mark (named present p.block p.node) false (view_of present old).unlooked;
        seen_after =
            mark (named present p.block p.node) ((view_of present old).seen_after (named present p.block p.node) || read)
            (view_of present old).seen_after;
      }
  means-look_after p read h =
      let b = p.block in
      let n = p.node in
      let x = named present b n in
      let e : said_of present false (unlooked_in new) ≡ mark x false (view_of present old).unlooked =
      ap (λ (f : ℕ → ℕ → Bool). said_of present false f) h.unlooked_is
      ∙ said-set present false (λ (c : Bool). c) (unlooked_in old) b n false in
      let k : said_of present false (seen_after_in new)
      ≡ mark x ((view_of present old).seen_after x || read) (view_of present old).seen_after =
      ap (λ (f : ℕ → ℕ → Bool). said_of present false f) h.seen_after_is
      ∙ said-set present false (λ (c : Bool). c) (seen_after_in old) b n (seen_after_in old b n || read)
      ∙ ap (λ (c : Bool). mark x (c || read) (view_of present old).seen_after)
      (sym (said-here present false (seen_after_in old) b n)) in
      λ t. record (view_of present (h.rest t)) { unlooked = e t; seen_after = k t }

  pub means-seen : (source : SourceAt) (v : Bool) → SetsSeen old new source v → (S : SourceRef → Bool) →
      turned_source (source_named present source) v (view_of present old).seen ≡ S →
      view_of present new ≡ record (view_of present old) { seen = S }
  means-seen AtScope v h S e =
      let p = said-scope present false old.scope_seen v (seen_at old) ∙ e in
      let q : view_of present (record old { scope_seen = v }) ≡ record (view_of present old) { seen = S } =
      λ t. record (view_of present old) { seen = p t } in
      ap (view_of present) h ∙ q
  means-seen (At place) v h S e =
      let p : said_of_source present false new.scope_seen (seen_at new) ≡ S =
      (λ t. said_of_source present false (h.rest t).scope_seen (h.cell t))
      ∙ said-set_source present false old.scope_seen (seen_at old) place.block place.node v ∙ e in
      λ t. record (view_of present (h.rest t)) { seen = p t }

  pub means-scan : (source : SourceAt) (v : Option ℕ) → SetsScan old new source v →
      view_of present new
      ≡ record (view_of present old) { scan = scan_at (source_named present source) v (view_of present old).scan }
  means-scan AtScope v h =
      let p = said-scope present None old.scope_scan v (scan_of old) in
      let q : view_of present (record old { scope_scan = v })
      ≡ record (view_of present old) { scan = scan_at Scope v (view_of present old).scan } =
      λ t. record (view_of present old) { scan = p t } in
      ap (view_of present) h ∙ q
  means-scan (At place) v h =
      let p : said_of_source present None new.scope_scan (scan_of new)
      ≡ scan_at (Node (named present place.block place.node)) v (view_of present old).scan =
      (λ t. said_of_source present None (h.rest t).scope_scan (h.cell t))
      ∙ said-set_source present None old.scope_scan (scan_of old) place.block place.node v in
      λ t. record (view_of present (h.rest t)) { scan = p t }

  pub means-begin_scan : (source : SourceAt) → BeginsScan old new source →
      view_of present new
      ≡ record (view_of present old) {
        scan = scan_at (source_named present source) (Some 0) (view_of present old).scan;
        requested = (view_of present old).requested || is_scope (source_named present source);
      }
  means-begin_scan AtScope h =
      let p = said-scope present None old.scope_scan (Some 0) (scan_of old) in
      let q : view_of present (record old { scope_scan = Some 0; requested = true })
      ≡ record (view_of present old) {
        scan = scan_at Scope (Some 0) (view_of present old).scan;
        requested = old.requested || true;
      } =
      λ t. record (view_of present old) { scan = p t; requested = sym (or-true old.requested) t } in
      ap (view_of present) h ∙ q
  means-begin_scan (At place) h =
      let p : said_of_source present None new.scope_scan (scan_of new)
      ≡ scan_at (Node (named present place.block place.node)) (Some 0) (view_of present old).scan =
      (λ t. said_of_source present None (h.rest t).scope_scan (h.cell t))
      ∙ said-set_source present None old.scope_scan (scan_of old) place.block place.node (Some 0) in
      let q : new.requested ≡ old.requested || false =
      ap (λ (u : ViewLists). u.requested) h.rest ∙ sym (or-false old.requested) in
      λ t. record (view_of present (h.rest t)) { scan = p t; requested = q t }

-- what the view has of a source
pub seen-here : (present : ℕ → ℕ) (v : ViewLists) (source : SourceAt) →
    (view_of present v).seen (source_named present source) ≡ seen_in v source
seen-here present v AtScope = refl
seen-here present v (At p) = said-here present false (seen_at v) p.block p.node

-- each write keeps the blocks and nodes
pub source-rest : (old new : ViewLists) (source : SourceAt) → (seen : Bool) → SetsSeen old new source seen → SameCells old new
source-rest old new AtScope seen h =
    record { blocks = ap (λ (u : ViewLists). u.blocks) h; nodes = ap (λ (u : ViewLists). u.nodes) h }
source-rest old new (At p) seen h =
    record { blocks = ap (λ (u : ViewLists). u.blocks) h.rest; nodes = ap (λ (u : ViewLists). u.nodes) h.rest }

pub scan-rest : (old new : ViewLists) (source : SourceAt) (scan : Option ℕ) → SetsScan old new source scan →
    SameCells old new
scan-rest old new AtScope scan h =
    record { blocks = ap (λ (u : ViewLists). u.blocks) h; nodes = ap (λ (u : ViewLists). u.nodes) h }
scan-rest old new (At p) scan h =
    record { blocks = ap (λ (u : ViewLists). u.blocks) h.rest; nodes = ap (λ (u : ViewLists). u.nodes) h.rest }

pub begin-rest : (old new : ViewLists) (source : SourceAt) → BeginsScan old new source → SameCells old new
begin-rest old new AtScope h =
    record { blocks = ap (λ (u : ViewLists). u.blocks) h; nodes = ap (λ (u : ViewLists). u.nodes) h }
begin-rest old new (At p) h =
    record { blocks = ap (λ (u : ViewLists). u.blocks) h.rest; nodes = ap (λ (u : ViewLists). u.nodes) h.rest }
