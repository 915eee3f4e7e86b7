-- What a hand has of a node, and what a change of it means.
use Rattle.std.proofs.Common.{◌≡◌, ℕ, Bool, true, false, Some, refl, sym, ap, ◌∙◌, slice_get, arith}
use Rattle.std.specs.Prelude.{nat_le}
use Rattle.std.proofs.lemmas.Bool.{leb-true}
use Rattle.life_rules.specs.declared.event.Name.{Name}
use Rattle.life_rules.specs.declared.event.Place.{Place}
use Rattle.life_rules.specs.declared.words.ControlWord.{ControlWord}
use Rattle.life_rules.specs.States.{name_of, name_at, control_at, with_view, with_control}
use Rattle.life_rules.specs.Views.{View, gain, lose}
use Rattle.common_lemmas.specs.Sums.{one}
use Rattle.life_rules.specs.Words.{is_held, is_under_way}
use Rattle.life_kept.proofs.Fitting.{Fits-busy}
use Rattle.life_rules.proofs.Readings.{stand-at}
use Rattle.common_lemmas.proofs.Bool.{one-is, one-false}
use Rattle.exec_life.specs.declared.view.Role.{Role}
use Rattle.exec_life.specs.declared.view.Role.TheVariants.{Nothing, Holds, OwesStart, OwesReport, HoldsFinished}
use Rattle.exec_life.specs.Parts.{Means}
use Rattle.exec_life.specs.StateLists.{StateLists, machine, view_of, generations}
use Rattle.exec_life.specs.ViewLists.{ViewLists, role_in, is_holder, is_starter, is_reporter, is_finisher}
use Rattle.exec_life.specs.ViewWrites.{SetsRole}
use Rattle.exec_life.specs.WordLists.{WordLists}
use Rattle.exec_life.specs.WordWrites.{SetsControl}
use Rattle.exec_life.proofs.Cases.{named, turned, said-here, turned-gain, turned-lose, turned-same}
use Rattle.exec_life.proofs.Puts.{HasView, SameBlocks, blocks-stay, after_put, put-means}
use Rattle.exec_life.proofs.SameCells.{SameCells}
use Rattle.exec_life.proofs.StateMeans.{view-is, means-control}
use Rattle.exec_life.proofs.ViewMeans.{means-role}

-- how a name's count changes, from the one test to the other
abbrev pub change : Bool → Bool → Name → (Name → ℕ) → Name → ℕ
change true true x f = f
change true false x f = lose x f
change false true x f = gain x f
change false false x f = f

abbrev pub role_changed : Role → Role → Name → View → View
role_changed from to x u =
    record u {
      holds = change (is_holder from) (is_holder to) x u.holds;
      starts = change (is_starter from) (is_starter to) x u.starts;
      reports = change (is_reporter from) (is_reporter to) x u.reports;
      finished = change (is_finisher from) (is_finisher to) x u.finished;
    }

turned-change : (a b : Bool) (x : Name) (f : Name → ℕ) → f x ≡ one a → turned x (one b) f ≡ change a b x f
turned-change true true x f e = turned-same x 1 f (sym e)
turned-change true false x f e = turned-lose x 0 f (omega (arith, e))
turned-change false true x f e = turned-gain x 1 f (omega (arith, e))
turned-change false false x f e = turned-same x 0 f (sym e)

pub role-means : (present : ℕ → ℕ) (old new : ViewLists) (b n : ℕ) (from to : Role) → role_in old b n ≡ from →
    SetsRole old new b n to →
    view_of present new ≡ role_changed from to (named present b n) (view_of present old)
role-means present old new b n from to was set =
    let at : (test : Role → Bool) → _ = λ test.
    said-here present 0 (λ i j. one (test (role_in old i j))) b n ∙ ap (λ r. one (test r)) was in
    let x = named present b n in
    let u = view_of present old in
    means-role present old new b n to set _ _ _ _
    (turned-change (is_holder from) (is_holder to) x u.holds (at is_holder))
    (turned-change (is_starter from) (is_starter to) x u.starts (at is_starter))
    (turned-change (is_reporter from) (is_reporter to) x u.reports (at is_reporter))
    (turned-change (is_finisher from) (is_finisher to) x u.finished (at is_finisher))

pub control-blocks : (old new : WordLists) (b n : ℕ) (word : ControlWord) → SetsControl old new b n word →
    SameBlocks old new
control-blocks old new b n word set =
    blocks-stay old new (ap (λ (u : WordLists). u.blocks) set.rest) (ap (λ (u : WordLists). u.nodes) set.rest)

pub role-cells : (old new : ViewLists) (b n : ℕ) (role : Role) → SetsRole old new b n role → SameCells old new
role-cells old new b n role set =
    record { blocks = ap (λ (u : ViewLists). u.blocks) set.rest; nodes = ap (λ (u : ViewLists). u.nodes) set.rest }

-- a control word and the hand's role at the same place
pub control_role-means : (d : StateLists) (w : WordLists) (h : ℕ) (v new : ViewLists) (p : Place) (word : ControlWord)
    (from to : Role) → HasView d h v → SetsControl d.words w p.block p.node word →
    SetsRole v new p.block p.node to → role_in v p.block p.node ≡ from →
    Means (after_put d w h new)
    (with_view (with_control (machine d) p.block p.node word) h
    (role_changed from to (name_at (machine d) p) ((machine d).view h)))
control_role-means d w h v new p word from to has set_word set_role was =
    put-means d w h v new _ _ has
    (control-blocks d.words w p.block p.node word set_word)
    (role-cells v new p.block p.node to set_role)
    (means-control d w p.block p.node word set_word)
    (role-means (generations d.words) v new p.block p.node from to was set_role
    ∙ ap (role_changed from to (name_at (machine d) p)) (sym (view-is d h v has.view_is)))

-- the role that a test tells
holder : (r : Role) → is_holder r ≡ true → r ≡ Holds
holder Nothing h = cc
holder Holds h = refl
holder OwesStart h = cc
holder OwesReport h = cc
holder HoldsFinished h = cc

starter : (r : Role) → is_starter r ≡ true → r ≡ OwesStart
starter Nothing h = cc
starter Holds h = cc
starter OwesStart h = refl
starter OwesReport h = cc
starter HoldsFinished h = cc

reporter : (r : Role) → is_reporter r ≡ true → r ≡ OwesReport
reporter Nothing h = cc
reporter Holds h = cc
reporter OwesStart h = cc
reporter OwesReport h = refl
reporter HoldsFinished h = cc

finisher : (r : Role) → is_finisher r ≡ true → r ≡ HoldsFinished
finisher Nothing h = cc
finisher Holds h = cc
finisher OwesStart h = cc
finisher OwesReport h = cc
finisher HoldsFinished h = refl

nothing : (r : Role) → (is_holder r ≡ true → ⊥) → (is_starter r ≡ true → ⊥) → (is_reporter r ≡ true → ⊥) →
    (is_finisher r ≡ true → ⊥) → r ≡ Nothing
nothing Nothing a b c d = refl
nothing Holds a b c d = absurd (a refl)
nothing OwesStart a b c d = absurd (b refl)
nothing OwesReport a b c d = absurd (c refl)
nothing HoldsFinished a b c d = absurd (d refl)

module _ (d : StateLists) (h : ℕ) (v : ViewLists) (b n : ℕ) (is : slice_get d.views h ≡ Some v) where
  count-here : (part : View → Name → ℕ) (test : Role → Bool) →
      part (view_of (generations d.words) v) (name_of (machine d) b n) ≡ one (test (role_in v b n)) →
      part ((machine d).view h) (name_of (machine d) b n) ≡ one (test (role_in v b n))
  count-here part test e = ap (λ u. part u (name_of (machine d) b n)) (view-is d h v is) ∙ e

  pub holds-here : ((machine d).view h).holds (name_of (machine d) b n) ≡ one (is_holder (role_in v b n))
  holds-here =
      count-here (λ u. u.holds) is_holder
      (said-here (generations d.words) 0 (λ i j. one (is_holder (role_in v i j))) b n)

  pub starts-here : ((machine d).view h).starts (name_of (machine d) b n) ≡ one (is_starter (role_in v b n))
  starts-here =
      count-here (λ u. u.starts) is_starter
      (said-here (generations d.words) 0 (λ i j. one (is_starter (role_in v i j))) b n)

  pub reports-here : ((machine d).view h).reports (name_of (machine d) b n) ≡ one (is_reporter (role_in v b n))
  reports-here =
      count-here (λ u. u.reports) is_reporter
      (said-here (generations d.words) 0 (λ i j. one (is_reporter (role_in v i j))) b n)

  pub finished-here : ((machine d).view h).finished (name_of (machine d) b n) ≡ one (is_finisher (role_in v b n))
  finished-here =
      count-here (λ u. u.finished) is_finisher
      (said-here (generations d.words) 0 (λ i j. one (is_finisher (role_in v i j))) b n)

  pub holder-from : nat_le 1 (((machine d).view h).holds (name_of (machine d) b n)) ≡ true → role_in v b n ≡ Holds
  holder-from may = let least = leb-true 1 _ may in holder (role_in v b n) (one-is (omega (arith, least, holds-here)))

  pub starter-from : nat_le 1 (((machine d).view h).starts (name_of (machine d) b n)) ≡ true →
      role_in v b n ≡ OwesStart
  starter-from may = let least = leb-true 1 _ may in starter (role_in v b n) (one-is (omega (arith, least, starts-here)))

  pub reporter-from : nat_le 1 (((machine d).view h).reports (name_of (machine d) b n)) ≡ true →
      role_in v b n ≡ OwesReport
  reporter-from may =
      let least = leb-true 1 _ may in reporter (role_in v b n) (one-is (omega (arith, least, reports-here)))

  pub finisher-from : nat_le 1 (((machine d).view h).finished (name_of (machine d) b n)) ≡ true →
      role_in v b n ≡ HoldsFinished
  finisher-from may =
      let least = leb-true 1 _ may in finisher (role_in v b n) (one-is (omega (arith, least, finished-here)))

  -- a hand that has the node in none of the four ways
  pub nothing-from : ((machine d).view h).holds (name_of (machine d) b n) ≡ 0 →
      ((machine d).view h).starts (name_of (machine d) b n) ≡ 0 →
      ((machine d).view h).reports (name_of (machine d) b n) ≡ 0 →
      ((machine d).view h).finished (name_of (machine d) b n) ≡ 0 → role_in v b n ≡ Nothing
  nothing-from no_hold no_start no_report no_finish =
      nothing (role_in v b n)
      (λ t. let e : one (is_holder (role_in v b n)) ≡ 1 = ap one t in absurd (omega (arith, e, holds-here, no_hold)))
      (λ t. let e : one (is_starter (role_in v b n)) ≡ 1 = ap one t in absurd (omega (arith, e, starts-here, no_start)))
      (λ t. let e : one (is_reporter (role_in v b n)) ≡ 1 = ap one t in absurd (omega (arith, e, reports-here, no_report)))
      (λ t. let e : one (is_finisher (role_in v b n)) ≡ 1 = ap one t in absurd (omega (arith, e, finished-here, no_finish)))

-- a node whose word is under way, and not held, is in no hand's view
pub unowned : (d : StateLists) (h : ℕ) (v : ViewLists) (b n : ℕ) → HasView d h v →
    is_under_way (control_at (machine d) (name_of (machine d) b n)) ≡ true →
    is_held (control_at (machine d) (name_of (machine d) b n)) ≡ false → role_in v b n ≡ Nothing
unowned d h v b n has on off =
    let s = machine d in
    let x = name_of s b n in
    let busy = Fits-busy on (has.state.sound.owned.names x) in
    let no_hold : one (is_held (control_at s x)) ≡ 0 = one-false off in
    nothing-from d h v b n has.view_is
    (omega (arith, stand-at s (λ u. u.holds) h x has.hand, busy.holds, no_hold))
    (omega (arith, stand-at s (λ u. u.starts) h x has.hand, busy.starts))
    (omega (arith, stand-at s (λ u. u.reports) h x has.hand, busy.reports))
    (omega (arith, stand-at s (λ u. u.finished) h x has.hand, busy.finished))
