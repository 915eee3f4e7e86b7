-- What the rule says of a node that a hand holds, at a step of this hand.
use Rattle.std.proofs.Common.{◌≡◌, ℕ, ◌<◌, ◌≤◌, true, false, ◌||◌, ◌==◌, Some, refl, sym, ap, ◌∙◌, subst, arith}
use Rattle.std.specs.Prelude.{Option, MatchOption, nat_le}
use Rattle.std.specs.List.{list_any}
use Rattle.std.proofs.lemmas.Bool.{eqb-true, false_from_ne_true, leb-true, leb-false}
use mathlib.Core.Option.{some}
use lib.ListN.{get_elem?}
use Rattle.life_rules.specs.declared.words.ControlWord.{ControlWord}
use Rattle.life_rules.specs.declared.words.ControlWord.TheVariants.{Idle, Busy, ReadyLoop, ReadyPool, Parked, Done}
use Rattle.life_rules.specs.declared.event.Name.{Name}
use Rattle.node_tree.specs.Tree.{is_child}
use Rattle.life_rules.specs.Words.{is_idle, is_held, is_under_way, pending}
use Rattle.life_rules.specs.Views.{View as PureView, beside}
use Rattle.common_lemmas.specs.Sums.{one}
use Rattle.life_rules.specs.States.{State, control_at, phase_at, stand}
use Rattle.life_rules.specs.Owned.{weight}
use Rattle.life_rules.specs.Callbacks.{nearest_is_requested}
use Rattle.common_lemmas.proofs.Bool.{either, one-most}
use Rattle.common_lemmas.proofs.Totals.{total-single}
use Rattle.life_kept.proofs.Trees.{child-within}
use Rattle.life_kept.proofs.Holding.{IsHeld, held-by, weight-most}
use Rattle.atomic_table.specs.Table as table
use Rattle.table_rules.specs.declared.cargo.Cargo.{Ghosts}
use Rattle.table_rules.specs.declared.frame.Frame.{Frame}
use Rattle.table_rules.specs.declared.view.View.{View}
use Rattle.table_rules.specs.declared.view.Held.{Held}
use Rattle.table_rules.specs.Named.{count_by, find_by, Each}
use Rattle.table_rules.specs.ShownWords.{block_of}
use Rattle.table_rules.specs.ShownViews.{shown_view}
use Rattle.table_rules.specs.Scenes.{Scene, shown, scene}
use Rattle.table_rules.specs.Notes.{is_still, IsHeldSo}
use Rattle.table_rules.specs.Running.{Running}
use Rattle.table_steps.specs.Slots.{has_seen, knows_idle}
use Rattle.table_kept.proofs.Standing.{Standing}
use Rattle.table_kept.proofs.Entries.{IsFound, found, each-found, each-map}
use Rattle.table_kept.proofs.Seats.{at_within}
use Rattle.table_kept.proofs.ViewMoves.{view-here}
use Rattle.table_kept.proofs.SeenStands.{seen-stands}
use Rattle.table_kept.proofs.BeginSeats.{or-cases}
use Rattle.table_kept.proofs.Awaiting.{each-any}

held-under_way : (c : ControlWord) → is_under_way c ≡ false → one (is_held c) ≡ 0
held-under_way Idle h = refl
held-under_way (Busy n) h = cc
held-under_way ReadyLoop h = cc
held-under_way ReadyPool h = cc
held-under_way Parked h = cc
held-under_way Done h = refl

-- no hand has a start or a report of the child, and it isn't under way
pub record IsQuietKid (s : State) (x : Name) (n : ℕ) : Type 0 where
  pub starts : stand s (λ v. v.starts) (beside x n) ≡ 0
  pub reports : stand s (λ v. v.reports) (beside x n) ≡ 0
  pub under_way : is_under_way (control_at s (beside x n)) ≡ false
  pub held : one (is_held (control_at s (beside x n))) ≡ 0

module _ {P E O : Type 0} (cargo : Ghosts P E O) (f : Frame O) (s : table.State (Option P) (View P E)) (r : Running cargo f s) where
  abbrev now : State
  now = shown f s

  -- nobody has anything of the children of a node with none pending
  pub kid-quiet : (x : Name) (n : ℕ) → pending (control_at now x) ≡ 0 → is_child f.tree x.node n ≡ true → IsQuietKid now x n
  kid-quiet x n none child =
      let most : weight now (beside x n) ≤ pending (control_at now x) =
      weight-most now x n r.stands.sound (child-within f.tree x.node n child) child in
      let way : is_under_way (control_at now (beside x n)) ≡ false =
      false_from_ne_true (is_under_way (control_at now (beside x n)))
      (λ t. let o : one (is_under_way (control_at now (beside x n))) ≡ 1 = ap one t in absurd (omega (arith, most, none, o))) in
      record {
        starts = omega (arith, most, none);
        reports = omega (arith, most, none);
        under_way = way;
        held = held-under_way (control_at now (beside x n)) way;
      }

-- a node that the hand holds, and what the hand notes of it
pub record Holding {P E O : Type 0} {cargo : Ghosts P E O} {f : Frame O}
    (hand : Standing cargo f) : Type 0 where
  pub name : Name
  pub entry : Held E
  pub holds : find_by (λ entry. entry.name) hand.view.held name ≡ Some entry

module _ {P E O : Type 0} (cargo : Ghosts P E O) (f : Frame O) (hand : Standing cargo f)
    (task : Holding hand) where
  open hand use {state as s, id, view as v, running as r, at}
  open task use {name as x, entry as e, holds}

  abbrev here : Scene P E
  here = scene f s r.past

  abbrev state : State
  state = shown f s

  is-found : IsFound (λ (e : Held E). e.name) v.held x e
  is-found = found (λ e. e.name) v.held x e holds

  pub shows : state.view id ≡ shown_view (block_of f.layout s.words) v
  shows = view-here (block_of f.layout s.words) s.views id v at

  pub below : id < f.hands
  below = let l = at_within s.views id v at in let m = r.sized.seats in omega (arith, l, m)

  pub holds-now : 1 ≤ (state.view id).holds x
  holds-now = subst (λ (u : PureView). 1 ≤ u.holds x) (sym shows) is-found.counts

  pub held : IsHeld state x
  held = held-by state id x r.stands.sound below holds-now

  so : IsHeldSo here e
  so = each-found (IsHeldSo here) (λ e. e.name) v.held x e holds (r.stands.views.each id v at).held

  pub start-so : e.start ≡ r.past.start x
  start-so = so.start ∙ ap r.past.start is-found.name_is

  pub named-so : e.named ≡ r.past.named x
  named-so = so.named ∙ ap r.past.named is-found.name_is

  pub idle-so : Each (λ n. is_idle (control_at state (beside x n)) ≡ true) e.idle
  idle-so =
      each-map (λ n. (is_child f.tree e.name.node n ≡ true) × (is_idle (control_at state (beside e.name n)) ≡ true))
      (λ n. is_idle (control_at state (beside x n)) ≡ true)
      (λ n both. subst (λ z. is_idle (control_at state (beside z n)) ≡ true) is-found.name_is both.1) e.idle so.idle

  -- a child that the hand knows to be idle is so: it has read it, or no await has named any
  pub idle-known : (n : ℕ) → is_child f.tree x.node n ≡ true → knows_idle e n ≡ true → is_idle (control_at state (beside x n)) ≡ true
  idle-known n child known =
      or-cases (e.named == 0) (list_any (λ q. q == n) e.idle) known
      (λ none.
      let zero = eqb-true e.named 0 none in
      either (is_idle (control_at state (beside x n)))
      (λ t. t)
      (λ begun. let asked = r.stands.homes.asked x n child begun in let named = named-so in absurd (omega (arith, zero, asked, named))))
      (λ read. each-any (λ m. is_idle (control_at state (beside x m)) ≡ true) e.idle n idle-so read)

  pub phase-so : MatchOption e.phase (Unit {0}) (λ known. is_still known (phase_at state x))
  phase-so =
      subst (λ z. MatchOption e.phase (Unit {0}) (λ known. is_still known (phase_at state z))) is-found.name_is so.phase

  -- an item that fits by what the hand has seen and was told fits by what is so
  pub fit-now : (item : P) → cargo.fits item x.node (has_seen f.tree v x || e.told) →
      cargo.fits item x.node (nearest_is_requested state x)
  fit-now item fits =
      either (has_seen f.tree v x || e.told)
      (λ t.
      let asked : nearest_is_requested state x ≡ true =
      or-cases (has_seen f.tree v x) e.told t (seen-stands cargo f hand x held.live)
      (λ told. subst (λ z. nearest_is_requested state z ≡ true) is-found.name_is (so.told told)) in
      subst (cargo.fits item x.node) (t ∙ sym asked) fits)
      (λ none.
      let calm : cargo.fits item x.node false = subst (cargo.fits item x.node) none fits in
      either (nearest_is_requested state x)
      (λ t. subst (cargo.fits item x.node) (sym t) (cargo.widens item x.node calm))
      (λ f. subst (cargo.fits item x.node) (sym f) calm))

  -- no other hand holds it
  pub others-none : (j : ℕ) (u : View P E) → (j ≡ id → ⊥) → get_elem? s.views j ≡ some u →
      count_by (λ e. e.name) u.held x ≡ 0
  others-none j u ne there =
      either (nat_le 1 (count_by (λ e. e.name) u.held x))
      (λ t.
      let some_one : 1 ≤ count_by (λ e. e.name) u.held x = leb-true 1 (count_by (λ e. e.name) u.held x) t in
      let l = at_within s.views j u there in
      let m = r.sized.seats in
      let fit = (r.stands.sound.owned.names x).held in
      let most = one-most (is_held (control_at state x)) in
      absurd (ne (total-single (λ i. (state.view i).holds x) f.hands j id (omega (arith, fit, most)) (omega (arith, l, m)) below
      (subst (λ (z : PureView). 1 ≤ z.holds x) (sym (view-here (block_of f.layout s.words) s.views j u there)) some_one) holds-now)))
      (λ f. let none = leb-false 1 (count_by (λ e. e.name) u.held x) f in omega (arith, none))
