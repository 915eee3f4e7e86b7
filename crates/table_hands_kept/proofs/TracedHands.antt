-- No word and no home of a table comes to be what it is but by a listed step: a hand that is split off and one
-- that is joined to another keep this.
use Rattle.std.proofs.Common.{◌≡◌, inl, inr, ℕ, ◌+◌, ◌<◌, ◌≤◌, ◌==◌, List, [], ◌∷◌, ◌++◌, length, set, sym, ap, ◌∙◌, subst, ⊎_elim, arith}
use Rattle.std.specs.Prelude.{slice_index}
use Rattle.std.proofs.lemmas.Bool.{both_ways, eqb-true, eq-eqb}
use mathlib.Core.Option.{some, some-injective}
use lib.ListN.{get_elem?}
use Rattle.common_lemmas.proofs.Bool.{either}
use Rattle.atomic_table.specs.Table as table
use Rattle.atomic_table.proofs.Lists.{at_set, set_here, set_else, at_longer}
use Rattle.listed_words.specs.declared.seen.Seen.{Seen}
use Rattle.table_rules.specs.declared.cargo.Cargo.{Ghosts}
use Rattle.table_rules.specs.declared.frame.Frame.{Frame}
use Rattle.table_rules.specs.declared.view.View.{View}
use Rattle.table_rules.specs.Named.{AnyOf, Each}
use Rattle.table_rules.specs.Traces.{LeavesThere, all_steps, SomeHas, SomeCarries, IsMadeBySome, Traced}
use Rattle.table_steps.specs.Views.{split_once, fresh_after}
use Rattle.table_steps.specs.Closings.{gathered, spent}
use Rattle.table_kept.proofs.Seats.{at_end, at_within}
use Rattle.table_kept.proofs.Entries.{each-map}
use Rattle.table_kept.proofs.AnyOf.{any-left, any-right, any-among, each-append, each-itself}
use Rattle.table_kept.proofs.Tracing.{has-set, carries-set}
use Rattle.table_hands_kept.proofs.Splitting.{splits}
use Rattle.table_hands_kept.proofs.Joining.{joins}

-- one more hand is split from the first
module _ {P E : Type 0} (vs : List (View P E)) (id : ℕ) (v : View P E) (at : get_elem? vs id ≡ some v) where
  abbrev more : List (View P E)
  more = set vs id (split_once v) ++ fresh_after v ∷ []

  has-split : (Q : Seen → Type 0) → SomeHas vs Q → SomeHas more Q
  has-split Q h =
      let k = has-set vs id v (split_once v) at Q (λ a. a) h in
      record {
        hand = k.hand;
        view = k.view;
        at = at_longer (set vs id (split_once v)) (fresh_after v ∷ []) k.hand k.view k.at;
        has = k.has;
      }

  carries-split : (Q : Seen → Type 0) → SomeCarries vs Q → SomeCarries more Q
  carries-split Q h =
      let k = carries-set vs id v (split_once v) at Q (λ one. one) (λ a. a) h in
      record {
        hand = k.hand;
        view = k.view;
        at = at_longer (set vs id (split_once v)) (fresh_after v ∷ []) k.hand k.view k.at;
        itself = k.itself;
        has = k.has;
      }

  made-split : (l : List Seen) → Each (IsMadeBySome vs) l → Each (IsMadeBySome more) l
  made-split l all = each-map (IsMadeBySome vs) (IsMadeBySome more) (λ e. has-split (λ d. d ≡ e)) l all

  joined-split : ((h : ℕ) (u : View P E) → get_elem? vs h ≡ some u → Each (IsMadeBySome vs) u.joined) → (h : ℕ) (u : View P E) →
      get_elem? more h ≡ some u → Each (IsMadeBySome more) u.joined
  joined-split all h u e =
      ⊎_elim
      (λ (l : get_elem? (set vs id (split_once v)) h ≡ some u).
      ⊎_elim
      (λ (t : (h ≡ id) × (split_once v ≡ u)).
      subst (λ (z : View P E). Each (IsMadeBySome more) z.joined) t.1 (made-split v.joined (all id v at)))
      (λ (t : ((h ≡ id) → ⊥) × (get_elem? vs h ≡ some u)). made-split u.joined (all h u t.1))
      (at_set vs id h (split_once v) u l))
      (λ (r : (h ≡ length (set vs id (split_once v))) × (fresh_after v ≡ u)).
      subst (λ (z : View P E). Each (IsMadeBySome more) z.joined) r.1 tt)
      (at_end (set vs id (split_once v)) (fresh_after v) u h e)

pub traced-splits : {P E O : Type 0} (cargo : Ghosts P E O) (f : Frame O) (id : ℕ) (v : View P E) → v.number ≡ 0 →
    v.splits + 1 < f.hands → table.Splits (Traced cargo f) id v (split_once v) (fresh_after v)
traced-splits cargo f id v first room s old at = record {
  runs = splits cargo f id v first room s old.runs at;
  words = λ j below. ⊎_elim (λ z. inl z) (λ h. inr (carries-split s.views id v at (LeavesThere j (slice_index s.words j)) h)) (old.words j below);
  homes = λ j. ⊎_elim (λ z. inl z) (λ h. inr (has-split s.views id v at (λ _. Unit {0}) h)) (old.homes j);
  joined = joined-split s.views id v at old.joined;
}

-- a hand is joined to another
-- a hand that takes over what another hand knows
pub record Gathers (P E : Type 0) : Type 0 where
  pub views : List (View P E)
  pub id : ℕ
  pub other : ℕ
  pub view : View P E
  pub other_view : View P E
  pub at : get_elem? views id ≡ some view
  pub apart : (other ≡ id) → ⊥
  pub there : get_elem? (set views id (gathered view other_view)) other ≡ some other_view
  pub itself : 1 ≤ view.hands

module _ {P E : Type 0} (task : Gathers P E) where
  open task use {views as vs, id, other, view as v, other_view as w, at, apart, there, itself}

  abbrev once : List (View P E)
  once = set vs id (gathered v w)

  abbrev both : List (View P E)
  both = set once other (spent w)

  -- the other stood there before, too
  there-before : get_elem? vs other ≡ some w
  there-before = sym (set_else vs id other (gathered v w) apart) ∙ there

  first-there : get_elem? both id ≡ some (gathered v w)
  first-there =
      set_else once other id (spent w) (λ e. apart (sym e)) ∙ set_here vs id (gathered v w) (at_within vs id v at)

  has-both : (Q : Seen → Type 0) → SomeHas vs Q → SomeHas both Q
  has-both Q h =
      has-set once other w (spent w) there Q (λ a. a) (has-set vs id v (gathered v w) at Q (λ a. a) h)

  more_all : (Q : Seen → Type 0) → AnyOf Q (all_steps v) → AnyOf Q (all_steps (gathered v w))
  more_all Q h =
      ⊎_elim (λ (a : AnyOf Q v.steps). any-left Q v.steps (v.joined ++ all_steps w) a)
      (λ (b : AnyOf Q v.joined). any-right Q v.steps (v.joined ++ all_steps w) (any-left Q v.joined (all_steps w) b))
      (any-among Q v.steps v.joined h)

  carries-both : (Q : Seen → Type 0) → SomeCarries vs Q → SomeCarries both Q
  carries-both Q old =
      let h : SomeCarries once Q =
      carries-set vs id v (gathered v w) at Q (λ one. omega (arith, one)) (more_all Q) old in
      either (h.hand == other)
      (λ t.
      let same : w ≡ h.view = some-injective w h.view (sym there ∙ ap (get_elem? once) (sym (eqb-true h.hand other t)) ∙ h.at) in
      record {
        hand = id;
        view = gathered v w;
        at = first-there;
        itself = omega (arith, itself);
        has = any-right Q v.steps (v.joined ++ all_steps w)
            (any-right Q v.joined (all_steps w) (subst (λ z. AnyOf Q (all_steps z)) (sym same) h.has));
      })
      (λ ne.
      record {
        hand = h.hand;
        view = h.view;
        at = set_else once other h.hand (spent w) (λ e. both_ways (h.hand == other) ne (eq-eqb h.hand other e)) ∙ h.at;
        itself = h.itself;
        has = h.has;
      })

  made-both : (l : List Seen) → Each (IsMadeBySome vs) l → Each (IsMadeBySome both) l
  made-both l all = each-map (IsMadeBySome vs) (IsMadeBySome both) (λ e. has-both (λ d. d ≡ e)) l all

  -- the other made its own steps
  made-other : Each (IsMadeBySome vs) w.steps
  made-other =
      each-map (λ e. AnyOf (λ d. d ≡ e) w.steps) (IsMadeBySome vs)
      (λ e h. record { hand = other; view = w; at = there-before; has = h }) w.steps (each-itself w.steps)

  joined-both : ((h : ℕ) (u : View P E) → get_elem? vs h ≡ some u → Each (IsMadeBySome vs) u.joined) → (h : ℕ) (u : View P E) →
      get_elem? both h ≡ some u → Each (IsMadeBySome both) u.joined
  joined-both all h u e =
      ⊎_elim
      (λ (t : (h ≡ other) × (spent w ≡ u)).
      subst (λ (z : View P E). Each (IsMadeBySome both) z.joined) t.1 (made-both w.joined (all other w there-before)))
      (λ (t : ((h ≡ other) → ⊥) × (get_elem? once h ≡ some u)).
      ⊎_elim
      (λ (q : (h ≡ id) × (gathered v w ≡ u)).
      subst (λ (z : View P E). Each (IsMadeBySome both) z.joined) q.1
      (made-both (v.joined ++ all_steps w)
      (each-append (IsMadeBySome vs) v.joined (all_steps w) (all id v at)
      (each-append (IsMadeBySome vs) w.steps w.joined made-other (all other w there-before)))))
      (λ (q : ((h ≡ id) → ⊥) × (get_elem? vs h ≡ some u)). made-both u.joined (all h u q.1))
      (at_set vs id h (gathered v w) u t.1))
      (at_set once other h (spent w) u e)

pub traced-joins : {P E O : Type 0} (cargo : Ghosts P E O) (f : Frame O) (id other : ℕ) (v w : View P E) → 1 ≤ v.hands →
    table.Joins (Traced cargo f) id v other w (gathered v w) (spent w)
traced-joins cargo f id other v w itself s old at apart there = record {
  runs = joins cargo f id other v w itself s old.runs at apart there;
  words = λ j below.
      ⊎_elim (λ z. inl z) (λ h. inr (carries-both (record {
        views = s.views;
        id = id;
        other = other;
        view = v;
        other_view = w;
        at = at;
        apart = apart;
        there = there;
        itself = itself;
      }) (LeavesThere j (slice_index s.words j)) h))
      (old.words j below);
  homes = λ j.
      ⊎_elim (λ z. inl z) (λ h. inr (has-both (record {
        views = s.views;
        id = id;
        other = other;
        view = v;
        other_view = w;
        at = at;
        apart = apart;
        there = there;
        itself = itself;
      }) (λ _. Unit {0}) h)) (old.homes j);
  joined = joined-both (record {
    views = s.views;
    id = id;
    other = other;
    view = v;
    other_view = w;
    at = at;
    apart = apart;
    there = there;
    itself = itself;
  }) old.joined;
}
