-- What a hand has of a node after items were moved, and after the hand came to owe or to hold the node.
use Rattle.std.proofs.Common.{◌≡◌, ℕ, ℤ, Bool, true, false, ◌==◌, List, [], ◌∷◌, refl, sym, ap, ◌∙◌}
use Rattle.std.specs.Prelude.{Option, Some, None}
use Rattle.std.proofs.lemmas.Bool.{cond-true, cond-false, eqb-true}
use Rattle.life_rules.specs.declared.words.CallbackPhase.{CallbackPhase}
use Rattle.life_rules.specs.declared.event.Name.{Name}
use Rattle.node_tree.specs.Tree.{is_child, has_source}
use Rattle.life_rules.specs.Views.{beside, same}
use Rattle.common_lemmas.proofs.Bool.{either}
use Rattle.life_rules.proofs.Names.{same-refl}
use Rattle.table_words.specs.Layouts.{OfSource, index, place_number}
use Rattle.table_rules.specs.declared.cargo.Cargo.{Ghosts}
use Rattle.table_rules.specs.declared.frame.Frame.{Frame}
use Rattle.table_rules.specs.declared.view.Held.{Held}
use Rattle.table_rules.specs.declared.view.Owed.{Owed}
use Rattle.table_rules.specs.Named.{find_by}
use Rattle.table_steps.specs.Views.{aimed}
use Rattle.table_steps.specs.Begins.{begun_as, Begins, IsRenewed, start_shown}
use Rattle.table_steps.specs.Claims.{with_step}
use Rattle.table_steps.specs.Seats.{Seated}
use Rattle.table_steps.specs.Finishes.{is_of_kids}
use Rattle.table_steps.specs.Kids.{empty_slots}
use Rattle.table_steps.specs.Readings.{above_it, says_begun, says_phase, notes_idle, IsBegunAs, IsPhaseAs}
use Rattle.table_steps.specs.Releases.{is_own_slot}
use Rattle.table_steps.specs.Reports.{LastAt, laid}
use Rattle.table_steps.specs.Sheds.{shed}
use Rattle.table_steps.specs.Slots.{slot_of, kids_of, kept}
use Rattle.table_steps.specs.Swaps.{IsSwapped}
use Rattle.table_steps.specs.Takes.{TakenAt}
use Rattle.op_slot.specs.Tends.{IsCalm, put_at, HasPlaces, Owes, Tends}
use Rattle.op_slot.proofs.Kept.{kept-first, kept-shed, find-noted, find-without, kept-empty, kept-beside, kept-laid}
use Rattle.op_slot.proofs.Places.{kid-within, kid-apart, own-apart, kids-apart, kids-within, of-kids, not-of-kids}

some-same : {A : Type 0} (a b : A) → Some a ≡ Some b → a ≡ b
some-same a b e = cc

module _ {P E O : Type 0} (f : Frame O) (x : Name) (new old : Option P) (m m' : Seated P E) (did : IsSwapped f x new old m m') where
  -- after a move the new lies in the home, and what lay there was the answer
  pub swapped-home : kept (slot_of f.layout x) m'.1 ≡ Some new
  swapped-home =
      ap (λ (z : Seated P E). kept (slot_of f.layout x) z.1) did.me_is
      ∙ kept-first (slot_of f.layout x) new (shed (is_own_slot f.layout x) m.1)

  pub swapped-old : (inside : Option P) → kept (slot_of f.layout x) m.1 ≡ Some inside → old ≡ inside
  swapped-old inside home = some-same old inside (sym did.home ∙ home)

  -- what lies in another home is as before
  pub swapped-else : (slot : ℕ) → (slot_of f.layout x == slot) ≡ false → kept slot m'.1 ≡ kept slot m.1
  swapped-else slot apart =
      ap (λ (z : Seated P E). kept slot z.1) did.me_is
      ∙ cond-false (slot_of f.layout x == slot) (Some new) (kept slot (shed (is_own_slot f.layout x) m.1)) apart
      ∙ kept-shed (is_own_slot f.layout x) slot m.1 apart

  pub swapped-calm : IsCalm m → IsCalm m'
  swapped-calm calm = ap (λ (z : Seated P E). z.0.scans) did.me_is ∙ calm

  pub swapped-owes : (owed : Owed E) (inside : Option P) → Owes f x owed inside m → Owes f x owed new m'
  swapped-owes owed inside has =
      record {
        owes = ap (λ (z : Seated P E). find_by (λ (e : Owed E). e.name) z.0.owed x) did.me_is ∙ has.owes;
        home = swapped-home;
      }

  -- a node whose start is owed still is, with what lies in its home, where it was another's home
  pub swapped-beside : (y : Name) (owed : Owed E) (inside : Option P) → (slot_of f.layout x == slot_of f.layout y) ≡ false →
      Owes f y owed inside m → Owes f y owed inside m'
  swapped-beside y owed inside apart has =
      record {
        owes = ap (λ (z : Seated P E). find_by (λ (e : Owed E). e.name) z.0.owed y) did.me_is ∙ has.owes;
        home = swapped-else (slot_of f.layout y) apart ∙ has.home;
      }

  pub swapped-own : (held : Held E) (own : Option P) (kid : ℕ → Option P) → HasPlaces f x → Tends f x held own kid m →
      Tends f x held new kid m'
  swapped-own held own kid places has =
      record {
        holds = ap (λ (z : Seated P E). find_by (λ (e : Held E). e.name) z.0.held x) did.me_is ∙ has.holds;
        own = swapped-home;
        kids = λ n child.
            swapped-else (place_number f.layout x.block n) (kid-apart f x places n child) ∙ has.kids n child;
      }

-- a move of what lies in a child's home
pub swapped-kid : {P E O : Type 0} (f : Frame O) (x : Name) (n : ℕ) (new old : Option P) (m m' : Seated P E) (held : Held E) (own : Option P) (kid : ℕ → Option P) →
    HasPlaces f x → is_child f.tree x.node n ≡ true → IsSwapped f (beside x n) new old m m' → Tends f x held own kid m →
    Tends f x held own (put_at n new kid) m'
swapped-kid {P} {E} f x n new old m m' held own kid places child did has =
    let moved = beside x n in
    record {
      holds = ap (λ (z : Seated P E). find_by (λ (e : Held E). e.name) z.0.held x) did.me_is ∙ has.holds;
      own = swapped-else f moved new old m m' did (slot_of f.layout x) (own-apart f x places n child) ∙ has.own;
      kids = λ k child_k.
          either (n == k)
          (λ t.
          ap (λ j. kept (place_number f.layout x.block j) m'.1) (sym (eqb-true n k t))
          ∙ swapped-home f moved new old m m' did ∙ ap (λ o. Some o) (sym (cond-true (n == k) new (kid k) t)))
          (λ ne.
          swapped-else f moved new old m m' did (place_number f.layout x.block k) (kids-apart f x places n k child child_k ne)
          ∙ has.kids k child_k ∙ ap (λ o. Some o) (sym (cond-false (n == k) new (kid k) ne)));
    }

-- the renewal of a source changes neither the homes nor the lists by name
pub renewed-same : {P E O A : Type 0} (f : Frame O) (x : Name) (m m' : Seated P E) → IsRenewed (aimed f x) m m' →
    (g : Seated P E → A) → ((i read left : ℕ) (z : Seated P E) → g (with_step i read left z.0, z.1) ≡ g z) → g m' ≡ g m
renewed-same f x m m' renewed g same_g =
    either (has_source f.tree x.node)
    (λ t. let did = renewed.0 t in ap g did.did ∙ same_g (index f.layout (OfSource x.block x.node)) did.read did.left m)
    (λ no. ap g (renewed.1 no))

-- the entry of a node that was taken, or held after a last report
abbrev pub held_as : {E : Type 0} → Name → List E → ℕ → Bool → Bool → Option (List ℤ) → Held E
held_as x start named told told_children lot =
    record {
      name = x;
      start = start;
      named = named;
      told = told;
      told_children = told_children;
      lot = lot;
      phase = None;
      idle = [];
    }

module _ {P E O : Type 0} (cargo : Ghosts P E O) (f : Frame O) (x : Name) (m m' : Seated P E) where
  module _ (did : Begins cargo (aimed f x) m m') where
    pub begun-calm : IsCalm m → IsCalm m'
    begun-calm calm =
        ap (λ (z : Seated P E). z.0.scans) did.began.did.me_is
        ∙ renewed-same f x m did.middle did.renewed (λ (z : Seated P E). z.0.scans) (λ i read left z. refl) ∙ calm

    begun-slot : (slot : ℕ) → kept slot did.middle.1 ≡ kept slot m.1
    begun-slot slot = renewed-same f x m did.middle did.renewed (λ (z : Seated P E). kept slot z.1) (λ i read left z. refl)

    -- the hand holds the node that it owed, with the start that the item in its home shows
    pub begun-tends : (owed : Owed E) (item : P) → HasPlaces f x → Owes f x owed (Some item) m →
        Tends f x (begun_as f.tree x (cargo.start item) did.began.did.told did.began.did.told_children) (Some item) (λ _. None) m'
    begun-tends owed item places has =
        let at = did.began.did in
        let slot = slot_of f.layout x in
        let kids = kids_of f.tree x.node in
        let home : kept slot did.middle.1 ≡ Some (Some item) = begun-slot slot ∙ has.home in
        let entry = begun_as f.tree x (start_shown cargo (kept slot did.middle.1)) at.told at.told_children in
        record {
          holds = ap (λ (z : Seated P E). find_by (λ (e : Held E). e.name) z.0.held x) at.me_is
              ∙ cond-true (same x x) (Some entry) (find_by (λ (e : Held E). e.name) did.middle.0.held x) (same-refl x)
              ∙ ap (λ h. Some (begun_as f.tree x (start_shown cargo h) at.told at.told_children)) home;
          own = ap (λ (z : Seated P E). kept slot z.1) at.me_is
              ∙ kept-beside f.layout x.block kids did.middle.1 slot (not-of-kids f x places) ∙ home;
          kids = λ n child.
              ap (λ (z : Seated P E). kept (place_number f.layout x.block n) z.1) at.me_is
              ∙ kept-empty f.layout x.block kids did.middle.1 (place_number f.layout x.block n) (of-kids f x places n child);
        }

    -- another node whose start it owes it still owes
    pub begun-beside : (y : Name) (owed : Owed E) (inside : Option P) → same x y ≡ false →
        is_of_kids f.tree f.layout x (slot_of f.layout y) ≡ false → Owes f y owed inside m → Owes f y owed inside m'
    begun-beside y owed inside other apart has =
        record {
          owes = ap (λ (z : Seated P E). find_by (λ (e : Owed E). e.name) z.0.owed y) did.began.did.me_is
              ∙ find-without (λ (e : Owed E). e.name) did.middle.0.owed x y other
              ∙ renewed-same f x m did.middle did.renewed (λ (z : Seated P E). find_by (λ (e : Owed E). e.name) z.0.owed y) (λ i read left z. refl)
              ∙ has.owes;
          home = ap (λ (z : Seated P E). kept (slot_of f.layout y) z.1) did.began.did.me_is
              ∙ kept-beside f.layout x.block (kids_of f.tree x.node) did.middle.1 (slot_of f.layout y) apart
              ∙ begun-slot (slot_of f.layout y) ∙ has.home;
        }

  -- the hand holds the node that it took
  module _ (overs : List O) (i read left : ℕ) (did : TakenAt cargo (aimed f x) overs i read left m m') where
    pub taken-calm : IsCalm m → IsCalm m'
    taken-calm calm = ap (λ (z : Seated P E). z.0.scans) did.me_is ∙ calm

    pub taken-tends : HasPlaces f x →
        Tends f x (held_as x did.start did.named did.told did.told_children None) (Some did.item) (λ _. None) m'
    taken-tends places =
        let slot = slot_of f.layout x in
        let kids = kids_of f.tree x.node in
        let rest = empty_slots f.layout x.block kids m.1 in
        let entry = held_as x did.start did.named did.told did.told_children None in
        record {
          holds = ap (λ (z : Seated P E). find_by (λ (e : Held E). e.name) z.0.held x) did.me_is
              ∙ cond-true (same x x) (Some entry) (find_by (λ (e : Held E). e.name) m.0.held x) (same-refl x);
          own = ap (λ (z : Seated P E). kept slot z.1) did.me_is ∙ kept-first slot (Some did.item) rest;
          kids = λ n child.
              ap (λ (z : Seated P E). kept (place_number f.layout x.block n) z.1) did.me_is
              ∙ cond-false (slot == place_number f.layout x.block n) (Some (Some did.item)) (kept (place_number f.layout x.block n) rest)
              (kid-apart f x places n child)
              ∙ kept-empty f.layout x.block kids m.1 (place_number f.layout x.block n) (of-kids f x places n child);
        }

  -- the hand holds the node whose child it reported as the last
  module _ (child : Name) (overs : List O) (i read left : ℕ) (did : LastAt cargo (aimed f x) child overs i read left m m') where
    pub last-calm : IsCalm m → IsCalm m'
    last-calm calm = ap (λ (z : Seated P E). z.0.scans) did.me_is ∙ calm

    pub last-tends : HasPlaces f x →
        Tends f x (held_as x did.start did.named did.told did.told_children (Some did.lot)) (Some did.item) did.content m'
    last-tends places =
        let slot = slot_of f.layout x in
        let kids = kids_of f.tree x.node in
        let rest = laid f.layout x.block kids did.content m.1 in
        let entry = held_as x did.start did.named did.told did.told_children (Some did.lot) in
        record {
          holds = ap (λ (z : Seated P E). find_by (λ (e : Held E). e.name) z.0.held x) did.me_is
              ∙ cond-true (same x x) (Some entry) (find_by (λ (e : Held E). e.name) m.0.held x) (same-refl x);
          own = ap (λ (z : Seated P E). kept slot z.1) did.me_is ∙ kept-first slot (Some did.item) rest;
          kids = λ n at.
              ap (λ (z : Seated P E). kept (place_number f.layout x.block n) z.1) did.me_is
              ∙ cond-false (slot == place_number f.layout x.block n) (Some (Some did.item)) (kept (place_number f.layout x.block n) rest)
              (kid-apart f x places n at)
              ∙ kept-laid f.layout x.block kids did.content m.1 n (kid-within f x places n at) (kids-within f x places) (of-kids f x places n at);
        }

module _ {P E O : Type 0} (f : Frame O) (x : Name) (held : Held E) (own : Option P) (kid : ℕ → Option P) (m m' : Seated P E) where
  -- a child that was read as not begun is noted
  pub read-tends : (child : Name) → above_it f.tree child ≡ x → IsBegunAs f child false m m' → Tends f x held own kid m →
      Tends f x (record held { idle = child.node ∷ held.idle }) own kid m'
  read-tends child above read has =
      let slot_at = λ (k : ℕ) (z : Seated P E). kept k z.1 in
      let asked = says_begun child.generation read.0 in
      let noted = notes_idle (above_it f.tree child) child.node m.0 in
      record {
        holds = ap (λ (z : Seated P E). find_by (λ (e : Held E). e.name) z.0.held x) read.2
            ∙ ap (λ v. find_by (λ (e : Held E). e.name) v.held x) (cond-false asked m.0 noted (sym read.1))
            ∙ ap (λ y. find_by (λ (e : Held E). e.name) (notes_idle y child.node m.0).held x) above
            ∙ find-noted (λ (e : Held E). e.name) (λ (e : Held E). record e { idle = child.node ∷ e.idle }) (λ e. refl) x m.0.held
            held has.holds;
        own = ap (slot_at (slot_of f.layout x)) read.2 ∙ has.own;
        kids = λ n at. ap (slot_at (place_number f.layout x.block n)) read.2 ∙ has.kids n at;
      }

  pub read-calm : (child : Name) → IsBegunAs f child false m m' → IsCalm m → IsCalm m'
  read-calm child read calm =
      ap (λ (z : Seated P E). z.0.scans) read.2
      ∙ ap (λ v. v.scans)
      (cond-false (says_begun child.generation read.0) m.0 (notes_idle (above_it f.tree child) child.node m.0) (sym read.1))
      ∙ calm

  -- the phase of its callback that was read is noted
  pub phased-tends : (answer : CallbackPhase) → IsPhaseAs f x answer m m' → Tends f x held own kid m →
      Tends f x (record held { phase = Some answer }) own kid m'
  phased-tends answer read has =
      let slot_at = λ (k : ℕ) (z : Seated P E). kept k z.1 in
      let said = says_phase x.generation read.0 in
      record {
        holds = ap (λ (z : Seated P E). find_by (λ (e : Held E). e.name) z.0.held x) read.2
            ∙ find-noted (λ (e : Held E). e.name) (λ (e : Held E). record e { phase = Some said }) (λ e. refl) x m.0.held held has.holds
            ∙ ap (λ p. Some (record held { phase = Some p })) (sym read.1);
        own = ap (slot_at (slot_of f.layout x)) read.2 ∙ has.own;
        kids = λ n at. ap (slot_at (place_number f.layout x.block n)) read.2 ∙ has.kids n at;
      }

  pub phased-calm : (answer : CallbackPhase) → IsPhaseAs f x answer m m' → IsCalm m → IsCalm m'
  phased-calm answer read calm = ap (λ (z : Seated P E). z.0.scans) read.2 ∙ calm

-- what it owes it still owes
pub phased-beside : {P E O : Type 0} (f : Frame O) (x : Name) (answer : CallbackPhase) (m m' : Seated P E) → IsPhaseAs f x answer m m' →
    (y : Name) (owed : Owed E) (inside : Option P) → Owes f y owed inside m → Owes f y owed inside m'
phased-beside {P} {E} f x answer m m' read y owed inside has =
    record {
      owes = ap (λ (z : Seated P E). find_by (λ (e : Owed E). e.name) z.0.owed y) read.2 ∙ has.owes;
      home = ap (λ (z : Seated P E). kept (slot_of f.layout y) z.1) read.2 ∙ has.home;
    }
