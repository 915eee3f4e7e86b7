-- What a hand notes of its node in the middle of a step changes nothing on which the step rests.
use Rattle.std.proofs.Common.{◌≡◌, ℕ, Bool, true, false, ◌||◌, List, [], ◌∷◌, refl, sym, ap, ◌∙◌}
use Rattle.std.specs.Prelude.{Option, Some}
use Rattle.std.specs.Option.{option_map_or}
use Rattle.std.proofs.lemmas.Bool.{both_ways, cond-true, cond-false}
use Rattle.common_lemmas.proofs.Bool.{either}
use Rattle.common_lemmas.proofs.Options.{known}
use Rattle.life_rules.specs.declared.event.Name.{Name}
use Rattle.life_rules.specs.Views.{same}
use Rattle.plan_shape.specs.Blueprint.{Blueprint}
use Rattle.table_words.specs.Layouts.{place_number}
use Rattle.table_rules.specs.declared.view.Held.{Held}
use Rattle.table_rules.specs.Named.{find_by, without}
use Rattle.table_steps.specs.Views.{Board}
use Rattle.table_steps.specs.Seats.{Seated}
use Rattle.table_steps.specs.Readings.{at_entry}
use Rattle.table_steps.specs.Slots.{slot_of, kept, has_seen, held_at}
use Rattle.op_slot.specs.Tends.{Tends}
use Rattle.op_slot.proofs.Kept.{find-noted}
use Rattle.home_items.specs.declared.entry.Entry.{Entry}
use Rattle.home_items.specs.declared.item.Item.{Item}
use Rattle.exec_recv.specs.Areas.{MovesWithin}
use Rattle.exec_recv.specs.Asides.{KeepsAside}
use Rattle.exec_recv.proofs.Fitting.{sees-more}
use Rattle.exec_recv.proofs.Starts.{KeepsHomes}
use Rattle.step_parts.specs.Heard.{was_told, has_heard}
use Rattle.step_parts.specs.Midway.{KeepsOthers, KeepsReady}
use Rattle.step_parts.proofs.Frames.{SameEntry, entry-here, midway-on}

-- what is noted of the first entry of x leaves the others
without-noted : {A : Type 0} (name : A → Name) (change : A → A) → ((e : A) → name (change e) ≡ name e) → (x : Name) (l : List A) →
    without name (at_entry name change x l) x ≡ without name l x
without-noted name change same_name x [] = refl
without-noted name change same_name x (d ∷ ds) =
    either (same (name d) x)
    (λ t.
    ap (λ l. without name l x) (cond-true (same (name d) x) (change d ∷ ds) (d ∷ at_entry name change x ds) t)
    ∙ cond-true (same (name (change d)) x) ds (change d ∷ without name ds x) (ap (λ y. same y x) (same_name d) ∙ t)
    ∙ sym (cond-true (same (name d) x) ds (d ∷ without name ds x) t))
    (λ f.
    ap (λ l. without name l x) (cond-false (same (name d) x) (change d ∷ ds) (d ∷ at_entry name change x ds) f)
    ∙ cond-false (same (name d) x) (at_entry name change x ds) (d ∷ without name (at_entry name change x ds) x) f
    ∙ ap (λ l. d ∷ l) (without-noted name change same_name x ds)
    ∙ sym (cond-false (same (name d) x) ds (d ∷ without name ds x) f))

pub or-true : (a b : Bool) → b ≡ true → (a || b) ≡ true
or-true true b t = refl
or-true false b t = t

-- beside a change of the entry with which the hand holds x only requests that were seen and the list of
-- steps are new
pub record NotesEntry (board : Board Blueprint) (x : Name) (change : Held Entry → Held Entry) (m m' : Seated Item Entry) : Type 0 where
  pub held : m'.0.held ≡ at_entry (λ (e : Held Entry). e.name) change x m.0.held
  pub owed : m'.0.owed ≡ m.0.owed
  pub homes : m'.1 ≡ m.1
  pub aside : KeepsAside m m'
  pub moves : MovesWithin board x m m'

-- a step doesn't rest on what changed
pub record ChangesNotes (change : Held Entry → Held Entry) : Type 0 where
  pub names : (e : Held Entry) → (change e).name ≡ e.name
  pub same : (e : Held Entry) → SameEntry e (change e)

-- what was told stays so where the entry's bit does
pub told-still : (x : Name) (m m' : Seated Item Entry) → ((held : Held Entry) → held_at m.0 x ≡ Some held →
    was_told x m' ≡ held.told) → was_told x m ≡ true → was_told x m' ≡ true
told-still x m m' still told =
    known (held_at m.0 x)
    (λ none.
    absurd (both_ways (was_told x m) (ap (λ (o : Option (Held Entry)). option_map_or (λ (e : Held Entry). e.told) o false) none) told))
    (λ held is.
    still held is
    ∙ sym (ap (λ (o : Option (Held Entry)). option_map_or (λ (e : Held Entry). e.told) o false) is) ∙ told)

-- and what was heard of, where requests that were seen are seen still
pub heard-still : (board : Board Blueprint) (x : Name) (m m' : Seated Item Entry) → KeepsAside m m' →
    ((held : Held Entry) → held_at m.0 x ≡ Some held → was_told x m' ≡ held.told) → has_heard board x m ≡ true →
    has_heard board x m' ≡ true
heard-still board x m m' aside still heard =
    either (has_seen board.frame.tree m.0 x)
    (λ t. ap (λ b. b || was_told x m') (sees-more board.frame.tree m m' x aside.sees t))
    (λ f.
    or-true (has_seen board.frame.tree m'.0 x) (was_told x m')
    (told-still x m m' still (ap (λ b. b || was_told x m) (sym f) ∙ heard)))

module _ (board : Board Blueprint) (x : Name) (change : Held Entry → Held Entry) (slight : ChangesNotes change) (m m' : Seated Item Entry) (notes : NotesEntry board x change m m') where
  notes-beside : KeepsOthers board x m m'
  notes-beside =
      record {
        aside = notes.aside;
        moves = notes.moves;
        others = ap (λ (l : List (Held Entry)). without (λ (e : Held Entry). e.name) l x) notes.held
            ∙ without-noted (λ (e : Held Entry). e.name) change slight.names x m.0.held;
        owed = notes.owed;
      }

  pub notes-held : (held : Held Entry) → held_at m.0 x ≡ Some held → held_at m'.0 x ≡ Some (change held)
  notes-held held holds =
      ap (λ (l : List (Held Entry)). find_by (λ (e : Held Entry). e.name) l x) notes.held
      ∙ find-noted (λ (e : Held Entry). e.name) change slight.names x m.0.held held holds

  notes-tends : (held : Held Entry) (inside : Item) (kid : ℕ → Option Item) → Tends board.frame x held (Some inside) kid m →
      Tends board.frame x (change held) (Some inside) kid m'
  notes-tends held inside kid has =
      record {
        holds = notes-held held has.holds;
        own = ap (λ (cs : List (ℕ × Option Item)). kept (slot_of board.frame.layout x) cs) notes.homes ∙ has.own;
        kids = λ n at.
            ap (λ (cs : List (ℕ × Option Item)). kept (place_number board.frame.layout x.block n) cs) notes.homes ∙ has.kids n at;
      }

  notes-homes : KeepsHomes board m m'
  notes-homes y owed owes inside lies =
      ap (λ (cs : List (ℕ × Option Item)). kept (slot_of board.frame.layout y) cs) notes.homes ∙ lies

  pub notes-keeps : KeepsReady board x m m'
  notes-keeps =
      record {
        beside = notes-beside;
        midway = λ start inside least kid was.
            midway-on board x m m' notes-beside notes-homes start least inside inside kid kid was was.goes_on was.inside_is
            (change was.held) (slight.same was.held) (notes-tends was.held inside kid was.tends) (λ n done at full. full);
        heard = heard-still board x m m' notes.aside
            (λ held is.
            ap (λ (o : Option (Held Entry)). option_map_or (λ (e : Held Entry). e.told) o false) (notes-held held is)
            ∙ (slight.same held).told);
      }

-- a look that changes nothing of the entry
module _ (board : Board Blueprint) (x : Name) (m m' : Seated Item Entry) (held_same : m'.0.held ≡ m.0.held) (owed_same : m'.0.owed ≡ m.0.owed) (homes_same : m'.1 ≡ m.1)
    (aside : KeepsAside m m') (moves : MovesWithin board x m m') where
  looks-beside : KeepsOthers board x m m'
  looks-beside =
      record {
        aside = aside;
        moves = moves;
        others = ap (λ (l : List (Held Entry)). without (λ (e : Held Entry). e.name) l x) held_same;
        owed = owed_same;
      }

  looks-held : held_at m'.0 x ≡ held_at m.0 x
  looks-held = ap (λ (l : List (Held Entry)). find_by (λ (e : Held Entry). e.name) l x) held_same

  pub looks-keeps : KeepsReady board x m m'
  looks-keeps =
      record {
        beside = looks-beside;
        midway = λ start inside least kid was.
            midway-on board x m m' looks-beside
            (λ y owed owes item lies. ap (λ (cs : List (ℕ × Option Item)). kept (slot_of board.frame.layout y) cs) homes_same ∙ lies)
            start least inside inside kid kid was was.goes_on was.inside_is was.held (entry-here was.held)
            (record {
              holds = looks-held ∙ was.tends.holds;
              own = ap (λ (cs : List (ℕ × Option Item)). kept (slot_of board.frame.layout x) cs) homes_same ∙ was.tends.own;
              kids = λ n at.
                  ap (λ (cs : List (ℕ × Option Item)). kept (place_number board.frame.layout x.block n) cs) homes_same
                  ∙ was.tends.kids n at;
            })
            (λ n done at full. full);
        heard = heard-still board x m m' aside
            (λ held is.
            ap (λ (o : Option (Held Entry)). option_map_or (λ (e : Held Entry). e.told) o false) (looks-held ∙ is));
      }
