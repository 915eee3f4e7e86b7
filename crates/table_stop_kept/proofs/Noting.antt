-- A hand may note of a node that it holds what it has read.
use Rattle.std.proofs.Common.{◌≡◌, ℕ, ◌+◌, ◌≤◌, Bool, true, ◌||◌, ◌==◌, List, [], ◌∷◌, set, refl, sym, ap, ◌∙◌, subst, length-set}
use Rattle.std.specs.Prelude.{Option, slice_index}
use Rattle.std.specs.List.{list_any}
use Rattle.std.proofs.lemmas.Bool.{cond-true, cond-false}
use mathlib.Core.Option.{some}
use lib.ListN.{get_elem?}
use lib.Seq.{set-get_or}
use Rattle.node_tree.specs.declared.node.TreeNode.{TreeNode}
use Rattle.life_rules.specs.declared.event.Name.{Name}
use Rattle.common_lemmas.specs.Sums.{one}
use Rattle.life_rules.specs.Views.{same}
use Rattle.common_lemmas.proofs.Bool.{either}
use Rattle.life_rules.proofs.Names.{same-true}
use Rattle.table_words.specs.declared.layout.Layout.{Layout}
use Rattle.atomic_table.specs.Table as table
use Rattle.table_rules.specs.declared.cargo.Cargo.{Ghosts}
use Rattle.table_rules.specs.declared.frame.Frame.{Frame}
use Rattle.table_rules.specs.declared.view.View.{View}
use Rattle.table_rules.specs.declared.view.Held.{Held}
use Rattle.table_rules.specs.Named.{count_by, Each}
use Rattle.table_rules.specs.ShownWords.{block_of}
use Rattle.table_rules.specs.ShownViews.{shown_view}
use Rattle.table_rules.specs.Scenes.{shown, scene}
use Rattle.table_rules.specs.Notes.{IsHeldSo}
use Rattle.table_rules.specs.Running.{Stands, Running}
use Rattle.table_steps.specs.Claims.{with_step, logged}
use Rattle.table_steps.specs.Slots.{slot_of, is_of_family, has_slot, IsSeated}
use Rattle.table_steps.specs.Readings.{at_entry}
use Rattle.table_kept.proofs.Entries.{each-map}
use Rattle.table_kept.proofs.Loads.{known-logged}
use Rattle.table_kept.proofs.Stamping.{looked-risen}
use Rattle.table_kept.proofs.Counts.{counts-moved}
use Rattle.table_kept.proofs.ViewMoves.{view-kept, views-moved}

module _ {A : Type 0} (name : A → Name) (change : A → A) (same_name : (e : A) → name (change e) ≡ name e) (x : Name) where
  -- a changed entry counts as before
  pub count-at : (l : List A) (y : Name) → count_by name (at_entry name change x l) y ≡ count_by name l y
  count-at [] y = refl
  count-at (e ∷ es) y =
      either (same (name e) x)
      (λ t.
      ap (λ l. count_by name l y) (cond-true (same (name e) x) (change e ∷ es) (e ∷ at_entry name change x es) t)
      ∙ ap (λ z. count_by name es y + one (same z y)) (same_name e))
      (λ f.
      ap (λ l. count_by name l y) (cond-false (same (name e) x) (change e ∷ es) (e ∷ at_entry name change x es) f)
      ∙ ap (λ k. k + one (same (name e) y)) (count-at es y))

  -- and passes the tests of its name
  pub any-at : (test : Name → Bool) (l : List A) → list_any (λ e. test (name e)) (at_entry name change x l) ≡ list_any (λ e. test (name e)) l
  any-at test [] = refl
  any-at test (e ∷ es) =
      either (same (name e) x)
      (λ t.
      ap (list_any (λ e. test (name e))) (cond-true (same (name e) x) (change e ∷ es) (e ∷ at_entry name change x es) t)
      ∙ ap (λ z. test z || list_any (λ e. test (name e)) es) (same_name e))
      (λ f.
      ap (list_any (λ e. test (name e))) (cond-false (same (name e) x) (change e ∷ es) (e ∷ at_entry name change x es) f)
      ∙ ap (λ b. test (name e) || b) (any-at test es))

  -- what holds of each entry holds of each, where the change of that of x keeps it
  pub each-at : (Q : A → Type 0) → ((e : A) → name e ≡ x → Q e → Q (change e)) → (l : List A) → Each Q l →
      Each Q (at_entry name change x l)
  each-at Q keeps [] all = tt
  each-at Q keeps (e ∷ es) all =
      either (same (name e) x)
      (λ t. subst (Each Q) (sym (cond-true (same (name e) x) (change e ∷ es) (e ∷ at_entry name change x es) t))
      (keeps e (same-true (name e) x t) all.0, all.1))
      (λ f. subst (Each Q) (sym (cond-false (same (name e) x) (change e ∷ es) (e ∷ at_entry name change x es) f))
      (all.0, each-at Q keeps es all.1))

-- a hand notes something of a node that it holds
pub record Notes (P E : Type 0) : Type 0 where
  pub state : table.State (Option P) (View P E)
  pub id : ℕ
  pub cell : ℕ
  pub name : Name
  pub view : View P E
  pub change : Held E → Held E
  pub same_name : (e : Held E) → (change e).name ≡ e.name

module _ {P E O : Type 0} (cargo : Ghosts P E O) (f : Frame O) (task : Notes P E) where
  open task use {state as s, id, cell as i, name as x, view as v, change, same_name}

  abbrev noted : View P E
  noted = record v { held = at_entry (λ (e : Held E). e.name) change x v.held }

  abbrev word : ℕ
  word = slice_index s.words i

  -- the load keeps the rule, where what is noted is so
  pub noting-keeps : (r : Running cargo f s) → get_elem? s.views id ≡ some v →
      ((e : Held E) → e.name ≡ x → IsHeldSo (scene f s r.past) e → IsHeldSo (scene f s r.past) (change e)) →
      Running cargo f record { words = set s.words i word; homes = s.homes; views = set s.views id (logged i word noted) }
  noting-keeps r at so =
      let now = scene f s r.past in
      let known = r.stands.views.each id v at in
      let mine : View P E = logged i word noted in
      let same : shown_view (block_of f.layout s.words) mine ≡ shown_view (block_of f.layout s.words) v =
      λ k. record (shown_view (block_of f.layout s.words) v) { holds = λ y. count-at (λ (e : Held E). e.name) change same_name x v.held y k } in
      let there : scene f record { words = s.words; homes = s.homes; views = set s.views id mine } r.past ≡ now =
      λ k. record {
        state = record (shown f s) { view = λ h. view-kept (block_of f.layout s.words) s.views id v mine at same h k };
        home = now.home;
        past = r.past;
      } in
      subst (λ ws. Running cargo f record { words = ws; homes = s.homes; views = set s.views id mine }) (sym (set-get_or s.words i 0))
      (record {
        frame = r.frame;
        sized = record {
          words = r.sized.words;
          homes = r.sized.homes;
          seats = subst (λ n. n ≤ f.hands) (sym (length-set s.views id mine)) r.sized.seats;
        };
        stamped = record {
          control = r.stamped.control;
          callback = r.stamped.callback;
          source = r.stamped.source;
          settled = r.stamped.settled;
          quiet = r.stamped.quiet;
          renewed = r.stamped.renewed;
          rises = looked-risen f.layout s.views id v mine at s.words i refl r.stamped.rises;
          scope = r.stamped.scope;
        };
        past = r.past;
        stands = subst (λ z. Stands cargo f.over.value z (set s.views id mine)) (sym there) (record {
          sound = r.stands.sound;
          homes = r.stands.homes;
          starts = r.stands.starts;
          items = r.stands.items;
          lots = r.stands.lots;
          views = views-moved now now s.views id v mine at (λ j u _ _ k. k)
              (known-logged now i word noted (record {
                held = each-at (λ (e : Held E). e.name) change same_name x (IsHeldSo now) so v.held known.held;
                owed = known.owed;
                reported = known.reported;
                noted = known.noted;
                unlooked = known.unlooked;
                seen_after = known.seen_after;
                seen = known.seen;
              }))
              refl refl r.stands.views;
          counts = counts-moved now.state now.state s.views id v mine at refl refl r.stands.counts;
        });
      })

-- the hand carries what its view gives it, as before
pub seated-noted : {P E : Type 0} (tree : List TreeNode) (l : Layout) (i n left : ℕ) (x : Name) (change : Held E → Held E) (m : View P E × List (ℕ × Option P)) →
    ((e : Held E) → (change e).name ≡ e.name) → IsSeated tree l m →
    IsSeated tree l (with_step i n left (record m.0 { held = at_entry (λ (e : Held E). e.name) change x m.0.held }), m.1)
seated-noted {P} {E} tree l i n left x change m same_name old =
    let mine : View P E = with_step i n left (record m.0 { held = at_entry (λ (e : Held E). e.name) change x m.0.held }) in
    record {
      apart = old.apart;
      given = each-map (λ d. has_slot tree l m.0 d.0 ≡ true) (λ d. has_slot tree l mine d.0 ≡ true)
          (λ d has.
          let a = list_any (λ e. slot_of l e.name == d.0) m.0.owed in
          let c = list_any (λ y. slot_of l y == d.0) m.0.finished in
          ap (λ b. a || (b || c)) (any-at (λ (e : Held E). e.name) change same_name x (λ y. is_of_family tree l y d.0) m.0.held) ∙ has) m.1 old.given;
      itself = old.itself;
    }
