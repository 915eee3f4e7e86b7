-- What a hand remembers of the callbacks that it runs, also after it came to run one and after a run ended.
use Rattle.std.proofs.Common.{◌≡◌, ℕ, ◌≤◌, Bool, true, false, not, ◌&&◌, ◌||◌, ◌==◌, ◌∷◌, sym, ap, ◌∙◌, subst}
use Rattle.std.specs.Prelude.{nat_le, Option}
use Rattle.std.specs.List.{list_any}
use Rattle.life_rules.specs.declared.event.Name.{Name}
use Rattle.common_lemmas.specs.Sums.{one}
use Rattle.life_rules.specs.Views.{same}
use Rattle.life_rules.proofs.Names.{same-true}
use Rattle.atomic_table.specs.declared.shared.Seat.{Seat}
use Rattle.name_set.specs.Sets.{Marks, has, IsOfItsBlock}
use Rattle.table_rules.specs.declared.view.View.{View}
use Rattle.table_rules.specs.Named.{count_by, without, Each}
use Rattle.table_steps.specs.Owing.{owing}
use Rattle.table_steps.specs.Remembers.{running, HasExactly, Remembers}
use Rattle.table_kept.proofs.Entries.{count-without}
use Rattle.table_kept.proofs.Remembering.{counted, counts-some, has-counted, exactly-still, exactly-more, exactly-less}
use Rattle.table_stop_kept.proofs.Run.Runs.{none-there}

at-least_one : (b : Bool) (n : ℕ) → n ≡ one b → b ≡ nat_le 1 n
at-least_one true n is = sym (ap (nat_le 1) is)
at-least_one false n is = sym (ap (nat_le 1) is)

module _ {P E : Type 0} (seat : Seat (Option P) (View P E)) (owed runs : Marks) (old : Remembers seat owed runs) where
  abbrev v : View P E
  v = seat.me.0

  -- what is run is in the set
  pub has-run : (x : Name) → 1 ≤ running v x → has runs x ≡ true
  has-run = has-counted old.runs

  -- and nothing else
  pub tells-run : (x : Name) → has runs x ≡ nat_le 1 (running v x)
  tells-run x = at-least_one (has runs x) (running v x) (old.runs.names x)

  -- the names of a block in the set are of the generation of which the view's are
  pub run-of_block : (x : Name) → Each (λ y. y.block ≡ x.block → y.generation ≡ x.generation) v.runs → IsOfItsBlock runs x
  run-of_block x all y h =
      counted (λ z. z) (λ z. z.block ≡ x.block → z.generation ≡ x.generation) v.runs y all (counts-some old.runs y h)

  module _ (new : Seat (Option P) (View P E)) (after : Marks) (table : new.table_id ≡ seat.table_id) (layout : after.layout ≡ runs.layout) (owes : new.me.0.owed ≡ v.owed) where
    -- what is run changed, and what is owed didn't
    remembers-runs : HasExactly new.table_id (running new.me.0) after → Remembers new owed after
    remembers-runs run =
        record {
          owed = exactly-still old.owed new.table_id (owing new.me.0) table (λ y. ap (λ l. count_by (λ e. e.name) l y) owes);
          runs = run;
        }

    -- the hand came to run the callback of x, of whose place it ran none
    pub remembers-run : (x : Name) → new.me.0.runs ≡ x ∷ v.runs →
        list_any (λ y. y.block == x.block && y.node == x.node) v.runs ≡ false →
        ((y : Name) → has after y ≡ (same x y || has runs y)) → Remembers new owed after
    remembers-run x more unrun has_it =
        remembers-runs (exactly-more old.runs new.table_id (running new.me.0) table after layout (same x)
        (λ y. ap (λ l. count_by (λ z. z) l y) more)
        (λ y t. subst (λ z. running v z ≡ 0) (same-true x y t) (none-there v.runs x unrun))
        has_it)

    -- the run of the callback of x ended
    pub remembers-ended : (x : Name) → 1 ≤ running v x → new.me.0.runs ≡ without (λ y. y) v.runs x →
        ((y : Name) → has after y ≡ (not (same x y) && has runs y)) → Remembers new owed after
    remembers-ended x ran less has_it =
        remembers-runs (exactly-less old.runs new.table_id (running new.me.0) table after layout x (has-run x ran)
        (λ y. ap (λ l. count_by (λ z. z) l y) less ∙ count-without (λ z. z) v.runs x y)
        has_it)
