-- What a hand remembers after a claim, an await and a begin.
use Rattle.std.proofs.Common.{◌≡◌, ◌≢◌, ℕ, ◌+◌, ◌<◌, true, not, ◌&&◌, ◌||◌, ◌==◌, List, [], ◌∷◌, length, refl, sym, ap, ◌∙◌, subst, arith}
use Rattle.std.specs.Prelude.{Option}
use Rattle.std.specs.List.{list_any}
use Rattle.std.proofs.lemmas.Bool.{eq-eqb}
use Rattle.life_rules.specs.declared.event.Name.{Name}
use Rattle.node_tree.specs.Tree.{has_source}
use Rattle.common_lemmas.specs.Sums.{one}
use Rattle.life_rules.specs.Views.{same, lose, beside}
use Rattle.common_lemmas.proofs.Bool.{either}
use Rattle.life_rules.proofs.Names.{same-true}
use Rattle.life_kept.proofs.Trees.{child-within}
use Rattle.atomic_table.specs.declared.shared.Seat.{Seat}
use Rattle.name_set.specs.Sets.{Marks, has}
use Rattle.table_rules.specs.declared.cargo.Cargo.{Ghosts}
use Rattle.table_rules.specs.declared.frame.Frame.{Frame}
use Rattle.table_rules.specs.declared.view.View.{View}
use Rattle.table_rules.specs.declared.view.Owed.{Owed}
use Rattle.table_rules.specs.Named.{count_by, Each}
use Rattle.table_steps.specs.declared.block.Block.{Block}
use Rattle.table_steps.specs.Owing.{owing, OwesNoneThere}
use Rattle.table_steps.specs.Views.{Board, aim_at}
use Rattle.table_steps.specs.Claims.{root_name, Claimed}
use Rattle.table_steps.specs.Seats.{Seated}
use Rattle.table_steps.specs.Begins.{BeginsAt, IsRenewed}
use Rattle.table_steps.specs.Awaits.{is_named, CanAwait, AwaitsAt}
use Rattle.table_steps.specs.Remembers.{running, HasExactly, Remembers, ArePlacesOf}
use Rattle.table_kept.proofs.Entries.{count-without}
use Rattle.table_kept.proofs.Awaiting.{count-owes, named-child}
use Rattle.table_kept.proofs.BeginSeats.{or-left, or-right, or-cases}
use Rattle.table_kept.proofs.Remembering.{exactly-still, exactly-more, exactly-less}

-- no entry in the block of x counts for x
none-there : {E : Type 0} (owed : List (Owed E)) (x : Name) → Each (λ e. e.name.block ≢ x.block) owed →
    count_by (λ e. e.name) owed x ≡ 0
none-there [] x none = refl
none-there (e ∷ es) x none =
    either (same e.name x)
    (λ t. absurd (none.0 (ap (λ y. y.block) (same-true e.name x t))))
    (λ f. let rest = none-there es x none.1 in let here : one (same e.name x) ≡ 0 = ap one f in omega (arith, rest, here))

-- what holds of each child that is named holds of a name that is one of theirs
of-named : (Q : Name → Type 0) (x y : Name) (nodes : List ℕ) → ((n : ℕ) → is_named nodes n ≡ true → Q (beside x n)) →
    list_any (λ n. same (beside x n) y) nodes ≡ true → Q y
of-named Q x y [] all h = cc
of-named Q x y (n ∷ ns) all h =
    or-cases (same (beside x n) y) (list_any (λ m. same (beside x m) y) ns) h
    (λ here. subst Q (same-true (beside x n) y here) (all n (or-left (n == n) (is_named ns n) (eq-eqb n n refl))))
    (λ later. of-named Q x y ns (λ m named. all m (or-right (n == m) (is_named ns m) named)) later)

-- what a hand remembered before a step, and what the step left of its seat and of the set of starts that it owes
pub record ToRemember (P E : Type 0) : Type 0 where
  pub seat : Seat (Option P) (View P E)
  pub set : Marks
  pub runs : Marks
  pub old : Remembers seat set runs
  pub new : Seat (Option P) (View P E)
  pub after : Marks
  pub table : new.table_id ≡ seat.table_id
  pub layout : after.layout ≡ set.layout

module _ (P E : Type 0) {O : Type 0} (board : Board O) (hand : ToRemember P E) where
  open hand use {seat, set, runs, old, new, after, table, layout}

  -- what is owed changed, and what is run didn't
  remembers-owed : HasExactly new.table_id (owing new.me.0) after → new.me.0.runs ≡ seat.me.0.runs → Remembers new after runs
  remembers-owed owed same_runs =
      record {
        owed = owed;
        runs = exactly-still old.runs new.table_id (running new.me.0) table (λ y. ap (λ l. count_by (λ z. z) l y) same_runs);
      }

  -- a claim: the root came
  pub remembers-claimed : (block : ℕ) (b : Block) (root : Name) → root ≡ root_name board b.index b.generation →
      Claimed board block b seat new → OwesNoneThere seat.me.0 root → ((y : Name) → has after y ≡ (same root y || has set y)) →
      Remembers new after runs
  remembers-claimed block b root is claimed none has_it =
      let name : root_name board block b.generation ≡ root =
      ap (λ k. root_name board k b.generation) (sym claimed.block_is) ∙ sym is in
      remembers-owed
      (exactly-more old.owed new.table_id (owing new.me.0) table after layout (same root)
      (λ y. ap (λ m. owing m.0 y) claimed.me_is ∙ ap (λ z. owing seat.me.0 y + one (same z y)) name)
      (λ y t. subst (λ z. owing seat.me.0 z ≡ 0) (same-true root y t) (none-there seat.me.0.owed root none))
      has_it)
      (ap (λ m. m.0.runs) claimed.me_is)

  -- an await: the children that it names came
  pub remembers-awaited : (cargo : Ghosts P E O) (i read left : ℕ) (x : Name) (nodes : List ℕ) → CanAwait cargo board.frame seat.me x nodes →
      AwaitsAt cargo (aim_at board x) nodes i read left seat.me new.me →
      ((y : Name) → has after y ≡ (list_any (λ n. same (beside x n) y) nodes || has set y)) → Remembers new after runs
  remembers-awaited cargo i read left x nodes can awaited has_it =
      remembers-owed
      (exactly-more old.owed new.table_id (owing new.me.0) table after layout (λ y. list_any (λ n. same (beside x n) y) nodes)
      (λ y. ap (λ m. owing m.0 y) awaited.me_is
      ∙ count-owes x (cargo.start awaited.item) (cargo.lot awaited.item) nodes seat.me.0.owed y can.different)
      (λ y t. of-named (λ z. owing seat.me.0 z ≡ 0) x y nodes awaited.unowed t)
      has_it)
      (ap (λ m. m.0.runs) awaited.me_is)

  -- a begin: the node went
  pub remembers-begun : (cargo : Ghosts P E O) (i read left : ℕ) (x : Name) (middle : Seated P E) → has set x ≡ true →
      IsRenewed (aim_at board x) seat.me middle → BeginsAt cargo (aim_at board x) i read left middle new.me →
      ((y : Name) → has after y ≡ (not (same x y) && has set y)) → Remembers new after runs
  remembers-begun cargo i read left x middle had_it renewed began has_it =
      let kept : (middle.0.owed ≡ seat.me.0.owed) × (middle.0.runs ≡ seat.me.0.runs) =
      either (has_source board.frame.tree x.node)
      (λ t. let stored = (renewed.0 t).did in (ap (λ m. m.0.owed) stored, ap (λ m. m.0.runs) stored))
      (λ f. let is = renewed.1 f in (ap (λ m. m.0.owed) is, ap (λ m. m.0.runs) is)) in
      remembers-owed
      (exactly-less old.owed new.table_id (owing new.me.0) table after layout x had_it
      (λ y. ap (λ m. owing m.0 y) began.me_is ∙ count-without (λ e. e.name) middle.0.owed x y
      ∙ ap (λ (l : List (Owed E)). lose x (count_by (λ e. e.name) l) y) kept.0)
      has_it)
      (ap (λ m. m.0.runs) began.me_is ∙ kept.1)

-- the children that an await names have places
pub named-places : {P E O : Type 0} (cargo : Ghosts P E O) (f : Frame O) (m : Seated P E) (x : Name) (nodes : List ℕ) →
    f.layout.nodes ≡ length f.tree → x.block < f.layout.blocks → CanAwait cargo f m x nodes → ArePlacesOf f.layout x.block nodes
named-places cargo f m x nodes sized block can =
    record {
      within = block;
      each = λ n named.
          let below = child-within f.tree x.node n (named-child f.tree x nodes can.leave.held can.idle n named) in
          omega (arith, below, sized);
    }
