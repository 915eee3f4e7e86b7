-- What the stores by which a callback's run ends owe.
use Rattle.std.proofs.Common.{◌≡◌, ℕ, List, refl, sym, subst, ap}
use Rattle.std.specs.Prelude.{Some, slice_index}
use Rattle.node_tree.specs.declared.node.TreeNode.{TreeNode}
use Rattle.life_rules.specs.declared.words.CallbackPhase.TheVariants.{Running, Ran, Removed}
use Rattle.life_rules.specs.declared.event.Name.{Name}
use Rattle.table_words.specs.declared.layout.Layout.{Layout}
use Rattle.table_words.specs.Stamps.{stamp_of}
use Rattle.table_words.specs.Controls.{callback_read}
use Rattle.table_words.specs.Layouts.{OfCallback, index}
use Rattle.atomic_table.specs.Table.{Allows, keeps}
use Rattle.table_rules.specs.declared.cargo.Cargo.{Ghosts}
use Rattle.table_rules.specs.declared.frame.Frame.{Frame}
use Rattle.table_rules.specs.declared.view.Held.{Held}
use Rattle.table_rules.specs.Running as holds
use Rattle.table_steps.specs.Views.{aimed}
use Rattle.table_steps.specs.Claims.{with_step}
use Rattle.table_steps.specs.Seats.{Seated}
use Rattle.table_steps.specs.Slots.{Aim, IsSeated}
use Rattle.table_steps.specs.Callbacks.{FindsCallback}
use Rattle.table_steps.specs.RunEnds.{CanEndRun, CanWithdrawOwn, ends_run, removes_own}
use Rattle.table_kept.proofs.Standing.{Standing}
use Rattle.table_kept.proofs.Listing.{AllowsListed, allows-listed, lists-one}
use Rattle.table_stop_kept.proofs.Noting.{seated-noted}
use Rattle.table_stop_kept.proofs.EndRun.Runs.{found-running, end-runs}
use Rattle.table_stop_kept.proofs.EndRun.Own.{ToRemoveOwn, remove-runs}

module _ {P E O : Type 0} (cargo : Ghosts P E O) where
  -- what the stores owe, by the frame that the table shows
  pub ends-at : (board f : Frame O) (slots id i value : ℕ) (x : Name) (aim : Aim) (m : Seated P E) → board ≡ f →
      i ≡ index board.layout (OfCallback x.block x.node) → aim ≡ aimed board x → CanEndRun m.0 x → stamp_of value ≡ x.generation → callback_read value ≡ Ran →
      AllowsListed cargo f slots id m i (λ _. value) (λ n. FindsCallback aim.name Running (ends_run aim.tree aim.name) i n value m)
  ends-at board f slots id i value x aim m same i_is aim_is can stamped reads =
      allows-listed cargo f slots id m i (λ _. value) (λ n. FindsCallback aim.name Running (ends_run aim.tree aim.name) i n value m)
      (λ n m' told. lists-one i n value m m' (ends_run aim.tree aim.name m.0) (ap (λ z. z.0) told.me_is) refl refl refl refl)
      (subst (λ z. Allows (holds.Running cargo z) slots id m i (λ _. value) (λ n. FindsCallback aim.name Running (ends_run aim.tree aim.name) i n value m)) same
      (subst (λ (z : ℕ × Aim). Allows (holds.Running cargo board) slots id m z.0 (λ _. value)
      (λ n. FindsCallback z.1.name Running (ends_run z.1.tree z.1.name) z.0 n value m))
      (λ k. (sym i_is k, sym aim_is k))
      (λ s r deep at small.
      let hand : Standing cargo board = record {
        state = s;
        id = id;
        view = m.0;
        running = r;
        at = at;
      } in (
        with_step (index board.layout (OfCallback x.block x.node)) (slice_index s.words (index board.layout (OfCallback x.block x.node))) value (ends_run board.tree x m.0),
        keeps,
        tt,
        end-runs cargo board hand x can (index board.layout (OfCallback x.block x.node)) (slice_index s.words (index board.layout (OfCallback x.block x.node))) value stamped reads refl refl,
        record { found = found-running cargo board hand x can; me_is = refl },
      ))))

  pub removes-at : (board f : Frame O) (slots id i value : ℕ) (x : Name) (aim : Aim) (m : Seated P E) → board ≡ f →
      i ≡ index board.layout (OfCallback x.block x.node) → aim ≡ aimed board x → CanWithdrawOwn m.0 x → stamp_of value ≡ x.generation → callback_read value ≡ Removed →
      AllowsListed cargo f slots id m i (λ _. value) (λ n. FindsCallback aim.name Running (removes_own aim.tree aim.name) i n value m)
  removes-at board f slots id i value x aim m same i_is aim_is can stamped reads =
      allows-listed cargo f slots id m i (λ _. value) (λ n. FindsCallback aim.name Running (removes_own aim.tree aim.name) i n value m)
      (λ n m' told. lists-one i n value m m' (removes_own aim.tree aim.name m.0) (ap (λ z. z.0) told.me_is) refl refl refl refl)
      (subst (λ z. Allows (holds.Running cargo z) slots id m i (λ _. value) (λ n. FindsCallback aim.name Running (removes_own aim.tree aim.name) i n value m)) same
      (subst (λ (z : ℕ × Aim). Allows (holds.Running cargo board) slots id m z.0 (λ _. value)
      (λ n. FindsCallback z.1.name Running (removes_own z.1.tree z.1.name) z.0 n value m))
      (λ k. (sym i_is k, sym aim_is k))
      (λ s r deep at small.
      let hand : Standing cargo board = record {
        state = s;
        id = id;
        view = m.0;
        running = r;
        at = at;
      } in
      let removing : ToRemoveOwn hand = record {
        name = x;
        can = can;
        cell = index board.layout (OfCallback x.block x.node);
        number = slice_index s.words (index board.layout (OfCallback x.block x.node));
        value = value;
        stamped = stamped;
        reads = reads;
      } in (
        with_step (index board.layout (OfCallback x.block x.node)) (slice_index s.words (index board.layout (OfCallback x.block x.node))) value (removes_own board.tree x m.0),
        keeps,
        tt,
        remove-runs cargo board hand removing refl refl,
        record { found = found-running cargo board hand x can.run; me_is = refl },
      ))))

-- the hand still carries each slot once
pub ended-seated : {P E : Type 0} (tree : List TreeNode) (l : Layout) (i n left : ℕ) (t : List TreeNode) (x : Name) (m : Seated P E) → IsSeated tree l m →
    IsSeated tree l (with_step i n left (ends_run t x m.0), m.1)
ended-seated tree l i n left t x m old = record { apart = old.apart; given = old.given; itself = old.itself }

pub removed-seated : {P E : Type 0} (tree : List TreeNode) (l : Layout) (i n left : ℕ) (t : List TreeNode) (x : Name) (m : Seated P E) → IsSeated tree l m →
    IsSeated tree l (with_step i n left (removes_own t x m.0), m.1)
removed-seated {P} {E} tree l i n left t x m old =
    let kept = seated-noted tree l i n left x (λ (e : Held E). record e { phase = Some Removed }) m (λ e. refl) old in
    record { apart = kept.apart; given = kept.given; itself = kept.itself }
