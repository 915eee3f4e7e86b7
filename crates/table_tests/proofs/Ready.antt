-- Hands of a new table have done nothing.
use Rattle.std.proofs.Common.{◌≡◌, ℕ, zero, suc, ◌<◌, List, [], ◌∷◌, length, refl, sym, ap, subst, arith}
use Rattle.std.specs.Prelude.{Option, All, slice_index_or}
use mathlib.Core.Option.{some}
use lib.ListN.{get_elem?}
use Rattle.atomic_table.specs.declared.shared.Seat.{Seat}
use Rattle.table_rules.specs.declared.view.View.{View}
use Rattle.table_steps.specs.ScopeEntries.{MayEnter}
use Rattle.table_steps.specs.Views.{Board, AreFreshHands}
use Rattle.table_use.specs.declared.cargo.Entry.{Entry}
use Rattle.table_use.specs.declared.cargo.Item.{Item}
use Rattle.table_use.specs.Members.{MayAssociate}
use Rattle.table_tests.specs.Ready.{IsReady}

pub fresh-ready : (board : Board ℕ) (count : ℕ) (all : List (Seat (Option Item) (View Item Entry))) → AreFreshHands board count all →
    (h : ℕ) (hand : Seat (Option Item) (View Item Entry)) → get_elem? all h ≡ some hand → IsReady board h hand
fresh-ready board count all fresh h hand at =
    let each = fresh.each h hand at in
    record {
      table = each.0;
      member = record { hand_of = each.0; settled = subst MayEnter (sym each.2) refl };
      number_is = ap (λ (v : View Item Entry). v.number) each.2;
      idle = record { runs = ap (λ (v : View Item Entry). v.runs) each.2; scans = ap (λ (v : View Item Entry). v.scans) each.2 };
    }

at-or : {A : Type 0} (l : List A) (k : ℕ) (d : A) → k < length l → get_elem? l k ≡ some (slice_index_or l k d)
at-or [] k d h = absurd (omega arith)
at-or (x ∷ xs) zero d h = refl
at-or (x ∷ xs) (suc k) d h = at-or xs k d (omega arith)

-- and can associate
pub fresh-members : (board : Board ℕ) (count : ℕ) (hands : List (Seat (Option Item) (View Item Entry))) → AreFreshHands board count hands →
    All (MayAssociate board) hands
fresh-members board count hands fresh k d within =
    let hand = slice_index_or hands k d in
    let one = fresh.each k hand (at-or hands k d within) in
    record { hand_of = one.0; settled = subst MayEnter (sym one.2) refl }
