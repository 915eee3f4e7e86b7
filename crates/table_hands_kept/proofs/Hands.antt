-- A hand is still one of its table's after a step.
use Rattle.std.proofs.Common.{◌≡◌, ℕ, Option, sym, ◌∙◌, subst}
use Rattle.life_rules.specs.declared.event.Name.{Name}
use Rattle.atomic_table.specs.declared.shared.Seat.{Seat}
use Rattle.table_rules.specs.declared.view.View.{View}
use Rattle.table_steps.specs.Slots.{Aim, IsSeated}
use Rattle.table_steps.specs.Claims.{with_step, logged}
use Rattle.table_steps.specs.Views.{Board, IsHandOf, IsSameHand, Stays, aim_at}
use Rattle.table_kept.proofs.BeginSeats.{seated-listed}

module _ {P E O : Type 0} (board : Board O) (old new : Seat (Option P) (View P E)) (hand : IsHandOf board old) (same : IsSameHand old new) where
  pub hand-seated : IsSeated board.frame.tree board.frame.layout new.me → Stays board old new
  hand-seated seated =
      record { same = same; hand = record { table_is = same.0 ∙ hand.table_is; seated = seated } }

  -- after a step that was listed, and changed nothing else
  pub hand-listed : (i n left : ℕ) → new.me ≡ (with_step i n left old.me.0, old.me.1) → Stays board old new
  hand-listed i n left me =
      hand-seated (subst (IsSeated board.frame.tree board.frame.layout) (sym me)
      (seated-listed board.frame.tree board.frame.layout i n left old.me hand.seated))

  pub hand-logged : (i n : ℕ) → new.me ≡ (logged i n old.me.0, old.me.1) → Stays board old new
  hand-logged i n me = hand-listed i n n me

  -- after a step that tells it of a node of the table
  pub hand-aimed : (x : Name) (aim : Aim) → aim ≡ aim_at board x →
      (IsSeated aim.tree aim.layout old.me → IsSeated aim.tree aim.layout new.me) → Stays board old new
  hand-aimed x aim is told =
      hand-seated (subst (λ z. IsSeated z.tree z.layout new.me) is
      (told (subst (λ z. IsSeated z.tree z.layout old.me) (sym is) hand.seated)))
