-- A desk that stays, and names that it was given.
use Rattle.std.proofs.Common.{◌≡◌, ◌⊎◌, inr, refl, sym, subst}
use Rattle.std.specs.Prelude.{Bool, true, false, Option, Some, None, Result, Ok, Err, IfErr, IfOk}
use Rattle.life_rules.specs.declared.event.Name.{Name}
use Rattle.deck_relay.specs.declared.desk.Desk.{Desk}
use Rattle.deck_relay.specs.Desks.{KeepsDesk, OnlyPosts, desk-here}
use Rattle.deck_relay.specs.DeskMoves.{EntersDeck, LeavesDeck, TellsPost}
use Rattle.deck_relay.proofs.Told.{either-came}
use Rattle.steal_pool.specs.Offered.{AsksBackend, AsksDeck, Backing, EntersDesk, IsRefusedBy, IsTakenBy, KeepsWhere, Leaves, TellsLoop, stores}

-- where it isn't touched
pub keeps-same : (old new : Option Desk) → new ≡ old → KeepsDesk old new
keeps-same old new is = subst (λ o. KeepsDesk old o) (sym is) (desk-here old)

-- and where it is there
pub keeps-some : (o : Option Desk) (desk desk' : Desk) → o ≡ Some desk → OnlyPosts desk desk' → KeepsDesk o (Some desk')
keeps-some o desk desk' is same = subst (λ other. KeepsDesk other (Some desk')) (sym is) same

-- what a desk says where there is one
module _ (o : Option Desk) (desk desk' : Desk) (is : o ≡ Some desk) (name : Name) where
  pub tells-some : TellsPost name desk desk' → TellsLoop name o (Some desk')
  tells-some tells = subst (λ other. TellsLoop name other (Some desk')) (sym is) tells

  pub enters-some : {A : Type 0} (answer : Result A Name) → IfOk answer (λ _. EntersDeck name desk desk') →
      IfOk answer (λ _. EntersDesk name o (Some desk'))
  enters-some (Ok done) enters = subst (λ other. EntersDesk name other (Some desk')) (sym is) enters
  enters-some (Err back) enters = tt

  pub leaves-some : {A : Type 0} (answer : Result A Name) → IfErr answer (LeavesDeck name desk desk') →
      IfErr answer (Leaves name o (Some desk'))
  leaves-some (Ok done) leaves = tt
  leaves-some (Err back) leaves = subst (λ other. Leaves name other (Some desk') back) (sym is) leaves

-- and where there is none
pub tells-none : (o : Option Desk) (name : Name) → o ≡ None → TellsLoop name o o
tells-none o name is = subst (λ other. TellsLoop name other other) (sym is) tt

pub leaves-none : (o : Option Desk) (name : Name) → o ≡ None → Leaves name o o name
leaves-none o name is = subst (λ other. Leaves name other other name) (sym is) refl

-- a name that came back from the deck, of which the backend was asked
pub then-backend : {A : Type 0} {b b' b'' : Backing} (name back : Name) (d d' d'' : Option Desk) (answer : Result A Name) →
    Leaves name d d' back → d'' ≡ d' → b' ≡ b → IfOk answer (λ _. IsTakenBy back b' b'') → IfErr answer (IsRefusedBy back b' b'') →
    (EntersDesk name d d'' × (b'' ≡ b)) ⊎ ((back : Name) × Leaves name d d'' back × AsksBackend back b b'')
then-backend {b'' = b''} name back d d' d'' answer left desk_is backing_is taken refused =
    inr (
      back,
      subst (λ (o : Option Desk). Leaves name d o back) (sym desk_is) left,
      subst (λ (one : Backing). AsksBackend back one b'') backing_is (either-came answer taken refused),
    )

-- and one that came back from the backend, of which the deck was asked
pub then-deck : {A : Type 0} {b b' b'' : Backing} (name back : Name) (d d' d'' : Option Desk) (answer : Result A Name) →
    IsRefusedBy name b b' back → b'' ≡ b' → d' ≡ d → IfOk answer (λ _. EntersDesk back d' d'') → IfErr answer (Leaves back d' d'') →
    ((d'' ≡ d) × IsTakenBy name b b'') ⊎ ((back : Name) × IsRefusedBy name b b'' back × AsksDeck back d d'')
then-deck {b = b} name back d d' d'' answer refused backing_is desk_is enters left =
    inr (
      back,
      subst (λ (one : Backing). IsRefusedBy name b one back) (sym backing_is) refused,
      subst (λ (o : Option Desk). AsksDeck back o d'') desk_is (either-came answer enters left),
    )

-- a name that isn't the first since the backend was asked, and one that is
module _ {b b' : Backing} (name : Name) (own own' : Bool) (d d' : Option Desk) where
  pub kept-other : own ≡ true → (EntersDesk name d d' × (b' ≡ b)) ⊎ ((back : Name) × Leaves name d d' back × AsksBackend back b b') →
      KeepsWhere own name (stores d own b) (stores d' own' b')
  kept-other is goes = subst (λ (one : Bool). KeepsWhere one name (stores d own b) (stores d' own' b')) (sym is) goes

  pub kept-first : own ≡ false → ((d' ≡ d) × IsTakenBy name b b') ⊎ ((back : Name) × IsRefusedBy name b b' back × AsksDeck back d d') →
      KeepsWhere own name (stores d own b) (stores d' own' b')
  kept-first is goes = subst (λ (one : Bool). KeepsWhere one name (stores d own b) (stores d' own' b')) (sym is) goes
