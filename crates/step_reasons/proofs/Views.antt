-- What the cells of a view tell.
use Rattle.std.proofs.Common.{◌≡◌, ℕ, ◌<◌, Bool, true, false, ◌&&◌, sym, ap, ◌∙◌, subst}
use Rattle.std.specs.Prelude.{is_some, nat_lt, nat_le}
use Rattle.std.proofs.lemmas.Bool.{and_parts, ltb-true}
use Rattle.common_lemmas.specs.Sums.{one}
use Rattle.exec_life.specs.Reading.{TellsView}
use Rattle.exec_life.specs.ViewLists.{ViewLists, KnowsSource, scan_in}
use Rattle.life_rules.specs.declared.event.SourceAt.{SourceAt}
use Rattle.life_rules.specs.declared.event.SourceAt.TheVariants.{Scope, At}
use Rattle.life_rules.specs.States.{State, size}
use Rattle.life_rules.specs.StopSteps.{source_of}
use Rattle.step_reasons.specs.Scanning.{is_known, scans}

-- a test as a number is at least 1 where it holds
pub one-least : (n : ℕ) (b : Bool) → n ≡ one b → b ≡ nat_le 1 n
one-least n true e = ap (nat_le 1) (sym e)
one-least n false e = ap (nat_le 1) (sym e)

pub source-knows : (s : State) (h : ℕ) (v : ViewLists) (at : SourceAt) → TellsView s h v → is_known s at ≡ true → KnowsSource v at
source-knows s h v Scope tells known = tt
source-knows s h v (At p) tells known =
    let parts = and_parts (nat_lt p.block s.blocks) (nat_lt p.node (size s)) known in
    record {
      block = subst (λ (n : ℕ). p.block < n) (sym tells.blocks) (ltb-true p.block s.blocks parts.0);
      node = subst (λ (n : ℕ). p.node < n) (sym tells.nodes) (ltb-true p.node (size s) parts.1);
    }

-- the hand scans the source
pub scans-told : (s : State) (h : ℕ) (v : ViewLists) (at : SourceAt) → TellsView s h v → is_known s at ≡ true → is_some (scan_in v at) ≡ scans s h at
scans-told s h v at tells known =
    ap is_some (sym (tells.scans at)) ∙ sym (ap (λ b. b && is_some ((s.view h).scan (source_of s at))) known)
