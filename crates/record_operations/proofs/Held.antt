-- A run over a loop that was changed by a call of its own.
use Rattle.std.proofs.Common.{◌≡◌, ℕ, Bool, sym, subst}
use Rattle.std.specs.Prelude.{Option}
use Rattle.deck_relay.specs.declared.desk.Desk.{Desk}
use Rattle.loop_queue.specs.declared.post.LoopPost.{LoopPost}
use Rattle.plan_shape.specs.Blueprint.{Blueprint}
use Rattle.table_steps.specs.Views.{Board}
use Rattle.run_loop.specs.declared.looped.Loop.{Loop as Looped}
use Rattle.record_operations.specs.Runs.{Run}
use Rattle.record_operations.specs.Sound.{KeepsItsDesk, IsSound}
use Rattle.record_operations.proofs.ServedSounding.{helped-sound}

-- it helps the pool, or no more
pub helped-held : (on : Board Blueprint → Type 0) (before : ℕ) (desk : Option Desk) (post : Option LoopPost) (run : Run) (stepped : Blueprint) (next : ℕ) (spawns helps : Bool)
    (looped : Looped) → looped ≡ record run.looped { helps = helps } → KeepsItsDesk on before desk run stepped next spawns post →
    KeepsItsDesk on before desk (record run { looped = looped }) stepped next spawns post
helped-held on before desk post run stepped next spawns helps looped is held =
    subst (λ (l : Looped). KeepsItsDesk on before desk (record run { looped = l }) stepped next spawns post) (sym is)
    (record { sound = helped-sound on before run stepped next helps held.sound; spawns_is = held.spawns_is; both = held.both })

-- it has other names
pub named-sound : (on : Board Blueprint → Type 0) (before : ℕ) (run : Run) (stepped : Blueprint) (next : ℕ) (looped : Looped) →
    looped ≡ record run.looped { names = looped.names } → IsSound on before (record run { looped = record run.looped { names = looped.names } }) stepped next →
    IsSound on before (record run { looped = looped }) stepped next
named-sound on before run stepped next looped is sound =
    subst (λ (l : Looped). IsSound on before (record run { looped = l }) stepped next) (sym is) sound
