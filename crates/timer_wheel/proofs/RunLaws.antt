-- RunLaws: a run goes on by one call, and what a call keeps.
use Rattle.std.proofs.Common.{◌≡◌, ℕ, ◌+◌, true, false, cond, List, [], ◌∷◌, ◌++◌, Some, None, ◌<◌, count_by, length, take, get_or, refl, ap, ◌∙◌, subst, arith}
use Rattle.std.proofs.lemmas.List.{length-set, take_more}
use Rattle.std.proofs.lemmas.List.Sums.{sum_by_more}
use Rattle.timer_wheel.specs.declared.commands.Command.{Command}
use Rattle.timer_wheel.specs.declared.commands.Command.TheVariants.{Add, Remove, Advance, Due}
use Rattle.timer_wheel.specs.declared.commands.Reply.{Reply}
use Rattle.timer_wheel.specs.declared.commands.Reply.TheVariants.{Added, Removed, Advanced, Taken}
use Rattle.timer_wheel.specs.Pairs.{Pairs, places}
use Rattle.timer_wheel.specs.Commands.{is_advance, Step, Run}

-- a run goes on by one call
pub Run-more : (old : Pairs) (commands : List Command) (replies : List Reply) (mid new : Pairs) (command : Command) (reply : Reply)
    → Run old commands replies mid → Step mid command reply new → Run old (commands ++ command ∷ []) (replies ++ reply ∷ []) new
Run-more old [] [] mid new command reply run step = (new, subst (λ p. Step p command reply new) run step, refl)
Run-more old (c ∷ commands) (r ∷ replies) mid new command reply run step =
    (run.0, run.1, Run-more run.0 commands replies mid new command reply run.2 step)
Run-more old [] (r ∷ replies) mid new command reply run step = absurd run
Run-more old (c ∷ commands) [] mid new command reply run step = absurd run

-- a call keeps the number of places
pub Step-places : (old : Pairs) (command : Command) (reply : Reply) (new : Pairs) → Step old command reply new → places new ≡ places old
Step-places old (Add place turns) (Added true) new step =
    ap places step.1 ∙ length-set old.due_turns place (Some (old.turn + turns))
Step-places old (Add place turns) (Added false) new step = ap places step.1
Step-places old (Remove place) (Removed true) new step = ap places step.1 ∙ length-set old.due_turns place None
Step-places old (Remove place) (Removed false) new step = ap places step.1
Step-places old Advance Advanced new step = ap places step
Step-places old Due (Taken (Some place)) new step = ap places step.1 ∙ length-set old.due_turns place None
Step-places old Due (Taken None) new step = ap places step.1
Step-places old command reply new step = absurd step

-- a call goes on to the next turn, or to none
pub Step-turn : (old : Pairs) (command : Command) (reply : Reply) (new : Pairs) → Step old command reply new
    → new.turn ≡ old.turn + cond (is_advance command) 1 0
Step-turn old (Add place turns) (Added true) new step = omega (arith, ap (λ p. p.turn) step.1)
Step-turn old (Add place turns) (Added false) new step = omega (arith, ap (λ p. p.turn) step.1)
Step-turn old (Remove place) (Removed true) new step = omega (arith, ap (λ p. p.turn) step.1)
Step-turn old (Remove place) (Removed false) new step = omega (arith, ap (λ p. p.turn) step.1)
Step-turn old Advance Advanced new step = omega (arith, ap (λ p. p.turn) step)
Step-turn old Due (Taken (Some place)) new step = omega (arith, ap (λ p. p.turn) step.1)
Step-turn old Due (Taken None) new step = omega (arith, ap (λ p. p.turn) step.1)
Step-turn old command reply new step = absurd step

module _ (old mid new : Pairs) (commands : List Command) (i : ℕ) (d : Command) (reply : Reply)
    (within : i < length commands) (step : Step mid (get_or commands i d) reply new) where
  -- a run of the first calls goes on by the next one
  pub Run-next : (replies : List Reply) → Run old (take i commands) replies mid
      → Run old (take (i + 1) commands) (replies ++ reply ∷ []) new
  Run-next replies run =
      rw (take_more commands i d within) (Run-more old (take i commands) replies mid new (get_or commands i d) reply run step)

  -- so many turns have begun
  pub turn-next : mid.turn ≡ old.turn + count_by is_advance (take i commands)
      → new.turn ≡ old.turn + count_by is_advance (take (i + 1) commands)
  turn-next turns =
      let one : Command → ℕ = λ command. cond (is_advance command) 1 0 in
      omega (arith, turns, sum_by_more one commands i d within, Step-turn mid (get_or commands i d) reply new step)
