-- How often something happens in a list of moves.
use Rattle.std.specs.Prelude.{ℕ, ◌+◌, Bool, true, false, not, ◌&&◌, ◌||◌, ◌==◌, nat_lt, List, [], ◌∷◌}
use Rattle.life_rules.specs.declared.event.Event.{Event}
use Rattle.life_rules.specs.declared.event.Event.TheVariants.{Finish, Run, Enter, Leave}
use Rattle.life_rules.specs.declared.event.Name.{Name}
use Rattle.life_rules.specs.declared.words.BlockWord.{BlockWord}
use Rattle.life_rules.specs.declared.words.BlockState.{BlockState}
use Rattle.life_rules.specs.declared.words.BlockState.TheVariants.{Free, Open, Retired}
use Rattle.life_rules.specs.Words.{is_armed}
use Rattle.life_rules.specs.Scopes.{is_refused}
use Rattle.common_lemmas.specs.Sums.{one}
use Rattle.life_rules.specs.Views.{same}
use Rattle.life_rules.specs.States.{State, name_at, phase_at}
use Rattle.life_rules.specs.Steps.{Move, is_step, moved}

-- how many moves of the list are steps that pass the test, each in the state that it meets
abbrev pub times : (State → Move → Bool) → List Move → State → ℕ
times test [] s = 0
times test (m ∷ ms) s = one (is_step s m && test s m) + times test ms (moved s m)

-- the event is a finish of x
abbrev pub is_finish_of : State → Name → Event → Bool
is_finish_of s x (Finish place) = same (name_at s place) x
is_finish_of s x _ = false

abbrev pub finishes : Name → State → Move → Bool
finishes x s m = is_finish_of s x m.event

-- the event is a run of x's callback
abbrev pub is_run_of : State → Name → Event → Bool
is_run_of s x (Run source place) = same (name_at s place) x && is_armed (phase_at s x)
is_run_of s x _ = false

abbrev pub runs_callback : Name → State → Move → Bool
runs_callback x s m = is_run_of s x m.event

-- the event makes an association that is kept
abbrev pub is_entry : State → Event → Bool
is_entry s Enter = not (is_refused s.scope s.most)
is_entry s _ = false

abbrev pub enters : State → Move → Bool
enters s m = is_entry s m.event

-- the event takes leave of an association that was made
abbrev pub is_exit : State → ℕ → Event → Bool
is_exit s h Leave = (s.view h).refused == 0
is_exit s h _ = false

abbrev pub leaves : State → Move → Bool
leaves s m = is_exit s m.hand m.event

abbrev pub is_retired : BlockState → Bool
is_retired Free = false
is_retired Open = false
is_retired Retired = true

-- the block was given back since this generation
abbrev pub is_past : BlockWord → ℕ → Bool
is_past w generation =
    nat_lt generation w.generation || (generation == w.generation && is_retired w.state)

-- the name's generation is over
abbrev pub is_over : State → Name → Bool
is_over s x = is_past (s.block x.block) x.generation
