-- The calls of an object in memory, numbered from 1, and those among them that are to fail.
use Rattle.std.specs.Prelude.{ℕ, ◌+◌, ◌-◌, ◌^◌, ◌==◌, min, Bool, List, if◌then◌else◌}
use Rattle.std.specs.List.{list_any}

-- The numbers of the calls that are to fail, how many calls were made, and how many of them failed.
pub record Calls : Type 0 where
  pub fails : List ℕ
  pub made : ℕ
  pub faults : ℕ

-- Before the first call.
abbrev pub no_calls : List ℕ → Calls
no_calls fails = record { fails = fails; made = 0; faults = 0 }

-- One more, up to the last value of the counter's type.
abbrev pub one_more : ℕ → ℕ
one_more count = min (count + 1) (2 ^ 64 - 1)

-- Is the next call one of those that are to fail?
abbrev pub is_to_fail : Calls → Bool
is_to_fail calls = list_any (λ number. number == one_more calls.made) calls.fails

-- After one more fault.
abbrev pub after_fault : Calls → Calls
after_fault calls = record calls { faults = one_more calls.faults }

-- After one more call, which failed or didn't.
abbrev pub after_call : Calls → Bool → Calls
after_call calls failed =
    let counted = record calls { made = one_more calls.made } in
    if failed then after_fault counted else counted
