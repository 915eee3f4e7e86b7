-- Buckets: in which bucket a pair stands.
use Rattle.std.specs.Prelude.{ℕ, ◌+◌, ◌*◌, ◌/◌, ◌%◌, ◌==◌, nat_le, if◌then◌else◌}
use Rattle.timer_wheel.specs.declared.buckets.TheConstants.{LAP, LONG_LAP, READY}

-- the bucket of a due turn: of those that have come, or by the shortest lap that it shares with
-- the present turn
unfoldable pub bucket_of : ℕ → ℕ → ℕ
bucket_of turn due =
    if nat_le due turn then READY
    else (if due / LAP == turn / LAP then due % LAP
    else (if due / LONG_LAP == turn / LONG_LAP then LAP + due / LAP % LAP
    else 2 * LAP + due / LONG_LAP % LAP))
