-- What the location of live threads holds: their number, and a flag for each thread, which says that its next command that would wait is cancelled.
use Rattle.std.specs.Prelude.{ℕ, ◌+◌, ◌-◌, ◌%◌, ◌^◌, ◌≤◌, ◌==◌, Bool, bit_and, bit_or}
use Rattle.std.specs.Int.{bit_at, bit_not, w32}
use Rattle.kc_script_bundle.specs.declared.bundle.TheConstants.{MOST_THREADS}
use Rattle.kc_script_bundle.specs.declared.live.TheConstants.{LIVE_BITS}

-- threads are numbered from 1 on
abbrev pub IsThreadNumber : ℕ → Type 0
IsThreadNumber thread = (1 ≤ thread) × (thread ≤ MOST_THREADS)

-- bits 15 to 0
abbrev pub live_threads : ℕ → ℕ
live_threads v = v % 2 ^ LIVE_BITS

-- bit 15 + T is the flag of thread T
abbrev pub flag_bit : ℕ → ℕ
flag_bit thread = LIVE_BITS - 1 + thread

abbrev pub flag_of : ℕ → ℕ
flag_of thread = 2 ^ flag_bit thread

abbrev pub is_flagged : ℕ → ℕ → Bool
is_flagged thread v = bit_at v (flag_bit thread) == 1

abbrev pub flagged : ℕ → ℕ → ℕ
flagged thread v = bit_or v (flag_of thread)

abbrev pub cleared : ℕ → ℕ → ℕ
cleared thread v = bit_and v (bit_not w32 (flag_of thread))
