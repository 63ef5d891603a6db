-- The version of the C library; include/ssp/version.h has the same numbers and says when each moves.
use Rattle.std.specs.Prelude.{ℕ, ◌+◌, ◌*◌}

abbrev pub MAJOR : ℕ
MAJOR = 1

abbrev pub MINOR : ℕ
MINOR = 3

abbrev pub PATCH : ℕ
PATCH = 0

-- one number that compares
abbrev pub VERSION : ℕ
VERSION = MAJOR * 10_000 + MINOR * 100 + PATCH

-- moves where a program that was compiled before can no longer be linked: a record's layout, a function's parameters or result
abbrev pub INTERFACE : ℕ
INTERFACE = 4
