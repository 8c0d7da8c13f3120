-- The bits of `PickerOptions` that a pick asks for, the bits of `PickerFlags` that it sets, and the places of the seven counters.
-- Assumes nothing.
use Rattle.std.specs.Prelude.{ℕ}

-- ---- options
abbrev pub rarest_first : ℕ
rarest_first = 1

abbrev pub reverse : ℕ
reverse = 2

abbrev pub on_parole : ℕ
on_parole = 4

abbrev pub prioritize_partials : ℕ
prioritize_partials = 8

abbrev pub sequential : ℕ
sequential = 16

abbrev pub align_expanded_pieces : ℕ
align_expanded_pieces = 64

abbrev pub piece_extent_affinity : ℕ
piece_extent_affinity = 128

-- ---- flags
abbrev pub partial_ratio : ℕ
partial_ratio = 1

abbrev pub prioritized_partials : ℕ
prioritized_partials = 2

abbrev pub rarest_first_partials : ℕ
rarest_first_partials = 4

abbrev pub rarest_first_pieces : ℕ
rarest_first_pieces = 8

abbrev pub reverse_rarest_first : ℕ
reverse_rarest_first = 16

abbrev pub suggested_pieces : ℕ
suggested_pieces = 32

abbrev pub prio_sequential_pieces : ℕ
prio_sequential_pieces = 64

abbrev pub sequential_pieces : ℕ
sequential_pieces = 128

abbrev pub random_pieces : ℕ
random_pieces = 1024

abbrev pub prefer_contiguous : ℕ
prefer_contiguous = 2048

abbrev pub reverse_sequential : ℕ
reverse_sequential = 4096

abbrev pub backup1 : ℕ
backup1 = 8192

abbrev pub end_game : ℕ
end_game = 32768

abbrev pub extent_affinity : ℕ
extent_affinity = 65536

-- ---- counters, in document 01's order
abbrev pub num_counters : ℕ
num_counters = 7

-- their places
abbrev pub partial_loops : ℕ
partial_loops = 0

abbrev pub suggest_loops : ℕ
suggest_loops = 1

abbrev pub reverse_rare_loops : ℕ
reverse_rare_loops = 2

abbrev pub rare_loops : ℕ
rare_loops = 3

abbrev pub rand_start_loops : ℕ
rand_start_loops = 4

abbrev pub rand_loops : ℕ
rand_loops = 5

abbrev pub busy_loops : ℕ
busy_loops = 6
