-- Bits of a register: whether a byte has one, and what it weighs.
use Rattle.std.specs.Prelude.{ℕ, ◌/◌, ◌%◌, Bool, true, false, eqb}

abbrev pub bit_of : Bool → ℕ
bit_of true = 1
bit_of false = 0

-- the bit of a weight: 2 is bit 1, 128 is bit 7
abbrev pub has : ℕ → ℕ → Bool
has weight v = eqb (v / weight % 2) 1

-- bit 0
abbrev pub odd : ℕ → Bool
odd v = eqb (v % 2) 1
