-- Text written into a buffer, and numbers and bytes as ASCII digits.
-- 01: "Hex: two capital digits a byte, no spaces; n, p decimal".
use Rattle.std.specs.Prelude.{ℕ, zero, suc, ◌+◌, ◌/◌, ◌%◌, ◌≤◌, ◌≡◌, List, [], ◌∷◌, ◌++◌, length, set, ltb}
use Rattle.choice.specs.Choice.{pick}

-- a text written from a place on, as far as the buffer goes: a byte set past the end changes nothing
unfoldable pub overlay : ℕ → List ℕ → List ℕ → List ℕ
overlay at [] out = out
overlay at (b ∷ text) out = overlay (at + 1) text (set out at b)

-- 0 to 9
abbrev pub digit : ℕ → ℕ
digit d = 48 + d

-- the last digits of a number, at most so many, with no leading zeros
unfoldable pub last_digits : ℕ → ℕ → List ℕ
last_digits zero n = []
last_digits (suc most) n = pick (ltb n 10) (digit n ∷ []) (last_digits most (n / 10) ++ (digit (n % 10) ∷ []))

-- "n, p decimal": all digits of a number, which are never more than n + 1
unfoldable pub decimal : ℕ → List ℕ
decimal n = last_digits (suc n) n

-- 0 to 9, A to F
abbrev pub hex_digit : ℕ → ℕ
hex_digit d = pick (ltb d 10) (digit d) (55 + d)

-- "two capital digits a byte"
abbrev pub hex_byte : ℕ → List ℕ
hex_byte b = hex_digit (b / 16) ∷ hex_digit (b % 16) ∷ []

-- a number written: how many digits, which for a u64 are 20 at most, and the buffer
pub record Written (at n : ℕ) (out : List ℕ) (r : ℕ) (out' : List ℕ) : Type 0 where
  pub width : r ≡ length (decimal n)
  pub most : r ≤ 20
  pub bytes : out' ≡ overlay at (decimal n) out
