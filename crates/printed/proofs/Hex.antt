-- A byte in hex: two capital digits, and no two bytes alike.
-- Assumes nothing.
use Prim.Native.Nat.{ℕ, ◌+◌, ◌-◌, ◌/◌, ◌%◌, ◌≤◌, ◌<◌}
use native.Mathlib.Omega.{arith}
use mathlib.Core.Path.{◌≡◌, refl, ap}
use mathlib.Core.Logic.{◌⊎◌, inl, inr}
use mathlib.Core.List.{List}
use lib.ListN.{length, get_or}
use lib.Dec.{ltb}
use borrow.Author.Tests.{ltb-true, ltb-false, lt-ltb, le-ltb}
use Rattle.choice.specs.Choice.{pick}
use Rattle.choice.proofs.ByTest.{by_test}
use Rattle.digits.specs.Text.{hex_digit, hex_byte}

pub hex_byte_length : (b : ℕ) → length (hex_byte b) ≡ 2
hex_byte_length b = refl

-- A digit is 0 to 9 or A to F.
pub hex_digit_capital : (d : ℕ) → d < 16 → ((48 ≤ hex_digit d) × (hex_digit d ≤ 57)) ⊎ ((65 ≤ hex_digit d) × (hex_digit d ≤ 70))
hex_digit_capital d h =
    by_test (λ (c : ℕ). ((48 ≤ c) × (c ≤ 57)) ⊎ ((65 ≤ c) × (c ≤ 70))) (ltb d 10)
    (λ e. inl (omega (arith, ltb-true d 10 e)))
    (λ e. inr (omega (arith, ltb-false d 10 e)))

-- the number that a digit says
value_of : ℕ → ℕ
value_of c = pick (ltb c 58) (c - 48) (c - 55)

digit_value : (d : ℕ) → d < 16 → value_of (hex_digit d) ≡ d
unfolding value_of pick
digit_value d h =
    by_test (λ (c : ℕ). value_of c ≡ d) (ltb d 10)
    (λ e. let small : d < 10 = ltb-true d 10 e in rw (lt-ltb (48 + d) 58 (omega arith)) (omega arith))
    (λ e. let large : 10 ≤ d = ltb-false d 10 e in rw (le-ltb (55 + d) 58 (omega arith)) (omega arith))

-- Two bytes never print alike.
pub hex_byte_apart : (a b : ℕ) → a < 256 → b < 256 → hex_byte a ≡ hex_byte b → a ≡ b
hex_byte_apart a b ha hb e =
    let first : value_of (hex_digit (a / 16)) ≡ value_of (hex_digit (b / 16)) = ap (λ (l : List ℕ). value_of (get_or l 0 0)) e in
    let second : value_of (hex_digit (a % 16)) ≡ value_of (hex_digit (b % 16)) = ap (λ (l : List ℕ). value_of (get_or l 1 0)) e in
    omega (arith, digit_value (a / 16) (omega arith), digit_value (b / 16) (omega arith), digit_value (a % 16) (omega arith), digit_value (b % 16) (omega arith))
