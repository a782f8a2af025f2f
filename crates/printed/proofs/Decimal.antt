-- The digits of a number: how many they are, that they are digits, and that they say the number.
-- Assumes nothing.
use Prim.Native.Nat.{ℕ, zero, suc, ◌+◌, ◌-◌, ◌*◌, ◌/◌, ◌%◌, ◌^◌, ◌≤◌, ◌<◌}
use native.Mathlib.Omega.{arith}
use mathlib.Core.Path.{◌≡◌, refl, sym, ap, ◌∙◌}
use mathlib.Core.List.{List, [], ◌∷◌, ◌++◌}
use lib.ListN.{length, get_or, get_or-append}
use Rattle.digits.specs.Text.{digit, decimal}
use Rattle.digits.proofs.Figures.{length_some}
use Rattle.digits.proofs.Most.{by_digits, decimal_within, reaches}

pub decimal_length : (n : ℕ) → n < 18446744073709551616 → length (decimal n) ≤ 20
decimal_length n h = decimal_within n 19 (omega arith)

pub decimal_length_5 : (n : ℕ) → n < 100000 → length (decimal n) ≤ 5
decimal_length_5 n h = decimal_within n 4 h

-- A number from a power of ten on has more digits than the power.
pub decimal_reaches : (k n : ℕ) → 10 ^ k ≤ n → k < length (decimal n)
decimal_reaches k n h = reaches k n h

-- every byte of a text is 0 to 9
abbrev pub Digits : List ℕ → Type 0
Digits text = (i : ℕ) → i < length text → (48 ≤ get_or text i 0) × (get_or text i 0 ≤ 57)

digits_last : (text : List ℕ) (d : ℕ) → Digits text → d < 10 → Digits (text ++ (digit d ∷ []))
digits_last [] d others small zero h = omega arith
digits_last [] d others small (suc i) h = absurd {0} (omega arith)
digits_last (x ∷ text) d others small zero h = others zero (omega arith)
digits_last (x ∷ text) d others small (suc i) h = digits_last text d (λ j lt. others (suc j) (omega arith)) small i (omega arith)

-- Every byte is a digit.
pub decimal_digits : (n : ℕ) → Digits (decimal n)
decimal_digits =
    by_digits (λ n l. Digits l)
    (λ n small. digits_last [] n (λ i none. absurd {0} (omega arith)) small)
    (λ n ten others. digits_last (decimal (n / 10)) (n % 10) others (omega arith))

-- The first digit of a number other than 0 is not 0.
pub decimal_leads : (n : ℕ) → 0 < n → 48 < get_or (decimal n) 0 0
decimal_leads =
    by_digits (λ n l. 0 < n → 48 < get_or l 0 0)
    (λ n small some. omega arith)
    (λ n ten leads some. rw (get_or-append (decimal (n / 10)) (digit (n % 10) ∷ []) 0 0 (length_some (n / 10))) (leads (omega arith)))

-- a text of digits read after the value of those before it
value_after : ℕ → List ℕ → ℕ
value_after v [] = v
value_after v (c ∷ text) = value_after (v * 10 + (c - 48)) text

-- The number that a text of digits says.
pub value_of : List ℕ → ℕ
value_of text = value_after 0 text

value_after_last : (v : ℕ) (text : List ℕ) (c : ℕ) → value_after v (text ++ (c ∷ [])) ≡ value_after v text * 10 + (c - 48)
unfolding value_after
value_after_last v [] c = refl
value_after_last v (x ∷ text) c = value_after_last (v * 10 + (x - 48)) text c

-- The digits say the number.
pub decimal_value : (n : ℕ) → value_of (decimal n) ≡ n
unfolding value_of value_after
decimal_value =
    by_digits (λ n l. value_of l ≡ n)
    (λ n small. omega arith)
    (λ n ten e. omega (arith, value_after_last 0 (decimal (n / 10)) (digit (n % 10))))

-- Two numbers never print alike.
pub decimal_apart : (m n : ℕ) → decimal m ≡ decimal n → m ≡ n
decimal_apart m n e = sym (decimal_value m) ∙ ap value_of e ∙ decimal_value n
