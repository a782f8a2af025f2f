-- What holds of the digits of a tenth and of one digit more holds of every number's; how many digits a number has at most.
-- Assumes nothing.
use Prim.Native.Nat.{ℕ, zero, suc, ◌+◌, ◌*◌, ◌/◌, ◌%◌, ◌^◌, ◌≤◌, ◌<◌, max}
use native.Mathlib.Omega.{arith}
use native.Mathlib.Nat.{pow-suc, one-le-pow}
use native.Mathlib.Decide.{dec_lt}
use mathlib.Core.Path.{◌≡◌}
use mathlib.Core.List.{List, [], ◌∷◌, ◌++◌}
use lib.ListN.{length, length-append}
use Rattle.digits.specs.Text.{digit, decimal}
use Rattle.digits.proofs.Figures.{decimal_one, decimal_more, length_some, length_more}

-- what holds of one digit, and of one digit more than a tenth has, holds of the digits of every number
module _ (P : ℕ → List ℕ → Type 0)
    (one : (n : ℕ) → n < 10 → P n (digit n ∷ []))
    (more : (n : ℕ) → 10 ≤ n → P (n / 10) (decimal (n / 10)) → P n (decimal (n / 10) ++ (digit (n % 10) ∷ []))) where
  turn : (n : ℕ) → Dec (n < 10) → (10 ≤ n → P (n / 10) (decimal (n / 10))) → P n (decimal n)
  turn n (yes small) tenth = rw (decimal_one n small) (one n small)
  turn n (no large) tenth = let ten : 10 ≤ n = omega arith in rw (decimal_more n ten) (more n ten (tenth ten))

  below : (m n : ℕ) → n < m → P n (decimal n)
  below zero n h = absurd {0} (omega arith)
  below (suc m) n h = turn n (dec_lt n 10) (λ ten. below m (n / 10) (omega arith))

  pub by_digits : (n : ℕ) → P n (decimal n)
  by_digits n = below (suc n) n (omega arith)

-- A number under a power of ten has at most as many digits.
pub decimal_within : (n k : ℕ) → n < 10 ^ suc k → length (decimal n) ≤ suc k
decimal_within =
    by_digits (λ n l. (k : ℕ) → n < 10 ^ suc k → length l ≤ suc k)
    (λ n small k h. omega arith)
    more
  where
    more : (n : ℕ) → 10 ≤ n → ((k : ℕ) → n / 10 < 10 ^ suc k → length (decimal (n / 10)) ≤ suc k)
        → (k : ℕ) → n < 10 ^ suc k → length (decimal (n / 10) ++ (digit (n % 10) ∷ [])) ≤ suc k
    more n ten shorter zero h = absurd {0} (omega arith)
    more n ten shorter (suc k) h = rw length-append (omega (arith, shorter k (omega (arith, pow-suc 10 (suc k)))))

-- A number from a power of ten on has more digits than the power.
pub reaches : (k n : ℕ) → 10 ^ k ≤ n → k < length (decimal n)
reaches zero n h = length_some n
reaches (suc k) n h =
    let ten : 10 ≤ n = omega (arith, pow-suc 10 k, one-le-pow k 10 (omega arith)) in
    omega (arith, length_more n ten, reaches k (n / 10) (omega (arith, pow-suc 10 k)))

-- How many digits a number has: one more than its logarithm, 0 as many as 1.
pub decimal_width : (n k : ℕ) → 10 ^ k ≤ max n 1 → n < 10 * 10 ^ k → k + 1 ≡ length (decimal n)
decimal_width n zero low high = omega (arith, length_some n, decimal_within n 0 (omega arith))
decimal_width n (suc k) low high =
    let some : 1 ≤ n = omega (arith, pow-suc 10 k, one-le-pow k 10 (omega arith)) in
    omega (arith, reaches (suc k) n (omega arith), decimal_within n (suc k) (omega (arith, pow-suc 10 (suc k))))
