-- The digits of a number: one below ten, else those of its tenth and the last one.
-- Assumes nothing.
use Prim.Native.Nat.{ℕ, zero, suc, ◌+◌, ◌/◌, ◌%◌, ◌≤◌, ◌<◌}
use native.Mathlib.Omega.{arith}
use native.Mathlib.Nat.{add-zero}
use native.Mathlib.Numerals.{add-one}
use native.Mathlib.Decide.{dec_lt}
use mathlib.Core.Path.{◌≡◌, refl, ap}
use mathlib.Core.Bool.{Bool, true, false}
use mathlib.Core.List.{List, [], ◌∷◌, ◌++◌}
use lib.ListN.{length, length-append}
use lib.Dec.{ltb}
use borrow.Author.Tests.{lt-ltb, le-ltb, ltb-false}
use Rattle.choice.specs.Choice.{pick}
use Rattle.choice.proofs.ByTest.{by_test}
use Rattle.digits.specs.Text.{overlay, digit, last_digits, decimal}
use Rattle.digits.proofs.Places.{last_byte}

-- choices by one test are the same where what they choose when it fails is
same_choice : (test : Bool) (x y z : List ℕ) → (test ≡ false → y ≡ z) → pick test x y ≡ pick test x z
unfolding pick
same_choice true x y z e = refl
same_choice false x y z e = e refl

-- more than enough digits are the same digits
enough : (most more n : ℕ) → n < most → n < more → last_digits most n ≡ last_digits more n
unfolding last_digits
enough zero more n h k = absurd {0} (omega arith)
enough (suc most) zero n h k = absurd {0} (omega arith)
enough (suc most) (suc more) n h k =
    same_choice (ltb n 10) _ _ _ (λ e. let ten : 10 ≤ n = ltb-false n 10 e in rw (enough most more (n / 10) (omega arith) (omega arith)))

-- one digit is the last, and of more the others are a tenth's
last_one : (most n : ℕ) → n < 10 → last_digits (suc most) n ≡ digit n ∷ []
unfolding last_digits pick
last_one most n h = rw (lt-ltb n 10 h)

last_more : (most n : ℕ) → 10 ≤ n → last_digits (suc most) n ≡ last_digits most (n / 10) ++ (digit (n % 10) ∷ [])
unfolding last_digits pick
last_more most n h = rw (le-ltb n 10 h)

pub decimal_one : (n : ℕ) → n < 10 → decimal n ≡ digit n ∷ []
unfolding decimal
decimal_one n h = last_one n n h

pub decimal_more : (n : ℕ) → 10 ≤ n → decimal n ≡ decimal (n / 10) ++ (digit (n % 10) ∷ [])
unfolding decimal
decimal_more n h = rw (last_more n n h, enough n (suc (n / 10)) (n / 10) (omega arith) (omega arith))

pub length_more : (n : ℕ) → 10 ≤ n → length (decimal n) ≡ length (decimal (n / 10)) + 1
length_more n h = rw (decimal_more n h, length-append)

pub length_some : (n : ℕ) → 1 ≤ length (decimal n)
unfolding decimal last_digits
length_some n =
    by_test (λ (l : List ℕ). 1 ≤ length l) (ltb n 10) (λ _. omega arith) (λ _. omega (arith, length-append (last_digits n (n / 10)) (digit (n % 10) ∷ [])))

-- As many last digits as a number has are the number's.
counted : (most n : ℕ) → n < most → last_digits (length (last_digits most n)) n ≡ last_digits most n
counted zero n h = absurd {0} (omega arith)
counted (suc most) n h = by_size (dec_lt n 10) (λ ten. counted most (n / 10) (omega arith))
  where
    by_size : Dec (n < 10) → (10 ≤ n → last_digits (length (last_digits most (n / 10))) (n / 10) ≡ last_digits most (n / 10))
        → last_digits (length (last_digits (suc most) n)) n ≡ last_digits (suc most) n
    by_size (yes small) tenth = rw (last_one most n small) (last_one 0 n small)
    by_size (no large) tenth =
        let ten : 10 ≤ n = omega arith in
        rw (last_more most n ten, length-append, add-one, last_more _ n ten, tenth ten)

pub all_digits : (n : ℕ) → last_digits (length (decimal n)) n ≡ decimal n
unfolding decimal
all_digits n = counted (suc n) n (omega arith)

-- The last of so many digits written first, where a number has no fewer; the others are a tenth's.
pub digit_before : (at k n : ℕ) (out : List ℕ) → length (last_digits (suc k) n) ≡ suc k
    → (length (last_digits k (n / 10)) ≡ k)
    × (overlay at (last_digits (suc k) n) out ≡ overlay at (last_digits k (n / 10)) (overlay (at + k) (digit (n % 10) ∷ []) out))
unfolding last_digits overlay
digit_before at k n out e = by_size k (dec_lt n 10) e
  where
    by_size : (k : ℕ) → Dec (n < 10) → length (last_digits (suc k) n) ≡ suc k
        → (length (last_digits k (n / 10)) ≡ k)
        × (overlay at (last_digits (suc k) n) out ≡ overlay at (last_digits k (n / 10)) (overlay (at + k) (digit (n % 10) ∷ []) out))
    by_size zero (yes small) e =
        let d : n % 10 ≡ n = omega arith in
        (refl, rw (last_one 0 n small, add-zero, d))
    by_size (suc k) (yes small) e = absurd {0} (omega (arith, ap length (last_one (suc k) n small)))
    by_size k (no large) e =
        let ten : 10 ≤ n = omega arith in
        let l : length (last_digits k (n / 10)) ≡ k = omega (arith, ap length (last_more k n ten), length-append (last_digits k (n / 10)) (digit (n % 10) ∷ [])) in
        (l, rw (last_more k n ten, last_byte, l))
