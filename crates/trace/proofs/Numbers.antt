-- What stands at a place, by the bytes there: nothing, one byte, or two and more.
-- Assumes nothing.
use Rattle.std.proofs.Common.{ℕ, ◌+◌, ◌-◌, ◌*◌, ◌<◌, ◌≤◌, ◌≡◌, List, [], ◌∷◌, length, get_or, drop, arith, add-one}
use Prim.Native.Nat.{suc}
use lib.ListN.{drop_of_length-le}
use lib.Seq.{drop-cons}
use borrow.Author.Tests.{lt-ltb, le-ltb, le-leb, lt-leb, eq-eqb, ne_eqb}
use Rattle.choice.specs.Choice.{pick}
use Rattle.trace.specs.Number.{value, refused, number_from, number_at}
use Rattle.trace.proofs.Within.{one_byte}

-- the bytes from a place on: none, the last one, or two and the others
none : (s : List ℕ) (at : ℕ) → length s ≤ at → drop at s ≡ []
none s at h = drop_of_length-le s h

single : (s : List ℕ) (at : ℕ) → at < length s → length s ≤ at + 1 → drop at s ≡ get_or s at 0 ∷ []
single s at h l = rw (drop-cons s at 0 h, ← add-one at, none s (at + 1) l)

double : (s : List ℕ) (at : ℕ) → at + 1 < length s → drop at s ≡ get_or s at 0 ∷ get_or s (at + 1) 0 ∷ drop (suc (at + 1)) s
double s at h = let l : at < length s = omega arith in rw (drop-cons s at 0 l, ← add-one at, drop-cons s (at + 1) 0 h)

pub number_none : (s : List ℕ) (at : ℕ) → length s ≤ at → number_at s at ≡ refused 1
unfolding number_from
number_none s at h = rw (none s at h)

pub number_low : (s : List ℕ) (at : ℕ) → at < length s → get_or s at 0 < 128 → number_at s at ≡ value (get_or s at 0) (at + 1)
number_low s at h l = rw (drop-cons s at 0 h) (one_byte at (get_or s at 0) (drop (suc at) s) (lt-ltb _ _ l))

pub number_cut : (s : List ℕ) (at : ℕ) → at < length s → length s ≤ at + 1 → 128 ≤ get_or s at 0 → number_at s at ≡ refused 1
unfolding number_from pick
number_cut s at h l g = rw (single s at h l, le-ltb _ _ g)

pub number_long : (s : List ℕ) (at : ℕ) → at + 1 < length s → 128 ≤ get_or s at 0 → get_or s (at + 1) 0 ≡ 0 → number_at s at ≡ refused 2
unfolding number_from pick
number_long s at h g z = rw (double s at h, le-ltb _ _ g, eq-eqb _ _ z)

pub number_third : (s : List ℕ) (at : ℕ) → at + 1 < length s → 128 ≤ get_or s at 0 → 128 ≤ get_or s (at + 1) 0 → number_at s at ≡ refused 2
unfolding number_from pick
number_third s at h g t = rw (double s at h, le-ltb _ _ g, ne_eqb (get_or s (at + 1) 0) 0 (λ z. omega arith), le-leb _ _ t)

pub number_two : (s : List ℕ) (at : ℕ) → at + 1 < length s → 128 ≤ get_or s at 0 → 0 < get_or s (at + 1) 0 → get_or s (at + 1) 0 < 128
    → number_at s at ≡ value (get_or s at 0 - 128 + 128 * get_or s (at + 1) 0) (at + 2)
unfolding number_from pick
number_two s at h g p t = rw (double s at h, le-ltb _ _ g, ne_eqb (get_or s (at + 1) 0) 0 (λ z. omega arith), lt-leb _ _ t)

pub ruleset by_bytes = (number_none, number_low, number_cut, number_long, number_third, number_two)
