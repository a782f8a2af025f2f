-- A text is written byte by byte, from either end; past the end of the buffer every place is the same.
-- Assumes nothing.
use Prim.Native.Nat.{ℕ, suc, ◌+◌, ◌≤◌, ◌<◌, min}
use native.Mathlib.Omega.{arith}
use native.Mathlib.Numerals.{add-one}
use native.Mathlib.Decide.{dec_le}
use mathlib.Core.Path.{◌≡◌, refl, sym, ◌∙◌}
use mathlib.Core.List.{List, [], ◌∷◌, ◌++◌}
use lib.ListN.{length, drop, get_or, set}
use lib.Seq.{drop-cons, set_comm, set_out}
use Rattle.digits.specs.Text.{overlay}

-- the first byte first, of what is left from i on
pub first_byte : (at i : ℕ) (s out : List ℕ) → i < length s
    → overlay (at + i) (drop i s) out ≡ overlay (at + (i + 1)) (drop (i + 1) s) (overlay (at + i) (get_or s i 0 ∷ []) out)
unfolding overlay
first_byte at i s out h = let e : at + (i + 1) ≡ at + i + 1 = omega arith in rw (drop-cons s i 0, e, add-one i)

-- the last byte first
pub last_byte : (at : ℕ) (text : List ℕ) (b : ℕ) (out : List ℕ)
    → overlay at (text ++ (b ∷ [])) out ≡ overlay at text (overlay (at + length text) (b ∷ []) out)
unfolding overlay
last_byte at [] b out = let e : at + 0 ≡ at = omega arith in rw e
last_byte at (x ∷ text) b out =
    let e : at + suc (length text) ≡ at + 1 + length text = omega arith in
    rw (e, last_byte (at + 1) text b (set out at x), set_comm out at (at + 1 + length text) x b (omega arith))

-- past the end nothing is written
pub past_end : (at : ℕ) (text out : List ℕ) → length out ≤ at → overlay at text out ≡ out
unfolding overlay
past_end at [] out h = refl
past_end at (b ∷ text) out h = rw (set_out out at b h) (past_end (at + 1) text out (omega arith))

-- a place past the end may be taken for the end
pub same_place : (at : ℕ) (text out : List ℕ) → overlay (min at (length out)) text out ≡ overlay at text out
same_place at text out = go (dec_le at (length out))
  where
    go : Dec (at ≤ length out) → overlay (min at (length out)) text out ≡ overlay at text out
    go (yes in-it) = let e : min at (length out) ≡ at = omega arith in rw e
    go (no past) =
        let e : min at (length out) ≡ length out = omega arith in
        rw e (past_end (length out) text out (omega arith) ∙ sym (past_end at text out (omega arith)))
