-- A text in a buffer: where it fits it stands there whole, and nothing else of the buffer changes.
-- Assumes nothing.
use Prim.Native.Nat.{ℕ, suc, ◌+◌, ◌≤◌}
use native.Mathlib.Omega.{arith}
use native.Mathlib.Nat.{add-zero}
use native.Mathlib.Numerals.{add-one}
use mathlib.Core.Path.{◌≡◌, refl, ◌∙◌}
use mathlib.Core.List.{List, [], ◌∷◌, ◌++◌, append-nil}
use lib.ListN.{length, take, drop, set, length-set}
use lib.Seq.{take-suc-set, take-set-le, take-take, drop-set-lt, append_snoc}
use Rattle.digits.specs.Text.{overlay}

-- the place after one byte more
step : (at n : ℕ) → at + suc n ≡ at + 1 + n
step at n = omega arith

-- Two texts one after the other are the second written after the first.
pub overlay_append : (at : ℕ) (a b out : List ℕ) → overlay at (a ++ b) out ≡ overlay (at + length a) b (overlay at a out)
unfolding overlay
overlay_append at [] b out = rw add-zero
overlay_append at (x ∷ a) b out = rw (step at (length a)) (overlay_append (at + 1) a b (set out at x))

-- The buffer keeps its length.
pub overlay_length : (at : ℕ) (text out : List ℕ) → length (overlay at text out) ≡ length out
unfolding overlay
overlay_length at [] out = refl
overlay_length at (b ∷ text) out = overlay_length (at + 1) text (set out at b) ∙ length-set out at b

-- Where the text fits, it stands behind what stood before its place.
pub overlay_take : (at : ℕ) (text out : List ℕ) → at + length text ≤ length out
    → take (at + length text) (overlay at text out) ≡ take at out ++ text
unfolding overlay
overlay_take at [] out fits = rw (add-zero, append-nil)
overlay_take at (b ∷ text) out fits =
    rw (
      step at (length text),
      overlay_take (at + 1) text (set out at b) (rw length-set (omega arith)),
      add-one at,
      take-suc-set out at b (omega arith),
      append_snoc,
    )

-- Nothing before its place changes, wherever the buffer ends.
pub overlay_before : (at : ℕ) (text out : List ℕ) → take at (overlay at text out) ≡ take at out
unfolding overlay
overlay_before at [] out = refl
overlay_before at (b ∷ text) out =
    rw (
      ← take-take at (at + 1) (overlay (at + 1) text (set out at b)) (omega arith),
      overlay_before (at + 1) text (set out at b),
      take-take at (at + 1) (set out at b) (omega arith),
      take-set-le at out at b (omega arith),
    )

-- Nothing after the text changes.
pub overlay_rest : (at : ℕ) (text out : List ℕ) → drop (at + length text) (overlay at text out) ≡ drop (at + length text) out
unfolding overlay
overlay_rest at [] out = refl
overlay_rest at (b ∷ text) out =
    rw (
      step at (length text),
      overlay_rest (at + 1) text (set out at b),
      drop-set-lt (at + 1 + length text) out at b (omega arith),
    )
