-- Bytes stored in one place's window leave the window of every other place.
-- Assumes nothing.
use Prim.Native.Nat.{ℕ}
use native.Mathlib.Omega.{arith}
use mathlib.Core.Path.{◌≡◌, sym}
use mathlib.Core.Bool.{false, false≢true}
use mathlib.Core.Logic.{◌⊎◌, inl, inr}
use mathlib.Core.List.{List}
use borrow.Author.Tests.{eqb-false}
use Rattle.window.specs.declared.Kind.TheVariants.{Transmit, Receive}
use Rattle.window.specs.Window.{index_of, start_of, size_of}
use Rattle.contents.proofs.Windows.{Apart, Same, Kept, windows_apart}
use Rattle.contents.proofs.Inside.{index_small}
use Rattle.laws.specs.Place.{Place, zero, sends, receives, at, window_of, bytes_at}

abbrev start : Place → ℕ
start p = start_of (window_of p).kind (window_of p).number

abbrev size : Place → ℕ
size p = size_of (window_of p).kind

not_same : (a i b j : ℕ) → Same a i b j ⊎ Apart a i b j → (a ≡ b → ⊥) → Apart a i b j
not_same a i b j (inl s) h = absurd {0} (h s.0)
not_same a i b j (inr d) h = d

-- two places' windows are apart
pub apart : (q p : Place) → at q p ≡ false → Apart (start q) (size q) (start p) (size p)
apart zero zero other = absurd {0} (false≢true (sym other))
apart zero (sends n) other = inl (omega arith)
apart zero (receives n) other = inl (omega arith)
apart (sends k) zero other = inr (omega arith)
apart (sends k) (sends n) other =
    not_same _ _ _ _ (windows_apart Transmit Transmit k n) (λ e. eqb-false (index_of k) (index_of n) other (omega arith))
apart (sends k) (receives n) other = inl (omega (arith, index_small k))
apart (receives k) zero other = inr (omega arith)
apart (receives k) (sends n) other = inr (omega (arith, index_small n))
apart (receives k) (receives n) other =
    not_same _ _ _ _ (windows_apart Receive Receive k n) (λ e. eqb-false (index_of k) (index_of n) other (omega arith))

-- what keeps all but one place's window keeps the others'
pub kept_bytes : (q p : Place) (m m' : List ℕ) → at q p ≡ false → Kept (start q) (size q) m m' → bytes_at p m' ≡ bytes_at p m
kept_bytes q p m m' other k = k.windows (start p) (size p) (apart q p other)
