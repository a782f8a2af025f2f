-- The laws of RXFIFO1 to 3: a take gives the head and leaves the tail, a packet that fits is appended whole.
-- The counters are under 256 and the memory has its 392 bytes.
-- Assumes nothing.
use Prim.Native.Nat.{ℕ}
use native.Mathlib.Omega.{arith}
use mathlib.Core.Path.{◌≡◌, refl}
use mathlib.Core.Logic.{◌≢◌}
use mathlib.Core.Bool.{true, false}
use mathlib.Core.List.{List, [], ◌∷◌, ◌++◌}
use lib.ListN.{length}
use borrow.Author.Tests.{leb-true, eq-eqb, ne_eqb}
use Rattle.choice.specs.Choice.{pick}
use Rattle.choice.proofs.ByTest.{by_test}
use Rattle.window.specs.declared.FifoNumber.{FifoNumber}
use Rattle.rxfifo.specs.declared.RxFifo.{RxFifo}
use Rattle.window.specs.declared.Kind.TheVariants.{Receive}
use Rattle.window.specs.Window.{rx_size, start_of}
use Rattle.ring.specs.declared.Taken.{Taken}
use Rattle.ring.specs.Ring.{level}
use Rattle.rxfifo.specs.Receive.{reset_rx, rx_contents, take_rx, fits_rx, fill_rx, fill_rx_bytes}
use Rattle.contents.proofs.Ring.{sixty_four, Counters, level_length, head_tail, contents_spent, store_all_appends}
use Rattle.contents.proofs.Windows.{Kept, unchanged_kept, store_all_kept, window_fits}

-- what a take gives is the head of the list and the new last byte; what it leaves is the tail
pub record TakesRx (n : FifoNumber) (f : RxFifo) (m : List ℕ) (r : Taken RxFifo) : Type 0 where
  pub list : rx_contents n f m ≡ r.value ∷ rx_contents n r.next m
  pub taken : r.taken ≡ true
  pub last : r.next.last ≡ r.value

module _ (n : FifoNumber) (f : RxFifo) (m : List ℕ) where
  -- The level is the number of bytes held.
  pub rx_contents_length : length (rx_contents n f m) ≡ level f.read f.write
  rx_contents_length = level_length (start_of Receive n) rx_size m f.read f.write

  -- A take with no byte held repeats the last one, takes none and changes nothing.
  pub take_rx_none : level f.read f.write ≡ 0 → take_rx n f m ≡ record { next = f; value = f.last; taken = false }
  unfolding take_rx pick
  take_rx_none none = rw (eq-eqb _ 0 none)

  -- A take with bytes held gives the first and leaves the others.
  pub take_rx_some : Counters f.read f.write → level f.read f.write ≢ 0 → TakesRx n f m (take_rx n f m)
  unfolding take_rx pick
  take_rx_some c some =
      rw (ne_eqb _ 0 some) (record { list = head_tail (start_of Receive n) rx_size m f.read f.write c some; taken = refl; last = refl })

  -- A packet that fits stands whole behind what was held.
  pub fill_rx_appends : (s : List ℕ) → Counters f.read f.write → length m ≡ 392 → fits_rx f (length s) ≡ true
      → rx_contents n (fill_rx f s) (fill_rx_bytes n f s m) ≡ rx_contents n f m ++ s
  unfolding fill_rx pick
  fill_rx_appends s c l room =
      rw room (store_all_appends sixty_four (start_of Receive n) s m f.read f.write (window_fits Receive n m l) c (leb-true _ _ room))

  -- A packet that does not fit changes nothing.
  pub fill_rx_ignored : (s : List ℕ) → fits_rx f (length s) ≡ false → (fill_rx f s ≡ f) × (fill_rx_bytes n f s m ≡ m)
  unfolding fill_rx pick
  fill_rx_ignored s over = rw over (refl, refl)

  -- A packet keeps the length of the memory, and every window apart from its own.
  pub fill_rx_kept : (s : List ℕ) → Kept (start_of Receive n) rx_size m (fill_rx_bytes n f s m)
  fill_rx_kept s =
      by_test (Kept (start_of Receive n) rx_size m) _
      (λ _. store_all_kept sixty_four (start_of Receive n) f.write s m)
      (λ _. unchanged_kept (start_of Receive n) rx_size m)

  -- A flush leaves nothing received.
  pub reset_rx_empties : rx_contents n reset_rx m ≡ []
  reset_rx_empties = contents_spent (start_of Receive n) rx_size m 0 (omega arith)
