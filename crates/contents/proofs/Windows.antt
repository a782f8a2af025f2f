-- The windows of the FIFOs lie in the 392 bytes, apart from each other, so a store in one leaves the others as they were.
-- What a FIFO holds depends on its window alone.
-- Assumes nothing.
use Prim.Native.Nat.{ℕ, zero, suc, ◌+◌, ◌-◌, ◌*◌, ◌%◌, ◌≤◌, ◌<◌}
use native.Mathlib.Omega.{arith}
use native.Mathlib.Decide.{dec_lt}
use mathlib.Core.Path.{◌≡◌, refl, sym, ◌∙◌}
use mathlib.Core.Logic.{◌⊎◌, inl, inr}
use mathlib.Core.List.{List, [], ◌∷◌}
use lib.ListN.{length, get_or, set, drop}
use lib.Seq.{get_or-take, get_or-drop, take-set-le, drop-set-add, drop-set-lt}
use borrow.Author.Tests.{eqb-true, eqb-false}
use Rattle.choice.proofs.ByTest.{by_test}
use Rattle.window.specs.declared.FifoNumber.{FifoNumber}
use Rattle.window.specs.declared.Kind.{Kind}
use Rattle.window.specs.declared.Kind.TheVariants.{Control, Transmit, Receive}
use Rattle.window.specs.Window.{size_of, index_of, start_of, window}
use Rattle.ring.specs.Ring.{next, level, place, byte_at, store, store_all, bytes_from, contents}
use Rattle.contents.proofs.Ring.{Size, place_small, store_length, store_all_length}
use Rattle.contents.proofs.Inside.{index_small, window_inside}

-- the numbers 1 to 3 stand in their order
index_of_lem : (n : FifoNumber) → 1 ≤ n.0 → n.0 ≤ 3 → index_of n + 1 ≡ n.0
unfolding index_of
index_of_lem n low high =
    by_test (λ (i : ℕ). i + 1 ≡ n.0) _ (λ e. omega (arith, eqb-true n.0 1 e)) (λ no1.
    by_test (λ (i : ℕ). i + 1 ≡ n.0) _ (λ e. omega (arith, eqb-true n.0 2 e)) (λ no2.
    omega (arith, eqb-false n.0 1 no1, eqb-false n.0 2 no2)))

-- and so in a memory of as many
pub window_fits : (k : Kind) (n : FifoNumber) (m : List ℕ) → length m ≡ 392 → start_of k n + size_of k ≤ length m
window_fits k n m l = omega (arith, window_inside k n)

-- one window ends before the other starts
abbrev pub Apart : ℕ → ℕ → ℕ → ℕ → Type 0
Apart start size start' size' = (start + size ≤ start') ⊎ (start' + size' ≤ start)

-- they start at the same place and have the same size
abbrev pub Same : ℕ → ℕ → ℕ → ℕ → Type 0
Same start size start' size' = (start ≡ start') × (size ≡ size')

slots_apart : (base i j : ℕ) → Same (base + 64 * i) 64 (base + 64 * j) 64 ⊎ Apart (base + 64 * i) 64 (base + 64 * j) 64
slots_apart base i j = go (dec_lt i j) (dec_lt j i)
  where
    go : Dec (i < j) → Dec (j < i) → Same (base + 64 * i) 64 (base + 64 * j) 64 ⊎ Apart (base + 64 * i) 64 (base + 64 * j) 64
    go (yes p) d = inr (inl (omega arith))
    go (no p) (yes q) = inr (inr (omega arith))
    go (no p) (no q) = inl (omega arith, refl)

-- two windows are the same, or apart
pub windows_apart : (k k' : Kind) (n n' : FifoNumber)
    → Same (start_of k n) (size_of k) (start_of k' n') (size_of k') ⊎ Apart (start_of k n) (size_of k) (start_of k' n') (size_of k')
windows_apart Control Control n n' = inl (refl, refl)
windows_apart Control Transmit n n' = inr (inl (omega arith))
windows_apart Control Receive n n' = inr (inl (omega arith))
windows_apart Transmit Control n n' = inr (inr (omega arith))
windows_apart Transmit Transmit n n' = slots_apart 8 (index_of n) (index_of n')
windows_apart Transmit Receive n n' = inr (inl (omega (arith, index_small n)))
windows_apart Receive Control n n' = inr (inr (omega arith))
windows_apart Receive Transmit n n' = inr (inr (omega (arith, index_small n')))
windows_apart Receive Receive n n' = slots_apart 200 (index_of n) (index_of n')

-- the numbers that the sheet gives: FIFO0, TXFIFO1 to 3, RXFIFO1 to 3
abbrev pub Named : Kind → FifoNumber → Type 0
Named Control n = n.0 ≡ 0
Named Transmit n = (1 ≤ n.0) × (n.0 ≤ 3)
Named Receive n = (1 ≤ n.0) × (n.0 ≤ 3)

-- each of the seven has a window of its own: where two start at the same place, they are one
pub own_window : (k k' : Kind) (n n' : FifoNumber) → Named k n → Named k' n' → start_of k n ≡ start_of k' n' → (k ≡ k') × (n.0 ≡ n'.0)
own_window Control Control n n' a b e = (refl, omega arith)
own_window Control Transmit n n' a b e = absurd {0} (omega arith)
own_window Control Receive n n' a b e = absurd {0} (omega arith)
own_window Transmit Control n n' a b e = absurd {0} (omega arith)
own_window Transmit Transmit n n' a b e = (refl, omega (arith, index_of_lem n a.0 a.1, index_of_lem n' b.0 b.1))
own_window Transmit Receive n n' a b e = absurd {0} (omega (arith, index_small n))
own_window Receive Control n n' a b e = absurd {0} (omega arith)
own_window Receive Transmit n n' a b e = absurd {0} (omega (arith, index_small n'))
own_window Receive Receive n n' a b e = (refl, omega (arith, index_of_lem n a.0 a.1, index_of_lem n' b.0 b.1))

-- a byte changed outside a window leaves the window as it was
set_outside : (start size : ℕ) (m : List ℕ) (p b : ℕ) → (p < start) ⊎ (start + size ≤ p)
    → window start size (set m p b) ≡ window start size m
set_outside start size m p b (inl lt) = rw (drop-set-lt start m p b lt)
set_outside start size m p b (inr le) =
    let e : p ≡ start + (p - start) = omega arith in
    rw (e, drop-set-add start m (p - start) b, take-set-le size (drop start m) (p - start) b (omega arith))

-- a store leaves every window apart from its own as it was
pub store_leaves : {size : ℕ} → Size size → (start start' size' counter b : ℕ) (m : List ℕ) → Apart start size start' size'
    → window start' size' (store start size counter b m) ≡ window start' size' m
store_leaves {size} z start start' size' counter b m (inl le) =
    set_outside start' size' m (place start size counter) b (inl (omega (arith, place_small z counter)))
store_leaves {size} z start start' size' counter b m (inr le) =
    set_outside start' size' m (place start size counter) b (inr (omega (arith, place_small z counter)))

-- and so does a stretch of stores
pub store_all_leaves : {size : ℕ} → Size size → (start start' size' counter : ℕ) (s m : List ℕ) → Apart start size start' size'
    → window start' size' (store_all start size counter s m) ≡ window start' size' m
unfolding store_all
store_all_leaves z start start' size' counter [] m a = refl
store_all_leaves {size} z start start' size' counter (b ∷ s) m a =
    store_all_leaves z start start' size' (next counter) s (store start size counter b m) a ∙ store_leaves z start start' size' counter b m a

-- what stores in a window keep of the memory: its length, and every window apart
pub record Kept (start size : ℕ) (m m' : List ℕ) : Type 0 where
  pub lengths : length m' ≡ length m
  pub windows : (start' size' : ℕ) → Apart start size start' size' → window start' size' m' ≡ window start' size' m

pub unchanged_kept : (start size : ℕ) (m : List ℕ) → Kept start size m m
unchanged_kept start size m = record { lengths = refl; windows = λ start' size' a. refl }

pub store_kept : {size : ℕ} → Size size → (start counter b : ℕ) (m : List ℕ) → Kept start size m (store start size counter b m)
store_kept {size} z start counter b m =
    record { lengths = store_length start size counter b m; windows = λ start' size'. store_leaves z start start' size' counter b m }

pub store_all_kept : {size : ℕ} → Size size → (start counter : ℕ) (s m : List ℕ) → Kept start size m (store_all start size counter s m)
store_all_kept {size} z start counter s m =
    record { lengths = store_all_length start size counter s m; windows = λ start' size'. store_all_leaves z start start' size' counter s m }

-- a byte of a FIFO is a byte of its window
byte_at_window : {size : ℕ} → Size size → (start : ℕ) (m : List ℕ) (counter : ℕ)
    → byte_at start size m counter ≡ get_or (window start size m) (counter % size) 0
byte_at_window {size} z start m counter =
    sym (get_or-take size (drop start m) (counter % size) 0 (place_small z counter) ∙ get_or-drop start m (counter % size) 0)

-- memories with the same window have the same contents
pub contents_window : {size : ℕ} → Size size → (start : ℕ) (m m' : List ℕ) (read write : ℕ) → window start size m ≡ window start size m'
    → contents start size m read write ≡ contents start size m' read write
unfolding bytes_from
contents_window {size} z start m m' read write e = go read (level read write)
  where
    go : (c n : ℕ) → bytes_from start size m c n ≡ bytes_from start size m' c n
    go c zero = refl
    go c (suc n) = rw (byte_at_window z start m c, byte_at_window z start m' c, e, go (next c) n)

-- so stores in a window leave what a FIFO of another window holds
pub kept_contents : {start size start' size' : ℕ} → Size size' → (m m' : List ℕ) (read write : ℕ)
    → Kept start size m m' → Apart start size start' size'
    → contents start' size' m' read write ≡ contents start' size' m read write
kept_contents {start} {size} {start'} {size'} z m m' read write kept a = contents_window z start' m' m read write (kept.windows start' size' a)
