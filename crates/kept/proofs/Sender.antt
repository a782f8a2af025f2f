-- Every step of endpoints 1, 3 and 5 keeps a state well formed, and the reset state is.
-- The counters are under 256 where a step depends on it.
-- Assumes nothing.
use Prim.Native.Nat.{ℕ, ◌≤◌, ◌<◌}
use native.Mathlib.Omega.{arith}
use mathlib.Core.Path.{◌≡◌, refl}
use mathlib.Core.Bool.{Bool, true, false, not, ◌&&◌, ◌||◌, and-eq-true_iff, or-true}
use lib.Dec.{eqb, leb, ltb}
use borrow.Author.Tests.{leb-true, leb-false, ltb-true, eqb-true, le-leb, lt-ltb, eq-eqb}
use Rattle.choice.specs.Choice.{pick}
use Rattle.choice.proofs.ByTest.{by_test}
use Rattle.window.specs.Window.{tx_size}
use Rattle.ring.specs.Ring.{next, level, full}
use Rattle.txfifo.specs.declared.TxFifo.{TxFifo}
use Rattle.txfifo.specs.Transmit.{put_tx, refill_tx, spend_tx}
use Rattle.contents.proofs.Ring.{level_self}
use Rattle.epc.specs.Epc.{epc_of}
use Rattle.sender.specs.declared.Sender.{Sender}
use Rattle.sender.specs.Sender.{reset_sender, with_fifo, cleared, moved, marked, command, sent, handshake, stopped, near, well_formed}
use Rattle.writes.specs.Write.{sender_epc}

-- the counters are bytes
pub record Counters (f : TxFifo) : Type 0 where
  pub read_small : f.read < 256
  pub write_small : f.write < 256
  pub saved_small : f.saved < 256

-- what well-formedness asks of the counters
record Levels (f : TxFifo) : Type 0 where
  level_fits : level f.read f.write ≤ 64
  saved_near : level f.saved f.read ≤ 64

-- and of what the bits of TXC leave alone
abbrev Parts : Sender → Type 0
Parts s = Levels s.fifo × (s.epc.number.0 < 16)

-- all that it asks
record Facts (operational : Bool) (s : Sender) : Type 0 where
  parts : Parts s
  saved_at : (not s.last || eqb (level s.fifo.saved s.fifo.read) 0) ≡ true
  high_small : s.high < 8
  quiet : (operational || not s.last && not s.enabled) ≡ true

known : (operational : Bool) (s : Sender) → well_formed operational s ≡ true → Facts operational s
unfolding well_formed near
known operational s w =
    let fits : Bool = leb (level s.fifo.read s.fifo.write) 64 in
    let high : Bool = ltb s.high 8 in
    let number : Bool = ltb s.epc.number.0 16 in
    let e : _ = (and-eq-true_iff (fits && near s && high && number) (operational || not s.last && not s.enabled)).0 w in
    let d : _ = (and-eq-true_iff (fits && near s && high) number).0 e.0 in
    let c : _ = (and-eq-true_iff (fits && near s) high).0 d.0 in
    let b : _ = (and-eq-true_iff fits (near s)).0 c.0 in
    let n : _ =
    (and-eq-true_iff (leb (level s.fifo.saved s.fifo.read) 64) (not s.last || eqb (level s.fifo.saved s.fifo.read) 0)).0 b.1 in
    record {
      parts = (record { level_fits = leb-true _ 64 b.0; saved_near = leb-true _ 64 n.0 }, ltb-true _ 16 d.1);
      saved_at = n.1;
      high_small = ltb-true _ 8 c.1;
      quiet = e.1;
    }

shown : (operational : Bool) (s : Sender) → Facts operational s → well_formed operational s ≡ true
unfolding well_formed near
shown operational s f =
    rw (
      le-leb _ 64 f.parts.0.level_fits,
      le-leb _ 64 f.parts.0.saved_near,
      f.saved_at,
      lt-ltb _ 8 f.high_small,
      lt-ltb _ 16 f.parts.1,
      f.quiet,
    )

-- read put where saved is, saved put where read is, or both where write is
at_saved : (saved write : ℕ) → level saved write ≤ 64 → Levels (record { read = saved; write = write; saved = saved })
at_saved saved write le = record { level_fits = le; saved_near = omega (arith, level_self saved) }

refill_levels : (f : TxFifo) → Levels f → Levels (refill_tx f)
unfolding refill_tx
refill_levels f l = by_test Levels _ (λ e. at_saved f.saved f.write (leb-true _ 64 e)) (λ _. l)

spend_levels : (f : TxFifo) → Counters f → Levels f → level f.saved f.read ≡ 0 → Levels (spend_tx f)
spend_levels f c l here = record { level_fits = omega (arith, level_self f.write); saved_near = omega arith }

-- a TXC byte before its bits
moved_parts : (v : ℕ) (s : Sender) → Parts s → Parts (moved v s)
unfolding moved
moved_parts v s p =
    by_test Parts _ (λ _. (at_saved 0 0 (omega arith), p.1)) (λ _.
    by_test Parts _ (λ _. (refill_levels s.fifo p.0, p.1)) (λ _. p))

-- LAST of a TXC byte in the operational state
marked_facts : (v : ℕ) (s : Sender) → Parts s → s.high < 8 → s.last ≡ false → Facts true (marked v s)
unfolding marked
marked_facts v s p h l =
    by_test (Facts true) _ (λ _. record {
      parts = (at_saved s.fifo.read s.fifo.write p.0.level_fits, p.1);
      saved_at = eq-eqb _ 0 (level_self s.fifo.read);
      high_small = h;
      quiet = refl;
    }) (λ _. record { parts = p; saved_at = rw l; high_small = h; quiet = refl })

command_facts : (operational : Bool) (v : ℕ) (s : Sender) → v < 256 → Facts operational s → Facts operational (command operational v s)
unfolding command pick
command_facts true v s small f = marked_facts v _ (moved_parts v s f.parts) (omega arith) refl
command_facts false v s small f = record { parts = moved_parts v s f.parts; saved_at = refl; high_small = omega arith; quiet = refl }

put_facts : (operational : Bool) (s : Sender) → Counters s.fifo → Facts operational s → Facts operational (with_fifo (put_tx s.fifo) s)
unfolding put_tx
put_facts operational s c f =
    let g : TxFifo = record { read = s.fifo.read; write = next s.fifo.write; saved = s.fifo.saved } in
    let none : Bool = full tx_size s.fifo.read s.fifo.write in
    by_test (λ (h : TxFifo). Facts operational (with_fifo h s)) none {x = s.fifo} {y = g} (λ _. f) (λ e.
    let room : level s.fifo.read s.fifo.write < 64 = leb-false 64 _ e in
    let fits : level s.fifo.read (next s.fifo.write) ≤ 64 = omega arith in
    record {
      parts = (record { level_fits = fits; saved_near = f.parts.0.saved_near }, f.parts.1);
      saved_at = f.saved_at;
      high_small = f.high_small;
      quiet = f.quiet;
    })

-- with LAST set, saved is where read is
at_last : (s : Sender) → s.last ≡ true → (not s.last || eqb (level s.fifo.saved s.fifo.read) 0) ≡ true
    → level s.fifo.saved s.fifo.read ≡ 0
at_last s e at = eqb-true _ 0 (rw e at at)

sent_facts : (s : Sender) → Counters s.fifo → Facts true s → Facts true (sent s)
unfolding sent
sent_facts s c f =
    by_test (Facts true) _ (λ _.
    by_test (Facts true) _ (λ _. record { parts = f.parts; saved_at = f.saved_at; high_small = f.high_small; quiet = refl }) (λ _.
    by_test (Facts true) _ (λ e.
    let here : level s.fifo.saved s.fifo.read ≡ 0 = at_last s e f.saved_at in
    record { parts = (spend_levels s.fifo c f.parts.0 here, f.parts.1); saved_at = refl; high_small = f.high_small; quiet = refl }) (λ _. record {
      parts = (at_saved s.fifo.write s.fifo.write (omega arith), f.parts.1);
      saved_at = rw (eq-eqb _ 0 (level_self s.fifo.write)) (or-true (not s.last));
      high_small = f.high_small;
      quiet = refl;
    }))) (λ _. f)

-- A TXC write keeps a state well formed, inside the operational state and outside.
pub command_keeps : (operational : Bool) (v : ℕ) (s : Sender) → v < 256
    → well_formed operational s ≡ true → well_formed operational (command operational v s) ≡ true
command_keeps operational v s small w = shown operational _ (command_facts operational v s small (known operational s w))

-- So does a TXD write.
pub put_keeps : (operational : Bool) (s : Sender) → Counters s.fifo
    → well_formed operational s ≡ true → well_formed operational (with_fifo (put_tx s.fifo) s) ≡ true
put_keeps operational s c w = shown operational _ (put_facts operational s c (known operational s w))

-- So does the answer to an IN token, which comes in the operational state only.
pub sent_keeps : (s : Sender) → Counters s.fifo → well_formed true s ≡ true → well_formed true (sent s) ≡ true
sent_keeps s c w = shown true _ (sent_facts s c (known true s w))

-- So does the end of a wait.
pub handshake_keeps : (operational acked : Bool) (s : Sender)
    → well_formed operational s ≡ true → well_formed operational (handshake acked s) ≡ true
unfolding well_formed near
handshake_keeps operational acked s w = w

-- So does a read of TXS.
pub cleared_keeps : (operational : Bool) (s : Sender) → well_formed operational s ≡ true → well_formed operational (cleared s) ≡ true
unfolding well_formed near
cleared_keeps operational s w = w

-- Where the operational state is left, the state is well formed outside it and inside.
pub stopped_keeps : (operational after : Bool) (s : Sender) → well_formed operational s ≡ true → well_formed after (stopped s) ≡ true
stopped_keeps operational after s w =
    let f : _ = known operational s w in
    shown after _ (record { parts = f.parts; saved_at = refl; high_small = f.high_small; quiet = or-true after })

-- An EPC write keeps a state well formed.
pub epc_keeps : (operational : Bool) (v : ℕ) (s : Sender)
    → well_formed operational s ≡ true → well_formed operational (sender_epc (epc_of v) s) ≡ true
epc_keeps operational v s w =
    let f : _ = known operational s w in
    shown operational _ (record { parts = (f.parts.0, omega arith); saved_at = f.saved_at; high_small = f.high_small; quiet = f.quiet })

-- The reset state is well formed.
pub reset_well_formed : (operational : Bool) → well_formed operational reset_sender ≡ true
unfolding well_formed near
reset_well_formed operational = rw (or-true operational)
