-- One call of the run, as `run_of` defines it, from a sound state: what it wrote and what is still to come are the whole output from there on.
-- Assumes nothing.
use Prim.Native.Nat.{ℕ, ◌≤◌, ◌<◌}
use native.Mathlib.Omega.{arith}
use mathlib.Core.Path.{◌≡◌}
use mathlib.Core.Bool.{true}
use mathlib.Core.List.{List, ◌++◌}
use lib.ListN.{length, drop}
use lib.Dec.{ltb}
use borrow.Author.Tests.{le-ltb, lt-ltb, le-leb}
use Rattle.choice.specs.Choice.{pick}
use Rattle.lines.specs.Line.{refusal_text, longest}
use Rattle.laws.specs.Typed.{Bytes}
use Rattle.running.specs.Output.{Spot, output_from}
use Rattle.running.specs.Run.{full, running, fits, roomy, run_for, run_of}
use Rattle.running.proofs.Within.{Numbers}
use Rattle.parts.specs.Loop.{rest, written, called}
use Rattle.parts.proofs.Parts.{in_parts}
use Rattle.parts.proofs.Sound.{Sound}
use Rattle.parts.proofs.Leaves.{Leaves, run_leaves, run_further}

-- the whole output from a spot on; `output` is that from the start
abbrev pub output_at : List ℕ → Spot → List ℕ
output_at trace p = pick (ltb 65536 (length trace)) (refusal_text 0 8 0) (output_from (length trace) trace p)

-- a trace of bytes that is not too long
pub record Short (trace : List ℕ) : Type 0 where
  pub bytes : Bytes trace
  pub most : length trace ≤ 65536

-- a spot from which a call runs
pub record Ready (p : Spot) : Type 0 where
  pub sound : Sound p
  pub place : p.place < 18446744073709551616
  pub number : p.number < 18446744073709551616

module _ (trace : List ℕ) (short : Short trace) where
  fits_64 : length trace < 18446744073709551616
  fits_64 = omega arith

  module _ (p : Spot) (out : List ℕ) (ready : Ready p) where
    -- both tests passed, the call runs
    runs : called trace p out ≡ run_for (length trace) trace (running p out 0)
    unfolding run_of pick
    runs = rw (le-ltb 65536 (length trace) short.most, ready.sound.formed)

    abbrev numbers : Numbers (running p out 0)
    numbers = record { place = ready.place; number = ready.number }

    -- What a call leaves: a spot from which the next one runs, and a buffer that is as it was past what the call wrote.
    pub call_leaves : Leaves trace (running p out 0) (called trace p out)
    call_leaves = rw runs (run_leaves trace fits_64 short.bytes (length trace) (running p out 0) ready.sound numbers)

    pub call_ready : Ready (called trace p out).at.spot
    call_ready = record { sound = call_leaves.sound; place = call_leaves.numbers.place; number = call_leaves.numbers.number }

    pub call_past : drop (called trace p out).at.written (called trace p out).at.out ≡ drop (called trace p out).at.written out
    call_past = call_leaves.past

    -- What a call wrote, followed by the output from where it stopped if it stopped as full, is the output from where it began.
    pub run_outputs : output_at trace p ≡ written (called trace p out).at ++ rest (called trace p out).why (output_at trace (called trace p out).at.spot)
    unfolding pick
    run_outputs = rw (le-ltb 65536 (length trace) short.most, runs) (in_parts trace fits_64 p out ready.place ready.number)

    -- With room for a line, a call that stops as full has done an event.
    pub call_moves : longest ≤ length out → p.number < 18446744073709551615 → (called trace p out).why ≡ full
        → p.place < (called trace p out).at.spot.place
    unfolding fits
    call_moves le small =
        let room : roomy (running p out 0) ≡ true = rw (le-leb 158 (length out) le, lt-ltb p.number 18446744073709551615 small) in
        rw runs (run_further trace fits_64 short.bytes (length trace) (running p out 0) room ready.sound numbers)
