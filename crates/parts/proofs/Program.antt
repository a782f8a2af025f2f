-- A program whose calls are as the contract of `run` says, and which goes on as `console` does, writes the output of its trace.
-- Assumes nothing.
use Prim.Native.Nat.{ℕ, ◌<◌}
use native.Mathlib.Omega.{arith}
use mathlib.Core.Path.{◌≡◌, refl, sym, ◌∙◌}
use mathlib.Core.Bool.{Bool, true, false}
use mathlib.Core.List.{List}
use lib.ListN.{length, take}
use lib.Dec.{ltb}
use borrow.Author.Tests.{ltb-true, ltb-false}
use Rattle.choice.specs.Choice.{pick}
use Rattle.lines.specs.Line.{refusal_text}
use Rattle.laws.specs.Typed.{Bytes}
use Rattle.running.specs.declared.Ran.{Ran}
use Rattle.running.specs.Output.{Spot, spot_at, start, output}
use Rattle.running.specs.Run.{full, Stopped, Runs}
use Rattle.parts.specs.Loop.{rest, written, called, told, Writes, last, again}
use Rattle.parts.proofs.Call.{output_at, Short, Ready, call_leaves, call_ready, run_outputs}
use Rattle.parts.proofs.Whole.{ready_start, refused_long, nothing_left}

-- what a call gives back, as the definitions have it
module _ {s : Stopped} {r : Ran} {memory out' : List ℕ} (runs : Runs s r memory out') where
  wrote : take r.written out' ≡ written s.at
  wrote = rw (runs.written, runs.buffer)

  stands : spot_at r.chip memory r.place r.number ≡ s.at.spot
  stands = rw (runs.chip, runs.bytes, runs.place, runs.number)

module _ (trace : List ℕ) (short : Short trace) where
  writes_output : {p : Spot} {text : List ℕ} → Writes trace p text → Ready p → output_at trace p ≡ text
  unfolding rest
  writes_output {p} (last out r memory out' runs done) ready =
      let why : _ = runs.why in
      let none : _ = nothing_left (called trace p out).why (output_at trace (called trace p out).at.spot) (λ e. done (why ∙ e)) in
      rw (wrote runs, why, (call_leaves trace short p out ready).silent, ← none) (run_outputs trace short p out ready)
  writes_output {p} (again out r memory out' runs more w) ready =
      let later : _ = writes_output w (rw (stands runs) (call_ready trace short p out ready)) in
      let is_full : (called trace p out).why ≡ full = sym runs.why ∙ more in
      rw (wrote runs, ← later, stands runs) (rw is_full at (run_outputs trace short p out ready))

-- a trace that is too long: the first call refuses it, and the program writes the line
writes_refusal : {trace : List ℕ} {p : Spot} {text : List ℕ} → Writes trace p text → 65536 < length trace → refusal_text 0 8 0 ≡ text
unfolding told pick
writes_refusal {trace} {p} (last out r memory out' runs done) long =
    let why : _ = rw (refused_long trace p out long) at runs.why in
    rw (wrote runs, why, refused_long trace p out long)
writes_refusal {trace} {p} (again out r memory out' runs more w) long =
    let why : _ = rw (refused_long trace p out long) at runs.why in
    let z : ◌≡◌ {A = ℕ} 0 1 = cc in
    absurd {0} (omega arith)

module _ (trace : List ℕ) (bytes : Bytes trace) where
  by_length : {text : List ℕ} (long : Bool) → ltb 65536 (length trace) ≡ long → Writes trace start text → output trace ≡ text
  unfolding output pick
  by_length true e w = rw e (writes_refusal w (ltb-true _ _ e))
  by_length false e w = writes_output trace (record { bytes = bytes; most = ltb-false _ _ e }) w ready_start

  -- From the reset state, place 0 and number 0, what the program has written when its loop ends is the output of the trace.
  pub program_writes : {text : List ℕ} → Writes trace start text → text ≡ output trace
  program_writes w = sym (by_length (ltb 65536 (length trace)) refl w)
