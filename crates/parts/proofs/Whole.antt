-- The run, call after call, writes the whole output of a trace, whatever the buffers; one buffer for all calls, as `console` has it, is enough.
-- Assumes nothing.
use Prim.Native.Nat.{ℕ, zero, suc, ◌+◌, ◌≤◌, ◌<◌}
use native.Mathlib.Omega.{arith}
use mathlib.Core.Path.{◌≡◌, refl, sym, ◌∙◌, ap}
use mathlib.Core.Bool.{Bool, true, false}
use mathlib.Core.List.{List, [], ◌∷◌, ◌++◌, append-nil, append_assoc}
use lib.ListN.{length}
use lib.Dec.{ltb}
use borrow.Author.Tests.{lt-ltb, ltb-true, ltb-false}
use Rattle.choice.specs.Choice.{pick}
use Rattle.lines.specs.Line.{refusal_text, longest}
use Rattle.laws.specs.Typed.{Bytes}
use Rattle.running.specs.Output.{Spot, output_from, start, output}
use Rattle.running.specs.Run.{Reason, ended, refused, full, Running, stopping, running, run_of}
use Rattle.parts.specs.Loop.{rest, written, called, told, Calls, followed, calls, reused}
use Rattle.parts.proofs.Sound.{start_sound}
use Rattle.parts.proofs.Call.{output_at, Short, Ready, call_leaves, call_ready, run_outputs, call_moves}
use Rattle.parts.proofs.Rooms.{Rooms, none, more}

pub ready_start : Ready start
ready_start = record { sound = start_sound; place = omega arith; number = omega arith }

module _ (trace : List ℕ) (short : Short trace) where
  -- The calls together: what they wrote, followed by the output from where the last one stopped if it stopped as full.
  abbrev Told : Spot → Calls → Type 0
  Told p c = output_at trace p ≡ c.text ++ rest c.why (output_at trace c.spot)

  follows : (p : Spot) (why : Reason) (r : Running) (others : Spot → Calls) → told why ≡ [] → Told r.spot (others r.spot)
      → output_at trace p ≡ written r ++ rest why (output_at trace r.spot) → Told p (followed why r others)
  unfolding followed rest
  follows p full r others e later h = rw append_assoc (h ∙ ap (λ (t : List ℕ). written r ++ t) later)
  follows p ended r others e later h = rw e (h ∙ sym (append-nil (written r ++ [])))
  follows p (refused k at) r others e later h = rw e (h ∙ sym (append-nil (written r ++ [])))

  pub calls_output : (outs : List (List ℕ)) (p : Spot) → Ready p → Told p (calls trace outs p)
  unfolding calls rest
  calls_output [] p ready = refl
  calls_output (out ∷ outs) p ready =
      let later : _ = calls_output outs _ (call_ready trace short p out ready) in
      follows p _ _ (calls trace outs) (call_leaves trace short p out ready).silent later (run_outputs trace short p out ready)

  -- calls end where those after a full one do
  follows_end : (why : Reason) (r : Running) (others : Spot → Calls) → (why ≡ full → (others r.spot).why ≡ full → ⊥)
      → (followed why r others).why ≡ full → ⊥
  unfolding followed
  follows_end full r others h = h refl
  follows_end ended r others h = λ e. let z : ◌≡◌ {A = ℕ} 0 1 = cc in omega arith
  follows_end (refused k at) r others h = λ e. let z : ◌≡◌ {A = ℕ} 0 1 = cc in omega arith

  -- With room in each buffer, more calls than bytes bring the loop to its end: each goes further in the trace.
  pub calls_end : (outs : List (List ℕ)) (p : Spot) → Rooms outs → Ready p → p.number ≤ p.place → p.place ≤ length trace
      → length trace < p.place + length outs → (calls trace outs p).why ≡ full → ⊥
  unfolding calls
  calls_end [] p none ready low inside many = λ e. omega arith
  calls_end (out ∷ outs) p (more room rooms) ready low inside many =
      let left : _ = call_leaves trace short p out ready in
      follows_end (called trace p out).why (called trace p out).at (calls trace outs) (λ e.
      let moved : _ = call_moves trace short p out ready (omega arith) (omega (arith, short.most)) e in
      calls_end outs _ rooms (call_ready trace short p out ready) (omega (arith, left.counted)) (left.inside inside) (omega arith))

  -- one buffer that has room keeps it
  reused_rooms : (turns : ℕ) (p : Spot) (out : List ℕ) → Ready p → longest ≤ length out → Rooms (reused turns trace p out)
  unfolding reused
  reused_rooms zero p out ready room = none
  reused_rooms (suc turns) p out ready room =
      let kept : longest ≤ length (called trace p out).at.out = omega (arith, (call_leaves trace short p out ready).sized) in
      more room (reused_rooms turns _ _ (call_ready trace short p out ready) kept)

reused_length : (turns : ℕ) (trace : List ℕ) (p : Spot) (out : List ℕ) → length (reused turns trace p out) ≡ turns
unfolding reused
reused_length zero trace p out = refl
reused_length (suc turns) trace p out = ap suc (reused_length turns trace _ _)

-- A trace that is too long is refused by every call, which writes nothing; so the first is the last, and the program writes the line.
pub refused_long : (trace : List ℕ) (p : Spot) (out : List ℕ) → 65536 < length trace → called trace p out ≡ stopping (refused 8 0) (running p out 0)
unfolding run_of pick
refused_long trace p out h = rw (lt-ltb 65536 (length trace) h)

pub too_long : (trace out : List ℕ) (outs : List (List ℕ)) (p : Spot) → 65536 < length trace
    → calls trace (out ∷ outs) p ≡ record { text = refusal_text 0 8 0; spot = p; why = refused 8 0 }
unfolding calls followed told pick
too_long trace out outs p h = rw (refused_long trace p out h)

-- An empty trace has no output.
pub of_nothing : output [] ≡ []
unfolding output output_from pick
of_nothing = refl

pub nothing_left : (why : Reason) (text : List ℕ) → (why ≡ full → ⊥) → rest why text ≡ []
unfolding rest
nothing_left full text h = absurd {0} (h refl)
nothing_left ended text h = refl
nothing_left (refused k at) text h = refl

module _ (trace : List ℕ) (bytes : Bytes trace) where
  by_length : (long : Bool) → ltb 65536 (length trace) ≡ long → (outs : List (List ℕ)) → ((calls trace outs start).why ≡ full → ⊥)
      → (calls trace outs start).text ≡ output trace
  unfolding output pick calls
  by_length true e [] h = absurd {0} (h refl)
  by_length true e (out ∷ outs) h = rw (too_long trace out outs start (ltb-true _ _ e), e)
  by_length false e outs h =
      let all : _ = calls_output trace (record { bytes = bytes; most = ltb-false _ _ e }) outs start ready_start in
      sym (rw (nothing_left (calls trace outs start).why _ h, append-nil) at all)

  -- From the reset state, place 0 and number 0, with whatever buffers bring the loop to its end, the program writes the output of the trace.
  pub whole_run : (outs : List (List ℕ)) → ((calls trace outs start).why ≡ full → ⊥) → (calls trace outs start).text ≡ output trace
  whole_run outs h = by_length (ltb 65536 (length trace)) refl outs h

  once_ends : (turns : ℕ) (out : List ℕ) (long : Bool) → ltb 65536 (length trace) ≡ long → longest ≤ length out → 65536 < turns
      → (calls trace (reused turns trace start out) start).why ≡ full → ⊥
  unfolding reused
  once_ends zero out long e room many = λ _. omega arith
  once_ends (suc turns) out true e room many = rw (too_long trace out _ start (ltb-true _ _ e)) (λ h. let z : ◌≡◌ {A = ℕ} 0 1 = cc in omega arith)
  once_ends (suc turns) out false e room many =
      let short : Short trace = record { bytes = bytes; most = ltb-false _ _ e } in
      let rooms : _ = reused_rooms trace short (suc turns) start out ready_start room in
      let enough : length trace < length (reused (suc turns) trace start out) = omega (arith, short.most, reused_length (suc turns) trace start out) in
      calls_end trace short (reused (suc turns) trace start out) start rooms ready_start (omega arith) (omega arith) (omega arith)

  -- One buffer with room for a line and more turns than a trace has bytes are enough: `console` has 65536 bytes and 2^64 - 1 turns.
  pub console_writes : (turns : ℕ) (out : List ℕ) → longest ≤ length out → 65536 < turns
      → (calls trace (reused turns trace start out) start).text ≡ output trace
  console_writes turns out room many =
      whole_run (reused turns trace start out) (once_ends turns out (ltb 65536 (length trace)) refl room many)
