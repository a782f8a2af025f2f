-- The loop of a program over a trace: one call of the run after another, until one stops for another reason than a full buffer.
-- `run` of `console` is this loop, from the reset state and place 0, with one buffer for all its calls.
use Rattle.std.specs.Prelude.{ℕ, zero, suc, ◌≡◌, List, [], ◌∷◌, ◌++◌, take, leb}
use Rattle.choice.specs.Choice.{pick}
use Rattle.lines.specs.Line.{refusal_text}
use Rattle.running.specs.declared.Ran.{Ran}
use Rattle.running.specs.Output.{Spot, spot_at}
use Rattle.running.specs.Run.{Reason, ended, refused, full, Running, Stopped, running, reason_of, run_of, Runs}

-- what is still to come: only where a run stopped as full
unfoldable pub rest : Reason → List ℕ → List ℕ
rest ended text = []
rest (refused k at) text = []
rest full text = text

-- what is written of a run
abbrev pub written : Running → List ℕ
written r = take r.written r.out

-- one call into a buffer
abbrev pub called : List ℕ → Spot → List ℕ → Stopped
called trace p out = run_of trace (running p out 0)

-- "8 prints with n 0": the call writes no refusal that comes before any event, so that the program does (`told` of `console`)
unfoldable pub told : Reason → List ℕ
told ended = []
told (refused k at) = pick (leb 5 k) (refusal_text 0 k at) []
told full = []

-- some calls: what the program wrote in all, where the last one stopped, and why
pub record Calls : Type 0 where
  pub text : List ℕ
  pub spot : Spot
  pub why : Reason

-- a call that stopped as full is followed by the others, from where it stopped; any other is the last
unfoldable pub followed : Reason → Running → (Spot → Calls) → Calls
followed full r others = record { text = written r ++ (others r.spot).text; spot = (others r.spot).spot; why = (others r.spot).why }
followed ended r others = record { text = written r ++ told ended; spot = r.spot; why = ended }
followed (refused k at) r others = record { text = written r ++ told (refused k at); spot = r.spot; why = refused k at }

-- the loop, with a buffer for each call and no more calls than buffers
unfoldable pub calls : List ℕ → List (List ℕ) → Spot → Calls
calls trace [] p = record { text = []; spot = p; why = full }
calls trace (out ∷ outs) p = followed (called trace p out).why (called trace p out).at (calls trace outs)

-- one buffer for so many calls: each has it as the call before left it
unfoldable pub reused : ℕ → List ℕ → Spot → List ℕ → List (List ℕ)
reused zero trace p out = []
reused (suc turns) trace p out = out ∷ reused turns trace (called trace p out).at.spot (called trace p out).at.out

-- The same of the function `run` and what its contract says of it: from a spot the program writes a text. Each call has any buffer; the program
-- writes the bytes that the call says it wrote, and goes on with the chip, memory, place and number that the call gave back.
pub data Writes (trace : List ℕ) : Spot → List ℕ → Type 0 where
  last : {p : Spot} (out : List ℕ) (r : Ran) (memory out' : List ℕ) → Runs (called trace p out) r memory out' → (reason_of r.stop ≡ full → ⊥)
      → Writes trace p (take r.written out' ++ told (reason_of r.stop))
  again : {p : Spot} {text : List ℕ} (out : List ℕ) (r : Ran) (memory out' : List ℕ) → Runs (called trace p out) r memory out'
      → reason_of r.stop ≡ full → Writes trace (spot_at r.chip memory r.place r.number) text
      → Writes trace p (take r.written out' ++ text)
