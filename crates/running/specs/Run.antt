-- A run of a trace into a buffer: what is written, and where and why it stops.
use Rattle.std.specs.Prelude.{Result, Ok, Err, ℕ, zero, suc, ◌+◌, ◌≡◌, Bool, not, ◌&&◌, List, length, leb, ltb}
use Rattle.choice.specs.Choice.{pick}
use Rattle.refusal.specs.Refusal.{number_of}
use Rattle.trace.specs.Record.{Reading, event, end, refuse, read_at, stretch}
use Rattle.formed.specs.Formed.{well_formed}
use Rattle.digits.specs.Text.{overlay}
use Rattle.lines.specs.Line.{refusal_text, longest}
use Rattle.running.specs.declared.Stop.{Stop}
use Rattle.running.specs.declared.Stop.TheVariants as stop
use Rattle.trace.specs.declared.Refused.{Refused}
use Rattle.running.specs.declared.Ran.{Ran}
use Rattle.running.specs.declared.Progress.{Progress}
use Rattle.running.specs.Output.{Spot, spot_at, did, line_of}

-- why a run stops: the end of the trace, a refusal with its number and place, or no room for a line
pub data Reason : Type 0 where
  ended : Reason
  refused : ℕ → ℕ → Reason
  full : Reason

abbrev pub reason_of : Result Stop Refused → Reason
reason_of (Ok stop.End) = ended
reason_of (Ok stop.Full) = full
reason_of (Err r) = refused (number_of r.why) r.place

-- a run under way: where it is, the buffer, and how much of it is written
pub record Running : Type 0 where
  pub spot : Spot
  pub out : List ℕ
  pub written : ℕ

abbrev pub running : Spot → List ℕ → ℕ → Running
running p out written = record { spot = p; out = out; written = written }

-- the one that the code has, with the memory and the buffer
abbrev pub under_way : Progress → List ℕ → List ℕ → Running
under_way p memory out = running (spot_at p.chip memory p.place p.number) out p.written

pub record Stopped : Type 0 where
  pub at : Running
  pub why : Reason

abbrev pub stopping : Reason → Running → Stopped
stopping why r = record { at = r; why = why }

-- a text printed, and the run somewhere else
unfoldable pub printing : List ℕ → Spot → Running → Running
printing text p r = record { spot = p; out = overlay r.written text r.out; written = r.written + length text }

-- there is room for the longest line, and a number after this one
unfoldable pub fits : List ℕ → ℕ → ℕ → Bool
fits out written number = leb (written + longest) (length out) && ltb number 18446744073709551615

abbrev pub roomy : Running → Bool
roomy r = fits r.out r.written r.spot.number

-- what is no event ends the run: the end; a refusal, which is printed if there is room
unfoldable pub ending : Reading → Running → Stopped
ending end r = stopping ended r
ending (refuse k at) r =
    pick (roomy r) (stopping (refused k at) (printing (refusal_text r.spot.number k at) r.spot r)) (stopping full r)
ending (event e from next) r = stopping ended r

-- where the events of a run stop: a refusal is still to be printed
abbrev pub stopped : Result Stop Refused → Running → Stopped
stopped (Ok x) r = stopping (reason_of (Ok x)) r
stopped (Err f) r = ending (refuse (number_of f.why) f.place) r

-- an event is done and its line printed, if there is room
unfoldable pub onward : List ℕ → Running → Reading → (Running → Stopped) → Stopped
onward trace r end others = ending end r
onward trace r (refuse k at) others = ending (refuse k at) r
onward trace r (event e from next) others =
    pick (roomy r)
    (others (printing (line_of e (stretch trace from next) r.spot) (did e (stretch trace from next) next r.spot) r))
    (stopping full r)

-- at most so many records
unfoldable pub run_for : ℕ → List ℕ → Running → Stopped
run_for zero trace r = stopping ended r
run_for (suc most) trace r = onward trace r (read_at trace r.spot.place) (run_for most trace)

-- "8 before reading; 5 before 1 to 4"; a record takes a byte at least, so that no trace has more records than bytes
unfoldable pub run_of : List ℕ → Running → Stopped
run_of trace r =
    pick (ltb 65536 (length trace)) (stopping (refused 8 0) r)
    (pick (not (well_formed r.spot.chip)) (stopping (refused 5 r.spot.place) r)
    (run_for (length trace) trace r))

-- what the function gives, with the memory and the buffer
pub record Runs (s : Stopped) (r : Ran) (memory out : List ℕ) : Type 0 where
  pub chip : r.chip ≡ s.at.spot.chip
  pub place : r.place ≡ s.at.spot.place
  pub number : r.number ≡ s.at.spot.number
  pub written : r.written ≡ s.at.written
  pub why : reason_of r.stop ≡ s.why
  pub bytes : memory ≡ s.at.spot.memory
  pub buffer : out ≡ s.at.out
