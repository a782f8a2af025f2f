-- What a run writes is within the buffer.
-- Assumes nothing.
use Prim.Native.Nat.{ℕ, zero, suc, ◌≤◌, ◌<◌}
use native.Mathlib.Omega.{arith}
use mathlib.Core.Path.{◌≡◌, refl}
use mathlib.Core.Bool.{not}
use mathlib.Core.List.{List}
use lib.Dec.{ltb}
use Rattle.formed.specs.Formed.{well_formed}
use lib.ListN.{length}
use Rattle.choice.proofs.ByTest.{by_test}
use Rattle.event.specs.declared.Event.{Event}
use Rattle.trace.specs.Record.{Reading, event, end, refuse, read_at, stretch}
use Rattle.reading.proofs.Reader.{next_past, place_is_start}
use Rattle.printed.proofs.Overlay.{overlay_length}
use Rattle.lines.specs.Line.{refusal_text}
use Rattle.longest.proofs.Longest.{line_longest}
use Rattle.running.specs.Output.{Spot, did, line_of}
use Rattle.running.specs.Run.{Running, Stopped, roomy, ending, onward, printing, run_for, run_of}
use Rattle.running.proofs.Turns.{room_says, refusal_within}

-- a buffer of this length holds what is written
pub record Within (r : Running) : Type 0 where
  pub written : r.written ≤ length r.out

-- a run whose numbers are numbers
pub record Numbers (r : Running) : Type 0 where
  pub place : r.spot.place < 18446744073709551616
  pub number : r.spot.number < 18446744073709551616

pub line_short : (e : Event) (s : List ℕ) (p : Spot) → p.number < 18446744073709551616 → length (line_of e s p) ≤ 158
unfolding line_of
line_short e s p small = line_longest p.number _ _ _ small

abbrev pub Holds : Stopped → Type 0
Holds s = Within s.at

module _ (trace : List ℕ) (long : length trace < 18446744073709551616) where
  -- a refusal
  ends_within : (r : Running) (x : Reading) → Within r → Numbers r → read_at trace r.spot.place ≡ x → Holds (ending x r)
  unfolding ending printing
  ends_within r end w n h = w
  ends_within r (event e from next) w n h = w
  ends_within r (refuse k at) w n h =
      let start : _ = place_is_start trace r.spot.place k at h in
      by_test Holds (roomy r) (λ room. record {
        written = omega (
          arith,
          (room_says r.out r.written r.spot.number room).0,
          overlay_length r.written (refusal_text r.spot.number k at) r.out,
          refusal_within r.spot.number k at n.number (omega arith) (omega (arith, n.place)),
        );
      }) (λ _. w)

  -- one record, and what comes after it
  onward_within : (r : Running) (x : Reading) (others : Running → Stopped) → ((q : Running) → Within q → Numbers q → Holds (others q))
      → Within r → Numbers r → read_at trace r.spot.place ≡ x → Holds (onward trace r x others)
  unfolding onward printing did line_of
  onward_within r end others later w n h = ends_within r end w n h
  onward_within r (refuse k at) others later w n h = ends_within r (refuse k at) w n h
  onward_within r (event e from next) others later w n h =
      let past : _ = next_past trace r.spot.place e from next h in
      by_test Holds (roomy r) (λ room.
      let says : _ = room_says r.out r.written r.spot.number room in
      later _ (record {
        written = omega (arith, says.0, overlay_length r.written (line_of e (stretch trace from next) r.spot) r.out, line_short e (stretch trace from next) r.spot n.number);
      }) (record { place = omega (arith, past.2, long); number = omega (arith, says.1) })) (λ _. w)

  pub run_within : (turns : ℕ) (r : Running) → Within r → Numbers r → Holds (run_for turns trace r)
  unfolding run_for
  run_within zero r w n = w
  run_within (suc turns) r w n = onward_within r (read_at trace r.spot.place) (run_for turns trace) (run_within turns) w n refl

  pub run_of_within : (r : Running) → Within r → Numbers r → Holds (run_of trace r)
  unfolding run_of
  run_of_within r w n =
      by_test Holds (ltb 65536 (length trace)) (λ _. w) (λ _.
      by_test Holds (not (well_formed r.spot.chip)) (λ _. w) (λ _. run_within (length trace) r w n))
