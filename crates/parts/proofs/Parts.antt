-- What one call writes, followed by the output from where it stopped if it stopped as full, is the output of the whole; bytes past it stay.
-- Assumes nothing.
use Prim.Native.Nat.{ℕ, zero, suc, ◌+◌, ◌≤◌, ◌<◌}
use native.Mathlib.Omega.{arith}
use mathlib.Core.Path.{◌≡◌, refl, sym, ap}
use mathlib.Core.List.{List, ◌++◌, append-nil, append_assoc}
use lib.ListN.{length, take}
use Rattle.choice.proofs.ByTest.{by_test}
use Rattle.trace.specs.Record.{Reading, event, end, refuse, read_at, stretch}
use Rattle.reading.proofs.Reader.{next_past, place_is_start}
use Rattle.printed.proofs.Overlay.{overlay_take, overlay_length}
use Rattle.lines.specs.Line.{refusal_text}
use Rattle.running.specs.Output.{Spot, did, line_of, shown, output_from}
use Rattle.running.specs.Run.{full, Running, Stopped, stopping, running, roomy, ending, onward, printing, run_for}
use Rattle.running.proofs.Turns.{room_says, refusal_within}
use Rattle.running.proofs.Within.{Within, Numbers, line_short}
use Rattle.parts.specs.Loop.{rest, written}
use Rattle.parts.proofs.Fuel.{enough}

module _ (trace : List ℕ) (long : length trace < 18446744073709551616) where
  -- the whole output from there on
  abbrev pub whole : Spot → List ℕ
  whole p = output_from (length trace) trace p

  -- what a run has in the end, and what is still to come
  abbrev all : Stopped → List ℕ
  all s = written s.at ++ rest s.why (whole s.at.spot)

  abbrev Is : List ℕ → Stopped → Type 0
  Is text s = text ≡ all s

  -- a text that fits is written
  prints : (text : List ℕ) (p : Spot) (r : Running) → r.written + length text ≤ length r.out
      → written (printing text p r) ≡ written r ++ text
  unfolding printing
  prints text p r le = overlay_take r.written text r.out le

  -- without room everything is still to come
  cramped : (n : ℕ) (r : Running) → length trace ≤ r.spot.place + n → written r ++ output_from n trace r.spot ≡ all (stopping full r)
  unfolding rest
  cramped n r le = ap (λ (t : List ℕ). written r ++ t) (enough trace n (length trace) r.spot le (omega arith))

  module _ (n : ℕ) (r : Running) (le : length trace ≤ r.spot.place + suc n) (w : Within r) (small : Numbers r) where
    -- the end, and a refusal
    at_end : read_at trace r.spot.place ≡ end → Is (written r ++ output_from (suc n) trace r.spot) (ending end r)
    unfolding ending output_from shown rest
    at_end h = rw h

    at_refusal : (k at : ℕ) → read_at trace r.spot.place ≡ refuse k at
        → Is (written r ++ output_from (suc n) trace r.spot) (ending (refuse k at) r)
    unfolding ending output_from shown rest
    at_refusal k at h =
        let start : _ = place_is_start trace r.spot.place k at h in
        let text : List ℕ = refusal_text r.spot.number k at in
        by_test (Is (written r ++ output_from (suc n) trace r.spot)) (roomy r) (λ room.
        let fits : r.written + length text ≤ length r.out =
        omega (arith, (room_says r.out r.written r.spot.number room).0, refusal_within r.spot.number k at small.number (omega arith) (omega (arith, small.place))) in
        rw (h, prints text r.spot r fits) (sym (append-nil (written r ++ text)))) (λ _. cramped (suc n) r le)

    -- where the run is after an event
    after_within : (text : List ℕ) (p : Spot) → r.written + length text ≤ length r.out → Within (printing text p r)
    unfolding printing
    after_within text p fits = record { written = omega (arith, overlay_length r.written text r.out) }

    after_numbers : (e : _) (from next : ℕ) (text : List ℕ) → next ≤ length trace → r.spot.number < 18446744073709551615
        → Numbers (printing text (did e (stretch trace from next) next r.spot) r)
    unfolding printing did
    after_numbers e from next text inside more = record { place = omega (arith, long); number = omega arith }

    after_place : (e : _) (from next : ℕ) (text : List ℕ) → r.spot.place < next
        → length trace ≤ (printing text (did e (stretch trace from next) next r.spot) r).spot.place + n
    unfolding printing did
    after_place e from next text further = omega arith

    -- an event: its line, and the run from there
    one_event : (e : _) (from next : ℕ) → read_at trace r.spot.place ≡ event e from next
        → ((q : Running) → length trace ≤ q.spot.place + n → Within q → Numbers q → Is (written q ++ output_from n trace q.spot) (run_for n trace q))
        → Is (written r ++ output_from (suc n) trace r.spot) (onward trace r (event e from next) (run_for n trace))
    unfolding onward output_from shown printing
    one_event e from next h later =
        let past : _ = next_past trace r.spot.place e from next h in
        let text : List ℕ = line_of e (stretch trace from next) r.spot in
        let there : Spot = did e (stretch trace from next) next r.spot in
        by_test (Is (written r ++ output_from (suc n) trace r.spot)) (roomy r) (λ room.
        let says : _ = room_says r.out r.written r.spot.number room in
        let fits : r.written + length text ≤ length r.out = omega (arith, says.0, line_short e (stretch trace from next) r.spot small.number) in
        let on : _ =
        later (printing text there r) (after_place e from next text (omega (arith, past.0, past.1))) (after_within text there fits) (after_numbers e from next text past.2 says.1) in
        rw (h, ← append_assoc (written r) text (output_from n trace there), ← prints text there r fits) on) (λ _. cramped (suc n) r le)

    one_record : (x : Reading) → read_at trace r.spot.place ≡ x
        → ((q : Running) → length trace ≤ q.spot.place + n → Within q → Numbers q → Is (written q ++ output_from n trace q.spot) (run_for n trace q))
        → Is (written r ++ output_from (suc n) trace r.spot) (onward trace r x (run_for n trace))
    unfolding onward
    one_record end h later = at_end h
    one_record (refuse k at) h later = at_refusal k at h
    one_record (event e from next) h later = one_event e from next h later

  -- Running in parts is running at once: what is written, followed by what is still to come, is the output of the whole.
  parts_from : (n : ℕ) (r : Running) → length trace ≤ r.spot.place + n → Within r → Numbers r
      → Is (written r ++ output_from n trace r.spot) (run_for n trace r)
  unfolding run_for output_from rest
  parts_from zero r le w small = refl
  parts_from (suc n) r le w small = one_record n r le w small (read_at trace r.spot.place) refl (parts_from n)

  -- One call from any spot: its text and the rest are the whole output from that spot on.
  pub in_parts : (p : Spot) (out : List ℕ) → p.place < 18446744073709551616 → p.number < 18446744073709551616
      → let s : Stopped = run_for (length trace) trace (running p out 0) in
      whole p ≡ take s.at.written s.at.out ++ rest s.why (whole s.at.spot)
  in_parts p out place number =
      parts_from (length trace) (running p out 0) (omega arith) (record { written = omega arith }) (record { place = place; number = number })
