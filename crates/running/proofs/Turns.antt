-- One turn of a run: what is left after it, and why it comes to an end.
-- Assumes nothing.
use Prim.Native.Nat.{ℕ, zero, suc, ◌+◌, ◌≤◌, ◌<◌}
use native.Mathlib.Omega.{arith}
use mathlib.Core.Path.{◌≡◌, refl, ◌∙◌}
use mathlib.Core.Bool.{Bool, true, false, and-eq-true_iff}
use mathlib.Core.List.{List}
use lib.ListN.{length}
use lib.Dec.{leb, ltb}
use borrow.Author.Tests.{le-ltb, leb-true, ltb-true}
use Rattle.choice.specs.Choice.{pick}
use Rattle.refusal.specs.declared.Refusal.{Refusal}
use Rattle.refusal.specs.declared.Refusal.TheVariants as refusal
use Rattle.refusal.specs.Refusal.{number_of}
use Rattle.event.specs.declared.Event.{Event}
use Rattle.trace.specs.Record.{event, end, refuse, read_at, stretch}
use Rattle.reading.proofs.Reader.{next_past}
use Rattle.printed.proofs.Decimal.{decimal_length, decimal_length_5}
use Rattle.printed.proofs.Overlay.{overlay_length}
use Rattle.interrupt.specs.Interrupt.{line}
use Rattle.answer.specs.declared.Answer.{Answer}
use Rattle.answer.specs.declared.Out.{Out}
use Rattle.answer.specs.Answer.{Gives}
use Rattle.step.specs.Step.{step_of, step_bytes}
use Rattle.lines.specs.Line.{line_text, refusal_text, Printed}
use Rattle.lines.proofs.Lengths.{refusal_length}
use Rattle.longest.proofs.Longest.{line_longest}
use Rattle.running.specs.Output.{spot_at, did, line_of}
use Rattle.running.specs.Run.{Running, running, stopping, ended, full, fits, roomy, ending, onward, printing, run_for}

-- the same run as at the start, with turns enough left for every byte of the trace
pub record Left (trace : List ℕ) (r₀ r : Running) : Type 0 where
  pub turns : ℕ
  pub enough : length trace ≤ r.spot.place + turns
  pub same : run_for (length trace) trace r₀ ≡ run_for turns trace r

pub at_start : (trace : List ℕ) (r : Running) → Left trace r r
at_start trace r = record { turns = length trace; enough = omega arith; same = refl }

-- at the end of the trace a run ends
end_read : (trace : List ℕ) (at : ℕ) → length trace ≤ at → read_at trace at ≡ end
unfolding read_at pick
end_read trace at le = rw (le-ltb at (length trace) le)

-- what is no event ends a run
end_turns : (turns : ℕ) (trace : List ℕ) (r : Running) → read_at trace r.spot.place ≡ end → run_for turns trace r ≡ stopping ended r
unfolding run_for onward ending
end_turns zero trace r e = refl
end_turns (suc n) trace r e = rw e

refused_turns :
    (turns : ℕ) (trace : List ℕ) (r : Running) (k at : ℕ) → length trace ≤ r.spot.place + turns → read_at trace r.spot.place ≡ refuse k at
    → run_for turns trace r ≡ ending (refuse k at) r
unfolding run_for onward
refused_turns zero trace r k at enough e =
    let none = end_read trace r.spot.place (omega arith) in
    let z : ◌≡◌ {A = ℕ} 0 1 = cc in absurd {0} (omega arith)
refused_turns (suc n) trace r k at enough e = rw e

module _ (trace : List ℕ) (r : Running) where
  pub ends : (r₀ : Running) → Left trace r₀ r → read_at trace r.spot.place ≡ end → run_for (length trace) trace r₀ ≡ stopping ended r
  ends r₀ l e = l.same ∙ end_turns l.turns trace r e

  pub stops : (r₀ : Running) (k at : ℕ) → Left trace r₀ r → read_at trace r.spot.place ≡ refuse k at
      → run_for (length trace) trace r₀ ≡ ending (refuse k at) r
  stops r₀ k at l e = l.same ∙ refused_turns l.turns trace r k at l.enough e

  module _ (e : Event) (from next : ℕ) (h : read_at trace r.spot.place ≡ event e from next) where
    -- without room nothing is done
    no_room : (turns : ℕ) → length trace ≤ r.spot.place + turns → roomy r ≡ false → run_for turns trace r ≡ stopping full r
    unfolding run_for onward pick
    no_room zero enough none = let past : _ = next_past trace r.spot.place e from next h in absurd {0} (omega arith)
    no_room (suc n) enough none = rw (h, none)

    -- else one event, and the same run from there
    one_event : (r₀ : Running) (turns : ℕ) → length trace ≤ r.spot.place + turns
        → roomy r ≡ true → run_for (length trace) trace r₀ ≡ run_for turns trace r
        → Left trace r₀ (printing (line_of e (stretch trace from next) r.spot) (did e (stretch trace from next) next r.spot) r)
    unfolding run_for onward pick printing did
    one_event r₀ zero enough room same = let past : _ = next_past trace r.spot.place e from next h in absurd {0} (omega arith)
    one_event r₀ (suc n) enough room same =
        let past : _ = next_past trace r.spot.place e from next h in
        record { turns = n; enough = omega arith; same = rw (h, room) at same }

    pub is_full : (r₀ : Running) → Left trace r₀ r → roomy r ≡ false → run_for (length trace) trace r₀ ≡ stopping full r
    is_full r₀ l none = l.same ∙ no_room l.turns l.enough none

    pub goes_on : (r₀ : Running) → Left trace r₀ r → roomy r ≡ true
        → Left trace r₀ (printing (line_of e (stretch trace from next) r.spot) (did e (stretch trace from next) next r.spot) r)
    goes_on r₀ l room = one_event r₀ l.turns l.enough room l.same

number_small : (r : Refusal) → number_of r ≤ 8
number_small refusal.Cut = omega arith
number_small refusal.NotShortest = omega arith
number_small refusal.NoKind = omega arith
number_small refusal.OutOfRange = omega arith
number_small refusal.NotWellFormed = omega arith
number_small refusal.OfferTooLong = omega arith
number_small refusal.PacketHeld = omega arith
number_small refusal.InputTooLong = omega arith

pub refusal_within : (n k p : ℕ) → n < 18446744073709551616 → k ≤ 8 → p < 18446744073709551616 → length (refusal_text n k p) ≤ 158
refusal_within n k p small low near =
    omega (arith, refusal_length n k p, decimal_length n small, decimal_length p near, decimal_length_5 k (omega arith))

pub refusal_short : (n : ℕ) (r : Refusal) (p : ℕ) → n < 18446744073709551616 → p < 18446744073709551616
    → length (refusal_text n (number_of r) p) ≤ 158
refusal_short n r p small near = refusal_within n (number_of r) p small (number_small r) near

-- room, as numbers
pub room_says : (out : List ℕ) (written n : ℕ) → fits out written n ≡ true → (written + 158 ≤ length out) × (n < 18446744073709551615)
unfolding fits
room_says out written n h =
    let b : _ = (and-eq-true_iff (leb (written + 158) (length out)) (ltb n 18446744073709551615)).0 h in
    (leb-true _ _ b.0, ltb-true _ _ b.1)

-- and so does an event's
pub line_fits : (n : ℕ) (a : Answer) (m : List ℕ) (raised : Bool) {at : ℕ} {out : List ℕ} (k : ℕ) (out' : List ℕ) → n < 18446744073709551616
    → Printed at (line_text n a m raised) out k out' → k ≤ 158
line_fits n a m raised k out' small text = omega (arith, line_longest n a m raised small, text.count)

-- what holds at each turn: the same run; what is written is within the buffer, whose length stays; the number is a number
pub record Turned (trace : List ℕ) (r₀ r : Running) : Type 0 where
  pub left : Left trace r₀ r
  pub sized : length r.out ≡ length r₀.out
  pub counted : r.spot.number < 18446744073709551616

-- what the code has done in a turn is the turn
module _ (trace : List ℕ) (r : Running) (e : Event) (from next : ℕ) (p : List ℕ) (o : Out) (m out : List ℕ) (raised : Bool) (k : ℕ)
    (payload : p ≡ stretch trace from next) (step : Gives (step_of e p r.spot.chip r.spot.memory) (step_bytes e p r.spot.chip r.spot.memory) o m)
    (lined : raised ≡ line o.chip) (text : Printed r.written (line_text r.spot.number o.answer m raised) r.out k out) where
  one_turn : printing (line_of e (stretch trace from next) r.spot) (did e (stretch trace from next) next r.spot) r
      ≡ running (spot_at o.chip m next (r.spot.number + 1)) out (r.written + k)
  unfolding printing did line_of
  one_turn = rw (← payload, ← step.bytes, ← step.out, ← lined, text.count, text.bytes)

  pub again : (r₀ : Running) → Turned trace r₀ r → read_at trace r.spot.place ≡ event e from next
      → roomy r ≡ true → Turned trace r₀ (running (spot_at o.chip m next (r.spot.number + 1)) out (r.written + k))
  again r₀ t h room =
      let says : _ = room_says r.out r.written r.spot.number room in
      let short : length (line_text r.spot.number o.answer m raised) ≤ 158 = line_longest r.spot.number o.answer m raised t.counted in
      let same : length out ≡ length r.out = rw text.bytes (overlay_length r.written _ r.out) in
      record {
        left = rw one_turn at (goes_on trace r e from next h r₀ t.left room);
        sized = same ∙ t.sized;
        counted = omega (arith, says.1);
      }
