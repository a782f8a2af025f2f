-- `events` meets its contract: each turn leaves the same run.
-- Assumes nothing.
use Rattle.std.proofs.Common.{◌≡◌, Ok, Err, Some, None, rules}
use Rattle.running.proofs.Turns.{stops, at_start, is_full, ends, again, room_says, line_fits}
use Rattle.running.specs.declared.Stop.TheVariants as stop
use Rattle.running.specs.Run.{under_way}
use Rattle.trace.specs.Record.{event, read_at}
use Rattle.reading.proofs.Reader.{next_past}
use mathlib.Core.Path.{refl, sym, ◌∙◌}
use native.Mathlib.Omega.{arith}
use Rattle.running.proofs.events.Goals.{In-Ok-Some, in_default-via-in-Ok+in_default, in_default-via-in_default}
use Rattle.running.proofs.events.Goals as goal

-- what stands at the place is the event
reads : (c : In-Ok-Some) → read_at c.args.s.now c.loop-event.run.place ≡ event c.in-Ok-Some.event c.in-Ok-Some.span.payload c.in-Ok-Some.span.next
reads c =
    let found : c.read-found.result ≡ Ok (Some (c.in-Ok-Some.event, c.in-Ok-Some.span)) = search rules in
    sym (rw found at c.read-found.ensures)

pub loop-event-init : goal.loop-event-init
loop-event-init c = record { left = at_start _ _; sized = refl; counted = omega arith }

pub returns-then-not-roomy : goal.returns-then-not-roomy
returns-then-not-roomy c =
    is_full _ _ _ _ _ (reads (goal.at.returns-then-not-roomy c).In-Ok-Some) _ c.loop-event.invariant.left (sym c.roomy.ensures ∙ c.if-not-roomy.true)

pub overflow_add-run : goal.overflow_add-run
overflow_add-run c =
    let says = room_says _ _ _ (sym c.roomy.ensures ∙ c.if-not-roomy.false) in
    omega (arith, says.0, c.loop-event.invariant.sized, c.well_formed, line_fits _ _ _ _ _ _ c.loop-event.invariant.counted c.line-in-loop-event.ensures)

pub overflow_add-run-in-loop-event : goal.overflow_add-run-in-loop-event
overflow_add-run-in-loop-event c = omega (arith, (room_says _ _ _ (sym c.roomy.ensures ∙ c.if-not-roomy.false)).1)

pub loop-event-smaller : goal.loop-event-smaller
loop-event-smaller c =
    let past = next_past _ _ _ _ _ (reads (goal.at.loop-event-smaller c).In-Ok-Some) in
    omega (arith, past.0, past.1, past.2)

pub loop-event-preserved : goal.loop-event-preserved
loop-event-preserved c =
    again _ (under_way c.loop-event.run c.loop-event.memory c.loop-event.out) _ _ _ _ c.step-o.result _ _ _ _ c.payload.ensures c.step-o.ensures c.line.ensures c.line-in-loop-event.ensures _ c.loop-event.invariant
    (reads (goal.at.loop-event-preserved c).In-Ok-Some) (sym c.roomy.ensures ∙ c.if-not-roomy.false)

-- the end, or the refusal
pub returns-in_default : goal.returns-in_default
returns-in_default c =
    elim c.in_default.branch [
      | in_default-via-in-Ok+in_default w ↦
          let found : c.read-found.result ≡ Ok None = search rules in
          let up : c.map.result ≡ Ok stop.End = search rules in
          rw up (ends _ _ _ c.loop-event.invariant.left (sym (rw found at c.read-found.ensures)))
      | in_default-via-in_default w ↦
          let up : c.map.result ≡ Err w.in_default.field-0 = search rules in
          rw up (stops _ _ _ _ _ c.loop-event.invariant.left (sym (rw w.in_default.is at c.read-found.ensures)))
    ]
