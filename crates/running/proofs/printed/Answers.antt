-- `printed` meets its contract: with room the refusal's line is printed.
-- Assumes nothing.
use Rattle.running.proofs.Turns.{refusal_short, room_says}
use Rattle.running.specs.Run.{ending, printing}
use Rattle.choice.specs.Choice.{pick}
use native.Mathlib.Omega.{arith}
use mathlib.Core.Path.{sym, ◌∙◌}
use Rattle.running.proofs.printed.Goals as goal

pub returns-then-not-roomy : goal.returns-then-not-roomy
unfolding ending pick
returns-then-not-roomy c memory = rw (sym c.roomy.ensures ∙ c.if-not-roomy.true)

pub overflow_add-run : goal.overflow_add-run
overflow_add-run c =
    let run = c.args.run in
    let room = room_says _ _ _ (sym c.roomy.ensures ∙ c.if-not-roomy.false) in
    omega (arith, room.0, c.refusal.ensures.count, refusal_short run.number c.args.refused.why c.args.refused.place (omega arith) (omega arith))

pub returns : goal.returns
unfolding ending printing pick
returns c memory = rw (sym c.roomy.ensures ∙ c.if-not-roomy.false, c.refusal.ensures.count, c.refusal.ensures.bytes)
