-- `record_of` meets its contract: each arm by the laws of what a record is by its fields.
-- Assumes nothing.
use Rattle.std.proofs.Common.{arith}
use Rattle.choice.specs.Choice.{pick}
use Rattle.event.specs.Event.{ranges, event_of, count_of}
use Rattle.trace.specs.Record.{record_at}
use Rattle.trace.proofs.Bare.{bodies}
use Rattle.trace.proofs.record_of.Goals as goal

pub returns-in_err-kind : goal.returns-in_err-kind
unfolding record_at ranges event_of count_of pick
returns-in_err-kind c = grind (arith, bodies)

pub returns-in_err-register-in-1 : goal.returns-in_err-register-in-1
unfolding record_at ranges event_of count_of pick
returns-in_err-register-in-1 c = grind (arith, bodies)

pub returns-in_ok-register-in-1 : goal.returns-in_ok-register-in-1
unfolding record_at ranges event_of count_of pick
returns-in_ok-register-in-1 c = grind (arith, bodies)

pub returns-in_err-register-in-2 : goal.returns-in_err-register-in-2
unfolding record_at ranges event_of count_of pick
returns-in_err-register-in-2 c = grind (arith, bodies)

pub returns-in_ok-register-in-2 : goal.returns-in_ok-register-in-2
unfolding record_at ranges event_of count_of pick
returns-in_ok-register-in-2 c = grind (arith, bodies)

pub returns-in_err-token-in-3 : goal.returns-in_err-token-in-3
unfolding record_at ranges event_of count_of pick
returns-in_err-token-in-3 c = grind (arith, bodies)

pub returns-in_ok-token-in-3 : goal.returns-in_ok-token-in-3
unfolding record_at ranges event_of count_of pick
returns-in_ok-token-in-3 c = grind (arith, bodies)

pub returns-in_err-token-in-4 : goal.returns-in_err-token-in-4
unfolding record_at ranges event_of count_of pick
returns-in_err-token-in-4 c = grind (arith, bodies)

pub returns-in_ok-token-in-4 : goal.returns-in_ok-token-in-4
unfolding record_at ranges event_of count_of pick
returns-in_ok-token-in-4 c = grind (arith, bodies)

pub returns-in_err-token-in-5 : goal.returns-in_err-token-in-5
unfolding record_at ranges event_of count_of pick
returns-in_err-token-in-5 c = grind (arith, bodies)

pub returns-in_ok-token-in-5 : goal.returns-in_ok-token-in-5
unfolding record_at ranges event_of count_of pick
returns-in_ok-token-in-5 c = grind (arith, bodies)

pub returns-in-6 : goal.returns-in-6
unfolding record_at ranges event_of count_of pick
returns-in-6 c = grind (arith, bodies)

pub returns-in-7 : goal.returns-in-7
unfolding record_at ranges event_of count_of pick
returns-in-7 c = grind (arith, bodies)

pub returns-in-8 : goal.returns-in-8
unfolding record_at ranges event_of count_of pick
returns-in-8 c = grind (arith, bodies)

pub returns-in_default : goal.returns-in_default
unfolding record_at ranges event_of count_of pick
returns-in_default c = grind (arith, bodies)
