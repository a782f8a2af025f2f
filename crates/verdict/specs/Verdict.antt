-- What data after a token finds at an endpoint that receives.
use Rattle.std.specs.Prelude.{Bool, true, false}
use Rattle.choice.specs.Choice.{pick}
use Rattle.verdict.specs.declared.Judged.{Judged}
use Rattle.verdict.specs.declared.Judged.TheVariants.{Silence, Nak, Stall, Overrun, Ack}

-- "(unsound: silence)"
unfoldable pub heard : Bool → Judged → Judged
heard sound j = pick sound j Silence

-- the answer is ACK
abbrev pub is_ack : Judged → Bool
is_ack Silence = false
is_ack Nak = false
is_ack Stall = false
is_ack Overrun = false
is_ack Ack = true
