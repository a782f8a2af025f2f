-- `answered` meets its contract, one arm for each answer.
-- Assumes nothing.
use Rattle.lines.specs.Line.{answer_text}
use Rattle.lines.proofs.Joined.{placed}
use Rattle.lines.proofs.answered.Goals as goal

pub returns-in-Silence : goal.returns-in-Silence
unfolding answer_text
returns-in-Silence c =
    placed _ _ _ c.in-Silence.is c.place-from.ensures c.word.ensures

pub returns-in-Value : goal.returns-in-Value
unfolding answer_text
returns-in-Value c =
    placed _ _ _ c.in-Value.is c.place-from.ensures c.value.ensures

pub returns-in-Data0 : goal.returns-in-Data0
unfolding answer_text
returns-in-Data0 c =
    placed _ _ _ c.in-Data0.is c.place-from.ensures c.«data».ensures

pub returns-in-Data1 : goal.returns-in-Data1
unfolding answer_text
returns-in-Data1 c =
    placed _ _ _ c.in-Data1.is c.place-from.ensures c.data-in-Data1.ensures

pub returns-in-Broken : goal.returns-in-Broken
unfolding answer_text
returns-in-Broken c =
    placed _ _ _ c.in-Broken.is c.place-from.ensures c.word-in-Broken.ensures

pub returns-in-Ack : goal.returns-in-Ack
unfolding answer_text
returns-in-Ack c =
    placed _ _ _ c.in-Ack.is c.place-from.ensures c.word-in-Ack.ensures

pub returns-in-Nak : goal.returns-in-Nak
unfolding answer_text
returns-in-Nak c =
    placed _ _ _ c.in-Nak.is c.place-from.ensures c.word-in-Nak.ensures

pub returns-in-Stall : goal.returns-in-Stall
unfolding answer_text
returns-in-Stall c =
    placed _ _ _ c.in-Stall.is c.place-from.ensures c.word-in-Stall.ensures
