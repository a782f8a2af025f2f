-- `receive_service` meets its contract: the test of the state, then what RXS shows.
-- Assumes nothing.
use mathlib.Core.Path.{sym, ◌∙◌}
use Rattle.driver.specs.Registers.{whole}
use Rattle.receiving.proofs.Level.{formed_shows}
use Rattle.receiving.proofs.receive_service.Goals as goal

pub invariant_of-seen : goal.invariant_of-seen
invariant_of-seen c =
    let a : _ = c.args in
    record { shows = formed_shows (whole a.c a.memory.now) (sym c.well_formed-2.ensures ∙ c.if-not-well_formed.false) c.read-r.ensures }
