-- Runs that break demand 3's premises one by one, named after what they break.
-- Assumes nothing.
use mathlib.Core.Bool.{Bool, true, false}
use mathlib.Core.List.{[], ◌∷◌}
use lib.ListN.{replicate}
use Rattle.event.specs.declared.Event.TheVariants.{Write, In, Out, Data, Ack}
use Rattle.state.specs.State.{reset}
use Rattle.driver.specs.declared.Driver.{Driver}
use Rattle.driver.specs.Driver.{fresh}
use Rattle.delivery.specs.Host.{Packet, sound, lost, offer, send_service, receive_service, access, take, in_token, ack, out_token, out_data, timeout}
use Rattle.delivery.specs.World.{World, world, knows_more, hostly, host_out, act, acts}
use Rattle.delivery.proofs.Runs.Sides.{A, B, pipes, run, stray}

-- ---- what the host and the driver do not do by themselves

-- the host takes up any packet, as many bytes as it may have; or drops the one that it holds
abbrev holding : Packet → World → World
holding p w = hostly (record { expects = w.host.expects; sends = w.host.sends; holds = true; packet = p; at = w.host.at }) w

abbrev dropping : World → World
dropping w = hostly (record { expects = w.host.expects; sends = w.host.sends; holds = false; packet = []; at = w.host.at }) w

-- the host's toggles set
abbrev toggled : Bool → Bool → World → World
toggled x y w = hostly (record { expects = x; sends = y; holds = w.host.holds; packet = w.host.packet; at = w.host.at }) w

-- another driver at the start
abbrev driven : Driver → World → World
driven d w = world w.pipes w.model d w.host w.lists

-- ---- "OUT packets have 1 to 64 bytes"

abbrev pub empty_out : World
empty_out = acts (out_token true ∷ out_data sound true ∷ receive_service ∷ []) (holding [] (run []))

abbrev pub after_empty_out : World
after_empty_out = act (take A) empty_out

abbrev pub many : Packet
many = replicate 65 0x41

abbrev pub long_out : World
long_out = holding many (run [])

-- ---- "each transaction, the timeout that closes a failed one included, is over before the next"

-- A goes out and is not seen, and no timeout comes: the next ACK is that of another transaction, whose token was lost
abbrev pub in_left_open : World
in_left_open = act send_service (stray Ack [] (run (offer A ∷ in_token true false ∷ [])))

-- the data of an OUT are lost, and no timeout comes: the next data are those of another transaction, whose token was lost
abbrev pub out_left_open : World
out_left_open = stray (Data 0 1) B (run (take A ∷ out_token true ∷ out_data lost true ∷ []))

-- an OUT to endpoint 4 is open when our OUT begins, whose token is lost: endpoint 4 takes our data
abbrev pub other_left_open : World
other_left_open =
    acts (out_token false ∷ out_data sound true ∷ receive_service ∷ [])
    (stray (Out 5 (record { 0 = 4 })) [] (run (access (Write 0x34 0x14) ∷ access (Write 0x37 0x01) ∷ take A ∷ [])))

-- ---- "its toggles 0 at the start and not reset after it"

abbrev pub expects_1_at_start : World
expects_1_at_start = acts (offer A ∷ in_token true true ∷ ack true ∷ send_service ∷ []) (toggled true false (run []))

abbrev pub sends_1_at_start : World
sends_1_at_start = acts (take A ∷ out_token true ∷ out_data sound true ∷ receive_service ∷ []) (toggled false true (run []))

abbrev pub in_reset : World
in_reset =
    acts (offer B ∷ in_token true true ∷ ack true ∷ send_service ∷ [])
    (toggled false false (run (offer A ∷ in_token true true ∷ ack true ∷ send_service ∷ [])))

abbrev pub in_reset_in_between : World
in_reset_in_between =
    acts (in_token true true ∷ ack true ∷ send_service ∷ [])
    (toggled false false (run (offer A ∷ in_token true true ∷ ack false ∷ timeout ∷ send_service ∷ [])))

abbrev pub out_reset : World
out_reset =
    acts (take B ∷ out_token true ∷ out_data sound true ∷ receive_service ∷ [])
    (toggled false false (run (take A ∷ out_token true ∷ out_data sound true ∷ receive_service ∷ [])))

abbrev pub out_reset_in_between : World
out_reset_in_between =
    acts (out_token true ∷ out_data sound true ∷ receive_service ∷ [])
    (toggled false false
    (run
    (take A ∷ out_token true ∷ out_data sound true ∷ receive_service ∷ take B ∷ out_token true ∷ out_data sound false ∷ timeout ∷ receive_service ∷ [])))

-- ---- "never forged"

abbrev pub forged_ack : World
forged_ack = act send_service (stray Ack [] (stray (In 5 (record { 0 = 1 })) [] (run (offer A ∷ []))))

abbrev pub forged_data : World
forged_data = act receive_service (stray (Data 0 1) B (stray (Out 5 (record { 0 = 2 })) [] (run [])))

-- the data are lost, and the host sees an ACK
abbrev seeing_ack : World → World
seeing_ack w = world w.pipes w.model w.driver (host_out true w.host) (knows_more (w.host.packet ∷ []) w.lists)

abbrev pub forged_answer : World
forged_answer = seeing_ack (run (take A ∷ out_token true ∷ out_data lost true ∷ []))

-- ---- "keeps an OUT packet until it sees the ACK"

abbrev pub not_kept : World
not_kept =
    acts (take B ∷ out_token true ∷ out_data sound true ∷ receive_service ∷ [])
    (dropping (run (take A ∷ out_token true ∷ out_data sound false ∷ timeout ∷ receive_service ∷ [])))

-- ---- "from a fresh start, set up as 01 says"

abbrev pub old_driver_sends : World
old_driver_sends =
    acts (offer A ∷ in_token true true ∷ ack true ∷ send_service ∷ []) (driven (record { held = false; sends = true; expects = false }) (run []))

abbrev pub old_driver_expects : World
old_driver_expects =
    acts (take A ∷ out_token true ∷ out_data sound true ∷ receive_service ∷ [])
    (driven (record { held = false; sends = false; expects = true }) (run []))

-- the packet of an earlier run is still in RXFIFO1, or in TXFIFO1
abbrev pub old_packet : World
old_packet =
    let w : World = run (take B ∷ out_token true ∷ out_data sound true ∷ []) in
    world pipes w.model fresh (run []).host (run []).lists

abbrev pub old_offer : World
old_offer =
    let w : World = run (offer B ∷ []) in
    acts (offer A ∷ in_token true true ∷ ack true ∷ send_service ∷ []) (world pipes w.model fresh (run []).host (run []).lists)

-- the reset state, not set up
abbrev pub not_set_up : World
not_set_up = acts (offer A ∷ take B ∷ []) (world pipes reset fresh (run []).host (run []).lists)
