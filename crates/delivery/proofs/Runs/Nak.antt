-- A chip that answers every IN, or all OUT data, with NAK: no packet is lost or doubled, but demand 3's recovery fails.
-- Assumes nothing.
use Prim.Native.Nat.{ℕ}
use mathlib.Core.Path.{◌≡◌, refl, sym, ◌∙◌, ap}
use mathlib.Core.Logic.{inl}
use mathlib.Core.Bool.{true}
use mathlib.Core.List.{List, [], ◌∷◌, ◌++◌, append-nil}
use lib.Count.{count_trailing_zeros}
use Rattle.choice.specs.Choice.{pick}
use Rattle.window.specs.Window.{index_of}
use Rattle.ring.specs.Ring.{store_all, bytes_from}
use Rattle.fifo0.specs.Control.{rcount, put0, take0, fill0}
use Rattle.txfifo.specs.Transmit.{put_tx, refill_tx}
use Rattle.rxfifo.specs.Receive.{take_rx, fill_rx}
use Rattle.event.specs.Event.{ranges, count_of, kind_of, values_of, within, in_range}
use Rattle.epc.specs.Epc.{takes}
use Rattle.verdict.specs.Verdict.{heard}
use Rattle.sender.specs.Sender as sender
use Rattle.sender.specs.Sender.{near, moved, marked, command}
use Rattle.receiver.specs.Receiver as receiver
use Rattle.receiver.specs.Receiver.{flushed, received, received_bytes}
use Rattle.control.specs.State as zero
use Rattle.control.specs.State.{unmarked_empty}
use Rattle.control.specs.Registers.{flushed_by, tx_command, rx_bits}
use Rattle.controlbus.specs.Bus as controlbus
use Rattle.controlbus.specs.Bus.{disabled, handshake, judge_out, stored}
use Rattle.controlbus.specs.Setup.{refused, judge_setup, after_setup}
use Rattle.interrupt.specs.Interrupt.{maev, line}
use Rattle.settings.specs.Settings.{stop_sender, stop_receiver, stop_zero, nfsr_write, mask_write}
use Rattle.reads.specs.Read.{mask_of, control_read, sender_read, receiver_read, read_of}
use Rattle.writes.specs.Write.{control_command, receive_command, control_write, control_bytes, sender_command, sender_write, sender_bytes, receiver_write, write_of, bytes_of}
use Rattle.tokens.specs.Tokens.{own, zero_takes, sender_takes, receiver_takes, in_mask, out_mask, winner}
use Rattle.answer.specs.Answer.{packet_of}
use Rattle.ends.specs.Ends.{idled, done_flush, done_byte, sender_byte, ended_zero, ended_sender, ended_at, dropped_setup}
use Rattle.data.specs.Data.{marked_out, overrun, data_zero, data_zero_bytes, data_receiver, data_receiver_bytes, data_setup, data_setup_bytes, data_at, data_at_bytes}
use Rattle.bus.specs.Bus.{awaiting, marked_in, in_zero, in_sender, in_at, out_at, setup_token}
use Rattle.step.specs.Step.{quiet, read_step, write_step, in_step, out_step, setup_step, data_step, data_step_bytes, end_step, step_of, step_bytes}
use Rattle.packet.specs.Packet.{packet_bytes}
use Rattle.formed.specs.Formed.{sends, receives, unheld, flush_beside, held_beside, pending_for, senders_well, receivers_well, registers_well, well_formed}
use Rattle.laws.specs.Settings.{is_access}
use Rattle.laws.specs.Driver.{reserved}
use Rattle.driver.specs.Registers.{written, written_all, value, seen}
use Rattle.driver.specs.Driver.{set_up, accepted, admission, offered_by, offered, answered, send_served}
use Rattle.receiving.specs.Receive.{taken, rounds, flushing, accepting, judged, receive_served}
use Rattle.delivery.specs.Host.{over, is_over, is_acks, is_datas, is_others, elsewhere, other_token, other_rest, Packet, Host, sound, offer, send_service, receive_service, take, in_token, ack, out_token, out_data}
use Rattle.delivery.specs.World.{start_world, held, is_done, is_delivered, is_taken, called, act_offer, act_send, act_receive, answer_to, happens, hostly, goes, sees, host_in, got_in, act_in, act_ack, is_ack, act_take, act_out, host_out, sent, act_data, after_token, act_other, act, acts, World, if_so}
use Rattle.delivery.specs.Lists.{waiting, has, host_held, recover_sending, recover_receiving, Sent, Received, SentAgain, ReceivedAgain}
use Rattle.choice.proofs.ByTest.{by_test}
use Rattle.epc.specs.Bits.{bit_of}
use Rattle.event.specs.declared.Event.TheVariants as event
use Rattle.answer.specs.declared.Answer.{Answer}
use Rattle.answer.specs.declared.Answer.TheVariants.{Nak}
use Rattle.laws.specs.Next.{next}
use Rattle.delivery.proofs.Runs.Sides.{A, B, run, stray, sides, sending, receiving}

-- ---- IN

-- the chip's answer to the IN, and to the OUT's data
abbrev pub to_in : World → Answer
to_in w = answer_to (event.In w.pipes.a w.pipes.e) [] w.model

abbrev pub to_out : World → Answer
to_out w = answer_to (event.Data (bit_of w.host.sends) 1) w.host.packet w.model

pub nothing_got : (m : List ℕ) (h : Host) → got_in true Nak m h ≡ []
unfolding got_in
nothing_got m h = refl

pub in_gets_nothing : (w : World) → to_in w ≡ Nak → (act (in_token true true) w).lists.got ≡ w.lists.got
unfolding act act_in happens
in_gets_nothing w n =
    by_test (λ (x : World). x.lists.got ≡ w.lists.got) (is_over w.host.at)
    (λ _.
    let t = event.In w.pipes.a w.pipes.e in
    ap (λ x. w.lists.got ++ got_in true x (next t [] w.model).memory w.host) n
    ∙ ap (λ x. w.lists.got ++ x) (nothing_got _ w.host)
    ∙ append-nil w.lists.got)
    (λ _. refl)

ack_gets_nothing : (w : World) → (act (ack true) w).lists.got ≡ w.lists.got
unfolding act act_ack happens
ack_gets_nothing w = by_test (λ (x : World). x.lists.got ≡ w.lists.got) (is_acks w.host.at) (λ _. refl) (λ _. refl)

service_gets_nothing : (w : World) → (act send_service w).lists.got ≡ w.lists.got
unfolding act act_send called
service_gets_nothing w = refl

-- in the recovery the IN is answered by NAK: the host has got what it had
pub recovery_gets_nothing : (w : World) → to_in (act send_service w) ≡ Nak → (recover_sending w).lists.got ≡ w.lists.got
unfolding recover_sending acts
recovery_gets_nothing w n =
    let s : World = act send_service w in
    by_test (λ (x : World). x.lists.got ≡ w.lists.got) s.driver.held
    (λ _.
    service_gets_nothing (act (ack true) (act (in_token true true) s))
    ∙ ack_gets_nothing (act (in_token true true) s)
    ∙ in_gets_nothing s n
    ∙ service_gets_nothing w)
    (λ _. service_gets_nothing w)

-- so it fails wherever the host has not got the packet that the driver holds
pub nak_fails_sending : (w : World) → to_in (act send_service w) ≡ Nak → (w.lists.got ≡ w.lists.delivered ++ held w → ⊥) → SentAgain w → ⊥
nak_fails_sending w n d s = d (sym (recovery_gets_nothing w n) ∙ s.got)

-- ---- OUT

out_known : (a : Answer) → a ≡ Nak → (l : List Packet) (p : Packet) → l ++ if_so (is_ack a) p ≡ l
unfolding is_ack pick
out_known a n l p = ap (λ x. l ++ if_so (is_ack x) p) n ∙ append-nil l

pub out_tells_nothing : (w : World) → to_out w ≡ Nak → (act (out_data sound true) w).lists.known ≡ w.lists.known
unfolding act act_data sent happens
out_tells_nothing w n =
    by_test (λ (x : World). x.lists.known ≡ w.lists.known) (is_datas w.host.at) (λ _. out_known _ n w.lists.known w.host.packet) (λ _. refl)

token_tells_nothing : (w : World) → (act (out_token true) w).lists.known ≡ w.lists.known
unfolding act act_out happens
token_tells_nothing w = by_test (λ (x : World). x.lists.known ≡ w.lists.known) _ (λ _. refl) (λ _. refl)

service_tells_nothing : (w : World) → (act receive_service w).lists.known ≡ w.lists.known
unfolding act act_receive called
service_tells_nothing w = refl

pub recovery_tells_nothing : (w : World) → to_out (act (out_token true) (act receive_service w)) ≡ Nak
    → (recover_receiving w).lists.known ≡ w.lists.known
unfolding recover_receiving acts
recovery_tells_nothing w n =
    let s : World = act receive_service w in
    by_test (λ (x : World). x.lists.known ≡ w.lists.known) s.host.holds
    (λ _.
    service_tells_nothing (act (out_data sound true) (act (out_token true) s))
    ∙ out_tells_nothing (act (out_token true) s) n
    ∙ token_tells_nothing s
    ∙ service_tells_nothing w)
    (λ _. service_tells_nothing w)

pub nak_fails_receiving : (w : World) → to_out (act (out_token true) (act receive_service w)) ≡ Nak
    → (w.lists.known ≡ w.lists.known ++ host_held w → ⊥) → ReceivedAgain w → ⊥
nak_fails_receiving w n d s = d (sym (recovery_tells_nothing w n) ∙ s.known)

-- ---- examples

-- A is offered, but TX_EN is cleared; the host holds B, but RX_EN is cleared
abbrev pub naks_in : World
naks_in = stray (event.Write 0x2B 0x02) [] (run (offer A ∷ []))

abbrev pub naks_out : World
naks_out = stray (event.Write 0x2F 0x00) [] (run (take B ∷ []))

pub record Naks : Type 0 where
  pub in_over : naks_in.host.at ≡ over
  pub in_nakked : to_in (act send_service naks_in) ≡ Nak
  pub sent : sending naks_in ≡ sides [] (A ∷ []) []
  pub sent_then : sending (recover_sending naks_in) ≡ sides [] (A ∷ []) []
  -- the other two sentences hold: they alone would let such a chip pass
  pub sent-once : Sent naks_in
  pub out_over : naks_out.host.at ≡ over
  pub out_nakked : to_out (act (out_token true) (act receive_service naks_out)) ≡ Nak
  pub received : receiving naks_out ≡ sides [] (B ∷ []) []
  pub received_then : receiving (recover_receiving naks_out) ≡ sides [] (B ∷ []) []
  pub received-once : Received naks_out

pub naks : Naks
unfolding count_trailing_zeros pick index_of store_all bytes_from rcount put0 take0 fill0 put_tx refill_tx take_rx fill_rx ranges count_of kind_of values_of within in_range takes heard near moved marked command sender.answer_in sender.sent sender.well_formed flushed receiver.judged received received_bytes receiver.well_formed unmarked_empty zero.well_formed flushed_by tx_command rx_bits disabled controlbus.answer_in handshake judge_out stored refused judge_setup after_setup maev line stop_sender stop_receiver stop_zero nfsr_write mask_write mask_of control_read sender_read receiver_read read_of control_command receive_command control_write control_bytes sender_command sender_write sender_bytes receiver_write write_of bytes_of own zero_takes sender_takes receiver_takes in_mask out_mask winner packet_of idled done_flush done_byte sender_byte ended_zero ended_sender ended_at dropped_setup marked_out overrun data_zero data_zero_bytes data_receiver data_receiver_bytes data_setup data_setup_bytes data_at data_at_bytes awaiting marked_in in_zero in_sender in_at out_at setup_token quiet read_step write_step in_step out_step setup_step data_step data_step_bytes end_step step_of step_bytes packet_bytes sends receives unheld flush_beside held_beside pending_for senders_well receivers_well registers_well well_formed is_access reserved written written_all value seen set_up accepted admission offered_by offered answered send_served taken rounds flushing accepting judged receive_served is_over is_acks is_datas is_others elsewhere other_token other_rest start_world held is_done is_delivered is_taken called act_offer act_send act_receive answer_to happens hostly goes sees host_in got_in act_in act_ack is_ack act_take act_out host_out sent act_data after_token act_other act acts waiting has host_held recover_sending recover_receiving
naks =
    record {
      in_over = refl;
      in_nakked = refl;
      sent = refl;
      sent_then = refl;
      sent-once = record { once = inl refl; in_order = refl };
      out_over = refl;
      out_nakked = refl;
      received = refl;
      received_then = refl;
      received-once = record { once = inl refl };
    }
