-- One outcome for each input: the FIFOs.
-- Assumes nothing.
use Rattle.once.proofs.Once.{Once, once, both, same}
use Rattle.window.proofs.FifoNumber.index.Reads as window-FifoNumber-index
use Rattle.window.proofs.Window.size.Reads as window-Window-size
use Rattle.window.proofs.Window.start.Reads as window-Window-start
use Rattle.ring.proofs.level.Reads as ring-level
use Rattle.ring.proofs.free.Reads as ring-free
use Rattle.ring.proofs.next.Reads as ring-next
use Rattle.ring.proofs.load.Reads as ring-load
use Rattle.ring.proofs.store.Reads as ring-store
use Rattle.ring.proofs.store_all.Reads as ring-store_all
use Rattle.fifo0.proofs.Fifo0.reset.Reads as fifo0-Fifo0-reset
use Rattle.fifo0.proofs.Fifo0.rcount.Reads as fifo0-Fifo0-rcount
use Rattle.fifo0.proofs.Fifo0.put.Reads as fifo0-Fifo0-put
use Rattle.fifo0.proofs.Fifo0.take.Reads as fifo0-Fifo0-take
use Rattle.fifo0.proofs.Fifo0.fits.Reads as fifo0-Fifo0-fits
use Rattle.fifo0.proofs.Fifo0.fill.Reads as fifo0-Fifo0-fill
use Rattle.fifo0.proofs.Fifo0.spend.Reads as fifo0-Fifo0-spend
use Rattle.fifo0.proofs.Fifo0.flush.Reads as fifo0-Fifo0-flush
use Rattle.txfifo.proofs.TxFifo.reset.Reads as txfifo-TxFifo-reset
use Rattle.txfifo.proofs.TxFifo.put.Reads as txfifo-TxFifo-put
use Rattle.txfifo.proofs.TxFifo.spend.Reads as txfifo-TxFifo-spend
use Rattle.txfifo.proofs.TxFifo.refill.Reads as txfifo-TxFifo-refill
use Rattle.txfifo.proofs.TxFifo.mark.Reads as txfifo-TxFifo-mark
use Rattle.txfifo.proofs.TxFifo.flush.Reads as txfifo-TxFifo-flush
use Rattle.rxfifo.proofs.RxFifo.reset.Reads as rxfifo-RxFifo-reset
use Rattle.rxfifo.proofs.RxFifo.take.Reads as rxfifo-RxFifo-take
use Rattle.rxfifo.proofs.RxFifo.fits.Reads as rxfifo-RxFifo-fits
use Rattle.rxfifo.proofs.RxFifo.fill.Reads as rxfifo-RxFifo-fill
use Rattle.rxfifo.proofs.RxFifo.flush.Reads as rxfifo-RxFifo-flush

pub window-FifoNumber-index-once : Once window-FifoNumber-index.Post (λ κ r s. r)
window-FifoNumber-index-once = once (λ κ a r s p. p.0)

pub window-Window-size-once : Once window-Window-size.Post (λ κ r s. r)
window-Window-size-once = once (λ κ a r s p. p)

pub window-Window-start-once : Once window-Window-start.Post (λ κ r s. r)
window-Window-start-once = once (λ κ a r s p. p.0)

pub ring-level-once : Once ring-level.Post (λ κ r s. r)
ring-level-once = once (λ κ a r s p. p)

pub ring-free-once : Once ring-free.Post (λ κ r s. r)
ring-free-once = once (λ κ a r s p. p)

pub ring-next-once : Once ring-next.Post (λ κ r s. r)
ring-next-once = once (λ κ a r s p. p)

pub ring-load-once : Once ring-load.Post (λ κ r s. r)
ring-load-once = once (λ κ a r s p. p)

pub ring-store-once : Once ring-store.Post (λ κ r s. s.0.now)
ring-store-once = once (λ κ a r s p. p)

pub ring-store_all-once : Once ring-store_all.Post (λ κ r s. both r s.0.now)
ring-store_all-once = once (λ κ a r s p. same p.counter_after p.bytes)

pub fifo0-Fifo0-reset-once : Once fifo0-Fifo0-reset.Post (λ κ r s. r)
fifo0-Fifo0-reset-once = once (λ κ a r s p. p)

pub fifo0-Fifo0-rcount-once : Once fifo0-Fifo0-rcount.Post (λ κ r s. r)
fifo0-Fifo0-rcount-once = once (λ κ a r s p. p)

pub fifo0-Fifo0-put-once : Once fifo0-Fifo0-put.Post (λ κ r s. both r s.1.0.now)
fifo0-Fifo0-put-once = once (λ κ a r s p. same p.counters p.bytes)

pub fifo0-Fifo0-take-once : Once fifo0-Fifo0-take.Post (λ κ r s. r)
fifo0-Fifo0-take-once = once (λ κ a r s p. p)

pub fifo0-Fifo0-fits-once : Once fifo0-Fifo0-fits.Post (λ κ r s. r)
fifo0-Fifo0-fits-once = once (λ κ a r s p. p)

pub fifo0-Fifo0-fill-once : Once fifo0-Fifo0-fill.Post (λ κ r s. both r s.1.0.now)
fifo0-Fifo0-fill-once = once (λ κ a r s p. same p.counters p.bytes)

pub fifo0-Fifo0-spend-once : Once fifo0-Fifo0-spend.Post (λ κ r s. r)
fifo0-Fifo0-spend-once = once (λ κ a r s p. p)

pub fifo0-Fifo0-flush-once : Once fifo0-Fifo0-flush.Post (λ κ r s. r)
fifo0-Fifo0-flush-once = once (λ κ a r s p. p)

pub txfifo-TxFifo-reset-once : Once txfifo-TxFifo-reset.Post (λ κ r s. r)
txfifo-TxFifo-reset-once = once (λ κ a r s p. p)

pub txfifo-TxFifo-put-once : Once txfifo-TxFifo-put.Post (λ κ r s. both r s.1.0.now)
txfifo-TxFifo-put-once = once (λ κ a r s p. same p.counters p.bytes)

pub txfifo-TxFifo-spend-once : Once txfifo-TxFifo-spend.Post (λ κ r s. r)
txfifo-TxFifo-spend-once = once (λ κ a r s p. p)

pub txfifo-TxFifo-refill-once : Once txfifo-TxFifo-refill.Post (λ κ r s. r)
txfifo-TxFifo-refill-once = once (λ κ a r s p. p)

pub txfifo-TxFifo-mark-once : Once txfifo-TxFifo-mark.Post (λ κ r s. r)
txfifo-TxFifo-mark-once = once (λ κ a r s p. p)

pub txfifo-TxFifo-flush-once : Once txfifo-TxFifo-flush.Post (λ κ r s. r)
txfifo-TxFifo-flush-once = once (λ κ a r s p. p)

pub rxfifo-RxFifo-reset-once : Once rxfifo-RxFifo-reset.Post (λ κ r s. r)
rxfifo-RxFifo-reset-once = once (λ κ a r s p. p)

pub rxfifo-RxFifo-take-once : Once rxfifo-RxFifo-take.Post (λ κ r s. r)
rxfifo-RxFifo-take-once = once (λ κ a r s p. p)

pub rxfifo-RxFifo-fits-once : Once rxfifo-RxFifo-fits.Post (λ κ r s. r)
rxfifo-RxFifo-fits-once = once (λ κ a r s p. p)

pub rxfifo-RxFifo-fill-once : Once rxfifo-RxFifo-fill.Post (λ κ r s. both r s.1.0.now)
rxfifo-RxFifo-fill-once = once (λ κ a r s p. same p.counters p.bytes)

pub rxfifo-RxFifo-flush-once : Once rxfifo-RxFifo-flush.Post (λ κ r s. r)
rxfifo-RxFifo-flush-once = once (λ κ a r s p. p)
