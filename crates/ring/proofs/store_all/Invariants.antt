-- `store_all` meets its contract: what is left to store, stored into the memory as it is now, gives the whole.
-- Assumes nothing.
use Rattle.std.proofs.Common.{◌≡◌, ◌+◌, ◌%◌, ◌≤◌, length, drop}
use Rattle.ring.specs.Ring.{store_all}
use Rattle.window.specs.Window.{start_of, size_of}
use Rattle.ring.proofs.store_all.Given as goal

abbrev pub invariant-loop-b : goal.invariant-loop-b
invariant-loop-b l =
    (l.b-index ≤ length l.s)
    × (l.counter ≡ (l.fn.counter + l.b-index) % 256)
    × (store_all (start_of l.window.kind l.window.number) (size_of l.window.kind) l.counter (drop l.b-index l.s) l.memory
    ≡ store_all (start_of l.window.kind l.window.number) (size_of l.window.kind) l.fn.counter l.s l.fn.memory)
