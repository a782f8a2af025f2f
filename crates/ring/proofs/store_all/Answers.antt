-- `store_all` meets its contract: what is left to store, stored into the memory as it is now, gives the whole.
-- Assumes nothing.
use Rattle.std.proofs.Common.{◌≡◌, ℕ, ◌+◌, ◌<◌, List, length, get_or, drop, add-one, arith, drop-cons}
use Rattle.ring.specs.Ring.{next, store, store_all}
use lib.Seq.{drop-length}
use Rattle.ring.proofs.store_all.Goals as goal

-- one turn of the definition, with the byte that this turn stored
turn : (start size : ℕ) (memory s : List ℕ) (at i : ℕ) → i < length s
    → store_all start size at (drop i s) memory ≡ store_all start size (next at) (drop (i + 1) s) (store start size at (get_or s i 0) memory)
unfolding store_all
turn start size memory s at i h = rw (drop-cons s i 0, add-one i)

pub loop-b-preserved : goal.loop-b-preserved
loop-b-preserved c =
    let e : c.next-counter.result ≡ next c.loop-b.counter = c.next-counter.ensures in (
      omega arith,
      omega arith,
      rw (e, c.store.ensures, ← turn _ _ _ _ _ _ c.loop-b-test.true) c.loop-b.invariant.2,
    )

pub returns : goal.returns
unfolding store_all
returns c =
    let e : c.loop-b.b-index ≡ length c.args.s.now = omega arith in
    record { counter_after = omega arith; bytes = rw (e, drop-length) at c.loop-b.invariant.2 }
