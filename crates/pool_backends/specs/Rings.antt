-- What a ring keeps.
use Rattle.std.specs.Prelude.{◌≡◌, ℕ, []}
use Rattle.pool_backends.specs.declared.order.Order.TheVariants.{Fifo}
use Rattle.pool_backends.specs.declared.ring.RingBackend.{RingBackend}
use Rattle.pool_backends.specs.Stocks.{Stock}

abbrev pub stock_of : RingBackend → Stock
stock_of ring =
    record { pending = ring.names.items; arranged = ring.order; capacity = ring.names.capacity }

-- It has no names, is arranged Fifo, and has room for so many.
abbrev pub IsNewRing : ℕ → RingBackend → Type 0
IsNewRing capacity ring =
    stock_of ring ≡ record { pending = []; arranged = Fifo; capacity = capacity }
