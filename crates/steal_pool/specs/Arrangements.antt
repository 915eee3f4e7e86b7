-- How many backends of an arrangement were given out, and in which order.
use Rattle.std.specs.Prelude.{◌≡◌, ℕ}
use Rattle.steal_pool.specs.declared.given.Given.{Given}
use Rattle.pool_backends.specs.declared.order.Order.{Order}

-- Of so many backends so many were given out, each arranged in this order.
pub record HasGiven (order : Order) (asked given : ℕ) (told : Given) : Type 0 where
  pub order_is : told.order ≡ order
  pub asked_is : told.asked ≡ asked
  pub given_is : told.given ≡ given
