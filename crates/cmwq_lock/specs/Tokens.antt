-- What clauses read of a lock and its tokens.
use Rattle.std.specs.Prelude.{◌≡◌, ℕ}
use Rattle.cmwq_lock.specs.declared.kept.Kept.{Ghosts}
use Rattle.cmwq_lock.specs.declared.views.SeatView.{SeatView}
use Rattle.cmwq_lock.specs.declared.lock.TicketLock.{TicketLock}
use Rattle.cmwq_lock.specs.declared.tokens.Opener.{Opener}
use Rattle.cmwq_lock.specs.declared.tokens.Pass.{Pass}
use Rattle.cmwq_lock.specs.declared.tokens.Drawn.{Drawn}
use Rattle.cmwq_lock.specs.declared.fault.NotDrawnWhy.{NotDrawnWhy}
use Rattle.cmwq_lock.specs.declared.fault.NotDrawnWhy.TheVariants.{Raced, Exhausted}
use Rattle.cmwq_lock.specs.Views.{HasOrigin}

module _ {T O E : Type 0} {K : Ghosts T O E} where
  -- what the token knows
  abbrev pub opener_view : Opener T O E K → SeatView O E
  opener_view opener = opener.seat.me.0

  abbrev pub pass_view : Pass T O E K → SeatView O E
  pass_view pass = pass.seat.me.0

  abbrev pub drawn_view : Drawn T O E K → SeatView O E
  drawn_view drawn = drawn.seat.me.0

module _ {T O E : Type 0} (K : Ghosts T O E) where
  -- the origin of the values that the lock keeps
  abbrev pub lock_origin : TicketLock T O E → O
  lock_origin lock = K.origin lock.table.shared.key.value

  -- the token is this lock's
  pub record IsOpenerOf (lock : TicketLock T O E) (opener : Opener T O E K) : Type 0 where
    pub same_lock : opener.seat.table_id ≡ lock.table.shared.table_id
    pub same_origin : HasOrigin (opener_view opener) (lock_origin lock)

  pub record IsPassOf (lock : TicketLock T O E) (pass : Pass T O E K) : Type 0 where
    pub same_lock : pass.seat.table_id ≡ lock.table.shared.table_id
    pub same_origin : HasOrigin (pass_view pass) (lock_origin lock)

  pub record IsDrawnOf (lock : TicketLock T O E) (drawn : Drawn T O E K) : Type 0 where
    pub same_lock : drawn.seat.table_id ≡ lock.table.shared.table_id
    pub same_origin : HasOrigin (drawn_view drawn) (lock_origin lock)

-- a fact of the two numbers, where another caller drew between the load and the exchange
abbrev pub IfRaced : NotDrawnWhy → (ℕ → ℕ → Type 0) → Type 0
IfRaced (Raced loaded found) fact = fact loaded found
IfRaced Exhausted fact = Unit {0}

-- a fact where all tickets are drawn
abbrev pub IfExhausted : NotDrawnWhy → Type 0 → Type 0
IfExhausted (Raced loaded found) fact = Unit {0}
IfExhausted Exhausted fact = fact
