-- What a place and a mode tell.
use Rattle.std.specs.Prelude.{ℕ, Bool, true, false, nat_le, ◌==◌}
use Rattle.cmwq_types.specs.declared.reply.Mode.{Mode}
use Rattle.cmwq_types.specs.declared.reply.Mode.TheVariants.{Runnable, Asleep}
use Rattle.cmwq_types.specs.declared.reply.Place.{Place}
use Rattle.cmwq_types.specs.declared.reply.Place.TheVariants.{Timer, Inactive, Listed, Deferred}

abbrev pub is_inactive : Place → ℕ → Bool
is_inactive (Inactive at) pool = at == pool
is_inactive (Timer due cpu) pool = false
is_inactive (Listed at) pool = false
is_inactive (Deferred at) pool = false

abbrev pub is_listed : Place → ℕ → Bool
is_listed (Listed at) pool = at == pool
is_listed (Timer due cpu) pool = false
is_listed (Inactive at) pool = false
is_listed (Deferred at) pool = false

-- listed or deferred: it counts against max_active
abbrev pub is_active : Place → ℕ → Bool
is_active (Listed at) pool = at == pool
is_active (Deferred at) pool = at == pool
is_active (Timer due cpu) pool = false
is_active (Inactive at) pool = false

-- the same, in whatever pool
abbrev pub is_activated : Place → Bool
is_activated (Listed at) = true
is_activated (Deferred at) = true
is_activated (Timer due cpu) = false
is_activated (Inactive at) = false

abbrev pub is_deferred : Place → Bool
is_deferred (Deferred at) = true
is_deferred (Timer due cpu) = false
is_deferred (Inactive at) = false
is_deferred (Listed at) = false

-- inactive, listed or deferred: it stands in a pool
abbrev pub is_placed : Place → Bool
is_placed (Inactive at) = true
is_placed (Listed at) = true
is_placed (Deferred at) = true
is_placed (Timer due cpu) = false

-- a timer that has run out
abbrev pub is_due : Place → ℕ → Bool
is_due (Timer due cpu) now = nat_le due now
is_due (Inactive at) now = false
is_due (Listed at) now = false
is_due (Deferred at) now = false

abbrev pub due_of : Place → ℕ
due_of (Timer due cpu) = due
due_of (Inactive at) = 0
due_of (Listed at) = 0
due_of (Deferred at) = 0

abbrev pub is_runnable : Mode → Bool
is_runnable Runnable = true
is_runnable (Asleep until) = false

-- a sleep that is over
abbrev pub is_slept : Mode → ℕ → Bool
is_slept Runnable now = false
is_slept (Asleep until) now = nat_le until now

abbrev pub until_of : Mode → ℕ
until_of Runnable = 0
until_of (Asleep until) = until
