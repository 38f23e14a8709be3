-- What each kind of step tells the seat that takes it: of the seat before, the number found and the seat after.
use Rattle.std.specs.Prelude.{◌≡◌, ◌≢◌, ℕ, ◌^◌, ◌<◌, ◌≤◌, List, [], ◌∷◌, All, Option, Some, true}
use Rattle.atomic_table.specs.Table.{Me}
use Rattle.cmwq_lock.specs.declared.kept.Kept.{Ghosts}
use Rattle.cmwq_lock.specs.declared.views.Held.{Held}
use Rattle.cmwq_lock.specs.declared.views.SeatView.{SeatView}
use Rattle.cmwq_lock.specs.declared.views.SeatView.TheVariants.{Both}
use Rattle.cmwq_lock.specs.Log.{BeginsWith, OneBegins, calls_of}
use Rattle.cmwq_lock.specs.Views.{loaded, lost, waiting, looked, inside, came_out, is_inside, ticket_of, caller_of, found_of, seen_of, mine_of, HasOrigin}

-- of the logs that two passes at one seat have seen one begins with the other
abbrev pub SeenAgree : {O E : Type 0} → SeatView O E → Type 0
SeenAgree (Both p q) = OneBegins p.who.knows.seen q.who.knows.seen
SeenAgree v = Unit {0}

module _ {T O E : Type 0} where
  -- a load of `drawn` gives at most 2 ^ 62
  abbrev pub load_drawn : Me (Option (Held T)) (SeatView O E) → ℕ → Me (Option (Held T)) (SeatView O E) → Type 0
  load_drawn m n m' = (m' ≡ (loaded m.0 n, m.1)) × (n ≤ 2 ^ 62)

  -- a look at `served` by two passes at one seat changes nothing
  abbrev pub compare_seen : Me (Option (Held T)) (SeatView O E) → Me (Option (Held T)) (SeatView O E) → Type 0
  compare_seen m m' = (m' ≡ m) × SeenAgree m.0

-- the log of the value in the slot that was taken last
abbrev pub log_carried : {T E : Type 0} → (T → List E) → List (ℕ × Option (Held T)) → List E
log_carried log ((slot, Some h) ∷ xs) = log h.value
log_carried log xs = []

module _ {T O E : Type 0} (K : Ghosts T O E) where
  -- an exchange is won where it finds the value expected, which is the ticket, above all tickets seen; else it is lost, and finds a greater one
  abbrev pub exchange_drawn : ℕ → Me (Option (Held T)) (SeatView O E) → ℕ → Me (Option (Held T)) (SeatView O E) → Type 0
  exchange_drawn expected m n m' =
      (n ≡ expected → (m' ≡ (waiting m.0 n, m.1)) × All (λ e. K.ticket e < n) (seen_of m.0))
      × (n ≢ expected → (m' ≡ (lost m.0 n, m.1)) × (expected < n))

  -- the value found at the begin of the turn with this ticket
  pub record IsFoundHeld (v : SeatView O E) (h : Held T) : Type 0 where
    pub turns_ended : h.turns ≡ ticket_of v
    pub is_sound : K.sound h.value
    pub same_origin : HasOrigin v (K.origin h.value)
    pub tickets : All (λ e. K.ticket e < ticket_of v) (K.log h.value)
    pub begins : BeginsWith (K.log h.value) (seen_of v)
    pub own_calls : calls_of K.caller (caller_of v) (K.log h.value) ≡ mine_of v

  -- a look that gives the seat's ticket begins its turn, and takes the slot; any other gives a lower number
  abbrev pub look_served : Me (Option (Held T)) (SeatView O E) → ℕ → Me (Option (Held T)) (SeatView O E) → Type 0
  look_served m n m' =
      (n ≡ ticket_of m.0 → (h : Held T) × IsFoundHeld m.0 h × (m' ≡ (inside m.0 (K.log h.value), (0, Some h) ∷ [])))
      × (n ≢ ticket_of m.0 → (m' ≡ (looked m.0 n, m.1)) × (n < ticket_of m.0))

  -- a turn ends, and the slot is given back with the value in it
  abbrev pub end_turn : Me (Option (Held T)) (SeatView O E) → Me (Option (Held T)) (SeatView O E) → Type 0
  end_turn m m' = m' ≡ (came_out m.0 (log_carried K.log m.1), [])

  -- the seat has its turn, with this ticket and caller, and the value in its slot
  pub record HasTurn (m : Me (Option (Held T)) (SeatView O E)) (ticket caller : ℕ) : Type 0 where
    pub held : Held T
    pub inside : is_inside m.0 ≡ true
    pub slot_is : m.1 ≡ (0, Some held) ∷ []
    pub ticket_is : ticket_of m.0 ≡ ticket
    pub caller_is : caller_of m.0 ≡ caller
    pub found_is : found_of m.0 ≡ K.log held.value
    pub turns_ended : held.turns ≡ ticket
    pub is_sound : K.sound held.value
    pub same_origin : HasOrigin m.0 (K.origin held.value)
    pub tickets : All (λ e. K.ticket e < ticket) (K.log held.value)
    pub seen_is : seen_of m.0 ≡ K.log held.value
    pub own_calls : calls_of K.caller caller (K.log held.value) ≡ mine_of m.0
