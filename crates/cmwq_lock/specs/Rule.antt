-- What holds of the lock's table between any two steps.
-- Word 0 is `drawn`, the number of tickets drawn, and word 1 is `served`, the number of turns ended. The one slot has the value.
use Rattle.std.specs.Prelude.{◌≡◌, ℕ, ◌+◌, ◌^◌, ◌<◌, ◌≤◌, List, [], ◌∷◌, All, Option, Some, true}
use mathlib.Core.Option.{none, some}
use mathlib.Core.Option as maybe
use lib.ListN.{get_elem?}
use Rattle.atomic_table.specs.Table.{State}
use Rattle.cmwq_lock.specs.declared.kept.Kept.{Ghosts}
use Rattle.cmwq_lock.specs.declared.views.Knowledge.{Knowledge}
use Rattle.cmwq_lock.specs.declared.views.Identity.{Identity}
use Rattle.cmwq_lock.specs.declared.views.Tries.{Tries}
use Rattle.cmwq_lock.specs.declared.views.Queued.{Queued}
use Rattle.cmwq_lock.specs.declared.views.OpenerView.{OpenerView}
use Rattle.cmwq_lock.specs.declared.views.Held.{Held}
use Rattle.cmwq_lock.specs.declared.views.Phase.{Phase}
use Rattle.cmwq_lock.specs.declared.views.Phase.TheVariants.{Out, Waiting, Inside}
use Rattle.cmwq_lock.specs.declared.views.SeatView.{SeatView}
use Rattle.cmwq_lock.specs.declared.views.SeatView.TheVariants.{Opener, Pass, Both, Spent}
use Rattle.cmwq_lock.specs.Log.{BeginsWith, calls_of, Grows}
use Rattle.cmwq_lock.specs.Views.{has_ticket, ticket_of, caller_of, found_of, HasOrigin}

-- which of two passes that have one seat; a pass that has its seat alone is the first
pub data Side : Type 0 where
  first : Side
  second : Side

-- where what a caller knows stands: with the pass at this side of this seat, or in the opener's record with this number
pub data Whereabouts : Type 0 where
  at_seat : Side → ℕ → Whereabouts
  in_record : ℕ → Whereabouts

-- the numbers and the log between two steps, who opened the lock, which seat has each ticket, and where each caller stands
pub record Standing (O E : Type 0) : Type 0 where
  pub drawn : ℕ
  pub served : ℕ
  pub current : List E
  pub opener : ℕ
  pub opener_knows : OpenerView O E
  pub holder : ℕ → ℕ
  pub where_is : ℕ → Whereabouts

abbrev pub Homes : Type 0 → Type 0
Homes T = List (maybe.Option (Option (Held T)))

-- the slot is home, with this in it
abbrev pub home : {T : Type 0} → Held T → Homes T
home h = some (Some h) ∷ []

-- the slot is out with a seat
abbrev pub away : {T : Type 0} → Homes T
away = none ∷ []

-- how many passes a view is of, and the views are of
abbrev pub pass_count : {O E : Type 0} → SeatView O E → ℕ
pass_count (Pass who phase) = 1
pass_count (Both p q) = 2
pass_count (Opener d) = 0
pass_count Spent = 0

abbrev pub passes : {O E : Type 0} → List (SeatView O E) → ℕ
passes [] = 0
passes (v ∷ vs) = pass_count v + passes vs

-- the caller of the pass at this side of a seat with this view
abbrev pub caller_at : {O E : Type 0} → Side → SeatView O E → maybe.Option ℕ
caller_at first (Pass who phase) = some who.knows.caller
caller_at first (Both p q) = some p.who.knows.caller
caller_at second (Both p q) = some q.who.knows.caller
caller_at side v = none

module _ {T O E : Type 0} (K : Ghosts T O E) (o : O) where
  -- the value after this many turns, with the lock's origin and this log
  pub record IsAtRest (turns : ℕ) (current : List E) (h : Held T) : Type 0 where
    pub turns_ended : h.turns ≡ turns
    pub is_sound : K.sound h.value
    pub origin_stays : K.origin h.value ≡ o
    pub log_is : K.log h.value ≡ current

  -- the log is legal, its tickets are those of ended turns, and its callers have been given out
  pub record IsCurrent (served next : ℕ) (current : List E) : Type 0 where
    pub is_legal : K.legal o current
    pub tickets : All (λ e. K.ticket e < served) current
    pub callers : All (λ e. K.caller e < next) current

  -- a caller has seen the begin of the log, and the log's entries with its number are its own, in order
  pub record IsKnown (current : List E) (k : Knowledge E) : Type 0 where
    pub begins : BeginsWith current k.seen
    pub own_calls : calls_of K.caller k.caller current ≡ k.mine

  module _ (at : Standing O E) where
    -- the caller stands there
    abbrev pub CallerStandsAt : List (SeatView O E) → Whereabouts → ℕ → Type 0
    CallerStandsAt views (at_seat side seat) c = (v : SeatView O E) × (get_elem? views seat ≡ some v) × (caller_at side v ≡ some c)
    CallerStandsAt views (in_record i) c = (k : Knowledge E) × (get_elem? at.opener_knows.records i ≡ some k) × (k.caller ≡ c)

    -- the ticket's holder waits for its turn with it, or has its turn
    abbrev pub HasHolder : List (SeatView O E) → ℕ → Type 0
    HasHolder views ticket = (v : SeatView O E) × (get_elem? views (at.holder ticket) ≡ some v) × (has_ticket v ≡ true) × (ticket_of v ≡ ticket)

    -- a retired caller stands in its record, and its number was given out
    pub record IsRecord (i : ℕ) (k : Knowledge E) : Type 0 where
      pub was_given : k.caller < at.opener_knows.next
      pub stands_there : at.where_is k.caller ≡ in_record i
      pub knows : IsKnown at.current k

    -- the slot is home and no turn is going on, or a seat that is inside has it
    pub data SlotIs (homes : Homes T) (views : List (SeatView O E)) : Type 0 where
      at_home : (h : Held T) → homes ≡ home h → IsAtRest at.served at.current h → SlotIs homes views
      with_seat : (seat : ℕ) (who : Identity O E) → homes ≡ away → get_elem? views seat ≡ some (Pass who (Inside at.served at.current)) → SlotIs homes views

    module _ (homes : Homes T) (seat : ℕ) where
      -- a pass with no ticket has met no number above `drawn`
      pub record IsOut (t : Tries) : Type 0 where
        pub loaded_below : t.loaded ≤ at.drawn
        pub found_below : t.found ≤ at.drawn

      -- a pass that waits is the one seat with its ticket, whose turn has not ended
      pub record IsWaiting (q : Queued) : Type 0 where
        pub not_ended : at.served ≤ q.ticket
        pub was_drawn : q.ticket < at.drawn
        pub is_holder : at.holder q.ticket ≡ seat
        pub last_below : q.last ≤ at.served

      -- a pass that is inside has the ticket that is served, and the slot; it knows the current log
      pub record IsInside (ticket : ℕ) (found : List E) : Type 0 where
        pub is_served : ticket ≡ at.served
        pub was_drawn : ticket < at.drawn
        pub is_holder : at.holder ticket ≡ seat
        pub found_current : found ≡ at.current
        pub slot_away : homes ≡ away

      abbrev pub PhaseIs : Phase E → Type 0
      PhaseIs (Out t) = IsOut t
      PhaseIs (Waiting q) = IsWaiting q
      PhaseIs (Inside t found) = IsInside t found

      -- a pass is where its caller stands, whose number was given out
      pub record IsPass (side : Side) (who : Identity O E) (phase : Phase E) : Type 0 where
        pub same_origin : who.origin.value ≡ o
        pub was_given : who.knows.caller < at.opener_knows.next
        pub stands_there : at.where_is who.knows.caller ≡ at_seat side seat
        pub knows : IsKnown at.current who.knows
        pub phase_is : PhaseIs phase

      pub record IsOpener (d : OpenerView O E) : Type 0 where
        pub is_seat : seat ≡ at.opener
        pub knows_is : d ≡ at.opener_knows

      abbrev pub ViewIs : SeatView O E → Type 0
      ViewIs (Opener d) = IsOpener d
      ViewIs (Pass who phase) = IsPass first who phase
      ViewIs (Both p q) = IsPass first p.who (Out p.tries) × IsPass second q.who (Out q.tries)
      ViewIs Spent = Unit {0}

  -- the rule of the lock
  pub record IsRuled (s : State (Option (Held T)) (SeatView O E)) : Type 0 where
    pub at : Standing O E
    pub words_are : s.words ≡ at.drawn ∷ at.served ∷ []
    pub in_order : at.served ≤ at.drawn
    pub bounded : at.drawn ≤ 2 ^ 62
    pub slot_is : SlotIs at s.homes s.views
    pub log_is : IsCurrent at.served at.opener_knows.next at.current
    pub opener_is : get_elem? s.views at.opener ≡ some (Opener at.opener_knows)
    pub opener_origin : at.opener_knows.origin.value ≡ o
    pub passes_out : passes s.views ≡ at.opener_knows.out
    pub opener_seen : BeginsWith at.current at.opener_knows.seen
    pub each_ticket : (ticket : ℕ) → at.served ≤ ticket → ticket < at.drawn → HasHolder at s.views ticket
    pub each_caller : (c : ℕ) → c < at.opener_knows.next → CallerStandsAt at s.views (at.where_is c) c
    pub each_record : (i : ℕ) (k : Knowledge E) → get_elem? at.opener_knows.records i ≡ some k → IsRecord at i k
    pub each_view : (seat : ℕ) (v : SeatView O E) → get_elem? s.views seat ≡ some v → ViewIs at s.homes seat v

-- a new lock's opener
abbrev pub opening_view : {O E : Type 0} → O → SeatView O E
opening_view o = Opener (record { origin = record { marker = record {}; value = o }; next = 0; out = 0; seen = []; records = [] })

-- the value as a turn leaves it: one more turn has ended, and the log has at most the turn's entry more
module _ {T O E : Type 0} (K : Ghosts T O E) where
  pub record IsLeftHeld (v : SeatView O E) (h : Held T) : Type 0 where
    pub turns_ended : h.turns ≡ ticket_of v + 1
    pub is_sound : K.sound h.value
    pub same_origin : HasOrigin v (K.origin h.value)
    pub log_grows : Grows K.ticket K.caller (found_of v) (K.log h.value) (ticket_of v) (caller_of v)
