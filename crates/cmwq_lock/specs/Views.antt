-- What a seat knows, and how each kind of step changes that.
use Rattle.std.specs.Prelude.{◌≡◌, ℕ, ◌+◌, ◌-◌, Bool, true, false, List, [], ◌∷◌, ◌++◌, length, drop}
use Rattle.cmwq_lock.specs.declared.views.Knowledge.{Knowledge}
use Rattle.cmwq_lock.specs.declared.views.Identity.{Identity}
use Rattle.cmwq_lock.specs.declared.views.Tries.{Tries}
use Rattle.cmwq_lock.specs.declared.views.Queued.{Queued}
use Rattle.cmwq_lock.specs.declared.views.OutPass.{OutPass}
use Rattle.cmwq_lock.specs.declared.views.Phase.TheVariants.{Out, Waiting, Inside}
use Rattle.cmwq_lock.specs.declared.views.SeatView.{SeatView}
use Rattle.cmwq_lock.specs.declared.views.SeatView.TheVariants.{Opener, Pass, Both, Spent}
use Rattle.cmwq_lock.specs.Log.{longer}

-- what a pass has tried when it comes out: nothing yet
abbrev pub untried : Tries
untried = record { loads = 0; loaded = 0; losses = 0; found = 0 }

-- a ticket just drawn, for which `served` was not looked at yet
abbrev pub just_drawn : ℕ → Queued
just_drawn n = record { ticket = n; looks = 0; last = 0 }

-- what is known once this log was seen
abbrev pub seeing : {O E : Type 0} → Identity O E → List E → Identity O E
seeing who log = record who { knows = record who.knows { seen = log } }

-- what is known once a turn has changed the log from the one found to this one: the caller's own entries gain what is new
abbrev pub having_left : {O E : Type 0} → Identity O E → List E → List E → Identity O E
having_left who found log = record who { knows = record who.knows { seen = log; mine = who.knows.mine ++ drop (length found) log } }

module _ {O E : Type 0} where
  -- one more load of `drawn`, which gave n
  abbrev pub loaded : SeatView O E → ℕ → SeatView O E
  loaded (Pass who (Out t)) n = Pass who (Out (record t { loads = t.loads + 1; loaded = n }))
  loaded v n = v

  -- one more exchange of `drawn` was lost, and found n
  abbrev pub lost : SeatView O E → ℕ → SeatView O E
  lost (Pass who (Out t)) n = Pass who (Out (record t { losses = t.losses + 1; found = n }))
  lost v n = v

  -- the exchange of `drawn` was won, and drew the ticket n
  abbrev pub waiting : SeatView O E → ℕ → SeatView O E
  waiting (Pass who (Out t)) n = Pass who (Waiting (just_drawn n))
  waiting v n = v

  -- one more look at `served`, which gave n
  abbrev pub looked : SeatView O E → ℕ → SeatView O E
  looked (Pass who (Waiting q)) n = Pass who (Waiting (record q { looks = q.looks + 1; last = n }))
  looked v n = v

  -- the turn has begun, and found this log
  abbrev pub inside : SeatView O E → List E → SeatView O E
  inside (Pass who (Waiting q)) log = Pass (seeing who log) (Inside q.ticket log)
  inside v log = v

  -- the turn has ended, and has left this log
  abbrev pub came_out : SeatView O E → List E → SeatView O E
  came_out (Pass who (Inside t found)) log = Pass (having_left who found log) (Out untried)
  came_out v log = v

  -- the opener has given one more pass
  abbrev pub given : SeatView O E → SeatView O E
  given (Opener d) = Opener (record d { next = d.next + 1; out = d.out + 1 })
  given v = v

  -- the pass that an opener gives next
  abbrev pub fresh : SeatView O E → SeatView O E
  fresh (Opener d) = Pass (record { origin = d.origin; knows = record { caller = d.next; seen = d.seen; mine = [] } }) (Out untried)
  fresh v = v

  -- the opener has taken one pass back, and records what it knew
  abbrev pub taken_back : SeatView O E → SeatView O E → SeatView O E
  taken_back (Opener d) (Pass who phase) = Opener (record d { out = d.out - 1; seen = longer d.seen who.knows.seen; records = d.records ++ who.knows ∷ [] })
  taken_back v w = v

  -- the pass has seen this log, and is else as before
  abbrev pub having_seen : SeatView O E → List E → SeatView O E
  having_seen (Pass who phase) log = Pass (seeing who log) phase
  having_seen v log = v

  -- two passes with no ticket have one seat
  abbrev pub joined : SeatView O E → SeatView O E → SeatView O E
  joined (Pass one (Out t)) (Pass other (Out u)) = Both (record { who = one; tries = t }) (record { who = other; tries = u })
  joined v w = v

  -- the longer of the logs that two passes have seen
  abbrev pub longer_seen : OutPass O E → OutPass O E → List E
  longer_seen p q = longer p.who.knows.seen q.who.knows.seen

  -- each has a seat of its own again, and both have seen the longer log
  abbrev pub first_met : SeatView O E → SeatView O E
  first_met (Both p q) = Pass (seeing p.who (longer_seen p q)) (Out p.tries)
  first_met v = v

  abbrev pub second_met : SeatView O E → SeatView O E
  second_met (Both p q) = Pass (seeing q.who (longer_seen p q)) (Out q.tries)
  second_met v = v

  -- whose view it is
  abbrev pub is_opener : SeatView O E → Bool
  is_opener (Opener d) = true
  is_opener v = false

  abbrev pub is_out : SeatView O E → Bool
  is_out (Pass who (Out t)) = true
  is_out v = false

  abbrev pub is_waiting : SeatView O E → Bool
  is_waiting (Pass who (Waiting q)) = true
  is_waiting v = false

  abbrev pub is_inside : SeatView O E → Bool
  is_inside (Pass who (Inside t log)) = true
  is_inside v = false

  abbrev pub is_both : SeatView O E → Bool
  is_both (Both p q) = true
  is_both v = false

  -- whether the pass holds a ticket
  abbrev pub has_ticket : SeatView O E → Bool
  has_ticket (Pass who (Waiting q)) = true
  has_ticket (Pass who (Inside t log)) = true
  has_ticket v = false

  -- the number of the caller whose pass it is
  abbrev pub caller_of : SeatView O E → ℕ
  caller_of (Pass who phase) = who.knows.caller
  caller_of v = 0

  -- the log as a pass or the opener last saw it
  abbrev pub seen_of : SeatView O E → List E
  seen_of (Pass who phase) = who.knows.seen
  seen_of (Opener d) = d.seen
  seen_of v = []

  -- the entries of a caller's own calls
  abbrev pub mine_of : SeatView O E → List E
  mine_of (Pass who phase) = who.knows.mine
  mine_of v = []

  -- all that a pass knows
  abbrev pub knowledge_of : SeatView O E → Knowledge E
  knowledge_of v = record { caller = caller_of v; seen = seen_of v; mine = mine_of v }

  -- what the retired callers knew
  abbrev pub records_of : SeatView O E → List (Knowledge E)
  records_of (Opener d) = d.records
  records_of v = []

  -- the ticket that a pass holds
  abbrev pub ticket_of : SeatView O E → ℕ
  ticket_of (Pass who (Waiting q)) = q.ticket
  ticket_of (Pass who (Inside t log)) = t
  ticket_of v = 0

  -- the log that a turn found
  abbrev pub found_of : SeatView O E → List E
  found_of (Pass who (Inside t log)) = log
  found_of v = []

  -- what a pass has tried since it came out
  abbrev pub tries_of : SeatView O E → Tries
  tries_of (Pass who (Out t)) = t
  tries_of v = untried

  -- the last value of `drawn` that a pass loaded
  abbrev pub loaded_of : SeatView O E → ℕ
  loaded_of (Pass who (Out t)) = t.loaded
  loaded_of v = 0

  -- the number of the opener's next caller, and how many of its passes are out
  abbrev pub next_of : SeatView O E → ℕ
  next_of (Opener d) = d.next
  next_of v = 0

  abbrev pub out_of : SeatView O E → ℕ
  out_of (Opener d) = d.out
  out_of v = 0

  -- the origin that a view holds
  abbrev pub HasOrigin : SeatView O E → O → Type 0
  HasOrigin (Opener d) o = d.origin.value ≡ o
  HasOrigin (Pass who phase) o = who.origin.value ≡ o
  HasOrigin (Both p q) o = (p.who.origin.value ≡ o) × (q.who.origin.value ≡ o)
  HasOrigin Spent o = ⊥

  -- a pass's caller, what it saw and its own entries are as before
  pub record SameKnowledge (v w : SeatView O E) : Type 0 where
    pub same_caller : caller_of w ≡ caller_of v
    pub same_seen : seen_of w ≡ seen_of v
    pub same_mine : mine_of w ≡ mine_of v
