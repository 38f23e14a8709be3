-- What a turn, and a lock that is closed, promise.
use Rattle.std.specs.Prelude.{◌≡◌, ◌<◌, List, All, Any}
use Rattle.cmwq_lock.specs.declared.kept.Kept.{Ghosts}
use Rattle.cmwq_lock.specs.declared.views.Knowledge.{Knowledge}
use Rattle.cmwq_lock.specs.declared.views.SeatView.{SeatView}
use Rattle.cmwq_lock.specs.Log.{BeginsWith, calls_of, BothGrow}
use Rattle.cmwq_lock.specs.Views.{untried, ticket_of, caller_of, seen_of, mine_of, tries_of}

module _ {T O E : Type 0} (K : Ghosts T O E) where
  -- a turn, from the view of a ticket to that of the pass that comes out: it finds a legal log that begins with all that was seen, and leaves a
  -- legal one, which the pass has seen, and which has at most one entry more: the caller's own, with its ticket. The pass has tried nothing since
  pub record IsTurn (o : O) (drawn out : SeatView O E) (tells : List E → List E → Type 0) : Type 0 where
    pub before : List E
    pub found_legal : K.legal o before
    pub found_earlier : All (λ e. K.ticket e < ticket_of drawn) before
    pub found_begins : BeginsWith before (seen_of drawn)
    pub left_legal : K.legal o (seen_of out)
    pub both_grow : BothGrow K.ticket K.caller before (seen_of out) (mine_of drawn) (mine_of out) (ticket_of drawn) (caller_of drawn)
    pub own_calls : calls_of K.caller (caller_of drawn) (seen_of out) ≡ mine_of out
    pub told : tells before (seen_of out)
    pub tries_anew : tries_of out ≡ untried

  -- the log once each caller is retired: it begins with all that each had seen, the entries of each are its own, and it has no other callers
  pub record IsLastLog (records : List (Knowledge E)) (log : List E) : Type 0 where
    pub each_seen : All (λ k. BeginsWith log k.seen) records
    pub each_own : All (λ k. calls_of K.caller k.caller log ≡ k.mine) records
    pub no_others : All (λ e. Any (λ k. k.caller ≡ K.caller e) records) log
