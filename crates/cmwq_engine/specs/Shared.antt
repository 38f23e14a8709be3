-- What clauses read of a shared engine, and what an issue promises. Contracts see a shared engine as its lock.
use Rattle.std.specs.Prelude.{◌≡◌, ◌<◌, ◌^◌, ℕ, List, [], ◌∷◌, ◌++◌, All, Any, length, Result, Ok, Err}
use Rattle.cmwq_lock.specs.declared.kept.Kept.{Ghosts}
use Rattle.cmwq_lock.specs.declared.lock.TicketLock.{TicketLock}
use Rattle.cmwq_lock.specs.declared.tokens.Opener.{Opener}
use Rattle.cmwq_lock.specs.declared.tokens.Pass.{Pass}
use Rattle.cmwq_lock.specs.declared.tokens.Drawn.{Drawn}
use Rattle.cmwq_lock.specs.declared.views.Knowledge.{Knowledge}
use Rattle.cmwq_lock.specs.declared.views.SeatView.{SeatView}
use Rattle.cmwq_lock.specs.Log.{BeginsWith, calls_of}
use Rattle.cmwq_lock.specs.Tokens as Token
use Rattle.cmwq_lock.specs.Views.{caller_of, seen_of, mine_of, tries_of, untried}
use Rattle.cmwq_engine.specs.Engine.{Contents}
use Rattle.cmwq_engine.specs.History.{IsLegal}
use Rattle.cmwq_engine.specs.Issuing.{reply_after}
use Rattle.cmwq_engine.specs.declared.history.Entry.{Entry}
use Rattle.cmwq_engine.specs.declared.history.Setting.{Setting}
use Rattle.cmwq_engine.specs.declared.kept.Receipt.{Receipt}
use Rattle.cmwq_engine.specs.declared.shared.IssueError.{IssueError}
use Rattle.cmwq_engine.specs.declared.shared.IssueError.TheVariants.{Full, Exhausted}

abbrev pub EngineLock : Type 0
EngineLock = TicketLock Contents Setting Entry

-- what a token of a shared engine knows
abbrev pub EngineView : Type 0
EngineView = SeatView Setting Entry

-- the scenario and the capacity that it was opened with
abbrev pub setting_of : EngineLock → Setting
setting_of shared = shared.table.shared.key.value.setting

module _ {K : Ghosts Contents Setting Entry} where
  -- the token is this shared engine's
  abbrev pub IsOpenerOf : EngineLock → Opener Contents Setting Entry K → Type 0
  IsOpenerOf shared opener = Token.IsOpenerOf K shared opener

  abbrev pub IsPassOf : EngineLock → Pass Contents Setting Entry K → Type 0
  IsPassOf shared pass = Token.IsPassOf K shared pass

  abbrev pub IsDrawnOf : EngineLock → Drawn Contents Setting Entry K → Type 0
  IsDrawnOf shared drawn = Token.IsDrawnOf K shared drawn

-- a turn lies between the two views: the pass that comes out has seen a legal history, which begins with all that was seen before, and in
-- which the entries under the caller's number are the caller's own, in order, each once
pub record HasHadTurn (from : Setting) (before after : EngineView) : Type 0 where
  pub begins : BeginsWith (seen_of after) (seen_of before)
  pub legal : IsLegal from (seen_of after)
  pub own_calls : calls_of (λ (e : Entry). e.caller) (caller_of before) (seen_of after) ≡ mine_of after
  -- it has tried nothing since
  pub tries_anew : tries_of after ≡ untried

-- the turn has entered this: it stands behind the history that the turn found, at this place, and behind the caller's own entries; its reply is
-- the table's, on what the instructions of that history leave
pub record HasEntered (from : Setting) (before after : EngineView) (new : Entry) (place : ℕ) : Type 0 where
  pub found : List Entry
  pub begins : BeginsWith found (seen_of before)
  pub last : seen_of after ≡ found ++ new ∷ []
  pub place_is : place ≡ length found
  pub mine : mine_of after ≡ mine_of before ++ new ∷ []
  pub reply : new.reply ≡ reply_after from.scenario found new.instr

-- the turn has found a full history, and has entered nothing
pub record HasFoundFull (from : Setting) (before after : EngineView) : Type 0 where
  pub full : length (seen_of after) ≡ from.capacity
  pub mine : mine_of after ≡ mine_of before

-- nothing of an issue that found the history full stands there: its ticket is above all that its caller had seen, and above all entries' tickets
pub record HasNothingNew (before after : EngineView) : Type 0 where
  pub ticket : ℕ
  pub in_range : ticket < 2 ^ 62
  pub later : All (λ (e : Entry). e.ticket < ticket) (seen_of before)
  pub none_new : All (λ (e : Entry). e.ticket < ticket) (seen_of after)

-- the history once each caller is retired: it begins with all that each had seen, the entries of each are its own, and it has no other callers
pub record IsLastHistory (records : List (Knowledge Entry)) (history : List Entry) : Type 0 where
  pub each_seen : All (λ k. BeginsWith history k.seen) records
  pub each_own : All (λ k. calls_of (λ (e : Entry). e.caller) k.caller history ≡ k.mine) records
  pub no_others : All (λ e. Any (λ k. k.caller ≡ e.caller) records) history

-- a fact where an issue has had its turn: it has a receipt, or the history is full
abbrev pub IfTurn : Result Receipt IssueError → Type 0 → Type 0
IfTurn (Ok receipt) fact = fact
IfTurn (Err Full) fact = fact
IfTurn (Err Exhausted) fact = Unit {0}

-- a fact where the history is full
abbrev pub IfFull : IssueError → Type 0 → Type 0
IfFull Full fact = fact
IfFull Exhausted fact = Unit {0}

-- a fact where no ticket is left
abbrev pub IfNoTicket : IssueError → Type 0 → Type 0
IfNoTicket Full fact = Unit {0}
IfNoTicket Exhausted fact = fact
