-- What a session issues and writes.
use Rattle.std.specs.Prelude.{◌≡◌, ◌↔◌, ℕ, List, Option, Bool, false, true, Result, MatchResult}
use Rattle.cmwq_types.specs.Contents.{ScenarioContents}
use Rattle.cmwq_table.specs.State.{State}
use Rattle.cmwq_streams.specs.Blocks.{Sends, SendsFront, SharesSink, sink}
use Rattle.cmwq_streams.specs.Sending.{IsSendError}
use Rattle.cmwq_streams.specs.declared.error.PlayError.{PlayError}
use Rattle.cmwq_streams.specs.declared.error.PlayError.TheVariants.{Write}
use Rattle.cmwq_play.specs.declared.session.Session.{Session}

module _ {M W : Type 0} (loaded : M → ScenarioContents) (state : M → State) (contents : W → Option (List ℕ)) (failed : W → Bool) where
  -- the machine has the scenario, whose lines are written, and no write failed yet
  pub record CanIssue (session : Session M W) : Type 0 where
    pub has_scenario : loaded session.machine ≡ session.scenario.now
    pub has_lines : session.replies ≡ session.scenario.now
    pub is_sound : failed (sink session.lines) ≡ false

  -- the machine came to this state, and this text was written
  pub record Issued (old new : Session M W) (to : State) (text : List ℕ) : Type 0 where
    pub ready : CanIssue new
    pub scenario : new.scenario.now ≡ old.scenario.now
    pub same : SharesSink old.lines new.lines
    pub reached : state new.machine ≡ to
    pub sent : Sends contents old.lines new.lines text

  -- a front of this text was written
  pub record Stopped (old new : Session M W) (text : List ℕ) (error : PlayError) : Type 0 where
    pub same : SharesSink old.lines new.lines
    pub sent : SendsFront contents old.lines new.lines text
    pub write : (error ≡ Write) ↔ (failed (sink new.lines) ≡ true)
    pub why : IsSendError error

  -- the machine came to this state, and this text was written, unless the writing failed
  abbrev pub Issues : Session M W → Session M W → State → List ℕ → Result (Unit {0}) PlayError → Type 0
  Issues old new to text result = MatchResult result (λ _. Issued old new to text) (λ error. Stopped old new text error)
