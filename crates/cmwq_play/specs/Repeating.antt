-- An instruction that a session issues several times at once.
use Rattle.std.specs.Prelude.{ℕ, List, ◌<◌, ◌≤◌, Bool, Option, replicate}
use Rattle.cmwq_types.specs.Contents.{ScenarioContents}
use Rattle.cmwq_types.specs.declared.instr.Instr.{Instr}
use Rattle.cmwq_table.specs.Events.{events_from}
use Rattle.cmwq_table.specs.Repeats.{after_times}
use Rattle.cmwq_table.specs.State.{State}
use Rattle.cmwq_play.specs.Session.{Issued}
use Rattle.cmwq_play.specs.declared.session.Session.{Session}

-- the instruction was issued so often, at least once and at most so often, and its lines were written
pub record HasTold {M W : Type 0} (loaded : M → ScenarioContents) (state : M → State) (contents : W → Option (List ℕ)) (failed : W → Bool)
    (old new : Session M W) (instr : Instr) (most count : ℕ) : Type 0 where
  pub some : 0 < count
  pub few : count ≤ most
  pub issued :
      Issued loaded state contents failed old new
      (after_times old.scenario.now (state old.machine) instr count)
      (events_from old.scenario.now (state old.machine) (replicate count instr))
