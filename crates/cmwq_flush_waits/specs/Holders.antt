-- That the active instances of a full queue stand in a list. No public clause cites this module.
use Rattle.std.specs.Prelude.{List, Option, Some, None}
use Rattle.cmwq_types.specs.Contents.{ScenarioContents}
use Rattle.cmwq_table.specs.State.{State}
use Rattle.cmwq_reasons.specs.Laws.{IsAmong}
use Rattle.cmwq_reasons.specs.Reasons.{holders}
use Rattle.cmwq_reasons.specs.declared.reason.Instance.{Instance}
use Rattle.cmwq_flush_waits.specs.declared.reaching.Full.{Full}

-- all who take up the limit of this queue in this pool are in the list
abbrev pub HasHolders : ScenarioContents → State → Option Full → List Instance → Type 0
HasHolders S s (Some full) all = (x : Instance) → IsAmong x (holders S s full.queue full.pool) → IsAmong x all
HasHolders S s None all = Unit {0}
