-- What a receipt says of the history in the end.
use Rattle.std.specs.Prelude.{◌≡◌, ℕ, Any, List, Some, slice_get, take}
use Rattle.cmwq_lock.specs.declared.views.Knowledge.{Knowledge}
use Rattle.cmwq_lock.specs.Log.{BeginsWith}
use Rattle.cmwq_lock.specs.Views.{seen_of}
use Rattle.cmwq_engine.specs.History.{IsLegal}
use Rattle.cmwq_engine.specs.Issuing.{reply_after}
use Rattle.cmwq_engine.specs.Shared.{EngineView, HasEntered, IsLastHistory}
use Rattle.cmwq_engine.specs.declared.history.Entry.{Entry}
use Rattle.cmwq_engine.specs.declared.history.Setting.{Setting}

-- the entry stands at this place of the history, in which tickets rise and each reply is the table's; its own is the table's on what the
-- instructions before it leave
pub record StandsAt (from : Setting) (history : List Entry) (new : Entry) (place : ℕ) : Type 0 where
  pub there : slice_get history place ≡ Some new
  pub legal : IsLegal from history
  pub reply : new.reply ≡ reply_after from.scenario (take place history) new.instr

-- What an issue entered (`issue`: `entered`) stands at its receipt's place in the history that is left (`close`: `last`, `sound`), where a pass
-- that had seen it was retired (`retire`: `recorded`), be it then or after further issues.
unfoldable pub ReceiptsStand : Type 0
ReceiptsStand =
    (from : Setting) (before after : EngineView) (new : Entry) (place : ℕ) (records : List (Knowledge Entry)) (history : List Entry)
    → HasEntered from before after new place → Any (λ k. BeginsWith k.seen (seen_of after)) records
    → IsLastHistory records history → IsLegal from history → StandsAt from history new place
