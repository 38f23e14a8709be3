-- What a valid scenario gives the laws.
use Rattle.std.proofs.Common.{◌≡◌, ℕ, zero, suc, List, [], ◌∷◌, refl}
use Rattle.std.specs.Prelude.{slice_index_or, map}
pub use Rattle.cmwq_types.specs.Setting.{IsOpInRange, IsSetting}
pub use Rattle.cmwq_types.proofs.SettingLemmas.{IsSetting-valid}
use Rattle.cmwq_types.specs.Scenario.{plain_flags}
use Rattle.cmwq_types.specs.declared.scenario.QueueDecl.{QueueDecl}

-- what a scenario declares of a queue, read off the list of what it declares of each
pub max-declared : (queues : List QueueDecl) (queue : ℕ)
    → slice_index_or (map (λ queue. queue.max) queues) queue 0 ≡ (slice_index_or queues queue (record { name = []; max = 0; flags = plain_flags })).max
max-declared [] queue = refl
max-declared (q ∷ queues) zero = refl
max-declared (q ∷ queues) (suc queue) = max-declared queues queue
