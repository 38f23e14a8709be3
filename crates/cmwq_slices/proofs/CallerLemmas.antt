-- What a caller cites: an instruction keeps the numbers of works of which phases and executions may be open.
use Rattle.std.proofs.Common.{◌≡◌, ℕ, Bool, true, false, cond, List, length, None, Option, refl}
use Rattle.std.proofs.lemmas.List.{length-set}
use Rattle.std.specs.Prelude.{nat_lt, slice_set}
use Rattle.cmwq_types.specs.Contents.{ScenarioContents}
use Rattle.cmwq_types.specs.declared.reply.Reply.{Reply}
use Rattle.cmwq_types.specs.declared.reply.Reply.TheVariants as reply
use Rattle.cmwq_table.specs.State.{State, running_at}
use Rattle.cmwq_table.specs.Told.{is_end, is_start}
use Rattle.cmwq_slices.specs.Executions.{execution_begun, executions_after}
use Rattle.cmwq_slices.specs.Slices.{phases_after, phases_from}
use Rattle.cmwq_slices.specs.declared.executions.OpenExecution.{OpenExecution}
use Rattle.cmwq_slices.specs.declared.phases.WorkPhases.{WorkPhases}
pub use Rattle.cmwq_slices.proofs.PassLemmas.{phases-length}
pub use Rattle.cmwq_slices.proofs.DoingLemmas.{is-tick}
pub use Rattle.cmwq_slices.proofs.SteadyLemmas.{done-other, same_doing}

pub phases_after-length : (S : ScenarioContents) (s : State) (time : ℕ) (all : List WorkPhases) → length (phases_after S s time all) ≡ length all
phases_after-length S s time all = chosen (nat_lt s.time time) where
  chosen : (b : Bool) → length (cond b (phases_from s.time S s 0 all) all) ≡ length all
  chosen true = phases-length s.time S s 0 all
  chosen false = refl

pub executions_after-length : (t : State) (reply : Reply) (all : List (Option OpenExecution)) → length (executions_after t reply all) ≡ length all
executions_after-length t (reply.Event work event) all = chosen (is_start event) (is_end event) where
  chosen : (a b : Bool) → length (cond a (slice_set all work.0 (execution_begun t.time (running_at t work.0))) (cond b (slice_set all work.0 None) all)) ≡ length all
  chosen true b = length-set all work.0 (execution_begun t.time (running_at t work.0))
  chosen false true = length-set all work.0 None
  chosen false false = refl
executions_after-length t other all = refl
