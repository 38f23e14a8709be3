-- What holds of one task holds of an equal one.
use Rattle.std.proofs.Common.{◌≡◌, ℕ, List, Option, subst, sym}
use Rattle.std.specs.Prelude.{Bool, Result}
use Rattle.cmwq_command.specs.Tasks.{IsTaskFault, IsGoalOf, IsWrittenBy}
use Rattle.cmwq_tasks.specs.declared.task.Task.{Task}
use Rattle.cmwq_play.specs.Commands.{Answers, Writes}
use Rattle.cmwq_streams.specs.declared.error.PlayError.{PlayError}

pub answered : (t u : Task) (input : Option (List ℕ)) (result : Result (Unit {0}) PlayError) → t ≡ u → Answers (IsGoalOf u) (IsTaskFault u) input result → Answers (IsGoalOf t) (IsTaskFault t) input result
answered t u input result e known = subst (λ (x : Task). Answers (IsGoalOf x) (IsTaskFault x) input result) (sym e) known

pub written : (t u : Task) (input before after : Option (List ℕ)) (failed : Bool) (result : Result (Unit {0}) PlayError) → t ≡ u → Writes (IsWrittenBy u input) before after failed result → Writes (IsWrittenBy t input) before after failed result
written t u input before after failed result e known = subst (λ (x : Task). Writes (IsWrittenBy x input) before after failed result) (sym e) known
