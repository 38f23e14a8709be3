-- How other errors are told.
use Rattle.cmwq_streams.specs.declared.error.PlayError.TheVariants as play
use Rattle.cmwq_explore.specs.declared.plan.PlanError.{PlanError}
use Rattle.cmwq_explore.specs.declared.plan.PlanError.TheVariants.{Full, NoMemory}
use Rattle.cmwq_explored.specs.declared.error.ExploreError.{ExploreError}
use Rattle.cmwq_explored.specs.declared.error.ExploreError.TheVariants.{Play}

abbrev pub no_memory : ExploreError
no_memory = Play play.NoMemory

abbrev pub plan_told_as : PlanError → ExploreError
plan_told_as Full = Play play.Full
plan_told_as NoMemory = no_memory
