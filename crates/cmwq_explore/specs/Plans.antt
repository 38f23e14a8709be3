-- What is explored, and where a machine and the actors stand in an order.
use Rattle.std.specs.Prelude.{◌≡◌, ℕ, ◌+◌, ◌≤◌, Bool, true, false, List, [], ◌∷◌, count_by, length, map, Option, Some, None}
use Rattle.cmwq_types.specs.Contents.{ActorContents, ScenarioContents}
use Rattle.cmwq_types.specs.Faults.{IsValid}
use Rattle.cmwq_types.specs.declared.instr.Instr.{Instr}
use Rattle.cmwq_types.specs.declared.instr.Instr.TheVariants as instr
use Rattle.cmwq_types.specs.declared.limits.TheConstants.{MAX_LINES}
use Rattle.cmwq_table.specs.State.{State}
use Rattle.cmwq_orders.specs.Orders.{Explored, lines_of, taken}
use Rattle.cmwq_orders.specs.Sizes.{IsWhole}
use Rattle.cmwq_orders.specs.declared.choice.Before.{Before}
use Rattle.cmwq_orders.specs.declared.choice.Choice.{Choice}

-- a scenario, and who has to wait for whom
pub record PlanContents : Type 0 where
  pub scenario : ScenarioContents
  pub before : List Before

abbrev pub plan_of : ScenarioContents → List Before → PlanContents
plan_of S before = record { scenario = S; before = before }

-- how many lines the actors have in all
abbrev pub line_count : List ActorContents → ℕ
line_count [] = 0
line_count (actor ∷ actors) = length (lines_of actor) + line_count actors

-- the instruction gives a flush
abbrev pub gives_flush : Instr → Bool
gives_flush (instr.Flush work) = true
gives_flush (instr.FlushDelayed work) = true
gives_flush (instr.FlushQueue queue) = true
gives_flush (instr.CancelSync work) = true
gives_flush other = false

-- how many flushes the actors' lines give in all
abbrev pub flush_count : List ActorContents → ℕ
flush_count [] = 0
flush_count (actor ∷ actors) = count_by gives_flush (lines_of actor) + flush_count actors

-- the scenario is valid; the lines are those of its actors, and few enough for one actor
pub record IsPlanned (S : ScenarioContents) (lines : List (List Instr)) : Type 0 where
  pub valid : IsValid S
  pub of_actors : lines ≡ map lines_of S.actors
  pub few : line_count S.actors ≤ MAX_LINES

-- a machine and the actors, somewhere in an order
pub record Stood : Type 0 where
  pub plan : PlanContents
  pub explored : Explored

abbrev pub stood_at : PlanContents → State → List ℕ → List (Option ℕ) → Stood
stood_at plan s at waits = record { plan = plan; explored = record { machine = s; at = at; waits = waits } }

-- the machine is loaded with the plan's scenario, and something is known of each actor
pub record IsStanding (loaded : ScenarioContents) (t : Stood) : Type 0 where
  pub of_plan : loaded ≡ t.plan.scenario
  pub whole : IsWhole t.plan.scenario t.explored

-- What taking a choice came to: it was taken, as this instruction; or it can't be taken now.
abbrev pub TakenAs : Option Explored → Option Instr → Explored → Option Instr → Type 0
TakenAs next i new (Some j) = (next ≡ Some new) × (i ≡ Some j)
TakenAs next i new None = next ≡ None

-- What a choice leads to from where they stand; none where it can't be taken.
abbrev pub IsLed : Stood → Choice → Option Stood → Type 0
IsLed s c (Some t) = (t.plan ≡ s.plan) × (taken s.plan.scenario s.plan.before s.explored c ≡ Some t.explored)
IsLed s c None = taken s.plan.scenario s.plan.before s.explored c ≡ None
