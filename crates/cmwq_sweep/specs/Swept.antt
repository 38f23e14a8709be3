-- What sweeping does with an input, and what it tells of it.
use Rattle.std.specs.Prelude.{◌≡◌, ◌⊎◌, ◌↔◌, ◌≤◌, ◌<◌, ℕ, ◌+◌, ◌-◌, Bool, true, false, List, Option, Some, None, Result, Err, IfErr, OnOk, position}
use Rattle.std.specs.Io.KnownBytes.{Appends, Keeps}
use Rattle.std.specs.Str.{bytes_eq}
use Rattle.cmwq_types.specs.Contents.{ActorContents, ScenarioContents}
use Rattle.cmwq_types.specs.Scenario.{expand, flags_at}
use Rattle.cmwq_types.specs.declared.limits.TheConstants.{MAX_MAX_ACTIVE}
use Rattle.cmwq_play.specs.Commands.{IsOutside as IsOutsideInput}
use Rattle.cmwq_play.specs.PlayTexts.{IsRunFault, IsSpelled}
use Rattle.cmwq_play.specs.Runs.{CanRun, IsRunOf}
use Rattle.cmwq_streams.specs.Sending.{HasSentFront}
use Rattle.cmwq_streams.specs.declared.error.PlayError.TheVariants as play
use Rattle.cmwq_reports.specs.declared.report.LimitRange.{LimitRange}
use Rattle.cmwq_reports.specs.declared.report.Sweep.{Sweep}
use Rattle.cmwq_reports.specs.declared.report.TheConstants.{MOST_LIMITS}
use Rattle.cmwq_sweep.specs.Sweeping.{sweep_text}
use Rattle.cmwq_sweep.specs.declared.error.SweepError.{SweepError}
use Rattle.cmwq_sweep.specs.declared.error.SweepError.TheVariants as error

-- values that a queue's max may have, and not too many of them
pub record IsLimitRange (limits : LimitRange) : Type 0 where
  pub some : 1 ≤ limits.low
  pub rises : limits.low ≤ limits.high
  pub most : limits.high ≤ MAX_MAX_ACTIVE
  pub few : limits.high < limits.low + MOST_LIMITS

-- the number of the queue of this name
abbrev pub queue_with_name : ScenarioContents → List ℕ → Option ℕ
queue_with_name S name = position (λ queue. bytes_eq queue.name name) S.queues

-- The scenario can be run with the queue's max as is asked, and this is what it comes to: the queue is declared, and isn't ordered.
pub record IsSwept (S : ScenarioContents) (asked : Sweep) (text : List ℕ) : Type 0 where
  pub actor : ActorContents
  pub runs : IsRunOf S actor
  pub queue : ℕ
  pub named : queue_with_name S asked.queue.now ≡ Some queue
  pub varies : (flags_at S queue).ordered ≡ false
  pub text_is : text ≡ sweep_text asked.format S (expand actor) queue asked.limits.low (asked.limits.high + 1 - asked.limits.low)

-- the error is why a scenario that can be run isn't swept so: no queue has the name, or it is an ordered one, whose max is 1 for good
abbrev pub IsUnswept : ScenarioContents → Sweep → SweepError → Type 0
IsUnswept S asked (error.Play why) = ⊥
IsUnswept S asked error.NoSuchQueue = CanRun S × (queue_with_name S asked.queue.now ≡ None)
IsUnswept S asked error.Ordered =
    CanRun S × ((queue : ℕ) × (queue_with_name S asked.queue.now ≡ Some queue) × ((flags_at S queue).ordered ≡ true))

-- the error says nothing of the input: a read or a write failed, or memory ran out
abbrev pub IsOutsideSweep : SweepError → Type 0
IsOutsideSweep (error.Play why) = IsOutsideInput why
IsOutsideSweep error.NoSuchQueue = ⊥
IsOutsideSweep error.Ordered = ⊥

-- the error is why the input isn't run
abbrev pub IsFaultOfRun : (input : Option (List ℕ)) → SweepError → Type 0
IsFaultOfRun input (error.Play why) = IsRunFault input why
IsFaultOfRun input error.NoSuchQueue = ⊥
IsFaultOfRun input error.Ordered = ⊥

-- the error is why the scenario that the input spells isn't swept
abbrev pub IsFaultOfSweep : Sweep → (input : Option (List ℕ)) → SweepError → Type 0
IsFaultOfSweep asked input why = (S : ScenarioContents) × IsSpelled input S × IsUnswept S asked why

-- such a text was written of the scenario that the input spells
abbrev pub HasSwept : Sweep → (input before after : Option (List ℕ)) → Type 0
HasSwept asked input before after = (S : ScenarioContents) × (text : List ℕ) × IsSpelled input S × IsSwept S asked text × Appends before after text

-- it was to be written, and a front of it was
abbrev pub HasSweptFront : Sweep → (input before after : Option (List ℕ)) → Type 0
HasSweptFront asked input before after =
    (S : ScenarioContents) × (text : List ℕ) × IsSpelled input S × IsSwept S asked text × HasSentFront before after text

-- What was done with the input, and what is told of it.
pub record Sweeps (asked : Sweep) (input before after : Option (List ℕ)) (failed : Bool) (result : Result (Unit {0}) SweepError) : Type 0 where
  -- the whole text was written
  pub ok : OnOk result (HasSwept asked input before after)
  -- the writer failed, and a front of it was
  pub write : (result ≡ Err (error.Play play.Write)) ↔ (failed ≡ true)
  pub front : result ≡ Err (error.Play play.Write) → HasSweptFront asked input before after
  -- else nothing was
  pub silent : IfErr result (λ why. (why ≡ error.Play play.Write) ⊎ Keeps before after)
  -- and the fault is told
  pub why : IfErr result (λ why. IsFaultOfRun input why ⊎ (IsFaultOfSweep asked input why ⊎ IsOutsideSweep why))
