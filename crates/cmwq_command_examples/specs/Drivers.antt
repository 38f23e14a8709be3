-- Drivers of a few lines, and what is asked of their orders.
use Rattle.std.specs.Prelude.{ℕ, zero, suc, Bool, List, [], ◌∷◌, ◌++◌, length, filter, codes, Option, Some, None}
use Rattle.cmwq_types.specs.Contents.{ActorContents, ScenarioContents}
use Rattle.cmwq_types.specs.Scenario.{plain_flags, pool_count}
use Rattle.cmwq_types.specs.declared.instr.Instr.TheVariants as instr
use Rattle.cmwq_types.specs.declared.scenario.Line.{Line}
use Rattle.cmwq_types.specs.declared.scenario.Op.TheVariants.{Burn, Sleep, Finish}
use Rattle.cmwq_examples.specs.Declare.{delays, disable, enable, enqueue, flush, freezable, queue, queues, times, work}
use Rattle.cmwq_orders.specs.Orders.{Explored, has_ended, reached}
use Rattle.cmwq_orders.specs.Questions.{can_take, fails}
use Rattle.cmwq_orders.specs.declared.choice.Before.{Before}
use Rattle.cmwq_orders.specs.declared.choice.Choice.{Choice}
use Rattle.cmwq_orders.specs.declared.choice.Choice.TheVariants as choice
use Rattle.cmwq_orders.specs.declared.question.Question.{Question}

-- What is looked at.

-- an actor goes on, and a pool makes its move
abbrev pub goes : ℕ → Choice
goes actor = choice.Line actor

abbrev pub steps : ℕ → Choice
steps pool = choice.Own (instr.Step pool)

abbrev pub ticks : Choice
ticks = choice.Own instr.Tick

abbrev pub fires : Choice
fires = choice.Own instr.Fire

-- the first of the two has ended before the second begins
abbrev pub one_before_other : ℕ → ℕ → Before
one_before_other first then = record { first = first; then = then }

abbrev pub if_reached : {A : Type 0} → (Explored → A) → Option Explored → Option A
if_reached f (Some e) = Some (f e)
if_reached f None = None

-- whether the order comes to a state of the kind; None where it can't be taken
abbrev pub comes_to : ScenarioContents → List Before → Question → List Choice → Option Bool
comes_to S before question cs = if_reached (fails S before question) (reached S before cs)

-- how many lines each actor has carried out behind the order
abbrev pub places_behind : ScenarioContents → List Before → List Choice → Option (List ℕ)
places_behind S before cs = if_reached (λ (e : Explored). e.at) (reached S before cs)

abbrev pub ended_behind : ScenarioContents → List Before → ℕ → List Choice → Option Bool
ended_behind S before actor cs = if_reached (λ (e : Explored). has_ended S e actor) (reached S before cs)

-- the first n numbers, each made into a choice
abbrev pub each_below : (ℕ → Choice) → ℕ → List Choice
each_below choice zero = []
each_below choice (suc n) = each_below choice n ++ choice n ∷ []

-- each line, a fire, each step and a tick
abbrev pub choices_of : ScenarioContents → List Choice
choices_of S = each_below goes (length S.actors) ++ choice.Own instr.Fire ∷ [] ++ each_below steps (pool_count S) ++ ticks ∷ []

-- what may come behind the order
abbrev pub ways_behind : ScenarioContents → List Before → List Choice → Option (List Choice)
ways_behind S before cs = if_reached (λ (e : Explored). filter (can_take S before e) (choices_of S)) (reached S before cs)

-- The drivers.

abbrev actor : List ℕ → List Line → ActorContents
actor name lines = record { name = name; lines = lines }

-- a poll that queues itself again; `probe` queues it first, and `remove` takes it off so
abbrev pub poll_driver : List Line → ScenarioContents
poll_driver removal =
    record {
      cpus = 1;
      workers = 4;
      steps = 100;
      flushes = 4;
      queues = queue (codes "drv") 1 plain_flags ∷ [];
      works = work (codes "poll") 0 (Burn 1 ∷ Sleep 3 ∷ queues 0 ∷ Finish ∷ []) ∷ [];
      actors = actor (codes "probe") (enqueue 0 0 ∷ []) ∷ actor (codes "remove") removal ∷ [];
    }

-- a poll that arms itself by a timer, with the same two actors
abbrev pub timer_driver : List Line → ScenarioContents
timer_driver removal =
    record (poll_driver removal) { works = work (codes "poll") 0 (delays 0 2 ∷ Finish ∷ []) ∷ [] }

-- what ends such a poll: it is disabled, what runs of it is waited for, and then it is enabled
abbrev pub disable_and_wait : List Line
disable_and_wait = disable 0 ∷ flush 0 ∷ times (instr.Wait 0) 1 ∷ enable 0 ∷ []

-- a driver that freezes what it then waits for
abbrev pub frozen_driver : ScenarioContents
frozen_driver =
    record {
      cpus = 1;
      workers = 2;
      steps = 100;
      flushes = 1;
      queues = queue (codes "q") 1 freezable ∷ [];
      works = work (codes "a") 0 (Finish ∷ []) ∷ [];
      actors = actor (codes "pm") (times instr.Freeze 1 ∷ enqueue 0 0 ∷ flush 0 ∷ []) ∷ [];
    }

-- one who carries out these lines, beside a work that finishes at once
abbrev pub lone_driver : ℕ → List Line → ScenarioContents
lone_driver most lines =
    record {
      cpus = 1;
      workers = 1;
      steps = most;
      flushes = 1;
      queues = queue (codes "q") 1 plain_flags ∷ [];
      works = work (codes "a") 0 (Finish ∷ []) ∷ [];
      actors = actor (codes "t") lines ∷ [];
    }

-- two who wait for a time each, the second for a later one
abbrev pub two_sleepers : ScenarioContents
two_sleepers =
    record (lone_driver 100 [])
    { actors = actor (codes "t") (times (instr.Until 1) 1 ∷ []) ∷ actor (codes "u") (times (instr.Until 2) 1 ∷ []) ∷ [] }

-- one queues the work and flushes it, and the other waits for that flush
abbrev pub one_waits_for_another : ScenarioContents
one_waits_for_another =
    record (lone_driver 100 [])
    { actors = actor (codes "t") (enqueue 0 0 ∷ flush 0 ∷ []) ∷ actor (codes "u") (times (instr.Wait 0) 1 ∷ []) ∷ [] }
