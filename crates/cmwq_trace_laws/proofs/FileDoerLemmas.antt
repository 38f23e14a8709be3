-- Who does something in a run, and for which CPU, in numbers that have room.
use Rattle.std.proofs.Common.{◌≡◌, ℕ, zero, suc, ◌^◌, ◌<◌, Bool, true, false, cond, List, [], ◌∷◌, length, Option, Some, None, arith, refl, ap, ◌∙◌}
use Rattle.std.specs.Prelude.{slice_index_or}
use Rattle.cmwq_types.proofs.SettingLemmas.{local_cpu-in_range}
use Rattle.cmwq_types.specs.Contents.{ScenarioContents}
use Rattle.cmwq_types.specs.First.{or_else}
use Rattle.cmwq_types.specs.Scenario.{op_at, pool_count, queue_of, local_cpu}
use Rattle.cmwq_types.specs.Setting.{IsOpInRange, IsSetting}
use Rattle.cmwq_types.specs.Values.{IsInstr}
use Rattle.cmwq_types.specs.declared.instr.Instr.{Instr}
use Rattle.cmwq_types.specs.declared.instr.Instr.TheVariants as instr
use Rattle.cmwq_types.specs.declared.reply.Event.{Event}
use Rattle.cmwq_types.specs.declared.reply.Event.TheVariants as event
use Rattle.cmwq_types.specs.declared.reply.Place.{Place}
use Rattle.cmwq_types.specs.declared.reply.Place.TheVariants.{Timer, Inactive, Listed, Deferred}
use Rattle.cmwq_types.specs.declared.reply.Reply.{Reply}
use Rattle.cmwq_types.specs.declared.reply.Reply.TheVariants as reply
use Rattle.cmwq_types.specs.declared.scenario.Op.{Op}
use Rattle.cmwq_types.specs.declared.scenario.Op.TheVariants as op
use Rattle.cmwq_table.specs.Counts.{is_rescuer}
use Rattle.cmwq_table.specs.Ready.{IsPlaceReady}
use Rattle.cmwq_table.specs.State.{State, pending_at, running_at}
use Rattle.cmwq_table.specs.declared.state.Pending.{Pending}
use Rattle.cmwq_table.specs.declared.state.Running.{Running}
use Rattle.cmwq_reasons.proofs.WorkerLemmas.{IsStaffed, Post, post, post_at, post_of}
use Rattle.cmwq_blame_laws.proofs.Places.{IsReadyIf}
use Rattle.cmwq_events.specs.KernelEvents.{asked_cpu, body_cpu, doing_task, event_cpu, mover, op_cpu, place_cpu, reply_cpu, timer_cpu, worker_of}
use Rattle.cmwq_events.specs.KernelTasks.{executor, task_pid}
use Rattle.cmwq_events.specs.declared.kernel_task.KernelTask.{KernelTask}
use Rattle.cmwq_events.specs.declared.kernel_task.KernelTask.TheVariants as task

some-there : {A : Type 0} (xs : List (Option A)) (w : ℕ) (x : A) → slice_index_or xs w None ≡ Some x → w < length xs
some-there [] w x is = cc
some-there (y ∷ ys) zero x is = omega arith
some-there (y ∷ ys) (suc w) x is = (let more = some-there ys w x is in omega (arith, more))

-- the task of a work that runs has a pid that has room
abbrev pub HasPid : ScenarioContents → ℕ → Option Running → Type 0
HasPid S w (Some r) = task_pid (executor S w r.pool r.worker) < 2 ^ 32
HasPid S w None = Unit {0}

module _ (S : ScenarioContents) (setting : IsSetting S) where
  module _ (s : State) (staffed : IsStaffed S s) where
    posted : (w : ℕ) (r : Running) → running_at s w ≡ Some r → is_rescuer r.worker ≡ false → post_at s w ≡ post_of r.pool r.worker
    posted w r there no_rescuer =
        ap (λ (o : Option Running). post o) there ∙ ap (λ (b : Bool). cond {A = Option Post} b None (post_of r.pool r.worker)) no_rescuer

    runner-pid : (w : ℕ) (r : Running) → running_at s w ≡ Some r → r.pool < pool_count S → task_pid (executor S w r.pool r.worker) < 2 ^ 32
    runner-pid w r there within = chosen (is_rescuer r.worker) refl where
      chosen : (b : Bool) → is_rescuer r.worker ≡ b
          → task_pid (cond {A = KernelTask} b (task.Rescuer (record { 0 = queue_of S w }) r.pool) (task.Worker r.pool r.worker)) < 2 ^ 32
      chosen true is =
          let long = staffed.long in
          let below : w < length S.works = (let here = some-there s.running w r there in omega (arith, here, long)) in
          let declared = setting.declared w below in
          let few = setting.queues in
          omega (arith, declared, few)
      chosen false is =
          let made = (staffed.runs w r.pool r.worker (posted w r there is)).0 in
          let most = staffed.most r.pool in
          let workers = setting.workers in
          let cpus = setting.cpus in
          omega (arith, made, most, workers, cpus, within)

    pub has-pid : ((w : ℕ) (r : Running) → running_at s w ≡ Some r → r.pool < pool_count S) → (w : ℕ) → HasPid S w (running_at s w)
    has-pid within w = chosen (running_at s w) refl where
      chosen : (o : Option Running) → running_at s w ≡ o → HasPid S w o
      chosen (Some r) there = runner-pid w r there (within w r there)
      chosen None there = tt

  -- Who moves a work.

  worker_of-pid : (w : ℕ) (o : Option Running) → HasPid S w o → task_pid (worker_of S w o) < 2 ^ 32
  worker_of-pid w (Some r) small = small
  worker_of-pid w None small = omega arith

  else-pid : (w : ℕ) (before after : Option Running) → HasPid S w before → HasPid S w after → HasPid S w (or_else before after)
  else-pid w (Some r) after first second = first
  else-pid w None after first second = second

  mover-pid : (w : ℕ) (e : Event) (pending : Option Pending) (before after : Option Running) → HasPid S w before → HasPid S w after
      → task_pid (mover S w e pending before after) < 2 ^ 32
  mover-pid w event.Fires pending before after first second = omega arith
  mover-pid w other pending before after first second = worker_of-pid w (or_else before after) (else-pid w before after first second)

  pub doing-pid : (s t : State) (told : Reply) → ((w : ℕ) → HasPid S w (running_at s w)) → ((w : ℕ) → HasPid S w (running_at t w))
      → task_pid (doing_task S s t told) < 2 ^ 32
  doing-pid s t (reply.Event w e) first second = mover-pid w.0 e (pending_at s w.0) (running_at s w.0) (running_at t w.0) (first w.0) (second w.0)
  doing-pid s t other first second = omega arith

  -- For which CPU a work is asked.

  place_cpu-small : (place : Place) → IsPlaceReady S place → place_cpu place < 2 ^ 8
  place_cpu-small (Timer due cpu) there = (let few = setting.cpus in omega (arith, there, few))
  place_cpu-small (Inactive pool) there = omega arith
  place_cpu-small (Listed pool) there = omega arith
  place_cpu-small (Deferred pool) there = omega arith

  timer_cpu-small : (o : Option Pending) → IsReadyIf S o → timer_cpu o < 2 ^ 8
  timer_cpu-small (Some p) there = place_cpu-small p.place there
  timer_cpu-small None there = omega arith

  local_cpu-small : (pool : ℕ) → local_cpu S pool < 2 ^ 8
  local_cpu-small pool = (let few = setting.cpus in let there = local_cpu-in_range S pool setting.some in omega (arith, there, few))

  op_cpu-small : (pool : ℕ) (o : Op) → IsOpInRange S o → op_cpu S pool o < 2 ^ 8
  op_cpu-small pool (op.Queue other cpu) within = (let few = setting.cpus in let there = within.1 in omega (arith, there, few))
  op_cpu-small pool (op.Delay other ticks) within = local_cpu-small pool
  op_cpu-small pool (op.Mod other ticks) within = local_cpu-small pool
  op_cpu-small pool (op.Cancel other) within = omega arith
  op_cpu-small pool (op.Burn ticks) within = omega arith
  op_cpu-small pool (op.Sleep ticks) within = omega arith
  op_cpu-small pool op.Finish within = omega arith

  body_cpu-small : (w : ℕ) (o : Option Running) → body_cpu S w o < 2 ^ 8
  body_cpu-small w (Some r) = op_cpu-small r.pool (op_at S w r.pc) (setting.ops w r.pc)
  body_cpu-small w None = omega arith

  event_cpu-small : (w : ℕ) (e : Event) (pending : Option Pending) (running : Option Running) → IsReadyIf S pending → event_cpu S w e pending running < 2 ^ 8
  event_cpu-small w event.Fires pending running there = timer_cpu-small pending there
  event_cpu-small w other pending running there = body_cpu-small w running

  module _ (s : State) (ready : (w : ℕ) → IsReadyIf S (pending_at s w)) where
    reply_cpu-small : (told : Reply) → reply_cpu S s told < 2 ^ 8
    reply_cpu-small (reply.Event w e) = event_cpu-small w.0 e (pending_at s w.0) (running_at s w.0) (ready w.0)
    reply_cpu-small other = omega arith

    pub asked_cpu-small : (i : Instr) (told : Reply) → IsInstr i → asked_cpu S s i told < 2 ^ 8
    asked_cpu-small (instr.Queue w cpu) told small = small.1
    asked_cpu-small (instr.Delay w cpu ticks) told small = small.1
    asked_cpu-small (instr.Mod w cpu ticks) told small = small.1
    asked_cpu-small (instr.FlushDelayed w) told small = timer_cpu-small (pending_at s w.0) (ready w.0)
    asked_cpu-small other told small = reply_cpu-small told
