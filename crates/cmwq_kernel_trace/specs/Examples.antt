-- Worked examples: small scenarios, and the texts of their runs.
use Rattle.std.specs.Prelude.{ℕ, List, [], ◌∷◌, codes}
use Rattle.std.specs.List.{flat_map}
use Rattle.cmwq_types.specs.Contents.{ScenarioContents}
use Rattle.cmwq_types.specs.Listing.{text_of_lines}
use Rattle.cmwq_types.specs.Scenario.{expand, plain_flags}
use Rattle.cmwq_types.specs.declared.instr.Instr.TheVariants as instr
use Rattle.cmwq_types.specs.declared.scenario.Op.TheVariants as op
use Rattle.cmwq_examples.specs.Declare.{queue, work, highpri, unbound, freezable, mem_reclaim, queues_on, enqueue, delay_on, delay, modify, flush, flush_delayed, flush_queue, set_max_to, times, scenario}
use Rattle.cmwq_kernel_trace.specs.KernelText.{ftrace_text}

-- the texts of the scenario's actors, one after another; here each scenario has one
abbrev pub text_of : ScenarioContents → List ℕ
text_of S = flat_map (λ actor. ftrace_text S (expand actor)) S.actors

-- a holds the queue's one place while it burns and sleeps, so b waits; and u takes the CPU from a for a tick
abbrev pub limit_scenario : ScenarioContents
limit_scenario =
    record (scenario 100 (queue (codes "q") 1 plain_flags ∷ queue (codes "h") 1 highpri ∷ [])
    (work (codes "a") 0 (op.Burn 2 ∷ op.Sleep 2 ∷ op.Finish ∷ []) ∷ work (codes "b") 0 (op.Burn 1 ∷ op.Finish ∷ [])
    ∷ work (codes "u") 1 (op.Burn 1 ∷ op.Finish ∷ []) ∷ [])
    (enqueue 0 0 ∷ enqueue 1 0 ∷ flush_queue 0 ∷ times instr.Next 3 ∷ enqueue 2 0 ∷ times instr.Next 17 ∷ [])) { workers = 2; flushes = 1 }

abbrev pub limit_text : List ℕ
limit_text =
    text_of_lines (
    codes "# tracer: nop" ∷
    codes "#" ∷
    codes "# entries-in-buffer/entries-written: 12/12   #P:1" ∷
    codes "#" ∷
    codes "#                                _-----=> irqs-off/BH-disabled" ∷
    codes "#                               / _----=> need-resched" ∷
    codes "#                              | / _---=> hardirq/softirq" ∷
    codes "#                              || / _--=> preempt-depth" ∷
    codes "#                              ||| / _-=> migrate-disable" ∷
    codes "#                              |||| /     delay" ∷
    codes "#           TASK-PID     CPU#  |||||  TIMESTAMP  FUNCTION" ∷
    codes "#              | |         |   |||||     |         |" ∷
    codes "               t-10      [000] .....     0.000000: workqueue_queue_work: work struct=0000000000000001 function=a workqueue=q req_cpu=0 cpu=0" ∷
    codes "               t-10      [000] .....     0.000000: workqueue_activate_work: work struct 0000000000000001" ∷
    codes "               t-10      [000] .....     0.000000: workqueue_queue_work: work struct=0000000000000002 function=b workqueue=q req_cpu=0 cpu=0" ∷
    codes "     kworker/0:0-100     [000] .....     0.000000: workqueue_execute_start: work struct 0000000000000001: function a" ∷
    codes "               t-10      [000] .....     0.001000: workqueue_queue_work: work struct=0000000000000003 function=u workqueue=h req_cpu=0 cpu=0" ∷
    codes "               t-10      [000] .....     0.001000: workqueue_activate_work: work struct 0000000000000003" ∷
    codes "    kworker/0:0H-164     [000] .....     0.001000: workqueue_execute_start: work struct 0000000000000003: function u" ∷
    codes "    kworker/0:0H-164     [000] .....     0.002000: workqueue_execute_end: work struct 0000000000000003: function u" ∷
    codes "     kworker/0:0-100     [000] .....     0.005000: workqueue_execute_end: work struct 0000000000000001: function a" ∷
    codes "     kworker/0:0-100     [000] .....     0.005000: workqueue_activate_work: work struct 0000000000000002" ∷
    codes "     kworker/0:0-100     [000] .....     0.005000: workqueue_execute_start: work struct 0000000000000002: function b" ∷
    codes "     kworker/0:0-100     [000] .....     0.006000: workqueue_execute_end: work struct 0000000000000002: function b" ∷ [])

-- memory is short, and the machine frozen: x waits for a worker, y has a rescuer, and z waits for the thaw
abbrev pub relief_scenario : ScenarioContents
relief_scenario =
    record (scenario 100 (queue (codes "q") 1 plain_flags ∷ queue (codes "r") 1 mem_reclaim ∷ queue (codes "f") 1 freezable ∷ [])
    (work (codes "x") 0 (op.Burn 1 ∷ op.Finish ∷ []) ∷ work (codes "y") 1 (op.Burn 1 ∷ op.Finish ∷ [])
    ∷ work (codes "z") 2 (op.Burn 1 ∷ op.Finish ∷ []) ∷ [])
    (times instr.Pressure 1 ∷ times instr.Freeze 1 ∷ enqueue 0 0 ∷ enqueue 1 0 ∷ enqueue 2 0 ∷ flush 0 ∷ flush_queue 2 ∷ times instr.Next 4
    ∷ times instr.Relief 1 ∷ times instr.Next 4 ∷ times instr.Thaw 1 ∷ times instr.Next 4 ∷ [])) { workers = 2 }

abbrev pub relief_text : List ℕ
relief_text =
    text_of_lines (
    codes "# tracer: nop" ∷
    codes "#" ∷
    codes "# entries-in-buffer/entries-written: 12/12   #P:1" ∷
    codes "#" ∷
    codes "#                                _-----=> irqs-off/BH-disabled" ∷
    codes "#                               / _----=> need-resched" ∷
    codes "#                              | / _---=> hardirq/softirq" ∷
    codes "#                              || / _--=> preempt-depth" ∷
    codes "#                              ||| / _-=> migrate-disable" ∷
    codes "#                              |||| /     delay" ∷
    codes "#           TASK-PID     CPU#  |||||  TIMESTAMP  FUNCTION" ∷
    codes "#              | |         |   |||||     |         |" ∷
    codes "               t-10      [000] .....     0.000000: workqueue_queue_work: work struct=0000000000000001 function=x workqueue=q req_cpu=0 cpu=0" ∷
    codes "               t-10      [000] .....     0.000000: workqueue_activate_work: work struct 0000000000000001" ∷
    codes "               t-10      [000] .....     0.000000: workqueue_queue_work: work struct=0000000000000002 function=y workqueue=r req_cpu=0 cpu=0" ∷
    codes "               t-10      [000] .....     0.000000: workqueue_activate_work: work struct 0000000000000002" ∷
    codes "               t-10      [000] .....     0.000000: workqueue_queue_work: work struct=0000000000000003 function=z workqueue=f req_cpu=0 cpu=0" ∷
    codes "               r-3001    [000] .....     0.000000: workqueue_execute_start: work struct 0000000000000002: function y" ∷
    codes "               r-3001    [000] .....     0.001000: workqueue_execute_end: work struct 0000000000000002: function y" ∷
    codes "     kworker/0:0-100     [000] .....     0.001000: workqueue_execute_start: work struct 0000000000000001: function x" ∷
    codes "     kworker/0:0-100     [000] .....     0.002000: workqueue_execute_end: work struct 0000000000000001: function x" ∷
    codes "               t-10      [000] .....     0.002000: workqueue_activate_work: work struct 0000000000000003" ∷
    codes "     kworker/0:0-100     [000] .....     0.002000: workqueue_execute_start: work struct 0000000000000003: function z" ∷
    codes "     kworker/0:0-100     [000] .....     0.003000: workqueue_execute_end: work struct 0000000000000003: function z" ∷ [])

-- On two CPUs the timer of a places it on the second, where it runs; it is queued again from the first, and queues b, which is unbound, twice.
abbrev pub wide_scenario : ScenarioContents
wide_scenario =
    record (scenario 100 (queue (codes "q") 1 plain_flags ∷ queue (codes "u") 1 unbound ∷ [])
    (work (codes "a") 0 (queues_on 1 1 ∷ op.Finish ∷ []) ∷ work (codes "b") 1 (op.Burn 1 ∷ op.Finish ∷ []) ∷ [])
    (delay_on 0 1 1 ∷ times instr.Next 3 ∷ enqueue 0 0 ∷ times instr.Next 9 ∷ [])) { cpus = 2; workers = 2 }

abbrev pub wide_text : List ℕ
wide_text =
    text_of_lines (
    codes "# tracer: nop" ∷
    codes "#" ∷
    codes "# entries-in-buffer/entries-written: 12/12   #P:3" ∷
    codes "#" ∷
    codes "#                                _-----=> irqs-off/BH-disabled" ∷
    codes "#                               / _----=> need-resched" ∷
    codes "#                              | / _---=> hardirq/softirq" ∷
    codes "#                              || / _--=> preempt-depth" ∷
    codes "#                              ||| / _-=> migrate-disable" ∷
    codes "#                              |||| /     delay" ∷
    codes "#           TASK-PID     CPU#  |||||  TIMESTAMP  FUNCTION" ∷
    codes "#              | |         |   |||||     |         |" ∷
    codes "          <idle>-0       [001] .....     0.001000: workqueue_queue_work: work struct=0000000000000001 function=a workqueue=q req_cpu=1 cpu=1" ∷
    codes "          <idle>-0       [001] .....     0.001000: workqueue_activate_work: work struct 0000000000000001" ∷
    codes "     kworker/1:0-228     [001] .....     0.001000: workqueue_execute_start: work struct 0000000000000001: function a" ∷
    codes "               t-10      [000] .....     0.001000: workqueue_queue_work: work struct=0000000000000001 function=a workqueue=q req_cpu=0 cpu=1" ∷
    codes "     kworker/1:0-228     [001] .....     0.001000: workqueue_queue_work: work struct=0000000000000002 function=b workqueue=u req_cpu=1 cpu=-1" ∷
    codes "     kworker/1:0-228     [001] .....     0.001000: workqueue_activate_work: work struct 0000000000000002" ∷
    codes "     kworker/1:0-228     [001] .....     0.001000: workqueue_execute_end: work struct 0000000000000001: function a" ∷
    codes "     kworker/1:0-228     [001] .....     0.001000: workqueue_activate_work: work struct 0000000000000001" ∷
    codes "     kworker/1:0-228     [001] .....     0.001000: workqueue_execute_start: work struct 0000000000000001: function a" ∷
    codes "     kworker/1:0-228     [001] .....     0.001000: workqueue_execute_end: work struct 0000000000000001: function a" ∷
    codes "    kworker/u4:0-356     [002] .....     0.001000: workqueue_execute_start: work struct 0000000000000002: function b" ∷
    codes "    kworker/u4:0-356     [002] .....     0.002000: workqueue_execute_end: work struct 0000000000000002: function b" ∷ [])

-- a is queued while it sleeps, and deferred, so it starts again where it ends; a higher limit activates w, and its end x. At last a timer is
-- ended by who waits for its work, and that is queued anew.
abbrev pub again_scenario : ScenarioContents
again_scenario =
    record (scenario 100 (queue (codes "q") 2 plain_flags ∷ [])
    (work (codes "a") 0 (op.Sleep 1 ∷ op.Finish ∷ []) ∷ work (codes "w") 0 (op.Finish ∷ []) ∷ work (codes "x") 0 (op.Finish ∷ []) ∷ [])
    (enqueue 0 0 ∷ times instr.Next 2 ∷ enqueue 0 0 ∷ enqueue 1 0 ∷ enqueue 2 0 ∷ times instr.Next 1 ∷ set_max_to 0 3 ∷ times instr.Next 11
    ∷ delay 1 5 ∷ flush_delayed 1 ∷ modify 1 0 ∷ [])) { workers = 2 }

abbrev pub again_text : List ℕ
again_text =
    text_of_lines (
    codes "# tracer: nop" ∷
    codes "#" ∷
    codes "# entries-in-buffer/entries-written: 20/20   #P:1" ∷
    codes "#" ∷
    codes "#                                _-----=> irqs-off/BH-disabled" ∷
    codes "#                               / _----=> need-resched" ∷
    codes "#                              | / _---=> hardirq/softirq" ∷
    codes "#                              || / _--=> preempt-depth" ∷
    codes "#                              ||| / _-=> migrate-disable" ∷
    codes "#                              |||| /     delay" ∷
    codes "#           TASK-PID     CPU#  |||||  TIMESTAMP  FUNCTION" ∷
    codes "#              | |         |   |||||     |         |" ∷
    codes "               t-10      [000] .....     0.000000: workqueue_queue_work: work struct=0000000000000001 function=a workqueue=q req_cpu=0 cpu=0" ∷
    codes "               t-10      [000] .....     0.000000: workqueue_activate_work: work struct 0000000000000001" ∷
    codes "     kworker/0:0-100     [000] .....     0.000000: workqueue_execute_start: work struct 0000000000000001: function a" ∷
    codes "               t-10      [000] .....     0.000000: workqueue_queue_work: work struct=0000000000000001 function=a workqueue=q req_cpu=0 cpu=0" ∷
    codes "               t-10      [000] .....     0.000000: workqueue_activate_work: work struct 0000000000000001" ∷
    codes "               t-10      [000] .....     0.000000: workqueue_queue_work: work struct=0000000000000002 function=w workqueue=q req_cpu=0 cpu=0" ∷
    codes "               t-10      [000] .....     0.000000: workqueue_queue_work: work struct=0000000000000003 function=x workqueue=q req_cpu=0 cpu=0" ∷
    codes "               t-10      [000] .....     0.000000: workqueue_activate_work: work struct 0000000000000002" ∷
    codes "     kworker/0:1-101     [000] .....     0.000000: workqueue_execute_start: work struct 0000000000000002: function w" ∷
    codes "     kworker/0:1-101     [000] .....     0.000000: workqueue_execute_end: work struct 0000000000000002: function w" ∷
    codes "     kworker/0:1-101     [000] .....     0.000000: workqueue_activate_work: work struct 0000000000000003" ∷
    codes "     kworker/0:1-101     [000] .....     0.000000: workqueue_execute_start: work struct 0000000000000003: function x" ∷
    codes "     kworker/0:1-101     [000] .....     0.000000: workqueue_execute_end: work struct 0000000000000003: function x" ∷
    codes "     kworker/0:0-100     [000] .....     0.001000: workqueue_execute_end: work struct 0000000000000001: function a" ∷
    codes "     kworker/0:0-100     [000] .....     0.001000: workqueue_execute_start: work struct 0000000000000001: function a" ∷
    codes "     kworker/0:0-100     [000] .....     0.002000: workqueue_execute_end: work struct 0000000000000001: function a" ∷
    codes "               t-10      [000] .....     0.002000: workqueue_queue_work: work struct=0000000000000002 function=w workqueue=q req_cpu=0 cpu=0" ∷
    codes "               t-10      [000] .....     0.002000: workqueue_activate_work: work struct 0000000000000002" ∷
    codes "               t-10      [000] .....     0.002000: workqueue_queue_work: work struct=0000000000000002 function=w workqueue=q req_cpu=0 cpu=0" ∷
    codes "               t-10      [000] .....     0.002000: workqueue_activate_work: work struct 0000000000000002" ∷ [])
