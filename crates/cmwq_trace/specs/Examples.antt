-- Worked examples: small scenarios, and the traces of their runs.
use Rattle.std.specs.Prelude.{ℕ, List, [], ◌∷◌, codes}
use Rattle.std.specs.List.{flat_map}
use Rattle.cmwq_types.specs.Contents.{ScenarioContents}
use Rattle.cmwq_types.specs.Listing.{text_of_lines}
use Rattle.cmwq_types.specs.Scenario.{expand, plain_flags}
use Rattle.cmwq_types.specs.declared.instr.Instr.TheVariants as instr
use Rattle.cmwq_types.specs.declared.scenario.Op.TheVariants as op
use Rattle.cmwq_examples.specs.Declare.{queue, work, highpri, freezable, mem_reclaim, enqueue, flush, flush_queue, times, scenario}
use Rattle.cmwq_trace.specs.Json.{json_text}

-- the traces of the scenario's actors, one after another; here each scenario has one
abbrev pub json_of : ScenarioContents → List ℕ
json_of S = flat_map (λ actor. json_text S (expand actor)) S.actors

-- a holds the queue's one place while it burns and sleeps, so b waits; and u takes the CPU from a for a tick
abbrev pub limit_scenario : ScenarioContents
limit_scenario =
    record (scenario 100 (queue (codes "q") 1 plain_flags ∷ queue (codes "h") 1 highpri ∷ [])
    (work (codes "a") 0 (op.Burn 2 ∷ op.Sleep 2 ∷ op.Finish ∷ []) ∷ work (codes "b") 0 (op.Burn 1 ∷ op.Finish ∷ [])
    ∷ work (codes "u") 1 (op.Burn 1 ∷ op.Finish ∷ []) ∷ [])
    (enqueue 0 0 ∷ enqueue 1 0 ∷ flush_queue 0 ∷ times instr.Next 3 ∷ enqueue 2 0 ∷ times instr.Next 17 ∷ [])) { workers = 2; flushes = 1 }

abbrev pub limit_json : List ℕ
limit_json =
    text_of_lines (
    codes "{\"displayTimeUnit\":\"ms\",\"traceEvents\":[" ∷
    codes "{\"ph\":\"M\",\"pid\":1,\"tid\":0,\"name\":\"process_name\",\"args\":{\"name\":\"works\"}}," ∷
    codes "{\"ph\":\"M\",\"pid\":2,\"tid\":0,\"name\":\"process_name\",\"args\":{\"name\":\"CPU 0\"}}," ∷
    codes "{\"ph\":\"M\",\"pid\":3,\"tid\":0,\"name\":\"process_name\",\"args\":{\"name\":\"unbound\"}}," ∷
    codes "{\"ph\":\"M\",\"pid\":1,\"tid\":1,\"name\":\"thread_name\",\"args\":{\"name\":\"a\"}}," ∷
    codes "{\"ph\":\"M\",\"pid\":1,\"tid\":2,\"name\":\"thread_name\",\"args\":{\"name\":\"a pending\"}}," ∷
    codes "{\"ph\":\"M\",\"pid\":1,\"tid\":3,\"name\":\"thread_name\",\"args\":{\"name\":\"b\"}}," ∷
    codes "{\"ph\":\"M\",\"pid\":1,\"tid\":4,\"name\":\"thread_name\",\"args\":{\"name\":\"b pending\"}}," ∷
    codes "{\"ph\":\"M\",\"pid\":1,\"tid\":5,\"name\":\"thread_name\",\"args\":{\"name\":\"u\"}}," ∷
    codes "{\"ph\":\"M\",\"pid\":1,\"tid\":6,\"name\":\"thread_name\",\"args\":{\"name\":\"u pending\"}}," ∷
    codes "{\"ph\":\"X\",\"pid\":1,\"tid\":1,\"ts\":0,\"dur\":1000,\"name\":\"burns\"}," ∷
    codes "{\"ph\":\"M\",\"pid\":2,\"tid\":164,\"name\":\"thread_name\",\"args\":{\"name\":\"kworker/0:0H\"}}," ∷
    codes "{\"ph\":\"X\",\"pid\":2,\"tid\":164,\"ts\":1000,\"dur\":1000,\"name\":\"u\"}," ∷
    codes "{\"ph\":\"X\",\"pid\":1,\"tid\":1,\"ts\":1000,\"dur\":1000,\"name\":\"ready\"}," ∷
    codes "{\"ph\":\"X\",\"pid\":1,\"tid\":5,\"ts\":1000,\"dur\":1000,\"name\":\"burns\"}," ∷
    codes "{\"ph\":\"X\",\"pid\":1,\"tid\":1,\"ts\":2000,\"dur\":1000,\"name\":\"burns\"}," ∷
    codes "{\"ph\":\"M\",\"pid\":2,\"tid\":100,\"name\":\"thread_name\",\"args\":{\"name\":\"kworker/0:0\"}}," ∷
    codes "{\"ph\":\"X\",\"pid\":2,\"tid\":100,\"ts\":0,\"dur\":5000,\"name\":\"a\"}," ∷
    codes "{\"ph\":\"X\",\"pid\":1,\"tid\":1,\"ts\":3000,\"dur\":2000,\"name\":\"asleep\"}," ∷
    codes "{\"ph\":\"X\",\"pid\":1,\"tid\":4,\"ts\":0,\"dur\":5000,\"name\":\"inactive\"}," ∷
    codes "{\"ph\":\"X\",\"pid\":2,\"tid\":100,\"ts\":5000,\"dur\":1000,\"name\":\"b\"}," ∷
    codes "{\"ph\":\"X\",\"pid\":1,\"tid\":3,\"ts\":5000,\"dur\":1000,\"name\":\"burns\"}" ∷ codes "]}" ∷ [])

-- memory is short, and the machine frozen: x waits for a worker, y has a rescuer, and z waits for the thaw
abbrev pub relief_scenario : ScenarioContents
relief_scenario =
    record (scenario 100 (queue (codes "q") 1 plain_flags ∷ queue (codes "r") 1 mem_reclaim ∷ queue (codes "f") 1 freezable ∷ [])
    (work (codes "x") 0 (op.Burn 1 ∷ op.Finish ∷ []) ∷ work (codes "y") 1 (op.Burn 1 ∷ op.Finish ∷ [])
    ∷ work (codes "z") 2 (op.Burn 1 ∷ op.Finish ∷ []) ∷ [])
    (times instr.Pressure 1 ∷ times instr.Freeze 1 ∷ enqueue 0 0 ∷ enqueue 1 0 ∷ enqueue 2 0 ∷ flush 0 ∷ flush_queue 2 ∷ times instr.Next 4
    ∷ times instr.Relief 1 ∷ times instr.Next 4 ∷ times instr.Thaw 1 ∷ times instr.Next 4 ∷ [])) { workers = 2 }

abbrev pub relief_json : List ℕ
relief_json =
    text_of_lines (
    codes "{\"displayTimeUnit\":\"ms\",\"traceEvents\":[" ∷
    codes "{\"ph\":\"M\",\"pid\":1,\"tid\":0,\"name\":\"process_name\",\"args\":{\"name\":\"works\"}}," ∷
    codes "{\"ph\":\"M\",\"pid\":2,\"tid\":0,\"name\":\"process_name\",\"args\":{\"name\":\"CPU 0\"}}," ∷
    codes "{\"ph\":\"M\",\"pid\":3,\"tid\":0,\"name\":\"process_name\",\"args\":{\"name\":\"unbound\"}}," ∷
    codes "{\"ph\":\"M\",\"pid\":1,\"tid\":1,\"name\":\"thread_name\",\"args\":{\"name\":\"x\"}}," ∷
    codes "{\"ph\":\"M\",\"pid\":1,\"tid\":2,\"name\":\"thread_name\",\"args\":{\"name\":\"x pending\"}}," ∷
    codes "{\"ph\":\"M\",\"pid\":1,\"tid\":3,\"name\":\"thread_name\",\"args\":{\"name\":\"y\"}}," ∷
    codes "{\"ph\":\"M\",\"pid\":1,\"tid\":4,\"name\":\"thread_name\",\"args\":{\"name\":\"y pending\"}}," ∷
    codes "{\"ph\":\"M\",\"pid\":1,\"tid\":5,\"name\":\"thread_name\",\"args\":{\"name\":\"z\"}}," ∷
    codes "{\"ph\":\"M\",\"pid\":1,\"tid\":6,\"name\":\"thread_name\",\"args\":{\"name\":\"z pending\"}}," ∷
    codes "{\"ph\":\"M\",\"pid\":2,\"tid\":3001,\"name\":\"thread_name\",\"args\":{\"name\":\"r\"}}," ∷
    codes "{\"ph\":\"X\",\"pid\":2,\"tid\":3001,\"ts\":0,\"dur\":1000,\"name\":\"y\"}," ∷
    codes "{\"ph\":\"X\",\"pid\":1,\"tid\":2,\"ts\":0,\"dur\":1000,\"name\":\"listed\"}," ∷
    codes "{\"ph\":\"X\",\"pid\":1,\"tid\":3,\"ts\":0,\"dur\":1000,\"name\":\"burns\"}," ∷
    codes "{\"ph\":\"M\",\"pid\":2,\"tid\":100,\"name\":\"thread_name\",\"args\":{\"name\":\"kworker/0:0\"}}," ∷
    codes "{\"ph\":\"X\",\"pid\":2,\"tid\":100,\"ts\":1000,\"dur\":1000,\"name\":\"x\"}," ∷
    codes "{\"ph\":\"X\",\"pid\":1,\"tid\":1,\"ts\":1000,\"dur\":1000,\"name\":\"burns\"}," ∷
    codes "{\"ph\":\"X\",\"pid\":1,\"tid\":6,\"ts\":0,\"dur\":2000,\"name\":\"inactive\"}," ∷
    codes "{\"ph\":\"X\",\"pid\":2,\"tid\":100,\"ts\":2000,\"dur\":1000,\"name\":\"z\"}," ∷
    codes "{\"ph\":\"X\",\"pid\":1,\"tid\":5,\"ts\":2000,\"dur\":1000,\"name\":\"burns\"}" ∷ codes "]}" ∷ [])
