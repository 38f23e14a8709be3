-- A worked image: one queue, one work that queues itself, and one actor of three lines.
use Rattle.std.specs.Prelude.{ℕ, true, List, [], ◌∷◌, replicate, slice_set}
use Rattle.cmwq_types.specs.Contents.{ScenarioContents, WorkContents, ActorContents}
use Rattle.cmwq_types.specs.Scenario.{plain_flags}
use Rattle.cmwq_types.specs.declared.instr.Instr.{Instr}
use Rattle.cmwq_types.specs.declared.instr.Instr.TheVariants as instr
use Rattle.cmwq_types.specs.declared.scenario.Line.{Line}
use Rattle.cmwq_types.specs.declared.scenario.Op.{Op}
use Rattle.cmwq_types.specs.declared.scenario.Op.TheVariants as op
use Rattle.cmwq_types.specs.declared.scenario.QueueDecl.{QueueDecl}
use Rattle.cmwq_image.specs.Image.{in_order}

-- `queue q max 1`
abbrev pub worked_queue : QueueDecl
worked_queue = record { name = 113 ∷ []; max = 1; flags = plain_flags }

-- `work a q`, `queue a 0`, `finish`
abbrev pub worked_work : WorkContents
worked_work = record { name = 97 ∷ []; queue = record { 0 = 0 }; body = op.Queue (record { 0 = 0 }) 0 ∷ op.Finish ∷ [] }

-- an instruction, this often
abbrev pub this_often : Instr → ℕ → Line
this_often instr n = record { instr = instr; times = n }

-- `actor t`, `queue a 0`, `next * 8`, and this last line
abbrev pub worked_actor : Instr → ActorContents
worked_actor last =
    record { name = 116 ∷ []; lines = this_often (instr.Queue (record { 0 = 0 }) 0) 1 ∷ this_often instr.Next 8 ∷ this_often last 1 ∷ [] }

abbrev pub ending_with : Instr → ScenarioContents
ending_with last =
    record {
      cpus = 1;
      workers = 4;
      steps = 8;
      flushes = 2;
      queues = worked_queue ∷ [];
      works = worked_work ∷ [];
      actors = worked_actor last ∷ [];
    }

-- the last line is `state a`
abbrev pub worked_scenario : ScenarioContents
worked_scenario = ending_with (instr.State (record { 0 = 0 }))

-- the body begins with this operation
abbrev pub beginning_with : Op → ScenarioContents
beginning_with first = record worked_scenario { works = record worked_work { body = first ∷ op.Finish ∷ [] } ∷ [] }

-- the last line is `disable a`
abbrev pub disabling_scenario : ScenarioContents
disabling_scenario = ending_with (instr.Disable (record { 0 = 0 }))

-- `queue q max 1 mem_reclaim`
abbrev pub reclaiming_scenario : ScenarioContents
reclaiming_scenario =
    record worked_scenario { queues = record worked_queue { flags = record plain_flags { mem_reclaim = true } } ∷ [] }

abbrev pub zeros : ℕ → List ℕ
zeros n = replicate n 0

abbrev pub worked_head : List ℕ
worked_head =
    in_order (
    (0x43 ∷ 0x4d ∷ 0x57 ∷ 0x51 ∷ [])
    ∷ (0x00 ∷ 0x04 ∷ [])
    ∷ (0x01 ∷ [])
    ∷ (0x04 ∷ [])
    ∷ (0x00 ∷ 0x00 ∷ 0x00 ∷ 0x08 ∷ [])
    ∷ (0x00 ∷ 0x02 ∷ [])
    ∷ (0x01 ∷ [])
    ∷ (0x00 ∷ 0x01 ∷ [])
    ∷ (0x01 ∷ [])
    ∷ [])

abbrev pub worked_queue_bytes : List ℕ
worked_queue_bytes = in_order ((0x01 ∷ 0x71 ∷ []) ∷ zeros 14 ∷ (0x00 ∷ 0x01 ∷ []) ∷ (0x00 ∷ []) ∷ (0x00 ∷ []) ∷ [])

abbrev pub worked_work_bytes : List ℕ
worked_work_bytes =
    in_order (
    (0x01 ∷ 0x61 ∷ []) ∷ zeros 14
    ∷ (0x00 ∷ [])
    ∷ (0x02 ∷ [])
    ∷ (0x03 ∷ []) ∷ zeros 7
    ∷ (0x04 ∷ []) ∷ zeros 7
    ∷ [])

abbrev pub worked_actor_bytes : List ℕ
worked_actor_bytes =
    in_order (
    (0x01 ∷ 0x74 ∷ []) ∷ zeros 14
    ∷ (0x00 ∷ 0x03 ∷ [])
    ∷ (0x10 ∷ []) ∷ zeros 7 ∷ (0x00 ∷ 0x00 ∷ 0x00 ∷ 0x01 ∷ [])
    ∷ (0x1e ∷ []) ∷ zeros 7 ∷ (0x00 ∷ 0x00 ∷ 0x00 ∷ 0x08 ∷ [])
    ∷ (0x21 ∷ []) ∷ zeros 7 ∷ (0x00 ∷ 0x00 ∷ 0x00 ∷ 0x01 ∷ [])
    ∷ [])

-- 126 bytes, of version 4
abbrev pub worked_image : List ℕ
worked_image = in_order (worked_head ∷ worked_queue_bytes ∷ worked_work_bytes ∷ worked_actor_bytes ∷ [])

-- the same with this number in the place of the version
abbrev pub in_version : ℕ → List ℕ
in_version version = slice_set worked_image 5 version

-- the same with this number in the place of the tag of the body's first operation
abbrev pub with_op_tag : ℕ → List ℕ → List ℕ
with_op_tag tag bytes = slice_set bytes 56 tag
