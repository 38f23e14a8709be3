-- Worked examples: lines of a text and of an actor, replies, and a scenario with a work that queues itself beside a CPU-intensive queue.
use Rattle.std.specs.Prelude.{ℕ, List, [], ◌∷◌, codes, true}
use Rattle.cmwq_types.specs.Contents.{ScenarioContents}
use Rattle.cmwq_types.specs.Scenario.{plain_flags}
use Rattle.cmwq_types.specs.declared.instr.Instr.TheVariants as instr
use Rattle.cmwq_types.specs.declared.reply.Refusal.TheVariants as refusal
use Rattle.cmwq_types.specs.declared.reply.Reply.{Reply}
use Rattle.cmwq_types.specs.declared.reply.Reply.TheVariants as reply
use Rattle.cmwq_types.specs.declared.scenario.Flags.{Flags}
use Rattle.cmwq_types.specs.declared.scenario.Line.{Line}
use Rattle.cmwq_types.specs.declared.scenario.Op.{Op}
use Rattle.cmwq_types.specs.declared.scenario.Op.TheVariants as op
use Rattle.cmwq_tasks.specs.declared.task.Task.{Task}
use Rattle.cmwq_remarks.specs.Remarks.{remarks_of}
use Rattle.cmwq_examples.specs.Declare.{enqueue, queue, queues, times, work}

-- a comment, a line with words, a blank one, and one with words and a comment
abbrev pub four_lines : List ℕ
four_lines = codes "# a\ncpus 1\n\nworkers 2 # b\n"

-- `next * 3`, `busy` and `tick`
abbrev pub three_lines : List Line
three_lines = record { instr = instr.Next; times = 3 } ∷ record { instr = instr.Busy; times = 1 } ∷ record { instr = instr.Tick; times = 1 } ∷ []

abbrev pub refused_twice : List Reply
refused_twice = reply.Done ∷ reply.Refused refusal.Spent ∷ reply.Yes ∷ reply.Refused refusal.NotFrozen ∷ []

-- work a of a plain queue queues itself; work b is of a CPU-intensive one, and queues a
abbrev pub beside : ScenarioContents
beside =
    record {
      cpus = 1;
      workers = 1;
      steps = 9;
      flushes = 1;
      queues = queue (codes "q") 1 plain_flags ∷ queue (codes "c") 1 (record plain_flags { cpu_intensive = true }) ∷ [];
      works = work (codes "a") 0 (queues 0 ∷ op.Finish ∷ []) ∷ work (codes "b") 1 (queues 0 ∷ op.Finish ∷ []) ∷ [];
      actors = [];
    }

-- work a with this operation in its body
abbrev pub body_with : Op → ScenarioContents
body_with first = record beside { works = work (codes "a") 0 (first ∷ op.Finish ∷ []) ∷ work (codes "b") 1 (op.Finish ∷ []) ∷ [] }

abbrev pub declared_and_cancelled : List ℕ
declared_and_cancelled = codes "queue q max 1\nqueue c max 1 cpu_intensive\nqueue c 0\ncancel_sync a * 2\ncancel_sync b\ncancel a\n"

-- The actor queues a, twice thaws without a freeze, and stops: its lines are the last two of a text of five.

abbrev pub queued_and_thawed : List Line
queued_and_thawed = enqueue 0 0 ∷ times instr.Thaw 2 ∷ []

abbrev pub five_lines : List ℕ
five_lines = codes "cpus 1\n\n# two\nqueue a 0\nthaw * 2\n"

-- what is told behind the task, where this is all that the one actor does
abbrev pub remarks_behind : Task → List Line → List ℕ
remarks_behind task lines = remarks_of task five_lines beside (record { name = codes "t"; lines = lines } ∷ [])

abbrev pub two_refused : List ℕ
two_refused = codes "2 instructions were refused, the first in line 5\n"

abbrev pub one_pending : List ℕ
one_pending = codes "1 work item is pending; --settle continues until the machine is quiet\n"

-- Queues that are CPU-intensive, and nothing is noted of: of a queue without works, of one whose work has the CPUs' pools for itself, and of such whose
-- works go to no CPU's pool.

abbrev pub intensive_queue : Flags → ScenarioContents
intensive_queue flags =
    record beside { queues = queue (codes "q") 1 plain_flags ∷ queue (codes "c") 1 (record flags { cpu_intensive = true }) ∷ [] }

abbrev pub intensive_without_works : ScenarioContents
intensive_without_works = record beside { works = work (codes "a") 0 (op.Finish ∷ []) ∷ work (codes "b") 0 (op.Finish ∷ []) ∷ [] }

abbrev pub intensive_alone : ScenarioContents
intensive_alone = record beside { works = work (codes "b") 1 (op.Finish ∷ []) ∷ [] }

-- What is told of works that are left, of a line that ended too early, and of spent steps.

abbrev pub one_left : List ℕ
one_left = codes "1 work item is pending or running at the end; --settle continues until none is\n"

abbrev pub two_left : List ℕ
two_left = codes "2 work items are pending or running at the end; --settle continues until none is\n"

abbrev pub quiet_in_line_5 : List ℕ
quiet_in_line_5 = codes "line 5: quiet: without a count it makes at most one move; write quiet * 100 to continue until no work item is pending or running\n"

abbrev pub two_spent : List ℕ
two_spent = codes "2 instructions were refused as Spent; steps is 1, and a greater number lets the run continue\n"

abbrev pub one_step : ScenarioContents
one_step = record beside { steps = 1 }

-- an actor of these lines
abbrev pub with_actor : List Line → ScenarioContents
with_actor lines = record beside { actors = record { name = codes "t"; lines = lines } ∷ [] }

-- Lines that do less than they seem to, and others that are like them.
abbrev pub trapping : List ℕ
trapping = codes "steps 9\nqueue q max 1\nqueue a 1\ndelay a 5\ndelay a 5 0\nquiet\nquiet * 3\nuntil 5\nwait 0\n"
