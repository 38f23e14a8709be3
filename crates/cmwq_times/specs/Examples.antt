-- Worked examples: small scenarios, and where the time of their instances went.
use Rattle.std.specs.Prelude.{ℕ, false, true, List, [], ◌∷◌, codes}
use Rattle.std.specs.List.{flat_map}
use Rattle.cmwq_types.specs.Contents.{ScenarioContents}
use Rattle.cmwq_types.specs.Listing.{text_of_lines}
use Rattle.cmwq_types.specs.Scenario.{expand, plain_flags}
use Rattle.cmwq_types.specs.declared.instr.Instr.TheVariants as instr
use Rattle.cmwq_types.specs.declared.scenario.Op.TheVariants as op
use Rattle.cmwq_examples.specs.Declare.{queue, work, freezable, highpri, unbound, mem_reclaim, queues, enqueue, delay, cancel, disable, flush, flush_queue, times, scenario}
use Rattle.cmwq_times.specs.TimesText.{times_text}
use Rattle.cmwq_reports.specs.declared.report.Format.{Format}
use Rattle.cmwq_reports.specs.declared.report.Times.{Times}

-- what is told of the scenario's actors, one after another; here each scenario has one
abbrev pub times_of : Times → ScenarioContents → List ℕ
times_of asked S = flat_map (λ actor. times_text asked S (expand actor)) S.actors

-- without for whom works waited, and with that
abbrev pub plain : Format → Times
plain format = record { format = format; whom = false }

abbrev pub with_whom : Format → Times
with_whom format = record { format = format; whom = true }

-- q lets one of a and b in at a time, and u on a queue of high priority takes the CPU for a tick
abbrev pub one_at_a_time : ScenarioContents
one_at_a_time =
    record (scenario 100 (queue (codes "q") 1 plain_flags ∷ queue (codes "h") 1 highpri ∷ [])
    (work (codes "a") 0 (op.Burn 2 ∷ op.Sleep 2 ∷ op.Finish ∷ []) ∷ work (codes "b") 0 (op.Burn 1 ∷ op.Finish ∷ [])
    ∷ work (codes "u") 1 (op.Burn 1 ∷ op.Finish ∷ []) ∷ [])
    (enqueue 0 0 ∷ enqueue 1 0 ∷ flush_queue 0 ∷ times instr.Next 3 ∷ enqueue 2 0 ∷ times instr.Next 17 ∷ [])) { workers = 2; flushes = 1 }

abbrev pub one_at_a_time_told : List ℕ
one_at_a_time_told =
    text_of_lines (
    codes "2 u finished since 1 timer 0 inactive 0 listed 0 deferred 0 ready 0 burned 1 slept 0" ∷
    codes "5 a finished since 0 timer 0 inactive 0 listed 0 deferred 0 ready 1 burned 2 slept 2" ∷
    codes "6 b finished since 0 timer 0 inactive 5 listed 0 deferred 0 ready 0 burned 1 slept 0" ∷
    codes "queue q started 2 finished 2 cancelled 0 rescued 0 burned 3 active 0 most 1 longest 5" ∷
    codes "queue h started 1 finished 1 cancelled 0 rescued 0 burned 1 active 0 most 1 longest 0" ∷
    codes "cpu 0 burned 4 idle 5" ∷ codes "pool 2 burned 0" ∷ codes "pool 3 burned 0" ∷ codes "now 9 spent 24" ∷ [])

-- With one worker, a queues itself and sleeps, and b waits beside it; a is cancelled, delayed, and disabled at last.
abbrev pub asked_again : ScenarioContents
asked_again =
    record (scenario 100 (queue (codes "q") 2 plain_flags ∷ [])
    (work (codes "a") 0 (queues 0 ∷ op.Sleep 2 ∷ op.Finish ∷ []) ∷ work (codes "b") 0 (op.Burn 1 ∷ op.Finish ∷ []) ∷ [])
    (enqueue 0 0 ∷ times instr.Next 2 ∷ enqueue 1 0 ∷ flush 0 ∷ times instr.Next 7 ∷ cancel 0 ∷ delay 0 2 ∷ times instr.Next 9
    ∷ disable 0 ∷ [])) { workers = 1; flushes = 1 }

abbrev pub asked_again_told : List ℕ
asked_again_told =
    text_of_lines (
    codes "2 a finished since 0 timer 0 inactive 0 listed 0 deferred 0 ready 0 burned 0 slept 2" ∷
    codes "2 a cancelled since 2 timer 0 inactive 0 listed 0 deferred 0 ready 0 burned 0 slept 0" ∷
    codes "4 a finished since 0 timer 0 inactive 0 listed 0 deferred 2 ready 0 burned 0 slept 2" ∷
    codes "5 a cancelled since 2 timer 2 inactive 0 listed 1 deferred 0 ready 0 burned 0 slept 0" ∷
    codes "5 b still running since 0 timer 0 inactive 2 listed 2 deferred 0 ready 0 burned 1 slept 0" ∷
    codes "queue q started 3 finished 2 cancelled 2 rescued 0 burned 1 active 1 most 2 longest 4" ∷
    codes "cpu 0 burned 1 idle 4" ∷ codes "pool 2 burned 0" ∷ codes "pool 3 burned 0" ∷ codes "now 5 spent 24" ∷ [])

-- the same as JSON
abbrev pub one_at_a_time_json : List ℕ
one_at_a_time_json =
    text_of_lines (
    codes "{\"now\":2,\"work\":\"u\",\"end\":\"finished\",\"since\":1,\"timer\":0,\"inactive\":0,\"listed\":0,\"deferred\":0,\"ready\":0,\"burned\":1,\"slept\":0}" ∷
    codes "{\"now\":5,\"work\":\"a\",\"end\":\"finished\",\"since\":0,\"timer\":0,\"inactive\":0,\"listed\":0,\"deferred\":0,\"ready\":1,\"burned\":2,\"slept\":2}" ∷
    codes "{\"now\":6,\"work\":\"b\",\"end\":\"finished\",\"since\":0,\"timer\":0,\"inactive\":5,\"listed\":0,\"deferred\":0,\"ready\":0,\"burned\":1,\"slept\":0}" ∷
    codes "{\"queue\":\"q\",\"started\":2,\"finished\":2,\"cancelled\":0,\"rescued\":0,\"burned\":3,\"active\":0,\"most\":1,\"longest\":5}" ∷
    codes "{\"queue\":\"h\",\"started\":1,\"finished\":1,\"cancelled\":0,\"rescued\":0,\"burned\":1,\"active\":0,\"most\":1,\"longest\":0}" ∷
    codes "{\"cpu\":0,\"burned\":4,\"idle\":5}" ∷ codes "{\"pool\":2,\"burned\":0}" ∷ codes "{\"pool\":3,\"burned\":0}" ∷
    codes "{\"now\":9,\"spent\":24}" ∷ [])

-- A run that stops with works in each place: a sleeps, and its next instance is deferred; b has no room in q, c has no worker, and d's
-- timer runs.
abbrev pub everywhere : ScenarioContents
everywhere =
    record (scenario 100 (queue (codes "q") 2 plain_flags ∷ queue (codes "r") 1 plain_flags ∷ [])
    (work (codes "a") 0 (op.Sleep 5 ∷ op.Finish ∷ []) ∷ work (codes "b") 0 (op.Finish ∷ []) ∷ work (codes "c") 1 (op.Finish ∷ [])
    ∷ work (codes "d") 0 (op.Finish ∷ []) ∷ [])
    (delay 3 7 ∷ enqueue 0 0 ∷ times instr.Next 2 ∷ enqueue 0 0 ∷ times instr.Next 1 ∷ enqueue 1 0 ∷ enqueue 2 0 ∷ times instr.Next 1
    ∷ [])) { workers = 1 }

abbrev pub everywhere_told : List ℕ
everywhere_told =
    text_of_lines (
    codes "1 a still running since 0 timer 0 inactive 0 listed 0 deferred 0 ready 0 burned 0 slept 1" ∷
    codes "1 a still deferred since 0 timer 0 inactive 0 listed 0 deferred 1 ready 0 burned 0 slept 0" ∷
    codes "1 b still inactive since 0 timer 0 inactive 1 listed 0 deferred 0 ready 0 burned 0 slept 0" ∷
    codes "1 c still listed since 0 timer 0 inactive 0 listed 1 deferred 0 ready 0 burned 0 slept 0" ∷
    codes "1 d still timer since 0 timer 1 inactive 0 listed 0 deferred 0 ready 0 burned 0 slept 0" ∷
    codes "queue q started 1 finished 0 cancelled 0 rescued 0 burned 0 active 2 most 2 longest 1" ∷
    codes "queue r started 0 finished 0 cancelled 0 rescued 0 burned 0 active 1 most 1 longest 1" ∷
    codes "cpu 0 burned 0 idle 1" ∷ codes "pool 2 burned 0" ∷ codes "pool 3 burned 0" ∷ codes "now 1 spent 9" ∷ [])

abbrev pub everywhere_json : List ℕ
everywhere_json =
    text_of_lines (
    codes "{\"now\":1,\"work\":\"a\",\"end\":\"still\",\"state\":\"running\",\"since\":0,\"timer\":0,\"inactive\":0,\"listed\":0,\"deferred\":0,\"ready\":0,\"burned\":0,\"slept\":1}" ∷
    codes "{\"now\":1,\"work\":\"a\",\"end\":\"still\",\"state\":\"deferred\",\"since\":0,\"timer\":0,\"inactive\":0,\"listed\":0,\"deferred\":1,\"ready\":0,\"burned\":0,\"slept\":0}" ∷
    codes "{\"now\":1,\"work\":\"b\",\"end\":\"still\",\"state\":\"inactive\",\"since\":0,\"timer\":0,\"inactive\":1,\"listed\":0,\"deferred\":0,\"ready\":0,\"burned\":0,\"slept\":0}" ∷
    codes "{\"now\":1,\"work\":\"c\",\"end\":\"still\",\"state\":\"listed\",\"since\":0,\"timer\":0,\"inactive\":0,\"listed\":1,\"deferred\":0,\"ready\":0,\"burned\":0,\"slept\":0}" ∷
    codes "{\"now\":1,\"work\":\"d\",\"end\":\"still\",\"state\":\"timer\",\"since\":0,\"timer\":1,\"inactive\":0,\"listed\":0,\"deferred\":0,\"ready\":0,\"burned\":0,\"slept\":0}" ∷
    codes "{\"queue\":\"q\",\"started\":1,\"finished\":0,\"cancelled\":0,\"rescued\":0,\"burned\":0,\"active\":2,\"most\":2,\"longest\":1}" ∷
    codes "{\"queue\":\"r\",\"started\":0,\"finished\":0,\"cancelled\":0,\"rescued\":0,\"burned\":0,\"active\":1,\"most\":1,\"longest\":1}" ∷
    codes "{\"cpu\":0,\"burned\":0,\"idle\":1}" ∷ codes "{\"pool\":2,\"burned\":0}" ∷ codes "{\"pool\":3,\"burned\":0}" ∷
    codes "{\"now\":1,\"spent\":9}" ∷ [])

-- Two CPUs: e starts on its queue's rescuer while memory is short; then a and b burn on a CPU each, and c and d side by side in the
-- unbound pool.
abbrev pub side_by_side : ScenarioContents
side_by_side =
    record (scenario 100 (queue (codes "q") 2 plain_flags ∷ queue (codes "n") 2 unbound ∷ queue (codes "m") 1 mem_reclaim ∷ [])
    (work (codes "a") 0 (op.Burn 2 ∷ op.Finish ∷ []) ∷ work (codes "b") 0 (op.Burn 1 ∷ op.Finish ∷ [])
    ∷ work (codes "c") 1 (op.Burn 2 ∷ op.Finish ∷ []) ∷ work (codes "d") 1 (op.Burn 1 ∷ op.Finish ∷ [])
    ∷ work (codes "e") 2 (op.Burn 1 ∷ op.Finish ∷ []) ∷ [])
    (times instr.Pressure 1 ∷ enqueue 4 0 ∷ times instr.Next 4 ∷ times instr.Relief 1 ∷ enqueue 0 0 ∷ enqueue 1 1 ∷ enqueue 2 0
    ∷ enqueue 3 0 ∷ times instr.Next 14 ∷ [])) { cpus = 2; workers = 2 }

abbrev pub side_by_side_told : List ℕ
side_by_side_told =
    text_of_lines (
    codes "1 e finished since 0 timer 0 inactive 0 listed 0 deferred 0 ready 0 burned 1 slept 0" ∷
    codes "2 b finished since 1 timer 0 inactive 0 listed 0 deferred 0 ready 0 burned 1 slept 0" ∷
    codes "2 d finished since 1 timer 0 inactive 0 listed 0 deferred 0 ready 0 burned 1 slept 0" ∷
    codes "3 a finished since 1 timer 0 inactive 0 listed 0 deferred 0 ready 0 burned 2 slept 0" ∷
    codes "3 c finished since 1 timer 0 inactive 0 listed 0 deferred 0 ready 0 burned 2 slept 0" ∷
    codes "queue q started 2 finished 2 cancelled 0 rescued 0 burned 3 active 0 most 1 longest 0" ∷
    codes "queue n started 2 finished 2 cancelled 0 rescued 0 burned 3 active 0 most 2 longest 0" ∷
    codes "queue m started 1 finished 1 cancelled 0 rescued 1 burned 1 active 0 most 1 longest 0" ∷
    codes "cpu 0 burned 3 idle 0" ∷ codes "cpu 1 burned 1 idle 2" ∷ codes "pool 4 burned 3" ∷ codes "pool 5 burned 0" ∷
    codes "now 3 spent 25" ∷ [])

-- q lets b in once a is out, and u has the CPU for a tick
abbrev pub one_at_a_time_whom : List ℕ
one_at_a_time_whom =
    text_of_lines (
    codes "2 u finished since 1 timer 0 inactive 0 listed 0 deferred 0 ready 0 burned 1 slept 0" ∷
    codes "5 a finished since 0 timer 0 inactive 0 listed 0 deferred 0 ready 1 burned 2 slept 2" ∷
    codes "6 b finished since 0 timer 0 inactive 5 listed 0 deferred 0 ready 0 burned 1 slept 0" ∷
    codes "a waited 1 for u" ∷
    codes "b waited 5 for a" ∷
    codes "queue q started 2 finished 2 cancelled 0 rescued 0 burned 3 active 0 most 1 longest 5" ∷
    codes "queue h started 1 finished 1 cancelled 0 rescued 0 burned 1 active 0 most 1 longest 0" ∷
    codes "cpu 0 burned 4 idle 5" ∷ codes "pool 2 burned 0" ∷ codes "pool 3 burned 0" ∷ codes "now 9 spent 24" ∷ [])

abbrev pub one_at_a_time_whom_json : List ℕ
one_at_a_time_whom_json =
    text_of_lines (
    codes "{\"now\":2,\"work\":\"u\",\"end\":\"finished\",\"since\":1,\"timer\":0,\"inactive\":0,\"listed\":0,\"deferred\":0,\"ready\":0,\"burned\":1,\"slept\":0}" ∷
    codes "{\"now\":5,\"work\":\"a\",\"end\":\"finished\",\"since\":0,\"timer\":0,\"inactive\":0,\"listed\":0,\"deferred\":0,\"ready\":1,\"burned\":2,\"slept\":2}" ∷
    codes "{\"now\":6,\"work\":\"b\",\"end\":\"finished\",\"since\":0,\"timer\":0,\"inactive\":5,\"listed\":0,\"deferred\":0,\"ready\":0,\"burned\":1,\"slept\":0}" ∷
    codes "{\"work\":\"a\",\"waited\":1,\"for\":\"u\"}" ∷
    codes "{\"work\":\"b\",\"waited\":5,\"for\":\"a\"}" ∷
    codes "{\"queue\":\"q\",\"started\":2,\"finished\":2,\"cancelled\":0,\"rescued\":0,\"burned\":3,\"active\":0,\"most\":1,\"longest\":5}" ∷
    codes "{\"queue\":\"h\",\"started\":1,\"finished\":1,\"cancelled\":0,\"rescued\":0,\"burned\":1,\"active\":0,\"most\":1,\"longest\":0}" ∷
    codes "{\"cpu\":0,\"burned\":4,\"idle\":5}" ∷ codes "{\"pool\":2,\"burned\":0}" ∷ codes "{\"pool\":3,\"burned\":0}" ∷
    codes "{\"now\":9,\"spent\":24}" ∷ [])

abbrev pub everywhere_whom : List ℕ
everywhere_whom =
    text_of_lines (
    codes "1 a still running since 0 timer 0 inactive 0 listed 0 deferred 0 ready 0 burned 0 slept 1" ∷
    codes "1 a still deferred since 0 timer 0 inactive 0 listed 0 deferred 1 ready 0 burned 0 slept 0" ∷
    codes "1 b still inactive since 0 timer 0 inactive 1 listed 0 deferred 0 ready 0 burned 0 slept 0" ∷
    codes "1 c still listed since 0 timer 0 inactive 0 listed 1 deferred 0 ready 0 burned 0 slept 0" ∷
    codes "1 d still timer since 0 timer 1 inactive 0 listed 0 deferred 0 ready 0 burned 0 slept 0" ∷
    codes "a waited 1 for a" ∷
    codes "b waited 1 for a" ∷
    codes "c waited 1 for a" ∷
    codes "queue q started 1 finished 0 cancelled 0 rescued 0 burned 0 active 2 most 2 longest 1" ∷
    codes "queue r started 0 finished 0 cancelled 0 rescued 0 burned 0 active 1 most 1 longest 1" ∷
    codes "cpu 0 burned 0 idle 1" ∷ codes "pool 2 burned 0" ∷ codes "pool 3 burned 0" ∷ codes "now 1 spent 9" ∷ [])

-- a and b take up q until b finishes, so c waits for both of them; d is inactive, for there is a freeze.
abbrev pub for_two : ScenarioContents
for_two =
    record (scenario 100 (queue (codes "q") 2 plain_flags ∷ queue (codes "f") 1 freezable ∷ [])
    (work (codes "a") 0 (op.Sleep 2 ∷ op.Finish ∷ []) ∷ work (codes "b") 0 (op.Sleep 1 ∷ op.Finish ∷ []) ∷ work (codes "c") 0 (op.Finish ∷ [])
    ∷ work (codes "d") 1 (op.Finish ∷ []) ∷ [])
    (times instr.Freeze 1 ∷ enqueue 0 0 ∷ enqueue 1 0 ∷ enqueue 2 0 ∷ enqueue 3 0 ∷ times instr.Next 12 ∷ [])) { workers = 2 }

abbrev pub for_two_whom : List ℕ
for_two_whom =
    text_of_lines (
    codes "1 b finished since 0 timer 0 inactive 0 listed 0 deferred 0 ready 0 burned 0 slept 1" ∷
    codes "1 c finished since 0 timer 0 inactive 1 listed 0 deferred 0 ready 0 burned 0 slept 0" ∷
    codes "2 a finished since 0 timer 0 inactive 0 listed 0 deferred 0 ready 0 burned 0 slept 2" ∷
    codes "2 d still inactive since 0 timer 0 inactive 2 listed 0 deferred 0 ready 0 burned 0 slept 0" ∷
    codes "c waited 1 for a" ∷
    codes "c waited 1 for b" ∷
    codes "d waited 2 for -" ∷
    codes "queue q started 3 finished 3 cancelled 0 rescued 0 burned 0 active 0 most 2 longest 1" ∷
    codes "queue f started 0 finished 0 cancelled 0 rescued 0 burned 0 active 0 most 0 longest 2" ∷
    codes "cpu 0 burned 0 idle 2" ∷ codes "pool 2 burned 0" ∷ codes "pool 3 burned 0" ∷ codes "now 2 spent 17" ∷ [])

abbrev pub for_two_whom_json : List ℕ
for_two_whom_json =
    text_of_lines (
    codes "{\"now\":1,\"work\":\"b\",\"end\":\"finished\",\"since\":0,\"timer\":0,\"inactive\":0,\"listed\":0,\"deferred\":0,\"ready\":0,\"burned\":0,\"slept\":1}" ∷
    codes "{\"now\":1,\"work\":\"c\",\"end\":\"finished\",\"since\":0,\"timer\":0,\"inactive\":1,\"listed\":0,\"deferred\":0,\"ready\":0,\"burned\":0,\"slept\":0}" ∷
    codes "{\"now\":2,\"work\":\"a\",\"end\":\"finished\",\"since\":0,\"timer\":0,\"inactive\":0,\"listed\":0,\"deferred\":0,\"ready\":0,\"burned\":0,\"slept\":2}" ∷
    codes "{\"now\":2,\"work\":\"d\",\"end\":\"still\",\"state\":\"inactive\",\"since\":0,\"timer\":0,\"inactive\":2,\"listed\":0,\"deferred\":0,\"ready\":0,\"burned\":0,\"slept\":0}" ∷
    codes "{\"work\":\"c\",\"waited\":1,\"for\":\"a\"}" ∷ codes "{\"work\":\"c\",\"waited\":1,\"for\":\"b\"}" ∷
    codes "{\"work\":\"d\",\"waited\":2,\"for\":null}" ∷
    codes "{\"queue\":\"q\",\"started\":3,\"finished\":3,\"cancelled\":0,\"rescued\":0,\"burned\":0,\"active\":0,\"most\":2,\"longest\":1}" ∷
    codes "{\"queue\":\"f\",\"started\":0,\"finished\":0,\"cancelled\":0,\"rescued\":0,\"burned\":0,\"active\":0,\"most\":0,\"longest\":2}" ∷
    codes "{\"cpu\":0,\"burned\":0,\"idle\":2}" ∷ codes "{\"pool\":2,\"burned\":0}" ∷ codes "{\"pool\":3,\"burned\":0}" ∷
    codes "{\"now\":2,\"spent\":17}" ∷ [])
