-- The parts in which a trace is written make the trace.
use Rattle.std.proofs.Common.{◌≡◌, ℕ, zero, suc, ◌+◌, ◌<◌, Bool, true, false, cond, List, [], ◌∷◌, ◌++◌, codes, length, map, None, Some, Option, Result, Ok, Err, OnOk, refl, sym, ap, ◌∙◌, arith, append_assoc, append-nil}
use Rattle.std.proofs.lemmas.Grind.{flat_map-append}
use Rattle.std.proofs.lemmas.List.{map-append}
use Rattle.std.proofs.lemmas.Bool.{ltb-true}
use Rattle.std.specs.Fmt.{decimal}
use Rattle.std.specs.List.{flat_map}
use Rattle.std.specs.Prelude.{nat_lt, not, option_to_list}
use Rattle.cmwq_types.specs.Contents.{ScenarioContents}
use Rattle.cmwq_types.specs.Scenario.{work_at}
use Rattle.cmwq_types.specs.declared.instr.Instr.{Instr}
use Rattle.cmwq_types.specs.declared.reply.Reply.{Reply}
use Rattle.cmwq_table.specs.Events.{work_name}
use Rattle.cmwq_table.specs.State.{State, start}
use Rattle.cmwq_table.specs.Table.{after_all, table}
use Rattle.cmwq_picture.specs.Picture.{below}
use Rattle.cmwq_picture.proofs.ListLemmas.{below-more}
use Rattle.cmwq_slices.specs.Executions.{execution_ended, executions_after, executions_to}
use Rattle.cmwq_slices.specs.Slices.{phases_after, phases_ended, slices_to}
use Rattle.cmwq_slices.specs.declared.doing.Half.TheVariants as half
use Rattle.cmwq_slices.specs.declared.executions.Execution.{Execution}
use Rattle.cmwq_slices.specs.declared.phases.PhaseSlice.{PhaseSlice}
use Rattle.cmwq_streams.specs.declared.error.PlayError.{PlayError}
use Rattle.cmwq_events.specs.KernelTasks.{task_name}
use Rattle.cmwq_play.specs.Telling.{kept_from, told_from}
use Rattle.cmwq_play.specs.Framing.{framed_text}
use Rattle.cmwq_trace.specs.Json.{all_execution_lines, comma_lines, cpu_process, executed_by, execution_line, execution_lines, instr_lines, is_named, json_text, lines_from, named_by, named_then, naming_line, phase_line, phase_word, run_after, run_begun, slice_line, thread_of, work_names, work_thread}
use Rattle.cmwq_trace.specs.JsonParts.{all_marked, cpus_behind, ended_text, execution_part, json_closing, json_opening, json_told, keeps_json, marked, marked_behind, naming_front, phase_behind, process_front, slice_front, steady_after, task_part, thread_front, work_behind, works_behind}
use Rattle.cmwq_trace.specs.declared.json_run.JsonRun.{JsonRun}
use Rattle.cmwq_trace.specs.declared.json_line.MarkedExecution.{MarkedExecution}
use Rattle.cmwq_trace.specs.declared.json_threads.JsonThread.{JsonThread}
use Rattle.cmwq_trace.specs.declared.json_trace.JsonTeller.{JsonTeller}

-- lines behind another one
abbrev pub behind : List (List ℕ) → List ℕ
behind lines = flat_map (λ line. 44 ∷ 10 ∷ line) lines

behind-append : (xs ys : List (List ℕ)) → behind (xs ++ ys) ≡ behind xs ++ behind ys
behind-append xs ys = flat_map-append (λ line. 44 ∷ 10 ∷ line) xs ys

-- lines with commas: the first one, then each other behind a comma and a line feed, and the last line feed
comma-behind : (line : List ℕ) (more : List (List ℕ)) → comma_lines (line ∷ more) ≡ line ++ (behind more ++ 10 ∷ [])
comma-behind line [] = refl
comma-behind line (other ∷ more) =
    ap (λ (rest : List ℕ). line ++ (44 ∷ 10 ∷ rest)) (comma-behind other more)
    ∙ ap (λ (rest : List ℕ). line ++ (44 ∷ 10 ∷ rest)) (sym (append_assoc other (behind more) (10 ∷ [])))

-- Lines in two parts.

naming-parts : (kind : List ℕ) (process thread : ℕ) (name : List ℕ) → naming_line kind process thread name ≡ naming_front kind process thread ++ (name ++ codes "\"}}")
unfolding naming_line naming_front
naming-parts kind process thread name = append_assoc (naming_front kind process thread) name (codes "\"}}")

slice-parts : (process thread since until : ℕ) (name : List ℕ) → slice_line process thread since until name ≡ slice_front process thread since until ++ (name ++ codes "\"}")
unfolding slice_line slice_front
slice-parts process thread since until name = append_assoc (slice_front process thread since until) name (codes "\"}")

-- Phases.

phases-behind : (slices : List PhaseSlice) → behind (map phase_line slices) ≡ flat_map phase_behind slices
phases-behind [] = refl
phases-behind (slice ∷ slices) =
    ap (λ (line : List ℕ). (codes ",\n" ++ line) ++ behind (map phase_line slices)) (slice-parts 1 (work_thread slice.work.0 slice.half) slice.since slice.until (phase_word slice.sign))
    ∙ ap (λ (more : List ℕ). phase_behind slice ++ more) (phases-behind slices)

-- Executions.

module _ (S : ScenarioContents) where
  one-behind : (named : List JsonThread) (execution : Execution) → behind (execution_lines S named execution) ≡ marked_behind S (marked S named execution)
  one-behind named execution = chosen (is_named named (thread_of S (executed_by S execution))) where
    name : List ℕ
    name = naming_line (codes "thread_name") (thread_of S (executed_by S execution)).process (thread_of S (executed_by S execution)).id (task_name S (executed_by S execution))

    name-parts : name ≡ task_part S (executed_by S execution)
    name-parts = naming-parts (codes "thread_name") (thread_of S (executed_by S execution)).process (thread_of S (executed_by S execution)).id (task_name S (executed_by S execution))

    line-parts : (44 ∷ 10 ∷ execution_line S execution) ++ [] ≡ codes ",\n" ++ execution_part S execution
    line-parts =
        append-nil (44 ∷ 10 ∷ execution_line S execution)
        ∙ ap (λ (line : List ℕ). codes ",\n" ++ line)
        (slice-parts (thread_of S (executed_by S execution)).process (thread_of S (executed_by S execution)).id execution.since execution.until (work_name S execution.work))

    chosen : (b : Bool) → behind (cond b [] (name ∷ []) ++ execution_line S execution ∷ []) ≡ cond (not b) (codes ",\n" ++ task_part S (executed_by S execution)) [] ++ (codes ",\n" ++ execution_part S execution)
    chosen true = line-parts
    chosen false = ap (λ (line : List ℕ). (codes ",\n" ++ name) ++ line) line-parts ∙ ap (λ (first : List ℕ). (codes ",\n" ++ first) ++ (codes ",\n" ++ execution_part S execution)) name-parts

  executions-behind : (named : List JsonThread) (executions : List Execution) → behind (all_execution_lines S named executions) ≡ flat_map (marked_behind S) (all_marked S named executions)
  executions-behind named [] = refl
  executions-behind named (execution ∷ executions) =
      behind-append (execution_lines S named execution) (all_execution_lines S (named_then S named execution) executions)
      ∙ ap (λ (first : List ℕ). first ++ behind (all_execution_lines S (named_then S named execution) executions)) (one-behind named execution)
      ∙ ap (λ (more : List ℕ). marked_behind S (marked S named execution) ++ more) (executions-behind (named_then S named execution) executions)

  ended-behind : (named : List JsonThread) (executions : List Execution) (slices : List PhaseSlice)
      → behind (all_execution_lines S named executions ++ map phase_line slices) ≡ ended_text S (all_marked S named executions) slices
  ended-behind named executions slices =
      behind-append (all_execution_lines S named executions) (map phase_line slices)
      ∙ ap (λ (first : List ℕ). first ++ behind (map phase_line slices)) (executions-behind named executions)
      ∙ ap (λ (more : List ℕ). flat_map (marked_behind S) (all_marked S named executions) ++ more) (phases-behind slices)

  -- Along a run.

  told : JsonTeller → ScenarioContents → State → Instr → List ℕ
  told teller S s instr = json_told S teller.run s (table S s instr)

  keeps : JsonTeller → ScenarioContents → State → Instr → JsonTeller
  keeps teller S s instr = keeps_json teller S s (table S s instr)

  lines-told : (teller : JsonTeller) (s : State) (instrs : List Instr)
      → behind (lines_from S teller.run s instrs) ++ codes "\n]}\n"
      ≡ told_from (λ teller S s instr. json_told S teller.run s (table S s instr)) (λ teller S s instr. keeps_json teller S s (table S s instr)) teller S s instrs
      ++ json_closing S (kept_from (λ teller S s instr. json_told S teller.run s (table S s instr)) (λ teller S s instr. keeps_json teller S s (table S s instr)) teller S s instrs).run (after_all S s instrs).time
  lines-told teller s [] = ap (λ (text : List ℕ). text ++ codes "\n]}\n") (ended-behind teller.run.named (executions_to s.time 0 teller.run.executions) (slices_to s.time 0 teller.run.phases))
  lines-told teller s (i ∷ is) =
      let after = table S s i in
      let next = keeps_json teller S s after in
      let first = json_told S teller.run s after in
      let more = lines_from S next.run after.0 is in
      ap (λ (text : List ℕ). text ++ codes "\n]}\n") (behind-append (instr_lines S teller.run s after) more)
      ∙ ap (λ (text : List ℕ). (text ++ behind more) ++ codes "\n]}\n") (ended-behind teller.run.named (option_to_list (execution_ended after.0 after.1 teller.run.executions)) (phases_ended S s after.0.time teller.run.phases))
      ∙ append_assoc first (behind more) (codes "\n]}\n")
      ∙ ap (λ (text : List ℕ). first ++ text) (lines-told next after.0 is)
      ∙ sym (append_assoc first _ _)

-- The names.

cpus-named : (n : ℕ) → behind (map (λ cpu. naming_line (codes "process_name") (cpu_process cpu) 0 (codes "CPU " ++ decimal cpu)) (below n)) ≡ cpus_behind n
cpus-named zero = refl
cpus-named (suc n) =
    let line = λ (cpu : ℕ). naming_line (codes "process_name") (cpu_process cpu) 0 (codes "CPU " ++ decimal cpu) in
    let next : suc n ≡ n + 1 = omega arith in
    ap (λ (m : ℕ). behind (map line (below m))) next
    ∙ ap (λ (ns : List ℕ). behind (map line ns)) (below-more n)
    ∙ ap behind (map-append line (below n) (n ∷ []))
    ∙ behind-append (map line (below n)) (line n ∷ [])
    ∙ ap (λ (front : List ℕ). front ++ ((44 ∷ 10 ∷ line n) ++ [])) (cpus-named n)
    ∙ ap (λ (last : List ℕ). cpus_behind n ++ last) (append-nil (44 ∷ 10 ∷ line n))
    ∙ ap (λ (last : List ℕ). cpus_behind n ++ (codes ",\n" ++ last)) (naming-parts (codes "process_name") (cpu_process n) 0 (codes "CPU " ++ decimal n))
    ∙ ap (λ (last : List ℕ). cpus_behind n ++ (codes ",\n" ++ (process_front (cpu_process n) ++ last))) (append_assoc (codes "CPU ") (decimal n) (codes "\"}}"))

work-named : (S : ScenarioContents) (w : ℕ) → behind (work_names S w) ≡ work_behind (work_at S w).name w
work-named S w =
    let name = (work_at S w).name in
    let running = naming_line (codes "thread_name") 1 (work_thread w half.Running) name in
    let pending = naming_line (codes "thread_name") 1 (work_thread w half.Pending) (name ++ codes " pending") in
    ap (λ (last : List ℕ). (44 ∷ 10 ∷ running) ++ last) (append-nil (44 ∷ 10 ∷ pending))
    ∙ ap (λ (first : List ℕ). (codes ",\n" ++ first) ++ (44 ∷ 10 ∷ pending)) (naming-parts (codes "thread_name") 1 (work_thread w half.Running) name)
    ∙ append_assoc (codes ",\n") (thread_front w half.Running ++ (name ++ codes "\"}}")) (44 ∷ 10 ∷ pending)
    ∙ ap (λ (text : List ℕ). codes ",\n" ++ text) (append_assoc (thread_front w half.Running) (name ++ codes "\"}}") (44 ∷ 10 ∷ pending))
    ∙ ap (λ (text : List ℕ). codes ",\n" ++ (thread_front w half.Running ++ text)) (append_assoc name (codes "\"}}") (44 ∷ 10 ∷ pending))
    ∙ ap (λ (last : List ℕ). codes ",\n" ++ (thread_front w half.Running ++ (name ++ (codes "\"}},\n" ++ last)))) (naming-parts (codes "thread_name") 1 (work_thread w half.Pending) (name ++ codes " pending"))
    ∙ ap (λ (last : List ℕ). codes ",\n" ++ (thread_front w half.Running ++ (name ++ (codes "\"}},\n" ++ (thread_front w half.Pending ++ last))))) (append_assoc name (codes " pending") (codes "\"}}"))

works-named : (S : ScenarioContents) (n : ℕ) → behind (flat_map (work_names S) (below n)) ≡ works_behind S n
works-named S zero = refl
works-named S (suc n) =
    let next : suc n ≡ n + 1 = omega arith in
    ap (λ (m : ℕ). behind (flat_map (work_names S) (below m))) next
    ∙ ap (λ (ns : List ℕ). behind (flat_map (work_names S) ns)) (below-more n)
    ∙ ap behind (flat_map-append (work_names S) (below n) (n ∷ []))
    ∙ behind-append (flat_map (work_names S) (below n)) (work_names S n ++ [])
    ∙ ap (λ (front : List ℕ). front ++ behind (work_names S n ++ [])) (works-named S n)
    ∙ ap (λ (lines : List (List ℕ)). works_behind S n ++ behind lines) (append-nil (work_names S n))
    ∙ ap (λ (last : List ℕ). works_behind S n ++ last) (work-named S n)

abbrev first_line : List ℕ
first_line = naming_line (codes "process_name") 1 0 (codes "works")

abbrev unbound_line : ScenarioContents → List ℕ
unbound_line S = naming_line (codes "process_name") (cpu_process S.cpus) 0 (codes "unbound")

-- the names behind the first one
abbrev more_names : ScenarioContents → List (List ℕ)
more_names S =
    map (λ cpu. naming_line (codes "process_name") (cpu_process cpu) 0 (codes "CPU " ++ decimal cpu)) (below S.cpus)
    ++ (unbound_line S ∷ flat_map (work_names S) (below (length S.works)))

more-named : (S : ScenarioContents) → behind (more_names S) ≡ cpus_behind S.cpus ++ (codes ",\n" ++ (process_front (cpu_process S.cpus) ++ (codes "unbound\"}}" ++ works_behind S (length S.works))))
more-named S =
    let works = flat_map (work_names S) (below (length S.works)) in
    behind-append (map (λ cpu. naming_line (codes "process_name") (cpu_process cpu) 0 (codes "CPU " ++ decimal cpu)) (below S.cpus)) (unbound_line S ∷ works)
    ∙ ap (λ (front : List ℕ). front ++ ((44 ∷ 10 ∷ unbound_line S) ++ behind works)) (cpus-named S.cpus)
    ∙ ap (λ (last : List ℕ). cpus_behind S.cpus ++ ((44 ∷ 10 ∷ unbound_line S) ++ last)) (works-named S (length S.works))
    ∙ ap (λ (line : List ℕ). cpus_behind S.cpus ++ ((codes ",\n" ++ line) ++ works_behind S (length S.works))) (naming-parts (codes "process_name") (cpu_process S.cpus) 0 (codes "unbound"))
    ∙ ap (λ (text : List ℕ). cpus_behind S.cpus ++ text) (append_assoc (codes ",\n") (process_front (cpu_process S.cpus) ++ codes "unbound\"}}") (works_behind S (length S.works)))
    ∙ ap (λ (text : List ℕ). cpus_behind S.cpus ++ (codes ",\n" ++ text)) (append_assoc (process_front (cpu_process S.cpus)) (codes "unbound\"}}") (works_behind S (length S.works)))

abbrev bracket : List ℕ
bracket = codes "{\"displayTimeUnit\":\"ms\",\"traceEvents\":[\n"

opening-parts : (S : ScenarioContents) → bracket ++ (first_line ++ behind (more_names S)) ≡ json_opening S
opening-parts S =
    ap (λ (line : List ℕ). bracket ++ (line ++ behind (more_names S))) (naming-parts (codes "process_name") 1 0 (codes "works"))
    ∙ ap (λ (text : List ℕ). bracket ++ text) (append_assoc (process_front 1) (codes "works\"}}") (behind (more_names S)))
    ∙ ap (λ (more : List ℕ). bracket ++ (process_front 1 ++ (codes "works\"}}" ++ more))) (more-named S)

-- The whole.

module _ (S : ScenarioContents) (teller : JsonTeller) (begun : teller.run ≡ run_begun S) where
  abbrev lines : List Instr → List (List ℕ)
  lines instrs = lines_from S (run_begun S) (start S) instrs

  json-parts : (instrs : List Instr) → json_text S instrs ≡ json_opening S ++ (behind (lines instrs) ++ codes "\n]}\n")
  json-parts instrs =
      let all = more_names S ++ lines instrs in
      ap (λ (text : List ℕ). (bracket ++ text) ++ codes "]}\n") (comma-behind first_line all)
      ∙ append_assoc bracket (first_line ++ (behind all ++ 10 ∷ [])) (codes "]}\n")
      ∙ ap (λ (text : List ℕ). bracket ++ text) (append_assoc first_line (behind all ++ 10 ∷ []) (codes "]}\n"))
      ∙ ap (λ (text : List ℕ). bracket ++ (first_line ++ text)) (append_assoc (behind all) (10 ∷ []) (codes "]}\n"))
      ∙ ap (λ (text : List ℕ). bracket ++ (first_line ++ (text ++ codes "\n]}\n"))) (behind-append (more_names S) (lines instrs))
      ∙ ap (λ (text : List ℕ). bracket ++ (first_line ++ text)) (append_assoc (behind (more_names S)) (behind (lines instrs)) (codes "\n]}\n"))
      ∙ ap (λ (text : List ℕ). bracket ++ text) (sym (append_assoc first_line (behind (more_names S)) (behind (lines instrs) ++ codes "\n]}\n")))
      ∙ sym (append_assoc bracket (first_line ++ behind (more_names S)) (behind (lines instrs) ++ codes "\n]}\n"))
      ∙ ap (λ (text : List ℕ). text ++ (behind (lines instrs) ++ codes "\n]}\n")) (opening-parts S)

  -- what the teller tells of a run is the trace
  pub framed-json : (instrs : List Instr)
      → framed_text (λ teller S s instr. json_told S teller.run s (table S s instr)) (λ teller S s instr. keeps_json teller S s (table S s instr)) (λ teller S. json_opening S) (λ teller S s. json_closing S teller.run s.time) teller S (start S) instrs
      ≡ json_text S instrs
  framed-json instrs =
      ap (λ (text : List ℕ). json_opening S ++ text) (sym (lines-told S teller (start S) instrs))
      ∙ ap (λ (run : JsonRun). json_opening S ++ (behind (lines_from S run (start S) instrs) ++ codes "\n]}\n")) begun
      ∙ sym (json-parts instrs)

-- One instruction, and the end, as they are written.

pub one-told : (S L : ScenarioContents) (run : JsonRun) (s t : State) (x : Instr) (reply : Reply) (executions : List MarkedExecution) (slices : List PhaseSlice) → L ≡ S → (t, reply) ≡ table L s x
    → executions ≡ all_marked L run.named (option_to_list (execution_ended t reply run.executions)) → slices ≡ phases_ended L s t.time run.phases
    → ended_text S executions slices ≡ json_told S run s (table S s x)
one-told S L run s t x reply executions slices loaded exact are ended =
    ap (λ (es : List MarkedExecution). ended_text S es slices) are
    ∙ ap (λ (ss : List PhaseSlice). ended_text S (all_marked L run.named (option_to_list (execution_ended t reply run.executions))) ss) ended
    ∙ ap (λ (T : ScenarioContents). ended_text S (all_marked T run.named (option_to_list (execution_ended t reply run.executions))) (phases_ended T s t.time run.phases)) loaded
    ∙ ap (λ (after : State × Reply). json_told S run s after) (exact ∙ ap (λ (T : ScenarioContents). table T s x) loaded)

pub end-told : (S : ScenarioContents) (run : JsonRun) (time now : ℕ) (executions : List MarkedExecution) (slices : List PhaseSlice) → time ≡ now
    → executions ≡ all_marked S run.named (executions_to time 0 run.executions) → slices ≡ slices_to time 0 run.phases
    → ended_text S executions slices ++ codes "\n]}\n" ≡ json_closing S run now
end-told S run time now executions slices at are ended = rw (are, ended, at) refl

pub one-kept : (teller : JsonTeller) (S L : ScenarioContents) (s t : State) (x : Instr) (reply : Reply) (run : JsonRun) (steady : Option ℕ) (time : ℕ) → L ≡ S → (t, reply) ≡ table L s x → time ≡ s.time
    → run.phases ≡ phases_after L s t.time teller.run.phases → run.executions ≡ executions_after t reply teller.run.executions
    → run.named ≡ named_by L teller.run.named (option_to_list (execution_ended t reply teller.run.executions)) → steady ≡ steady_after L time t.time
    → ◌≡◌ {A = JsonTeller} (record teller { run = run; steady = steady }) (keeps_json teller S s (table S s x))
one-kept teller S L s t x reply run steady time loaded exact at phases executions named is =
    let whole : run ≡ run_after L teller.run s (t, reply) = λ i. record { phases = phases i; executions = executions i; named = named i } in
    ap (λ (r : JsonRun). record teller { run = r; steady = steady }) whole
    ∙ ap (λ (n : Option ℕ). record teller { run = run_after L teller.run s (t, reply); steady = n }) (is ∙ ap (λ (n : ℕ). steady_after L n t.time) at)
    ∙ ap (λ (T : ScenarioContents). keeps_json teller T s (t, reply)) loaded
    ∙ ap (λ (after : State × Reply). keeps_json teller S s after) (exact ∙ ap (λ (T : ScenarioContents). table T s x) loaded)

-- phases are steady where a tick has passed, on as many CPUs
pub steady-told : (L S : ScenarioContents) (before now : ℕ) → steady_after L before now ≡ Some S.cpus → (before < now) × (L.cpus ≡ S.cpus)
steady-told L S before now is = chosen (nat_lt before now) refl is where
  chosen : (b : Bool) → nat_lt before now ≡ b → cond b (Some L.cpus) None ≡ Some S.cpus → (before < now) × (L.cpus ≡ S.cpus)
  chosen true e some = (ltb-true before now e, (let same : L.cpus ≡ S.cpus = cc in same))
  chosen false e none = absurd (let wrong : ⊥ = cc in wrong)

-- what is so where the writing went well
pub on-ok : (r : Result (Unit {0}) PlayError) (P : Type 0) → P → OnOk r P
on-ok (Ok done) P is = is
on-ok (Err error) P is = tt
