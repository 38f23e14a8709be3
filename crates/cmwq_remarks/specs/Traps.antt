-- Lines that do less than they seem to: without a count, for a CPU that isn't there, or with too few steps. The sentences are this project's own.
use Rattle.std.specs.Prelude.{ℕ, suc, ◌-◌, Bool, true, false, not, ◌&&◌, ◌||◌, List, [], ◌∷◌, ◌++◌, Option, None, Some, codes, if◌then◌else◌, is_none, nat_lt, ◌==◌}
use Rattle.std.specs.Fmt.{decimal}
use Rattle.std.specs.Str.{bytes_eq}
use Rattle.cmwq_types.specs.Contents.{ActorContents, ScenarioContents}
use Rattle.cmwq_types.specs.First.{count_below}
use Rattle.cmwq_types.specs.Scenario.{expand_lines}
use Rattle.cmwq_types.specs.declared.instr.Instr.{Instr}
use Rattle.cmwq_types.specs.declared.instr.Instr.TheVariants as instr
use Rattle.cmwq_types.specs.declared.scenario.Line.{Line}
use Rattle.cmwq_table.specs.State.{State}
use Rattle.cmwq_table.specs.Table.{after_all, is_met, is_question}
use Rattle.cmwq_grammar.specs.Cutting.{is_empty}

-- `quiet`, `until` and `wait` without `* N`.

abbrev pub count_sentence : (form goal : List ℕ) → List ℕ
count_sentence form goal =
    codes "without a count it makes at most one move; write " ++ (form ++ (codes " * 100 to continue until " ++ goal))

abbrev pub quiet_sentence : List ℕ
quiet_sentence = count_sentence (codes "quiet") (codes "no work item is pending or running")

abbrev pub until_sentence : (time : List ℕ) → List ℕ
until_sentence time = count_sentence (codes "until " ++ time) (codes "tick " ++ time)

abbrev pub wait_sentence : (flush : List ℕ) → List ℕ
wait_sentence flush = count_sentence (codes "wait " ++ flush) (codes "flush " ++ (flush ++ codes " is done"))

-- what is said of a line that has no count: of its word alone, and of its word with one operand
abbrev pub uncounted_alone : (word : List ℕ) → Option (List ℕ)
uncounted_alone word = if bytes_eq word (codes "quiet") then Some quiet_sentence else None

abbrev pub uncounted_with : (word operand : List ℕ) → Option (List ℕ)
uncounted_with word operand =
    if bytes_eq word (codes "until") then Some (until_sentence operand)
    else if bytes_eq word (codes "wait") then Some (wait_sentence operand)
    else None

abbrev pub uncounted : (word : List ℕ) → (operands : List (List ℕ)) → Option (List ℕ)
uncounted word [] = uncounted_alone word
uncounted word (operand ∷ []) = uncounted_with word operand
uncounted word (operand ∷ other ∷ more) = None

-- A CPU that the machine hasn't.

abbrev pub is_cpu : ScenarioContents → List ℕ → Bool
is_cpu S word = nat_lt 0 (count_below (λ cpu. bytes_eq word (decimal cpu)) S.cpus)

-- a line of this word has a CPU behind its work: `queue`, and in actors, where they have one operand more, `delay` and `mod`
abbrev pub wants_cpu : (word : List ℕ) → (more : List (List ℕ)) → Bool
wants_cpu word more = bytes_eq word (codes "queue") || ((bytes_eq word (codes "delay") || bytes_eq word (codes "mod")) && not (is_empty more))

abbrev pub cpu_form : (word : List ℕ) → List ℕ
cpu_form word = word ++ (if bytes_eq word (codes "queue") then codes " WORK CPU" else codes " WORK CPU N")

abbrev pub missing_cpu : (word cpu : List ℕ) → List ℕ
missing_cpu word cpu = cpu ++ (codes ": " ++ cpu_form word)

abbrev pub cpu_counts : (cpus : ℕ) → (word cpu : List ℕ) → List ℕ
cpu_counts cpus word cpu = decimal cpus ++ (codes " and CPUs count from 0, so there is no CPU " ++ missing_cpu word cpu)

abbrev pub cpu_sentence : (cpus : ℕ) → (word cpu : List ℕ) → List ℕ
cpu_sentence cpus word cpu = codes "the run refuses its CPU; cpus is " ++ cpu_counts cpus word cpu

-- Steps: as many instructions are accepted, questions aside.

abbrev pub line_cost : Line → ℕ
line_cost line = if is_question line.instr then 0 else line.times

-- how many steps are left once each of the lines' instructions was accepted
abbrev pub left_by : ℕ → List Line → Option ℕ
left_by left [] = Some left
left_by left (line ∷ lines) = if nat_lt left (line_cost line) then None else left_by (left - line_cost line) lines

abbrev pub left_by_actor : Option ℕ → ActorContents → Option ℕ
left_by_actor None actor = None
left_by_actor (Some left) actor = left_by left actor.lines

abbrev pub left_by_actors : Option ℕ → List ActorContents → Option ℕ
left_by_actors left [] = left
left_by_actors left (actor ∷ actors) = left_by_actors (left_by_actor left actor) actors

abbrev pub has_few_steps : ScenarioContents → Bool
has_few_steps S = is_none (left_by_actors (Some S.steps) S.actors)

abbrev pub steps_sentence : (steps : ℕ) → List ℕ
steps_sentence steps =
    codes "instructions may be refused as Spent; at most " ++ (decimal steps ++ codes " are accepted, and the actors have more")

-- Lines of a run that stop too early.

abbrev pub goes_on_for : Instr → Bool
goes_on_for (instr.Until time) = true
goes_on_for (instr.Wait flush) = true
goes_on_for instr.Quiet = true
goes_on_for other = false

-- the line has no count, and what it goes on for hasn't come by then
abbrev pub is_early : ScenarioContents → State → Line → Bool
is_early S s line = (line.times == 1) && (goes_on_for line.instr && not (is_met S s line.instr))

-- the first such line, by its number, counted on from n, and its instruction
abbrev pub first_early : ScenarioContents → State → (n : ℕ) → List Line → Option (ℕ × Instr)
first_early S s n [] = None
first_early S s n (line ∷ lines) =
    if is_early S (after_all S s (expand_lines (line ∷ []))) line
    then Some (n, line.instr)
    else first_early S (after_all S s (expand_lines (line ∷ []))) (suc n) lines

-- what is said of it: `WORD: SENTENCE`
abbrev pub early_words : Instr → List ℕ
early_words (instr.Until time) = codes "until: " ++ until_sentence (decimal time)
early_words (instr.Wait flush) = codes "wait: " ++ wait_sentence (decimal flush)
early_words instr.Quiet = codes "quiet: " ++ quiet_sentence
early_words other = []
