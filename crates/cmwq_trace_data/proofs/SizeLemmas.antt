-- How long what stands before the pages is, and the pages.
use Rattle.std.proofs.Common.{◌≡◌, ℕ, zero, suc, ◌+◌, ◌*◌, ◌/◌, ◌%◌, ◌≤◌, ◌&&◌, Bool, false, cond, Option, Some, None, List, [], ◌∷◌, ◌++◌, codes, length, get_or, nat_eq, refl, arith}
use Rattle.std.proofs.lemmas.Bool.{and_parts, cond_both, leb-true}
use Rattle.std.proofs.lemmas.List.{length-append}
use Rattle.std.specs.Fmt.{decimal, digit_glyph, digits, digits_onto}
use Rattle.std.specs.List.{AllByRecursion, list_all}
use Rattle.std.specs.Prelude.{IsTrue, nat_le, slice_index}
use Rattle.cmwq_types.specs.Contents.{ActorContents, ScenarioContents, WorkContents}
use Rattle.cmwq_types.specs.Name.{is_lowercase, is_name, is_name_byte}
use Rattle.cmwq_types.specs.Scenario.{is_high, is_unbound, plain_flags, work_at}
use Rattle.cmwq_types.specs.Values.{IsActor, IsQueueDecl, IsScenario, IsWorkDecl}
use Rattle.cmwq_types.specs.declared.scenario.QueueDecl.{QueueDecl}
use Rattle.cmwq_events.specs.KernelTasks.{first_name, pool_mark, priority_mark, task_name}
use Rattle.cmwq_events.specs.declared.kernel_event.KernelEvent.{KernelEvent}
use Rattle.cmwq_events.specs.declared.kernel_task.KernelTask.{KernelTask}
use Rattle.cmwq_events.specs.declared.kernel_task.KernelTask.TheVariants as task
use Rattle.cmwq_trace_data.specs.Entries.{function_address}
use Rattle.cmwq_trace_data.specs.Reading.{HasShortNames}
use Rattle.cmwq_trace_data.specs.TraceData.{function_line, function_lines, task_line, task_lines, task_with}

-- Names.

-- what all elements have, and the one that stands for none
all-at : {X : Type 0} (P Q : X → Type 0) → ((x : X) → P x → Q x) → (xs : List X) → AllByRecursion P xs → (d : X) → Q d → (i : ℕ) → Q (get_or xs i d)
all-at P Q each [] all d none i = none
all-at P Q each (x ∷ xs) all d none zero = each x all.0
all-at P Q each (x ∷ xs) all d none (suc i) = all-at P Q each xs all.1 d none i

name_short : (name : List ℕ) → IsTrue (is_name name) → length name ≤ 15
name_short name is =
    let one = and_parts (nat_le 1 (length name) && nat_le (length name) 15 && is_lowercase (slice_index name 0)) (list_all is_name_byte name) is in
    let two = and_parts (nat_le 1 (length name) && nat_le (length name) 15) (is_lowercase (slice_index name 0)) one.0 in
    let three = and_parts (nat_le 1 (length name)) (nat_le (length name) 15) two.0 in
    leb-true (length name) 15 three.1

pub queues_short : (S : ScenarioContents) → IsScenario S → HasShortNames S
queues_short S is queue =
    all-at IsQueueDecl (λ (q : QueueDecl). length q.name ≤ 15) (λ q has. name_short q.name has.name) S.queues is.queues
    (record { name = []; max = 0; flags = plain_flags }) (omega arith) queue

works_short : (S : ScenarioContents) → IsScenario S → (w : ℕ) → length (work_at S w).name ≤ 15
works_short S is w =
    all-at IsWorkDecl (λ (work : WorkContents). length work.name ≤ 15) (λ work has. name_short work.name has.name) S.works is.works
    (record { name = []; queue = record { 0 = 0 }; body = [] }) (omega arith) w

actor_short : (actors : List ActorContents) → AllByRecursion IsActor actors → length (first_name actors) ≤ 15
actor_short [] are = omega arith
actor_short (actor ∷ more) are = name_short actor.name are.0.name

-- Lines.

digits_onto_few : (k base : ℕ) (upper : Bool) (n : ℕ) (acc : List ℕ) → length (digits_onto k base upper n acc) ≤ k + length acc
digits_onto_few zero base upper n acc = omega arith
digits_onto_few (suc k) base upper n acc =
    let more = digit_glyph upper (n % base) ∷ acc in
    cond_both (nat_eq (n / base) 0) more (digits_onto k base upper (n / base) more) (λ (l : List ℕ). length l ≤ suc k + length acc) (λ is. omega arith)
    (λ isnt. omega (arith, digits_onto_few k base upper (n / base) more))

digits_few : (base n : ℕ) → length (digits base false n) ≤ 64
unfolding digits
digits_few base n = omega (arith, digits_onto_few 64 base false n [])

function_line_few : (address : ℕ) (name : List ℕ) → length name ≤ 15 → length (function_line address name) ≤ 100
function_line_few address name short =
    let blank : length (codes " t ") ≡ 3 = refl in
    let feed : length (codes "\n") ≡ 1 = refl in
    omega (
      arith,
      short,
      blank,
      feed,
      digits_few 16 address,
      length-append (digits 16 false address) (codes " t " ++ (name ++ codes "\n")),
      length-append (codes " t ") (name ++ codes "\n"),
      length-append name (codes "\n"),
    )

pub functions_few : (S : ScenarioContents) → IsScenario S → (n : ℕ) → length (function_lines S n) ≤ 100 * n
functions_few S is zero = omega arith
functions_few S is (suc w) =
    let line = function_line (function_address w) (work_at S w).name in
    omega (arith, functions_few S is w, function_line_few (function_address w) (work_at S w).name (works_short S is w), length-append (function_lines S w) line)

mark_few : (S : ScenarioContents) (pool : ℕ) → length (pool_mark S pool) ≤ 65
mark_few S pool =
    let letter : length (codes "u") ≡ 1 = refl in
    cond_both (is_unbound S pool) (codes "u" ++ decimal pool) (decimal (pool / 2)) (λ (l : List ℕ). length l ≤ 65)
    (λ is. omega (arith, letter, digits_few 10 pool, length-append (codes "u") (decimal pool))) (λ isnt. omega (arith, digits_few 10 (pool / 2)))

priority_few : (S : ScenarioContents) (pool : ℕ) → length (priority_mark S pool) ≤ 1
priority_few S pool =
    let letter : length (codes "H") ≡ 1 = refl in
    cond_both (is_unbound S pool) [] (cond (is_high pool) (codes "H") []) (λ (l : List ℕ). length l ≤ 1) (λ is. omega arith)
    (λ isnt. cond_both (is_high pool) (codes "H") [] (λ (l : List ℕ). length l ≤ 1) (λ is. omega (arith, letter)) (λ isnt. omega arith))

name_few : (S : ScenarioContents) (t : KernelTask) → IsScenario S → length (task_name S t) ≤ 200
name_few S (task.Worker pool worker) is =
    let front : length (codes "kworker/") ≡ 8 = refl in
    let colon : length (codes ":") ≡ 1 = refl in
    let a = codes "kworker/" in
    let b = pool_mark S pool in
    let c = codes ":" in
    let d = decimal worker in
    omega (
      arith,
      front,
      colon,
      mark_few S pool,
      priority_few S pool,
      digits_few 10 worker,
      length-append (a ++ b ++ c ++ d) (priority_mark S pool),
      length-append (a ++ b ++ c) d,
      length-append (a ++ b) c,
      length-append a b,
    )
name_few S (task.Rescuer queue pool) is = omega (arith, queues_short S is queue.0)
name_few S task.Actor is = omega (arith, actor_short S.actors is.actors)
name_few S (task.Idle cpu) is =
    let size : length (codes "<idle>") ≡ 6 = refl in
    omega (arith, size)

line_few : (S : ScenarioContents) (pid : ℕ) (found : Option KernelTask) → IsScenario S → length (task_line S pid found) ≤ 300
line_few S zero found is = omega arith
line_few S (suc pid) None is = omega arith
line_few S (suc pid) (Some t) is =
    let blank : length (codes " ") ≡ 1 = refl in
    let feed : length (codes "\n") ≡ 1 = refl in
    omega (
      arith,
      blank,
      feed,
      name_few S t is,
      digits_few 10 (suc pid),
      length-append (decimal (suc pid)) (codes " " ++ (task_name S t ++ codes "\n")),
      length-append (codes " ") (task_name S t ++ codes "\n"),
      length-append (task_name S t) (codes "\n"),
    )

pub tasks_few : (S : ScenarioContents) (events : List KernelEvent) → IsScenario S → (n : ℕ) → length (task_lines S events n) ≤ 300 * n
unfolding task_lines
tasks_few S events is zero = omega arith
tasks_few S events is (suc pid) =
    let line = task_line S pid (task_with pid events) in
    omega (arith, tasks_few S events is pid, line_few S pid (task_with pid events) is, length-append (task_lines S events pid) line)
