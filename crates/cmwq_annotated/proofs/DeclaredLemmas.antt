-- What actors give names works and queues of their scenario.
use Rattle.std.proofs.Common.{◌≡◌, ◌≤◌, ℕ, zero, suc, Bool, true, ◌&&◌, List, [], ◌∷◌, ◌++◌, arith, replicate, take, leb, length, None}
use Rattle.std.proofs.lemmas.Bool.{and_parts}
use Rattle.std.proofs.lemmas.Bool.Decides.{nat_tests}
use Rattle.std.specs.List.{AllByRecursion, list_any}
use Rattle.std.specs.Str.{bytes_eq}
use Rattle.cmwq_types.specs.Contents.{ActorContents, ScenarioContents}
use Rattle.cmwq_types.specs.Faults.{IsValid, actor_fault, counts_fault, fault_if, fault_unless, first_along, line_fault, names_declared, numbers_fault, or_else, queue_fault, within, work_fault}
use Rattle.cmwq_types.specs.Scenario.{expand, expand_lines}
use Rattle.cmwq_types.specs.declared.check.Fault.TheVariants as fault
use Rattle.cmwq_types.specs.declared.instr.Instr.{Instr}
use Rattle.cmwq_types.specs.declared.limits.TheConstants.{MAX_ACTORS, MAX_LINES, MAX_QUEUES, MAX_TIMES, MAX_WORKS}
use Rattle.cmwq_types.specs.declared.scenario.Line.{Line}
use Rattle.cmwq_annotated.proofs.ActedLemmas.{no_first, no_unless}

pub all_append : {A : Type 0} (P : A → Type 0) (xs ys : List A) → AllByRecursion P xs → AllByRecursion P ys → AllByRecursion P (xs ++ ys)
all_append P [] ys a b = b
all_append P (x ∷ xs) ys a b = (a.0, all_append P xs ys a.1 b)

all_replicate : {A : Type 0} (P : A → Type 0) (n : ℕ) (x : A) → P x → AllByRecursion P (replicate n x)
all_replicate P zero x p = tt
all_replicate P (suc n) x p = (p, all_replicate P n x p)

pub all_take : {A : Type 0} (P : A → Type 0) (n : ℕ) (xs : List A) → AllByRecursion P xs → AllByRecursion P (take n xs)
all_take P zero xs all = tt
all_take P (suc n) [] all = tt
all_take P (suc n) (x ∷ xs) all = (all.0, all_take P n xs all.1)

module _ (S : ScenarioContents) where
  -- the instruction names works and queues of the scenario
  abbrev pub Declared : Instr → Type 0
  Declared i = names_declared S i ≡ true

  lines_declared : (before lines : List Line) → first_along (λ before line. line_fault S line) before lines ≡ None → AllByRecursion Declared (expand_lines lines)
  lines_declared before [] none = tt
  lines_declared before (line ∷ lines) none =
      let both = no_first (line_fault S line) (first_along (λ before line. line_fault S line) (before ++ line ∷ []) lines) none in
      let judged = no_first (fault_unless (names_declared S line.instr) fault.Unknown) (fault_unless (within 1 MAX_TIMES line.times) fault.Range) both.0 in
      all_append Declared (replicate line.times line.instr) (expand_lines lines)
      (all_replicate Declared line.times line.instr (no_unless (names_declared S line.instr) fault.Unknown judged.0)) (lines_declared (before ++ line ∷ []) lines both.1)

  actors_declared : (before actors : List ActorContents) → first_along (actor_fault S) before actors ≡ None
      → AllByRecursion (λ (actor : ActorContents). AllByRecursion Declared (expand actor)) actors
  actors_declared before [] none = tt
  actors_declared before (a ∷ actors) none =
      let both = no_first (actor_fault S before a) (first_along (actor_fault S) (before ++ a ∷ []) actors) none in
      let lines = first_along (λ before line. line_fault S line) [] a.lines in
      let b = no_first (fault_if (list_any (λ other. bytes_eq other.name a.name) before) fault.Duplicate) (or_else (fault_unless (leb (length a.lines) MAX_LINES) fault.TooMany) lines) both.0 in
      let c = no_first (fault_unless (leb (length a.lines) MAX_LINES) fault.TooMany) lines b.1 in
      (lines_declared [] a.lines c.1, actors_declared (before ++ a ∷ []) actors both.1)

  valid_actors : IsValid S → first_along (actor_fault S) [] S.actors ≡ None
  valid_actors valid =
      let actors = first_along (actor_fault S) [] S.actors in
      let works = first_along (work_fault S) [] S.works in
      let queues = first_along queue_fault [] S.queues in
      let a = no_first (numbers_fault S) (or_else (counts_fault S) (or_else queues (or_else works actors))) valid in
      let b = no_first (counts_fault S) (or_else queues (or_else works actors)) a.1 in
      let c = no_first queues (or_else works actors) b.1 in
      (no_first works actors c.1).1

  -- of a valid scenario, each actor's instructions do
  pub valid_declared : IsValid S → AllByRecursion (λ (actor : ActorContents). AllByRecursion Declared (expand actor)) S.actors
  valid_declared valid = actors_declared [] S.actors (valid_actors valid)

  -- and it has few actors
  pub few_actors : IsValid S → length S.actors ≤ MAX_ACTORS
  few_actors valid =
      let rest = or_else (first_along queue_fault [] S.queues) (or_else (first_along (work_fault S) [] S.works) (first_along (actor_fault S) [] S.actors)) in
      let a = no_first (numbers_fault S) (or_else (counts_fault S) rest) valid in
      let b = no_first (counts_fault S) rest a.1 in
      let sizes = no_unless (leb (length S.queues) MAX_QUEUES && leb (length S.works) MAX_WORKS && leb (length S.actors) MAX_ACTORS) fault.TooMany b.0 in
      let few : leb (length S.actors) MAX_ACTORS ≡ true = (and_parts (leb (length S.queues) MAX_QUEUES && leb (length S.works) MAX_WORKS) (leb (length S.actors) MAX_ACTORS) sizes).1 in
      grind (arith, nat_tests)
