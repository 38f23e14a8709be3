-- A valid scenario has no more parts than an image can have.
use Rattle.std.proofs.Common.{◌≡◌, ℕ, ◌-◌, ◌≤◌, Bool, true, false, ◌&&◌, List, [], ◌∷◌, ◌++◌, length, Option, Some, None, refl, arith}
use Rattle.std.proofs.lemmas.Bool.{and_parts}
use Rattle.std.proofs.lemmas.Bool.Decides.{nat_tests}
use Rattle.std.proofs.lemmas.List.Elements.{All-from_recursion}
use Rattle.std.specs.List.{AllByRecursion}
use Rattle.std.specs.Prelude.{slice_get, nat_le}
use Rattle.cmwq_types.specs.Contents.{ScenarioContents, WorkContents, ActorContents}
use Rattle.cmwq_types.specs.Faults.{or_else, fault_unless, first_along, work_fault, actor_fault, body_fault, queue_fault, is_body, is_some_finish, counts_fault, numbers_fault, IsValid}
use Rattle.cmwq_types.specs.declared.check.Fault.{Fault}
use Rattle.cmwq_types.specs.declared.scenario.Op.{Op}
use Rattle.cmwq_image.specs.Limits.{HasBodySize, HasLinesSize, HasSize, BodiesFit, LinesFit}

none_of_both : (a b : Option Fault) → or_else a b ≡ None → (a ≡ None) × (b ≡ None)
none_of_both None b h = (refl, h)
none_of_both (Some fault) b h = absurd cc

holds : (b : Bool) (fault : Fault) → fault_unless b fault ≡ None → b ≡ true
holds true fault h = refl
holds false fault h = absurd cc

le_of : (m n : ℕ) → nat_le m n ≡ true → m ≤ n
le_of m n h = grind (arith, nat_tests)

has_finish : (body : List Op) → is_some_finish (slice_get body (length body - 1)) ≡ true → 1 ≤ length body
has_finish [] h = absurd cc
has_finish (op ∷ ops) h = omega arith

body_sized : (S : ScenarioContents) (work : WorkContents) → body_fault S work.body ≡ None → HasBodySize work
body_sized S work h =
    let first = none_of_both (fault_unless (nat_le (length work.body) 64) _) _ h in
    let second = none_of_both (fault_unless (is_body work.body) _) _ first.1 in
    (has_finish work.body (and_parts _ _ (holds (is_body work.body) _ second.0)).0, le_of (length work.body) 64 (holds _ _ first.0))

bodies : (S : ScenarioContents) (before works : List WorkContents) → first_along (work_fault S) before works ≡ None → AllByRecursion HasBodySize works
bodies S before [] h = tt
bodies S before (work ∷ works) h =
    let parts = none_of_both (work_fault S before work) (first_along (work_fault S) (before ++ work ∷ []) works) h in
    let unique = none_of_both _ _ parts.0 in
    let known = none_of_both _ _ unique.1 in
    (body_sized S work known.1, bodies S (before ++ work ∷ []) works parts.1)

lines : (S : ScenarioContents) (before actors : List ActorContents) → first_along (actor_fault S) before actors ≡ None → AllByRecursion HasLinesSize actors
lines S before [] h = tt
lines S before (actor ∷ actors) h =
    let parts = none_of_both (actor_fault S before actor) (first_along (actor_fault S) (before ++ actor ∷ []) actors) h in
    let unique = none_of_both _ _ parts.0 in
    let few = none_of_both _ _ unique.1 in
    (le_of (length actor.lines) 4096 (holds _ _ few.0), lines S (before ++ actor ∷ []) actors parts.1)

pub sized : (S : ScenarioContents) → IsValid S → HasSize S
sized S h =
    let numbers = none_of_both (numbers_fault S) _ h in
    let counts = none_of_both (counts_fault S) _ numbers.1 in
    let queues = none_of_both (first_along queue_fault [] S.queues) _ counts.1 in
    let works = none_of_both (first_along (work_fault S) [] S.works) (first_along (actor_fault S) [] S.actors) queues.1 in
    let few = holds (nat_le (length S.queues) 32 && nat_le (length S.works) 256 && nat_le (length S.actors) 16) _ counts.0 in
    let two = and_parts (nat_le (length S.queues) 32 && nat_le (length S.works) 256) (nat_le (length S.actors) 16) few in
    let one = and_parts (nat_le (length S.queues) 32) (nat_le (length S.works) 256) two.0 in
    record {
      queues = le_of _ _ one.0;
      works = le_of _ _ one.1;
      actors = le_of _ _ two.1;
      bodies = bodies S [] S.works works.0;
      lines = lines S [] S.actors works.1;
    }

at_most : (works : List WorkContents) → AllByRecursion HasBodySize works → AllByRecursion (λ work. length work.body ≤ 64) works
at_most [] h = tt
at_most (work ∷ works) h = (h.0.1, at_most works h.1)

pub bodies_fit : (S : ScenarioContents) → IsValid S → BodiesFit S.works
bodies_fit S h = All-from_recursion (λ work. length work.body ≤ 64) S.works (at_most S.works (sized S h).bodies)

pub lines_fit : (S : ScenarioContents) → IsValid S → LinesFit S.actors
lines_fit S h = All-from_recursion (λ actor. length actor.lines ≤ 4096) S.actors (sized S h).lines
