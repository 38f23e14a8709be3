-- A valid scenario has few actors.
use Rattle.std.proofs.Common.{◌≡◌, ℕ, ◌≤◌, Bool, true, false, ◌&&◌, [], Option, Some, None, length, leb, refl, arith}
use Rattle.std.proofs.lemmas.Bool.Decides.{nat_tests}
use Rattle.cmwq_types.specs.Contents.{ScenarioContents}
use Rattle.cmwq_types.specs.Faults.{IsValid, actor_fault, counts_fault, fault_unless, first_along, numbers_fault, or_else, queue_fault, work_fault}
use Rattle.cmwq_types.specs.declared.check.Fault.{Fault}
use Rattle.cmwq_types.specs.declared.check.Fault.TheVariants.{TooMany}
use Rattle.cmwq_types.specs.declared.limits.TheConstants.{MAX_ACTORS, MAX_QUEUES, MAX_WORKS}

none_before : (a b : Option Fault) → or_else a b ≡ None → a ≡ None
none_before (Some f) b e = cc
none_before None b e = refl

none_behind : (a b : Option Fault) → or_else a b ≡ None → b ≡ None
none_behind (Some f) b e = cc
none_behind None b e = e

no_fault : (test : Bool) (f : Fault) → fault_unless test f ≡ None → test ≡ true
no_fault true f e = refl
no_fault false f e = cc

last_of_both : (a b : Bool) → (a && b) ≡ true → b ≡ true
last_of_both true b e = e
last_of_both false b e = cc

at_most : (n limit : ℕ) → leb n limit ≡ true → n ≤ limit
at_most n limit e = grind (arith, nat_tests)

pub few_actors : (S : ScenarioContents) → IsValid S → length S.actors ≤ MAX_ACTORS
few_actors S valid =
    let actors = first_along (actor_fault S) [] S.actors in
    let works = or_else (first_along (work_fault S) [] S.works) actors in
    let queues = or_else (first_along queue_fault [] S.queues) works in
    let counts : counts_fault S ≡ None =
    none_before (counts_fault S) queues (none_behind (numbers_fault S) (or_else (counts_fault S) queues) valid)
    in
    let others = leb (length S.queues) MAX_QUEUES && leb (length S.works) MAX_WORKS in
    let few : leb (length S.actors) MAX_ACTORS ≡ true =
    last_of_both others (leb (length S.actors) MAX_ACTORS) (no_fault (others && leb (length S.actors) MAX_ACTORS) TooMany counts)
    in
    at_most (length S.actors) MAX_ACTORS few
