-- Each queue's max_active is above 0 in every state, since only set_max changes it; so only a freeze leaves no room for any work.
use Rattle.std.proofs.Common.{◌≡◌, ℕ, zero, suc, ◌<◌, ◌≤◌, Bool, true, false, cond, ◌&&◌, List, [], ◌∷◌, ◌++◌, length, map, Option, Some, None, arith, refl, subst, sym}
use Rattle.std.proofs.lemmas.Bool.{and_parts, leb-true}
use Rattle.std.specs.Prelude.{if◌then◌else◌, nat_le, nat_lt, slice_index_or, slice_set, ◌==◌}
use Rattle.std.specs.List.{list_any}
use Rattle.std.specs.Str.{bytes_eq}
use Rattle.cmwq_types.specs.Contents.{ScenarioContents}
use Rattle.cmwq_types.specs.Faults.{IsValid, actor_fault, counts_fault, fault_if, fault_unless, first_along, fits_flags, numbers_fault, queue_fault, within, work_fault}
use Rattle.cmwq_types.specs.Faults.{or_else as fault_of_two}
use Rattle.cmwq_types.specs.Scenario.{flags_at, queue_of}
use Rattle.cmwq_types.specs.declared.check.Fault.{Fault}
use Rattle.cmwq_types.specs.declared.check.Fault.TheVariants.{BadFlags, Duplicate}
use Rattle.cmwq_types.specs.declared.instr.Instr.{Instr}
use Rattle.cmwq_types.specs.declared.limits.TheConstants.{MAX_MAX_ACTIVE}
use Rattle.cmwq_types.specs.declared.reply.Refusal.{Refusal}
use Rattle.cmwq_types.specs.declared.reply.Refusal.TheVariants.{BadCount, NoSuchQueue}
use Rattle.cmwq_types.specs.declared.scenario.QueueDecl.{QueueDecl}
use Rattle.cmwq_types.proofs.SettingLemmas.{IsSetting-valid}
use Rattle.cmwq_table.specs.State.{State, max_at, start}
use Rattle.cmwq_table.specs.Counts.{or_else}
use Rattle.cmwq_table.specs.Laws.{InEveryState}
use Rattle.cmwq_table.specs.Changes.{Does, Sets}
use Rattle.cmwq_table.proofs.Doings.{table-does}
use Rattle.cmwq_types.specs.declared.reply.Reply.{Reply}
use Rattle.cmwq_table.specs.Table.{after_all, effect, operands, refuse_unless, run, table}
use Rattle.cmwq_reasons.specs.Laws.{FrozenByFreeze, TellsFrozen}
use Rattle.cmwq_reasons.proofs.PendingRows.{tells_frozen}
use Rattle.cmwq_reasons.proofs.RestLemmas.{Settings, effect-settings}

-- It is above 0.

abbrev AllSome : ScenarioContents → List ℕ → Type 0
AllSome S max = (q : ℕ) → q < length S.queues → 0 < slice_index_or max q 0

set-some : (xs : List ℕ) (i x q : ℕ) → 0 < slice_index_or xs q 0 → 0 < x → 0 < slice_index_or (slice_set xs i x) q 0
set-some [] i x q each here = each
set-some (y ∷ ys) zero x zero each here = here
set-some (y ∷ ys) zero x (suc q) each here = each
set-some (y ∷ ys) (suc i) x zero each here = each
set-some (y ∷ ys) (suc i) x (suc q) each here = set-some ys i x q each here

holds-if : (b : Bool) (why : Refusal) → refuse_unless b why ≡ None → b ≡ true
holds-if true why e = refl
holds-if false why e = cc

second : (a b : Option Refusal) → or_else a b ≡ None → b ≡ None
second (Some why) b e = cc
second None b e = e

within-some : (max : ℕ) → within 1 MAX_MAX_ACTIVE max ≡ true → 0 < max
within-some max e =
    let above : 1 ≤ max = leb-true 1 max (and_parts (nat_le 1 max) (nat_le max MAX_MAX_ACTIVE) e).0 in
    omega (arith, above)

sets-some : (S : ScenarioContents) (s b : State) (i : Instr) → Sets s i b → operands S s i ≡ None → AllSome S s.max → AllSome S b.max
sets-some S s b i (Sets.limits q max) fits all = λ queue there.
    set-some s.max q.0 max queue (all queue there)
    (within-some max (holds-if (within 1 MAX_MAX_ACTIVE max) BadCount (second (refuse_unless (nat_lt q.0 (length S.queues)) NoSuchQueue) (refuse_unless (within 1 MAX_MAX_ACTIVE max) BadCount) fits)))
sets-some S s b i set fits all = all

does-some : (S : ScenarioContents) (s t : State) (i : Instr) (r : Reply) → Does S s i t r → AllSome S s.max → AllSome S t.max
does-some S s t i r (Does.refused why) all = all
does-some S s t i r (Does.done u told spent fits effect) all =
    let set = effect-settings S s u i told effect in
    subst (λ (x : Settings). AllSome S x.max) (sym set.2) (sets-some S s set.0 i set.1 fits all)

all-some : (S : ScenarioContents) (s : State) (instrs : List Instr) → AllSome S s.max → AllSome S (after_all S s instrs).max
all-some S s [] all = all
all-some S s (i ∷ instrs) all = all-some S (table S s i).0 instrs (does-some S s (table S s i).0 i (table S s i).1 (table-does S s i) all)

-- At the start.

pub first-none : (a b : Option Fault) → fault_of_two a b ≡ None → a ≡ None
first-none (Some fault) b e = cc
first-none None b e = refl

second-none : (a b : Option Fault) → fault_of_two a b ≡ None → b ≡ None
second-none (Some fault) b e = cc
second-none None b e = e

pub passes : (b : Bool) (fault : Fault) → fault_unless b fault ≡ None → b ≡ true
passes true fault e = refl
passes false fault e = cc

queue-some : (before : List QueueDecl) (queue : QueueDecl) → queue_fault before queue ≡ None → 0 < queue.max
queue-some before queue e =
    let fits = passes (fits_flags queue) BadFlags (second-none (fault_if (list_any (λ other. bytes_eq other.name queue.name) before) Duplicate) (fault_unless (fits_flags queue) BadFlags) e) in
    within-some queue.max (and_parts (within 1 MAX_MAX_ACTIVE queue.max) (if queue.flags.ordered then queue.max == 1 else true) fits).0

queues-some : (before queues : List QueueDecl) → first_along queue_fault before queues ≡ None
    → (q : ℕ) → q < length queues → 0 < slice_index_or (map (λ queue. queue.max) queues) q 0
queues-some before [] e q there = absurd (omega arith)
queues-some before (queue ∷ queues) e zero there = queue-some before queue (first-none (queue_fault before queue) (first_along queue_fault (before ++ queue ∷ []) queues) e)
queues-some before (queue ∷ queues) e (suc q) there =
    queues-some (before ++ queue ∷ []) queues (second-none (queue_fault before queue) (first_along queue_fault (before ++ queue ∷ []) queues) e) q (omega arith)

start-some : (S : ScenarioContents) → IsValid S → AllSome S (start S).max
start-some S valid =
    let actors = first_along (actor_fault S) [] S.actors in
    let works = first_along (work_fault S) [] S.works in
    let queues = first_along queue_fault [] S.queues in
    let rest = second-none (numbers_fault S) (fault_of_two (counts_fault S) (fault_of_two queues (fault_of_two works actors))) valid in
    let declared = second-none (counts_fault S) (fault_of_two queues (fault_of_two works actors)) rest in
    queues-some [] S.queues (first-none queues (fault_of_two works actors) declared)

-- So a queue's limit is 0 only in a freeze.

abbrev no_limit : Bool → Bool → ℕ → ℕ
no_limit frozen freezable max = cond (frozen && freezable) 0 max

limit-none : (frozen freezable : Bool) (max : ℕ) → 0 < max → no_limit frozen freezable max ≡ 0 → (frozen ≡ true) × (freezable ≡ true)
limit-none true true max some e = (refl, refl)
limit-none true false max some e = absurd (omega (arith, e))
limit-none false freezable max some e = absurd (omega (arith, e))

limit-frozen : (frozen freezable : Bool) (max : ℕ) → frozen ≡ true → freezable ≡ true → no_limit frozen freezable max ≡ 0
limit-frozen true true max e f = refl
limit-frozen true false max e f = cc
limit-frozen false freezable max e f = cc

pub frozen_by_freeze : InEveryState FrozenByFreeze
unfolding FrozenByFreeze TellsFrozen
frozen_by_freeze S valid instrs w p there is pool =
    let s = run S instrs in
    let freezable = (flags_at S (queue_of S w)).freezable in
    let row = tells_frozen S s w p there is pool in
    let some : 0 < max_at s (queue_of S w) = all-some S (start S) instrs (start-some S valid) (queue_of S w) ((IsSetting-valid S valid).declared w there) in (
      λ told. (
        (row.0 told).0,
        (limit-none s.frozen freezable (max_at s (queue_of S w)) some (row.0 told).1).0,
        (limit-none s.frozen freezable (max_at s (queue_of S w)) some (row.0 told).1).1,
      ),
      λ h. row.1 (h.0, limit-frozen s.frozen freezable (max_at s (queue_of S w)) h.1 h.2),
    )
