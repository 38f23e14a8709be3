-- Which versions a scenario has.
use Rattle.std.specs.Prelude.{◌↔◌}
use Rattle.std.proofs.Common.{◌≡◌, ℕ, ◌≤◌, List, [], ◌∷◌, arith}
use Rattle.std.specs.List.{AllByRecursion}
use Rattle.cmwq_types.specs.Contents.{ScenarioContents, WorkContents, ActorContents}
use Rattle.cmwq_types.specs.declared.instr.Instr.{Instr}
use Rattle.cmwq_types.specs.declared.instr.Instr.TheVariants as instr
use Rattle.cmwq_types.specs.declared.scenario.Line.{Line}
use Rattle.cmwq_types.specs.declared.scenario.Op.{Op}
use Rattle.cmwq_types.specs.declared.scenario.Op.TheVariants as op
use Rattle.cmwq_types.specs.declared.scenario.QueueDecl.{QueueDecl}
use Rattle.cmwq_image.specs.Image.{flag_bits, image, instr_word, op_word}
use Rattle.cmwq_image.specs.Versions.{IsQueueOf, IsOpOf, IsLineOf, HasVersion, IsImageOf, EachOp, EachInstr, NeitherDelaysNorCancels, BodiesNeverDelay, NeitherDisablesNorEnables, NeverDisables, NeitherPressesNorRelieves, NeverReclaims, MemoryIsAmple, GoesOnForNothing, NeverGoesOn}
use Rattle.cmwq_image.specs.declared.version.TheConstants.{FIRST_VERSION, SECOND_VERSION, THIRD_VERSION, VERSION}
use Rattle.cmwq_image.proofs.FlagLemmas.{at_most_31, at_most_63, never_reclaims}

-- what each element is, where it is something that says so
pub all_are : {A : Type 0} (P Q : A → Type 0) → ((x : A) → P x → Q x) → (xs : List A) → AllByRecursion P xs → AllByRecursion Q xs
all_are P Q so [] h = tt
all_are P Q so (x ∷ xs) h = (so x h.0, all_are P Q so xs h.1)

-- what each element is in both ways
pub both_all : {A : Type 0} (P Q : A → Type 0) (xs : List A) → AllByRecursion P xs → AllByRecursion Q xs → AllByRecursion (λ x. P x × Q x) xs
both_all P Q [] p q = tt
both_all P Q (x ∷ xs) p q = ((p.0, q.0), both_all P Q xs p.1 q.1)

-- what every value is, each element is
every : {A : Type 0} (P : A → Type 0) → ((x : A) → P x) → (xs : List A) → AllByRecursion P xs
every P so [] = tt
every P so (x ∷ xs) = (so x, every P so xs)

-- what each instruction is, where it is something that says so
each_instr : (P Q : Instr → Type 0) → ((i : Instr) → P i → Q i) → (actors : List ActorContents) → EachInstr P actors → EachInstr Q actors
each_instr P Q so actors =
    all_are (λ (actor : ActorContents). AllByRecursion (λ (line : Line). P line.instr) actor.lines) (λ actor. AllByRecursion (λ (line : Line). Q line.instr) actor.lines)
    (λ actor. all_are (λ (line : Line). P line.instr) (λ (line : Line). Q line.instr) (λ line. so line.instr) actor.lines) actors

-- what each instruction is in both ways
both_instr : (P Q : Instr → Type 0) (actors : List ActorContents) → EachInstr P actors → EachInstr Q actors → EachInstr (λ i. P i × Q i) actors
both_instr P Q [] p q = tt
both_instr P Q (actor ∷ actors) p q =
    (both_all (λ (line : Line). P line.instr) (λ (line : Line). Q line.instr) actor.lines p.0 q.0, both_instr P Q actors p.1 q.1)

-- what each operation is, where it is something that says so
each_op : (P Q : Op → Type 0) → ((o : Op) → P o → Q o) → (works : List WorkContents) → EachOp P works → EachOp Q works
each_op P Q so works =
    all_are (λ (work : WorkContents). AllByRecursion P work.body) (λ work. AllByRecursion Q work.body) (λ work. all_are P Q so work.body) works

abbrev IsOpTagged : ℕ → Op → Type 0
IsOpTagged last o = (op_word o).tag ≤ last

last_op_is_7 : (o : Op) → IsOpTagged 7 o
last_op_is_7 (op.Queue work cpu) = omega arith
last_op_is_7 _ = omega arith

-- the older versions have only the first four

never_delays : (o : Op) → IsOpTagged 4 o → NeitherDelaysNorCancels o
never_delays (op.Delay work ticks) h = absurd (omega (arith, h))
never_delays (op.Mod work ticks) h = absurd (omega (arith, h))
never_delays (op.Cancel work) h = absurd (omega (arith, h))
never_delays _ h = tt

last_op_is_4 : (o : Op) → NeitherDelaysNorCancels o → IsOpTagged 4 o
last_op_is_4 (op.Delay work ticks) h = elim h [ ]
last_op_is_4 (op.Mod work ticks) h = elim h [ ]
last_op_is_4 (op.Cancel work) h = elim h [ ]
last_op_is_4 _ h = omega arith

abbrev IsTagged : ℕ → Instr → Type 0
IsTagged last i = (instr_word i).tag ≤ last

last_is_40 : (i : Instr) → IsTagged 40 i
last_is_40 (instr.Queue work cpu) = omega arith
last_is_40 _ = omega arith

pub newest : (S : ScenarioContents) → HasVersion S VERSION
newest S = record {
  first = omega arith;
  last = omega arith;
  queues = every (IsQueueOf VERSION) (λ queue. at_most_63 queue.flags) S.queues;
  bodies = every (λ (work : WorkContents). AllByRecursion (IsOpOf VERSION) work.body) (λ work. every (IsOpOf VERSION) last_op_is_7 work.body) S.works;
  lines = every (λ (actor : ActorContents). AllByRecursion (IsLineOf VERSION) actor.lines) (λ actor. every (IsLineOf VERSION) (λ line. last_is_40 line.instr) actor.lines) S.actors;
}

-- the image that is written
pub newest_image : (bytes : List ℕ) (S : ScenarioContents) → bytes ≡ image VERSION S → IsImageOf bytes S
newest_image bytes S e = record { version = VERSION; has = newest S; written = e }

-- a queue that does without the last flag
queue_never : (queue : QueueDecl) → flag_bits queue.flags ≤ 31 → NeverReclaims queue
queue_never queue few = never_reclaims queue.flags few

queue_few : (queue : QueueDecl) → NeverReclaims queue → flag_bits queue.flags ≤ 31
queue_few queue never = at_most_31 queue.flags never

-- the third version

going : (i : Instr) → IsTagged 37 i → GoesOnForNothing i
going (instr.Until time) h = absurd (omega (arith, h))
going (instr.Wait flush) h = absurd (omega (arith, h))
going instr.Quiet h = absurd (omega (arith, h))
going _ h = tt

last_is_37 : (i : Instr) → GoesOnForNothing i → IsTagged 37 i
last_is_37 (instr.Until time) h = elim h [ ]
last_is_37 (instr.Wait flush) h = elim h [ ]
last_is_37 instr.Quiet h = elim h [ ]
last_is_37 _ h = omega arith

pub old : (S : ScenarioContents) → HasVersion S THIRD_VERSION ↔ (NeverGoesOn S × BodiesNeverDelay S)
old S = (
  λ has. (each_instr (IsTagged 37) GoesOnForNothing going S.actors has.lines, each_op (IsOpTagged 4) NeitherDelaysNorCancels never_delays S.works has.bodies),
  λ is. record {
    first = omega arith;
    last = omega arith;
    queues = every (IsQueueOf THIRD_VERSION) (λ queue. at_most_63 queue.flags) S.queues;
    bodies = each_op NeitherDelaysNorCancels (IsOpTagged 4) last_op_is_4 S.works is.1;
    lines = each_instr GoesOnForNothing (IsTagged 37) last_is_37 S.actors is.0;
  },
)

-- the second version

ample : (i : Instr) → IsTagged 35 i → NeitherPressesNorRelieves i
ample instr.Pressure h = absurd (omega (arith, h))
ample instr.Relief h = absurd (omega (arith, h))
ample _ h = tt

last_is_35 : (i : Instr) → NeitherPressesNorRelieves i × GoesOnForNothing i → IsTagged 35 i
last_is_35 instr.Pressure h = elim h.0 [ ]
last_is_35 instr.Relief h = elim h.0 [ ]
last_is_35 (instr.Until time) h = elim h.1 [ ]
last_is_35 (instr.Wait flush) h = elim h.1 [ ]
last_is_35 instr.Quiet h = elim h.1 [ ]
last_is_35 _ h = omega arith

pub older : (S : ScenarioContents) → HasVersion S SECOND_VERSION ↔ (NeverGoesOn S × BodiesNeverDelay S × MemoryIsAmple S)
older S = (
  λ has. (
    each_instr (IsTagged 35) GoesOnForNothing (λ i h. going i (omega (arith, h))) S.actors has.lines,
    each_op (IsOpTagged 4) NeitherDelaysNorCancels never_delays S.works has.bodies,
    (
      all_are (IsQueueOf SECOND_VERSION) NeverReclaims queue_never S.queues has.queues,
      each_instr (IsTagged 35) NeitherPressesNorRelieves ample S.actors has.lines,
    ),
  ),
  λ is. record {
    first = omega arith;
    last = omega arith;
    queues = all_are NeverReclaims (IsQueueOf SECOND_VERSION) queue_few S.queues is.2.0;
    bodies = each_op NeitherDelaysNorCancels (IsOpTagged 4) last_op_is_4 S.works is.1;
    lines = each_instr (λ i. NeitherPressesNorRelieves i × GoesOnForNothing i) (IsTagged 35) last_is_35 S.actors
        (both_instr NeitherPressesNorRelieves GoesOnForNothing S.actors is.2.1 is.0);
  },
)

-- the first version

early : (i : Instr) → IsTagged 33 i → NeitherDisablesNorEnables i
early (instr.Disable work) h = absurd (omega (arith, h))
early (instr.Enable work) h = absurd (omega (arith, h))
early _ h = tt

last_is_33 : (i : Instr) → (NeitherPressesNorRelieves i × GoesOnForNothing i) × NeitherDisablesNorEnables i → IsTagged 33 i
last_is_33 (instr.Disable work) h = elim h.1 [ ]
last_is_33 (instr.Enable work) h = elim h.1 [ ]
last_is_33 instr.Pressure h = elim h.0.0 [ ]
last_is_33 instr.Relief h = elim h.0.0 [ ]
last_is_33 (instr.Until time) h = elim h.0.1 [ ]
last_is_33 (instr.Wait flush) h = elim h.0.1 [ ]
last_is_33 instr.Quiet h = elim h.0.1 [ ]
last_is_33 _ h = omega arith

pub oldest : (S : ScenarioContents) → HasVersion S FIRST_VERSION ↔ (NeverGoesOn S × BodiesNeverDelay S × MemoryIsAmple S × NeverDisables S)
oldest S = (
  λ has. (
    each_instr (IsTagged 33) GoesOnForNothing (λ i h. going i (omega (arith, h))) S.actors has.lines,
    each_op (IsOpTagged 4) NeitherDelaysNorCancels never_delays S.works has.bodies,
    (
      all_are (IsQueueOf FIRST_VERSION) NeverReclaims queue_never S.queues has.queues,
      each_instr (IsTagged 33) NeitherPressesNorRelieves (λ i h. ample i (omega (arith, h))) S.actors has.lines,
    ),
    each_instr (IsTagged 33) NeitherDisablesNorEnables early S.actors has.lines,
  ),
  λ is. record {
    first = omega arith;
    last = omega arith;
    queues = all_are NeverReclaims (IsQueueOf FIRST_VERSION) queue_few S.queues is.2.0;
    bodies = each_op NeitherDelaysNorCancels (IsOpTagged 4) last_op_is_4 S.works is.1;
    lines = each_instr (λ i. (NeitherPressesNorRelieves i × GoesOnForNothing i) × NeitherDisablesNorEnables i) (IsTagged 33) last_is_33 S.actors
        (both_instr (λ i. NeitherPressesNorRelieves i × GoesOnForNothing i) NeitherDisablesNorEnables S.actors
        (both_instr NeitherPressesNorRelieves GoesOnForNothing S.actors is.2.1 is.0) is.3);
  },
)
