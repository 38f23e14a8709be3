-- Which versions a scenario has, and what its images are.
use Rattle.std.specs.Prelude.{◌≡◌, ℕ, ◌≤◌, false, List}
use Rattle.std.specs.List.{AllByRecursion}
use Rattle.cmwq_types.specs.Contents.{ScenarioContents, WorkContents, ActorContents}
use Rattle.cmwq_types.specs.declared.instr.Instr.{Instr}
use Rattle.cmwq_types.specs.declared.instr.Instr.TheVariants as instr
use Rattle.cmwq_types.specs.declared.scenario.Line.{Line}
use Rattle.cmwq_types.specs.declared.scenario.Op.{Op}
use Rattle.cmwq_types.specs.declared.scenario.Op.TheVariants as op
use Rattle.cmwq_types.specs.declared.scenario.QueueDecl.{QueueDecl}
use Rattle.cmwq_image.specs.Image.{all_flags, flag_bits, image, instr_word, last_op_tag, last_tag, op_word}
use Rattle.cmwq_image.specs.declared.version.TheConstants.{FIRST_VERSION, VERSION}

-- the queue's flags are among the version's
abbrev pub IsQueueOf : ℕ → QueueDecl → Type 0
IsQueueOf version queue = flag_bits queue.flags ≤ all_flags version

-- so are those of all queues
abbrev pub AreQueuesOf : ℕ → List QueueDecl → Type 0
AreQueuesOf version queues = AllByRecursion (IsQueueOf version) queues

-- the operation's tag is one of the version's
abbrev pub IsOpOf : ℕ → Op → Type 0
IsOpOf version op = (op_word op).tag ≤ last_op_tag version

-- so are those of all operations
abbrev pub AreBodiesOf : ℕ → List WorkContents → Type 0
AreBodiesOf version works = AllByRecursion (λ work. AllByRecursion (IsOpOf version) work.body) works

-- the tag of the line's instruction is one of the version's
abbrev pub IsLineOf : ℕ → Line → Type 0
IsLineOf version line = (instr_word line.instr).tag ≤ last_tag version

-- so are those of all lines
abbrev pub AreLinesOf : ℕ → List ActorContents → Type 0
AreLinesOf version actors = AllByRecursion (λ actor. AllByRecursion (IsLineOf version) actor.lines) actors

-- this is a version, and it has the scenario's flags, operations and instructions
pub record HasVersion (S : ScenarioContents) (version : ℕ) : Type 0 where
  pub first : FIRST_VERSION ≤ version
  pub last : version ≤ VERSION
  pub queues : AreQueuesOf version S.queues
  pub bodies : AreBodiesOf version S.works
  pub lines : AreLinesOf version S.actors

-- the bytes are the scenario's image in one of its versions
pub record IsImageOf (bytes : List ℕ) (S : ScenarioContents) : Type 0 where
  pub version : ℕ
  pub has : HasVersion S version
  pub written : bytes ≡ image version S

-- Which scenarios have an older version.

-- each operation of these works is so
abbrev pub EachOp : (Op → Type 0) → List WorkContents → Type 0
EachOp Is works = AllByRecursion (λ work. AllByRecursion Is work.body) works

-- each instruction of these actors is so
abbrev pub EachInstr : (Instr → Type 0) → List ActorContents → Type 0
EachInstr Is actors = AllByRecursion (λ actor. AllByRecursion (λ line. Is line.instr) actor.lines) actors

abbrev pub NeitherDisablesNorEnables : Instr → Type 0
NeitherDisablesNorEnables (instr.Disable work) = ⊥
NeitherDisablesNorEnables (instr.Enable work) = ⊥
NeitherDisablesNorEnables _ = Unit {0}

-- no actor disables or enables a work
abbrev pub NeverDisables : ScenarioContents → Type 0
NeverDisables S = EachInstr NeitherDisablesNorEnables S.actors

abbrev pub NeitherPressesNorRelieves : Instr → Type 0
NeitherPressesNorRelieves instr.Pressure = ⊥
NeitherPressesNorRelieves instr.Relief = ⊥
NeitherPressesNorRelieves _ = Unit {0}

abbrev pub NeverReclaims : QueueDecl → Type 0
NeverReclaims queue = queue.flags.mem_reclaim ≡ false

-- memory is never short: no queue has the flag `mem_reclaim`, and no actor gives `pressure` or `relief`
abbrev pub MemoryIsAmple : ScenarioContents → Type 0
MemoryIsAmple S = AllByRecursion NeverReclaims S.queues × EachInstr NeitherPressesNorRelieves S.actors

abbrev pub GoesOnForNothing : Instr → Type 0
GoesOnForNothing (instr.Until time) = ⊥
GoesOnForNothing (instr.Wait flush) = ⊥
GoesOnForNothing instr.Quiet = ⊥
GoesOnForNothing _ = Unit {0}

abbrev pub NeitherDelaysNorCancels : Op → Type 0
NeitherDelaysNorCancels (op.Delay work ticks) = ⊥
NeitherDelaysNorCancels (op.Mod work ticks) = ⊥
NeitherDelaysNorCancels (op.Cancel work) = ⊥
NeitherDelaysNorCancels _ = Unit {0}

-- no body delays, mods or cancels a work
abbrev pub BodiesNeverDelay : ScenarioContents → Type 0
BodiesNeverDelay S = EachOp NeitherDelaysNorCancels S.works

-- no actor gives `until`, `wait` or `quiet`
abbrev pub NeverGoesOn : ScenarioContents → Type 0
NeverGoesOn S = EachInstr GoesOnForNothing S.actors
