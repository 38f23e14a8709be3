-- What has an image, besides the contents of a valid scenario: no more parts than there may be.
use Rattle.std.specs.Prelude.{ℕ, ◌≤◌, ◌<◌, ◌^◌, List, length, slice_index}
use Rattle.std.specs.List.{All, AllByRecursion}
use Rattle.cmwq_types.specs.Contents.{ScenarioContents, WorkContents, ActorContents}
use Rattle.cmwq_types.specs.declared.limits.TheConstants.{MAX_ACTORS, MAX_LINES, MAX_OPS, MAX_QUEUES, MAX_WORKS}

abbrev pub HasBodySize : WorkContents → Type 0
HasBodySize work = (1 ≤ length work.body) × (length work.body ≤ MAX_OPS)

abbrev pub HasLinesSize : ActorContents → Type 0
HasLinesSize actor = length actor.lines ≤ MAX_LINES

pub record HasSize (S : ScenarioContents) : Type 0 where
  pub queues : length S.queues ≤ MAX_QUEUES
  pub works : length S.works ≤ MAX_WORKS
  pub actors : length S.actors ≤ MAX_ACTORS
  pub bodies : AllByRecursion HasBodySize S.works
  pub lines : AllByRecursion HasLinesSize S.actors

-- these are bytes
abbrev pub AreBytes : List ℕ → Type 0
AreBytes bytes = (i : ℕ) → slice_index bytes i < 2 ^ 8

-- no body is longer than it may be
abbrev pub BodiesFit : List WorkContents → Type 0
BodiesFit works = All (λ work. length work.body ≤ MAX_OPS) works

-- no actor has more lines than it may have
abbrev pub LinesFit : List ActorContents → Type 0
LinesFit actors = All (λ actor. length actor.lines ≤ MAX_LINES) actors
