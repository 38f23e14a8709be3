-- How a whole file is read: past what stands before the places of pages, to the pages of each CPU.
use Rattle.std.specs.Prelude.{ℕ, zero, suc, ◌^◌, ◌≤◌, List, [], ◌∷◌, drop, length, map, take}
use Rattle.std.specs.Int.{Width, w32, w64}
use Rattle.std.specs.List.{AllByRecursion, range_with_len}
use Rattle.cmwq_types.specs.Contents.{ScenarioContents}
use Rattle.cmwq_types.specs.Values.{IsScenario}
use Rattle.cmwq_types.specs.declared.limits.TheConstants.{MAX_CPUS, MAX_WORKS}
use Rattle.cmwq_events.specs.KernelEvents.{cpus_traced}
use Rattle.cmwq_events.specs.declared.kernel_event.KernelEvent.{KernelEvent}
use Rattle.cmwq_trace_data.specs.Pages.{events_on}
use Rattle.cmwq_trace_data.specs.Reading.{IsTellable, ReadEvent, Rises, events_of, read, told}

-- past so many bytes
abbrev pub skip : {A : Type 0} → ℕ → (List ℕ → A) → List ℕ → A
skip count next bytes = next (drop count bytes)

-- past a text that stands behind its length
abbrev pub skip_sized : {A : Type 0} → Width → (List ℕ → A) → List ℕ → A
skip_sized width next = read width (λ size. skip size next)

-- the events of so many CPUs of a file: of each where its pages stand, and how long they are
abbrev pub places_read : List ℕ → ℕ → List ℕ → List (List ReadEvent)
places_read file zero bytes = []
places_read file (suc cpus) bytes =
    read w64 (λ at. read w64 (λ size rest. events_of (take size (drop at file)) ∷ places_read file cpus rest)) bytes

-- past what the file is
abbrev pub skip_kind : {A : Type 0} → (List ℕ → A) → List ℕ → A
skip_kind next = skip 18 next

-- past the layouts, each behind its name
abbrev pub skip_layouts : {A : Type 0} → (List ℕ → A) → List ℕ → A
skip_layouts next = skip 12 (skip_sized w64 (skip 13 (skip_sized w64 next)))

-- past the four formats
abbrev pub skip_formats : {A : Type 0} → (List ℕ → A) → List ℕ → A
skip_formats next = skip 22 (skip_sized w64 (skip_sized w64 (skip_sized w64 (skip_sized w64 next))))

-- past the functions, the formats of texts and the tasks, to how many CPUs there are, and past a name
abbrev pub names_read : {A : Type 0} → (ℕ → List ℕ → A) → List ℕ → A
names_read next = skip_sized w32 (skip_sized w32 (skip_sized w64 (read w32 (λ cpus. skip 10 (next cpus)))))

-- the events of each CPU
abbrev pub file_read : List ℕ → List (List ReadEvent)
file_read file = skip_kind (skip_layouts (skip_formats (names_read (places_read file)))) file

-- what the events of each CPU tell
abbrev pub told_by_cpus : ScenarioContents → List KernelEvent → List (List ReadEvent)
told_by_cpus S events = map (λ cpu. map (told S) (events_on S cpu events)) (range_with_len 0 (cpus_traced S events))

-- A scenario's contents with no more CPUs and works than there may be, and events whose numbers have room in their fields, up to 2^40 of
-- them, of which none is before the one before it.
pub record CanBeTold (S : ScenarioContents) (events : List KernelEvent) : Type 0 where
  pub contents : IsScenario S
  pub cpus : S.cpus ≤ MAX_CPUS
  pub works : length S.works ≤ MAX_WORKS
  pub tellable : AllByRecursion IsTellable events
  pub few : length events ≤ 2 ^ 40
  pub rises : Rises 0 events
