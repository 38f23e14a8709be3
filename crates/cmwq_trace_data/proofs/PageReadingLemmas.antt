-- What is written of the events on a CPU is read again.
use Rattle.std.proofs.Common.{◌≡◌, ℕ, zero, suc, ◌+◌, ◌-◌, ◌*◌, ◌/◌, ◌<◌, ◌≤◌, Bool, true, List, [], ◌∷◌, ◌++◌, length, take, drop, map, replicate, refl, sym, ap, subst, ◌∙◌, append_assoc, arith}
use Rattle.std.proofs.lemmas.Bool.{cond_both, leb-true}
use Rattle.std.proofs.lemmas.List.{length-append, length-replicate, take_at, drop_at}
use Rattle.std.specs.Int.{w64}
use Rattle.std.specs.List.{AllByRecursion, filter, flat_map}
use Rattle.cmwq_types.specs.Contents.{ScenarioContents}
use Rattle.cmwq_events.specs.declared.kernel_event.KernelEvent.{KernelEvent}
use Rattle.cmwq_trace_data.proofs.PageLemmas.{entry_has, last_time}
use Rattle.cmwq_trace_data.proofs.ReadingLemmas.{entry_again, entry_few, right4, read64, wide64}
use Rattle.cmwq_trace_data.specs.Entries.{entry, nanoseconds, number}
use Rattle.cmwq_trace_data.specs.Pages.{cpu_pages, entries, events_on, has_room, is_on, page, page_entries, pages, pages_from}
use Rattle.cmwq_trace_data.specs.Reading.{HasShortNames, IsTellable, ReadEvent, Rises, entries_read, event_with, events_of, page_read, pages_read, read, stamped_read, told}

-- Entries of a page.

some_bytes : (count time : ℕ) (bytes : List ℕ) → 0 < length bytes → entries_read (suc count) time bytes ≡ stamped_read (entries_read count) time bytes
some_bytes count time [] some = absurd (omega (arith, some))
some_bytes count time (b ∷ bytes) some = refl

entries_again : (S : ScenarioContents) (count time : ℕ) (es : List KernelEvent) → HasShortNames S → AllByRecursion IsTellable es → Rises time es
    → length es ≤ count → entries_read count (nanoseconds time) (entries S time es) ≡ map (told S) es
entries_again S zero time [] names fits rises few = refl
entries_again S (suc count) time [] names fits rises few = refl
entries_again S zero time (e ∷ es) names fits rises few = absurd (omega (arith, few))
entries_again S (suc count) time (e ∷ es) names fits rises few =
    let first = entry S (e.time - time) e in
    let more = entries S e.time es in
    let now : nanoseconds time + nanoseconds (e.time - time) ≡ nanoseconds e.time = omega (arith, rises.0) in
    let some : 0 < length (first ++ more) = omega (arith, entry_has S (e.time - time) e, length-append first more) in
    some_bytes count (nanoseconds time) (first ++ more) some
    ∙ entry_again S (entries_read count) (nanoseconds time) (e.time - time) e more names fits.0 (omega (arith, fits.0.time))
    ∙ ap (λ t. event_with t (told S e).pid (told S e).fields ∷ entries_read count t more) now
    ∙ ap (λ (xs : List ReadEvent). told S e ∷ xs) (entries_again S count e.time es names fits.1 rises.1 (omega (arith, few)))

entries_many : (S : ScenarioContents) (time : ℕ) (es : List KernelEvent) → length es ≤ length (entries S time es)
entries_many S time [] = omega arith
entries_many S time (e ∷ es) =
    omega (arith, entry_has S (e.time - time) e, entries_many S e.time es, length-append (entry S (e.time - time) e) (entries S e.time es))

-- A page.

-- the events of a page: some, that rise, and have room on it
pub record HasPage (S : ScenarioContents) (first : KernelEvent) (more : List KernelEvent) : Type 0 where
  pub rises : Rises first.time more
  pub tellable : AllByRecursion IsTellable (first ∷ more)
  pub room : length (page_entries S (first ∷ more)) ≤ 4080

abbrev pub IsPage : ScenarioContents → List KernelEvent → Type 0
IsPage S [] = ⊥
IsPage S (first ∷ more) = HasPage S first more

page_again : (S : ScenarioContents) (events : List KernelEvent) → HasShortNames S → IsPage S events → page_read (page S events) ≡ map (told S) events
page_again S [] names is = absurd is
page_again S (first ∷ more) names is =
    let bytes = page_entries S (first ∷ more) in
    let free = replicate (4096 - 16 - length bytes) 0 in
    let behind = λ (time size : ℕ) (rest : List ℕ). entries_read size time (take size rest) in
    let many : length (first ∷ more) ≤ length bytes = entries_many S first.time (first ∷ more) in
    ap page_read (right4 (number w64 (nanoseconds first.time)) (number w64 (length bytes)) bytes free)
    ∙ read64 (λ time. read w64 (behind time)) (nanoseconds first.time) (number w64 (length bytes) ++ (bytes ++ free)) (omega (arith, is.tellable.0.time))
    ∙ read64 (behind (nanoseconds first.time)) (length bytes) (bytes ++ free) (omega (arith, is.room))
    ∙ ap (entries_read (length bytes) (nanoseconds first.time)) (take_at bytes free (length bytes) refl)
    ∙ entries_again S (length bytes) first.time (first ∷ more) names is.tellable (omega arith, is.rises) many

page_size : (S : ScenarioContents) (events : List KernelEvent) → IsPage S events → length (page S events) ≡ 4096
page_size S [] is = absurd is
page_size S (first ∷ more) is =
    let bytes = page_entries S (first ∷ more) in
    let a = number w64 (nanoseconds first.time) in
    let b = number w64 (length bytes) in
    let free = replicate {A = ℕ} (4096 - 16 - length bytes) 0 in
    let left : length free ≡ 4096 - 16 - length bytes = length-replicate (4096 - 16 - length bytes) 0 in
    omega (
      arith,
      is.room,
      left,
      length-append (a ++ b ++ bytes) free,
      length-append (a ++ b) bytes,
      length-append a b,
      wide64.long (nanoseconds first.time),
      wide64.long (length bytes),
    )

-- Pages.

pages_again : (S : ScenarioContents) (ps : List (List KernelEvent)) → HasShortNames S → AllByRecursion (IsPage S) ps
    → pages_read (length ps) (flat_map (page S) ps) ≡ flat_map (map (told S)) ps
pages_again S [] names are = refl
pages_again S (p ∷ ps) names are =
    let more = flat_map (page S) ps in
    let size : length (page S p) ≡ 4096 = page_size S p are.0 in
    ap (λ (b : List ℕ). page_read b ++ pages_read (length ps) (drop 4096 (page S p ++ more))) (take_at (page S p) more 4096 size)
    ∙ ap (λ (b : List ℕ). page_read (page S p) ++ pages_read (length ps) b) (drop_at (page S p) more 4096 size)
    ∙ ap (λ (xs : List ReadEvent). xs ++ pages_read (length ps) more) (page_again S p names are.0)
    ∙ ap (λ (xs : List ReadEvent). map (told S) p ++ xs) (pages_again S ps names are.1)

pub pages_size : (S : ScenarioContents) (ps : List (List KernelEvent)) → AllByRecursion (IsPage S) ps → length (flat_map (page S) ps) ≡ 4096 * length ps
pages_size S [] are = refl
pages_size S (p ∷ ps) are =
    omega (arith, page_size S p are.0, pages_size S ps are.1, length-append (page S p) (flat_map (page S) ps))

-- Which events stand on which page.

map-append : {X Y : Type 0} (f : X → Y) (xs ys : List X) → map f (xs ++ ys) ≡ map f xs ++ map f ys
map-append f [] ys = refl
map-append {X} {Y} f (x ∷ xs) ys = ap (λ (zs : List Y). f x ∷ zs) (map-append f xs ys)

all-append : {X : Type 0} (P : X → Type 0) (xs : List X) (y : X) → AllByRecursion P xs → P y → AllByRecursion P (xs ++ y ∷ [])
all-append P [] y all one = (one, tt)
all-append P (x ∷ xs) y all one = (all.0, all-append P xs y all.1 one)

rises-append : (time : ℕ) (es : List KernelEvent) (e : KernelEvent) → Rises time es → last_time time es ≤ e.time → Rises time (es ++ e ∷ [])
rises-append time [] e rises later = (later, tt)
rises-append time (f ∷ es) e rises later = (rises.0, rises-append f.time es e rises.1 later)

last_time-append : (time : ℕ) (es : List KernelEvent) (e : KernelEvent) → last_time time (es ++ e ∷ []) ≡ e.time
last_time-append time [] e = refl
last_time-append time (f ∷ es) e = last_time-append f.time es e

-- a page may have any one event
alone : (S : ScenarioContents) (e : KernelEvent) → HasShortNames S → IsTellable e → HasPage S e []
alone S e names fits =
    let one = entry S (e.time - e.time) e in
    record { rises = tt; tellable = (fits, tt); room = omega (arith, entry_few S (e.time - e.time) e names, length-append one []) }

longer : (S : ScenarioContents) (first : KernelEvent) (more : List KernelEvent) (e : KernelEvent) → HasPage S first more → IsTellable e
    → last_time first.time more ≤ e.time → has_room S (first ∷ more) e ≡ true → HasPage S first (more ++ e ∷ [])
longer S first more e is fits later room =
    record {
      rises = rises-append first.time more e is.rises later;
      tellable = (is.tellable.0, all-append IsTellable more e is.tellable.1 fits);
      room = omega (arith, leb-true (length (page_entries S (first ∷ (more ++ e ∷ []))) + 20) 4080 room);
    }

are_pages : (S : ScenarioContents) (first : KernelEvent) (more es : List KernelEvent) → HasShortNames S → HasPage S first more
    → AllByRecursion IsTellable es → Rises (last_time first.time more) es → AllByRecursion (IsPage S) (pages_from S (first ∷ more) es)
are_pages S first more [] names is fits rises = (is, tt)
are_pages S first more (e ∷ es) names is fits rises =
    cond_both (has_room S (first ∷ more) e) (pages_from S (first ∷ (more ++ e ∷ [])) es) ((first ∷ more) ∷ pages_from S (e ∷ []) es)
    (λ (ps : List (List KernelEvent)). AllByRecursion (IsPage S) ps)
    (λ room. are_pages S first (more ++ e ∷ []) es names (longer S first more e is fits.0 rises.0 room) fits.1
    (subst (λ t. Rises t es) (sym (last_time-append first.time more e)) rises.1))
    (λ full. (is, are_pages S e [] es names (alone S e names fits.0) fits.1 rises.1))

all_told : (S : ScenarioContents) (first : KernelEvent) (more es : List KernelEvent)
    → flat_map (map (told S)) (pages_from S (first ∷ more) es) ≡ map (told S) (first ∷ more) ++ map (told S) es
all_told S first more [] = refl
all_told S first more (e ∷ es) =
    cond_both (has_room S (first ∷ more) e) (pages_from S (first ∷ (more ++ e ∷ [])) es) ((first ∷ more) ∷ pages_from S (e ∷ []) es)
    (λ (ps : List (List KernelEvent)). flat_map (map (told S)) ps ≡ map (told S) (first ∷ more) ++ map (told S) (e ∷ es))
    (λ room. all_told S first (more ++ e ∷ []) es ∙ ap (λ (xs : List ReadEvent). xs ++ map (told S) es) (map-append (told S) (first ∷ more) (e ∷ []))
    ∙ append_assoc (map (told S) (first ∷ more)) (told S e ∷ []) (map (told S) es))
    (λ full. ap (λ (xs : List ReadEvent). map (told S) (first ∷ more) ++ xs) (all_told S e [] es))

-- The events of a CPU.

-- what is read of the pages of some events is what these tell
pub laid_again : (S : ScenarioContents) (es : List KernelEvent) → HasShortNames S → AllByRecursion IsTellable es → Rises 0 es
    → events_of (flat_map (page S) (pages S es)) ≡ map (told S) es
laid_again S [] names fits rises = refl
laid_again S (e ∷ es) names fits rises =
    let ps = pages_from S (e ∷ []) es in
    let are : AllByRecursion (IsPage S) ps = are_pages S e [] es names (alone S e names fits.0) fits.1 rises.1 in
    let count : length (flat_map (page S) ps) / 4096 ≡ length ps = omega (arith, pages_size S ps are) in
    ap (λ n. pages_read n (flat_map (page S) ps)) count ∙ pages_again S ps names are ∙ all_told S e [] es

all-filter : {X : Type 0} (P : X → Type 0) (test : X → Bool) (xs : List X) → AllByRecursion P xs → AllByRecursion P (filter test xs)
all-filter P test [] all = tt
all-filter {X} P test (x ∷ xs) all =
    cond_both (test x) (x ∷ filter test xs) (filter test xs) (λ (ys : List X). AllByRecursion P ys) (λ is. (all.0, all-filter P test xs all.1))
    (λ isnt. all-filter P test xs all.1)

pub cpu_again : (S : ScenarioContents) (events : List KernelEvent) (cpu : ℕ) → HasShortNames S → AllByRecursion IsTellable events
    → Rises 0 (events_on S cpu events) → events_of (cpu_pages S events cpu) ≡ map (told S) (events_on S cpu events)
cpu_again S events cpu names fits rises = laid_again S (events_on S cpu events) names (all-filter IsTellable (is_on S cpu) events fits) rises

-- there are no more pages than events
pages_few : (S : ScenarioContents) (first : KernelEvent) (more es : List KernelEvent) → length (pages_from S (first ∷ more) es) ≤ suc (length es)
pages_few S first more [] = omega arith
pages_few S first more (e ∷ es) =
    cond_both (has_room S (first ∷ more) e) (pages_from S (first ∷ (more ++ e ∷ [])) es) ((first ∷ more) ∷ pages_from S (e ∷ []) es)
    (λ (ps : List (List KernelEvent)). length ps ≤ suc (suc (length es))) (λ room. omega (arith, pages_few S first (more ++ e ∷ []) es))
    (λ full. omega (arith, pages_few S e [] es))

laid_size : (S : ScenarioContents) (es : List KernelEvent) → HasShortNames S → AllByRecursion IsTellable es → Rises 0 es
    → length (flat_map (page S) (pages S es)) ≤ 4096 * length es
laid_size S [] names fits rises = omega arith
laid_size S (e ∷ es) names fits rises =
    let ps = pages_from S (e ∷ []) es in
    let are : AllByRecursion (IsPage S) ps = are_pages S e [] es names (alone S e names fits.0) fits.1 rises.1 in
    omega (arith, pages_size S ps are, pages_few S e [] es)

filter_few : {X : Type 0} (test : X → Bool) (xs : List X) → length (filter test xs) ≤ length xs
filter_few test [] = omega arith
filter_few {X} test (x ∷ xs) =
    cond_both (test x) (x ∷ filter test xs) (filter test xs) (λ (ys : List X). length ys ≤ suc (length xs)) (λ is. omega (arith, filter_few test xs))
    (λ isnt. omega (arith, filter_few test xs))

pub cpu_size : (S : ScenarioContents) (events : List KernelEvent) (cpu : ℕ) → HasShortNames S → AllByRecursion IsTellable events
    → Rises 0 (events_on S cpu events) → length (cpu_pages S events cpu) ≤ 4096 * length events
cpu_size S events cpu names fits rises =
    omega (arith, laid_size S (events_on S cpu events) names (all-filter IsTellable (is_on S cpu) events fits) rises, filter_few (is_on S cpu) events)
