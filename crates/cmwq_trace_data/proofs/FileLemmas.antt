-- A whole file is read again.
use Rattle.std.proofs.Common.{◌≡◌, ℕ, zero, suc, ◌+◌, ◌-◌, ◌*◌, ◌^◌, ◌<◌, ◌≤◌, Bool, List, [], ◌∷◌, ◌++◌, length, take, drop, map, replicate, refl, sym, ap, ◌∙◌, append_assoc, append-nil, arith}
use Rattle.std.proofs.lemmas.Bool.{cond_both}
use Rattle.std.proofs.lemmas.List.{length-append, length-replicate, take_at, drop_at}
use Rattle.std.specs.Int.{w32, w64}
use Rattle.std.specs.List.{AllByRecursion, filter, list_any, range_with_len}
use Rattle.cmwq_types.specs.Contents.{ScenarioContents}
use Rattle.cmwq_types.specs.Values.{IsScenario}
use Rattle.cmwq_events.specs.KernelEvents.{cpus_traced}
use Rattle.cmwq_events.specs.declared.kernel_event.KernelEvent.{KernelEvent}
use Rattle.cmwq_trace_data.proofs.PageReadingLemmas.{cpu_again, cpu_size}
use Rattle.cmwq_trace_data.proofs.ReadingLemmas.{read32, read64, right4, wide32, wide64}
use Rattle.cmwq_trace_data.proofs.SizeLemmas.{functions_few, queues_short, tasks_few}
use Rattle.cmwq_trace_data.specs.Entries.{number}
use Rattle.cmwq_trace_data.specs.FileReading.{CanBeTold, file_read, names_read, places_read, skip, skip_formats, skip_kind, skip_layouts, skip_sized, told_by_cpus}
use Rattle.cmwq_trace_data.specs.Pages.{cpu_pages, events_on, is_on}
use Rattle.cmwq_trace_data.specs.Reading.{HasShortNames, IsTellable, ReadEvent, Rises, events_of, read, told}
use Rattle.cmwq_trace_data.specs.TraceData.{dat_bytes, formats, function_lines, head, kind, layouts, names, pages_below, pages_start, places, sized, task_lines}
use Rattle.cmwq_trace_data.specs.declared.texts.TheConstants.{ACTIVATE_WORK, EXECUTE_END, EXECUTE_START, FLYRECORD, HEADER_EVENT, HEADER_EVENT_NAME, HEADER_PAGE, HEADER_PAGE_NAME, PIDS, QUEUE_WORK, WORKQUEUE}

right5 : (a b c d e : List ℕ) → a ++ b ++ c ++ d ++ e ≡ a ++ (b ++ (c ++ (d ++ e)))
right5 a b c d e = append_assoc (a ++ b ++ c) d e ∙ right4 a b c (d ++ e)

right6 : (a b c d e f : List ℕ) → a ++ b ++ c ++ d ++ e ++ f ≡ a ++ (b ++ (c ++ (d ++ (e ++ f))))
right6 a b c d e f = append_assoc (a ++ b ++ c ++ d) e f ∙ right5 a b c d (e ++ f)

-- Past texts.

skip_is : {A : Type 0} (count : ℕ) (next : List ℕ → A) (front rest : List ℕ) → length front ≡ count → skip count next (front ++ rest) ≡ next rest
skip_is count next front rest is = ap next (drop_at front rest count is)

sized64 : {A : Type 0} (next : List ℕ → A) (text rest : List ℕ) → length text < 2 ^ 64 → skip_sized w64 next (sized w64 text ++ rest) ≡ next rest
sized64 next text rest fits =
    ap (skip_sized w64 next) (append_assoc (number w64 (length text)) text rest)
    ∙ read64 (λ size. skip size next) (length text) (text ++ rest) fits ∙ skip_is (length text) next text rest refl

sized32 : {A : Type 0} (next : List ℕ → A) (text rest : List ℕ) → length text < 2 ^ 32 → skip_sized w32 next (sized w32 text ++ rest) ≡ next rest
sized32 next text rest fits =
    ap (skip_sized w32 next) (append_assoc (number w32 (length text)) text rest)
    ∙ read32 (λ size. skip size next) (length text) (text ++ rest) fits ∙ skip_is (length text) next text rest refl

kind_size : length kind ≡ 18
unfolding kind number
kind_size = refl

kind_again : {A : Type 0} (next : List ℕ → A) (rest : List ℕ) → skip_kind next (kind ++ rest) ≡ next rest
kind_again next rest = skip_is 18 next kind rest kind_size

layouts_again : {A : Type 0} (next : List ℕ → A) (rest : List ℕ) → skip_layouts next (layouts ++ rest) ≡ next rest
unfolding layouts
layouts_again next rest =
    let page : length HEADER_PAGE.now ≡ 205 = refl in
    let event : length HEADER_EVENT.now ≡ 205 = refl in
    let last = sized w64 HEADER_EVENT.now ++ rest in
    ap (skip_layouts next) (right5 HEADER_PAGE_NAME.now (sized w64 HEADER_PAGE.now) HEADER_EVENT_NAME.now (sized w64 HEADER_EVENT.now) rest)
    ∙ skip_is 12 (skip_sized w64 (skip 13 (skip_sized w64 next))) HEADER_PAGE_NAME.now (sized w64 HEADER_PAGE.now ++ (HEADER_EVENT_NAME.now ++ last)) refl
    ∙ sized64 (skip 13 (skip_sized w64 next)) HEADER_PAGE.now (HEADER_EVENT_NAME.now ++ last) (omega (arith, page))
    ∙ skip_is 13 (skip_sized w64 next) HEADER_EVENT_NAME.now last refl ∙ sized64 next HEADER_EVENT.now rest (omega (arith, event))

formats_size : length (number w32 0 ++ number w32 1 ++ WORKQUEUE.now ++ number w32 4) ≡ 22
unfolding number
formats_size = refl

formats_again : {A : Type 0} (next : List ℕ → A) (rest : List ℕ) → skip_formats next (formats ++ rest) ≡ next rest
unfolding formats
formats_again next rest =
    let front = number w32 0 ++ number w32 1 ++ WORKQUEUE.now ++ number w32 4 in
    let a : length QUEUE_WORK.now ≡ 697 = refl in
    let b : length ACTIVATE_WORK.now ≡ 383 = refl in
    let c : length EXECUTE_START.now ≡ 465 = refl in
    let d : length EXECUTE_END.now ≡ 463 = refl in
    let fourth = sized w64 EXECUTE_END.now ++ rest in
    let third = sized w64 EXECUTE_START.now ++ fourth in
    let second = sized w64 ACTIVATE_WORK.now ++ third in
    ap (skip_formats next)
    (right6 front (sized w64 QUEUE_WORK.now) (sized w64 ACTIVATE_WORK.now) (sized w64 EXECUTE_START.now) (sized w64 EXECUTE_END.now) rest)
    ∙ skip_is 22 (skip_sized w64 (skip_sized w64 (skip_sized w64 (skip_sized w64 next)))) front (sized w64 QUEUE_WORK.now ++ second) formats_size
    ∙ sized64 (skip_sized w64 (skip_sized w64 (skip_sized w64 next))) QUEUE_WORK.now second (omega (arith, a))
    ∙ sized64 (skip_sized w64 (skip_sized w64 next)) ACTIVATE_WORK.now third (omega (arith, b))
    ∙ sized64 (skip_sized w64 next) EXECUTE_START.now fourth (omega (arith, c)) ∙ sized64 next EXECUTE_END.now rest (omega (arith, d))

-- how long the texts of the names are
pub record HasNames (S : ScenarioContents) (events : List KernelEvent) : Type 0 where
  pub functions : length (function_lines S (length S.works)) < 2 ^ 32
  pub tasks : length (task_lines S events PIDS) < 2 ^ 64
  pub cpus : cpus_traced S events < 2 ^ 32

names_again : {A : Type 0} (S : ScenarioContents) (events : List KernelEvent) (next : ℕ → List ℕ → A) (rest : List ℕ) → HasNames S events
    → names_read next (names S events ++ rest) ≡ next (cpus_traced S events) rest
unfolding names
names_again {A} S events next rest has =
    let functions = function_lines S (length S.works) in
    let tasks = task_lines S events PIDS in
    let cpus = cpus_traced S events in
    let to_cpus = read w32 (λ n. skip 10 (next n)) in
    let behind = FLYRECORD.now ++ rest in
    ap (names_read next) (right6 (sized w32 functions) (number w32 0) (sized w64 tasks) (number w32 cpus) FLYRECORD.now rest)
    ∙ sized32 (skip_sized w32 (skip_sized w64 to_cpus)) functions (number w32 0 ++ (sized w64 tasks ++ (number w32 cpus ++ behind))) has.functions
    ∙ read32 (λ size. skip size (skip_sized w64 to_cpus)) 0 (sized w64 tasks ++ (number w32 cpus ++ behind)) (omega arith)
    ∙ sized64 to_cpus tasks (number w32 cpus ++ behind) has.tasks ∙ read32 (λ n. skip 10 (next n)) cpus behind has.cpus
    ∙ skip_is 10 (next cpus) FLYRECORD.now rest refl

-- Places.

module _ (S : ScenarioContents) (events : List KernelEvent) where
  abbrev place : ℕ → ℕ → List ℕ
  place here cpu = number w64 (here + length (pages_below S events cpu)) ++ number w64 (length (cpu_pages S events cpu))

  -- the places of so many CPUs from one on
  abbrev places_behind : (here cpu count : ℕ) → List ℕ
  places_behind here cpu zero = []
  places_behind here cpu (suc count) = place here cpu ++ places_behind here (suc cpu) count

  abbrev pages_behind : (cpu count : ℕ) → List ℕ
  pages_behind cpu zero = []
  pages_behind cpu (suc count) = cpu_pages S events cpu ++ pages_behind (suc cpu) count

  places-split : (here cpu count : ℕ) → places S events here cpu ++ places_behind here cpu count ≡ places S events here (cpu + count)
  places-split here cpu zero =
      let none : cpu ≡ cpu + 0 = omega arith in
      append-nil (places S events here cpu) ∙ ap (places S events here) none
  places-split here cpu (suc count) =
      let next : suc cpu + count ≡ cpu + suc count = omega arith in
      sym (append_assoc (places S events here cpu) (place here cpu) (places_behind here (suc cpu) count)) ∙ places-split here (suc cpu) count
      ∙ ap (places S events here) next

  pages-split : (cpu count : ℕ) → pages_below S events cpu ++ pages_behind cpu count ≡ pages_below S events (cpu + count)
  pages-split cpu zero =
      let none : cpu ≡ cpu + 0 = omega arith in
      append-nil (pages_below S events cpu) ∙ ap (pages_below S events) none
  pages-split cpu (suc count) =
      let next : suc cpu + count ≡ cpu + suc count = omega arith in
      sym (append_assoc (pages_below S events cpu) (cpu_pages S events cpu) (pages_behind (suc cpu) count)) ∙ pages-split (suc cpu) count
      ∙ ap (pages_below S events) next

  places-size : (here cpu : ℕ) → length (places S events here cpu) ≡ 16 * cpu
  places-size here zero = refl
  places-size here (suc cpu) =
      let a = number w64 (here + length (pages_below S events cpu)) in
      let b = number w64 (length (cpu_pages S events cpu)) in
      omega (
        arith,
        places-size here cpu,
        length-append (places S events here cpu) (a ++ b),
        length-append a b,
        wide64.long (here + length (pages_below S events cpu)),
        wide64.long (length (cpu_pages S events cpu)),
      )

  -- the pages of a CPU stand in the file behind those of the CPUs below
  pages_there : (file front : List ℕ) (cpu count : ℕ) → file ≡ front ++ pages_below S events (cpu + suc count)
      → take (length (cpu_pages S events cpu)) (drop (length front + length (pages_below S events cpu)) file) ≡ cpu_pages S events cpu
  pages_there file front cpu count is =
      let below = pages_below S events cpu in
      let here = cpu_pages S events cpu in
      let more = pages_behind (suc cpu) count in
      let whole : file ≡ (front ++ below) ++ (here ++ more) =
      is ∙ ap (λ (b : List ℕ). front ++ b) (sym (pages-split cpu (suc count))) ∙ sym (append_assoc front below (here ++ more)) in
      ap (λ (b : List ℕ). take (length here) (drop (length front + length below) b)) whole
      ∙ ap (take (length here)) (drop_at (front ++ below) (here ++ more) (length front + length below) (length-append front below))
      ∙ take_at here more (length here) refl

  places_again : (file front rest : List ℕ) (cpu count : ℕ) → ((c : ℕ) → events_of (cpu_pages S events c) ≡ map (told S) (events_on S c events))
      → file ≡ front ++ pages_below S events (cpu + count) → length file < 2 ^ 64
      → places_read file count (places_behind (length front) cpu count ++ rest) ≡ map (λ c. map (told S) (events_on S c events)) (range_with_len cpu count)
  places_again file front rest cpu zero again is small = refl
  places_again file front rest cpu (suc count) again is small =
      let at = length front + length (pages_below S events cpu) in
      let size = length (cpu_pages S events cpu) in
      let more = places_behind (length front) (suc cpu) count in
      let others = λ (bytes : List ℕ). places_read file count bytes in
      let long : length file ≡ length front + length (pages_below S events cpu ++ pages_behind cpu (suc count)) =
      ap length (is ∙ ap (λ (b : List ℕ). front ++ b) (sym (pages-split cpu (suc count))))
      ∙ length-append front (pages_below S events cpu ++ pages_behind cpu (suc count)) in
      let parts : length (pages_below S events cpu ++ pages_behind cpu (suc count)) ≡ length (pages_below S events cpu) + (size + length (pages_behind (suc cpu) count)) =
      length-append (pages_below S events cpu) (pages_behind cpu (suc count))
      ∙ ap (λ n. length (pages_below S events cpu) + n) (length-append (cpu_pages S events cpu) (pages_behind (suc cpu) count)) in
      let to_next : cpu + suc count ≡ suc cpu + count = omega arith in
      let one_on : suc cpu ≡ cpu + 1 = omega arith in
      let next : file ≡ front ++ pages_below S events (suc cpu + count) = is ∙ ap (λ n. front ++ pages_below S events n) to_next in
      ap (λ (b : List ℕ). read w64 (λ a. read w64 (λ n r. events_of (take n (drop a file)) ∷ others r)) b) (right4 (number w64 at) (number w64 size) more rest)
      ∙ read64 (λ a. read w64 (λ n r. events_of (take n (drop a file)) ∷ others r)) at (number w64 size ++ (more ++ rest)) (omega (arith, small, long, parts))
      ∙ read64 (λ n r. events_of (take n (drop at file)) ∷ others r) size (more ++ rest) (omega (arith, small, long, parts))
      ∙ ap (λ (b : List ℕ). events_of b ∷ others (more ++ rest)) (pages_there file front cpu count is)
      ∙ ap (λ (xs : List ReadEvent). xs ∷ others (more ++ rest)) (again cpu)
      ∙ ap (λ (xss : List (List ReadEvent)). map (told S) (events_on S cpu events) ∷ xss) (places_again file front rest (suc cpu) count again next small)
      ∙ ap (λ n. map (told S) (events_on S cpu events) ∷ map (λ c. map (told S) (events_on S c events)) (range_with_len n count)) one_on

-- Events of a CPU rise where all do.

rises-earlier : (s t : ℕ) (es : List KernelEvent) → s ≤ t → Rises t es → Rises s es
rises-earlier s t [] before rises = tt
rises-earlier s t (e ∷ es) before rises = (omega (arith, before, rises.0), rises.1)

rises-filter : (test : KernelEvent → Bool) (t : ℕ) (es : List KernelEvent) → Rises t es → Rises t (filter test es)
rises-filter test t [] rises = tt
rises-filter test t (e ∷ es) rises =
    cond_both (test e) (e ∷ filter test es) (filter test es) (λ (xs : List KernelEvent). Rises t xs)
    (λ is. (rises.0, rises-filter test e.time es rises.1))
    (λ isnt. rises-earlier t e.time (filter test es) rises.0 (rises-filter test e.time es rises.1))

-- The file.

few_cpus : (S : ScenarioContents) (events : List KernelEvent) → S.cpus ≤ 16 → cpus_traced S events < 2 ^ 32
few_cpus S events few =
    cond_both (list_any (λ one. is_on S S.cpus one) events) (S.cpus + 1) S.cpus (λ n. n < 2 ^ 32) (λ is. omega (arith, few)) (λ isnt. omega (arith, few))

has_names : (S : ScenarioContents) (events : List KernelEvent) → S.cpus ≤ 16 → length (head S events) < 2 ^ 32 → HasNames S events
unfolding names
has_names S events few small =
    let f = function_lines S (length S.works) in
    let t = task_lines S events PIDS in
    let a = sized w32 f in
    let b = number w32 0 in
    let c = sized w64 t in
    let d = number w32 (cpus_traced S events) in
    let all : length (head S events) ≡ length (kind ++ layouts ++ formats) + length (a ++ b ++ c ++ d ++ FLYRECORD.now) =
    length-append (kind ++ layouts ++ formats) (a ++ b ++ c ++ d ++ FLYRECORD.now) in
    let parts : length f + length t ≤ length (a ++ b ++ c ++ d ++ FLYRECORD.now) =
    omega (
      arith,
      length-append (a ++ b ++ c ++ d) FLYRECORD.now,
      length-append (a ++ b ++ c) d,
      length-append (a ++ b) c,
      length-append a b,
      length-append (number w32 (length f)) f,
      length-append (number w64 (length t)) t,
    ) in
    record { functions = omega (arith, small, all, parts); tasks = omega (arith, small, all, parts); cpus = few_cpus S events few }

-- the numbers of the events and of their file have room in its fields
record HasRoom (S : ScenarioContents) (events : List KernelEvent) : Type 0 where
  pub cpus : S.cpus ≤ 16
  pub names : HasShortNames S
  pub tellable : AllByRecursion IsTellable events
  pub head : length (head S events) < 2 ^ 32
  pub file : length (dat_bytes S events) < 2 ^ 64

room_again : (S : ScenarioContents) (events : List KernelEvent) → HasRoom S events → Rises 0 events → file_read (dat_bytes S events) ≡ told_by_cpus S events
unfolding dat_bytes
room_again S events has rises =
    let cpus = cpus_traced S events in
    let before = head S events in
    let start = pages_start S events in
    let table = places S events start cpus in
    let free = replicate {A = ℕ} (start - (length before + 16 * cpus)) 0 in
    let pages = pages_below S events cpus in
    let front = before ++ table ++ free in
    let file = front ++ pages in
    let left : length free ≡ start - (length before + 16 * cpus) = length-replicate (start - (length before + 16 * cpus)) 0 in
    let size : length front ≡ start =
    omega (arith, length-append (before ++ table) free, length-append before table, places-size S events start cpus, left) in
    let again : (c : ℕ) → events_of (cpu_pages S events c) ≡ map (told S) (events_on S c events) =
    λ c. cpu_again S events c has.names has.tellable (rises-filter (is_on S c) 0 events rises) in
    let all : cpus ≡ 0 + cpus = omega arith in
    let here : table ≡ places_behind S events (length front) 0 cpus =
    ap (λ n. places S events n cpus) (sym size) ∙ ap (places S events (length front)) all ∙ sym (places-split S events (length front) 0 cpus) in
    let behind = free ++ pages in
    let rest = table ++ behind in
    let next = places_read file in
    ap (skip_kind (skip_layouts (skip_formats (names_read next)))) (right4 before table free pages ∙ right5 kind layouts formats (names S events) rest)
    ∙ kind_again (skip_layouts (skip_formats (names_read next))) (layouts ++ (formats ++ (names S events ++ rest)))
    ∙ layouts_again (skip_formats (names_read next)) (formats ++ (names S events ++ rest))
    ∙ formats_again (names_read next) (names S events ++ rest)
    ∙ names_again S events next rest (has_names S events has.cpus has.head)
    ∙ ap (λ (b : List ℕ). next cpus (b ++ behind)) here
    ∙ places_again S events file front behind 0 cpus again (ap (λ n. front ++ pages_below S events n) all) has.file

-- The premises.

layouts_size : length layouts ≡ 451
unfolding layouts number
layouts_size = refl

formats_long : length formats ≡ 2062
unfolding formats number
formats_long = refl

names_size : (S : ScenarioContents) (events : List KernelEvent) → IsScenario S → length S.works ≤ 256 → length (names S events) ≤ 2 ^ 24
unfolding names
names_size S events is few =
    let f = function_lines S (length S.works) in
    let t = task_lines S events PIDS in
    let a = sized w32 f in
    let b = number w32 0 in
    let c = sized w64 t in
    let d = number w32 (cpus_traced S events) in
    let last : length FLYRECORD.now ≡ 10 = refl in
    omega (
      arith,
      few,
      last,
      functions_few S is (length S.works),
      tasks_few S events is PIDS,
      length-append (a ++ b ++ c ++ d) FLYRECORD.now,
      length-append (a ++ b ++ c) d,
      length-append (a ++ b) c,
      length-append a b,
      length-append (number w32 (length f)) f,
      length-append (number w64 (length t)) t,
      wide32.long (length f),
      wide64.long (length t),
      wide32.long 0,
      wide32.long (cpus_traced S events),
    )

head_size : (S : ScenarioContents) (events : List KernelEvent) → IsScenario S → length S.works ≤ 256 → length (head S events) ≤ 2 ^ 25
head_size S events is few =
    omega (
      arith,
      kind_size,
      layouts_size,
      formats_long,
      names_size S events is few,
      length-append (kind ++ layouts ++ formats) (names S events),
      length-append (kind ++ layouts) formats,
      length-append kind layouts,
    )

below_size : (S : ScenarioContents) (events : List KernelEvent) → ((cpu : ℕ) → length (cpu_pages S events cpu) ≤ 2 ^ 52) → (cpus : ℕ)
    → length (pages_below S events cpus) ≤ 2 ^ 52 * cpus
below_size S events each zero = omega arith
below_size S events each (suc cpu) =
    omega (arith, below_size S events each cpu, each cpu, length-append (pages_below S events cpu) (cpu_pages S events cpu))

few_traced : (S : ScenarioContents) (events : List KernelEvent) → S.cpus ≤ 16 → cpus_traced S events ≤ 17
few_traced S events few =
    cond_both (list_any (λ one. is_on S S.cpus one) events) (S.cpus + 1) S.cpus (λ n. n ≤ 17) (λ is. omega (arith, few)) (λ isnt. omega (arith, few))

file_size : (S : ScenarioContents) (events : List KernelEvent) → CanBeTold S events → length (dat_bytes S events) < 2 ^ 64
unfolding dat_bytes
file_size S events can =
    let cpus = cpus_traced S events in
    let before = head S events in
    let start = pages_start S events in
    let table = places S events start cpus in
    let free = replicate {A = ℕ} (start - (length before + 16 * cpus)) 0 in
    let left : length free ≡ start - (length before + 16 * cpus) = length-replicate (start - (length before + 16 * cpus)) 0 in
    let each : (cpu : ℕ) → length (cpu_pages S events cpu) ≤ 2 ^ 52 =
    λ cpu. omega (arith, can.few, cpu_size S events cpu (queues_short S can.contents) can.tellable (rises-filter (is_on S cpu) 0 events can.rises)) in
    omega (
      arith,
      left,
      below_size S events each cpus,
      few_traced S events can.cpus,
      head_size S events can.contents can.works,
      places-size S events start cpus,
      length-append (before ++ table ++ free) (pages_below S events cpus),
      length-append (before ++ table) free,
      length-append before table,
    )

pub file_again : (S : ScenarioContents) (events : List KernelEvent) → CanBeTold S events → file_read (dat_bytes S events) ≡ told_by_cpus S events
file_again S events can =
    room_again S events
    (record {
      cpus = can.cpus;
      names = queues_short S can.contents;
      tellable = can.tellable;
      head = omega (arith, head_size S events can.contents can.works);
      file = file_size S events can;
    }) can.rises
