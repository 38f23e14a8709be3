-- What is written of an event is read again.
use Rattle.std.proofs.Common.{◌≡◌, ℕ, ◌+◌, ◌-◌, ◌*◌, ◌/◌, ◌%◌, ◌^◌, ◌<◌, ◌≤◌, Bool, true, false, cond, inl, inr, List, [], ◌∷◌, ◌++◌, length, take, drop, replicate, nat_eq, nat_lt, refl, sym, ap, subst, ◌∙◌, append_assoc, append-nil, arith}
use Rattle.std.proofs.lemmas.Bool.{cond-true, cond-false, cases_lt, eq-eqb, le-ltb, lt-ltb, ne_eqb}
use Rattle.std.proofs.lemmas.List.{length-append, length-replicate, take_at, drop_at}
use Rattle.std.proofs.lemmas.Nat.{from_le_bytes-to_le_bytes_2, from_le_bytes-to_le_bytes_4, from_le_bytes-to_le_bytes_8}
use Rattle.std.specs.Int.{Width, w16, w32, w64, byte_len, from_le_bytes, next_multiple_of}
use Rattle.cmwq_types.specs.Contents.{ScenarioContents}
use Rattle.cmwq_types.specs.Scenario.{is_unbound, queue_at, queue_of}
use Rattle.cmwq_events.specs.KernelTasks.{task_pid}
use Rattle.cmwq_events.specs.declared.kernel_event.KernelEvent.{KernelEvent}
use Rattle.cmwq_events.specs.declared.kernel_event.Tracepoint.{Tracepoint}
use Rattle.cmwq_events.specs.declared.kernel_event.Tracepoint.TheVariants as tracepoint
use Rattle.cmwq_trace_data.specs.Entries.{entry, event_fields, event_id, function_address, nanoseconds, number, payload, queue_fields, queued_cpu, stamp, text_place, word_filled, work_address}
use Rattle.cmwq_trace_data.specs.Reading.{HasFields, HasShortNames, IsTellable, ExecuteEnd, ExecuteStart, QueueWork, ReadEvent, entry_read, event_read, event_with, fields_read, fields_told, queue_read, read, stamped_read}

-- Numbers.

-- a width, and what it can hold
pub record IsWide (width : Width) (limit : ℕ) : Type 0 where
  pub long : (n : ℕ) → length (number width n) ≡ byte_len width
  pub again : (n : ℕ) → n < limit → from_le_bytes width (number width n) ≡ n

pub wide16 : IsWide w16 (2 ^ 16)
unfolding number
wide16 = record { long = λ n. refl; again = from_le_bytes-to_le_bytes_2 }

pub wide32 : IsWide w32 (2 ^ 32)
unfolding number
wide32 = record { long = λ n. refl; again = from_le_bytes-to_le_bytes_4 }

pub wide64 : IsWide w64 (2 ^ 64)
unfolding number
wide64 = record { long = λ n. refl; again = from_le_bytes-to_le_bytes_8 }

-- a number that was written is read, and then what is behind it
pub read_is : {A : Type 0} (width : Width) (limit : ℕ) → IsWide width limit → (next : ℕ → List ℕ → A) (n : ℕ) (rest : List ℕ) → n < limit
    → read width next (number width n ++ rest) ≡ next n rest
read_is {A} width limit wide next n rest fits =
    let front : take (byte_len width) (number width n ++ rest) ≡ number width n = take_at (number width n) rest (byte_len width) (wide.long n) in
    let back : drop (byte_len width) (number width n ++ rest) ≡ rest = drop_at (number width n) rest (byte_len width) (wide.long n) in
    ap (λ (b : List ℕ). next (from_le_bytes width b) (drop (byte_len width) (number width n ++ rest))) front
    ∙ ap (λ (b : List ℕ). next (from_le_bytes width (number width n)) b) back ∙ ap (λ m. next m rest) (wide.again n fits)

read16 : {A : Type 0} (next : ℕ → List ℕ → A) (n : ℕ) (rest : List ℕ) → n < 2 ^ 16 → read w16 next (number w16 n ++ rest) ≡ next n rest
read16 next n rest fits = read_is w16 (2 ^ 16) wide16 next n rest fits

pub read32 : {A : Type 0} (next : ℕ → List ℕ → A) (n : ℕ) (rest : List ℕ) → n < 2 ^ 32 → read w32 next (number w32 n ++ rest) ≡ next n rest
read32 next n rest fits = read_is w32 (2 ^ 32) wide32 next n rest fits

pub read64 : {A : Type 0} (next : ℕ → List ℕ → A) (n : ℕ) (rest : List ℕ) → n < 2 ^ 64 → read w64 next (number w64 n ++ rest) ≡ next n rest
read64 next n rest fits = read_is w64 (2 ^ 64) wide64 next n rest fits

-- one that stands last
read64_last : {A : Type 0} (next : ℕ → List ℕ → A) (n : ℕ) → n < 2 ^ 64 → read w64 next (number w64 n) ≡ next n []
read64_last next n fits = ap (read w64 next) (sym (append-nil (number w64 n))) ∙ read64 next n [] fits

pub right3 : (a b c : List ℕ) → a ++ b ++ c ≡ a ++ (b ++ c)
right3 a b c = append_assoc a b c

pub right4 : (a b c d : List ℕ) → a ++ b ++ c ++ d ≡ a ++ (b ++ (c ++ d))
right4 a b c d = append_assoc (a ++ b) c d ∙ append_assoc a b (c ++ d)

-- Fields.

some_fits : (b : Bool) (n : ℕ) → n < 2 ^ 32 → cond b 4294967295 n < 2 ^ 32
some_fits true n small = omega arith
some_fits false n small = small

queued_fits : (S : ScenarioContents) (pool : ℕ) → pool < 2 ^ 8 → queued_cpu S pool < 2 ^ 32
queued_fits S pool small = some_fits (is_unbound S pool) (pool / 2) (omega (arith, small))

text_read : (name : List ℕ) → length name ≤ 15
    → take (text_place 36 name / 65536 - 1) (drop (text_place 36 name % 65536 - 36) (word_filled name)) ≡ name
text_read name short =
    let place : text_place 36 name % 65536 - 36 ≡ 0 = omega (arith, short) in
    let size : length name ≡ text_place 36 name / 65536 - 1 = omega (arith, short) in
    ap (λ n. take (text_place 36 name / 65536 - 1) (drop n (word_filled name))) place
    ∙ take_at name (replicate (next_multiple_of (length name + 1) 4 - length name) 0) (text_place 36 name / 65536 - 1) size

queue_again : (S : ScenarioContents) (w cpu pool : ℕ) → HasShortNames S → w < 2 ^ 16 → cpu < 2 ^ 8 → pool < 2 ^ 8
    → read w32 (λ place. read w32 (λ req_cpu. read w32 (λ cpu. queue_read (work_address w) (function_address w) place req_cpu cpu)))
    (queue_fields S w cpu pool) ≡ fields_told S w (tracepoint.QueueWork cpu pool)
queue_again S w cpu pool names work cpu_fits pool_fits =
    let name = (queue_at S (queue_of S w)).name in
    let queued = queued_cpu S pool in
    let made = queue_read (work_address w) (function_address w) in
    let short : length name ≤ 15 = names (queue_of S w) in
    ap (read w32 (λ place. read w32 (λ req_cpu. read w32 (λ c. made place req_cpu c))))
    (right4 (number w32 (text_place 36 name)) (number w32 cpu) (number w32 queued) (word_filled name))
    ∙ read32 (λ place. read w32 (λ req_cpu. read w32 (λ c. made place req_cpu c))) (text_place 36 name)
    (number w32 cpu ++ (number w32 queued ++ word_filled name)) (omega (arith, short))
    ∙ read32 (λ req_cpu. read w32 (λ c. made (text_place 36 name) req_cpu c)) cpu (number w32 queued ++ word_filled name) (omega (arith, cpu_fits))
    ∙ read32 (λ c. made (text_place 36 name) cpu c) queued (word_filled name) (queued_fits S pool pool_fits)
    ∙ ap (λ (t : List ℕ). QueueWork (work_address w) (function_address w) t cpu queued) (text_read name short)

fields_again : (S : ScenarioContents) (w : ℕ) (at : Tracepoint) → HasShortNames S → w < 2 ^ 16 → HasFields at
    → read w64 (λ work rest. fields_read (event_id at) work rest) (event_fields S w at) ≡ fields_told S w at
fields_again S w (tracepoint.QueueWork cpu pool) names work has =
    ap (read w64 (λ x rest. fields_read 101 x rest))
    (right3 (number w64 (work_address w)) (number w64 (function_address w)) (queue_fields S w cpu pool))
    ∙ read64 (λ x rest. fields_read 101 x rest) (work_address w) (number w64 (function_address w) ++ queue_fields S w cpu pool) (omega (arith, work))
    ∙ read64 (λ function. read w32 (λ place. read w32 (λ req_cpu. read w32 (λ c. queue_read (work_address w) function place req_cpu c))))
    (function_address w) (queue_fields S w cpu pool) (omega (arith, work))
    ∙ queue_again S w cpu pool names work has.0 has.1
fields_again S w tracepoint.ActivateWork names work has = read64_last (λ x rest. fields_read 102 x rest) (work_address w) (omega (arith, work))
fields_again S w tracepoint.ExecuteStart names work has =
    read64 (λ x rest. fields_read 103 x rest) (work_address w) (number w64 (function_address w)) (omega (arith, work))
    ∙ read64_last (λ function rest. ExecuteStart (work_address w) function) (function_address w) (omega (arith, work))
fields_again S w tracepoint.ExecuteEnd names work has =
    read64 (λ x rest. fields_read 104 x rest) (work_address w) (number w64 (function_address w)) (omega (arith, work))
    ∙ read64_last (λ function rest. ExecuteEnd (work_address w) function) (function_address w) (omega (arith, work))

id_fits : (at : Tracepoint) → event_id at < 2 ^ 16
id_fits (tracepoint.QueueWork cpu pool) = omega arith
id_fits tracepoint.ActivateWork = omega arith
id_fits tracepoint.ExecuteStart = omega arith
id_fits tracepoint.ExecuteEnd = omega arith

pub event_again : (S : ScenarioContents) (time : ℕ) (e : KernelEvent) → HasShortNames S → IsTellable e
    → event_read time (payload S e) ≡ event_with time (task_pid e.task) (fields_told S e.work.0 e.tracepoint)
event_again S time e names fits =
    let id = event_id e.tracepoint in
    let pid = task_pid e.task in
    let fields = event_fields S e.work.0 e.tracepoint in
    ap (event_read time) (right4 (number w16 id) (number w16 0) (number w32 pid) fields)
    ∙ read16 (λ i. read w16 (λ flags. read w32 (λ p. read w64 (λ work rest. event_with time p (fields_read i work rest))))) id
    (number w16 0 ++ (number w32 pid ++ fields)) (id_fits e.tracepoint)
    ∙ read16 (λ flags. read w32 (λ p. read w64 (λ work rest. event_with time p (fields_read id work rest)))) 0 (number w32 pid ++ fields) (omega arith)
    ∙ read32 (λ p. read w64 (λ work rest. event_with time p (fields_read id work rest))) pid fields fits.pid
    ∙ ap (event_with time pid) (fields_again S e.work.0 e.tracepoint names fits.work fits.fields)

-- Entries.

-- so many bytes are whole words, and few
pub record HasWords (size : ℕ) : Type 0 where
  pub whole : size % 4 ≡ 0
  pub few : size ≤ 64

filled_size : (name : List ℕ) → length name ≤ 15 → HasWords (length (word_filled name) + 44)
filled_size name short =
    let size : length (word_filled name) ≡ length name + (next_multiple_of (length name + 1) 4 - length name) =
    length-append name (replicate (next_multiple_of (length name + 1) 4 - length name) 0)
    ∙ ap (λ n. length name + n) (length-replicate (next_multiple_of (length name + 1) 4 - length name) 0) in
    record { whole = omega (arith, size, short); few = omega (arith, size, short) }

queue_size : (S : ScenarioContents) (w cpu pool : ℕ) → HasShortNames S → HasWords (length (queue_fields S w cpu pool) + 32)
queue_size S w cpu pool names =
    let name = (queue_at S (queue_of S w)).name in
    let a = number w32 (text_place 36 name) in
    let b = number w32 cpu in
    let c = number w32 (queued_cpu S pool) in
    let size : length (queue_fields S w cpu pool) + 32 ≡ length (word_filled name) + 44 =
    omega (
      arith,
      length-append (a ++ b ++ c) (word_filled name),
      length-append (a ++ b) c,
      length-append a b,
      wide32.long (text_place 36 name),
      wide32.long cpu,
      wide32.long (queued_cpu S pool),
    ) in
    subst HasWords (sym size) (filled_size name (names (queue_of S w)))

two_size : (w : ℕ) → HasWords (length (number w64 (work_address w) ++ number w64 (function_address w)) + 8)
two_size w =
    let a = number w64 (work_address w) in
    let b = number w64 (function_address w) in
    let size : length (a ++ b) ≡ 16 = omega (arith, length-append a b, wide64.long (work_address w), wide64.long (function_address w)) in
    record { whole = omega (arith, size); few = omega (arith, size) }

fields_size : (S : ScenarioContents) (w : ℕ) (at : Tracepoint) → HasShortNames S → HasWords (length (event_fields S w at) + 8)
fields_size S w (tracepoint.QueueWork cpu pool) names =
    let a = number w64 (work_address w) in
    let b = number w64 (function_address w) in
    let q = queue_size S w cpu pool names in
    let size : length (queue_fields S w cpu pool) + 32 ≡ length (event_fields S w (tracepoint.QueueWork cpu pool)) + 16 =
    omega (arith, length-append (a ++ b) (queue_fields S w cpu pool), length-append a b, wide64.long (work_address w), wide64.long (function_address w)) in
    record { whole = omega (arith, q.whole, size); few = omega (arith, q.few, size) }
fields_size S w tracepoint.ActivateWork names =
    record { whole = omega (arith, wide64.long (work_address w)); few = omega (arith, wide64.long (work_address w)) }
fields_size S w tracepoint.ExecuteStart names = two_size w
fields_size S w tracepoint.ExecuteEnd names = two_size w

-- a payload is whole words
payload_size : (S : ScenarioContents) (e : KernelEvent) → HasShortNames S → HasWords (length (payload S e))
payload_size S e names =
    let a = number w16 (event_id e.tracepoint) in
    let b = number w16 0 in
    let c = number w32 (task_pid e.task) in
    let f = event_fields S e.work.0 e.tracepoint in
    let size : length f + 8 ≡ length (payload S e) =
    omega (
      arith,
      length-append (a ++ b ++ c) f,
      length-append (a ++ b) c,
      length-append a b,
      wide16.long (event_id e.tracepoint),
      wide16.long 0,
      wide32.long (task_pid e.task),
    ) in
    subst HasWords size (fields_size S e.work.0 e.tracepoint names)

pub payload_words : (S : ScenarioContents) (e : KernelEvent) → HasShortNames S → length (payload S e) ≡ 4 * (length (payload S e) / 4)
payload_words S e names = omega (arith, (payload_size S e names).whole)

pub payload_few : (S : ScenarioContents) (e : KernelEvent) → HasShortNames S → length (payload S e) / 4 ≤ 16
payload_few S e names = omega (arith, (payload_size S e names).few)

both_few : (b : Bool) (x y : List ℕ) → length x ≤ 12 → length y ≤ 12 → length (cond b x y) ≤ 12
both_few true x y left right = left
both_few false x y left right = right

-- a choice, applied
chosen_true : {A B : Type 0} (b : Bool) (f g : A → B) (x : A) → b ≡ true → cond b f g x ≡ f x
chosen_true {A} {B} b f g x is = ap (λ (c : Bool). cond c f g x) is

chosen_false : {A B : Type 0} (b : Bool) (f g : A → B) (x : A) → b ≡ false → cond b f g x ≡ g x
chosen_false {A} {B} b f g x is = ap (λ (c : Bool). cond c f g x) is

-- what is read behind the word before an event, and behind an extension
abbrev behind_stamp : (ℕ → List ℕ → List ReadEvent) → ℕ → ℕ → List ℕ → List ReadEvent
behind_stamp next time stamp rest =
    cond (nat_eq (stamp % 32) 30)
    (read w32 (λ high. read w32 (λ word. entry_read next (time + (stamp / 32 + 2 ^ 27 * high) + word / 32) (word % 32))))
    (entry_read next (time + stamp / 32) (stamp % 32)) rest

stamp_short : (next : ℕ → List ℕ → List ReadEvent) (time words delta : ℕ) (rest : List ℕ) → words ≤ 16 → delta < 2 ^ 27
    → stamped_read next time (stamp words delta ++ rest) ≡ entry_read next (time + delta) words rest
stamp_short next time words delta rest few less =
    let v = words + 32 * delta in
    let long = number w32 (30 + 32 * (delta % 2 ^ 27)) ++ number w32 (delta / 2 ^ 27) ++ number w32 words in
    let kind : v % 32 ≡ words = omega (arith, few) in
    let since : v / 32 ≡ delta = omega (arith, few) in
    ap (λ (b : List ℕ). stamped_read next time (b ++ rest)) (cond-true (nat_lt delta (2 ^ 27)) (number w32 v) long (lt-ltb delta (2 ^ 27) less))
    ∙ read32 (behind_stamp next time) v rest (omega (arith, few, less))
    ∙ chosen_false (nat_eq (v % 32) 30)
    (read w32 (λ high. read w32 (λ word. entry_read next (time + (v / 32 + 2 ^ 27 * high) + word / 32) (word % 32))))
    (entry_read next (time + v / 32) (v % 32)) rest (ne_eqb (v % 32) 30 (λ is. omega (arith, few, is, kind)))
    ∙ ap (λ n. entry_read next (time + n) (v % 32) rest) since ∙ ap (λ n. entry_read next (time + delta) n rest) kind

stamp_long : (next : ℕ → List ℕ → List ReadEvent) (time words delta : ℕ) (rest : List ℕ) → words ≤ 16 → 2 ^ 27 ≤ delta → delta ≤ 2 ^ 53
    → stamped_read next time (stamp words delta ++ rest) ≡ entry_read next (time + delta) words rest
stamp_long next time words delta rest few more small =
    let v = 30 + 32 * (delta % 2 ^ 27) in
    let high = delta / 2 ^ 27 in
    let long = number w32 v ++ number w32 high ++ number w32 words in
    let behind = λ (h word : ℕ). entry_read next (time + (v / 32 + 2 ^ 27 * h) + word / 32) (word % 32) in
    let kind : v % 32 ≡ 30 = omega arith in
    let since : time + (v / 32 + 2 ^ 27 * high) + words / 32 ≡ time + delta = omega (arith, few) in
    let size : words % 32 ≡ words = omega (arith, few) in
    ap (λ (b : List ℕ). stamped_read next time (b ++ rest)) (cond-false (nat_lt delta (2 ^ 27)) (number w32 (words + 32 * delta)) long (le-ltb delta (2 ^ 27) more))
    ∙ ap (stamped_read next time) (right4 (number w32 v) (number w32 high) (number w32 words) rest)
    ∙ read32 (behind_stamp next time) v (number w32 high ++ (number w32 words ++ rest)) (omega arith)
    ∙ chosen_true (nat_eq (v % 32) 30) (read w32 (λ h. read w32 (behind h))) (entry_read next (time + v / 32) (v % 32))
    (number w32 high ++ (number w32 words ++ rest)) (eq-eqb (v % 32) 30 kind)
    ∙ read32 (λ h. read w32 (behind h)) high (number w32 words ++ rest) (omega (arith, small)) ∙ read32 (behind high) words rest (omega (arith, few))
    ∙ ap (λ n. entry_read next n (words % 32) rest) since ∙ ap (λ n. entry_read next (time + delta) n rest) size

-- behind the stamp stands the event, so many nanoseconds later
stamp_again : (next : ℕ → List ℕ → List ReadEvent) (time words delta : ℕ) (rest : List ℕ) → words ≤ 16 → delta ≤ 2 ^ 53
    → stamped_read next time (stamp words delta ++ rest) ≡ entry_read next (time + delta) words rest
stamp_again next time words delta rest few small =
    elim (cases_lt delta (2 ^ 27)) [
      | inl less ↦ stamp_short next time words delta rest few less
      | inr more ↦ stamp_long next time words delta rest few more small
    ]

-- a stamp has three words at most
stamp_few : (words delta : ℕ) → length (stamp words delta) ≤ 12
unfolding number
stamp_few words delta = both_few (nat_lt delta (2 ^ 27)) _ _ (omega arith) (omega arith)

-- the entry of an event, and what is behind it
pub entry_again : (S : ScenarioContents) (next : ℕ → List ℕ → List ReadEvent) (time ticks : ℕ) (e : KernelEvent) (rest : List ℕ) → HasShortNames S
    → IsTellable e → ticks ≤ 2 ^ 32
    → stamped_read next time (entry S ticks e ++ rest)
    ≡ event_with (time + nanoseconds ticks) (task_pid e.task) (fields_told S e.work.0 e.tracepoint) ∷ next (time + nanoseconds ticks) rest
entry_again S next time ticks e rest names fits near =
    let p = payload S e in
    let words = length p / 4 in
    let now = time + nanoseconds ticks in
    ap (stamped_read next time) (append_assoc (stamp words (nanoseconds ticks)) p rest)
    ∙ stamp_again next time words (nanoseconds ticks) (p ++ rest) (payload_few S e names) (omega (arith, near))
    ∙ ap (λ (b : List ℕ). event_read now b ∷ next now (drop (4 * words) (p ++ rest))) (take_at p rest (4 * words) (payload_words S e names))
    ∙ ap (λ (b : List ℕ). event_read now p ∷ next now b) (drop_at p rest (4 * words) (payload_words S e names))
    ∙ ap (λ (x : ReadEvent). x ∷ next now rest) (event_again S now e names fits)

-- no entry is long
pub entry_few : (S : ScenarioContents) (ticks : ℕ) (e : KernelEvent) → HasShortNames S → length (entry S ticks e) ≤ 80
entry_few S ticks e names =
    let p = payload S e in
    let words = stamp (length p / 4) (nanoseconds ticks) in
    omega (arith, stamp_few (length p / 4) (nanoseconds ticks), length-append words p, (payload_size S e names).few)
