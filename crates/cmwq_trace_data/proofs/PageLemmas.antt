-- Pages as they are written are those of the definition.
use Rattle.std.proofs.Common.{◌≡◌, ℕ, ◌+◌, ◌-◌, ◌/◌, ◌^◌, ◌<◌, ◌&&◌, Bool, true, false, not, cond, List, [], ◌∷◌, ◌++◌, length, nat_eq, nat_lt, nat_le, refl, sym, ap, ◌∙◌, append_assoc, append-nil, arith}
use Rattle.std.proofs.lemmas.Bool.{cond-false, ne_eqb}
use Rattle.std.proofs.lemmas.List.{length-append}
use Rattle.std.specs.List.{flat_map}
use Rattle.cmwq_types.specs.Contents.{ScenarioContents}
use Rattle.cmwq_events.specs.declared.kernel_event.KernelEvent.{KernelEvent}
use Rattle.cmwq_trace_data.specs.Entries.{entry, nanoseconds, number, payload, stamp}
use Rattle.cmwq_trace_data.specs.PageParts.{closed, fits, laid}
use Rattle.cmwq_trace_data.specs.Pages.{entries, has_room, page, page_bytes, page_entries, pages, pages_from}

-- the time of the last of some events, of which there may be none behind this time
abbrev pub last_time : ℕ → List KernelEvent → ℕ
last_time time [] = time
last_time time (e ∷ es) = last_time e.time es

some_either : (b : Bool) (x y : List ℕ) → 0 < length x → 0 < length y → 0 < length (cond b x y)
some_either true x y left right = left
some_either false x y left right = right

stamp_has : (words delta : ℕ) → 0 < length (stamp words delta)
unfolding number
stamp_has words delta = some_either (nat_lt delta (2 ^ 27)) _ _ (omega arith) (omega arith)

pub entry_has : (S : ScenarioContents) (ticks : ℕ) (e : KernelEvent) → 0 < length (entry S ticks e)
entry_has S ticks e =
    let words = stamp (length (payload S e) / 4) (nanoseconds ticks) in
    omega (arith, stamp_has (length (payload S e) / 4) (nanoseconds ticks), length-append words (payload S e))

pub entries-append : (S : ScenarioContents) (time : ℕ) (es : List KernelEvent) (e : KernelEvent)
    → entries S time (es ++ e ∷ []) ≡ entries S time es ++ entry S (e.time - last_time time es) e
entries-append S time [] e = append-nil (entry S (e.time - time) e)
entries-append S time (f ∷ es) e =
    ap (λ (b : List ℕ). entry S (f.time - time) f ++ b) (entries-append S f.time es e)
    ∙ sym (append_assoc (entry S (f.time - time) f) (entries S f.time es) (entry S (e.time - last_time f.time es) e))

last_time-append : (time : ℕ) (es : List KernelEvent) (e : KernelEvent) → last_time time (es ++ e ∷ []) ≡ e.time
last_time-append time [] e = refl
last_time-append time (f ∷ es) e = last_time-append f.time es e

page_has : (S : ScenarioContents) (first : KernelEvent) (more : List KernelEvent) → 0 < length (page_entries S (first ∷ more))
page_has S first more =
    let one = entry S (first.time - first.time) first in
    omega (arith, entry_has S (first.time - first.time) first, length-append one (entries S first.time more))

true-not-false : true ≡ false → ⊥
true-not-false same = cc

-- a choice of pages, as bytes
chosen : {A : Type 0} (write : A → List ℕ) (a b : Bool) (x y : List ℕ) (p q : List A) → a ≡ b → x ≡ flat_map write p → y ≡ flat_map write q
    → cond a x y ≡ flat_map write (cond b p q)
chosen write true true x y p q same left right = left
chosen write false false x y p q same left right = right
chosen write true false x y p q same left right = absurd (true-not-false same)
chosen write false true x y p q same left right = absurd (true-not-false (sym same))

nonzero : (n : ℕ) → 0 < n → nat_eq n 0 ≡ false
nonzero n some = ne_eqb n 0 (λ none. omega (arith, some, none))

closed_is : (since : ℕ) (bytes : List ℕ) → 0 < length bytes → closed since bytes ≡ page_bytes since bytes
closed_is since bytes some = cond-false (nat_eq (length bytes) 0) [] (page_bytes since bytes) (nonzero (length bytes) some)

fits_as : (there more all : ℕ) → 0 < there → there + more ≡ all → fits there more ≡ nat_le (all + 20) 4080
fits_as there more all some is =
    ap (λ b. not b && nat_le (there + more + 20) 4080) (nonzero there some) ∙ ap (λ n. nat_le (n + 20) 4080) is

begun : (S : ScenarioContents) (first : KernelEvent) → entry S 0 first ≡ page_entries S (first ∷ [])
begun S first =
    let none : first.time - first.time ≡ 0 = omega arith in
    rw none (sym (append-nil (entry S 0 first)))

pub laid_is : (S : ScenarioContents) (first : KernelEvent) (more es : List KernelEvent)
    → laid S first.time (last_time first.time more) (page_entries S (first ∷ more)) es ≡ flat_map (page S) (pages_from S (first ∷ more) es)
laid_is S first more [] =
    closed_is first.time (page_entries S (first ∷ more)) (page_has S first more) ∙ sym (append-nil (page S (first ∷ more)))
laid_is S first more (e ∷ es) =
    let there = page_entries S (first ∷ more) in
    let next = entry S (e.time - last_time first.time more) e in
    let longer : page_entries S (first ∷ (more ++ e ∷ [])) ≡ there ++ next = entries-append S first.time (first ∷ more) e in
    let last : last_time first.time (more ++ e ∷ []) ≡ e.time = last_time-append first.time more e in
    let room : fits (length there) (length next) ≡ has_room S (first ∷ more) e =
    fits_as (length there) (length next) (length (page_entries S (first ∷ (more ++ e ∷ [])))) (page_has S first more)
    (sym (length-append there next) ∙ ap length (sym longer)) in
    chosen (page S) (fits (length there) (length next)) (has_room S (first ∷ more) e)
    (laid S first.time e.time (there ++ next) es) (closed first.time there ++ laid S e.time e.time (entry S 0 e) es)
    (pages_from S (first ∷ (more ++ e ∷ [])) es) ((first ∷ more) ∷ pages_from S (e ∷ []) es) room
    (ap (λ (t : ℕ). laid S first.time t (there ++ next) es) (sym last)
    ∙ ap (λ (b : List ℕ). laid S first.time (last_time first.time (more ++ e ∷ [])) b es) (sym longer) ∙ laid_is S first (more ++ e ∷ []) es)
    (ap (λ (b : List ℕ). b ++ laid S e.time e.time (entry S 0 e) es) (closed_is first.time there (page_has S first more))
    ∙ ap (λ (b : List ℕ). page S (first ∷ more) ++ b) (ap (λ (b : List ℕ). laid S e.time e.time b es) (begun S e) ∙ laid_is S e [] es))

-- from no page on
pub laid_from_none : (S : ScenarioContents) (es : List KernelEvent) → laid S 0 0 [] es ≡ flat_map (page S) (pages S es)
laid_from_none S [] = refl
laid_from_none S (e ∷ es) = ap (λ (b : List ℕ). laid S e.time e.time b es) (begun S e) ∙ laid_is S e [] es
