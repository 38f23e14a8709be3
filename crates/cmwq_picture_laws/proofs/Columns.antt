-- Which ticks of a run a picture of some of its instructions has.
use Rattle.std.proofs.Common.{◌≡◌, ℕ, ◌<◌, ◌≤◌, Bool, true, false, cond, List, [], ◌∷◌, ◌++◌, append_assoc, Option, Some, arith, refl, ap, sym, ◌∙◌, subst}
use Rattle.std.proofs.lemmas.Bool.{and_left, and_right, and_from, le-leb, le-ltb, lt-leb, lt-ltb, ltb-true}
use Rattle.std.proofs.lemmas.List.{append-nil}
use Rattle.std.proofs.lemmas.List.Elements.{filter-append}
use Rattle.std.specs.List.{filter}
use Rattle.std.specs.Prelude.{nat_le, nat_lt}
use Rattle.cmwq_types.specs.Contents.{ScenarioContents}
use Rattle.cmwq_types.specs.declared.instr.Instr.{Instr}
use Rattle.cmwq_types.specs.declared.reply.Reply.{Reply}
use Rattle.cmwq_table.specs.Laws.{state_after}
use Rattle.cmwq_table.specs.State.{State, start}
use Rattle.cmwq_table.specs.Table.{after_all, run, table}
use Rattle.cmwq_table.proofs.RunLemmas.{after_all-append}
use Rattle.cmwq_table.specs.declared.state.Running.{Running}
use Rattle.cmwq_burning.proofs.Happening.{Happens, table-does}
use Rattle.cmwq_picture.specs.Picture.{columns, is_drawn, ticks_from}
use Rattle.cmwq_drawing.specs.declared.drawing.Span.{Span}
use Rattle.cmwq_picture_laws.specs.Signs.{ticks_of}

-- Ticks of a run of two parts.

ticks-append : (S : ScenarioContents) (s : State) (xs ys : List Instr) → ticks_from S s (xs ++ ys) ≡ ticks_from S s xs ++ ticks_from S (after_all S s xs) ys
ticks-append S s [] ys = refl
ticks-append S s (i ∷ xs) ys =
    let t = state_after S s i in
    let here : List State = cond (nat_lt s.time t.time) (s ∷ []) [] in
    ap (λ (us : List State). here ++ us) (ticks-append S t xs ys) ∙ sym (append_assoc here (ticks_from S t xs) (ticks_from S (after_all S t xs) ys))

-- Times.

happens-later : (S : ScenarioContents) (s : State) (running : List (Option Running)) (time : ℕ) (r : Reply) → Happens S s running time r → s.time ≤ time
happens-later S s running time r (Happens.nothing same still told) = omega arith
happens-later S s running time r (Happens.passes settled ticked later told) = omega arith
happens-later S s running time r (Happens.moves w e q h set still tells changes) = omega arith

table-later : (S : ScenarioContents) (s : State) (i : Instr) → s.time ≤ (state_after S s i).time
table-later S s i = happens-later S s (state_after S s i).running (state_after S s i).time (table S s i).1 (table-does S s i)

all-later : (S : ScenarioContents) (s : State) (is : List Instr) → s.time ≤ (after_all S s is).time
all-later S s [] = omega arith
all-later S s (i ∷ is) = (let rest : (state_after S s i).time ≤ (after_all S (state_after S s i) is).time = all-later S (state_after S s i) is in omega (arith, table-later S s i))

-- each of the ticks is at one of these times
abbrev Within : ℕ → ℕ → List State → Type 0
Within low high [] = Unit {0}
Within low high (s ∷ states) = (low ≤ s.time) × (s.time < high) × Within low high states

within-append : (low high : ℕ) (xs ys : List State) → Within low high xs → Within low high ys → Within low high (xs ++ ys)
within-append low high [] ys here there = there
within-append low high (s ∷ xs) ys here there = (here.0, here.1, within-append low high xs ys here.2 there)

within-wider : (low lower high : ℕ) (xs : List State) → lower ≤ low → Within low high xs → Within lower high xs
within-wider low lower high [] h here = tt
within-wider low lower high (s ∷ xs) h here = (omega (arith, here.0), here.1, within-wider low lower high xs h here.2)

tick-within : (s : State) (next high : ℕ) (b : Bool) → (b ≡ true → s.time < next) → next ≤ high → Within s.time high (cond b (s ∷ []) [])
tick-within s next high true passes h = (omega arith, omega (arith, passes refl), tt)
tick-within s next high false passes h = tt

ticks-within : (S : ScenarioContents) (s : State) (is : List Instr) → Within s.time (after_all S s is).time (ticks_from S s is)
ticks-within S s [] = tt
ticks-within S s (i ∷ is) =
    let t = state_after S s i in
    within-append s.time (after_all S t is).time (cond (nat_lt s.time t.time) (s ∷ []) []) (ticks_from S t is)
    (tick-within s t.time (after_all S t is).time (nat_lt s.time t.time) (λ e. ltb-true s.time t.time e) (all-later S t is))
    (within-wider t.time s.time (after_all S t is).time (ticks_from S t is) (table-later S s i) (ticks-within S t is))

-- What is drawn of them.

-- the span from one time to another
abbrev between : ℕ → ℕ → Span
between low high = record { from = Some low; to = Some high }

drawn-first : (low high : ℕ) (s : State) (states : List State) (b : Bool) → is_drawn (between low high) s.time ≡ b
    → filter (λ u. is_drawn (between low high) u.time) (s ∷ states) ≡ cond b (s ∷ filter (λ u. is_drawn (between low high) u.time) states) (filter (λ u. is_drawn (between low high) u.time) states)
drawn-first low high s states b is =
    ap (λ (c : Bool). cond c (s ∷ filter (λ u. is_drawn (between low high) u.time) states) (filter (λ u. is_drawn (between low high) u.time) states)) is

drawn-within : (low high : ℕ) (states : List State) → Within low high states → filter (λ u. is_drawn (between low high) u.time) states ≡ states
drawn-within low high [] within = refl
drawn-within low high (s ∷ states) within =
    drawn-first low high s states true (and_from (nat_le low s.time) (nat_lt s.time high) (le-leb low s.time within.0) (lt-ltb s.time high within.1))
    ∙ ap (λ (rest : List State). s ∷ rest) (drawn-within low high states within.2)

drawn-before : (lower low high : ℕ) (states : List State) → Within lower low states → filter (λ u. is_drawn (between low high) u.time) states ≡ []
drawn-before lower low high [] within = refl
drawn-before lower low high (s ∷ states) within =
    drawn-first low high s states false (and_left (nat_le low s.time) (nat_lt s.time high) (lt-leb low s.time within.1)) ∙ drawn-before lower low high states within.2

drawn-after : (low high higher : ℕ) (states : List State) → Within high higher states → filter (λ u. is_drawn (between low high) u.time) states ≡ []
drawn-after low high higher [] within = refl
drawn-after low high higher (s ∷ states) within =
    drawn-first low high s states false (and_right (nat_le low s.time) (nat_lt s.time high) (le-ltb s.time high within.0)) ∙ drawn-after low high higher states within.2

-- of a run of three parts a picture from the end of the first to that of the second has the ticks of the second
drawn-second : (S : ScenarioContents) (xs ys zs : List Instr)
    → columns S (xs ++ (ys ++ zs)) (between (run S xs).time (after_all S (run S xs) ys).time) ≡ ticks_from S (run S xs) ys
drawn-second S xs ys zs =
    let s = run S xs in
    let t = after_all S s ys in
    let span : Span = between s.time t.time in
    let test = λ (u : State). is_drawn span u.time in
    let first = ticks_from S (start S) xs in
    let second = ticks_from S s ys in
    let third = ticks_from S t zs in
    let parts : ticks_from S (start S) (xs ++ (ys ++ zs)) ≡ first ++ (second ++ third) = ticks-append S (start S) xs (ys ++ zs) ∙ ap (λ (us : List State). first ++ us) (ticks-append S s ys zs) in
    let none_before : filter test first ≡ [] = drawn-before (start S).time s.time t.time first (ticks-within S (start S) xs) in
    let all_then : filter test second ≡ second = drawn-within s.time t.time second (ticks-within S s ys) in
    let none_after : filter test third ≡ [] = drawn-after s.time t.time (after_all S t zs).time third (ticks-within S t zs) in
    ap (filter test) parts
    ∙ (filter-append test first (second ++ third)
    ∙ (ap (λ (us : List State). us ++ filter test (second ++ third)) none_before
    ∙ (filter-append test second third
    ∙ (ap (λ (us : List State). us ++ filter test third) all_then ∙ (ap (λ (us : List State). second ++ us) none_after ∙ append-nil second)))))

-- the picture of an instance has the ticks that pass while it is under way
pub columns-during : (S : ScenarioContents) (before : List Instr) (first : Instr) (during : List Instr) (last : Instr) (later : List Instr)
    → columns S (before ++ first ∷ during ++ last ∷ later) (ticks_of S before first during) ≡ ticks_from S (state_after S (run S before) first) during
columns-during S before first during last later =
    let rest : List Instr = last ∷ later in
    let begun : List Instr = before ++ first ∷ [] in
    let whole : before ++ first ∷ during ++ rest ≡ begun ++ (during ++ rest) = append_assoc before (first ∷ during) rest ∙ sym (append_assoc before (first ∷ []) (during ++ rest)) in
    let at : run S begun ≡ state_after S (run S before) first = after_all-append S (start S) before (first ∷ []) in
    ap (λ (instrs : List Instr). columns S instrs (ticks_of S before first during)) whole
    ∙ subst (λ (s : State). columns S (begun ++ (during ++ rest)) (between s.time (after_all S s during).time) ≡ ticks_from S s during) at (drawn-second S begun during rest)
