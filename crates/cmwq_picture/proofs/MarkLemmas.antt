-- What marks of who set a timer tell, and where they stand.
use Rattle.std.proofs.Common.{◌≡◌, ◌⊎◌, inl, inr, ℕ, Bool, true, false, cond, ◌&&◌, ◌||◌, List, [], ◌∷◌, ◌++◌, Option, Some, None, arith, refl, sym, ap, ◌∙◌}
use Rattle.std.proofs.lemmas.Bool.{eqb-true}
use Rattle.std.proofs.lemmas.Bool.Decides.{nat_tests}
use Rattle.std.proofs.lemmas.List.Elements.{filter-append}
use Rattle.std.specs.List.{cons_option, list_any}
use Rattle.std.specs.Prelude.{◌==◌}
use Rattle.cmwq_types.specs.Contents.{ScenarioContents}
use Rattle.cmwq_types.specs.declared.instr.Instr.{Instr}
use Rattle.cmwq_types.specs.declared.instr.WorkId.{WorkId}
use Rattle.cmwq_types.specs.declared.reply.Event.{Event}
use Rattle.cmwq_types.specs.declared.reply.Mode.{Mode}
use Rattle.cmwq_types.specs.declared.reply.Mode.TheVariants.{Runnable, Asleep}
use Rattle.cmwq_types.specs.declared.reply.Reply.{Reply}
use Rattle.cmwq_types.specs.declared.reply.Reply.TheVariants as reply
use Rattle.cmwq_table.specs.Counts.{or_else}
use Rattle.cmwq_table.specs.Laws.{reply_to, state_after}
use Rattle.cmwq_table.specs.State.{State, pending_at, running_at, start}
use Rattle.cmwq_table.specs.Table.{after_all, run}
use Rattle.cmwq_table.specs.declared.state.Pending.{Pending}
use Rattle.cmwq_table.specs.declared.state.Running.{Running}
use Rattle.cmwq_picture.specs.Arming.{armed_work, armer, arming_by, arming_for, armings_from, in_tick, is_for, marked, new_arming}
use Rattle.cmwq_picture.specs.Picture.{Deeds, act_cell, burner_cell, cell, lasting_cell, mode_sign, pending_cell, run_or_pending, second_cell, work_sign, pending_sign}
use Rattle.cmwq_picture.specs.PictureOfRun.{armings, told_of_tick}
use Rattle.cmwq_picture.specs.declared.arming.Arming.{Arming}
use Rattle.cmwq_picture.specs.declared.cell.Cell.{Cell}
use Rattle.cmwq_picture.specs.declared.cell.Cell.TheVariants.{Does, Armed}
use Rattle.cmwq_picture.specs.declared.cell.Sign.TheVariants as sign
use Rattle.cmwq_picture.specs.declared.row.Title.TheVariants as title
use Rattle.cmwq_picture.proofs.ArmingLemmas.{armer-both}

-- What a mark tells of the cell that it stands in.

-- the work's own sign is none
abbrev IsPlain : Cell → Type 0
IsPlain (Armed by) = ⊥
IsPlain other = Unit {0}

mark-told : (o : Option WorkId) (c : Cell) (by : WorkId) → IsPlain c → marked o c ≡ Armed by → (o ≡ Some by) × (c ≡ Does sign.Timed)
mark-told (Some x) (Does sign.Timed) by plain e = (let same : x ≡ by = cc in (ap (λ (v : WorkId). Some v) same, refl))
mark-told (Some x) (Armed v) by plain e = absurd plain
mark-told (Some x) c by plain e = absurd cc
mark-told None (Armed v) by plain e = absurd plain
mark-told None c by plain e = absurd cc

pending-plain : (o : Option Pending) → IsPlain (pending_cell o)
pending-plain (Some p) = tt
pending-plain None = tt

work-plain : (S : ScenarioContents) (s : State) (w : ℕ) (o : Option Running) → IsPlain (run_or_pending S s w o)
work-plain S s w (Some r) = tt
work-plain S s w None = pending-plain (pending_at s w)

second-plain : (o : Option Running) (p : Option Pending) → IsPlain (second_cell o p)
second-plain (Some r) p = pending-plain p
second-plain None p = tt

-- the pending instance waits for a timer
abbrev pub IsOnTimer : Option Pending → Type 0
IsOnTimer p = pending_cell p ≡ Does sign.Timed

mode-not : (mode : Mode) → Does (mode_sign mode) ≡ Does sign.Timed → ⊥
mode-not Runnable e = cc
mode-not (Asleep until) e = cc

run-not : (b : Bool) (r : Running) → Does (cond b sign.Burns (mode_sign r.mode)) ≡ Does sign.Timed → ⊥
run-not true r e = cc
run-not false r e = mode-not r.mode e

work-waits : (S : ScenarioContents) (s : State) (w : ℕ) (o : Option Running) → run_or_pending S s w o ≡ Does sign.Timed → IsOnTimer (pending_at s w)
work-waits S s w (Some r) e = absurd (run-not _ r e)
work-waits S s w None e = e

second-waits : (o : Option Running) (p : Option Pending) → second_cell o p ≡ Does sign.Timed → IsOnTimer p
second-waits (Some r) p e = e
second-waits None p e = absurd cc

-- Who set it, among those that bodies set in a run.

-- one of these instructions sets it so, from a state that the run comes to
abbrev pub IsSetFrom : ScenarioContents → State → List Instr → ℕ → WorkId → WorkId → Type 0
IsSetFrom S s instrs time work by =
    (before : List Instr) × (moves : Instr) × (later : List Instr) × (event : Event) × (instrs ≡ before ++ moves ∷ later)
    × ((after_all S s before).time ≡ time) × (reply_to S (after_all S s before) moves ≡ reply.Event by event) × (armed_work event ≡ Some work)

behind : (S : ScenarioContents) (s : State) (i : Instr) (is : List Instr) (time : ℕ) (work by : WorkId) → IsSetFrom S (state_after S s i) is time work by
    → IsSetFrom S s (i ∷ is) time work by
behind S s i is time work by (before, moves, later, event, whole, then, told, sets) =
    (i ∷ before, moves, later, event, ap (λ (more : List Instr). i ∷ more) whole, then, told, sets)

-- what a timer that is set tells of the event
for-told : (time : ℕ) (by work : WorkId) (p : Option Pending) (x : Arming) → arming_for time by work p ≡ Some x → (x.time ≡ time) × (x.by ≡ by) × (x.work ≡ work)
for-told time by work (Some p) x e =
    let is : record { time = time; work = work; by = by; born = p.born } ≡ x = some-same e in
    (sym (ap (λ (y : Arming). y.time) is), sym (ap (λ (y : Arming). y.by) is), sym (ap (λ (y : Arming). y.work) is))
  where
    some-same : {A : Type 0} {a b : A} → Some a ≡ Some b → a ≡ b
    some-same e = cc
for-told time by work None x e = absurd cc

by-told : (time : ℕ) (t : State) (by : WorkId) (o : Option WorkId) (x : Arming) → arming_by time t by o ≡ Some x → (x.time ≡ time) × (x.by ≡ by) × (o ≡ Some x.work)
by-told time t by (Some work) x e =
    let told = for-told time by work (pending_at t work.0) x e in
    (told.0, told.1, ap (λ (w : WorkId). Some w) (sym told.2))
by-told time t by None x e = absurd cc

new-told : (time : ℕ) (t : State) (answer : Reply) (x : Arming) → new_arming time t answer ≡ Some x
    → (event : Event) × (answer ≡ reply.Event x.by event) × (armed_work event ≡ Some x.work) × (x.time ≡ time)
new-told time t (reply.Event by event) x e =
    let told = by-told time t by (armed_work event) x e in
    (event, ap (λ (b : WorkId). reply.Event b event) (sym told.1), told.2, told.0)
new-told time t other x e = absurd cc

is-for-work : (w : WorkId) (p : Option Pending) (x : Arming) → is_for w.0 p x ≡ true → x.work ≡ w
is-for-work w (Some p) x e = ap (λ (n : ℕ). record { 0 = n }) (eqb-true x.work.0 w.0 (first (x.work.0 == w.0) (x.born == p.born) e))
  where
    first : (a b : Bool) → (a && b) ≡ true → a ≡ true
    first true b e = refl
    first false b e = absurd cc
is-for-work w None x e = absurd cc

-- the last one that is for an instance is the first one, or one of the others
chosen : (o : Option WorkId) (b : Bool) (x by : WorkId) → or_else o (cond b (Some x) None) ≡ Some by → (o ≡ Some by) ⊎ ((b ≡ true) × (x ≡ by))
chosen (Some v) b x by e = inl e
chosen None true x by e = (let same : x ≡ by = cc in inr (refl, same))
chosen None false x by e = absurd cc

-- one that is in the tick, or isn't
in-tick-if : (b : Bool) (x : Arming) (xs : List Arming) (w : ℕ) (p : Option Pending) (by : WorkId) → armer (cond b (x ∷ xs) xs) w p ≡ Some by
    → (armer xs w p ≡ Some by) ⊎ ((b ≡ true) × (is_for w p x ≡ true) × (x.by ≡ by))
in-tick-if true x xs w p by e =
    elim (chosen (armer xs w p) (is_for w p x) x.by by e) [ inl more ↦ inl more | inr here ↦ inr (refl, here.0, here.1) ]
in-tick-if false x xs w p by e = inl e

set-first : (S : ScenarioContents) (s : State) (i : Instr) (is : List Instr) (time : ℕ) (w by : WorkId) (p : Option Pending) (o : Option Arming)
    → new_arming s.time (state_after S s i) (reply_to S s i) ≡ o
    → (armer (in_tick (armings_from S (state_after S s i) is) time) w.0 p ≡ Some by → IsSetFrom S (state_after S s i) is time w by)
    → armer (in_tick (cons_option o (armings_from S (state_after S s i) is)) time) w.0 p ≡ Some by → IsSetFrom S s (i ∷ is) time w by
set-first S s i is time w by p (Some x) new rest e =
    elim (in-tick-if (x.time == time) x (in_tick (armings_from S (state_after S s i) is) time) w.0 p by e) [
      | inl more ↦ behind S s i is time w by (rest more)
      | inr here ↦
          let told = new-told s.time (state_after S s i) (reply_to S s i) x new in
          let then : s.time ≡ time = sym told.3 ∙ eqb-true x.time time here.0 in
          ([], i, is, told.0, refl, then, told.1 ∙ ap (λ (b : WorkId). reply.Event b told.0) here.2, told.2 ∙ ap (λ (v : WorkId). Some v) (is-for-work w p x here.1))
    ]
set-first S s i is time w by p None new rest e = behind S s i is time w by (rest e)

set-from : (S : ScenarioContents) (s : State) (instrs : List Instr) (time : ℕ) (w by : WorkId) (p : Option Pending)
    → armer (in_tick (armings_from S s instrs) time) w.0 p ≡ Some by → IsSetFrom S s instrs time w by
set-from S s [] time w by p e = absurd cc
set-from S s (i ∷ is) time w by p e =
    set-first S s i is time w by p (new_arming s.time (state_after S s i) (reply_to S s i)) refl (set-from S (state_after S s i) is time w by p) e

-- a row of a CPU, and those below it, show no mark
pub burner-not : (o : Option ℕ) (by : WorkId) → burner_cell o ≡ Armed by → ⊥
burner-not (Some w) by e = cc
burner-not None by e = cc

pub lasting-not : (b : Bool) (by : WorkId) → lasting_cell b ≡ Armed by → ⊥
lasting-not true by e = cc
lasting-not false by e = cc

pub act-not : (b : Bool) (by : WorkId) → act_cell b ≡ Armed by → ⊥
act-not true by e = cc
act-not false by e = cc

pub first-tells : (S : ScenarioContents) (instrs : List Instr) (s : State) (w by : WorkId) → cell S (told_of_tick S instrs s.time) (title.Work w) s ≡ Armed by
    → IsSetFrom S (start S) instrs s.time w by × IsOnTimer (pending_at s w.0)
first-tells S instrs s w by e =
    let p = pending_at s w.0 in
    let told = mark-told (armer (in_tick (armings S instrs) s.time) w.0 p) (work_sign S s w.0) by (work-plain S s w.0 (running_at s w.0)) e in
    (set-from S (start S) instrs s.time w by p told.0, work-waits S s w.0 (running_at s w.0) told.1)

pub second-tells : (S : ScenarioContents) (instrs : List Instr) (s : State) (w by : WorkId) → cell S (told_of_tick S instrs s.time) (title.Pending w) s ≡ Armed by
    → IsSetFrom S (start S) instrs s.time w by × IsOnTimer (pending_at s w.0)
second-tells S instrs s w by e =
    let p = pending_at s w.0 in
    let told = mark-told (armer (in_tick (armings S instrs) s.time) w.0 p) (pending_sign s w.0) by (second-plain (running_at s w.0) p) e in
    (set-from S (start S) instrs s.time w by p told.0, second-waits (running_at s w.0) p told.1)

-- Each one that is left set.

armings-append : (S : ScenarioContents) (s : State) (xs ys : List Instr) → armings_from S s (xs ++ ys) ≡ armings_from S s xs ++ armings_from S (after_all S s xs) ys
armings-append S s [] ys = refl
armings-append S s (i ∷ xs) ys =
    ap (cons_option (new_arming s.time (state_after S s i) (reply_to S s i))) (armings-append S (state_after S s i) xs ys)
    ∙ cons-append (new_arming s.time (state_after S s i) (reply_to S s i)) (armings_from S (state_after S s i) xs) (armings_from S (after_all S (state_after S s i) xs) ys)
  where
    cons-append : (o : Option Arming) (xs ys : List Arming) → cons_option o (xs ++ ys) ≡ cons_option o xs ++ ys
    cons-append (Some x) xs ys = refl
    cons-append None xs ys = refl

-- none of these is for the work
none-for : (xs : List Arming) (w : WorkId) (p : Option Pending) → list_any (λ arming. arming.work.0 == w.0) xs ≡ false → armer xs w.0 p ≡ None
none-for [] w p e = refl
none-for (x ∷ xs) w p e =
    let both = neither (x.work.0 == w.0) (list_any (λ arming. arming.work.0 == w.0) xs) e in
    ap (λ (o : Option WorkId). or_else o (cond (is_for w.0 p x) (Some x.by) None)) (none-for xs w p both.1) ∙ ap (λ (b : Bool). cond b (Some x.by) None) (not-for p both.0)
  where
    neither : (a b : Bool) → (a || b) ≡ false → (a ≡ false) × (b ≡ false)
    neither true b e = absurd cc
    neither false b e = (refl, e)

    not-for : (p : Option Pending) → (x.work.0 == w.0) ≡ false → is_for w.0 p x ≡ false
    not-for (Some p) e = ap (λ (b : Bool). b && (x.born == p.born)) e
    not-for None e = refl

-- a timer that is set for this instance
set-for : (time : ℕ) (by work : WorkId) (p : Option Pending) (later : List Arming) → IsOnTimer p → armer (in_tick later time) work.0 p ≡ None
    → armer (in_tick (cons_option (arming_for time by work p) later) time) work.0 p ≡ Some by
set-for time by work (Some p) later waits none =
    let same : (time == time) ≡ true = grind (arith, nat_tests) in
    let of_it : (work.0 == work.0) ≡ true = grind (arith, nat_tests) in
    let born : (p.born == p.born) ≡ true = grind (arith, nat_tests) in
    let x : Arming = record { time = time; work = work; by = by; born = p.born } in
    ap (λ (b : Bool). armer (cond b (x ∷ in_tick later time) (in_tick later time)) work.0 (Some p)) same
    ∙ ap (λ (o : Option WorkId). or_else o (cond ((work.0 == work.0) && (p.born == p.born)) (Some by) None)) none
    ∙ ap (λ (b : Bool). cond (b && (p.born == p.born)) (Some by) None) of_it
    ∙ ap (λ (b : Bool). cond b (Some by) None) born
set-for time by work None later waits none = absurd cc

-- The mark stands in the row of the instance that waits: the first one, or the second one of a work that runs.

marked-first : (S : ScenarioContents) (s : State) (w by : WorkId) (deeds : Deeds) → running_at s w.0 ≡ None → IsOnTimer (pending_at s w.0)
    → armer deeds.armed w.0 (pending_at s w.0) ≡ Some by → cell S deeds (title.Work w) s ≡ Armed by
marked-first S s w by deeds still waits set =
    ap (λ (o : Option Running). marked (armer deeds.armed w.0 (pending_at s w.0)) (run_or_pending S s w.0 o)) still
    ∙ ap (marked (armer deeds.armed w.0 (pending_at s w.0))) waits ∙ ap (λ (o : Option WorkId). marked o (Does sign.Timed)) set

marked-second : (S : ScenarioContents) (s : State) (w by : WorkId) (deeds : Deeds) (r : Running) → running_at s w.0 ≡ Some r → IsOnTimer (pending_at s w.0)
    → armer deeds.armed w.0 (pending_at s w.0) ≡ Some by → cell S deeds (title.Pending w) s ≡ Armed by
marked-second S s w by deeds r runs waits set =
    ap (λ (o : Option Running). marked (armer deeds.armed w.0 (pending_at s w.0)) (second_cell o (pending_at s w.0))) runs
    ∙ ap (marked (armer deeds.armed w.0 (pending_at s w.0))) waits ∙ ap (λ (o : Option WorkId). marked o (Does sign.Timed)) set

-- A body has set the work's timer; then the state is u, in the same tick, with the work on the timer as it was left, and no body sets it again in the tick.
module _ (S : ScenarioContents) (before : List Instr) (moves : Instr) (later rest : List Instr) (work by : WorkId) (event : Event)
    (told : reply_to S (run S before) moves ≡ reply.Event by event) (sets : armed_work event ≡ Some work)
    (same_tick : (after_all S (run S before) (moves ∷ later)).time ≡ (run S before).time)
    (stays : pending_at (after_all S (run S before) (moves ∷ later)) work.0 ≡ pending_at (state_after S (run S before) moves) work.0)
    (waits : IsOnTimer (pending_at (after_all S (run S before) (moves ∷ later)) work.0))
    (last : list_any (λ arming. arming.work.0 == work.0) (in_tick (armings_from S (state_after S (run S before) moves) (later ++ rest)) (run S before).time) ≡ false) where
  abbrev s : State
  s = run S before

  abbrev t : State
  t = state_after S s moves

  abbrev u : State
  u = after_all S t later

  abbrev instrs : List Instr
  instrs = before ++ (moves ∷ later ++ rest)

  left-set : armer (in_tick (armings S instrs) u.time) work.0 (pending_at u work.0) ≡ Some by
  left-set =
      let p = pending_at u work.0 in
      let behind : List Arming = armings_from S t (later ++ rest) in
      let new : new_arming s.time t (reply_to S s moves) ≡ arming_for s.time by work p =
      ap (new_arming s.time t) told ∙ ap (arming_by s.time t by) sets ∙ ap (arming_for s.time by work) (sym stays) in
      let here : armer (in_tick (armings_from S s (moves ∷ later ++ rest)) s.time) work.0 p ≡ Some by =
      ap (λ (o : Option Arming). armer (in_tick (cons_option o behind) s.time) work.0 p) new
      ∙ set-for s.time by work p behind waits (none-for (in_tick behind s.time) work p last) in
      let all : in_tick (armings S instrs) s.time ≡ in_tick (armings S before) s.time ++ in_tick (armings_from S s (moves ∷ later ++ rest)) s.time =
      ap (λ (xs : List Arming). in_tick xs s.time) (armings-append S (start S) before (moves ∷ later ++ rest))
      ∙ filter-append (λ (arming : Arming). arming.time == s.time) (armings S before) (armings_from S s (moves ∷ later ++ rest)) in
      ap (λ (time : ℕ). armer (in_tick (armings S instrs) time) work.0 p) same_tick
      ∙ ap (λ (xs : List Arming). armer xs work.0 p) all ∙ armer-both (in_tick (armings S before) s.time) (in_tick (armings_from S s (moves ∷ later ++ rest)) s.time) work.0 p
      ∙ ap (λ (o : Option WorkId). or_else o (armer (in_tick (armings S before) s.time) work.0 p)) here

  pub first-marked : running_at u work.0 ≡ None → cell S (told_of_tick S instrs u.time) (title.Work work) u ≡ Armed by
  first-marked still = marked-first S u work by (told_of_tick S instrs u.time) still waits left-set

  pub second-marked : (r : Running) → running_at u work.0 ≡ Some r → cell S (told_of_tick S instrs u.time) (title.Pending work) u ≡ Armed by
  second-marked r runs = marked-second S u work by (told_of_tick S instrs u.time) r runs waits left-set
