-- Events of each kind, counted.
use Rattle.std.proofs.Common.{◌≡◌, ℕ, zero, suc, ◌+◌, ◌<◌, Bool, true, false, not, ◌&&◌, cond, List, [], ◌∷◌, length, Option, Some, None, arith, refl, sym, ap, ◌∙◌}
use Rattle.std.proofs.lemmas.Bool.Decides.{nat_tests}
use Rattle.std.specs.List.{flat_map}
use Rattle.std.specs.Prelude.{nat_lt}
use Rattle.cmwq_types.specs.Contents.{ScenarioContents}
use Rattle.cmwq_types.specs.First.{count_below}
use Rattle.cmwq_types.specs.Places.{is_placed}
use Rattle.cmwq_types.specs.declared.instr.Instr.{Instr}
use Rattle.cmwq_types.specs.declared.instr.WorkId.{WorkId}
use Rattle.cmwq_types.specs.declared.reply.Place.{Place}
use Rattle.cmwq_types.specs.declared.reply.Place.TheVariants.{Timer, Inactive, Listed, Deferred}
use Rattle.cmwq_types.specs.declared.reply.Reply.{Reply}
use Rattle.cmwq_types.specs.declared.reply.Reply.TheVariants as reply
use Rattle.cmwq_table.specs.Laws.{AtEveryInstruction, tells_wake}
use Rattle.cmwq_table.specs.State.{State, pending_at, running_at, start}
use Rattle.cmwq_table.specs.Table.{replies_from, run, table}
use Rattle.cmwq_table.specs.declared.state.Pending.{Pending}
use Rattle.cmwq_table.specs.declared.state.Running.{Running}
use Rattle.cmwq_table.specs.Told.{is_end, tells_of}
use Rattle.cmwq_events.specs.KernelEvents.{activate_events, doer_of, end_events, event_by, instance_events, instr_events, kernel_events_from, pool_of_place, queue_events, stamped_below}
use Rattle.cmwq_events.specs.declared.doer.Doer.{Doer}
use Rattle.cmwq_events.specs.declared.kernel_event.Tracepoint.{Tracepoint}
use Rattle.cmwq_events.specs.declared.kernel_event.Tracepoint.TheVariants as tracepoint
use Rattle.cmwq_trace_laws.specs.EventLaws.{TellsActivated, TellsAllEnds, TellsEnds, count_events, count_replies, is_activated_anew, is_activating, is_ending, is_on_list, is_queued, is_queueing}
use Rattle.cmwq_trace_laws.proofs.WeighLemmas.{count-append, counted, events_in, pending_weight, running_weight}

pub none-below : (n : ℕ) → count_below (λ w. false) n ≡ 0
none-below zero = refl
none-below (suc n) = let before = none-below n in omega (arith, before)

-- Of one instance.

if-none : (test : Tracepoint → Bool) (b : Bool) (doer : Doer) (work : WorkId) (at : Tracepoint) → test at ≡ false → count_events test (cond b (event_by doer work at ∷ []) []) ≡ 0
if-none test true doer work at fails = ap (λ (b : Bool). cond {A = ℕ} b 1 0 + 0) fails
if-none test false doer work at fails = refl

unless-none : (test : Tracepoint → Bool) (b : Bool) (doer : Doer) (work : WorkId) (at : Tracepoint) → test at ≡ false → count_events test (cond b [] (event_by doer work at ∷ [])) ≡ 0
unless-none test true doer work at fails = refl
unless-none test false doer work at fails = ap (λ (b : Bool). cond {A = ℕ} b 1 0 + 0) fails

if-one : (test : Tracepoint → Bool) (b : Bool) (doer : Doer) (work : WorkId) (at : Tracepoint) → test at ≡ true → count_events test (cond b (event_by doer work at ∷ []) []) ≡ cond b 1 0
if-one test true doer work at passes = ap (λ (b : Bool). cond {A = ℕ} b 1 0 + 0) passes
if-one test false doer work at passes = refl

activate-none : (test : Tracepoint → Bool) (doer : Doer) (work : WorkId) (place : Place) → test tracepoint.ActivateWork ≡ false → count_events test (activate_events doer work place) ≡ 0
activate-none test doer work (Listed pool) fails = ap (λ (b : Bool). cond {A = ℕ} b 1 0 + 0) fails
activate-none test doer work (Inactive pool) fails = refl
activate-none test doer work (Deferred pool) fails = refl
activate-none test doer work (Timer due cpu) fails = refl

activate-one : (doer : Doer) (work : WorkId) (place : Place) → count_events is_activating (activate_events doer work place) ≡ cond (is_on_list place) 1 0
activate-one doer work (Listed pool) = refl
activate-one doer work (Inactive pool) = refl
activate-one doer work (Deferred pool) = refl
activate-one doer work (Timer due cpu) = refl

cond-none : (b : Bool) (n : ℕ) → n ≡ 0 → cond b 0 n ≡ 0
cond-none true n none = refl
cond-none false n none = none

and-false : (a b : Bool) → b ≡ false → (a && b) ≡ false
and-false true b e = e
and-false false b e = refl

-- a pending instance with an old stamp has an old birth
abbrev pub IsNewIfBorn : ℕ → Option Pending → Type 0
IsNewIfBorn next (Some p) = p.stamp < next → p.born < next
IsNewIfBorn next None = Unit {0}

module _ (doer : Doer) (next : ℕ) (told : Reply) where
  pub runs-none : (test : Tracepoint → Bool) → test tracepoint.ExecuteStart ≡ false → (w : ℕ) (r : Option Running) → running_weight doer next told test w r ≡ 0
  runs-none test fails w (Some r) = cond-none (nat_lt r.stamp next) _ (unless-none test (tells_wake told) doer (record { 0 = w }) tracepoint.ExecuteStart fails)
  runs-none test fails w None = refl

  pub pends-none : (test : Tracepoint → Bool) → ((cpu pool : ℕ) → test (tracepoint.QueueWork cpu pool) ≡ false) → test tracepoint.ActivateWork ≡ false
      → (w : ℕ) (p : Option Pending) → pending_weight doer next told test w p ≡ 0
  pends-none test queues activates w (Some p) =
      let work : WorkId = record { 0 = w } in
      let both = count-append test (queue_events doer next work p) (activate_events doer work p.place) in
      let queued = if-none test (is_placed p.place && not (nat_lt p.born next)) doer work (tracepoint.QueueWork doer.cpu (pool_of_place p.place)) (queues doer.cpu (pool_of_place p.place)) in
      let activated = activate-none test doer work p.place activates in
      cond-none (nat_lt p.stamp next) _ (omega (arith, both, queued, activated))
  pends-none test queues activates w None = refl

  -- a work that is listed with a new stamp is activated
  listed-if : (b on : Bool) (n : ℕ) → n ≡ cond on 1 0 → cond b 0 n ≡ cond (on && not b) 1 0
  listed-if true true n is = refl
  listed-if true false n is = refl
  listed-if false true n is = is
  listed-if false false n is = is

  activated-one : (w : ℕ) (p : Option Pending) → pending_weight doer next told is_activating w p ≡ cond (is_activated_anew next p) 1 0
  activated-one w (Some p) =
      let work : WorkId = record { 0 = w } in
      let both = count-append is_activating (queue_events doer next work p) (activate_events doer work p.place) in
      let queued = if-none is_activating (is_placed p.place && not (nat_lt p.born next)) doer work (tracepoint.QueueWork doer.cpu (pool_of_place p.place)) refl in
      listed-if (nat_lt p.stamp next) (is_on_list p.place) _ (omega (arith, both, queued) ∙ activate-one doer work p.place)
  activated-one w None = refl

  -- and one that is placed with a new birth is queued: its stamp is new too
  queued-if : (b c : Bool) (n : ℕ) → (b ≡ true → c ≡ false) → n ≡ cond c 1 0 → cond b 0 n ≡ cond c 1 0
  queued-if true c n old is = sym (ap (λ (b : Bool). cond {A = ℕ} b 1 0) (old refl))
  queued-if false c n old is = is

  pub queued-one : (w : ℕ) (p : Option Pending) → IsNewIfBorn next p → pending_weight doer next told is_queueing w p ≡ cond (is_queued next p) 1 0
  queued-one w (Some p) new =
      let work : WorkId = record { 0 = w } in
      let both = count-append is_queueing (queue_events doer next work p) (activate_events doer work p.place) in
      let queued = if-one is_queueing (is_placed p.place && not (nat_lt p.born next)) doer work (tracepoint.QueueWork doer.cpu (pool_of_place p.place)) refl in
      let activated = activate-none is_queueing doer work p.place refl in
      queued-if (nat_lt p.stamp next) (is_placed p.place && not (nat_lt p.born next)) _
      (λ old. let born : p.born < next = new (grind (arith, nat_tests, old)) in
      let no : not (nat_lt p.born next) ≡ false = grind (arith, nat_tests, born) in
      and-false (is_placed p.place) (not (nat_lt p.born next)) no)
      (omega (arith, both, activated) ∙ queued)
  queued-one w None new = refl

  pub end-count : (test : Tracepoint → Bool) → test tracepoint.ExecuteEnd ≡ false → count_events test (end_events doer told) ≡ 0
  end-count test fails = at told where
    at : (r : Reply) → count_events test (end_events doer r) ≡ 0
    at (reply.Event work event) = if-none test (is_end event) doer work tracepoint.ExecuteEnd fails
    at other = refl

  end-one : count_events is_ending (end_events doer told) ≡ cond (tells_of is_end told) 1 0
  end-one = at told where
    at : (r : Reply) → count_events is_ending (end_events doer r) ≡ cond (tells_of is_end r) 1 0
    at (reply.Event work event) = if-one is_ending (is_end event) doer work tracepoint.ExecuteEnd refl
    at other = refl

-- Of an instruction.

pub instr-counts : (S : ScenarioContents) (s t : State) (i : Instr) (told : Reply) (test : Tracepoint → Bool) (g : ℕ → Bool)
    → ((w : ℕ) → pending_weight (doer_of S s i (t, told)) s.next told test w (pending_at t w) + running_weight (doer_of S s i (t, told)) s.next told test w (running_at t w) ≡ cond (g w) 1 0)
    → count_events test (instr_events S s i (t, told)) ≡ count_events test (end_events (doer_of S s i (t, told)) told) + count_below g (length S.works)
instr-counts S s t i told test g each =
    let doer = doer_of S s i (t, told) in
    let both = count-append test (end_events doer told) (flat_map (events_in doer s.next told test) (stamped_below t s.next (length S.works))) in
    let all = counted doer s.next told test t g each (length S.works) in
    omega (arith, both, all)

-- no end comes of instances with new stamps
pub rest-ends : (S : ScenarioContents) (s t : State) (told : Reply) (doer : Doer)
    → count_events is_ending (flat_map (λ one. instance_events doer s.next told one.work one.instance) (stamped_below t s.next (length S.works))) ≡ 0
rest-ends S s t told doer =
    counted doer s.next told is_ending t (λ w. false) (λ w.
    let pends = pends-none doer s.next told is_ending (λ cpu pool. refl) refl w (pending_at t w) in
    let runs = runs-none doer s.next told is_ending refl w (running_at t w) in
    omega (arith, pends, runs)) (length S.works)
    ∙ none-below (length S.works)

pub ends-told : (S : ScenarioContents) (s t : State) (i : Instr) (told : Reply) → count_events is_ending (instr_events S s i (t, told)) ≡ cond (tells_of is_end told) 1 0
ends-told S s t i told =
    let doer = doer_of S s i (t, told) in
    let all = instr-counts S s t i told is_ending (λ w. false) (λ w.
    let pends = pends-none doer s.next told is_ending (λ cpu pool. refl) refl w (pending_at t w) in
    let runs = runs-none doer s.next told is_ending refl w (running_at t w) in
    omega (arith, pends, runs)) in
    let none = none-below (length S.works) in
    let ends = end-one doer s.next told in
    omega (arith, all, none, ends)

pub tells_ends : AtEveryInstruction TellsEnds
unfolding TellsEnds
tells_ends S valid instrs i = ends-told S (run S instrs) (table S (run S instrs) i).0 i (table S (run S instrs) i).1

pub tells_activated : AtEveryInstruction TellsActivated
unfolding TellsActivated
tells_activated S valid instrs i =
    let s = run S instrs in
    let after = table S s i in
    let doer = doer_of S s i after in
    let all = instr-counts S s after.0 i after.1 is_activating (λ w. is_activated_anew s.next (pending_at after.0 w)) (λ w.
    let pends = activated-one doer s.next after.1 w (pending_at after.0 w) in
    let runs = runs-none doer s.next after.1 is_activating refl w (running_at after.0 w) in
    omega (arith, pends, runs)) in
    let none = end-count doer s.next after.1 is_activating refl in
    omega (arith, all, none)

all-ends : (S : ScenarioContents) (s : State) (instrs : List Instr)
    → count_events is_ending (kernel_events_from S s instrs) ≡ count_replies (tells_of is_end) (replies_from S s instrs)
all-ends S s [] = refl
all-ends S s (i ∷ is) =
    let after = table S s i in
    let both = count-append is_ending (instr_events S s i after) (kernel_events_from S after.0 is) in
    let here = ends-told S s after.0 i after.1 in
    let more = all-ends S after.0 is in
    omega (arith, both, here, more)

pub tells_all_ends : TellsAllEnds
unfolding TellsAllEnds
tells_all_ends S valid instrs = all-ends S (start S) instrs
