-- The laws, from what each instruction tells.
use Rattle.std.proofs.Common.{◌≡◌, ℕ, ◌+◌, false, cond, List, [], ◌∷◌, Option, Some, None, arith, refl, ap, subst}
use Rattle.std.proofs.lemmas.Bool.{or_parts}
use Rattle.std.specs.List.{list_any}
use Rattle.cmwq_types.specs.Contents.{ScenarioContents}
use Rattle.cmwq_types.specs.Faults.{IsValid}
use Rattle.cmwq_types.specs.declared.instr.Instr.{Instr}
use Rattle.cmwq_table.specs.Laws.{InEveryState, reply_to, state_after}
use Rattle.cmwq_table.specs.State.{State, running_at}
use Rattle.cmwq_table.specs.Table.{after_all, replies_from, run}
use Rattle.cmwq_table.specs.declared.state.Running.{Running}
use Rattle.cmwq_burning.specs.Burning.{BurnsItsBody, BurnsUpToItsPlace, IsUnderWay, ticks_burned, burns_at, burns_before, burns_of_body, finishes_work, state_then}
use Rattle.cmwq_burning.proofs.Bodies.{before-end}
use Rattle.cmwq_burning.proofs.Telling.{Begins, Ends, GoesOn, RunInPools, Told, all-in_pools, run-in_pools, table-in_pools, table-told}

-- the work runs, has burned n ticks, and with what it has left these are the burns before its place
abbrev HasBurned : ScenarioContents → ℕ → ℕ → Option Running → Type 0
HasBurned S w n (Some r) = n + r.left ≡ burns_before S w r.pc
HasBurned S w n None = ⊥

begun-burned : (S : ScenarioContents) (w : ℕ) (o : Option Running) → Begins o → HasBurned S w 0 o
begun-burned S w (Some r) begins =
    let none : burns_before S w r.pc ≡ 0 = ap (burns_before S w) begins.pc in
    nothing-yet r.left (burns_before S w r.pc) begins.left none
  where
    nothing-yet : (left before : ℕ) → left ≡ 0 → before ≡ 0 → 0 + left ≡ before
    nothing-yet left before p q = omega arith
begun-burned S w None begins = absurd begins

gone-on : (S : ScenarioContents) (w m n : ℕ) (a b : Option Running) → HasBurned S w m a → GoesOn S w n a b → HasBurned S w (m + n) b
gone-on S w m n (Some r) (Some q) burned_so_far goes_on = adds-up m n r.left q.left (burns_before S w r.pc) (burns_before S w q.pc) burned_so_far goes_on
  where
    adds-up : (m n left later before behind : ℕ) → m + left ≡ before → left + behind ≡ n + later + before → m + n + later ≡ behind
    adds-up m n left later before behind p q = omega arith
gone-on S w m n (Some r) None burned_so_far goes_on = absurd goes_on
gone-on S w m n None b burned_so_far goes_on = absurd burned_so_far

all-burned : (S : ScenarioContents) (s : State) (during : List Instr) (w m : ℕ) → RunInPools S s.running → HasBurned S w m (running_at s w)
    → list_any (finishes_work w) (replies_from S s during) ≡ false → HasBurned S w (m + ticks_burned S s during w) (running_at (after_all S s during) w)
all-burned S s [] w m ready so_far goes_on = (let same : m ≡ m + 0 = omega arith in subst (λ (n : ℕ). HasBurned S w n (running_at s w)) same so_far)
all-burned S s (i ∷ during) w m ready so_far goes_on =
    let t = state_after S s i in
    let here : ℕ = cond (burns_at S s i w) 1 0 in
    let parts = or_parts (finishes_work w (reply_to S s i)) (list_any (finishes_work w) (replies_from S t during)) goes_on in
    let told : Told S w here (running_at s w) (running_at t w) (reply_to S s i) = table-told S s i w ready in
    let then_burned : HasBurned S w (m + here) (running_at t w) = gone-on S w m here (running_at s w) (running_at t w) so_far (told.goes_on parts.0) in
    let sum : m + here + ticks_burned S t during w ≡ m + (here + ticks_burned S t during w) = omega arith in
    subst (λ (n : ℕ). HasBurned S w n (running_at (after_all S t during) w)) sum (all-burned S t during w (m + here) (table-in_pools S s i ready) then_burned parts.1)

module _ (S : ScenarioContents) (before : List Instr) where
  -- an instance that is under way has burned what stands before its place
  under_way-burned : (w : ℕ) (first : Instr) (during : List Instr) → IsUnderWay S (run S before) w first during
      → HasBurned S w (ticks_burned S (state_after S (run S before) first) during w) (running_at (state_then S (run S before) first during) w)
  under_way-burned w first during under_way =
      let s = run S before in
      let t = state_after S s first in
      let ready : RunInPools S s.running = run-in_pools S before in
      let begins : Begins (running_at t w) = (table-told S s first w ready).starts under_way.starts in
      let total : HasBurned S w (0 + ticks_burned S t during w) (running_at (after_all S t during) w) = all-burned S t during w 0 (table-in_pools S s first ready) (begun-burned S w (running_at t w) begins) under_way.goes_on in
      let same : 0 + ticks_burned S t during w ≡ ticks_burned S t during w = omega arith in
      subst (λ (n : ℕ). HasBurned S w n (running_at (after_all S t during) w)) same total

  then-in_pools : (first : Instr) (during : List Instr) → RunInPools S (state_then S (run S before) first during).running
  then-in_pools first during = all-in_pools S (state_after S (run S before) first) during (table-in_pools S (run S before) first (run-in_pools S before))

ended-burned : (S : ScenarioContents) → IsValid S → (w n : ℕ) (o : Option Running) → HasBurned S w n o → Ends S w o → n ≡ burns_of_body S w
ended-burned S valid w n (Some r) so_far ended = all-spent n r.left (burns_before S w r.pc) (burns_of_body S w) so_far ended.left (before-end S valid w r.pc ended.finish)
  where
    all-spent : (n left before whole : ℕ) → n + left ≡ before → left ≡ 0 → before ≡ whole → n ≡ whole
    all-spent n left before whole p q r = omega arith
ended-burned S valid w n None so_far ended = absurd ended

pub burns_its_body : InEveryState BurnsItsBody
unfolding BurnsItsBody
burns_its_body S valid before w first during last carried_out =
    let t = state_then S (run S before) first during in
    ended-burned S valid w (ticks_burned S (state_after S (run S before) first) during w) (running_at t w) (under_way-burned S before w first during carried_out.under_way)
    ((table-told S t last w (then-in_pools S before first during)).finishes carried_out.finishes)

abbrev RunsBurned : ScenarioContents → ℕ → ℕ → Option Running → Type 0
RunsBurned S w n o = (r : Running) × (o ≡ Some r) × (n + r.left ≡ burns_before S w r.pc)

runs-burned : (S : ScenarioContents) (w n : ℕ) (o : Option Running) → HasBurned S w n o → RunsBurned S w n o
runs-burned S w n (Some r) so_far = (r, refl, so_far)
runs-burned S w n None so_far = absurd so_far

pub burns_up_to_its_place : InEveryState BurnsUpToItsPlace
unfolding BurnsUpToItsPlace
burns_up_to_its_place S valid before w first during under_way =
    runs-burned S w (ticks_burned S (state_after S (run S before) first) during w) (running_at (state_then S (run S before) first during) w) (under_way-burned S before w first during under_way)
