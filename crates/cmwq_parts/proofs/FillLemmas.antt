-- Filling, turn by turn.
use Rattle.std.proofs.Common.{◌≡◌, ℕ, zero, suc, ◌+◌, ◌-◌, ◌<◌, ◌≤◌, ap, ◌∙◌, refl, arith}
use Rattle.cmwq_types.specs.Contents.{ScenarioContents}
use Rattle.cmwq_table.specs.Ready.{Loaded}
use Rattle.cmwq_table.specs.State.{State}
use Rattle.cmwq_table.specs.Moves.{fill_one, fill_times}

-- once nothing is left to fill, filling changes nothing
pub fill_times-stays : (S : ScenarioContents) (queue pool n : ℕ) (s : State) → fill_one S queue pool s ≡ s → fill_times S queue pool n s ≡ s
fill_times-stays S queue pool zero s still = refl
fill_times-stays S queue pool (suc n) s still =
    ap (fill_times S queue pool n) still ∙ fill_times-stays S queue pool n s still

-- one turn more
pub fill_times-turn : (S : ScenarioContents) (queue pool n k : ℕ) (s : State) → k < n
    → fill_times S queue pool (n - (k + 1)) (fill_one S queue pool s) ≡ fill_times S queue pool (n - k) s
fill_times-turn S queue pool n k s h =
    let one_less : suc (n - (k + 1)) ≡ n - k = omega arith in
    ap (λ (m : ℕ). fill_times S queue pool m s) one_less

-- no turn is left
pub fill_times-done : (S : ScenarioContents) (queue pool n k : ℕ) (s : State) → n ≤ k → fill_times S queue pool (n - k) s ≡ s
fill_times-done S queue pool n k s h =
    let none : n - k ≡ 0 = omega arith in
    ap (λ (m : ℕ). fill_times S queue pool m s) none

-- a scenario and a state by their parts
pub loaded-is : (m : Loaded) (S : ScenarioContents) (s : State) → m.scenario ≡ S → m.state ≡ s → m ≡ record { scenario = S; state = s }
loaded-is m S s a b = ap (λ (T : ScenarioContents). record { scenario = T; state = m.state }) a ∙ ap (λ (t : State). record { scenario = S; state = t }) b

-- one turn, and then the others
pub fill_times-first : (S : ScenarioContents) (queue pool n : ℕ) (s : State) → 0 < n → fill_times S queue pool (n - 1) (fill_one S queue pool s) ≡ fill_times S queue pool n s
fill_times-first S queue pool n s some =
    let others : n - 1 ≡ n - (0 + 1) = omega arith in
    let all : n - 0 ≡ n = omega arith in
    ap (λ (m : ℕ). fill_times S queue pool m (fill_one S queue pool s)) others ∙ fill_times-turn S queue pool n 0 s some ∙ ap (λ (m : ℕ). fill_times S queue pool m s) all
