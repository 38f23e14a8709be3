-- What a count says of each number below it.
use Rattle.std.proofs.Common.{◌≡◌, ℕ, ◌+◌, ◌<◌, ◌≤◌, Bool, true, false, arith, refl}
use Rattle.cmwq_types.specs.Contents.{ScenarioContents}
use Rattle.cmwq_types.specs.First.{count_below}
use Rattle.cmwq_table.specs.State.{State}
use Rattle.cmwq_reads.proofs.QuietLemmas.{count_below-passes}
use Rattle.cmwq_settle.specs.Quiet.{IsUnquietWithin, SettlesWithin, is_quiet_after}

none_passes : (f : ℕ → Bool) (n : ℕ) → count_below f n ≡ 0 → (j : ℕ) → j < n → f j ≡ false
none_passes f n none j below = fails (f j) refl where
  fails : (b : Bool) → f j ≡ b → f j ≡ false
  fails true is = let some = count_below-passes f n j below is in absurd (omega (arith, none, some))
  fails false is = is

-- the machine is quiet after so many `next`, and after none of the numbers below
pub settles : (S : ScenarioContents) (s : State) (most n : ℕ) → n ≤ most → is_quiet_after S s n ≡ true → count_below (λ j. is_quiet_after S s j) n ≡ 0 → SettlesWithin S s most n
settles S s most n within quiet none = record { within = within; quiet = quiet; least = none_passes (λ j. is_quiet_after S s j) n none }

-- and after none up to the last
pub never : (S : ScenarioContents) (s : State) (most : ℕ) → count_below (λ j. is_quiet_after S s j) (most + 1) ≡ 0 → IsUnquietWithin S s most
never S s most none = λ j h. none_passes (λ k. is_quiet_after S s k) (most + 1) none j (omega arith)
