-- What is left of lines that were begun.
use Rattle.std.proofs.Common.{◌≡◌, ℕ, suc, ◌-◌, ◌+◌, ◌<◌, List, ◌∷◌, ◌++◌, replicate, ap, arith, subst, sym}
use Rattle.cmwq_types.specs.Scenario.{expand_lines}
use Rattle.cmwq_types.specs.declared.scenario.Line.{Line}
use Rattle.cmwq_runs.specs.RunInstructions.{but_given}

-- the first line's instruction is given once more
pub one_given : (given : ℕ) (lines : List Line) (line : Line) (behind : List Line) → lines ≡ line ∷ behind → given < line.times → but_given given lines ≡ line.instr ∷ but_given (given + 1) lines
one_given given lines line behind are few =
    let one : line.times - given ≡ suc (line.times - (given + 1)) = omega arith in
    subst (λ (ls : List Line). but_given given ls ≡ line.instr ∷ but_given (given + 1) ls) (sym are) (ap (λ (n : ℕ). replicate n line.instr ++ expand_lines behind) one)
