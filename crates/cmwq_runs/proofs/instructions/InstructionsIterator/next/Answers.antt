use Rattle.std.proofs.Common.{◌≡◌, ◌∷◌, ◌∙◌, rules, arith, sym}
use Rattle.cmwq_runs.proofs.InstructionsLemmas.{one_given}
use Rattle.cmwq_runs.proofs.instructions.InstructionsIterator.next.Goals as goal

pub returns-then-self-line-clause-steps : goal.returns-then-self-line-clause-steps
returns-then-self-line-clause-steps c =
    let first : c.loop-line.self.lines.now ≡ c.in-Some.line.now ∷ c.in-Some.behind.now = search rules in
    sym c.loop-line.invariant ∙ one_given c.loop-line.self.given c.loop-line.self.lines.now c.in-Some.line.now c.in-Some.behind.now first (omega arith)
