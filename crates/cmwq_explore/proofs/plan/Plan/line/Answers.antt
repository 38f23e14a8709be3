use Rattle.cmwq_explore.proofs.PlanLemmas.{early_if}
use Rattle.cmwq_explore.proofs.plan.Plan.line.Goals as goal

pub returns-clause-early : goal.returns-clause-early
returns-clause-early c = early_if c.args.self.now.scenario c.args.actor c.args.at c.line_at.result c.line_at.ensures.line c.line_at.ensures.few
