use Rattle.std.proofs.Common.{ap, ◌∙◌}
use Rattle.cmwq_table.specs.Counts.{first_rescued}
use Rattle.cmwq_table.specs.Ready.{Loaded}
use Rattle.cmwq_core.proofs.core_parts.CorePartsParts.first_rescued.Goals as goal

pub returns-clause-first : goal.returns-clause-first
returns-clause-first c = c.first_rescued.ensures.first ∙ ap (λ (m : Loaded). first_rescued m.scenario m.state c.args.pool) c.self.view_is
