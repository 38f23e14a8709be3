use Rattle.std.proofs.Common.{◌≡◌, Some, sym, subst}
use Rattle.cmwq_table.specs.Counts.{first_rescued}
use Rattle.cmwq_table.specs.Ready.{Loaded}
use Rattle.cmwq_core.specs.contracts.core_parts.CoreParts.{the_view}
use Rattle.cmwq_core.proofs.FoundLemmas.{rescued_still}
use Rattle.cmwq_core.proofs.core_parts.CorePartsParts.rescue.Goals as goal

pub begin-requires-clause-still : goal.begin-requires-clause-still
begin-requires-clause-still c =
    let seen : Loaded = the_view c.self.inside in
    rescued_still seen.scenario seen.state c.args.pool c.args.w (subst (λ (m : Loaded). first_rescued m.scenario m.state c.args.pool ≡ Some c.args.w) (sym c.self.view_is) c.requires.first)
