use Rattle.std.proofs.Common.{Option, ap, ◌∙◌}
use Rattle.std.specs.Prelude.{unwrap_or}
use Rattle.std.proofs.lemmas.Option.{unwrap_or-slice_get}
use Rattle.cmwq_table.specs.declared.state.FlushTarget.{FlushTarget}
use Rattle.cmwq_table.specs.declared.state.FlushTarget.TheVariants.{Nothing}
use Rattle.cmwq_reads.proofs.flushes.flush_target.Goals as goal

pub returns : goal.returns
returns g c =
    c.unwrap_or.ensures ∙ ap (λ (found : Option FlushTarget). unwrap_or found Nothing) c.flush_of.ensures
    ∙ unwrap_or-slice_get (g.R.Reads.state c.args.machine.now).flushes c.args.flush Nothing
