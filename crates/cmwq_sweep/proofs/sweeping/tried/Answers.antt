use Rattle.std.proofs.Common.{◌≡◌, rules, subst, sym}
use Rattle.cmwq_types.specs.Faults.{IsValid}
use Rattle.cmwq_sweep.specs.Varied.{varied}
use Rattle.cmwq_sweep.proofs.VariedLemmas.{varied-valid}
use Rattle.cmwq_sweep.proofs.sweeping.tried.Goals as goal

pub begin-requires : goal.begin-requires
begin-requires g c =
    let same : c.in_ok-clone.field-0.value ≡ varied c.args.scenario.now c.args.queue c.args.max = search rules in
    subst IsValid (sym same) (varied-valid c.args.scenario.now c.args.queue c.args.max c.requires.valid c.requires.varies c.requires.some c.requires.most)
