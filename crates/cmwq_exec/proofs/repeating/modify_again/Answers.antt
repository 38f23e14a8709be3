use Rattle.std.proofs.Common.{◌≡◌, ◌-◌, Some, arith, sym, ◌∙◌, subst}
use Rattle.cmwq_types.specs.declared.instr.Instr.TheVariants.{Mod}
use Rattle.cmwq_table.specs.Ready.{Loaded, holding}
use Rattle.cmwq_table.specs.State.{is_disabled, pending_at}
use Rattle.cmwq_table.specs.Table.{operands}
use Rattle.cmwq_table.proofs.ModRepeatLemmas.{skipping}
use Rattle.cmwq_exec.proofs.ModAgainLemmas.{may_be_set, reset-repeats}
use Rattle.cmwq_exec.proofs.repeating.modify_again.Goals as goal

pub returns-in-Some-clause-repeated : goal.returns-in-Some-clause-repeated
returns-in-Some-clause-repeated g c =
    let old = c.args.going.now in
    let w = c.args.work in
    let p = c.in-Some.p in
    let count = c.min-count.result in
    let few = c.min-count.ensures in
    let was : Loaded = holding (g.P.Reads.loaded c.going.inside.parts) (g.P.Reads.state c.going.inside.parts) in
    let skipped : Loaded = holding (g.P.Reads.loaded c.skip_stamps.new.self) (g.P.Reads.state c.skip_stamps.new.self) in
    let same : was ≡ old = c.going.view_is in
    let may = may_be_set (operands old.scenario old.state (Mod w c.args.cpu c.args.ticks)) (is_disabled old.state w.0) (sym c.is_modifiable.ensures ∙ c.if-not-is_modifiable.false) in
    let pends : pending_at old.state w.0 ≡ Some p =
    subst (λ (m : Loaded). pending_at m.state w.0 ≡ Some p) same (sym c.pending_of.ensures ∙ c.in-Some.is)
    in
    let skips : skipped ≡ holding old.scenario (skipping old.state (count - 1)) =
    subst (λ (m : Loaded). skipped ≡ holding m.scenario (skipping m.state (count - 1))) same c.skip_stamps.ensures
    in
    reset-repeats old skipped c.replace.new.self c.spend.new.going w c.args.cpu c.args.ticks p c.args.most count may.0 may.1 pends
    (sym c.is_placed.ensures ∙ c.if-not-is_placed.true) (omega (arith, c.if-ticks-eq0.false)) (omega (arith, c.if-count-eq0.false)) (omega (arith, few))
    (omega (arith, few, c.steps_left.ensures, c.requires.kept.counters.spent)) skips c.replace.ensures c.spend.ensures
