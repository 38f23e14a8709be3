use Rattle.std.proofs.Common.{◌≡◌, ◌<◌, None, false, arith, sym, ◌∙◌, subst}
use Rattle.cmwq_table.specs.Counts.{or_else}
use Rattle.cmwq_table.specs.Ready.{Loaded}
use Rattle.cmwq_table.specs.Table.{is_free, operands, spent_all}
use Rattle.cmwq_exec.specs.Performing.{performed}
use Rattle.cmwq_exec.proofs.ExecLemmas.{accepted, spend-left}
use Rattle.cmwq_exec.proofs.performing.exec_one.Goals as goal

pub spend-requires : goal.spend-requires
spend-requires g c =
    let S = c.args.going.now.scenario in
    let s = c.args.going.now.state in
    let at = c.going.inside.parts in
    let i = c.args.instr in
    let free = c.is_free-free in
    let none : or_else (operands S s i) (spent_all S s i) ≡ None =
    subst (λ (m : Loaded). or_else (operands m.scenario m.state i) (spent_all m.scenario m.state i) ≡ None) c.going.view_is
    (accepted (g.P.Reads.loaded at) (g.P.Reads.state at) i free.result c.refused_at_once.result free.ensures c.refused_at_once.ensures c.in_default.is) in
    let costs : is_free S s i ≡ false =
    sym (subst (λ (m : Loaded). free.result ≡ is_free m.scenario m.state i) c.going.view_is free.ensures) ∙ c.if-not-free.true in
    let left : (performed S s i).0.spent < S.steps = spend-left S s i c.requires.setting none costs in
    rw c.perform.ensures.state (omega (arith, left))
