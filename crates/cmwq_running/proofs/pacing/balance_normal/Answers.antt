use Rattle.std.proofs.Common.{sym, ap, subst, ◌∙◌}
use Rattle.cmwq_phased.specs.PhasedContents.{PhasedContents}
use Rattle.cmwq_phased.specs.Phases.{shown_all}
use Rattle.cmwq_running.specs.Heads.{GoIn, HaveHeads}
use Rattle.cmwq_running.proofs.PaceLemmas.{all_shown_paced, paced_going, paced_heads}
use Rattle.cmwq_running.proofs.pacing.balance_normal.Goals as goal

pub returns-in-Some-clause-shown : goal.returns-in-Some-clause-shown
returns-in-Some-clause-shown c =
    ap (λ (m : PhasedContents). shown_all c.args.time m.runs) c.pace.ensures.paced
    ∙ all_shown_paced c.may_burn.result c.args.time c.args.works.now.runs c.in-Some.w

pub returns-in-Some-clause-heads : goal.returns-in-Some-clause-heads
returns-in-Some-clause-heads c =
    let first = sym c.first_in_line.ensures.first ∙ c.in-Some.is in
    subst (λ (m : PhasedContents). HaveHeads m.scenario m.runs) (sym c.pace.ensures.paced)
    (paced_heads c.args.works.now.scenario c.args.works.now.runs c.args.time c.args.high c.in-Some.w c.may_burn.result c.requires.bound c.requires.high c.requires.heads c.may_burn.ensures first)

pub returns-in-Some-clause-going : goal.returns-in-Some-clause-going
returns-in-Some-clause-going c pool may_go =
    let first = sym c.first_in_line.ensures.first ∙ c.in-Some.is in
    subst (λ (m : PhasedContents). GoIn m.scenario m.runs pool) (sym c.pace.ensures.paced)
    (paced_going c.args.works.now.scenario c.args.works.now.runs c.args.time c.args.high c.in-Some.w c.may_burn.result c.requires.bound c.requires.high c.requires.heads c.may_burn.ensures first pool may_go)
