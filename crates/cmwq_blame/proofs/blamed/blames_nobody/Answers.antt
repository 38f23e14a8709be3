use Rattle.std.proofs.Common.{◌∙◌, not, ap, inl, inr, sym}
use Rattle.std.proofs.lemmas.Bool.{cases_Bool}
use Rattle.cmwq_blame.proofs.BlamedLemmas.{group-below, nobody-blamed, somebody-blamed}
use Rattle.cmwq_blame.proofs.blamed.blames_nobody.Goals as goal

pub returns-in-Inactive : goal.returns-in-Inactive
returns-in-Inactive g c =
    let S = g.R.Reads.loaded c.args.machine.now in
    let s = g.R.Reads.state c.args.machine.now in
    let w = c.args.w.0 in
    let a = c.args.reason in
    elim (cases_Bool c.blames_some.result) [
      | inl some ↦
          let one = c.blames_some.ensures.some some in
          ap not some ∙ sym (somebody-blamed S s w one.0 a one.1)
      | inr none ↦ ap not none ∙ sym (nobody-blamed S s w a (group-below S s w a c.in-Inactive.is) (c.blames_some.ensures.none none))
    ]
