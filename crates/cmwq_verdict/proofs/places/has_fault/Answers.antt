use Rattle.std.proofs.Common.{rules, Err, ◌≡◌, false, true, subst}
use Rattle.cmwq_asm.specs.declared.fault.AsmError.TheVariants as asm
use Rattle.cmwq_grammar.specs.FaultLaw.{IsFault}
use Rattle.cmwq_grammar.specs.Meaning.{FaultAt}
use Rattle.cmwq_verdict.proofs.PlaceLemmas.{no_fault, only_fault}
use Rattle.cmwq_verdict.proofs.places.has_fault.Goals as goal

pub returns-in-Ok : goal.returns-in-Ok
returns-in-Ok c = (λ is. apart is, λ faulty. absurd (no_fault c.args.text.now c.assemble.result _ c.in-Ok.is c.assemble.ensures.fault _ faulty))
  where
    apart : {A : Type 0} → false ≡ true → A
    apart is = cc

pub returns : goal.returns
returns c =
    let is : c.assemble.result ≡ Err (asm.At c.in-Err-At.line c.in-Err-At.why) = search rules in (
      λ same. subst (λ (f : FaultAt). IsFault c.args.text.now f) (c.is_same_fault.ensures.0 same) (c.assemble.ensures.told c.in-Err-At.line c.in-Err-At.why is),
      λ faulty. c.is_same_fault.ensures.1 (only_fault c.args.text.now c.assemble.result c.in-Err-At.line c.in-Err-At.why is c.assemble.ensures.fault _ faulty),
    )
