use Rattle.std.proofs.Common.{rules, ap, sym, Err, ◌≡◌}
use Rattle.cmwq_asm.specs.declared.fault.AsmError.TheVariants as asm
use Rattle.cmwq_grammar.specs.Meaning.{fault_at}
use Rattle.cmwq_fitting.specs.Fitting.{fault_read}
use Rattle.cmwq_fitting.proofs.FaultLemmas.{none_read}
use Rattle.cmwq_fitting.proofs.faults.text_fault.Goals as goal

pub returns-in-Ok : goal.returns-in-Ok
returns-in-Ok c = none_read c.args.text.now c.assemble.result _ c.in-Ok.is c.assemble.ensures.found c.spelled_text_reads_as_its_scenario.ensures

pub returns : goal.returns
returns c =
    let is : c.assemble.result ≡ Err (asm.At c.in-Err-At.line c.in-Err-At.why) = search rules in
    let faulty = c.assemble.ensures.told c.in-Err-At.line c.in-Err-At.why is in
    sym (ap fault_read ((c.reading_fails_at_the_first_fault.ensures c.args.text.now (fault_at c.in-Err-At.line c.in-Err-At.why)).1 faulty))
