use Rattle.std.proofs.Common.{◌∙◌, ap, sym, List, ℕ, Option, Some, option_map}
use Rattle.cmwq_table.specs.declared.state.FlushTarget.{FlushTarget}
use Rattle.cmwq_reasons.specs.declared.reason.Instance.{Instance}
use Rattle.cmwq_reasons.specs.Reasons.{waits}
use Rattle.cmwq_flush_waits.specs.FlushText.{flush_waits_lines}
use Rattle.cmwq_flush_waits.proofs.flush.flush_text.Goals as goal

pub returns : goal.returns
returns g c =
    let S = g.R.Reads.loaded c.args.machine.now in
    let s = g.R.Reads.state c.args.machine.now in
    record {
      text =
          ap (λ (on : Option FlushTarget). option_map (λ on. flush_waits_lines S s c.args.flush (waits S s on)) on) (sym c.flush_of.ensures ∙ c.in-Some.is)
          ∙ ap (λ (xs : List Instance). Some (flush_waits_lines S s c.args.flush xs)) (sym c.in_ok-waits.ensures ∙ sym c.deref.ensures.value)
          ∙ ap (λ (text : List ℕ). Some text) (sym c.in_ok-text.ensures);
    }
