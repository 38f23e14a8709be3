use Rattle.std.proofs.Common.{◌++◌, ap, codes, length, string_bytes}
use Rattle.std.specs.Fmt.{decimal}
use Rattle.cmwq_flush_waits.specs.declared.needs.Needs.{Needs}
use Rattle.cmwq_flush_waits.specs.FlushText.{needs_of, needs_text}
use Rattle.cmwq_flush_waits.proofs.TextLemmas.{three_parts}
use Rattle.cmwq_flush_waits.proofs.telling_flushes.push_count.Goals as goal

pub returns : goal.returns
returns g c =
    let waits = c.args.waits.now in
    let needs = needs_of (g.R.Reads.loaded c.args.machine.now) (g.R.Reads.state c.args.machine.now) waits in
    three_parts (string_bytes c.args.text.now) (codes " waits for " ++ decimal (length waits)) (needs_text needs) (codes "\n") _ _ _ _ c.in_ok-push_number.ensures
    c.in_ok-push.ensures (ap (λ (needs : Needs). needs_text needs) c.needs.ensures) c.in_ok-push_str.ensures.bytes
