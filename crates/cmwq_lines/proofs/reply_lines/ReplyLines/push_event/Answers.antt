use Rattle.std.proofs.Common.{◌≡◌, ◌≤◌, List, ℕ, length, ap, subst, ◌∙◌, sym, arith}
use Rattle.std.proofs.lemmas.List.{with_items_is}
use Rattle.std.specs.Vec.{with_items}
use Rattle.cmwq_types.specs.declared.instr.Instr.TheVariants.{Next}
use Rattle.cmwq_lines.proofs.PutLemmas.{puts_within}
use Rattle.cmwq_lines.proofs.reply_lines.ReplyLines.push_event.Goals as goal

pub invariant_of-block-2 : goal.invariant_of-block-2
invariant_of-block-2 c =
    let bytes = c.block.inside.bytes in
    let new = c.put_event_line.new.block in
    let puts = c.put_event_line.ensures.line Next in
    let items : (with_items bytes new).items ≡ new = with_items_is bytes new (puts.long ∙ c.as_mut_slice.ensures.len) in
    let room : c.block.inside.len ≤ length c.as_mut_slice.result.now = omega (arith, c.block.invariant, ap length c.as_mut_slice.ensures.value) in
    subst (λ (all : List ℕ). c.put_event_line.result ≤ length all) (sym items)
    (puts_within c.as_mut_slice.result.now c.block.inside.len new c.put_event_line.result _ puts room)
