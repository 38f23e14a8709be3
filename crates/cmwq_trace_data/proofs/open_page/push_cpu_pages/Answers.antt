use Rattle.std.proofs.Common.{◌≡◌, ℕ, List, [], ◌++◌, drop, OnOk, sym, ap, subst, ◌∙◌}
use Rattle.std.proofs.lemmas.List.{at_drop_all}
use Rattle.cmwq_events.specs.declared.kernel_event.KernelEvent.{KernelEvent}
use Rattle.cmwq_trace_data.proofs.PageLemmas.{laid_from_none}
use Rattle.cmwq_trace_data.specs.PageParts.{laid}
use Rattle.cmwq_trace_data.specs.Pages.{events_on}
use Rattle.cmwq_trace_data.proofs.open_page.push_cpu_pages.Goals as goal

pub returns : goal.returns
returns c =
    let S = c.args.scenario.now in
    let page = c.loop-event.open in
    let whole = λ (es : List KernelEvent). c.loop-event.bytes.items ++ laid S page.since page.last page.entries.items (events_on S c.args.cpu es) in
    let none_left : whole [] ≡ whole (drop c.loop-event.event-index c.args.events.now) =
    sym (at_drop_all whole c.args.events.now c.loop-event.event-index c.loop-event-test.false) in
    subst (λ (b : List ℕ). OnOk c.close.result (c.close.new.bytes.items ≡ b))
    (none_left ∙ c.loop-event.invariant
    ∙ ap (λ (b : List ℕ). c.args.bytes.now.items ++ b) (laid_from_none S (events_on S c.args.cpu c.args.events.now)))
    c.close.ensures
