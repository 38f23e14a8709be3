use Rattle.std.proofs.Common.{◌≡◌, List, ℕ, ◌++◌, sym, ap, subst, ◌∙◌}
use Rattle.cmwq_play.specs.Framing.{IsTextBy}
use Rattle.cmwq_play.proofs.CommandLemmas.{writes_all, writes_more}
use Rattle.cmwq_kernel_trace.specs.DataTrace.{dat_of_run}
use Rattle.cmwq_kernel_trace.proofs.data_trace.write_dat.Goals as goal

pub returns-clause-writes : goal.returns-clause-writes
returns-clause-writes g c =
    let before = g.W.Write.contents c.args.writer.now in
    let after = g.W.Write.contents c.put_both.new.writer in
    let failed = g.W.Sink.failed c.put_both.new.writer in
    let file = c.in_ok-file.file in
    let all = c.deref.result.now ++ c.deref-2.result.now in
    let same : file.head.items ++ file.pages.items ≡ all =
    ap (λ (b : List ℕ). b ++ file.pages.items) (sym c.deref.ensures.value) ∙ ap (λ (b : List ℕ). c.deref.result.now ++ b) (sym c.deref-2.ensures.value) in
    writes_more (λ output. output ≡ all) (IsTextBy dat_of_run c.args.scenario) before after failed c.put_both.result
    (λ output is. subst (IsTextBy dat_of_run c.args.scenario) (same ∙ sym is) c.in_ok-file.ensures)
    (writes_all before after failed c.put_both.result all c.put_both.ensures.ok c.put_both.ensures.err c.put_both.ensures.failed c.put_both.ensures.write)
