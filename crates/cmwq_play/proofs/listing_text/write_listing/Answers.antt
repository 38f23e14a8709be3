use Rattle.std.proofs.Common.{◌≡◌, List, ℕ, subst, ◌∙◌}
use Rattle.cmwq_play.specs.Commands.{Writes}
use Rattle.cmwq_play.proofs.CommandLemmas.{writes_all}
use Rattle.cmwq_play.proofs.listing_text.write_listing.Goals as goal

pub returns-clause-writes : goal.returns-clause-writes
returns-clause-writes g c =
    let contents = g.W.Write.contents in
    let before = contents c.args.writer.now in
    let after = contents c.put_all.new.writer in
    let failed = g.W.Sink.failed c.put_all.new.writer in
    let same = c.deref.ensures.value ∙ c.in_ok-text.ensures.listing in
    subst (λ (all : List ℕ). Writes (λ output. output ≡ all) before after failed c.put_all.result) same
    (writes_all before after failed c.put_all.result c.deref.result.now c.put_all.ensures.ok c.put_all.ensures.err c.put_all.ensures.failed c.put_all.ensures.write)
