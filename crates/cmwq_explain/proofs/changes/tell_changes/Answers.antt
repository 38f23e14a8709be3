use Rattle.std.proofs.Common.{◌≡◌, Err, None, Ok, ap, false, rules, sym, true, ◌∙◌}
use Rattle.std.proofs.lemmas.Result.{err_from_is_err_and}
use Rattle.std.specs.Prelude.{slice_index_or}
use Rattle.cmwq_types.specs.Contents.{ActorContents}
use Rattle.cmwq_types.specs.Scenario.{expand, expand_lines}
use Rattle.cmwq_play.proofs.TextLemmas.{first-is}
use Rattle.cmwq_explain.specs.Changes.{changes_text, has_bytes}
use Rattle.cmwq_explain.specs.ChangesTold.{IsPastEnd}
use Rattle.cmwq_explain.specs.Looking.{has_ended_before}
use Rattle.cmwq_explain.specs.declared.looker.RunEnd.{RunEnd}
use Rattle.cmwq_explain.proofs.PositionLemmas.{end_is, writes_whole}
use Rattle.cmwq_explain.proofs.TellingLemmas.{answered, not-past, nothing-told, past, past-is, unsent}
use Rattle.cmwq_explain.proofs.changes.tell_changes.Goals as goal

pub returns-in_err-end : goal.returns-in_err-end
returns-in_err-end g c = λ actor runs.
    let S = c.args.scenario in
    let says = g.P.Sayer.says in
    let looks = c.args.looks in
    let before = g.W.Write.contents c.args.writer.now in
    let after = g.W.Write.contents c.tell_lines.new.writer in
    let failed = g.W.Sink.failed c.tell_lines.new.writer in
    let instrs = expand actor in
    let text = changes_text (says c.args.sayer.now) looks S instrs in
    let T = c.deref.result.now in
    let held : T ≡ S = search rules in
    let one = c.index.result.now in
    let there : one ≡ slice_index_or S.actors 0 one = search rules in
    let lines : c.deref-3.result.now ≡ one.lines = c.deref-3.ensures.value ∙ ap (λ (a : ActorContents). a.lines) c.behind-deref.view_is in
    let issued : expand_lines c.deref-3.result.now ≡ instrs = ap expand_lines (lines ∙ ap (λ (a : ActorContents). a.lines) (first-is S.actors one actor there runs.alone)) in
    let error = c.in_err-end.field-0.0 in
    let p = err_from_is_err_and c.from_residual-in_err-end.result c.from_residual-in_err-end.ensures.1 in
    rw (p.1, p.2) (unsent text (IsPastEnd looks S instrs) before after failed error c.in_err-end.ensures.why
    (writes_whole says (record { alloc = c.args.alloc; looks = looks; sayer = c.args.sayer; position = 0; said = None; has_told = false }) S T (expand_lines c.deref-3.result.now) instrs held issued runs.few before after failed (Err error) c.in_err-end.ensures.writes))

pub returns-then-is_before : goal.returns-then-is_before
returns-then-is_before g c = λ actor runs.
    let S = c.args.scenario in
    let says = g.P.Sayer.says in
    let looks = c.args.looks in
    let before = g.W.Write.contents c.args.writer.now in
    let after = g.W.Write.contents c.tell_lines.new.writer in
    let failed = g.W.Sink.failed c.tell_lines.new.writer in
    let instrs = expand actor in
    let text = changes_text (says c.args.sayer.now) looks S instrs in
    let T = c.deref.result.now in
    let held : T ≡ S = search rules in
    let one = c.index.result.now in
    let there : one ≡ slice_index_or S.actors 0 one = search rules in
    let lines : c.deref-3.result.now ≡ one.lines = c.deref-3.ensures.value ∙ ap (λ (a : ActorContents). a.lines) c.behind-deref.view_is in
    let issued : expand_lines c.deref-3.result.now ≡ instrs = ap expand_lines (lines ∙ ap (λ (a : ActorContents). a.lines) (first-is S.actors one actor there runs.alone)) in
    let end : RunEnd = c.in_ok-end.end in
    let at = c.in_ok-end.ensures.end ∙ end_is says (record { alloc = c.args.alloc; looks = looks; sayer = c.args.sayer; position = 0; said = None; has_told = false }) S T (expand_lines c.deref-3.result.now) instrs held issued runs.few in
    let is : has_ended_before looks end ≡ true = search rules in
    let ended = sym (ap (λ (e : RunEnd). has_ended_before looks e) at) ∙ is in
    let writes = writes_whole says (record { alloc = c.args.alloc; looks = looks; sayer = c.args.sayer; position = 0; said = None; has_told = false }) S T (expand_lines c.deref-3.result.now) instrs held issued runs.few before after failed (Ok tt) c.in_ok-end.ensures.writes in
    let gone = past-is looks S instrs (has_bytes text) ended in
    past text (IsPastEnd looks S instrs) before after failed gone (nothing-told (says c.args.sayer.now) S instrs looks gone) writes

pub returns : goal.returns
returns g c = λ actor runs.
    let S = c.args.scenario in
    let says = g.P.Sayer.says in
    let looks = c.args.looks in
    let before = g.W.Write.contents c.args.writer.now in
    let after = g.W.Write.contents c.tell_lines.new.writer in
    let failed = g.W.Sink.failed c.tell_lines.new.writer in
    let instrs = expand actor in
    let text = changes_text (says c.args.sayer.now) looks S instrs in
    let T = c.deref.result.now in
    let held : T ≡ S = search rules in
    let one = c.index.result.now in
    let there : one ≡ slice_index_or S.actors 0 one = search rules in
    let lines : c.deref-3.result.now ≡ one.lines = c.deref-3.ensures.value ∙ ap (λ (a : ActorContents). a.lines) c.behind-deref.view_is in
    let issued : expand_lines c.deref-3.result.now ≡ instrs = ap expand_lines (lines ∙ ap (λ (a : ActorContents). a.lines) (first-is S.actors one actor there runs.alone)) in
    let end : RunEnd = c.in_ok-end.end in
    let at = c.in_ok-end.ensures.end ∙ end_is says (record { alloc = c.args.alloc; looks = looks; sayer = c.args.sayer; position = 0; said = None; has_told = false }) S T (expand_lines c.deref-3.result.now) instrs held issued runs.few in
    let is : has_ended_before looks end ≡ false = search rules in
    let ended = sym (ap (λ (e : RunEnd). has_ended_before looks e) at) ∙ is in
    let writes = writes_whole says (record { alloc = c.args.alloc; looks = looks; sayer = c.args.sayer; position = 0; said = None; has_told = false }) S T (expand_lines c.deref-3.result.now) instrs held issued runs.few before after failed (Ok tt) c.in_ok-end.ensures.writes in
    answered text (IsPastEnd looks S instrs) before after failed end.has_told (not-past looks S instrs (has_bytes text) ended) (ap (λ (e : RunEnd). e.has_told) at) writes
