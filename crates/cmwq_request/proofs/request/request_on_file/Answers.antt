use Rattle.std.proofs.Common.{sym, ◌∙◌}
use Rattle.clap.specs.Words.{found_of, rows_of}
use Rattle.cmwq_request.proofs.RequestLemmas.{asked_behind}
use Rattle.cmwq_request.proofs.request.request_on_file.Goals as goal

pub returns-in_default-clause-words : goal.returns-in_default-clause-words
returns-in_default-clause-words c asked is fits =
    let rows = rows_of (found_of c.args.given.now) in
    let behind = asked_behind c.args.name.now rows c.in_default.not-new c.in_default.not-run c.in_default.not-settle c.in_default.not-list c.in_default.not-asm c.in_default.not-show in
    c.request_on_run.ensures.words asked (sym behind ∙ is) fits
