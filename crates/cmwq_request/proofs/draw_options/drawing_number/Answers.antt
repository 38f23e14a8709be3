use Rattle.std.proofs.Common.{rules, ◌≡◌, Ok}
use Rattle.cmwq_request.proofs.DrawLemmas.{time_read}
use Rattle.cmwq_request.proofs.draw_options.drawing_number.Goals as goal

pub returns : goal.returns
returns c n is =
    let met : c.parse.result ≡ Ok n = time_read c.parse.result c.args.word.now n c.parse.ensures.value.0 is in
    search rules
