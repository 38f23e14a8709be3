use Rattle.std.proofs.Common.{rules, ◌≡◌, Ok}
use Rattle.cmwq_request.proofs.RequestLemmas.{number_read}
use Rattle.cmwq_request.proofs.request.capacity_of.Goals as goal

pub returns-in_err-capacity-clause-read : goal.returns-in_err-capacity-clause-read
returns-in_err-capacity-clause-read c = λ n is fits.
    let met : c.parse.result ≡ Ok n = number_read c.parse.result c.args.word.now n c.parse.ensures.value.0 is fits in
    search rules

pub returns-then-capacity-lt1-clause-read : goal.returns-then-capacity-lt1-clause-read
returns-then-capacity-lt1-clause-read c = λ n is fits.
    let met : c.parse.result ≡ Ok n = number_read c.parse.result c.args.word.now n c.parse.ensures.value.0 is fits in
    search rules

pub returns-clause-read : goal.returns-clause-read
returns-clause-read c = λ n is fits.
    let met : c.parse.result ≡ Ok n = number_read c.parse.result c.args.word.now n c.parse.ensures.value.0 is fits in
    search rules
