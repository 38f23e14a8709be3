use Rattle.std.proofs.Common.{subst, sym, List}
use Rattle.clap.specs.Words.{Row, Text}
use Rattle.cmwq_request.specs.Request.{AsksNothing}
use Rattle.cmwq_request.proofs.RequestLemmas.{met_in, met_is}
use Rattle.cmwq_request.proofs.request.request_of.Goals as goal

pub returns-in-Some-clause-words : goal.returns-in-Some-clause-words
returns-in-Some-clause-words c asked is fits =
    let met = c.in-Some.ensures in
    c.request_by.ensures.words asked (met_in c.args.matches.now _ _ asked met.name met.rows is) fits

pub returns-in-Some-clause-nothing : goal.returns-in-Some-clause-nothing
returns-in-Some-clause-nothing c meeting is nothing =
    let met = c.in-Some.ensures in
    c.request_by.ensures.nothing (subst AsksNothing (sym (met_is c.args.matches.now _ _ meeting met.name met.rows is)) nothing)
