use Rattle.std.proofs.Common.{IfOk, List, subst}
use Rattle.clap.specs.Words.{Row, Text}
use Rattle.cmwq_request.specs.Request.{HasUsageOf}
use Rattle.cmwq_request.proofs.RequestLemmas.{met_is}
use Rattle.cmwq_request.proofs.request.command_met.Goals as goal

pub returns-in-Some : goal.returns-in-Some
returns-in-Some c met is =
    let named = c.in-Some.ensures in
    let same = met_is c.args.matches.now _ _ met named.name named.rows is in
    subst (λ (one : Text × List Row). IfOk c.command_named.result (λ command. HasUsageOf one.0 command)) same c.command_named.ensures
