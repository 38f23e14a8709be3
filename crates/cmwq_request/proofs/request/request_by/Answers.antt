use Rattle.std.proofs.Common.{rules, subst, ◌≡◌, IfOk, List, Option, Some, option_map}
use Rattle.clap.specs.Words.{Text, found_of, rows_of}
use Rattle.cmwq_request.proofs.ExploringLemmas.{explore_met}
use Rattle.cmwq_request.specs.Request.{file_to_explore, request_words}
use Rattle.cmwq_request.proofs.request.request_by.Goals as goal

pub returns-in-explore-clause-words : goal.returns-in-explore-clause-words
returns-in-explore-clause-words c asked is fits =
    let rows = rows_of (found_of c.args.given.now) in
    let explores : file_to_explore rows ≡ Some asked = search rules in
    let (stuck, flag, asks) = explore_met rows asked explores in
    subst (λ (o : Option (List Text)). IfOk c.explore_request.result (λ found. option_map (λ request. request_words request) found ≡ o)) asks
    (c.explore_request.ensures.words stuck flag)
