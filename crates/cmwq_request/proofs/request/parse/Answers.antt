use Rattle.std.proofs.Common.{◌≡◌, ◌∙◌, rules, inl, inr, false, sym, true}
use Rattle.cmwq_request.proofs.RequestLemmas.{version_asked}
use Rattle.cmwq_request.proofs.TableLemmas.{asked_read, given_misused, language_asked}
use Rattle.cmwq_request.proofs.request.parse.Goals as goal

pub returns-clause-asks : goal.returns-clause-asks
returns-clause-asks c name given asked are by =
    elim (asked_read _ name given asked are by) [
      | inl read ↦ c.request_met.ensures.asks asked read
      | inr both ↦
          let no : c.asks_for_language.result ≡ false = search rules in
          let yes : c.asks_for_language.result ≡ true = c.asks_for_language.ensures ∙ language_asked _ name given are both.0 in
          let apart : true ≡ false = sym yes ∙ no in
          absurd cc
    ]

pub returns-clause-misuse : goal.returns-clause-misuse
returns-clause-misuse c name given are by = c.request_met.ensures.misuse (given_misused _ name given are by)

pub returns-clause-version : goal.returns-clause-version
returns-clause-version c name word are is = c.request_met.ensures.version (version_asked _ name word are is)
