use Rattle.std.proofs.Common.{arith, rules, sym, ◌≡◌, ◌∙◌, None, Some}
use Rattle.std.proofs.lemmas.Str.Pattern.{split_parts, strip_prefix_char}
use Rattle.clap.proofs.LexerLemmas.{strip_byte-from}
use Rattle.cmwq_request.specs.Numbers.{limits_from, plain_number}
use Rattle.cmwq_request.proofs.LimitLemmas.{limits_between, limits_unless, no_high, no_limits_without, no_low}
use Rattle.cmwq_request.proofs.reporting.limits_in.Goals as goal

pub returns-in_err-low-clause-value : goal.returns-in_err-low-clause-value
returns-in_err-low-clause-value c =
    let none : c.from_residual.result ≡ None = search rules in
    none ∙ sym (no_limits_without c.args.word.now (split_parts 46 c.args.word.now None c.in_err-low.ensures.cases (omega arith)))

pub returns-in_err-high-clause-value : goal.returns-in_err-high-clause-value
returns-in_err-high-clause-value c =
    let low = c.in_ok-low.low in
    let behind = c.in_ok-low.behind in
    let parts = split_parts 46 c.args.word.now (Some (low, behind)) c.in_ok-low.ensures.cases (omega arith) in
    let lacks = strip_byte-from 46 behind.now None (strip_prefix_char 46 behind.now None c.in_err-high.ensures.cases (omega arith)) in
    let none : c.from_residual-in_err-high.result ≡ None = search rules in
    none ∙ sym (limits_unless c.args.word.now low.now behind.now parts.0 parts.1 (sym lacks))

pub returns-in_err-plain_number-clause-value : goal.returns-in_err-plain_number-clause-value
returns-in_err-plain_number-clause-value c =
    let low = c.in_ok-low.low in
    let behind = c.in_ok-low.behind in
    let high = c.in_ok-high.high in
    let parts = split_parts 46 c.args.word.now (Some (low, behind)) c.in_ok-low.ensures.cases (omega arith) in
    let there = strip_byte-from 46 behind.now (Some high) (strip_prefix_char 46 behind.now (Some high) c.in_ok-high.ensures.cases (omega arith)) in
    let none : c.from_residual-in_err-plain_number.result ≡ None = search rules in
    let no : plain_number low.now ≡ None = search rules in
    none ∙ sym (limits_between c.args.word.now low.now behind.now parts.0 parts.1 high.now (sym there) ∙ no_low (plain_number low.now) (plain_number high.now) no)

pub returns-in_err-plain_number-2-clause-value : goal.returns-in_err-plain_number-2-clause-value
returns-in_err-plain_number-2-clause-value c =
    let low = c.in_ok-low.low in
    let behind = c.in_ok-low.behind in
    let high = c.in_ok-high.high in
    let parts = split_parts 46 c.args.word.now (Some (low, behind)) c.in_ok-low.ensures.cases (omega arith) in
    let there = strip_byte-from 46 behind.now (Some high) (strip_prefix_char 46 behind.now (Some high) c.in_ok-high.ensures.cases (omega arith)) in
    let none : c.from_residual-in_err-plain_number-2.result ≡ None = search rules in
    let no : plain_number high.now ≡ None = search rules in
    none ∙ sym (limits_between c.args.word.now low.now behind.now parts.0 parts.1 high.now (sym there) ∙ no_high (plain_number low.now) (plain_number high.now) no)

pub returns-clause-value : goal.returns-clause-value
returns-clause-value c =
    let low = c.in_ok-low.low in
    let behind = c.in_ok-low.behind in
    let high = c.in_ok-high.high in
    let parts = split_parts 46 c.args.word.now (Some (low, behind)) c.in_ok-low.ensures.cases (omega arith) in
    let there = strip_byte-from 46 behind.now (Some high) (strip_prefix_char 46 behind.now (Some high) c.in_ok-high.ensures.cases (omega arith)) in
    let is : c.limits_from.result ≡ limits_from (plain_number low.now) (plain_number high.now) = search rules in
    is ∙ sym (limits_between c.args.word.now low.now behind.now parts.0 parts.1 high.now (sym there))
