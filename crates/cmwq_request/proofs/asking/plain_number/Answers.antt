use Rattle.std.proofs.Common.{rules, sym, get_or, ◌≢◌, ◌∙◌}
use Rattle.cmwq_request.proofs.WhyLemmas.{no_number_if_long, no_number_if_signed, parsed_number}
use Rattle.cmwq_request.proofs.asking.plain_number.Goals.{then-word-gt-MOST_DIGITS-via-then-word-gt-MOST_DIGITS, then-word-gt-MOST_DIGITS-via-else-word-gt-MOST_DIGITS+then-starts_with}
use Rattle.cmwq_request.proofs.asking.plain_number.Goals as goal

pub returns-then-word-gt-MOST_DIGITS : goal.returns-then-word-gt-MOST_DIGITS
returns-then-word-gt-MOST_DIGITS c =
    elim c.then-word-gt-MOST_DIGITS.branch [
      | then-word-gt-MOST_DIGITS-via-then-word-gt-MOST_DIGITS w ↦ sym (no_number_if_long c.args.word.now (search rules))
      | then-word-gt-MOST_DIGITS-via-else-word-gt-MOST_DIGITS+then-starts_with w ↦ sym (no_number_if_signed c.args.word.now (search rules))
    ]

pub returns : goal.returns
returns c =
    let unsigned : get_or c.args.word.now 0 0 ≢ 43 = search rules in
    c.ok.ensures.value ∙ parsed_number c.parse.result c.args.word.now c.parse.ensures.value.0 unsigned (search rules)
