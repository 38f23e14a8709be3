use Rattle.std.proofs.Common.{◌∙◌, refl, sym}
use Rattle.cmwq_scan.proofs.NumberLemmas.{front-to_blank, front-to_end}
use Rattle.cmwq_scan.proofs.numbers.front_number.Goals as goal

pub returns-in-empty : goal.returns-in-empty
returns-in-empty c =
    let front = c.leading_digits-value.ensures in
    let well = sym c.begins_well.ensures ∙ c.if-not-begins_well.false in
    front-to_end c.args.rest.now c.leading_digits-value.result.1 front.digits front.few well _ _ front.value refl c.in-empty.len_below

pub returns-in-len1-up : goal.returns-in-len1-up
returns-in-len1-up c =
    let front = c.leading_digits-value.ensures in
    let well = sym c.begins_well.ensures ∙ c.if-not-begins_well.false in
    front-to_blank c.args.rest.now c.leading_digits-value.result.1 front.digits front.few well _ _ front.value refl c.in-len1-up.len_at_least (sym c.is_blank.ensures ∙ c.if-is_blank.true)
