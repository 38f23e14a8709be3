use Rattle.std.proofs.Common.{sym, ap, ◌∙◌, take, drop, get_or, refl}
use Rattle.std.proofs.lemmas.List.{take_rest}
use Rattle.cmwq_image.proofs.NameLemmas.{name_read, named, unnamed}
use Rattle.cmwq_image.proofs.fields_left.name_in_field.Goals as goal

pub returns-then-not-are_zeros : goal.returns-then-not-are_zeros
returns-then-not-are_zeros c =
    let len = get_or c.args.bytes.now 0 0 in
    let behind = take_rest c.args.bytes.now 1 in
    sym (unnamed c.args.bytes.now c.split_at.result.1.now len c.requires refl c.if-len-gt-MAX_NAME.false (c.split_at.ensures.back ∙ ap (drop len) behind)
    (sym c.are_zeros.ensures ∙ c.if-not-are_zeros.true))

pub returns : goal.returns
returns c =
    let len = get_or c.args.bytes.now 0 0 in
    let behind = take_rest c.args.bytes.now 1 in
    name_read c.read.result c.split_at.result.0.now c.read.ensures.name c.read.ensures.exact
    ∙ sym (named c.args.bytes.now c.split_at.result.0.now c.split_at.result.1.now len c.requires refl c.if-len-gt-MAX_NAME.false
    (c.split_at.ensures.front ∙ ap (take len) behind) (c.split_at.ensures.back ∙ ap (drop len) behind)
    (sym c.are_zeros.ensures ∙ c.if-not-are_zeros.false))
