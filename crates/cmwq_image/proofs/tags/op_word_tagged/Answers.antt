use Rattle.std.proofs.Common.{◌-◌, List, arith, refl, sym, ap, ◌∙◌}
use Rattle.std.specs.Prelude.{slice_get}
use Rattle.cmwq_types.specs.Operations.{op_words}
use Rattle.cmwq_types.specs.declared.operation.OpWord.{OpWord}
use Rattle.cmwq_image.specs.Image.{op_tag}
use Rattle.cmwq_image.proofs.TagLemmas.{by_place}
use Rattle.cmwq_image.proofs.tags.op_word_tagged.Goals as goal

pub returns : goal.returns
returns c =
    let place = c.args.byte - 1 in
    c.op_word_at.ensures ∙ ap (λ (words : List OpWord). slice_get words place) c.all.ensures
    ∙ sym (by_place op_tag op_words 1 place c.args.byte refl (omega (arith, c.if-byte-lt-FIRST_OP_TAG.false)))
