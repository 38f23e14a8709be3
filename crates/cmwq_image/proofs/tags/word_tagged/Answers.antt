use Rattle.std.proofs.Common.{◌-◌, List, arith, refl, sym, ap, ◌∙◌}
use Rattle.std.specs.Prelude.{slice_get}
use Rattle.cmwq_types.specs.Mnemonics.{mnemonics}
use Rattle.cmwq_types.specs.declared.mnemonic.Mnemonic.{Mnemonic}
use Rattle.cmwq_image.specs.Image.{tag_of}
use Rattle.cmwq_image.proofs.TagLemmas.{by_place}
use Rattle.cmwq_image.proofs.tags.word_tagged.Goals as goal

pub returns : goal.returns
returns c =
    let place = c.args.byte - 16 in
    c.word_at.ensures ∙ ap (λ (words : List Mnemonic). slice_get words place) c.all.ensures
    ∙ sym (by_place tag_of mnemonics 16 place c.args.byte refl (omega (arith, c.if-byte-lt-FIRST_TAG.false)))
