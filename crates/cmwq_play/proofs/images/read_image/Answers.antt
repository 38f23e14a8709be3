use Rattle.std.proofs.Common.{List, ℕ, IfOk, Some, subst}
use Rattle.cmwq_play.specs.Commands.{Answers}
use Rattle.cmwq_play.specs.Images.{IsImage, IsImageFault}
use Rattle.cmwq_play.proofs.ImageLemmas.{image_answers, known_image}
use Rattle.cmwq_play.proofs.images.read_image.Goals as goal

pub returns-clause-found : goal.returns-clause-found
returns-clause-found g c =
    known_image c.image_is_at_most_923058_bytes.ensures.valid (g.R.Read.remaining c.args.reader.now) c.in_ok-bytes.bytes.items
    c.imaged.result (λ s. s) c.in_ok-bytes.ensures.whole
    (subst (λ (bytes : List ℕ). IfOk c.imaged.result (λ s. IsImage (Some bytes) s)) c.deref.ensures.value c.imaged.ensures.found)

pub returns-clause-answers : goal.returns-clause-answers
returns-clause-answers g c =
    image_answers c.far_bytes_change_no_reading.ensures c.image_is_at_most_923058_bytes.ensures.valid (g.R.Read.remaining c.args.reader.now) (g.R.Read.remaining c.read_whole.new.reader)
    c.in_ok-bytes.bytes.items c.imaged.result c.in_ok-bytes.ensures.front c.in_ok-bytes.ensures.whole
    (subst (λ (bytes : List ℕ). Answers IsImage IsImageFault (Some bytes) c.imaged.result) c.deref.ensures.value c.imaged.ensures.answers)
