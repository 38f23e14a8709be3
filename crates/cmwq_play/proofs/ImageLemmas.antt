-- What was read of an input, as far as an image is read, tells as much as the whole input.
use Rattle.std.proofs.Common.{◌≡◌, ℕ, ◌<◌, ◌≤◌, ◌⊎◌, length-append, inl, inr, List, ◌++◌, length, take, Option, Some, None, IfSome, IfOk, Result, Ok, Err, sym, ap, subst, ◌∙◌, arith}
use Rattle.std.proofs.Math.Seq.{take-length}
use Rattle.std.proofs.lemmas.Bool.{cases_lt}
use Rattle.std.proofs.lemmas.List.{take-append-le}
use Rattle.std.specs.Io.KnownBytes.{Consumes}
use Rattle.cmwq_types.specs.Contents.{ScenarioContents}
use Rattle.cmwq_types.specs.Faults.{IsValid}
use Rattle.cmwq_types.specs.declared.limits.TheConstants.{MAX_TEXT}
use Rattle.cmwq_image.specs.ImageFault.{reading}
use Rattle.cmwq_image.specs.Versions.{IsImageOf}
use Rattle.cmwq_types.specs.Values.{IsScenario}
use Rattle.cmwq_image.specs.declared.error.ImageError.TheVariants as errors
use Rattle.cmwq_play.specs.Commands.{Answers}
use Rattle.cmwq_play.specs.Images.{IsImage, IsImageFault}
use Rattle.cmwq_play.proofs.CommandLemmas.{answers_lifted}
use Rattle.cmwq_streams.specs.declared.error.PlayError.{PlayError}
use Rattle.cmwq_streams.specs.declared.error.PlayError.TheVariants.{Image}

-- no image is longer than so many bytes
abbrev pub ImagesAreShort : Type 0
ImagesAreShort = (bytes : List ℕ) (S : ScenarioContents) → IsScenario S → IsValid S → IsImageOf bytes S → length bytes ≤ 923058

-- what stands behind so many bytes and one more changes no reading
abbrev pub FarChangesNothing : Type 0
FarChangesNothing = (n : ℕ) (bytes : List ℕ) → 923058 < n → reading (take n bytes) ≡ reading bytes

-- the text reads as the input does, of which it is all, or a long front
text_reads : FarChangesNothing → (bytes text rest : List ℕ) → bytes ≡ text ++ rest → (length text ≤ MAX_TEXT → bytes ≡ text) → reading text ≡ reading bytes
text_reads far bytes text rest front whole = decide (cases_lt MAX_TEXT (length text)) where
  decide : (MAX_TEXT < length text) ⊎ (length text ≤ MAX_TEXT) → reading text ≡ reading bytes
  decide (inl long) =
      let text_is : take (length text) bytes ≡ text =
      ap (take (length text)) front ∙ take-append-le (length text) text rest (omega arith) ∙ take-length text in
      ap reading (sym text_is) ∙ far (length text) bytes (omega (arith, long))
  decide (inr short) = ap reading (sym (whole short))

-- a fault is told of bytes that read alike
told_alike : (text : List ℕ) (input : Option (List ℕ)) (error : PlayError) → IfSome input (λ bytes. reading text ≡ reading bytes) → IsImageFault (Some text) error → IsImageFault input error
told_alike text (Some bytes) (Image errors.NoMemory) same told = told
told_alike text (Some bytes) (Image errors.Magic) same told = sym same ∙ told
told_alike text (Some bytes) (Image errors.Version) same told = sym same ∙ told
told_alike text (Some bytes) (Image errors.Truncated) same told = sym same ∙ told
told_alike text (Some bytes) (Image errors.Extra) same told = sym same ∙ told
told_alike text (Some bytes) (Image (errors.BadField at)) same told = sym same ∙ told
told_alike text (Some bytes) (Image (errors.Fault fault)) same told = sym same ∙ told
told_alike text None (Image errors.NoMemory) same told = told
told_alike text None (Image errors.Magic) same told = tt
told_alike text None (Image errors.Version) same told = tt
told_alike text None (Image errors.Truncated) same told = tt
told_alike text None (Image errors.Extra) same told = tt
told_alike text None (Image (errors.BadField at)) same told = tt
told_alike text None (Image (errors.Fault fault)) same told = tt
told_alike text input other same told = elim told [ ]

-- what was read of the input says what the input says
pub image_answers : {A : Type 0} → FarChangesNothing → ImagesAreShort → (input now : Option (List ℕ)) (text : List ℕ) (r : Result A PlayError) → Consumes input now text
    → (length text ≤ MAX_TEXT → IfSome input (λ bytes. bytes ≡ text)) → Answers IsImage IsImageFault (Some text) r → Answers IsImage IsImageFault input r
image_answers far short (Some bytes) (Some rest) text r front whole h =
    let same = text_reads far bytes text rest front whole in
    answers_lifted IsImage IsImageFault (Some bytes) text r (λ fault told. told_alike text (Some bytes) fault same told)
    (λ S is.
    let all : bytes ≡ text = whole (omega (arith, short bytes S is.contents is.valid is.image, ap length front, length-append text rest)) in
    record { contents = is.contents; valid = is.valid; image = subst (λ (b : List ℕ). IsImageOf b S) all is.image })
    (λ fault told. told_alike bytes (Some text) fault (sym same) told) h
image_answers far short (Some bytes) None text r front whole h = elim front [ ]
image_answers far short None now text r front whole h = answers_lifted IsImage IsImageFault None text r (λ fault told. told_alike text None fault tt told) tt tt h

-- the image that was read is the input
pub known_image : {A : Type 0} → ImagesAreShort → (input : Option (List ℕ)) (text : List ℕ) (r : Result A PlayError) (view : A → ScenarioContents)
    → (length text ≤ MAX_TEXT → IfSome input (λ bytes. bytes ≡ text)) → IfOk r (λ s. IsImage (Some text) (view s)) → IfOk r (λ s. IsImage input (view s))
known_image short (Some bytes) text (Ok s) view whole is =
    let all : bytes ≡ text = whole (omega (arith, short text (view s) is.contents is.valid is.image)) in
    record { contents = is.contents; valid = is.valid; image = subst (λ (b : List ℕ). IsImageOf b (view s)) (sym all) is.image }
known_image short None text (Ok s) view whole is = record { contents = is.contents; valid = is.valid; image = tt }
known_image short input text (Err error) view whole found = tt
