-- How a command tells what the readers of texts and of images answer.
use Rattle.cmwq_asm.specs.declared.fault.AsmError.{AsmError}
use Rattle.cmwq_asm.specs.declared.fault.AsmError.TheVariants as texts
use Rattle.cmwq_image.specs.declared.error.ImageError.{ImageError}
use Rattle.cmwq_image.specs.declared.error.ImageError.TheVariants as errors
use Rattle.cmwq_streams.specs.declared.error.PlayError.{PlayError}
use Rattle.cmwq_streams.specs.declared.error.PlayError.TheVariants.{Asm, Image, NoMemory}

abbrev pub told_as : ImageError → PlayError
told_as errors.NoMemory = NoMemory
told_as errors.Magic = Image errors.Magic
told_as errors.Version = Image errors.Version
told_as errors.Truncated = Image errors.Truncated
told_as errors.Extra = Image errors.Extra
told_as (errors.BadField at) = Image (errors.BadField at)
told_as (errors.Fault fault) = Image (errors.Fault fault)

abbrev pub text_told_as : AsmError → PlayError
text_told_as texts.NoMemory = NoMemory
text_told_as (texts.At line why) = Asm (texts.At line why)
