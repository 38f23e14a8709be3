-- The definitions compute the number's digit.
use Rattle.std.proofs.Common.{refl}
use Rattle.std.specs.Fmt.{digits}
use Rattle.cmwq_command_examples.proofs.requests.each_request_has_its_words.Goals as goal

pub returns-clause-play : goal.returns-clause-play
unfolding digits
returns-clause-play c = λ file. refl
