-- A reason told as it is.
use Rattle.std.proofs.Common.{◌≡◌, sym, subst}
use Rattle.std.specs.Prelude.{Result, Ok, Err, IsErrAnd}
use Rattle.cmwq_grammar.specs.declared.why.Why.{Why}
use Rattle.cmwq_asm.specs.LineAnswers.{Gives}
use Rattle.cmwq_asm.specs.declared.fault.LineError.{LineError}
use Rattle.cmwq_asm.specs.declared.fault.LineError.TheVariants as error

module _ {A B : Type 0} (view : A → B) where
  pub refused : (answer : Result A LineError) (said : Result B Why) (reason : Why) → IsErrAnd answer (λ e. e ≡ error.Why reason) → said ≡ Err reason → Gives view answer said
  refused (Ok found) said reason told why = absurd told
  refused (Err e) said reason told why = subst (λ given. Gives view (Err given) said) (sym told) why
