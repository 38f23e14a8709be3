-- A reason told as it is, and steps that went well.
use Rattle.std.proofs.Common.{◌≡◌, sym, ap, subst}
use Rattle.std.specs.Prelude.{Result, Ok, Err, IsErrAnd}
use Rattle.cmwq_grammar.specs.LineFields.{◌>>=◌}
use Rattle.cmwq_grammar.specs.declared.why.Why.{Why}
use Rattle.cmwq_scan.specs.Answers.{Tells}

module _ {A B : Type 0} (view : A → B) where
  pub not_there : (answer : Result A Why) (said : Result B Why) (reason : Why) → IsErrAnd answer (λ e. e ≡ reason) → said ≡ Err reason → Tells view answer said
  not_there (Ok found) said reason told why = absurd told
  not_there (Err e) said reason told why = subst (λ given. Tells view (Err given) said) (sym told) why

-- a step that went well, and what follows it
pub then_ok : {A B E : Type 0} (r : Result A E) (next : A → Result B E) (found : A) → r ≡ Ok found → (r >>= next) ≡ next found
then_ok {A = A} {B = B} {E = E} r next found e = ap (λ (given : Result A E). given >>= next) e
