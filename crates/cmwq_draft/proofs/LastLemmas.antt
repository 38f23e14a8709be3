-- A last field, told as what it is made into.
use Rattle.std.proofs.Common.{ℕ, List}
use Rattle.std.specs.Prelude.{Result, Ok, Err}
use Rattle.cmwq_grammar.specs.LineFields.{◌>>=◌, made_last}
use Rattle.cmwq_grammar.specs.declared.why.Why.{Why}
use Rattle.cmwq_scan.specs.Answers.{Tells}
use Rattle.cmwq_scan.specs.LastFields.{last}
use Rattle.cmwq_scan.proofs.LastFields.{last_ok, last_err}

pub told_last : {A B : Type 0} (make : A → B) (answer : Result A Why) (field : Result (A × List (List ℕ)) Why) → Tells (λ value. value) answer (last field) → Tells make answer (field >>= made_last make)
told_last make (Ok value) field told = last_ok make field value told
told_last make (Err why) field told = last_err make field why told
