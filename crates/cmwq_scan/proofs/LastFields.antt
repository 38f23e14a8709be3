-- The last field of a line, made into something.
use Rattle.std.proofs.Common.{◌≡◌, ℕ, List, [], ◌∷◌, ap}
use Rattle.std.specs.Prelude.{Result, Ok, Err}
use Rattle.cmwq_grammar.specs.LineFields.{◌>>=◌, ended, made_last}
use Rattle.cmwq_grammar.specs.declared.why.Why.{Why}
use Rattle.cmwq_scan.specs.LastFields.{last}

module _ {A B : Type 0} (f : A → B) where
  ended_by_ok : (value other : A) (words : List (List ℕ)) → ended value words ≡ Ok other → ended (f value) words ≡ Ok (f other)
  unfolding ended
  ended_by_ok value other [] e = let same : value ≡ other = cc in ap (λ (x : A). Ok (f x)) same
  ended_by_ok value other (word ∷ rest) e = cc

  ended_by_err : (value : A) (reason : Why) (words : List (List ℕ)) → ended value words ≡ Err reason → ended (f value) words ≡ Err reason
  unfolding ended
  ended_by_err value reason [] e = cc
  ended_by_err value reason (word ∷ rest) e = cc

  pub last_ok : (field : Result (A × List (List ℕ)) Why) (value : A) → last field ≡ Ok value → (field >>= made_last f) ≡ Ok (f value)
  last_ok (Ok found) value e = ended_by_ok found.0 value found.1 e
  last_ok (Err reason) value e = cc

  pub last_err : (field : Result (A × List (List ℕ)) Why) (reason : Why) → last field ≡ Err reason → (field >>= made_last f) ≡ Err reason
  last_err (Ok found) reason e = ended_by_err found.0 reason found.1 e
  last_err (Err other) reason e = cc

pub ruleset last_fields = (last_ok, last_err)
