-- What a line at a text's head comes to, by its number.
use Rattle.std.proofs.Common.{◌≡◌, ℕ, Bool, true, false, cond, List, ap, ◌∙◌, sym}
use Rattle.std.specs.Prelude.{Result, Ok, Err}
use Rattle.std.specs.Str.{bytes_eq}
use Rattle.cmwq_grammar.specs.LineFields.{◌>>=◌, made_last, number_within}
use Rattle.cmwq_grammar.specs.Instructions.{cannot_stand}
use Rattle.cmwq_grammar.specs.declared.why.Why.{Why}
use Rattle.cmwq_grammar.specs.declared.why.Why.TheVariants as why
use Rattle.cmwq_asm.specs.Header.{head_number}
use Rattle.cmwq_scan.specs.LastFields.{last}
use Rattle.cmwq_scan.specs.Refusals.{refusal_of}
use Rattle.cmwq_scan.proofs.LastFields.{last_ok, last_err}
use Rattle.cmwq_scan.proofs.LineSteps.{cannot_stand-is}

module _ {A : Type 0} (f : ℕ → A) where
  by_ok : (b : Bool) (field : Result (ℕ × List (List ℕ)) Why) (word : List ℕ) (n : ℕ) → cond b (last field) (cannot_stand why.Misplaced word) ≡ Ok n → cond b (field >>= made_last f) (cannot_stand why.Misplaced word) ≡ Ok (f n)
  by_ok true field word n e = last_ok f field n e
  by_ok false field word n e = let stands = sym (cannot_stand-is {A = ℕ} why.Misplaced word) ∙ e in cc

  by_err : (b : Bool) (field : Result (ℕ × List (List ℕ)) Why) (word : List ℕ) (reason : Why) → cond b (last field) (cannot_stand why.Misplaced word) ≡ Err reason → cond b (field >>= made_last f) (cannot_stand why.Misplaced word) ≡ Err reason
  by_err true field word reason e = last_err f field reason e
  by_err false field word reason e =
      let stands = sym (cannot_stand-is {A = ℕ} why.Misplaced word) ∙ e in
      let same : refusal_of why.Misplaced word ≡ reason = cc in
      cannot_stand-is {A = A} why.Misplaced word ∙ ap Err same

  pub head_ok : (wanted : List ℕ) (low high : ℕ) (word : List ℕ) (rest : List (List ℕ)) (n : ℕ) → head_number wanted low high word rest ≡ Ok n → cond (bytes_eq word wanted) (number_within low high rest >>= made_last f) (cannot_stand why.Misplaced word) ≡ Ok (f n)
  head_ok wanted low high word rest n e = by_ok (bytes_eq word wanted) (number_within low high rest) word n e

  pub head_err : (wanted : List ℕ) (low high : ℕ) (word : List ℕ) (rest : List (List ℕ)) (reason : Why) → head_number wanted low high word rest ≡ Err reason → cond (bytes_eq word wanted) (number_within low high rest >>= made_last f) (cannot_stand why.Misplaced word) ≡ Err reason
  head_err wanted low high word rest reason e = by_err (bytes_eq word wanted) (number_within low high rest) word reason e

pub ruleset head_steps = (head_ok, head_err)
