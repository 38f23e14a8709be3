-- A line whose first word can't stand here.
use Rattle.std.proofs.Common.{◌≡◌, ℕ, Bool, true, false, cond, List, refl}
use Rattle.std.specs.Prelude.{Result, Err}
use Rattle.std.specs.List.{list_any}
use Rattle.std.specs.Str.{bytes_eq}
use Rattle.cmwq_grammar.specs.Instructions.{cannot_stand, first_words}
use Rattle.cmwq_grammar.specs.declared.why.Why.{Why}
use Rattle.cmwq_grammar.specs.declared.why.Why.TheVariants as why
use Rattle.cmwq_scan.specs.Refusals.{refusal_of}
use Rattle.cmwq_scan.proofs.LastFields.{last_ok, last_err}

by_test : {A : Type 0} (b : Bool) (reason other : Why) → cond {A = Result A Why} b (Err reason) (Err other) ≡ Err (cond b reason other)
by_test true reason other = refl
by_test false reason other = refl

pub cannot_stand-is : {A : Type 0} (reason : Why) (word : List ℕ) → cannot_stand {A = A} reason word ≡ Err (refusal_of reason word)
unfolding cannot_stand refusal_of
cannot_stand-is reason word = by_test (list_any (bytes_eq word) first_words) reason why.BadWord

pub ruleset line_steps = (last_ok, last_err, cannot_stand-is)
