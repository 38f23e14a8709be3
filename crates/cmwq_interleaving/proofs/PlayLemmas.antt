-- How a play ends, by how its actors end.
use Rattle.std.proofs.Common.{◌≡◌, ℕ, List, Option, Result, Ok, Err, OnOk, length, take, arith, sym, ap, ◌∙◌, subst}
use Rattle.std.proofs.lemmas.List.{take_all}
use Rattle.std.specs.Io.KnownBytes.{Appends}
use Rattle.cmwq_types.specs.Contents.{ScenarioContents}
use Rattle.cmwq_types.specs.declared.instr.Instr.{Instr}
use Rattle.cmwq_engine.specs.declared.history.Entry.{Entry}
use Rattle.cmwq_actors.specs.Ending.{AllHaveEnded}
use Rattle.cmwq_actors.specs.Interleaving.{Interleaves, InterleavesFronts, issued_by, script_at, scripts_of}
use Rattle.cmwq_actors.specs.declared.ending.Ending.{Ending}
use Rattle.cmwq_actors.specs.declared.ending.Ending.TheVariants as ending
use Rattle.cmwq_streams.specs.Sending.{HasSentFront}
use Rattle.cmwq_streams.specs.declared.error.PlayError.{PlayError}
use Rattle.cmwq_streams.specs.declared.error.PlayError.TheVariants as errors
use Rattle.cmwq_interleaving.specs.Plays.{HasFronts, IsActed, IsFull, IsLeft, Left, LeftFront, play_end}

-- what is whole is a front
whole_fronts : (scripts : List (List Instr)) (history : List Entry) → Interleaves scripts history → InterleavesFronts scripts history
whole_fronts scripts history whole = record {
  each = λ actor within. front (issued_by actor history) (script_at scripts actor) (whole.each actor within);
  no_others = whole.no_others;
} where
  front : (issued script : List Instr) → issued ≡ script → issued ≡ take (length issued) script
  front issued script is = subst (λ (s : List Instr). issued ≡ take (length issued) s) is (sym (take_all (length issued) issued (omega arith)))

-- however they end, they have issued fronts
pub ended_fronts : (scripts : List (List Instr)) (capacity : ℕ) (history : List Entry) (e : Ending) → AllHaveEnded scripts capacity history e → InterleavesFronts scripts history
ended_fronts scripts capacity history ending.Done ended = whole_fronts scripts history ended
ended_fronts scripts capacity history ending.Full ended = ended.0
ended_fronts scripts capacity history ending.Exhausted ended = ended

-- What was left was written, and the play ends as its actors did.
module _ (S : ScenarioContents) (capacity : ℕ) (text : List ℕ) (before after : Option (List ℕ)) where
  pub ended_ok : (e : Ending) → IsActed S capacity e text → Appends before after text → OnOk (play_end e) (Left S (λ h. Interleaves (scripts_of S) h) before after)
  ended_ok ending.Done acted out = (acted.0, text, acted.1, acted.2, out)
  ended_ok ending.Full acted out = tt
  ended_ok ending.Exhausted acted out = tt

  pub ended_full : (e : Ending) → IsActed S capacity e text → Appends before after text → play_end e ≡ Err errors.Full → Left S (λ h. IsFull S capacity h) before after
  ended_full ending.Done acted out is = cc
  ended_full ending.Full acted out is = (acted.0, text, acted.1, acted.2, out)
  ended_full ending.Exhausted acted out is = cc

  pub ended_tickets : (e : Ending) → IsActed S capacity e text → Appends before after text → play_end e ≡ Err errors.Tickets → Left S (λ h. HasFronts S h) before after
  ended_tickets ending.Done acted out is = cc
  ended_tickets ending.Full acted out is = cc
  ended_tickets ending.Exhausted acted out is = (acted.0, text, acted.1, acted.2, out)

  pub ended_front : (e : Ending) → IsActed S capacity e text → HasSentFront before after text → LeftFront S (λ h. HasFronts S h) before after
  ended_front e acted out = (acted.0, text, ended_fronts (scripts_of S) capacity acted.0 e acted.1, acted.2, out)
