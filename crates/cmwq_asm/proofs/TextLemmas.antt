-- Reading a text line by line.
use Rattle.std.proofs.Common.{◌≡◌, ℕ, ◌+◌, ◌<◌, List, [], ◌∷◌, length, ap, ◌∙◌, sym, subst, arith}
use Rattle.std.specs.Prelude.{IsTrue, Result, Ok, Err}
use Rattle.std.specs.Str.{is_utf8}
use Rattle.cmwq_grammar.specs.Cutting.{lines_of}
use Rattle.cmwq_grammar.specs.LineFields.{◌>>=◌}
use Rattle.cmwq_grammar.specs.Meaning.{FaultAt, fault_at, at_line, stage_after}
use Rattle.cmwq_grammar.specs.LineReasons.{judge, step}
use Rattle.cmwq_grammar.specs.Stages.{Stage}
use Rattle.cmwq_grammar.specs.declared.why.Why.{Why}
use Rattle.cmwq_scan.specs.Words.{worded_part, words_left}
use Rattle.cmwq_asm.specs.Texts.{AsmErrorIs, Fails, LeadsOn}
use Rattle.cmwq_asm.specs.LineAnswers.{RefusesLine}
use Rattle.cmwq_asm.specs.declared.fault.AsmError.{AsmError}
use Rattle.cmwq_asm.specs.declared.fault.LineError.{LineError}
use Rattle.cmwq_asm.specs.declared.fault.LineError.TheVariants as error

-- what the words of a line of text come to
pub judged : (stage next : Stage) (line worded : List ℕ) → IsTrue (is_utf8 line) → worded ≡ worded_part line → step stage (words_left worded) ≡ Ok next → judge stage line ≡ Ok next
unfolding judge
judged stage next line worded utf8 is stepped = rw utf8 (ap (λ (part : List ℕ). step stage (words_left part)) (sym is) ∙ stepped)

-- a line that is taken
pub next_stage : (n : ℕ) (lines : List (List ℕ)) (line : List ℕ) (more : List (List ℕ)) (stage next : Stage) → lines ≡ line ∷ more → judge stage line ≡ Ok next → stage_after n lines stage ≡ stage_after (n + 1) more next
unfolding stage_after
next_stage n lines line more stage next cut judged =
    ap (λ (all : List (List ℕ)). stage_after n all stage) cut
    ∙ ap (λ (given : Result Stage Why). at_line n given >>= stage_after (n + 1) more) judged

-- a line that isn't
pub fault_in_line : (n : ℕ) (lines : List (List ℕ)) (line : List ℕ) (more : List (List ℕ)) (stage : Stage) (reason : Why) → lines ≡ line ∷ more → judge stage line ≡ Err reason → stage_after n lines stage ≡ Err (fault_at n reason)
unfolding stage_after
fault_in_line n lines line more stage reason cut judged =
    ap (λ (all : List (List ℕ)). stage_after n all stage) cut
    ∙ ap (λ (given : Result Stage Why). at_line n given >>= stage_after (n + 1) more) judged

-- no line is left
pub last_stage : (n : ℕ) (lines : List (List ℕ)) (stage : Stage) → lines ≡ [] → stage_after n lines stage ≡ Ok stage
unfolding stage_after
last_stage n lines stage none = ap (λ (all : List (List ℕ)). stage_after n all stage) none

-- no line is read yet
pub leads_nowhere : (text : List ℕ) (stage : Stage) → LeadsOn text stage text 0 stage
leads_nowhere text stage = record {
  stage = λ line. ap (λ (n : ℕ). stage_after n (lines_of text) stage) (omega arith);
  counted = omega arith;
  room = omega arith;
}

-- one line more
pub leads_further : (text : List ℕ) (from : Stage) (rest : List ℕ) (count : ℕ) (stage next : Stage) (line behind : List ℕ)
    → LeadsOn text from rest count stage → lines_of rest ≡ line ∷ lines_of behind → length behind < length rest → judge stage line ≡ Ok next
    → LeadsOn text from behind (count + 1) next
leads_further text from rest count stage next line behind so_far cut shorter judged = record {
  stage = λ first.
      so_far.stage first ∙ next_stage (first + count) (lines_of rest) line (lines_of behind) stage next cut judged
      ∙ ap (λ (n : ℕ). stage_after n (lines_of behind) next) (omega arith);
  counted = omega (arith, so_far.counted, ap length cut);
  room = omega (arith, so_far.room, shorter);
}

-- a line's error, told with the line
pub told_fails : {A B : Type 0} (answer : AsmError) (line : ℕ) (e : LineError) (said : Result A Why) (text : Result B FaultAt) → AsmErrorIs answer line e → RefusesLine e said → ((reason : Why) → said ≡ Err reason → text ≡ Err (fault_at line reason)) → Fails answer text
told_fails answer line (error.Why why) said text told refuses at = subst (λ given. Fails given text) (sym told) (at why refuses)
told_fails answer line error.NoMemory said text told refuses at = subst (λ given. Fails given text) (sym told) tt
