-- What becomes of a request, by where the run ended and what was written.
use Rattle.std.proofs.Common.{◌≡◌, ◌≤◌, ℕ, zero, suc, List, [], ◌++◌, length, Bool, true, false, Option, None, Some, Ok, Err, arith, refl, sym, ap, ◌∙◌, subst, append-nil}
use Rattle.std.proofs.lemmas.Bool.{ne_eqb}
use Rattle.std.proofs.lemmas.Bool.Decides.{nat_tests}
use Rattle.std.specs.Io.KnownBytes.{Appends, Keeps}
use Rattle.std.specs.Prelude.{◌&&◌, ◌||◌, ◌==◌, nat_lt, if◌then◌else◌}
use Rattle.cmwq_types.specs.Contents.{ScenarioContents}
use Rattle.cmwq_types.specs.declared.instr.Instr.{Instr}
use Rattle.cmwq_table.specs.State.{State}
use Rattle.cmwq_table.specs.Table.{run}
use Rattle.cmwq_play.specs.Commands.{Writes}
use Rattle.cmwq_streams.specs.Sending.{IsSendError}
use Rattle.cmwq_streams.specs.declared.error.PlayError.{PlayError}
use Rattle.cmwq_streams.specs.declared.error.PlayError.TheVariants.{PastEnd, Write, NoMemory}
use Rattle.cmwq_question.specs.declared.question.Looks.{Looks}
use Rattle.cmwq_question.specs.declared.question.Looks.TheVariants.{Settled, Every, At, Time}
use Rattle.cmwq_explain.specs.Changes.{changes_text, has_bytes, is_settled, looks_at, said_at, said_below, said_line, state_there, told_at, told_below}
use Rattle.cmwq_explain.specs.ChangesTold.{IsPastEnd, TellsText}
use Rattle.cmwq_explain.specs.Looking.{has_ended_before}
use Rattle.cmwq_explain.proofs.TimeLemmas.{no_later}

pub kept_so : (before after : Option (List ℕ)) → Appends before after [] → Keeps before after
kept_so None after h = tt
kept_so (Some b) None h = absurd h
kept_so (Some b) (Some a) h = h ∙ append-nil b

-- A run that ends before what is asked for.

pub past-is : (looks : Looks) (S : ScenarioContents) (instrs : List Instr) (has_told : Bool) → has_ended_before looks (record { position = length instrs; time = (run S instrs).time; has_told = has_told }) ≡ true → IsPastEnd looks S instrs
past-is (At position) S instrs has_told is = grind (arith, nat_tests)
past-is (Time tick) S instrs has_told is = grind (arith, nat_tests)
past-is Settled S instrs has_told is = cc
past-is Every S instrs has_told is = cc

pub not-past : (looks : Looks) (S : ScenarioContents) (instrs : List Instr) (has_told : Bool) → has_ended_before looks (record { position = length instrs; time = (run S instrs).time; has_told = has_told }) ≡ false → IsPastEnd looks S instrs → ⊥
not-past (At position) S instrs has_told is past =
    let before : nat_lt (length instrs) position ≡ true = grind (arith, nat_tests) in
    let wrong : true ≡ false = sym before ∙ is in
    cc
not-past (Time tick) S instrs has_told is past =
    let before : nat_lt (run S instrs).time tick ≡ true = grind (arith, nat_tests) in
    let wrong : true ≡ false = sym before ∙ is in
    cc
not-past Settled S instrs has_told is past = past
not-past Every S instrs has_told is past = past

module _ (says : ScenarioContents → Bool → State → Option (List ℕ)) (S : ScenarioContents) (instrs : List Instr) where
  unlooked : (looks : Looks) → IsPastEnd looks S instrs → (k : ℕ) → k ≤ length instrs → looks_at says looks S instrs k ≡ false
  unlooked (At position) past k within = ne_eqb k position (λ same. absurd (omega (arith, same, within, past)))
  unlooked (Time tick) past k within =
      let before : (state_there says (Time tick) S instrs k).time ≤ (run S instrs).time = no_later S instrs k within in
      let apart : ((state_there says (Time tick) S instrs k).time == tick) ≡ false = ne_eqb (state_there says (Time tick) S instrs k).time tick (λ same. absurd (omega (arith, same, before, past))) in
      ap (λ (b : Bool). b && ((k == length instrs) || is_settled S (state_there says (Time tick) S instrs k))) apart
  unlooked Settled past k within = absurd past
  unlooked Every past k within = absurd past

  module _ (looks : Looks) (past : IsPastEnd looks S instrs) where
    none-at : (k : ℕ) (b : Bool) → b ≡ false → (if b then said_line k (state_there says looks S instrs k).time (said_below says looks S instrs k) (said_at says looks S instrs k) else []) ≡ []
    none-at k false is = refl
    none-at k true is = cc

    none-below : (n : ℕ) → n ≤ suc (length instrs) → told_below says looks S instrs n ≡ []
    none-below zero within = refl
    none-below (suc n) within =
        ap (λ (text : List ℕ). text ++ told_at says looks S instrs n) (none-below n (omega (arith, within)))
        ∙ none-at n (looks_at says looks S instrs n) (unlooked looks past n (omega (arith, within)))

    -- nothing is told of it
    pub nothing-told : changes_text says looks S instrs ≡ []
    nothing-told = none-below (suc (length instrs)) (omega arith)

-- What is answered.

-- the run ended before, and nothing was written
pub past : (text : List ℕ) (IsPast : Type 0) (before after : Option (List ℕ)) (failed : Bool) → IsPast → text ≡ [] → Writes (λ output. output ≡ text) before after failed (Ok tt)
    → TellsText text IsPast before after failed (Err PastEnd)
past text IsPast before after failed is nothing writes = record {
  past_end = λ same. is;
  within = tt;
  told = tt;
  writes = record {
    wrote = tt;
    write = (λ is. cc, λ broken. let wrong = writes.write.1 broken in cc);
    front = λ is. cc;
    no_memory = λ is. cc;
    silent = λ before_writing. kept_so before after (subst (λ (t : List ℕ). Appends before after t) (writes.wrote.1 ∙ nothing) writes.wrote.2);
  };
  why = tt;
}

-- the run was told
pub answered : (text : List ℕ) (IsPast : Type 0) (before after : Option (List ℕ)) (failed : Bool) (has_told : Bool) → (IsPast → ⊥) → has_told ≡ has_bytes text → Writes (λ output. output ≡ text) before after failed (Ok tt)
    → TellsText text IsPast before after failed (Ok has_told)
answered text IsPast before after failed has_told within is writes = record {
  past_end = λ same. let wrong = same in cc;
  within = within;
  told = is;
  writes = writes;
  why = tt;
}

-- the sending failed
pub unsent : (text : List ℕ) (IsPast : Type 0) (before after : Option (List ℕ)) (failed : Bool) (error : PlayError) → IsSendError error → Writes (λ output. output ≡ text) before after failed (Err error)
    → TellsText text IsPast before after failed (Err error)
unsent text IsPast before after failed Write send writes = record { past_end = λ same. let wrong = same in cc; within = tt; told = tt; writes = writes; why = tt }
unsent text IsPast before after failed NoMemory send writes = record { past_end = λ same. let wrong = same in cc; within = tt; told = tt; writes = writes; why = tt }
unsent text IsPast before after failed other send writes = elim send [ ]
