-- What the commands answer and write, from what their parts do.
use Rattle.std.proofs.Common.{◌≡◌, ◌≢◌, ◌<◌, ◌≤◌, ◌⊎◌, inl, inr, ℕ, List, [], ◌∷◌, length, arith, refl, ap, ◌∙◌, sym, subst, Bool, Option, Some, None, IfSome, Result, Ok, Err, IfErr, OnOk}
use Rattle.cmwq_types.specs.Contents.{ActorContents, ScenarioContents}
use Rattle.cmwq_types.specs.Faults.{IsValid}
use Rattle.cmwq_types.specs.Listing.{listing}
use Rattle.cmwq_types.specs.Scenario.{expand}
use Rattle.cmwq_types.specs.declared.instr.Instr.{Instr}
use Rattle.cmwq_types.specs.declared.limits.TheConstants.{MAX_LINES}
use Rattle.cmwq_table.specs.Events.{events}
use Rattle.cmwq_grammar.specs.Grammar.{Spells}
use Rattle.cmwq_play.specs.Commands.{Answers, IsOutside, Writes}
use Rattle.cmwq_play.specs.Runs.{CanRun, IsRefused, IsRunOf}
use Rattle.cmwq_play.specs.PlayTexts.{ComesTo, IsFaultOf, IsSpelled, IsTextFault}
use Rattle.cmwq_play.proofs.CommandLemmas.{answers_outside, err_is}
use Rattle.cmwq_play.proofs.TextLemmas.{answers_told}
use Rattle.cmwq_streams.specs.Sending.{IsSendError}
use Rattle.cmwq_streams.specs.declared.error.PlayError.{PlayError}
use Rattle.cmwq_streams.specs.declared.error.PlayError.TheVariants as errors
use Rattle.std.specs.Io.KnownBytes.{Appends}
use Rattle.cmwq_settle.specs.Counting.{HasCounted, IsCounted, nexts_given, with_one_actor}
use Rattle.cmwq_settle.specs.Quiet.{NeverQuiet, Settles, nexts_left}
use Rattle.cmwq_settle.specs.Settled.{IsSettled, IsUnsettleable, IsNotSettled, settled_scenario, with_nexts}
use Rattle.cmwq_settle.specs.Settling.{IsEndlessOutput, IsFollowedOutput, IsSettledListing, IsSettledOutput, Wrote, followed}
use Rattle.cmwq_settle.specs.declared.counting.Nexts.{Nexts}
use Rattle.cmwq_settle.specs.declared.counting.Nexts.TheVariants.{Settle, Never}
use Rattle.cmwq_settle.proofs.AnswerLemmas.{no_text-unsettleable, refused-told, settled_scenario-well, told-unsettleable, unsettleable-once}
use Rattle.cmwq_settle.proofs.LineLemmas.{expand-with_nexts}
use Rattle.cmwq_settle.proofs.OtherActors.{settled-is, settled-valid}
use Rattle.cmwq_settle.proofs.SettledRuns.{settled-can}

-- Errors.

-- what is told of a text, and what couldn't be read, isn't that the machine never is quiet
pub unread-other : (input : Option (List ℕ)) (error : PlayError) → IsTextFault input error ⊎ IsOutside error → error ≢ errors.NeverQuiet
unread-other input error why is = none (subst (λ (e : PlayError). IsTextFault input e ⊎ IsOutside e) is why) where
  none : IsTextFault input errors.NeverQuiet ⊎ IsOutside errors.NeverQuiet → ⊥
  none (inl told) = told
  none (inr outside) = outside

pub refused-other : (S : ScenarioContents) (error : PlayError) → IsRefused S error → error ≢ errors.NeverQuiet
refused-other S error refused is = subst (λ (e : PlayError). IsRefused S e) is refused

pub refused-writes : (S : ScenarioContents) (error : PlayError) → IsRefused S error → error ≢ errors.Write
refused-writes S error refused is = subst (λ (e : PlayError). IsRefused S e) is refused

pub refused-reads : (S : ScenarioContents) (error : PlayError) → IsRefused S error → error ≢ errors.Read
refused-reads S error refused is = subst (λ (e : PlayError). IsRefused S e) is refused

-- why there is no settled scenario
abbrev pub Why : ScenarioContents → PlayError → Type 0
Why S error = IsUnsettleable S error ⊎ (error ≡ errors.NoMemory)

pub why-reads : (S : ScenarioContents) (error : PlayError) → Why S error → error ≢ errors.Read
why-reads S error (inl told) is = subst (λ (e : PlayError). IsUnsettleable S e) is told
why-reads S error (inr memory) is = cc

pub why-writes : (S : ScenarioContents) (error : PlayError) → Why S error → error ≢ errors.Write
why-writes S error (inl told) is = subst (λ (e : PlayError). IsUnsettleable S e) is told
why-writes S error (inr memory) is = cc

pub sending-other : {A : Type 0} (r : Result A PlayError) → IfErr r (λ error. IsSendError error) → r ≢ Err errors.NeverQuiet
sending-other (Ok x) why is = cc
sending-other (Err errors.Write) why is = cc
sending-other (Err errors.NoMemory) why is = cc
sending-other (Err other) why is = elim why [ ]

-- the text spells a scenario that can't be settled
pub answers_unsettleable : {A B : Type 0} (S : ScenarioContents) (x : A) (input : Option (List ℕ)) (error : PlayError) → Why S error → IsSpelled input S
    → IfSome input (λ text. (T : ScenarioContents) → Spells text T → S ≡ T) → Answers {A = A} IsSpelled IsTextFault input (Ok x)
    → Answers {A = B} (ComesTo IsSettledListing) (IsFaultOf IsUnsettleable) input (Err error)
answers_unsettleable S x input error (inl told) found only h =
    answers_told IsSettledListing IsUnsettleable S x input error told (no_text-unsettleable S) (λ fault other. unsettleable-once S error fault told other)
    (λ output is. settled_scenario-well S is.0 is.1 error told) found only h
answers_unsettleable S x input error (inr memory) found only h =
    answers_outside (ComesTo IsSettledListing) (IsFaultOf IsUnsettleable) input error (subst IsOutside (sym memory) tt)

-- The settled scenario.

pub refused-why : (S : ScenarioContents) (error : PlayError) → IsRefused S error → Why S error
refused-why S error refused = inl (told-unsettleable S error (refused-told S error refused))

pub never-why : (S : ScenarioContents) (n : ℕ) → HasCounted S (Never n) → Why S errors.NeverQuiet
never-why S n counted = inl (counted.0, record { runs = counted.1; never = counted.2.0 })

pub long-why : (S : ScenarioContents) (n : ℕ) (longer : ActorContents) → (counted : HasCounted S (Settle n)) → longer ≡ with_nexts n counted.0 → MAX_LINES < length longer.lines → Why S errors.Full
long-why S n longer counted is many =
    let lines = ap (λ (actor : ActorContents). length actor.lines) is in
    inl (inr (counted.0, n, record { runs = counted.1; settles = counted.2 }, omega (arith, lines, many)))

module _ (S T : ScenarioContents) (n : ℕ) (longer : ActorContents) (counted : HasCounted S (Settle n)) (is : longer ≡ with_nexts n counted.0) (few : length longer.lines ≤ MAX_LINES) (made : T ≡ with_one_actor S longer) where
  fits : length (with_nexts n counted.0).lines ≤ MAX_LINES
  fits = let lines = ap (λ (actor : ActorContents). length actor.lines) is in omega (arith, lines, few)

  pub settled-so : IsSettled S T
  settled-so = (
    counted.0,
    n,
    record { runs = counted.1; settles = counted.2 },
    fits,
    made ∙ ap (λ (actor : ActorContents). with_one_actor S actor) is ∙ sym (settled-is S counted.0 n counted.1.alone),
  )

  pub settled-so-valid : IsValid S → IsValid T
  settled-so-valid valid =
      subst IsValid (sym (made ∙ ap (λ (actor : ActorContents). with_one_actor S actor) is)) (settled-valid S counted.0 n counted.1.alone valid fits)

  pub settled-so-can : CanRun T
  settled-so-can = settled-can S T settled-so

-- What is printed.

module _ (S : ScenarioContents) (actor longer : ActorContents) (nexts : Nexts) (runs : IsRunOf S actor) (is : longer ≡ with_nexts (nexts_given nexts) actor) where
  lines-are : events S (expand longer) ≡ events S (followed actor (nexts_given nexts))
  lines-are = ap (λ (a : ActorContents). events S (expand a)) is ∙ ap (λ (instrs : List Instr). events S instrs) (expand-with_nexts (nexts_given nexts) actor)

  pub settled-output : (n : ℕ) (output : List ℕ) → nexts ≡ Settle n → IsCounted S actor nexts → output ≡ events S (expand longer) → IsSettledOutput S output
  settled-output n output told counted printed =
      let so = subst (λ (c : Nexts). IsCounted S actor c) told counted in
      let count = ap nexts_given told in
      (actor, n, record { runs = runs; settles = so }, printed ∙ lines-are ∙ ap (λ (k : ℕ). events S (followed actor k)) count)

  pub endless-output : (n : ℕ) (output : List ℕ) → nexts ≡ Never n → IsCounted S actor nexts → output ≡ events S (expand longer) → IsEndlessOutput S output
  endless-output n output told counted printed =
      let so = subst (λ (c : Nexts). IsCounted S actor c) told counted in
      let count = ap nexts_given told ∙ so.1 in
      (actor, record { runs = runs; never = so.0 }, printed ∙ lines-are ∙ ap (λ (k : ℕ). events S (followed actor k)) count)

  followed-by : (c : Nexts) → nexts ≡ c → IsCounted S actor nexts → (output : List ℕ) → output ≡ events S (expand longer) → IsFollowedOutput S output
  followed-by (Settle n) told counted output printed = inl (settled-output n output told counted printed)
  followed-by (Never n) told counted output printed = inr (endless-output n output told counted printed)

  pub followed-output : IsCounted S actor nexts → (output : List ℕ) → output ≡ events S (expand longer) → IsFollowedOutput S output
  followed-output counted output printed = followed-by nexts refl counted output printed

-- What was written, where the machine never is quiet.
pub never-writes : (Gives : List ℕ → Type 0) (before after : Option (List ℕ)) (failed : Bool) → Writes Gives before after failed (Ok tt) → Writes Gives before after failed (Err errors.NeverQuiet)
never-writes Gives before after failed h = record {
  wrote = tt;
  write = (λ is. cc, λ is. let other = h.write.1 is in cc);
  front = λ is. cc;
  no_memory = λ is. cc;
  silent = λ early. elim early [ ];
}

pub printing-reads : {A : Type 0} (r : Result A PlayError) → IfErr r (λ error. (error ≡ errors.NeverQuiet) ⊎ IsSendError error) → r ≢ Err errors.Read
printing-reads (Ok x) why is = cc
printing-reads (Err error) (inl never) is = cc
printing-reads (Err error) (inr sending) is = sending-other-reads error sending (err_is error errors.Read (Err error) refl is) where
  sending-other-reads : (e : PlayError) → IsSendError e → e ≡ errors.Read → ⊥
  sending-other-reads errors.Write why same = cc
  sending-other-reads errors.NoMemory why same = cc
  sending-other-reads other why same = why

-- such an output is one of those
pub wrote-more : (Gives More : List ℕ → Type 0) (before after : Option (List ℕ)) → ((output : List ℕ) → Gives output → More output) → Wrote Gives before after → Wrote More before after
wrote-more Gives More before after more wrote = (wrote.0, more wrote.0 wrote.1, wrote.2)
