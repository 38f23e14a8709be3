-- What a debugger and a play come to, by what was read of their text.
use Rattle.std.proofs.Common.{ap, arith, ◌≡◌, ◌≢◌, ◌↔◌, ◌⊎◌, ◌∙◌, ℕ, Bool, false, true, List, [], ◌∷◌, ◌<◌, ◌≤◌, length, Option, None, Some, IfSome, Result, Ok, Err, IfErr, OnErr, OnOk, inl, inr, refl, subst, sym}
use Rattle.std.proofs.lemmas.Result.{on_err_weaker, on_ok_weaker}
use Rattle.std.specs.Io.KnownBytes.{Keeps}
use Rattle.cmwq_types.specs.Contents.{ActorContents, ScenarioContents}
use Rattle.cmwq_types.specs.Scenario.{expand}
use Rattle.cmwq_types.specs.declared.limits.TheConstants.{MAX_HISTORY, MAX_TEXT}
use Rattle.cmwq_actors.specs.Interleaving.{Interleaves, scripts_of}
use Rattle.cmwq_command.specs.Carried.{HasDebugged, HasLeft, IsCutShort, IsUnplayed, TellsFailure}
use Rattle.cmwq_debug_lines.specs.declared.manner.Manner.{Manner}
use Rattle.cmwq_debug_session.specs.Told.{IsDebugged, IsFrontTold, IsTalkError}
use Rattle.cmwq_grammar.specs.Grammar.{Spells}
use Rattle.cmwq_interleaving.specs.Plays.{HasFronts, IsBeforePlaying, IsFull, IsPlayError, Left, LeftFront}
use Rattle.cmwq_play.specs.Commands.{IsOutside}
use Rattle.cmwq_play.specs.PlayTexts.{IsFaultOf, IsSpelled, IsTextFault}
use Rattle.cmwq_play.specs.Runs.{CanRun, IsRefused}
use Rattle.cmwq_play.proofs.CommandLemmas.{err_is, keeps_same}
use Rattle.cmwq_settle.specs.Settled.{IsSettledIf, IsUnsettledIf}
use Rattle.cmwq_streams.specs.declared.error.PlayError.{PlayError}
use Rattle.cmwq_streams.specs.declared.error.PlayError.TheVariants.{Actors, Asm, Full, NoMemory, Read, Tickets, TooLong, Write}

-- What is told of a text.

abbrev IsToldOfText : List ℕ → PlayError → Type 0
IsToldOfText bytes error = IsTextFault (Some bytes) error ⊎ IsOutside error

text_fault_of : (P : ScenarioContents → PlayError → Type 0) (bytes : List ℕ) (error : PlayError) → IsTextFault (Some bytes) error → IsFaultOf P (Some bytes) error
text_fault_of P bytes (Asm fault) told = told
text_fault_of P bytes other told = absurd told

outside_talks : (error : PlayError) → IsOutside error → IsTalkError error
outside_talks Read outside = tt
outside_talks Write outside = tt
outside_talks NoMemory outside = tt
outside_talks other outside = absurd outside

not_told : (bytes : List ℕ) (error wrong : PlayError) (r : Result (Unit {0}) PlayError) → (IsToldOfText bytes wrong → ⊥) → IsToldOfText bytes error → r ≡ Err error → r ≡ Err wrong → ⊥
not_told bytes error wrong r never told first second = never (subst (λ (e : PlayError). IsToldOfText bytes e) (err_is error wrong r first second) told)

no_failure : (failed : Bool) (error : PlayError) → failed ≡ false → error ≢ Write → TellsFailure failed (Err error)
no_failure failed error sound other = (λ is. absurd (other (err_is {A = Unit {0}} error Write (Err error) refl is)), λ is. cc)

-- the file couldn't be opened
read_outside : (error : PlayError) → error ≡ Read → IsOutside error
read_outside error is = subst IsOutside (sym is) tt

read_no_write : (error : PlayError) → error ≡ Read → error ≢ Write
read_no_write error is at = cc

-- A debugger.

not_too_long : (bytes : List ℕ) → IsToldOfText bytes TooLong → ⊥
not_too_long bytes (inl told) = told
not_too_long bytes (inr told) = told

undebugged : (settle : Bool) (bytes : List ℕ) (before : Option (List ℕ)) (error : PlayError) → IsToldOfText bytes error
    → (IsFaultOf (IsUnsettledIf settle) (Some bytes) error × Keeps before before) ⊎ IsTalkError error
undebugged settle bytes before error (inl told) = inl (text_fault_of (IsUnsettledIf settle) bytes error told, keeps_same before)
undebugged settle bytes before error (inr outside) = inr (outside_talks error outside)

-- there is no debugger, as the text wasn't read, or has a fault
pub debugged_unread : (manner : Manner) (settle : Bool) (bytes : List ℕ) (input before : Option (List ℕ)) (failed : Bool) (error : PlayError) → failed ≡ false → error ≢ Write
    → IsTextFault (Some bytes) error ⊎ IsOutside error → HasDebugged manner settle bytes input before before failed (Err error)
debugged_unread manner settle bytes input before failed error sound other told = record {
  told = tt;
  front = inr (keeps_same before);
  write = no_failure failed error sound other;
  too_long = λ is. absurd (not_told bytes error TooLong (Err error) (not_too_long bytes) told refl is);
  why = undebugged settle bytes before error told;
}

pub debugged_unopened : (manner : Manner) (settle : Bool) (file input before : Option (List ℕ)) (failed : Bool) (error : PlayError) → failed ≡ false → error ≡ Read
    → IfSome file (λ bytes. HasDebugged manner settle bytes input before before failed (Err error))
debugged_unopened manner settle None input before failed error sound is = tt
debugged_unopened manner settle (Some bytes) input before failed error sound is =
    debugged_unread manner settle bytes input before failed error sound (read_no_write error is) (inr (read_outside error is))

-- the scenario can't be run, or isn't to be settled

abbrev pub Unsettled : Bool → ScenarioContents → PlayError → Type 0
Unsettled settle S error = IsUnsettledIf settle S error ⊎ (error ≡ NoMemory)

unsettled_fault : (settle : Bool) (bytes : List ℕ) (S : ScenarioContents) (error : PlayError) → IsSpelled (Some bytes) S → IsUnsettledIf settle S error
    → IsFaultOf (IsUnsettledIf settle) (Some bytes) error
unsettled_fault true bytes S (Asm fault) spelled told = absurd told
unsettled_fault false bytes S (Asm fault) spelled told = absurd told
unsettled_fault settle bytes S other spelled told = (S, spelled, told)

unsettled_no_write : (settle : Bool) (S : ScenarioContents) (error : PlayError) → Unsettled settle S error → error ≢ Write
unsettled_no_write true S Write (inl told) is = told
unsettled_no_write false S Write (inl told) is = told
unsettled_no_write settle S other (inl told) is = cc
unsettled_no_write settle S error (inr memory) is = cc

unsettled_not_long : (settle : Bool) (S : ScenarioContents) (error : PlayError) → Unsettled settle S error → error ≢ TooLong
unsettled_not_long true S TooLong (inl told) is = told
unsettled_not_long false S TooLong (inl told) is = told
unsettled_not_long settle S other (inl told) is = cc
unsettled_not_long settle S error (inr memory) is = cc

memory_talks : (error : PlayError) → error ≡ NoMemory → IsTalkError error
memory_talks error is = subst IsTalkError (sym is) tt

pub debugged_unsettled : (manner : Manner) (settle : Bool) (bytes : List ℕ) (input before : Option (List ℕ)) (failed : Bool) (S : ScenarioContents) (error : PlayError) → failed ≡ false
    → IsSpelled (Some bytes) S → Unsettled settle S error → HasDebugged manner settle bytes input before before failed (Err error)
debugged_unsettled manner settle bytes input before failed S error sound spelled unsettled = record {
  told = tt;
  front = inr (keeps_same before);
  write = no_failure failed error sound (unsettled_no_write settle S error unsettled);
  too_long = λ is. absurd (unsettled_not_long settle S error unsettled (err_is {A = Unit {0}} error TooLong (Err error) refl is));
  why = why unsettled;
} where
  why : Unsettled settle S error → (IsFaultOf (IsUnsettledIf settle) (Some bytes) error × Keeps before before) ⊎ IsTalkError error
  why (inl told) = inl (unsettled_fault settle bytes S error spelled told, keeps_same before)
  why (inr memory) = inr (memory_talks error memory)

-- what can be run is not refused
not_refused : (S : ScenarioContents) (error : PlayError) → CanRun S → IsRefused S error → ⊥
not_refused S Actors (actor, runs) other = other (ap (λ (actors : List ActorContents). length actors) runs.alone)
not_refused S Full (actor, runs) (other, alone, many) =
    let same : actor ≡ other = list_head (sym runs.alone ∙ alone) in
    let few : length (expand other) ≤ MAX_HISTORY = subst (λ (a : ActorContents). length (expand a) ≤ MAX_HISTORY) same runs.few in
    absurd (omega (arith, few, many))
  where
    list_head : {a b : ActorContents} → a ∷ [] ≡ b ∷ [] → a ≡ b
    list_head e = cc
not_refused S other (actor, runs) refused = refused

-- the scenario of the text was debugged, settled where that is asked
pub debugged_read : (manner : Manner) (settle : Bool) (bytes : List ℕ) (input before after : Option (List ℕ)) (failed : Bool) (S T : ScenarioContents) (r : Result (Unit {0}) PlayError)
    → IsSpelled (Some bytes) S → IsSettledIf settle S T → CanRun T → OnOk r (IsDebugged manner input before after T) → OnErr r (IsFrontTold manner input before after T)
    → TellsFailure failed r → (r ≡ Err TooLong → IfSome input (λ commands. MAX_TEXT < length commands))
    → IfErr r (λ error. IsRefused T error ⊎ (CanRun T × IsTalkError error)) → HasDebugged manner settle bytes input before after failed r
debugged_read manner settle bytes input before after failed S T r spelled settled can told front write too_long refused = record {
  told = on_ok_weaker r (λ said. (S, spelled.spelled, (T, settled, said))) told;
  front = on_err_weaker r (λ sent. inl (S, spelled.spelled, (T, settled, sent))) front;
  write = write;
  too_long = too_long;
  why = why r refused;
} where
  why : (s : Result (Unit {0}) PlayError) → IfErr s (λ error. IsRefused T error ⊎ (CanRun T × IsTalkError error))
      → IfErr s (λ error. (IsFaultOf (IsUnsettledIf settle) (Some bytes) error × Keeps before after) ⊎ IsTalkError error)
  why (Ok done) refuses = tt
  why (Err error) (inl told) = absurd (not_refused T error can told)
  why (Err error) (inr talks) = inr talks.1

-- A play.

not_full : (bytes : List ℕ) → IsToldOfText bytes Full → ⊥
not_full bytes (inl told) = told
not_full bytes (inr told) = told

not_tickets : (bytes : List ℕ) → IsToldOfText bytes Tickets → ⊥
not_tickets bytes (inl told) = told
not_tickets bytes (inr told) = told

text_unplayed : (bytes : List ℕ) (error : PlayError) → IsTextFault (Some bytes) error → IsUnplayed bytes error
text_unplayed bytes (Asm fault) told = told
text_unplayed bytes other told = absurd told

outside_unplayed : (bytes : List ℕ) (error : PlayError) → IsOutside error → error ≢ Write → IsUnplayed bytes error
outside_unplayed bytes Read outside other = tt
outside_unplayed bytes NoMemory outside other = tt
outside_unplayed bytes Write outside other = absurd (other refl)
outside_unplayed bytes error outside other = absurd outside

unplayed : (bytes : List ℕ) (error : PlayError) → IsToldOfText bytes error → error ≢ Write → IsUnplayed bytes error
unplayed bytes error (inl told) other = text_unplayed bytes error told
unplayed bytes error (inr outside) other = outside_unplayed bytes error outside other

-- the text wasn't read, or has a fault
pub left_unread : (capacity : ℕ) (bytes : List ℕ) (before : Option (List ℕ)) (failed : Bool) (error : PlayError) → failed ≡ false → error ≢ Write → IsTextFault (Some bytes) error ⊎ IsOutside error
    → HasLeft capacity bytes before before failed (Err error)
left_unread capacity bytes before failed error sound other told = record {
  all = tt;
  full = λ is. absurd (not_told bytes error Full (Err error) (not_full bytes) told refl is);
  tickets = λ is. absurd (not_told bytes error Tickets (Err error) (not_tickets bytes) told refl is);
  write = no_failure failed error sound other;
  front = λ is. absurd (other (err_is {A = Unit {0}} error Write (Err error) refl is));
  why = inl (unplayed bytes error told other, keeps_same before);
}

pub left_unopened : (capacity : ℕ) (file before : Option (List ℕ)) (failed : Bool) (error : PlayError) → failed ≡ false → error ≡ Read → IfSome file (λ bytes. HasLeft capacity bytes before before failed (Err error))
left_unopened capacity None before failed error sound is = tt
left_unopened capacity (Some bytes) before failed error sound is = left_unread capacity bytes before failed error sound (read_no_write error is) (inr (read_outside error is))

-- the scenario of the text was played
pub left_played : (capacity : ℕ) (bytes : List ℕ) (before after : Option (List ℕ)) (failed : Bool) (S : ScenarioContents) (r : Result (Unit {0}) PlayError) → Spells bytes S
    → OnOk r (Left S (λ history. Interleaves (scripts_of S) history) before after)
    → (r ≡ Err Full → Left S (λ history. IsFull S capacity history) before after)
    → (r ≡ Err Tickets → Left S (λ history. HasFronts S history) before after)
    → TellsFailure failed r → (r ≡ Err Write → LeftFront S (λ history. HasFronts S history) before after)
    → ((r ≡ Err Actors) ↔ (S.actors ≡ [])) → IfErr r (λ error. IsBeforePlaying error → Keeps before after) → IfErr r (λ error. IsPlayError error)
    → HasLeft capacity bytes before after failed r
left_played capacity bytes before after failed S r spells ok full tickets write front actors silent errors = record {
  all = on_ok_weaker r (λ left. (S, spells, left)) ok;
  full = λ is. (S, spells, full is);
  tickets = λ is. (S, spells, tickets is);
  write = write;
  front = λ is. (S, spells, front is);
  why = why r actors silent errors;
} where
  why : (s : Result (Unit {0}) PlayError) → ((s ≡ Err Actors) ↔ (S.actors ≡ [])) → IfErr s (λ error. IsBeforePlaying error → Keeps before after) → IfErr s (λ error. IsPlayError error)
      → IfErr s (λ error. (IsUnplayed bytes error × Keeps before after) ⊎ IsCutShort error)
  why (Ok done) none keeps error = tt
  why (Err Actors) none keeps error = inl ((S, spells, none.0 refl), keeps tt)
  why (Err NoMemory) none keeps error = inl (tt, keeps tt)
  why (Err Full) none keeps error = inr tt
  why (Err Tickets) none keeps error = inr tt
  why (Err Write) none keeps error = inr tt
  why (Err other) none keeps error = absurd error
