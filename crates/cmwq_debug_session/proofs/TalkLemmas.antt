-- How a talk ends.
use Rattle.std.proofs.Common.{◌≡◌, ◌↔◌, ◌⊎◌, inl, inr, ℕ, ◌+◌, ◌<◌, ◌≤◌, Bool, false, true, List, [], ◌++◌, drop, length, Option, None, Some, Result, Ok, Err, IfErr, IfSome, OnErr, OnOk, arith, refl, sym, ap, subst, ◌∙◌, ◌≢◌, true≢false}
use Rattle.std.proofs.lemmas.Result.{on_err_weaker, on_ok_weaker}
use Rattle.std.specs.Io.KnownBytes.{Appends, Consumes, IsAtEnd, Keeps}
use Rattle.cmwq_types.specs.Contents.{ActorContents, ScenarioContents}
use Rattle.cmwq_types.specs.Scenario.{expand}
use Rattle.cmwq_types.specs.declared.limits.TheConstants.{MAX_TEXT}
use Rattle.cmwq_grammar.specs.Cutting.{lines_of}
use Rattle.cmwq_debug.specs.Debugging.{Session}
use Rattle.cmwq_debug_lines.specs.Prompt.{debugged, lines_said, opening}
use Rattle.cmwq_debug_lines.specs.declared.manner.Manner.{Manner}
use Rattle.cmwq_streams.proofs.CallerLemmas.{appends_none}
use Rattle.cmwq_streams.specs.Sending.{HasSentFront, IsSendError}
use Rattle.cmwq_streams.specs.declared.error.PlayError.{PlayError}
use Rattle.cmwq_streams.specs.declared.error.PlayError.TheVariants.{Actors, Full, Read, Write, TooLong, NoMemory}
use Rattle.cmwq_play.specs.Commands.{Reads}
use Rattle.cmwq_play.specs.Runs.{CanRun, IsRefused, IsRunOf}
use Rattle.cmwq_debug_session.specs.Told.{Holds, IsAnswered, IsFrontTold, IsTalkError, Talks, ToldFront, ToldToItsEnd}
use Rattle.cmwq_play.proofs.CommandLemmas.{err_is, reads_err, reads_ok, sending_no_read}
use Rattle.cmwq_debug_session.proofs.ToldLemmas.{consumes_more, ended_more_heard, front_behind, front_first, front_more_heard, front_so_far, front_whole, long_known, told_behind, told_whole}

consumes_kept : (input mid left : Option (List ℕ)) (text : List ℕ) → Consumes input mid text → Keeps mid left → Consumes input left text
consumes_kept None mid left text heard kept = tt
consumes_kept (Some bytes) None left text heard kept = absurd heard
consumes_kept (Some bytes) (Some now) None text heard kept = absurd kept
consumes_kept (Some bytes) (Some now) (Some rest) text heard kept = heard ∙ ap (λ (last : List ℕ). text ++ last) (sym kept)

reading_talks : (error : PlayError) → (error ≡ Read) ⊎ (error ≡ NoMemory) → IsTalkError error
reading_talks error (inl is) = subst IsTalkError (sym is) tt
reading_talks error (inr is) = subst IsTalkError (sym is) tt

reading_is_not : (error other : PlayError) → other ≢ Read → other ≢ NoMemory → (error ≡ Read) ⊎ (error ≡ NoMemory) → error ≢ other
reading_is_not error other first second (inl at) is = first (sym is ∙ at)
reading_is_not error other first second (inr at) is = second (sym is ∙ at)

sending_talks : (r : Result (Unit {0}) PlayError) → IfErr r (λ error. IsSendError error) → IfErr r (λ error. IsTalkError error)
sending_talks (Ok x) why = tt
sending_talks (Err Write) why = tt
sending_talks (Err NoMemory) why = tt
sending_talks (Err other) why = elim why [ ]

sending_not_long : (r : Result (Unit {0}) PlayError) → IfErr r (λ error. IsSendError error) → r ≢ Err TooLong
sending_not_long (Ok x) why is = cc
sending_not_long (Err Write) why is = cc
sending_not_long (Err NoMemory) why is = cc
sending_not_long (Err other) why is = elim why [ ]

ok_is_not : (error : PlayError) (r : Result (Unit {0}) PlayError) → r ≡ Ok tt → r ≢ Err error
ok_is_not error r is at = cc

module _ (input mid left before now : Option (List ℕ)) (unreadable broken : Bool) (M : Manner) (S : ScenarioContents) (d e : Session) (text : List ℕ) (done : ℕ) (so_far : IsAnswered input mid before now M S d text done e) where
  -- a read failed, or memory ran out behind it
  pub talks_unheard : (error : PlayError) → Reads {A = ℕ} input left unreadable (Err error) → (error ≡ Read → Keeps mid left) → (error ≡ Read) ⊎ (error ≡ NoMemory) → broken ≡ false
      → Talks input left before now unreadable broken M S d (Err error)
  talks_unheard error reads unread why sound = record {
    reads = reads_err input left unreadable error reads;
    told = tt;
    front = front_so_far input mid before now M S d e text done so_far;
    answered = λ is. (
      text,
      done,
      e,
      record {
        heard = consumes_kept input mid left text so_far.heard (unread (err_is {A = Unit {0}} error Read (Err error) refl is));
        short = so_far.short;
        within = so_far.within;
        told = so_far.told;
        begun = so_far.begun;
      },
    );
    too_long = λ is. elim (reading_is_not error TooLong (λ at. cc) (λ at. cc) why (err_is {A = Unit {0}} error TooLong (Err error) refl is)) [ ];
    write = (λ is. elim (reading_is_not error Write (λ at. cc) (λ at. cc) why (err_is {A = Unit {0}} error Write (Err error) refl is)) [ ], λ is. cc);
    why = reading_talks error why;
  }

  module _ (more both : List ℕ) (n : ℕ) (reads : Reads {A = ℕ} input left unreadable (Ok n)) (heard : Consumes mid left more) (grown : both ≡ text ++ more) where
    -- the end was heard, and what was left of the commands was answered, or a front of it
    pub talks_to_the_end : (after : Option (List ℕ)) (rest : List ℕ) (r : Result (Unit {0}) PlayError) → rest ≡ drop done both → IsAtEnd left
        → OnOk r (Appends now after (lines_said M S e (lines_of rest))) → OnErr r (HasSentFront now after (lines_said M S e (lines_of rest)))
        → IfErr r (λ error. IsSendError error) → ((r ≡ Err Write) ↔ (broken ≡ true)) → Talks input left before after unreadable broken M S d r
    talks_to_the_end after rest r behind ends ok err why write = record {
      reads = reads_ok input left unreadable n r (sending_no_read r why) reads;
      told = on_ok_weaker r (λ sent. told_whole input mid left before now after M S d e text more both rest done so_far heard grown behind ends sent) ok;
      front = on_err_weaker r (λ sent. front_whole input mid left before now after M S d e text more both rest done so_far heard grown behind ends sent) err;
      answered = λ is. elim (sending_no_read r why is) [ ];
      too_long = λ is. elim (sending_not_long r why is) [ ];
      write = write;
      why = sending_talks r why;
    }

    -- a line of what was heard ended the session
    pub talks_to_its_end : (after : Option (List ℕ)) (rest : List ℕ) → rest ≡ drop done both → ToldToItsEnd now after M S e rest → broken ≡ false → Talks input left before after unreadable broken M S d (Ok tt)
    talks_to_its_end after rest behind ended sound = record {
      reads = reads_ok input left unreadable n (Ok tt) (ok_is_not Read (Ok tt) refl) reads;
      told = ended_more_heard input mid left before now after M S d e text more both rest done so_far heard grown behind ended;
      front = tt;
      answered = λ is. cc;
      too_long = λ is. cc;
      write = (λ is. cc, λ is. cc);
      why = tt;
    }

    -- the commands are too long
    pub talks_too_long : MAX_TEXT < length both → broken ≡ false → Talks input left before now unreadable broken M S d (Err TooLong)
    talks_too_long long sound = record {
      reads = reads_ok input left unreadable n (Err TooLong) (λ is. cc) reads;
      told = tt;
      front = front_so_far input mid before now M S d e text done so_far;
      answered = λ is. cc;
      too_long = λ is. long_known input left both MAX_TEXT (consumes_more input mid left text more both so_far.heard heard grown) long;
      write = (λ is. cc, λ is. cc);
      why = tt;
    }

    -- of what is said to the whole lines that were heard a front went out
    pub talks_cut_short : (after : Option (List ℕ)) (rest : List ℕ) (error : PlayError) (r : Result (Option ℕ) PlayError) → r ≡ Err error → rest ≡ drop done both → ToldFront now after M S e rest
        → IsSendError error → ((r ≡ Err Write) ↔ (broken ≡ true)) → Talks input left before after unreadable broken M S d (Err error)
    talks_cut_short after rest error r same behind front why write = record {
      reads = reads_ok input left unreadable n (Err error) (sending_no_read (Err error) why) reads;
      told = tt;
      front = front_more_heard input mid left before now after M S d e text more both rest done so_far heard grown behind front;
      answered = λ is. elim (sending_no_read (Err error) why is) [ ];
      too_long = λ is. elim (sending_not_long (Err error) why is) [ ];
      write = (λ is. write.0 (same ∙ ap Err (err_is {A = Unit {0}} error Write (Err error) refl is)), λ is. ap Err (err_is error Write r same (write.1 is)));
      why = sending_talks (Err error) why;
    }

-- A session.

few_left : (input : Option (List ℕ)) → IfSome input (λ bytes. IfSome input (λ rest. length bytes ≤ length rest + MAX_TEXT + 1))
few_left None = tt
few_left (Some bytes) = omega arith

-- what is said before anything is read didn't go out whole
pub holds_unbegun : (input before after : Option (List ℕ)) (unreadable broken : Bool) (M : Manner) (S : ScenarioContents) (d : Session) (error : PlayError) → unreadable ≡ false
    → HasSentFront before after (opening M d) → IsSendError error → ((◌≡◌ {A = Result (Unit {0}) PlayError} (Err error) (Err Write)) ↔ (broken ≡ true)) → Holds input input before after unreadable broken M S d (Err error)
holds_unbegun input before after unreadable broken M S d error readable front why write = record {
  reads = record { read = (λ is. elim (sending_no_read {A = Unit {0}} (Err error) why is) [ ], λ is. cc); few = few_left input };
  told = tt;
  front = front_first M S input before after d (opening M d) front;
  answered = λ is. elim (sending_no_read {A = Unit {0}} (Err error) why is) [ ];
  too_long = λ is. elim (sending_not_long (Err error) why is) [ ];
  write = write;
  why = sending_talks (Err error) why;
}

-- it did, and then there was a talk
pub holds_talk : (input left before begun after : Option (List ℕ)) (unreadable broken : Bool) (M : Manner) (S : ScenarioContents) (d : Session) (r : Result (Unit {0}) PlayError)
    → Appends before begun (opening M d) → Talks input left begun after unreadable broken M S d r → Holds input left before after unreadable broken M S d r
holds_talk input left before begun after unreadable broken M S d r sent talks = record {
  reads = talks.reads;
  told = on_ok_weaker r (told_behind M S input before begun after d (opening M d) sent) talks.told;
  front = on_err_weaker r (front_behind M S input before begun after d (opening M d) sent) talks.front;
  answered = λ is. (begun, sent, talks.answered is);
  too_long = talks.too_long;
  write = talks.write;
  why = talks.why;
}

-- memory ran out before anything was said
pub holds_nothing : (input before : Option (List ℕ)) (unreadable broken : Bool) (M : Manner) (S : ScenarioContents) (d : Session) → unreadable ≡ false → broken ≡ false
    → Holds input input before before unreadable broken M S d (Err NoMemory)
holds_nothing input before unreadable broken M S d readable sound =
    holds_unbegun input before before unreadable broken M S d NoMemory readable ([], opening M d, appends_none before, refl) tt
    (λ is. cc, λ failed. elim (true≢false (sym failed ∙ sound)) [ ])

-- A session that was held is one of a scenario that can be run.

pub front_told : (M : Manner) (S : ScenarioContents) (input before after : Option (List ℕ)) (r : Result (Unit {0}) PlayError)
    → ((actor : ActorContents) → IsRunOf S actor → OnErr r (IfSome input (λ bytes. HasSentFront before after (debugged M S (expand actor) bytes))))
    → OnErr r (IsFrontTold M input before after S)
front_told M S input before after (Ok x) front = tt
front_told M S input before after (Err error) front = front

pub why_told : (S : ScenarioContents) (r : Result (Unit {0}) PlayError) → CanRun S → IfErr r (λ error. IsTalkError error)
    → IfErr r (λ error. IsRefused S error ⊎ (CanRun S × IsTalkError error))
why_told S (Ok x) can why = tt
why_told S (Err error) can why = inr (can, why)

pub not_refused : (S : ScenarioContents) (r : Result (Unit {0}) PlayError) (Q : Type 0) → IfErr r (λ error. IsTalkError error) → IfErr r (λ error. IsRefused S error → Q)
not_refused S (Ok x) Q why = tt
not_refused S (Err Actors) Q why = elim why [ ]
not_refused S (Err Full) Q why = elim why [ ]
not_refused S (Err other) Q why = λ refused. elim refused [ ]
