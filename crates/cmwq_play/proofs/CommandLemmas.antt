-- Commands of two parts: an input is read, and an output is written.
use Rattle.std.proofs.Common.{◌≡◌, ◌≢◌, ◌↔◌, ◌⊎◌, inl, inr, ℕ, List, [], Bool, true, false, Option, None, Some, IfSome, Result, Ok, Err, IfErr, OnOk, OnErr, refl, ap}
use Rattle.std.proofs.lemmas.Result.{on_err_weaker, on_ok_weaker}
use Rattle.std.specs.Io.KnownBytes.{Appends, Keeps}
use Rattle.cmwq_play.specs.Commands.{Answers, IsBeforeWriting, IsOutside, Reads, Writes, WroteFront}
use Rattle.cmwq_streams.specs.Sending.{HasSent, HasSentFront, IsSendError}
use Rattle.cmwq_streams.proofs.CallerLemmas.{block_out, front_of_block, sends_all}
use Rattle.cmwq_streams.specs.declared.error.PlayError.{PlayError}
use Rattle.cmwq_streams.specs.declared.error.PlayError.TheVariants.{Read, Write, NoMemory}

pub err_is : {A : Type 0} (e d : PlayError) (r : Result A PlayError) → r ≡ Err e → r ≡ Err d → e ≡ d
err_is e d r first second = cc

-- the reading's error is the command's
pub reads_err : {A B : Type 0} (input left : Option (List ℕ)) (failed : Bool) (error : PlayError) → Reads {A = A} input left failed (Err error) → Reads {A = B} input left failed (Err error)
reads_err {A} {B} input left failed error h = record {
  read = (λ is. h.read.0 (ap Err (err_is {A = B} error Read (Err error) refl is)), λ is. ap Err (err_is {A = A} error Read (Err error) refl (h.read.1 is)));
  few = h.few;
}

-- what was read without fault stays so, if what follows reads nothing
pub reads_ok : {A B : Type 0} (input left : Option (List ℕ)) (failed : Bool) (x : A) (r : Result B PlayError) → r ≢ Err Read → Reads {A = A} input left failed (Ok x) → Reads {A = B} input left failed r
reads_ok input left failed x r other h = record {
  read = (λ is. elim (other is) [ ], λ is. let wrong = h.read.1 is in cc);
  few = h.few;
}

-- an error that says nothing of the input
pub answers_outside : {A X : Type 0} (Gives : Option (List ℕ) → X → Type 0) (Tells : Option (List ℕ) → PlayError → Type 0) (input : Option (List ℕ)) (error : PlayError) → IsOutside error
    → Answers {A = A} Gives Tells input (Err error)
answers_outside Gives Tells None error outside = record { told = inr outside; given = tt; tells = tt }
answers_outside Gives Tells (Some bytes) error outside = record { told = inr outside; given = λ x gives. outside; tells = λ fault told. inr outside }

-- the reading's error is the command's, where what the command gives is of something that the reading gives
pub answers_err : {A B X Y : Type 0} (First : Option (List ℕ) → X → Type 0) (Then : Option (List ℕ) → Y → Type 0) (Tells : Option (List ℕ) → PlayError → Type 0) (input : Option (List ℕ)) (error : PlayError)
    → ((bytes : List ℕ) (y : Y) → Then (Some bytes) y → (x : X) × First (Some bytes) x) → Answers {A = A} First Tells input (Err error) → Answers {A = B} Then Tells input (Err error)
answers_err First Then Tells None error of h = record { told = h.told; given = tt; tells = tt }
answers_err First Then Tells (Some bytes) error of h = record {
  told = h.told;
  given = λ y gives. let found = of bytes y gives in h.given found.0 found.1;
  tells = λ fault told. h.tells fault told;
}

-- what an input comes to, in other words
pub answers_same : {A X : Type 0} (Gives Same : Option (List ℕ) → X → Type 0) (Tells : Option (List ℕ) → PlayError → Type 0) (input : Option (List ℕ)) (r : Result A PlayError)
    → ((known : Option (List ℕ)) (x : X) → Same known x → Gives known x) → Answers Gives Tells input r → Answers Same Tells input r
answers_same Gives Same Tells None r same h = record { told = h.told; given = tt; tells = tt }
answers_same Gives Same Tells (Some bytes) r same h = record { told = h.told; given = λ x is. h.given x (same (Some bytes) x is); tells = h.tells }

pub outside_told : {A : Type 0} (r : Result A PlayError) (P : PlayError → Type 0) → IfErr r (λ error. IsOutside error) → IfErr r (λ error. P error ⊎ IsOutside error)
outside_told (Ok x) P outside = tt
outside_told (Err error) P outside = inr outside

-- the input was read without fault, and what follows fails for nothing in it
pub answers_ok : {A B X Y : Type 0} (First : Option (List ℕ) → X → Type 0) (Then : Option (List ℕ) → Y → Type 0) (Tells : Option (List ℕ) → PlayError → Type 0) (input : Option (List ℕ)) (x : A) (r : Result B PlayError)
    → IfErr r (λ error. IsOutside error) → Answers {A = A} First Tells input (Ok x) → Answers {A = B} Then Tells input r
answers_ok First Then Tells None x r outside h = record { told = outside_told r (Tells None) outside; given = tt; tells = tt }
answers_ok First Then Tells (Some bytes) x r outside h = record {
  told = outside_told r (Tells (Some bytes)) outside;
  given = λ y gives. outside;
  tells = λ fault told. elim (h.tells fault told) [ ];
}

told_again : {A : Type 0} (Tells : Option (List ℕ) → PlayError → Type 0) (input : Option (List ℕ)) (text : List ℕ) (r : Result A PlayError)
    → ((fault : PlayError) → Tells (Some text) fault → Tells input fault)
    → IfErr r (λ error. Tells (Some text) error ⊎ IsOutside error) → IfErr r (λ error. Tells input error ⊎ IsOutside error)
told_again Tells input text (Ok x) again h = tt
told_again Tells input text (Err error) again (inl told) = inl (again error told)
told_again Tells input text (Err error) again (inr outside) = inr outside

-- what was read of an input says what the input says
pub answers_lifted : {A X : Type 0} (Gives : Option (List ℕ) → X → Type 0) (Tells : Option (List ℕ) → PlayError → Type 0) (input : Option (List ℕ)) (text : List ℕ) (r : Result A PlayError)
    → ((fault : PlayError) → Tells (Some text) fault → Tells input fault)
    → IfSome input (λ bytes. (x : X) → Gives (Some bytes) x → Gives (Some text) x)
    → IfSome input (λ bytes. (fault : PlayError) → Tells (Some bytes) fault → Tells (Some text) fault)
    → Answers Gives Tells (Some text) r → Answers Gives Tells input r
answers_lifted Gives Tells None text r again given told h = record { told = told_again Tells None text r again h.told; given = tt; tells = tt }
answers_lifted Gives Tells (Some bytes) text r again given told h = record {
  told = told_again Tells (Some bytes) text r again h.told;
  given = λ x gives. h.given x (given x gives);
  tells = λ fault is. h.tells fault (told fault is);
}

pub keeps_same : (known : Option (List ℕ)) → Keeps known known
keeps_same None = tt
keeps_same (Some bytes) = refl

-- the reading failed, and nothing was written
pub writes_err : (Gives : List ℕ → Type 0) (before : Option (List ℕ)) (failed : Bool) (error : PlayError) → failed ≡ false → error ≢ Write → Writes Gives before before failed (Err error)
writes_err Gives before failed error sound other = record {
  wrote = tt;
  write = (λ is. elim (other (err_is {A = Unit {0}} error Write (Err error) refl is)) [ ], λ is. cc);
  front = λ is. elim (other (err_is {A = Unit {0}} error Write (Err error) refl is)) [ ];
  no_memory = λ is. inl (keeps_same before);
  silent = λ early. keeps_same before;
}

front_more : (Gives More : List ℕ → Type 0) (before after : Option (List ℕ)) → ((output : List ℕ) → Gives output → More output) → WroteFront Gives before after → WroteFront More before after
front_more Gives More before after more h = (h.0, more h.0 h.1, h.2)

-- such an output is one of those
pub writes_more : (Gives More : List ℕ → Type 0) (before after : Option (List ℕ)) (failed : Bool) (r : Result (Unit {0}) PlayError) → ((output : List ℕ) → Gives output → More output)
    → Writes Gives before after failed r → Writes More before after failed r
writes_more Gives More before after failed r more h = record {
  wrote = wrote_more r h.wrote;
  write = h.write;
  front = λ is. front_more Gives More before after more (h.front is);
  no_memory = λ is. no_memory_more (h.no_memory is);
  silent = h.silent;
} where
  wrote_more : (s : Result (Unit {0}) PlayError) → OnOk s ((output : List ℕ) × Gives output × Appends before after output) → OnOk s ((output : List ℕ) × More output × Appends before after output)
  wrote_more (Ok x) w = (w.0, more w.0 w.1, w.2)
  wrote_more (Err error) w = tt

  no_memory_more : Keeps before after ⊎ WroteFront Gives before after → Keeps before after ⊎ WroteFront More before after
  no_memory_more (inl kept) = inl kept
  no_memory_more (inr front) = inr (front_more Gives More before after more front)

pub writes_moved : {Gives : List ℕ → Type 0} {before first after last : Option (List ℕ)} {failed broken : Bool} {r : Result (Unit {0}) PlayError} → before ≡ first → after ≡ last → failed ≡ broken
    → Writes Gives before after failed r → Writes Gives first last broken r
writes_moved at_first at_last at_end h = rw (at_first, at_last, at_end) at h

-- all of an output was given to the writer, or a front of it
pub writes_all : (before after : Option (List ℕ)) (failed : Bool) (r : Result (Unit {0}) PlayError) (output : List ℕ)
    → OnOk r (Appends before after output) → OnErr r (HasSentFront before after output) → (r ≡ Err Write) ↔ (failed ≡ true) → IfErr r (λ error. error ≡ Write)
    → Writes (λ o. o ≡ output) before after failed r
writes_all before after failed (Ok done) output all front write why = record {
  wrote = (output, refl, all);
  write = write;
  front = λ is. cc;
  no_memory = λ is. cc;
  silent = tt;
}
writes_all before after failed (Err error) output all front write why = record {
  wrote = tt;
  write = write;
  front = λ is. (output, refl, front);
  no_memory = λ is. inr (output, refl, front);
  silent = λ early. elim (late error why early) [ ];
} where
  late : (e : PlayError) → e ≡ Write → IsBeforeWriting e → ⊥
  late Write is early = early
  late other is early = cc

-- a front of an output was given to the writer, and then the sending failed
pub writes_front : (before after : Option (List ℕ)) (failed : Bool) (error : PlayError) (output : List ℕ) → HasSentFront before after output → (error ≡ Write) ↔ (failed ≡ true) → IsSendError error
    → Writes (λ o. o ≡ output) before after failed (Err error)
writes_front before after failed error output front write why = record {
  wrote = tt;
  write = (λ is. write.0 (err_is {A = Unit {0}} error Write (Err error) refl is), λ is. ap Err (write.1 is));
  front = λ is. (output, refl, front);
  no_memory = λ is. inr (output, refl, front);
  silent = λ early. elim (late error why early) [ ];
} where
  late : (e : PlayError) → IsSendError e → IsBeforeWriting e → ⊥
  late Write why early = early
  late NoMemory why early = early
  late other why early = why

-- of an output all but a block was given to the writer, and then the block, or a front of it
pub writes_block : (old mid new : Option (List ℕ)) (left output : List ℕ) (failed : Bool) (r : Result (Unit {0}) PlayError) → HasSent old mid left output
    → OnOk r (HasSent mid new [] left) → OnErr r (HasSentFront mid new left) → (r ≡ Err Write) ↔ (failed ≡ true) → IfErr r (λ error. error ≡ Write)
    → Writes (λ o. o ≡ output) old new failed r
writes_block old mid new left output failed r sent all front write why =
    writes_all old new failed r output
    (on_ok_weaker r (λ out. sends_all old new output (block_out old mid new left output sent out)) all)
    (on_err_weaker r (λ out. front_of_block old mid new left output sent out) front)
    write why

-- what sending fails for says nothing of the input, and is no failed read
pub sending_outside : {A : Type 0} (r : Result A PlayError) → IfErr r (λ error. IsSendError error) → IfErr r (λ error. IsOutside error)
sending_outside (Ok x) why = tt
sending_outside (Err Write) why = tt
sending_outside (Err NoMemory) why = tt
sending_outside (Err other) why = elim why [ ]

pub sending_no_read : {A : Type 0} (r : Result A PlayError) → IfErr r (λ error. IsSendError error) → r ≢ Err Read
sending_no_read (Ok x) why is = cc
sending_no_read (Err Write) why is = cc
sending_no_read (Err NoMemory) why is = cc
sending_no_read (Err other) why is = elim why [ ]
