-- What a command may answer to its input, and what it may write.
use Rattle.std.specs.Prelude.{◌≡◌, ◌≤◌, ◌+◌, ◌↔◌, ◌⊎◌, ℕ, List, length, Bool, true, Option, Some, IfSome, Result, Err, IfErr, MatchResult, OnOk}
use Rattle.std.specs.Io.KnownBytes.{Appends, Keeps}
use Rattle.cmwq_types.specs.declared.limits.TheConstants.{MAX_TEXT}
use Rattle.cmwq_streams.specs.Sending.{HasSentFront}
use Rattle.cmwq_streams.specs.declared.error.PlayError.{PlayError}
use Rattle.cmwq_streams.specs.declared.error.PlayError.TheVariants as errors

-- the error says nothing of the input: a read or a write failed, or memory ran out
abbrev pub IsOutside : PlayError → Type 0
IsOutside errors.Read = Unit {0}
IsOutside errors.Write = Unit {0}
IsOutside errors.NoMemory = Unit {0}
IsOutside error = ⊥

-- nothing is written before this is told
abbrev pub IsBeforeWriting : PlayError → Type 0
IsBeforeWriting errors.Read = Unit {0}
IsBeforeWriting (errors.Asm fault) = Unit {0}
IsBeforeWriting (errors.Image fault) = Unit {0}
IsBeforeWriting errors.Actors = Unit {0}
IsBeforeWriting errors.Full = Unit {0}
IsBeforeWriting errors.TooWide = Unit {0}
IsBeforeWriting errors.NoSuchWork = Unit {0}
IsBeforeWriting errors.NoSuchFlush = Unit {0}
IsBeforeWriting errors.PastEnd = Unit {0}
IsBeforeWriting error = ⊥

-- Of a reader's input so much is left now. A failed read is told as such, and nothing else is; at most one
-- byte more is read than a text may have.
pub record Reads {A : Type 0} (input left : Option (List ℕ)) (failed : Bool) (result : Result A PlayError) : Type 0 where
  pub read : (result ≡ Err errors.Read) ↔ (failed ≡ true)
  pub few : IfSome input (λ bytes. IfSome left (λ rest. length bytes ≤ length rest + MAX_TEXT + 1))

-- The input alone decides the answer, unless a read or a write fails or memory runs out. `Gives input x` says
-- that x is what the input comes to, and `Tells input error` that the error is the input's fault.
pub record Answers {A X : Type 0} (Gives : Option (List ℕ) → X → Type 0) (Tells : Option (List ℕ) → PlayError → Type 0) (input : Option (List ℕ)) (result : Result A PlayError) : Type 0 where
  -- what is told is the input's fault, or nothing of the input
  pub told : IfErr result (λ error. Tells input error ⊎ IsOutside error)
  -- no fault is told of an input that comes to something
  pub given : IfSome input (λ bytes. (x : X) → Gives (Some bytes) x → IfErr result (λ error. IsOutside error))
  -- the input's fault is told
  pub tells : IfSome input (λ bytes. (fault : PlayError) → Tells (Some bytes) fault → MatchResult result (λ _. ⊥) (λ error. (error ≡ fault) ⊎ IsOutside error))

-- a front of such an output was written
abbrev pub WroteFront : (List ℕ → Type 0) → Option (List ℕ) → Option (List ℕ) → Type 0
WroteFront Gives before after = (output : List ℕ) × Gives output × HasSentFront before after output

-- A command whose output meets `Gives` writes it whole, or says that the writer failed, which it says of nothing
-- else. Nothing is written before the output begins; where memory runs out, it may have begun.
pub record Writes (Gives : List ℕ → Type 0) (before after : Option (List ℕ)) (failed : Bool) (result : Result (Unit {0}) PlayError) : Type 0 where
  pub wrote : OnOk result ((output : List ℕ) × Gives output × Appends before after output)
  pub write : (result ≡ Err errors.Write) ↔ (failed ≡ true)
  pub front : result ≡ Err errors.Write → WroteFront Gives before after
  pub no_memory : result ≡ Err errors.NoMemory → Keeps before after ⊎ WroteFront Gives before after
  pub silent : IfErr result (λ error. IsBeforeWriting error → Keeps before after)
