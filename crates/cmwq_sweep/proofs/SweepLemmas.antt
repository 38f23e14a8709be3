-- Why a scenario isn't swept, and that a writer has no part in that.
use Rattle.std.proofs.Common.{◌≡◌, ◌⊎◌, inl, inr, ℕ, Bool, true, false, List, Option, Some, None, Result, Ok, Err, refl, sym, ap, ◌∙◌, subst}
use Rattle.std.specs.Io.KnownBytes.{Keeps}
use Rattle.cmwq_types.specs.Contents.{ScenarioContents}
use Rattle.cmwq_play.specs.PlayTexts.{IsSpelled}
use Rattle.cmwq_streams.specs.declared.error.PlayError.TheVariants as play
use Rattle.cmwq_reports.specs.declared.report.Sweep.{Sweep}
use Rattle.cmwq_sweep.specs.Errors.{no_memory}
use Rattle.cmwq_sweep.specs.Swept.{IsOutsideSweep, IsUnswept, Sweeps}
use Rattle.cmwq_sweep.specs.declared.error.SweepError.{SweepError}
use Rattle.cmwq_sweep.specs.declared.error.SweepError.TheVariants as error

-- no writer has a part in it
no-write : (S : ScenarioContents) (asked : Sweep) (why : SweepError) → IsUnswept S asked why → why ≡ error.Play play.Write → ⊥
no-write S asked why is same = absurd (subst (IsUnswept S asked) same is)

memory-no-write : no_memory ≡ error.Play play.Write → ⊥
memory-no-write same = cc

err-same : (a b : SweepError) → ◌≡◌ {A = Result (Unit {0}) SweepError} (Err a) (Err b) → a ≡ b
err-same a b same = cc

-- nothing was written, and the fault is told
pub told : (asked : Sweep) (input before : Option (List ℕ)) (failed : Bool) (S : ScenarioContents) (why : SweepError) → failed ≡ false → IsSpelled input S
    → Keeps before before → IsUnswept S asked why ⊎ (why ≡ no_memory) → Sweeps asked input before before failed (Err why)
told asked input before failed S why sound spelled keeps (inl is) = record {
  ok = tt;
  write = ((λ same. absurd (no-write S asked why is (err-same why (error.Play play.Write) same))), (λ failing. cc));
  front = λ same. absurd (no-write S asked why is (err-same why (error.Play play.Write) same));
  silent = inr keeps;
  why = inr (inl (S, spelled, is));
}
told asked input before failed S why sound spelled keeps (inr is) = record {
  ok = tt;
  write = ((λ same. absurd (memory-no-write (sym is ∙ err-same why (error.Play play.Write) same))), (λ failing. cc));
  front = λ same. absurd (memory-no-write (sym is ∙ err-same why (error.Play play.Write) same));
  silent = inr keeps;
  why = inr (inr (subst IsOutsideSweep (sym is) tt));
}
