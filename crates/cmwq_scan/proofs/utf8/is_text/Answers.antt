use Rattle.std.proofs.Common.{◌≡◌, ◌∙◌, ℕ, List, refl, sym}
use Rattle.std.specs.Prelude.{Result, Ok, Err, MatchResult, Bool, true, false}
use Rattle.std.specs.Result.{is_ok}
use Rattle.std.specs.Str.{IsUtf8, is_utf8}
use Rattle.std.proofs.lemmas.Str.{IsUtf8-from_is_utf8, is_utf8-from_IsUtf8}
use Rattle.cmwq_scan.proofs.utf8.is_text.Goals as goal

-- what the test of the bytes tells
utf8_test : {A E : Type 0} (bytes : List ℕ) (r : Result A E) (P : A → Type 0) (Q : E → Type 0) → MatchResult r (λ text. P text × IsUtf8 bytes) (λ e. (¬ (IsUtf8 bytes)) × Q e) → is_ok r ≡ is_utf8 bytes
utf8_test bytes (Ok text) P Q h = sym (is_utf8-from_IsUtf8 bytes h.1)
utf8_test bytes (Err e) P Q h = refused_by (is_utf8 bytes) (λ passes. h.0 (IsUtf8-from_is_utf8 bytes passes))
  where
    refused_by : (b : Bool) → (b ≡ true → ⊥) → false ≡ b
    refused_by true never = absurd (never refl)
    refused_by false never = refl

pub returns : goal.returns
returns c = c.is_ok.ensures.value ∙ utf8_test c.args.bytes.now c.from_utf8.result (λ text. text.now ≡ c.args.bytes.now) _ c.from_utf8.ensures.cases
