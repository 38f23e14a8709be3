-- What LOW..HIGH spells.
use Rattle.std.proofs.Common.{arith, ap, ap₂, sym, get_or, ◌^◌, ◌&&◌, ◌==◌, ℕ, zero, suc, ◌<◌, ◌≤◌, ◌≢◌, length, nat_lt, nat_le, ◌≡◌, ◌∙◌, codes, Bool, List, [], ◌∷◌, ◌++◌, true, false, Option, None, Some, option_and_then, option_map, refl, rules}
use Rattle.std.proofs.lemmas.Bool.Decides.{nat_tests}
use Rattle.std.proofs.lemmas.Str.Parse.{tells_all_ascii_digits}
use Rattle.std.proofs.lemmas.Fmt.{decimal_nonempty, digits_decimal}
use Rattle.std.specs.Fmt.{decimal}
use Rattle.std.specs.Borrow.{Bor}
use Rattle.std.specs.Prelude.{MatchOption, if◌then◌else◌}
use Rattle.std.specs.List.{after_first, before_first}
use Rattle.std.specs.Str.{all_ascii_digits}
use Rattle.clap.specs.Lexer.{strip_byte}
use Rattle.clap.proofs.CutLemmas.{Lacks, after_first-Lacks, after_first-at, before_first-at}
use Rattle.cmwq_types.specs.declared.limits.TheConstants.{MAX_MAX_ACTIVE}
use Rattle.cmwq_reports.specs.declared.report.LimitRange.{LimitRange}
use Rattle.cmwq_request.proofs.RequestLemmas.{numerals}
use Rattle.cmwq_request.proofs.WhyLemmas.{short_number}
use Rattle.cmwq_request.proofs.DrawLemmas.{digit_first}
use Rattle.cmwq_request.proofs.WalkingLemmas.{is_option_word}
use Rattle.cmwq_request.specs.Numbers.{are_limits, is_dot, limits_from, limits_in, limits_word, plain_number}

-- Reading.

-- where a word has its first dot, and what stands behind it
pub limits_at : (low behind : List ℕ) → Lacks 46 low
    → limits_in (low ++ 46 ∷ behind) ≡ option_and_then (λ high. limits_from (plain_number low) (plain_number high)) (strip_byte 46 behind)
unfolding limits_in
limits_at low behind lacks =
    ap (λ (front : List ℕ). option_and_then (λ high. limits_from (plain_number front) (plain_number high)) (strip_byte 46 (after_first is_dot (low ++ 46 ∷ behind)))) (before_first-at 46 low behind lacks)
    ∙ ap (λ (back : List ℕ). option_and_then (λ high. limits_from (plain_number low) (plain_number high)) (strip_byte 46 back)) (after_first-at 46 low behind lacks)

-- where it has none
pub no_limits_without : (word : List ℕ) → Lacks 46 word → limits_in word ≡ None
unfolding limits_in
no_limits_without word lacks =
    ap (λ (back : List ℕ). option_and_then (λ high. limits_from (plain_number (before_first is_dot word)) (plain_number high)) (strip_byte 46 back)) (after_first-Lacks 46 word lacks)

-- Writing.

digits_lack_dots : (word : List ℕ) → all_ascii_digits word ≡ true → Lacks 46 word
digits_lack_dots [] digits i inside = absurd (omega (arith, inside))
digits_lack_dots (x ∷ xs) digits zero inside = grind (arith, nat_tests, digits)
digits_lack_dots (x ∷ xs) digits (suc i) inside = digits_lack_dots xs (tells_all_ascii_digits.parts x xs digits).1 i (omega (arith, inside))

digits_begin : (word behind : List ℕ) → all_ascii_digits word ≡ true → 0 < length word → is_option_word (word ++ 46 ∷ behind) ≡ false
digits_begin [] behind digits some = absurd (omega (arith, some))
digits_begin (head ∷ []) behind digits some = digit_first head [] digits
digits_begin (head ∷ second ∷ tail) behind digits some = digit_first head (second ∷ tail) digits

module _ (limits : LimitRange) (fit : are_limits limits.low limits.high ≡ true) where
  low_small : limits.low < 10 ^ 10
  low_small = grind (arith, nat_tests, fit)

  high_small : limits.high < 10 ^ 10
  high_small = grind (arith, nat_tests, fit)

  -- the word of such values is read as them
  pub limits_read : limits_in (limits_word limits) ≡ Some limits
  limits_read =
      let small : limits.low < 2 ^ 64 = omega (arith, low_small) in
      limits_at (decimal limits.low) (46 ∷ decimal limits.high) (digits_lack_dots (decimal limits.low) (digits_decimal numerals limits.low small))
      ∙ ap₂ (λ (low high : Option ℕ). limits_from low high) (short_number limits.low low_small) (short_number limits.high high_small)
      ∙ ap (λ (b : Bool). if b then Some limits else None) fit

  -- and begins with no hyphen
  pub limits_plain : is_option_word (limits_word limits) ≡ false
  limits_plain =
      let small : limits.low < 2 ^ 64 = omega (arith, low_small) in
      digits_begin (decimal limits.low) (46 ∷ decimal limits.high) (digits_decimal numerals limits.low small) (decimal_nonempty limits.low small)

-- The code's reading.

module _ (word low behind : List ℕ) (is : word ≡ low ++ 46 ∷ behind) (lacks : Lacks 46 low) where
  pub limits_unless : strip_byte 46 behind ≡ None → limits_in word ≡ None
  limits_unless none =
      ap limits_in is ∙ limits_at low behind lacks ∙ ap (option_and_then (λ (high : List ℕ). limits_from (plain_number low) (plain_number high))) none

  pub limits_between : (high : List ℕ) → strip_byte 46 behind ≡ Some high → limits_in word ≡ limits_from (plain_number low) (plain_number high)
  limits_between high there =
      ap limits_in is ∙ limits_at low behind lacks ∙ ap (option_and_then (λ (high : List ℕ). limits_from (plain_number low) (plain_number high))) there

pub no_low : (low high : Option ℕ) → low ≡ None → limits_from low high ≡ None
no_low low high none = ap (λ (o : Option ℕ). limits_from o high) none

pub no_high : (low high : Option ℕ) → high ≡ None → limits_from low high ≡ None
no_high (Some low) high none = ap (limits_from (Some low)) none
no_high None high none = refl
