-- The numbers that words spell.
use Rattle.std.specs.Prelude.{ℕ, ◌+◌, Bool, ◌&&◌, ◌++◌, ◌==◌, length, nat_le, nat_lt, codes, if◌then◌else◌, Option, None, Some, option_and_then}
use Rattle.std.specs.Fmt.{decimal}
use Rattle.std.specs.Str.{all_ascii_digits}
use Rattle.std.specs.Str.Parse.{digits_value}
use Rattle.std.specs.List.{after_first, before_first}
use Rattle.clap.specs.Words.{Text}
use Rattle.clap.specs.Lexer.{strip_byte}
use Rattle.cmwq_reports.specs.declared.report.LimitRange.{LimitRange}
use Rattle.cmwq_reports.specs.declared.report.TheConstants.{MOST_LIMITS}
use Rattle.cmwq_types.specs.declared.limits.TheConstants.{MAX_MAX_ACTIVE}

-- The number that 1 to 10 digits spell.
unfoldable pub plain_number : Text → Option ℕ
plain_number word =
    if all_ascii_digits word && (nat_lt 0 (length word) && nat_lt (length word) 11) then Some (digits_value 10 word) else None

-- values that a queue's max may have, and not too many of them
abbrev pub are_limits : (low high : ℕ) → Bool
are_limits low high = nat_le 1 low && (nat_le low high && (nat_le high MAX_MAX_ACTIVE && nat_lt high (low + MOST_LIMITS)))

abbrev pub limits_from : (low high : Option ℕ) → Option LimitRange
limits_from (Some low) (Some high) = if are_limits low high then Some (record { low = low; high = high }) else None
limits_from low high = None

abbrev pub is_dot : ℕ → Bool
is_dot byte = byte == 46

-- The values that LOW..HIGH spells: two such numbers, with two dots between them.
unfoldable pub limits_in : Text → Option LimitRange
limits_in word =
    option_and_then (λ high. limits_from (plain_number (before_first is_dot word)) (plain_number high)) (strip_byte 46 (after_first is_dot word))

-- their word
abbrev pub limits_word : LimitRange → Text
limits_word limits = decimal limits.low ++ (codes ".." ++ decimal limits.high)
