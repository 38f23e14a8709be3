-- The byte of a queue's flags: what is read of it is what is written.
use Rattle.std.proofs.Common.{◌≡◌, ℕ, zero, suc, ◌+◌, ◌*◌, ◌/◌, ◌%◌, ◌<◌, ◌≤◌, Bool, true, false, cond, eqb, refl, ap, ◌∙◌, arith}
use Rattle.std.specs.Prelude.{nat_le}
use Rattle.cmwq_types.specs.declared.scenario.Flags.{Flags}
use Rattle.cmwq_image.specs.Image.{worth, flag_bits, all_flags}
use Rattle.cmwq_image.specs.ImageFault.{flags_of}
use Rattle.cmwq_image.specs.declared.version.TheConstants.{SECOND_VERSION}

worth_is : (r bit : ℕ) → r < 2 → worth (eqb r 1) bit ≡ r * bit
worth_is zero bit less = omega arith
worth_is (suc zero) bit less = omega arith
worth_is (suc (suc r)) bit less = absurd (omega arith)

pub bits_again : (bits : ℕ) → bits ≤ 63 → flag_bits (flags_of bits) ≡ bits
bits_again bits small =
    let a = worth_is (bits / 1 % 2) 1 (omega arith) in
    let b = worth_is (bits / 2 % 2) 2 (omega arith) in
    let c = worth_is (bits / 4 % 2) 4 (omega arith) in
    let d = worth_is (bits / 8 % 2) 8 (omega arith) in
    let e = worth_is (bits / 16 % 2) 16 (omega arith) in
    let f = worth_is (bits / 32 % 2) 32 (omega arith) in
    omega (arith, a, b, c, d, e, f)

-- a flag as a digit
abbrev digit : Bool → ℕ
digit flag = worth flag 1

digit_less : (flag : Bool) → digit flag < 2
digit_less false = omega arith
digit_less true = omega arith

worth_digit : (flag : Bool) (bit : ℕ) → worth flag bit ≡ digit flag * bit
worth_digit false bit = omega arith
worth_digit true bit = omega arith

is_digit : (r : ℕ) (flag : Bool) → r ≡ digit flag → eqb r 1 ≡ flag
is_digit r false e = ap (λ n. eqb n 1) e
is_digit r true e = ap (λ n. eqb n 1) e

-- the digits of a number stand apart
abbrev Digits : (a b c d e f n : ℕ) → Type 0
Digits a b c d e f n =
    (n / 1 % 2 ≡ a) × (n / 2 % 2 ≡ b) × (n / 4 % 2 ≡ c) × (n / 8 % 2 ≡ d) × (n / 16 % 2 ≡ e) × (n / 32 % 2 ≡ f)

apart : (a b c d e f n : ℕ) → a < 2 → b < 2 → c < 2 → d < 2 → e < 2 → f < 2 → n ≡ a + b * 2 + c * 4 + d * 8 + e * 16 + f * 32 → Digits a b c d e f n
apart a b c d e f n la lb lc ld le lf whole = (omega arith, omega arith, omega arith, omega arith, omega arith, omega arith)

abbrev flags : (a b c d e f : Bool) → Flags
flags a b c d e f = record { highpri = a; unbound = b; cpu_intensive = c; freezable = d; ordered = e; mem_reclaim = f }

same_flags : (a b c d e f a' b' c' d' e' f' : Bool) → a ≡ a' → b ≡ b' → c ≡ c' → d ≡ d' → e ≡ e' → f ≡ f' → flags a b c d e f ≡ flags a' b' c' d' e' f'
same_flags a b c d e f a' b' c' d' e' f' p q r s t u =
    ap (λ x. flags x b c d e f) p ∙ ap (λ x. flags a' x c d e f) q ∙ ap (λ x. flags a' b' x d e f) r
    ∙ ap (λ x. flags a' b' c' x e f) s ∙ ap (λ x. flags a' b' c' d' x f) t ∙ ap (λ x. flags a' b' c' d' e' x) u

bits_are : (a b c d e f : Bool) → flag_bits (flags a b c d e f) ≡ digit a + digit b * 2 + digit c * 4 + digit d * 8 + digit e * 16 + digit f * 32
bits_are a b c d e f =
    omega (arith, worth_digit a 1, worth_digit b 2, worth_digit c 4, worth_digit d 8, worth_digit e 16, worth_digit f 32)

flags_known : (a b c d e f : Bool) → flags_of (flag_bits (flags a b c d e f)) ≡ flags a b c d e f
flags_known a b c d e f =
    let n = flag_bits (flags a b c d e f) in
    let digits = apart (digit a) (digit b) (digit c) (digit d) (digit e) (digit f) n (digit_less a) (digit_less b) (digit_less c) (digit_less d) (digit_less e) (digit_less f) (bits_are a b c d e f) in
    same_flags _ _ _ _ _ _ a b c d e f (is_digit (n / 1 % 2) a digits.0) (is_digit (n / 2 % 2) b digits.1) (is_digit (n / 4 % 2) c digits.2)
    (is_digit (n / 8 % 2) d digits.3) (is_digit (n / 16 % 2) e digits.4) (is_digit (n / 32 % 2) f digits.5)

pub flags_again : (f : Flags) → flags_of (flag_bits f) ≡ f
flags_again f = flags_known f.highpri f.unbound f.cpu_intensive f.freezable f.ordered f.mem_reclaim

-- The flags of versions.

pub at_most_63 : (f : Flags) → flag_bits f ≤ 63
at_most_63 f =
    omega (
      arith,
      bits_are f.highpri f.unbound f.cpu_intensive f.freezable f.ordered f.mem_reclaim,
      digit_less f.highpri,
      digit_less f.unbound,
      digit_less f.cpu_intensive,
      digit_less f.freezable,
      digit_less f.ordered,
      digit_less f.mem_reclaim,
    )

-- a queue's flags but for `mem_reclaim`
five_bits : (a b c d e f : Bool) → digit f ≡ 0 → flag_bits (flags a b c d e f) ≤ 31
five_bits a b c d e f none =
    omega (arith, bits_are a b c d e f, digit_less a, digit_less b, digit_less c, digit_less d, digit_less e)

pub at_most_31 : (f : Flags) → f.mem_reclaim ≡ false → flag_bits f ≤ 31
at_most_31 f never = five_bits f.highpri f.unbound f.cpu_intensive f.freezable f.ordered f.mem_reclaim (ap digit never)

pub never_reclaims : (f : Flags) → flag_bits f ≤ 31 → f.mem_reclaim ≡ false
never_reclaims f few = go f.mem_reclaim (omega (arith, few, bits_are f.highpri f.unbound f.cpu_intensive f.freezable f.ordered f.mem_reclaim))
  where
    go : (b : Bool) → digit b < 1 → b ≡ false
    go false small = refl
    go true small = absurd (omega (arith, small))

pub few_flags : (version : ℕ) → all_flags version ≤ 63
few_flags version = go (nat_le version SECOND_VERSION)
  where
    go : (b : Bool) → cond b 31 63 ≤ 63
    go true = omega arith
    go false = omega arith
