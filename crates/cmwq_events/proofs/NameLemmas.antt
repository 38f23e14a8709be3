-- How long the names of tasks are.
use Rattle.std.proofs.Common.{◌≡◌, ℕ, ◌+◌, ◌<◌, ◌≤◌, ◌/◌, ◌%◌, List, [], ◌∷◌, ◌++◌, codes, length, arith, ap, refl, ◌∙◌}
use Rattle.std.proofs.lemmas.Fmt.{decimal_digit, decimal_step}
use Rattle.std.proofs.lemmas.List.{length-append}
use Rattle.std.specs.Fmt.{decimal}

pub one_digit : (n : ℕ) → n < 10 → length (decimal n) ≡ 1
one_digit n few = ap length (decimal_digit n few)

pub two_digits : (n : ℕ) → 10 ≤ n → n < 100 → length (decimal n) ≡ 2
two_digits n many few =
    ap length (decimal_step n many (omega (arith, few)))
    ∙ length-append (decimal (n / 10)) ((48 + n % 10) ∷ [])
    ∙ ap (λ (k : ℕ). k + 1) (one_digit (n / 10) (omega (arith, few)))

pub three_digits : (n : ℕ) → 100 ≤ n → n < 1000 → length (decimal n) ≡ 3
three_digits n many few =
    ap length (decimal_step n (omega (arith, many)) (omega (arith, few)))
    ∙ length-append (decimal (n / 10)) ((48 + n % 10) ∷ [])
    ∙ ap (λ (k : ℕ). k + 1) (two_digits (n / 10) (omega (arith, many)) (omega (arith, few)))

lengths : (a b c d e : List ℕ) → length (a ++ b ++ c ++ d ++ e) ≡ length a + length b + length c + length d + length e
lengths a b c d e =
    let two = length-append a b in
    let three = length-append (a ++ b) c in
    let four = length-append (a ++ b ++ c) d in
    let five = length-append (a ++ b ++ c ++ d) e in
    omega (arith, two, three, four, five)

pub worker_name_length : (mark number priority : List ℕ)
    → length (codes "kworker/" ++ mark ++ codes ":" ++ number ++ priority) ≡ 9 + length mark + length number + length priority
worker_name_length mark number priority =
    let front : length (codes "kworker/") ≡ 8 = refl in
    let colon : length (codes ":") ≡ 1 = refl in
    lengths (codes "kworker/") mark (codes ":") number priority ∙ omega (arith, front, colon)
