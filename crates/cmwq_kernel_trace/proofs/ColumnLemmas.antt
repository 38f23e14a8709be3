-- What std pads numbers with.
use Rattle.std.proofs.Common.{◌≡◌, ℕ, zero, suc, ◌-◌, ◌^◌, false, List, [], ◌∷◌, ◌++◌, length, arith, ap, refl, ◌∙◌, append-nil}
use Rattle.std.specs.Fmt.{char_count, format_spec, padded_integral}
use Rattle.std.specs.List.{repeat}
use Rattle.std.specs.Prelude.{replicate}
use Rattle.cmwq_kernel_trace.specs.KernelText.{after_zeros, at_left, at_right}

filled : (n : ℕ) → repeat {A = ℕ} n (32 ∷ []) ≡ replicate n 32
filled zero = refl
filled (suc n) = ap (λ (more : List ℕ). 32 ∷ more) (filled n)

pub after_zeros_is : (width : ℕ) (text : List ℕ) → padded_integral (format_spec 32 0 4 width (2 ^ 64 - 1)) false [] text ≡ after_zeros width text
unfolding padded_integral char_count after_zeros
after_zeros_is width text =
    let pad : width - length text - 0 - 0 ≡ width - length text = omega arith in
    ap (λ (n : ℕ). replicate {A = ℕ} n 48 ++ (text ++ [])) pad ∙ ap (λ (digits : List ℕ). replicate (width - length text) 48 ++ digits) (append-nil text)

pub at_left_is : (width : ℕ) (text : List ℕ) → padded_integral (format_spec 32 1 0 width (2 ^ 64 - 1)) false [] text ≡ at_left width text
unfolding padded_integral char_count at_left lib.Utf8.encode
at_left_is width text =
    let pad : width - length text - 0 - 0 - 0 ≡ width - length text = omega arith in
    ap (λ (n : ℕ). text ++ repeat {A = ℕ} n (32 ∷ [])) pad ∙ ap (λ (fill : List ℕ). text ++ fill) (filled (width - length text))

pub at_right_is : (width : ℕ) (text : List ℕ) → padded_integral (format_spec 32 3 0 width (2 ^ 64 - 1)) false [] text ≡ at_right width text
unfolding padded_integral char_count at_right lib.Utf8.encode
at_right_is width text =
    let padding = width - length text - 0 - 0 in
    let pad : padding ≡ width - length text = omega arith in
    let none : padding - padding ≡ 0 = omega arith in
    let fill : List ℕ = repeat padding (32 ∷ []) in
    ap (λ (n : ℕ). (((fill ++ []) ++ []) ++ []) ++ (text ++ repeat n (32 ∷ []))) none
    ∙ ap (λ (digits : List ℕ). (((fill ++ []) ++ []) ++ []) ++ digits) (append-nil text)
    ∙ ap (λ (front : List ℕ). front ++ text)
    (append-nil ((fill ++ []) ++ []) ∙ append-nil (fill ++ []) ∙ append-nil fill ∙ filled padding ∙ ap (λ (n : ℕ). replicate n 32) pad)
