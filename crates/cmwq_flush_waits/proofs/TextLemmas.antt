-- Texts that are put together of three parts.
use Rattle.std.proofs.Common.{◌≡◌, ℕ, List, ◌++◌, ap, ◌∙◌, append_assoc}

pub three_parts : (old first second third one two all told : List ℕ) → one ≡ old ++ first → two ≡ one ++ told → told ≡ second → all ≡ two ++ third → all ≡ old ++ (first ++ second ++ third)
three_parts old first second third one two all told is is_second same is_third =
    is_third
    ∙ ap (λ (text : List ℕ). text ++ third) (is_second ∙ ap (λ (text : List ℕ). one ++ text) same ∙ ap (λ (text : List ℕ). text ++ second) is ∙ append_assoc old first second)
    ∙ append_assoc old (first ++ second) third
