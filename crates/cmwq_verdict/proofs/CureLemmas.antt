-- What a cure's words say.
use Rattle.std.proofs.Common.{◌≡◌, ◌+◌, ◌≤◌, ℕ, suc, List, [], ◌∷◌, Result, Ok, Err, IfOk, arith, length, ap, get_or, ◌∙◌}
use Rattle.std.proofs.lemmas.List.{length-map}
use Rattle.std.specs.Prelude.{option_map}
use Rattle.cmwq_grammar.specs.declared.next.Next.{Next}
use Rattle.cmwq_scan.specs.Words.{Word, words_in}
use Rattle.cmwq_verdict.specs.Cures.{missing_cure, missing_in}
use Rattle.cmwq_verdict.specs.Forms.{form_at}

-- what follows from what is known of the value
pub on-ok : {T E : Type 0} {P Q : T → Type 0} (r : Result T E) → IfOk r P → ((x : T) → P x → Q x) → IfOk r Q
on-ok (Ok x) holds then = then x holds
on-ok (Err e) holds then = tt

-- of a line that has words, its first word says how it is written
pub missing-first : (next : Next) (words : List Word) (first : Word) (bytes : List ℕ) → 1 ≤ length words → first ≡ get_or words 0 first → bytes ≡ first.bytes
    → option_map (λ form. missing_in (length words) form) (form_at next bytes) ≡ missing_cure next (words_in words)
missing-first next [] first bytes long is e = absurd (omega (arith, long))
missing-first next (word ∷ others) first bytes long is e =
    let same : bytes ≡ word.bytes = e ∙ ap (λ (w : Word). w.bytes) is in
    let long : length (words_in others) ≡ length others = length-map others (λ (w : Word). w.bytes) in
    let count : suc (length others) ≡ length (words_in others) + 1 = omega (arith, long) in
    ap (λ (b : List ℕ). option_map (λ form. missing_in (suc (length others)) form) (form_at next b)) same
    ∙ ap (λ (n : ℕ). option_map (λ form. missing_in n form) (form_at next word.bytes)) count
