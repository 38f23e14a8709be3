-- What clap makes of the words of `debug`.
use Rattle.std.proofs.Common.{ap, inl, inr, sym, ◌≡◌, ◌∙◌, ℕ, Bool, List, [], ◌∷◌, true, false, Option, None, Some, codes, refl}
use Rattle.std.specs.Cmp.Lexicographic.{bytes_decides}
use Rattle.std.specs.Prelude.{if◌then◌else◌}
use Rattle.clap.specs.Words.{Text, subcommand_of, takes}
use Rattle.clap.proofs.OnLiterals.{clap_on_literals}
use Rattle.cmwq_request.proofs.DrawLemmas.{plain_begins}
use Rattle.cmwq_request.proofs.WalkingLemmas.{debug_shape, ends, has_debug, is_option_word, on, on_plain, taken}
use Rattle.cmwq_command_line.specs.CommandLine.{command_line}
use Rattle.cmwq_request.specs.Request.{HasCapacity, IsMisuse, IsPlainWord, IsRead, asked_of, debug_arguments, is_input, unless_input, words_to_debug}

-- what is read of the words behind the command's name
abbrev read_of : Bool → Text → Option (List Text)
read_of settle file = words_to_debug (Some settle) (unless_input (Some file))

debugged : (settle : Bool) (file : Text) → is_option_word file ≡ false → (name : Text)
    → (takes command_line (name ∷ codes "debug" ∷ debug_arguments settle file) ≡ true)
    × (asked_of (subcommand_of command_line (name ∷ codes "debug" ∷ debug_arguments settle file)) ≡ read_of settle file)
unfolding clap_on_literals debug_shape
debugged false file p name =
    let met = taken has_debug name _ _ (on_plain debug_shape _ file _ _ p refl refl refl (ends debug_shape _)) refl in
    (met.0, ap asked_of met.1)
debugged true file p name =
    let met = taken has_debug name _ _
    (on debug_shape _ (codes "--settle") _ _ refl (on_plain debug_shape _ file _ _ p refl refl refl (ends debug_shape _)))
    refl in
    (met.0, ap asked_of met.1)

-- what begins with another byte isn't standard input
no_input : (file : Text) → IsPlainWord file → is_input file ≡ false
no_input file (first, rest, is, plain) = by (is_input file) refl
  where
    head_of : (f : ℕ) (r : Text) → f ∷ r ≡ codes "-" → f ≡ 45
    head_of f r e = cc

    by : (same : Bool) → is_input file ≡ same → same ≡ false
    by true e = absurd (plain (head_of first rest (sym is ∙ (bytes_decides file (codes "-")).0 e)))
    by false e = refl

no_capacity : (settle : Bool) (file : Text) → HasCapacity (codes "debug" ∷ debug_arguments settle file)
no_capacity true file = tt
no_capacity false file = tt

pub debug_read : (words : List Text) (name file : Text) (settle : Bool) → words ≡ name ∷ codes "debug" ∷ debug_arguments settle file → IsPlainWord file
    → IsRead words (codes "debug" ∷ debug_arguments settle file)
debug_read words name file settle are plain =
    let met = debugged settle file (plain_begins file plain) name in
    rw are (met.0, met.1 ∙ ap (λ (b : Bool). words_to_debug (Some settle) (if b then None else Some file)) (no_input file plain), no_capacity settle file)

input_met : (name : Text) → IsMisuse (name ∷ codes "debug" ∷ codes "-" ∷ [])
unfolding clap_on_literals debug_shape
input_met name =
    let met = taken has_debug name _ _ (on_plain debug_shape _ (codes "-") _ _ refl refl refl refl (ends debug_shape _)) refl in
    (met.0, _, met.1, inr (inr (inl (refl, refl))))

pub input_misused : (words : List Text) (name : Text) → words ≡ name ∷ codes "debug" ∷ codes "-" ∷ [] → IsMisuse words
input_misused words name are = rw are (input_met name)
