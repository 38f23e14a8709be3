-- What clap makes of the words of each command.
use Rattle.std.proofs.Common.{rules, ap, sym, subst, Result, Ok, ◌^◌, ℕ, ◌<◌, arith, length, get_or, ◌≡◌, ◌∙◌, ◌≢◌, ◌==◌, Bool, List, [], ◌∷◌, true, false, Some, codes, refl, inl, inr, ◌⊎◌}
use Rattle.std.proofs.lemmas.Fmt.{decimal_nonempty, digits_decimal, digits_value-decimal, first_decimal}
use Rattle.std.proofs.lemmas.Str.Parse.{IsNumeralModel, numerals_by_value, parse_gives, tells_all_ascii_digits}
use Rattle.std.specs.Cmp.Lexicographic.{bytes_decides}
use Rattle.std.specs.Str.{all_ascii_digits, bytes_eq}
use Rattle.std.specs.Str.Parse.{ParsesUnsigned, digits_value}
use Rattle.std.specs.Fmt.{decimal}
use Rattle.clap.specs.Words.{App, HasMatchesOf, Text, fault_of, is_simple, is_simple_and_free, subcommand_of, subcommand_rows_of}
use Rattle.clap.specs.Kinds.{HasKind}
use Rattle.clap.specs.Values.{kind_of}
use Rattle.clap.specs.declared.error.Error.{Error}
use Rattle.clap.specs.declared.error.kind.ErrorKind.{ErrorKind}
use Rattle.clap.specs.declared.error.kind.ErrorKind.TheVariants.{DisplayVersion, OutOfMemory}
use Rattle.clap.specs.Matches.{subcommand_name_of}
use Rattle.clap.specs.Simple.{subcommand_rows}
use Rattle.clap.specs.Walk.{Row}
use Rattle.clap.specs.declared.parser.matches.ArgMatches.{ArgMatches}
use Rattle.clap.specs.declared.parser.matches.ArgMatches.TheViews.{out-ArgMatches, out-SubCommand}
use Rattle.clap.specs.declared.parser.matches.SubCommand.{SubCommand}
use Rattle.std.specs.Box.{box_value}
use Rattle.std.specs.Prelude.{Box, Option, None, option_map}
use Rattle.clap.proofs.OnLiterals.{clap_on_literals}
use Rattle.cmwq_request.specs.declared.request.Request.{Request}
use Rattle.cmwq_tasks.specs.declared.task.RunKind.{RunKind}
use Rattle.cmwq_tasks.specs.declared.task.RunKind.TheVariants.{Plain, Settled, Told, ToldSettled}
use Rattle.cmwq_command_line.specs.CommandLine.{command_line}
use Rattle.cmwq_request.specs.Request.{HasCapacity, IsCapacity, IsFileWord, IsPlainWord, IsRead, IsRequestOf, IsVersionWord, asked_in, asked_of, asked_of_run, kind_from, kind_of_run, run_arguments, strict_arguments, words_to_run}

simple_line : is_simple command_line ≡ true
unfolding clap_on_literals
simple_line = refl

pub free_line : is_simple_and_free command_line ≡ true
unfolding clap_on_literals
free_line = refl

long_version : (name : Text) → fault_of command_line (name ∷ codes "--version" ∷ []) ≡ DisplayVersion ∷ []
unfolding clap_on_literals
long_version name = refl

short_version : (name : Text) → fault_of command_line (name ∷ codes "-V" ∷ []) ≡ DisplayVersion ∷ []
unfolding clap_on_literals
short_version name = refl

plain_new : (name : Text) → IsRead (name ∷ codes "new" ∷ []) (codes "new" ∷ [])
unfolding clap_on_literals
plain_new name = (refl, refl, tt)

plain_new_file : (name : Text) (first : ℕ) (rest : Text) → (first == 45) ≡ false
    → IsRead (name ∷ codes "new" ∷ (first ∷ rest) ∷ []) (codes "new" ∷ (first ∷ rest) ∷ [])
unfolding clap_on_literals
plain_new_file name first rest e = (rw e (rw e refl), rw e (rw e refl), tt)

plain_run : (name : Text) (first : ℕ) (rest : Text) → (first == 45) ≡ false
    → IsRead (name ∷ codes "run" ∷ (first ∷ rest) ∷ []) (codes "run" ∷ (first ∷ rest) ∷ [])
unfolding clap_on_literals
plain_run name first rest e = (rw e (rw e refl), rw e (rw e refl), tt)

plain_run_settled : (name : Text) (first : ℕ) (rest : Text) → (first == 45) ≡ false
    → IsRead (name ∷ codes "run" ∷ run_arguments Settled (first ∷ rest)) (codes "run" ∷ run_arguments Settled (first ∷ rest))
unfolding clap_on_literals
plain_run_settled name first rest e = (rw e (rw e refl), rw e (rw e refl), tt)

plain_run_told : (name : Text) (first : ℕ) (rest : Text) → (first == 45) ≡ false
    → IsRead (name ∷ codes "run" ∷ run_arguments Told (first ∷ rest)) (codes "run" ∷ run_arguments Told (first ∷ rest))
unfolding clap_on_literals
plain_run_told name first rest e = (rw e (rw e refl), rw e (rw e refl), tt)

plain_run_told_settled : (name : Text) (first : ℕ) (rest : Text) → (first == 45) ≡ false
    → IsRead (name ∷ codes "run" ∷ run_arguments ToldSettled (first ∷ rest)) (codes "run" ∷ run_arguments ToldSettled (first ∷ rest))
unfolding clap_on_literals
plain_run_told_settled name first rest e = (rw e (rw e refl), rw e (rw e refl), tt)

plain_run_strict : (name : Text) (first : ℕ) (rest : Text) → (first == 45) ≡ false
    → IsRead (name ∷ codes "run" ∷ strict_arguments true Plain (first ∷ rest)) (codes "run" ∷ strict_arguments true Plain (first ∷ rest))
unfolding clap_on_literals
plain_run_strict name first rest e = (rw e (rw e refl), rw e (rw e refl), tt)

plain_run_strict_settled : (name : Text) (first : ℕ) (rest : Text) → (first == 45) ≡ false
    → IsRead (name ∷ codes "run" ∷ strict_arguments true Settled (first ∷ rest)) (codes "run" ∷ strict_arguments true Settled (first ∷ rest))
unfolding clap_on_literals
plain_run_strict_settled name first rest e = (rw e (rw e refl), rw e (rw e refl), tt)

plain_run_strict_told : (name : Text) (first : ℕ) (rest : Text) → (first == 45) ≡ false
    → IsRead (name ∷ codes "run" ∷ strict_arguments true Told (first ∷ rest)) (codes "run" ∷ strict_arguments true Told (first ∷ rest))
unfolding clap_on_literals
plain_run_strict_told name first rest e = (rw e (rw e refl), rw e (rw e refl), tt)

plain_run_strict_told_settled : (name : Text) (first : ℕ) (rest : Text) → (first == 45) ≡ false
    → IsRead (name ∷ codes "run" ∷ strict_arguments true ToldSettled (first ∷ rest)) (codes "run" ∷ strict_arguments true ToldSettled (first ∷ rest))
unfolding clap_on_literals
plain_run_strict_told_settled name first rest e = (rw e (rw e refl), rw e (rw e refl), tt)

input_run : (name : Text) → IsRead (name ∷ codes "run" ∷ codes "-" ∷ []) (codes "run" ∷ codes "-" ∷ [])
unfolding clap_on_literals
input_run name = (refl, refl, tt)

input_run_settled : (name : Text) → IsRead (name ∷ codes "run" ∷ run_arguments Settled (codes "-")) (codes "run" ∷ run_arguments Settled (codes "-"))
unfolding clap_on_literals
input_run_settled name = (refl, refl, tt)

input_run_told : (name : Text) → IsRead (name ∷ codes "run" ∷ run_arguments Told (codes "-")) (codes "run" ∷ run_arguments Told (codes "-"))
unfolding clap_on_literals
input_run_told name = (refl, refl, tt)

input_run_told_settled : (name : Text)
    → IsRead (name ∷ codes "run" ∷ run_arguments ToldSettled (codes "-")) (codes "run" ∷ run_arguments ToldSettled (codes "-"))
unfolding clap_on_literals
input_run_told_settled name = (refl, refl, tt)

input_run_strict : (name : Text)
    → IsRead (name ∷ codes "run" ∷ strict_arguments true Plain (codes "-")) (codes "run" ∷ strict_arguments true Plain (codes "-"))
unfolding clap_on_literals
input_run_strict name = (refl, refl, tt)

input_run_strict_settled : (name : Text)
    → IsRead (name ∷ codes "run" ∷ strict_arguments true Settled (codes "-")) (codes "run" ∷ strict_arguments true Settled (codes "-"))
unfolding clap_on_literals
input_run_strict_settled name = (refl, refl, tt)

input_run_strict_told : (name : Text)
    → IsRead (name ∷ codes "run" ∷ strict_arguments true Told (codes "-")) (codes "run" ∷ strict_arguments true Told (codes "-"))
unfolding clap_on_literals
input_run_strict_told name = (refl, refl, tt)

input_run_strict_told_settled : (name : Text)
    → IsRead (name ∷ codes "run" ∷ strict_arguments true ToldSettled (codes "-")) (codes "run" ∷ strict_arguments true ToldSettled (codes "-"))
unfolding clap_on_literals
input_run_strict_told_settled name = (refl, refl, tt)

input_settle : (name : Text) → IsRead (name ∷ codes "settle" ∷ codes "-" ∷ []) (codes "settle" ∷ codes "-" ∷ [])
unfolding clap_on_literals
input_settle name = (refl, refl, tt)

input_list : (name : Text) → IsRead (name ∷ codes "list" ∷ codes "-" ∷ []) (codes "list" ∷ codes "-" ∷ [])
unfolding clap_on_literals
input_list name = (refl, refl, tt)

input_show : (name : Text) → IsRead (name ∷ codes "show" ∷ codes "-" ∷ []) (codes "show" ∷ codes "-" ∷ [])
unfolding clap_on_literals
input_show name = (refl, refl, tt)

input_check : (name : Text) → IsRead (name ∷ codes "check" ∷ codes "-" ∷ []) (codes "check" ∷ codes "-" ∷ [])
unfolding clap_on_literals
input_check name = (refl, refl, tt)

input_asm : (name : Text) (head : ℕ) (tail : Text) → (head == 45) ≡ false
    → IsRead (name ∷ codes "asm" ∷ codes "-" ∷ (head ∷ tail) ∷ []) (codes "asm" ∷ codes "-" ∷ (head ∷ tail) ∷ [])
unfolding clap_on_literals
input_asm name head tail f = (rw f (rw f refl), rw f (rw f refl), tt)

input_play : (name : Text) (head : ℕ) (tail : Text) → (head == 45) ≡ false → HasCapacity (codes "play" ∷ codes "-" ∷ codes "--capacity" ∷ (head ∷ tail) ∷ [])
    → IsRead (name ∷ codes "play" ∷ codes "-" ∷ codes "--capacity" ∷ (head ∷ tail) ∷ []) (codes "play" ∷ codes "-" ∷ codes "--capacity" ∷ (head ∷ tail) ∷ [])
unfolding clap_on_literals
input_play name head tail f fits = (rw f (rw f refl), rw f (rw f refl), fits)

plain_settle : (name : Text) (first : ℕ) (rest : Text) → (first == 45) ≡ false
    → IsRead (name ∷ codes "settle" ∷ (first ∷ rest) ∷ []) (codes "settle" ∷ (first ∷ rest) ∷ [])
unfolding clap_on_literals
plain_settle name first rest e = (rw e (rw e refl), rw e (rw e refl), tt)

plain_list : (name : Text) (first : ℕ) (rest : Text) → (first == 45) ≡ false
    → IsRead (name ∷ codes "list" ∷ (first ∷ rest) ∷ []) (codes "list" ∷ (first ∷ rest) ∷ [])
unfolding clap_on_literals
plain_list name first rest e = (rw e (rw e refl), rw e (rw e refl), tt)

plain_show : (name : Text) (first : ℕ) (rest : Text) → (first == 45) ≡ false
    → IsRead (name ∷ codes "show" ∷ (first ∷ rest) ∷ []) (codes "show" ∷ (first ∷ rest) ∷ [])
unfolding clap_on_literals
plain_show name first rest e = (rw e (rw e refl), rw e (rw e refl), tt)

plain_asm : (name : Text) (first : ℕ) (rest : Text) (head : ℕ) (tail : Text) → (first == 45) ≡ false → (head == 45) ≡ false
    → IsRead (name ∷ codes "asm" ∷ (first ∷ rest) ∷ (head ∷ tail) ∷ []) (codes "asm" ∷ (first ∷ rest) ∷ (head ∷ tail) ∷ [])
unfolding clap_on_literals
plain_asm name first rest head tail e f = (rw e (rw e (rw f (rw f refl))), rw e (rw e (rw f (rw f refl))), tt)

plain_play : (name : Text) (first : ℕ) (rest : Text) (head : ℕ) (tail : Text) → (first == 45) ≡ false → (head == 45) ≡ false → HasCapacity (codes "play" ∷ (first ∷ rest) ∷ codes "--capacity" ∷ (head ∷ tail) ∷ [])
    → IsRead (name ∷ codes "play" ∷ (first ∷ rest) ∷ codes "--capacity" ∷ (head ∷ tail) ∷ []) (codes "play" ∷ (first ∷ rest) ∷ codes "--capacity" ∷ (head ∷ tail) ∷ [])
unfolding clap_on_literals
plain_play name first rest head tail e f fits = (rw e (rw e (rw f (rw f refl))), rw e (rw e (rw f (rw f refl))), fits)

plain_check : (name : Text) (first : ℕ) (rest : Text) → (first == 45) ≡ false
    → IsRead (name ∷ codes "check" ∷ (first ∷ rest) ∷ []) (codes "check" ∷ (first ∷ rest) ∷ [])
unfolding clap_on_literals
plain_check name first rest e = (rw e (rw e refl), rw e (rw e refl), tt)

plain_check_two : (name : Text) (first : ℕ) (rest : Text) (head : ℕ) (tail : Text) → (first == 45) ≡ false → (head == 45) ≡ false
    → IsRead (name ∷ codes "check" ∷ (first ∷ rest) ∷ (head ∷ tail) ∷ []) (codes "check" ∷ (first ∷ rest) ∷ (head ∷ tail) ∷ [])
unfolding clap_on_literals
plain_check_two name first rest head tail e f = (rw e (rw e (rw f (rw f refl))), rw e (rw e (rw f (rw f refl))), tt)

pub no_hyphen : (first : ℕ) → first ≢ 45 → (first == 45) ≡ false
no_hyphen first plain = search rules

pub version_asked : (words : List Text) (name word : Text) → words ≡ name ∷ word ∷ [] → IsVersionWord word → fault_of command_line words ≡ DisplayVersion ∷ []
version_asked words name word are (inl is) = rw (are, is) (long_version name)
version_asked words name word are (inr is) = rw (are, is) (short_version name)

-- a parse that fails for the version, or for want of memory
pub version_kind : (line : App) (words : List Text) (e : Error) → line ≡ command_line → (is_simple_and_free line ≡ true → HasKind (fault_of line words) e)
    → fault_of command_line words ≡ DisplayVersion ∷ [] → (kind_of e ≡ OutOfMemory) ⊎ (kind_of e ≡ DisplayVersion)
version_kind line words e line_is fails asked =
    let kinds : fault_of line words ≡ DisplayVersion ∷ [] = ap (λ (a : App). fault_of a words) line_is ∙ asked in
    elim (subst (λ (ks : List ErrorKind). HasKind ks e) kinds (fails (ap is_simple_and_free line_is ∙ free_line))) [
      | inl it ↦ inl it
      | inr (inl it) ↦ inr it
      | inr (inr it) ↦ absurd it
    ]

pub no_matches : (line : App) (words : List Text) → line ≡ command_line → (is_simple_and_free line ≡ true → fault_of line words ≡ [])
    → fault_of command_line words ≡ DisplayVersion ∷ [] → ⊥
no_matches line words line_is none asked =
    let both : DisplayVersion ∷ [] ≡ [] = sym asked ∙ sym (ap (λ (a : App). fault_of a words) line_is) ∙ none (ap is_simple_and_free line_is ∙ free_line) in
    apart both
  where
    apart : {k : ErrorKind} → k ∷ [] ≡ [] → ⊥
    apart e = cc

pub new_read : (words : List Text) (name : Text) → words ≡ name ∷ codes "new" ∷ [] → IsRead words (codes "new" ∷ [])
new_read words name are = rw are (plain_new name)

pub new_file_read : (words : List Text) (name file : Text) → words ≡ name ∷ codes "new" ∷ file ∷ [] → IsPlainWord file
    → IsRead words (codes "new" ∷ file ∷ [])
new_file_read words name file are (first, rest, is, plain) = rw (are, is) (plain_new_file name first rest (no_hyphen first plain))

pub run_read : (words : List Text) (name file : Text) (kind : RunKind) → words ≡ name ∷ codes "run" ∷ run_arguments kind file → IsFileWord file
    → IsRead words (codes "run" ∷ run_arguments kind file)
run_read words name file Plain are (inl (first, rest, is, plain)) = rw (are, is) (plain_run name first rest (no_hyphen first plain))
run_read words name file Settled are (inl (first, rest, is, plain)) = rw (are, is) (plain_run_settled name first rest (no_hyphen first plain))
run_read words name file Told are (inl (first, rest, is, plain)) = rw (are, is) (plain_run_told name first rest (no_hyphen first plain))
run_read words name file ToldSettled are (inl (first, rest, is, plain)) = rw (are, is) (plain_run_told_settled name first rest (no_hyphen first plain))
run_read words name file Plain are (inr is) = rw (are, is) (input_run name)
run_read words name file Settled are (inr is) = rw (are, is) (input_run_settled name)
run_read words name file Told are (inr is) = rw (are, is) (input_run_told name)
run_read words name file ToldSettled are (inr is) = rw (are, is) (input_run_told_settled name)

pub run_strict_read : (words : List Text) (name file : Text) (kind : RunKind) → words ≡ name ∷ codes "run" ∷ strict_arguments true kind file → IsFileWord file
    → IsRead words (codes "run" ∷ strict_arguments true kind file)
run_strict_read words name file Plain are (inl (first, rest, is, plain)) = rw (are, is) (plain_run_strict name first rest (no_hyphen first plain))
run_strict_read words name file Settled are (inl (first, rest, is, plain)) = rw (are, is) (plain_run_strict_settled name first rest (no_hyphen first plain))
run_strict_read words name file Told are (inl (first, rest, is, plain)) = rw (are, is) (plain_run_strict_told name first rest (no_hyphen first plain))
run_strict_read words name file ToldSettled are (inl (first, rest, is, plain)) = rw (are, is) (plain_run_strict_told_settled name first rest (no_hyphen first plain))
run_strict_read words name file Plain are (inr is) = rw (are, is) (input_run_strict name)
run_strict_read words name file Settled are (inr is) = rw (are, is) (input_run_strict_settled name)
run_strict_read words name file Told are (inr is) = rw (are, is) (input_run_strict_told name)
run_strict_read words name file ToldSettled are (inr is) = rw (are, is) (input_run_strict_told_settled name)

pub settle_read : (words : List Text) (name file : Text) → words ≡ name ∷ codes "settle" ∷ file ∷ [] → IsFileWord file
    → IsRead words (codes "settle" ∷ file ∷ [])
settle_read words name file are (inl (first, rest, is, plain)) = rw (are, is) (plain_settle name first rest (no_hyphen first plain))
settle_read words name file are (inr is) = rw (are, is) (input_settle name)

pub list_read : (words : List Text) (name file : Text) → words ≡ name ∷ codes "list" ∷ file ∷ [] → IsFileWord file
    → IsRead words (codes "list" ∷ file ∷ [])
list_read words name file are (inl (first, rest, is, plain)) = rw (are, is) (plain_list name first rest (no_hyphen first plain))
list_read words name file are (inr is) = rw (are, is) (input_list name)

pub show_read : (words : List Text) (name image : Text) → words ≡ name ∷ codes "show" ∷ image ∷ [] → IsFileWord image
    → IsRead words (codes "show" ∷ image ∷ [])
show_read words name image are (inl (first, rest, is, plain)) = rw (are, is) (plain_show name first rest (no_hyphen first plain))
show_read words name image are (inr is) = rw (are, is) (input_show name)

pub check_read : (words : List Text) (name file : Text) → words ≡ name ∷ codes "check" ∷ file ∷ [] → IsFileWord file
    → IsRead words (codes "check" ∷ file ∷ [])
check_read words name file are (inl (first, rest, is, plain)) = rw (are, is) (plain_check name first rest (no_hyphen first plain))
check_read words name file are (inr is) = rw (are, is) (input_check name)

pub check_two_read : (words : List Text) (name file other : Text) → words ≡ name ∷ codes "check" ∷ file ∷ other ∷ [] → IsPlainWord file
    → IsPlainWord other → IsRead words (codes "check" ∷ file ∷ other ∷ [])
check_two_read words name file other are (first, rest, is, plain) (head, tail, is_other, plain_other) =
    rw (are, is, is_other) (plain_check_two name first rest head tail (no_hyphen first plain) (no_hyphen head plain_other))

pub asm_read : (words : List Text) (name file out : Text) → words ≡ name ∷ codes "asm" ∷ file ∷ out ∷ [] → IsFileWord file
    → IsPlainWord out → IsRead words (codes "asm" ∷ file ∷ out ∷ [])
asm_read words name file out are (inl (first, rest, is, plain)) (head, tail, is_out, plain_out) =
    rw (are, is, is_out) (plain_asm name first rest head tail (no_hyphen first plain) (no_hyphen head plain_out))
asm_read words name file out are (inr is) (head, tail, is_out, plain_out) = rw (are, is, is_out) (input_asm name head tail (no_hyphen head plain_out))

-- a number in decimal is no option
number_plain : (n : ℕ) → IsCapacity n → IsPlainWord (decimal n)
number_plain n fits = digits (decimal n) (decimal_nonempty n (omega (arith, fits.1))) (first_decimal n (omega (arith, fits.0)) (omega (arith, fits.1)))
  where
    digits : (word : Text) → 0 < length word → 48 < get_or word 0 0 → IsPlainWord word
    digits [] some high = absurd (omega arith)
    digits (first ∷ rest) some high = (first, rest, refl, λ is. absurd (omega (arith, high, is)))

pub numerals : IsNumeralModel (λ word. all_ascii_digits word ≡ true) (digits_value 10)
numerals = numerals_by_value (λ word. all_ascii_digits word ≡ true) tells_all_ascii_digits

-- and is read as that number
pub number_read : {E : Type 0} (r : Result ℕ E) (word : Text) (n : ℕ) → ParsesUnsigned 32 10 word r → word ≡ decimal n → IsCapacity n → r ≡ Ok n
number_read {E} r word n parsed is fits =
    let small : n < 2 ^ 64 = omega (arith, fits.1) in
    let value : digits_value 10 (decimal n) ≡ n = digits_value-decimal numerals n small in
    let read : r ≡ Ok (digits_value 10 (decimal n)) =
    parse_gives numerals 32 (decimal n) r (subst (λ (w : Text). ParsesUnsigned {E = E} 32 10 w r) is parsed) (digits_decimal numerals n small) (decimal_nonempty n small) (omega (arith, value, fits.1)) in
    read ∙ ap Ok value

pub play_read : (words : List Text) (name file : Text) (n : ℕ) → words ≡ name ∷ codes "play" ∷ file ∷ codes "--capacity" ∷ decimal n ∷ [] → IsFileWord file → IsCapacity n
    → IsRead words (codes "play" ∷ file ∷ codes "--capacity" ∷ decimal n ∷ [])
play_read words name file n are plain fits = of_plain file (decimal n) plain (number_plain n fits) are refl
  where
    of_plain : (f number : Text) → IsFileWord f → IsPlainWord number → words ≡ name ∷ codes "play" ∷ f ∷ codes "--capacity" ∷ number ∷ []
        → number ≡ decimal n → IsRead words (codes "play" ∷ f ∷ codes "--capacity" ∷ number ∷ [])
    of_plain f number (inl (first, rest, is, p)) (head, tail, is_number, q) same digits =
        rw (same, is, is_number) (plain_play name first rest head tail (no_hyphen first p) (no_hyphen head q) (n, sym is_number ∙ digits, fits))
    of_plain f number (inr is) (head, tail, is_number, q) same digits =
        rw (same, is, is_number) (input_play name head tail (no_hyphen head q) (n, sym is_number ∙ digits, fits))

-- the matches have what clap meets
pub rows_met : (line : App) (words : List Text) (m : ArgMatches) → line ≡ command_line → HasMatchesOf line words m
    → subcommand_rows_of m ≡ subcommand_of command_line words
rows_met line words m line_is matches = (matches (ap is_simple line_is ∙ simple_line)).1 ∙ ap (λ a. subcommand_of a words) line_is

-- and what was read
pub read_met : (line : App) (words asked : List Text) (m : ArgMatches) → line ≡ command_line → HasMatchesOf line words m
    → IsRead words asked → asked_of (subcommand_rows_of m) ≡ Some asked
read_met line words asked m line_is matches read = ap asked_of (rows_met line words m line_is matches) ∙ read.1

-- what was met is a command's name and its values
pub met_in : (m : ArgMatches) (name : Text) (rows : List Row) (asked : List Text) → Some name ≡ subcommand_name_of m
    → Some rows ≡ option_map (λ p. p.1) (subcommand_rows_of m) → asked_of (subcommand_rows_of m) ≡ Some asked → asked_in (name, rows) ≡ Some asked
met_in m name rows asked = at (out-ArgMatches m).subcommand
  where
    at : {Z : Type 0} (o : Option (Box SubCommand Z)) → Some name ≡ option_map (λ b. (out-SubCommand (box_value b)).name.now) o
        → Some rows ≡ option_map (λ p. p.1) (subcommand_rows o) → asked_of (subcommand_rows o) ≡ Some asked → asked_in (name, rows) ≡ Some asked
    at None is_name are_rows is = cc
    at (Some b) is_name are_rows is = cc

-- the command that was met, with its values
pub met_is : (m : ArgMatches) (name : Text) (rows : List Row) (met : Text × List Row) → Some name ≡ subcommand_name_of m
    → Some rows ≡ option_map (λ p. p.1) (subcommand_rows_of m) → subcommand_rows_of m ≡ Some met → (name, rows) ≡ met
met_is m name rows met = at (out-ArgMatches m).subcommand
  where
    at : {Z : Type 0} (o : Option (Box SubCommand Z)) → Some name ≡ option_map (λ b. (out-SubCommand (box_value b)).name.now) o
        → Some rows ≡ option_map (λ p. p.1) (subcommand_rows o) → subcommand_rows o ≡ Some met → (name, rows) ≡ met
    at None is_name are_rows is = cc
    at (Some b) is_name are_rows is = cc

other_name : (a b : Text) → a ≢ b → bytes_eq a b ≡ false
other_name a b apart = by (bytes_eq a b) refl
  where
    by : (same : Bool) → bytes_eq a b ≡ same → same ≡ false
    by true is = absurd (apart ((bytes_decides a b).0 is))
    by false is = refl

-- a name that is none of the first ones is judged by those behind them
pub asked_behind : (name : Text) (rows : List Row) → name ≢ codes "new" → name ≢ codes "run" → name ≢ codes "settle" → name ≢ codes "list" → name ≢ codes "asm" → name ≢ codes "show"
    → asked_in (name, rows) ≡ asked_of_run (name, rows)
asked_behind name rows new run settle list asm show =
    let none : (word : Text) → name ≢ word → bytes_eq name word ≡ false = other_name name in
    rw (none _ new, none _ run, none _ settle, none _ list, none _ asm, none _ show) refl

-- where nothing is asked for, no words are
pub nothing_asked : (request : Option Request) (asked : List Text) → request ≡ None → IsRequestOf asked request → ⊥
nothing_asked None asked none is = cc
nothing_asked (Some request) asked none is = cc

-- a run's words are of its kind and file
pub run_met : (strict : Option Bool) (kind : Option RunKind) (file : Option Text) (asked : List Text) → words_to_run strict kind file ≡ Some asked
    → (s : Bool) × (k : RunKind) × (name : Text) × (strict ≡ Some s) × (kind ≡ Some k) × (file ≡ Some name) × (codes "run" ∷ strict_arguments s k name ≡ asked)
run_met (Some s) (Some k) (Some name) asked e =
    let same : codes "run" ∷ strict_arguments s k name ≡ asked = cc in (s, k, name, refl, refl, refl, same)
run_met (Some s) (Some k) None asked e = absurd cc
run_met (Some s) None file asked e = absurd cc
run_met None kind file asked e = absurd cc

-- and its kind is of its flags
pub kind_met : (settle tell : Option Bool) (k : RunKind) → kind_from settle tell ≡ Some k
    → (s t : Bool) × (settle ≡ Some s) × (tell ≡ Some t) × (kind_of_run s t ≡ k)
kind_met (Some s) (Some t) k e = let same : kind_of_run s t ≡ k = cc in (s, t, refl, refl, same)
kind_met None tell k e = absurd cc
kind_met (Some s) None k e = absurd cc
