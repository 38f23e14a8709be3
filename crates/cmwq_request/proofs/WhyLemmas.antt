-- What clap makes of the words of `why`.
use Rattle.std.proofs.Common.{arith, ap, sym, get_or, ◌^◌, ◌&&◌, ℕ, ◌<◌, ◌≤◌, ◌≢◌, length, nat_lt, if◌then◌else◌, ◌≡◌, ◌∙◌, codes, Bool, List, [], ◌∷◌, ◌++◌, true, false, Option, None, Some, refl, Result, Ok, Err, inl, inr, option_and_then, option_map}
use Rattle.std.proofs.lemmas.Bool.Decides.{nat_tests}
use Rattle.std.proofs.lemmas.Str.Parse.{parse_plain, digits_value_short}
use Rattle.std.specs.Result.{result_ok}
use Rattle.std.specs.Str.{all_ascii_digits}
use Rattle.std.specs.Str.Parse.{ParsesUnsigned, digits_value}
use Rattle.clap.specs.Words.{Row, Text}
use Rattle.cmwq_request.proofs.RequestLemmas.{numerals}
use Rattle.clap.specs.Walk.{Walk, finished, nothing_held, walk_from}
use Rattle.cmwq_request.proofs.WalkingLemmas.{Goes, is_option_word, end_passes, ends, has_why, on, on_plain, taken, why_shape}
use Rattle.cmwq_request.proofs.DrawLemmas.{Takes, decimal_begins, file_begins, plain_begins}
use Rattle.cmwq_request.specs.Numbers.{plain_number}
use Rattle.cmwq_request.specs.Request.{HasCapacity, HasShortNumber, IsFileWord, IsMisuse, IsPlainWord, IsRead, IsShortNumber, IsValueWord, asked_from, asked_of, asked_why, file_to_ask, flag_of, flush_arguments, look_words, looks_in, option_words, question_arguments, question_words, task_words, work_arguments}
use Rattle.cmwq_question.specs.declared.question.Looks.{Looks}
use Rattle.cmwq_question.specs.declared.question.Inquiry.{Inquiry}
use Rattle.cmwq_tasks.specs.declared.task.Task.TheVariants.{Why}
use Rattle.cmwq_question.specs.declared.question.Looks.TheVariants.{Settled as AtSettled, Every, At, Time}
use Rattle.clap.proofs.OnLiterals.{clap_on_literals}
use Rattle.std.specs.Fmt.{decimal}
use Rattle.std.proofs.lemmas.Fmt.{decimal_nonempty, digits_decimal, digits_value-decimal, length-decimal-le}

-- Numbers.

pub number_if_digits : (word : Text) → all_ascii_digits word ≡ true → 0 < length word → length word ≤ 10 → plain_number word ≡ Some (digits_value 10 word)
unfolding plain_number
number_if_digits word digits some short =
    let above : nat_lt 0 (length word) ≡ true = grind (arith, nat_tests, some) in
    let below : nat_lt (length word) 11 ≡ true = grind (arith, nat_tests, short) in
    rw (digits, above, below) refl

no_number : (digits above below : Bool) (n : ℕ) → (digits ≡ true → above ≡ true → below ≡ true → ⊥)
    → (if digits && (above && below) then Some n else None) ≡ None
no_number true true true n not_all = absurd (not_all refl refl refl)
no_number true true false n not_all = refl
no_number true false below n not_all = refl
no_number false above below n not_all = refl

pub no_number_if_not : (word : Text) → (all_ascii_digits word ≡ true → 0 < length word → length word ≤ 10 → ⊥) → plain_number word ≡ None
unfolding plain_number
no_number_if_not word not_all =
    no_number (all_ascii_digits word) (nat_lt 0 (length word)) (nat_lt (length word) 11) (digits_value 10 word)
    (λ digits above below. not_all digits (grind (arith, nat_tests, above)) (grind (arith, nat_tests, below)))

pub no_number_if_long : (word : Text) → 10 < length word → plain_number word ≡ None
no_number_if_long word long = no_number_if_not word (λ digits some short. absurd (omega (arith, long, short)))

-- a plus sign is no digit
pub no_number_if_signed : (word : Text) → get_or word 0 0 ≡ 43 → plain_number word ≡ None
no_number_if_signed word sign = no_number_if_not word (λ digits some short. by word sign digits some)
  where
    by : (w : Text) → get_or w 0 0 ≡ 43 → all_ascii_digits w ≡ true → 0 < length w → ⊥
    by [] is digits some = omega arith
    by (first ∷ rest) is digits some = grind (arith, nat_tests, is, digits)

-- what a short word without a sign is parsed as
pub parsed_number : {E : Type 0} (r : Result ℕ E) (word : Text) → ParsesUnsigned 64 10 word r → get_or word 0 0 ≢ 43 → length word ≤ 10
    → result_ok r ≡ plain_number word
parsed_number {E} (Ok n) word parsed unsigned short =
    let (reads, value) = parse_plain numerals {E = E} 64 word (Ok n) parsed unsigned in
    sym (number_if_digits word reads.0 reads.1 short ∙ ap Some (sym value))
parsed_number {E} (Err error) word parsed unsigned short =
    sym (no_number_if_not word (λ digits some is_short.
    parse_plain numerals {E = E} 64 word (Err error) parsed unsigned
    (digits, some, omega (arith, digits_value_short numerals word 10 digits is_short))))

pub short_number : (n : ℕ) → IsShortNumber n → plain_number (decimal n) ≡ Some n
short_number n short =
    let small : n < 2 ^ 64 = omega (arith, short) in
    number_if_digits (decimal n) (digits_decimal numerals n small) (decimal_nonempty n small) (length-decimal-le 10 n (omega arith) short small)
    ∙ ap Some (digits_value-decimal numerals n small)

pub short_plain : (n : ℕ) → IsShortNumber n → is_option_word (decimal n) ≡ false
short_plain n short = decimal_begins n (omega (arith, short))

pub value_begins : (word : Text) → IsValueWord word → is_option_word word ≡ false
value_begins word (inl empty) = ap is_option_word empty
value_begins word (inr plain) = plain_begins word plain

-- Words.

-- clap takes the words behind the command's name, and these are read of them, if they are there
record Asks (words : List Text) (asked : Option (List Text)) : Type 0 where
  takes : (name : Text) → Takes (name ∷ codes "why" ∷ words) asked

asks : (words : List Text) (asked : Option (List Text)) (end : Walk) → Goes why_shape (walk_from nothing_held) words end → end_passes why_shape end ≡ true
    → asked_of (Some (codes "why", finished why_shape.rules end.held)) ≡ asked → Asks words asked
asks words asked end goes passes is =
    record { takes = λ name. let met = taken has_why name words end goes passes in (met.0, ap asked_of met.1 ∙ is) }

-- which positions, with the word of the number where there is one
data Place : Type 0 where
  in_settled : Place
  in_each : Place
  in_position : Text → Place
  in_tick : Text → Place

abbrev place_words : Place → List Text
place_words Place.in_settled = []
place_words Place.in_each = codes "--every" ∷ []
place_words (Place.in_position place) = codes "--at" ∷ place ∷ []
place_words (Place.in_tick place) = codes "--time" ∷ place ∷ []

abbrev PlaceBegins : Place → Type 0
PlaceBegins Place.in_settled = Unit {0}
PlaceBegins Place.in_each = Unit {0}
PlaceBegins (Place.in_position place) = is_option_word place ≡ false
PlaceBegins (Place.in_tick place) = is_option_word place ≡ false

-- what is read there
abbrev asked_there : (settle : Bool) → Place → (file work flush : Option Text) → Option (List Text)
asked_there settle Place.in_settled file work flush = asked_from false settle None None file work flush
asked_there settle Place.in_each file work flush = asked_from true settle None None file work flush
asked_there settle (Place.in_position place) file work flush = asked_from false settle (Some place) None file work flush
asked_there settle (Place.in_tick place) file work flush = asked_from false settle None (Some place) file work flush

of_work : (settle : Bool) (place : Place) (file work : Text) → PlaceBegins place → is_option_word file ≡ false → is_option_word work ≡ false
    → Asks (option_words (codes "--settle") settle ++ (place_words place ++ (file ∷ work ∷ []))) (asked_there settle place (Some file) (Some work) None)
unfolding clap_on_literals why_shape
of_work false Place.in_settled file work b f w =
    asks _ _ _ (on_plain why_shape _ file _ _ f refl refl refl (on_plain why_shape _ work _ _ w refl refl refl (ends why_shape _))) refl refl
of_work false Place.in_each file work b f w =
    asks _ _ _ (on why_shape _ (codes "--every") _ _ refl (on_plain why_shape _ file _ _ f refl refl refl (on_plain why_shape _ work _ _ w refl refl refl (ends why_shape _)))) refl refl
of_work false (Place.in_position place) file work b f w =
    asks _ _ _ (on why_shape _ (codes "--at") _ _ refl (on_plain why_shape _ place _ _ b refl refl refl (on_plain why_shape _ file _ _ f refl refl refl (on_plain why_shape _ work _ _ w refl refl refl (ends why_shape _))))) refl refl
of_work false (Place.in_tick place) file work b f w =
    asks _ _ _ (on why_shape _ (codes "--time") _ _ refl (on_plain why_shape _ place _ _ b refl refl refl (on_plain why_shape _ file _ _ f refl refl refl (on_plain why_shape _ work _ _ w refl refl refl (ends why_shape _))))) refl refl
of_work true Place.in_settled file work b f w =
    asks _ _ _ (on why_shape _ (codes "--settle") _ _ refl (on_plain why_shape _ file _ _ f refl refl refl (on_plain why_shape _ work _ _ w refl refl refl (ends why_shape _)))) refl refl
of_work true Place.in_each file work b f w =
    asks _ _ _ (on why_shape _ (codes "--settle") _ _ refl (on why_shape _ (codes "--every") _ _ refl (on_plain why_shape _ file _ _ f refl refl refl (on_plain why_shape _ work _ _ w refl refl refl (ends why_shape _))))) refl refl
of_work true (Place.in_position place) file work b f w =
    asks _ _ _ (on why_shape _ (codes "--settle") _ _ refl (on why_shape _ (codes "--at") _ _ refl (on_plain why_shape _ place _ _ b refl refl refl (on_plain why_shape _ file _ _ f refl refl refl (on_plain why_shape _ work _ _ w refl refl refl (ends why_shape _)))))) refl refl
of_work true (Place.in_tick place) file work b f w =
    asks _ _ _ (on why_shape _ (codes "--settle") _ _ refl (on why_shape _ (codes "--time") _ _ refl (on_plain why_shape _ place _ _ b refl refl refl (on_plain why_shape _ file _ _ f refl refl refl (on_plain why_shape _ work _ _ w refl refl refl (ends why_shape _)))))) refl refl

of_flush : (settle : Bool) (place : Place) (number file : Text) → PlaceBegins place → is_option_word number ≡ false → is_option_word file ≡ false
    → Asks (codes "--flush" ∷ number ∷ (option_words (codes "--settle") settle ++ (place_words place ++ (file ∷ []))))
    (asked_there settle place (Some file) None (Some number))
unfolding clap_on_literals why_shape
of_flush false Place.in_settled number file b n f =
    asks _ _ _ (on why_shape _ (codes "--flush") _ _ refl (on_plain why_shape _ number _ _ n refl refl refl (on_plain why_shape _ file _ _ f refl refl refl (ends why_shape _)))) refl refl
of_flush false Place.in_each number file b n f =
    asks _ _ _ (on why_shape _ (codes "--flush") _ _ refl (on_plain why_shape _ number _ _ n refl refl refl (on why_shape _ (codes "--every") _ _ refl (on_plain why_shape _ file _ _ f refl refl refl (ends why_shape _))))) refl refl
of_flush false (Place.in_position place) number file b n f =
    asks _ _ _ (on why_shape _ (codes "--flush") _ _ refl (on_plain why_shape _ number _ _ n refl refl refl (on why_shape _ (codes "--at") _ _ refl (on_plain why_shape _ place _ _ b refl refl refl (on_plain why_shape _ file _ _ f refl refl refl (ends why_shape _)))))) refl refl
of_flush false (Place.in_tick place) number file b n f =
    asks _ _ _ (on why_shape _ (codes "--flush") _ _ refl (on_plain why_shape _ number _ _ n refl refl refl (on why_shape _ (codes "--time") _ _ refl (on_plain why_shape _ place _ _ b refl refl refl (on_plain why_shape _ file _ _ f refl refl refl (ends why_shape _)))))) refl refl
of_flush true Place.in_settled number file b n f =
    asks _ _ _ (on why_shape _ (codes "--flush") _ _ refl (on_plain why_shape _ number _ _ n refl refl refl (on why_shape _ (codes "--settle") _ _ refl (on_plain why_shape _ file _ _ f refl refl refl (ends why_shape _))))) refl refl
of_flush true Place.in_each number file b n f =
    asks _ _ _ (on why_shape _ (codes "--flush") _ _ refl (on_plain why_shape _ number _ _ n refl refl refl (on why_shape _ (codes "--settle") _ _ refl (on why_shape _ (codes "--every") _ _ refl (on_plain why_shape _ file _ _ f refl refl refl (ends why_shape _)))))) refl refl
of_flush true (Place.in_position place) number file b n f =
    asks _ _ _ (on why_shape _ (codes "--flush") _ _ refl (on_plain why_shape _ number _ _ n refl refl refl (on why_shape _ (codes "--settle") _ _ refl (on why_shape _ (codes "--at") _ _ refl (on_plain why_shape _ place _ _ b refl refl refl (on_plain why_shape _ file _ _ f refl refl refl (ends why_shape _))))))) refl refl
of_flush true (Place.in_tick place) number file b n f =
    asks _ _ _ (on why_shape _ (codes "--flush") _ _ refl (on_plain why_shape _ number _ _ n refl refl refl (on why_shape _ (codes "--settle") _ _ refl (on why_shape _ (codes "--time") _ _ refl (on_plain why_shape _ place _ _ b refl refl refl (on_plain why_shape _ file _ _ f refl refl refl (ends why_shape _))))))) refl refl

-- The same with FILE first.

work_first : (place : Place) (file work : Text) → PlaceBegins place → is_option_word file ≡ false → is_option_word work ≡ false
    → Asks (file ∷ work ∷ place_words place) (asked_there false place (Some file) (Some work) None)
unfolding clap_on_literals why_shape
work_first Place.in_settled file work b f w =
    asks _ _ _ (on_plain why_shape _ file _ _ f refl refl refl (on_plain why_shape _ work _ _ w refl refl refl (ends why_shape _))) refl refl
work_first Place.in_each file work b f w =
    asks _ _ _ (on_plain why_shape _ file _ _ f refl refl refl (on_plain why_shape _ work _ _ w refl refl refl (on why_shape _ (codes "--every") _ _ refl (ends why_shape _)))) refl refl
work_first (Place.in_position place) file work b f w =
    asks _ _ _ (on_plain why_shape _ file _ _ f refl refl refl (on_plain why_shape _ work _ _ w refl refl refl (on why_shape _ (codes "--at") _ _ refl (on_plain why_shape _ place _ _ b refl refl refl (ends why_shape _))))) refl refl
work_first (Place.in_tick place) file work b f w =
    asks _ _ _ (on_plain why_shape _ file _ _ f refl refl refl (on_plain why_shape _ work _ _ w refl refl refl (on why_shape _ (codes "--time") _ _ refl (on_plain why_shape _ place _ _ b refl refl refl (ends why_shape _))))) refl refl

flush_first : (place : Place) (number file : Text) → PlaceBegins place → is_option_word number ≡ false → is_option_word file ≡ false
    → Asks (file ∷ codes "--flush" ∷ number ∷ place_words place) (asked_there false place (Some file) None (Some number))
unfolding clap_on_literals why_shape
flush_first Place.in_settled number file b n f =
    asks _ _ _ (on_plain why_shape _ file _ _ f refl refl refl (on why_shape _ (codes "--flush") _ _ refl (on_plain why_shape _ number _ _ n refl refl refl (ends why_shape _)))) refl refl
flush_first Place.in_each number file b n f =
    asks _ _ _ (on_plain why_shape _ file _ _ f refl refl refl (on why_shape _ (codes "--flush") _ _ refl (on_plain why_shape _ number _ _ n refl refl refl (on why_shape _ (codes "--every") _ _ refl (ends why_shape _))))) refl refl
flush_first (Place.in_position place) number file b n f =
    asks _ _ _ (on_plain why_shape _ file _ _ f refl refl refl (on why_shape _ (codes "--flush") _ _ refl (on_plain why_shape _ number _ _ n refl refl refl (on why_shape _ (codes "--at") _ _ refl (on_plain why_shape _ place _ _ b refl refl refl (ends why_shape _)))))) refl refl
flush_first (Place.in_tick place) number file b n f =
    asks _ _ _ (on_plain why_shape _ file _ _ f refl refl refl (on why_shape _ (codes "--flush") _ _ refl (on_plain why_shape _ number _ _ n refl refl refl (on why_shape _ (codes "--time") _ _ refl (on_plain why_shape _ place _ _ b refl refl refl (ends why_shape _)))))) refl refl

-- Questions.

as_read : {given : List Text} {found : Option (List Text)} → Asks given found → (words asked : List Text) (name : Text) → words ≡ name ∷ codes "why" ∷ given
    → found ≡ Some (codes "why" ∷ asked) → HasCapacity (codes "why" ∷ asked) → IsRead words (codes "why" ∷ asked)
as_read it words asked name are is fits = let met = it.takes name in rw are (met.0, met.1 ∙ is, fits)

abbrev place_of : Looks → Place
place_of AtSettled = Place.in_settled
place_of Every = Place.in_each
place_of (At k) = Place.in_position (decimal k)
place_of (Time t) = Place.in_tick (decimal t)

words_there : (looks : Looks) → look_words looks ≡ place_words (place_of looks)
words_there AtSettled = refl
words_there Every = refl
words_there (At k) = refl
words_there (Time t) = refl

place_begins : (looks : Looks) → HasShortNumber looks → PlaceBegins (place_of looks)
place_begins AtSettled short = tt
place_begins Every short = tt
place_begins (At k) short = short_plain k short
place_begins (Time t) short = short_plain t short

-- where a flush's word is that of a number
asked_of_flush : (settle : Bool) (looks : Looks) (flush : ℕ) (file : Text) → IsShortNumber flush → HasShortNumber looks
    → asked_there settle (place_of looks) (Some file) None (Some (decimal flush)) ≡ Some (codes "why" ∷ flush_arguments settle looks flush file)
asked_of_flush settle AtSettled flush file few short = rw (short_number flush few) refl
asked_of_flush settle Every flush file few short = rw (short_number flush few) refl
asked_of_flush settle (At k) flush file few short = rw (short_number flush few, short_number k short) refl
asked_of_flush settle (Time t) flush file few short = rw (short_number flush few, short_number t short) refl

asked_of_work : (settle : Bool) (looks : Looks) (file work : Text) → HasShortNumber looks
    → asked_there settle (place_of looks) (Some file) (Some work) None ≡ Some (codes "why" ∷ work_arguments settle looks file work)
asked_of_work settle AtSettled file work short = refl
asked_of_work settle Every file work short = refl
asked_of_work settle (At k) file work short = rw (short_number k short) refl
asked_of_work settle (Time t) file work short = rw (short_number t short) refl

-- no play is asked for
no_capacity : (words : List Text) → HasCapacity (codes "why" ∷ words)
no_capacity [] = tt
no_capacity (a ∷ []) = tt
no_capacity (a ∷ b ∷ []) = tt
no_capacity (a ∷ b ∷ c ∷ []) = tt
no_capacity (a ∷ b ∷ c ∷ d ∷ more) = tt

pub work_read : (words : List Text) (name file work : Text) (settle : Bool) (looks : Looks) → words ≡ name ∷ codes "why" ∷ work_arguments settle looks file work
    → IsFileWord file → IsPlainWord work → HasShortNumber looks → IsRead words (codes "why" ∷ work_arguments settle looks file work)
work_read words name file work settle looks are plain plain_work short =
    let behind : List Text → List Text = λ there. name ∷ codes "why" ∷ (option_words (codes "--settle") settle ++ (there ++ (file ∷ work ∷ []))) in
    as_read (of_work settle (place_of looks) file work (place_begins looks short) (file_begins file plain) (plain_begins work plain_work)) words (work_arguments settle looks file work) name
    (are ∙ ap behind (words_there looks))
    (asked_of_work settle looks file work short)
    (no_capacity (work_arguments settle looks file work))

pub flush_read : (words : List Text) (name file : Text) (flush : ℕ) (settle : Bool) (looks : Looks) → words ≡ name ∷ codes "why" ∷ flush_arguments settle looks flush file
    → IsFileWord file → IsShortNumber flush → HasShortNumber looks → IsRead words (codes "why" ∷ flush_arguments settle looks flush file)
flush_read words name file flush settle looks are plain few short =
    let behind : List Text → List Text = λ there.
    name ∷ codes "why" ∷ codes "--flush" ∷ decimal flush ∷ (option_words (codes "--settle") settle ++ (there ++ (file ∷ []))) in
    as_read (of_flush settle (place_of looks) (decimal flush) file (place_begins looks short) (short_plain flush few) (file_begins file plain)) words (flush_arguments settle looks flush file) name
    (are ∙ ap behind (words_there looks))
    (asked_of_flush settle looks flush file few short)
    (no_capacity (flush_arguments settle looks flush file))

pub work_first_read : (words : List Text) (name file work : Text) (looks : Looks) → words ≡ name ∷ codes "why" ∷ file ∷ work ∷ look_words looks
    → IsFileWord file → IsPlainWord work → HasShortNumber looks → IsRead words (codes "why" ∷ work_arguments false looks file work)
work_first_read words name file work looks are plain plain_work short =
    as_read (work_first (place_of looks) file work (place_begins looks short) (file_begins file plain) (plain_begins work plain_work)) words (work_arguments false looks file work) name
    (are ∙ ap (λ (there : List Text). name ∷ codes "why" ∷ file ∷ work ∷ there) (words_there looks))
    (asked_of_work false looks file work short)
    (no_capacity (work_arguments false looks file work))

pub flush_first_read : (words : List Text) (name file : Text) (flush : ℕ) (looks : Looks)
    → words ≡ name ∷ codes "why" ∷ file ∷ codes "--flush" ∷ decimal flush ∷ look_words looks → IsFileWord file → IsShortNumber flush → HasShortNumber looks
    → IsRead words (codes "why" ∷ flush_arguments false looks flush file)
flush_first_read words name file flush looks are plain few short =
    as_read (flush_first (place_of looks) (decimal flush) file (place_begins looks short) (short_plain flush few) (file_begins file plain)) words (flush_arguments false looks flush file) name
    (are ∙ ap (λ (there : List Text). name ∷ codes "why" ∷ file ∷ codes "--flush" ∷ decimal flush ∷ there) (words_there looks))
    (asked_of_flush false looks flush file few short)
    (no_capacity (flush_arguments false looks flush file))

pub asked_met : (rows : List Row) (asked : List Text) → file_to_ask rows ≡ Some asked
    → (every settle : Bool) × (flag_of (codes "every") rows ≡ Some every) × (flag_of (codes "settle") rows ≡ Some settle) × (asked_why every settle rows ≡ Some asked)
asked_met rows asked = by (flag_of (codes "settle") rows) (flag_of (codes "every") rows)
  where
    by : (goes_on flag : Option Bool) → option_and_then (λ settle. option_and_then (λ every. asked_why every settle rows) flag) goes_on ≡ Some asked
        → (every settle : Bool) × (flag ≡ Some every) × (goes_on ≡ Some settle) × (asked_why every settle rows ≡ Some asked)
    by (Some settle) (Some every) e = (every, settle, refl, refl, e)
    by (Some settle) None e = absurd cc
    by None flag e = absurd cc

-- what is read of the values, where these are the positions and the question that they tell
pub why_met : (every settle : Bool) (at time file work flush : Option Text) (inquiry : Inquiry) → inquiry.settle ≡ settle → looks_in every at time ≡ Some inquiry.looks
    → ((name : Text) → question_words work flush settle inquiry.looks name ≡ Some (question_arguments inquiry.question settle inquiry.looks name))
    → option_map (task_words (Why inquiry)) file ≡ asked_from every settle at time file work flush
why_met every settle at time (Some name) work flush inquiry goes_on looks_is is =
    ap (λ (b : Bool). Some (codes "why" ∷ question_arguments inquiry.question b inquiry.looks name)) goes_on
    ∙ sym (ap (λ (o : Option Looks). option_and_then (λ looks. option_map (λ arguments. codes "why" ∷ arguments) (question_words work flush settle looks name)) o) looks_is
    ∙ ap (λ (o : Option (List Text)). option_map (λ arguments. codes "why" ∷ arguments) o) (is name))
why_met every settle at time None work flush inquiry goes_on looks_is is = refl

-- where no words ask it, nothing is read
pub no_question_met : (every settle : Bool) (at time file work flush : Option Text) (looks : Looks) → looks_in every at time ≡ Some looks
    → ((name : Text) → question_words work flush settle looks name ≡ None) → asked_from every settle at time file work flush ≡ None
no_question_met every settle at time (Some name) work flush looks looks_is none =
    ap (λ (o : Option Looks). option_and_then (λ looks. option_map (λ arguments. codes "why" ∷ arguments) (question_words work flush settle looks name)) o) looks_is
    ∙ ap (λ (o : Option (List Text)). option_map (λ arguments. codes "why" ∷ arguments) o) (none name)
no_question_met every settle at time None work flush looks looks_is none = refl

pub nothing_of : {A B : Type 0} (f : A → B) (o : Option A) → option_map f o ≡ None → o ≡ None
nothing_of f (Some x) e = absurd cc
nothing_of f None e = refl

-- Words that are no question.

misused : (words : List Text) (end : Walk) (every : Bool) (found : Option (List Text)) → found ≡ None → Goes why_shape (walk_from nothing_held) words end
    → end_passes why_shape end ≡ true → flag_of (codes "every") (finished why_shape.rules end.held) ≡ Some every
    → flag_of (codes "settle") (finished why_shape.rules end.held) ≡ Some false → asked_why every false (finished why_shape.rules end.held) ≡ found
    → (name : Text) → IsMisuse (name ∷ codes "why" ∷ words)
misused words end every found none goes passes flag settle finds name =
    let met = taken has_why name words end goes passes in
    (met.0, (codes "why", finished why_shape.rules end.held), met.1, inl (refl, (every, false, flag, settle, finds ∙ none)))

neither : (file : Text) → is_option_word file ≡ false → (name : Text) → IsMisuse (name ∷ codes "why" ∷ file ∷ [])
unfolding clap_on_literals why_shape
neither file f = misused _ _ false _ refl (on_plain why_shape _ file _ _ f refl refl refl (ends why_shape _)) refl refl refl refl

both : (number file work : Text) → is_option_word number ≡ false → is_option_word file ≡ false → is_option_word work ≡ false
    → (name : Text) → IsMisuse (name ∷ codes "why" ∷ codes "--flush" ∷ number ∷ file ∷ work ∷ [])
unfolding clap_on_literals why_shape
both number file work n f w =
    misused _ _ false _ refl
    (on why_shape _ (codes "--flush") _ _ refl
    (on_plain why_shape _ number _ _ n refl refl refl
    (on_plain why_shape _ file _ _ f refl refl refl (on_plain why_shape _ work _ _ w refl refl refl (ends why_shape _)))))
    refl refl refl refl

asks_no_flush : (number file : Text) → plain_number number ≡ None → asked_from false false None None (Some file) None (Some number) ≡ None
asks_no_flush number file none = rw none refl

asks_no_place : (number file work : Text) → plain_number number ≡ None → asked_from false false (Some number) None (Some file) (Some work) None ≡ None
asks_no_place number file work none = rw none refl

no_flush : (number file : Text) → is_option_word number ≡ false → plain_number number ≡ None → is_option_word file ≡ false
    → (name : Text) → IsMisuse (name ∷ codes "why" ∷ codes "--flush" ∷ number ∷ file ∷ [])
unfolding clap_on_literals why_shape
no_flush number file n none f =
    misused _ _ false (asked_from false false None None (Some file) None (Some number)) (asks_no_flush number file none)
    (on why_shape _ (codes "--flush") _ _ refl
    (on_plain why_shape _ number _ _ n refl refl refl (on_plain why_shape _ file _ _ f refl refl refl (ends why_shape _))))
    refl refl refl refl

at_both : (number file work : Text) → is_option_word number ≡ false → is_option_word file ≡ false → is_option_word work ≡ false
    → (name : Text) → IsMisuse (name ∷ codes "why" ∷ codes "--every" ∷ codes "--at" ∷ number ∷ file ∷ work ∷ [])
unfolding clap_on_literals why_shape
at_both number file work n f w =
    misused _ _ true _ refl
    (on why_shape _ (codes "--every") _ _ refl
    (on why_shape _ (codes "--at") _ _ refl
    (on_plain why_shape _ number _ _ n refl refl refl
    (on_plain why_shape _ file _ _ f refl refl refl (on_plain why_shape _ work _ _ w refl refl refl (ends why_shape _))))))
    refl refl refl refl

at_two : (number place file work : Text) → is_option_word number ≡ false → is_option_word place ≡ false → is_option_word file ≡ false → is_option_word work ≡ false
    → (name : Text) → IsMisuse (name ∷ codes "why" ∷ codes "--at" ∷ number ∷ codes "--time" ∷ place ∷ file ∷ work ∷ [])
unfolding clap_on_literals why_shape
at_two number place file work n b f w =
    misused _ _ false _ refl
    (on why_shape _ (codes "--at") _ _ refl
    (on_plain why_shape _ number _ _ n refl refl refl
    (on why_shape _ (codes "--time") _ _ refl
    (on_plain why_shape _ place _ _ b refl refl refl
    (on_plain why_shape _ file _ _ f refl refl refl (on_plain why_shape _ work _ _ w refl refl refl (ends why_shape _)))))))
    refl refl refl refl

no_place : (number file work : Text) → is_option_word number ≡ false → plain_number number ≡ None → is_option_word file ≡ false → is_option_word work ≡ false
    → (name : Text) → IsMisuse (name ∷ codes "why" ∷ codes "--at" ∷ number ∷ file ∷ work ∷ [])
unfolding clap_on_literals why_shape
no_place number file work n none f w =
    misused _ _ false (asked_from false false (Some number) None (Some file) (Some work) None) (asks_no_place number file work none)
    (on why_shape _ (codes "--at") _ _ refl
    (on_plain why_shape _ number _ _ n refl refl refl
    (on_plain why_shape _ file _ _ f refl refl refl (on_plain why_shape _ work _ _ w refl refl refl (ends why_shape _)))))
    refl refl refl refl

pub neither_misused : (words : List Text) (name file : Text) → words ≡ name ∷ codes "why" ∷ file ∷ [] → IsPlainWord file → IsMisuse words
neither_misused words name file are plain = rw are (neither file (plain_begins file plain) name)

pub both_misused : (words : List Text) (name number file work : Text) → words ≡ name ∷ codes "why" ∷ codes "--flush" ∷ number ∷ file ∷ work ∷ []
    → IsValueWord number → IsPlainWord file → IsPlainWord work → IsMisuse words
both_misused words name number file work are value plain plain_work =
    rw are (both number file work (value_begins number value) (plain_begins file plain) (plain_begins work plain_work) name)

pub no_flush_misused : (words : List Text) (name number file : Text) → words ≡ name ∷ codes "why" ∷ codes "--flush" ∷ number ∷ file ∷ []
    → IsValueWord number → plain_number number ≡ None → IsPlainWord file → IsMisuse words
no_flush_misused words name number file are value none plain = rw are (no_flush number file (value_begins number value) none (plain_begins file plain) name)

pub at_both_misused : (words : List Text) (name number file work : Text) → words ≡ name ∷ codes "why" ∷ codes "--every" ∷ codes "--at" ∷ number ∷ file ∷ work ∷ []
    → IsValueWord number → IsPlainWord file → IsPlainWord work → IsMisuse words
at_both_misused words name number file work are value plain plain_work =
    rw are (at_both number file work (value_begins number value) (plain_begins file plain) (plain_begins work plain_work) name)

pub no_place_misused : (words : List Text) (name number file work : Text) → words ≡ name ∷ codes "why" ∷ codes "--at" ∷ number ∷ file ∷ work ∷ []
    → IsValueWord number → plain_number number ≡ None → IsPlainWord file → IsPlainWord work → IsMisuse words
no_place_misused words name number file work are value none plain plain_work =
    rw are (no_place number file work (value_begins number value) none (plain_begins file plain) (plain_begins work plain_work) name)

pub at_two_misused : (words : List Text) (name number place file work : Text)
    → words ≡ name ∷ codes "why" ∷ codes "--at" ∷ number ∷ codes "--time" ∷ place ∷ file ∷ work ∷ [] → IsValueWord number → IsValueWord place → IsPlainWord file
    → IsPlainWord work → IsMisuse words
at_two_misused words name number place file work are value other plain plain_work =
    rw are (at_two number place file work (value_begins number value) (value_begins place other) (plain_begins file plain) (plain_begins work plain_work) name)
