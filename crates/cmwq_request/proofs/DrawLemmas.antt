-- What clap makes of the words of `draw`.
use Rattle.std.proofs.Common.{inl, inr, arith, ap, ap₂, sym, subst, option_map, ◌^◌, ◌&&◌, ℕ, ◌<◌, nat_lt, bytes_eq, if◌then◌else◌, ◌≡◌, ◌∙◌, ◌==◌, Bool, List, [], ◌∷◌, ◌++◌, true, false, Option, None, Some, codes, refl, Ok}
use Rattle.std.proofs.lemmas.Bool.{and_parts}
use Rattle.std.proofs.lemmas.Bool.Decides.{nat_tests}
use Rattle.std.proofs.lemmas.Fmt.{decimal_nonempty, digits_decimal, digits_value-decimal}
use Rattle.std.proofs.lemmas.Str.Parse.{parse_gives}
use Rattle.std.specs.Cmp.Lexicographic.{bytes_decides}
use Rattle.std.specs.Prelude.{Result}
use Rattle.std.specs.Fmt.{decimal}
use Rattle.std.specs.Str.{all_ascii_digits}
use Rattle.std.specs.Str.Parse.{ParsesUnsigned, digits_value}
use Rattle.clap.specs.Words.{Text, subcommand_of, takes}
use Rattle.clap.specs.Walk.{Walk, finished, nothing_held, walk_from}
use Rattle.clap.proofs.OnLiterals.{clap_on_literals}
use Rattle.cmwq_request.proofs.RequestLemmas.{no_hyphen, numerals}
use Rattle.cmwq_request.proofs.WalkingLemmas.{Goes, is_option_word, draw_shape, end_passes, ends, has_draw, on, on_plain, taken}
use Rattle.cmwq_command_line.specs.CommandLine.{command_line}
use Rattle.cmwq_request.specs.Request.{DrawingWords, HasCapacity, IsFileWord, IsMisuse, IsPlainWord, IsRead, IsSpan, IsTimeIfAny, asked_of, draw_arguments, drawing_from, folded, is_ahead, is_letter, is_picture_name, is_picture_name_if_any, is_scale, is_styled, number_if_any, number_in, number_words, of_works, option_words, span_from, spanned, styled, text_words, whole_span, words_to_draw}
use Rattle.cmwq_drawing.specs.declared.drawing.Span.{Span}

-- Numbers.

pub spelled : (n : ℕ) → n < 2 ^ 64 → number_in (decimal n) ≡ Some n
unfolding number_in
spelled n small =
    let value : digits_value 10 (decimal n) ≡ n = digits_value-decimal numerals n small in
    let same : bytes_eq (decimal n) (decimal (digits_value 10 (decimal n))) ≡ true = (bytes_decides (decimal n) _).1 (ap decimal (sym value)) in
    let fits : nat_lt (digits_value 10 (decimal n)) (2 ^ 64) ≡ true = grind (arith, nat_tests, value, small) in
    rw (same, fits) (ap Some value)

pub spelled_by : (word : Text) (n : ℕ) → number_in word ≡ Some n → (word ≡ decimal n) × (n < 2 ^ 64)
unfolding number_in
spelled_by word n = by (bytes_eq word (decimal (digits_value 10 word))) (nat_lt (digits_value 10 word) (2 ^ 64)) refl refl
  where
    by : (same fits : Bool) → bytes_eq word (decimal (digits_value 10 word)) ≡ same → nat_lt (digits_value 10 word) (2 ^ 64) ≡ fits
        → (if same && fits then Some (digits_value 10 word) else None) ≡ Some n → (word ≡ decimal n) × (n < 2 ^ 64)
    by true true same fits e =
        let v : digits_value 10 word ≡ n = cc in
        ((bytes_decides word _).0 same ∙ ap decimal v, grind (arith, nat_tests, fits, v))
    by true false same fits e = absurd cc
    by false fits same test e = absurd cc

pub time_read : {E : Type 0} (r : Result ℕ E) (word : Text) (n : ℕ) → ParsesUnsigned 64 10 word r → number_in word ≡ Some n → r ≡ Ok n
time_read {E} r word n parsed is =
    let (spelt, small) = spelled_by word n is in
    let value : digits_value 10 (decimal n) ≡ n = digits_value-decimal numerals n small in
    let read : r ≡ Ok (digits_value 10 (decimal n)) =
    parse_gives numerals 64 (decimal n) r (subst (λ (w : Text). ParsesUnsigned {E = E} 64 10 w r) spelt parsed) (digits_decimal numerals n small) (decimal_nonempty n small) (grind (arith, value, small)) in
    read ∙ ap Ok value

-- Words that begin with no hyphen.

-- a digit is no hyphen
pub digit_first : (head : ℕ) (tail : Text) → all_ascii_digits (head ∷ tail) ≡ true → (head == 45) ≡ false
digit_first head tail e = grind (arith, nat_tests, e)

pub decimal_begins : (n : ℕ) → n < 2 ^ 64 → is_option_word (decimal n) ≡ false
decimal_begins n small = by (decimal n) (digits_decimal numerals n small)
  where
    by : (word : Text) → all_ascii_digits word ≡ true → is_option_word word ≡ false
    by [] digits = refl
    by (head ∷ []) digits = refl
    by (head ∷ second ∷ tail) digits = digit_first head (second ∷ tail) digits

pub plain_begins : (word : Text) → IsPlainWord word → is_option_word word ≡ false
plain_begins word (first, rest, is, plain) = ap is_option_word is ∙ by rest
  where
    by : (rest : Text) → is_option_word (first ∷ rest) ≡ false
    by [] = refl
    by (second ∷ more) = no_hyphen first plain

pub file_begins : (word : Text) → IsFileWord word → is_option_word word ≡ false
file_begins word (inl plain) = plain_begins word plain
file_begins word (inr is) = ap is_option_word is

-- Words.

-- clap takes the words, and these are read of them, if they are there
abbrev pub Takes : List Text → Option (List Text) → Type 0
Takes words asked = (takes command_line words ≡ true) × (asked_of (subcommand_of command_line words) ≡ asked)

-- clap takes these behind the command's name, whatever the program's
record IsDrawn (words : List Text) (asked : Option (List Text)) : Type 0 where
  takes : (name : Text) → Takes (name ∷ codes "draw" ∷ words) asked

as_drawn : (words : List Text) (asked : Option (List Text)) (end : Walk) → Goes draw_shape (walk_from nothing_held) words end → end_passes draw_shape end ≡ true
    → asked_of (Some (codes "draw", finished draw_shape.rules end.held)) ≡ asked → IsDrawn words asked
as_drawn words asked end goes passes is =
    record { takes = λ name. let met = taken has_draw name words end goes passes in (met.0, ap asked_of met.1 ∙ is) }

-- an option's text, if it has one, doesn't begin with a hyphen
abbrev BeginsPlain : Option Text → Type 0
BeginsPlain (Some word) = is_option_word word ≡ false
BeginsPlain None = Unit {0}

-- the words behind the command's name
abbrev words_behind : Bool → Bool → List Text → List Text → Text → List Text
words_behind settle svg from to file = option_words (codes "--settle") settle ++ (option_words (codes "--svg") svg ++ (from ++ (to ++ (file ∷ []))))

-- what is read of them
abbrev read_of : (settle svg fold : Bool) → (from to works scale id : Option Text) → Text → Option (List Text)
read_of settle svg fold from to works scale id file =
    words_to_draw
    (drawing_from (Some settle) (Some svg) (Some fold) (span_from (number_if_any from) (number_if_any to)) works (number_if_any scale) id)
    (Some file)

drawn : (settle svg : Bool) (from to : Option Text) (file : Text) → BeginsPlain from → BeginsPlain to → is_option_word file ≡ false
    → IsDrawn (words_behind settle svg (text_words (codes "--from") from) (text_words (codes "--to") to) file) (read_of settle svg false from to None None None file)
unfolding clap_on_literals draw_shape
drawn false false None None file no_from no_to p =
    as_drawn _ _ _ (on_plain draw_shape _ file _ _ p refl refl refl (ends draw_shape _)) refl refl
drawn false true None None file no_from no_to p =
    as_drawn _ _ _ (on draw_shape _ (codes "--svg") _ _ refl (on_plain draw_shape _ file _ _ p refl refl refl (ends draw_shape _))) refl refl
drawn true false None None file no_from no_to p =
    as_drawn _ _ _ (on draw_shape _ (codes "--settle") _ _ refl (on_plain draw_shape _ file _ _ p refl refl refl (ends draw_shape _))) refl refl
drawn true true None None file no_from no_to p =
    as_drawn _ _ _ (on draw_shape _ (codes "--settle") _ _ refl (on draw_shape _ (codes "--svg") _ _ refl (on_plain draw_shape _ file _ _ p refl refl refl (ends draw_shape _)))) refl refl
drawn false false None (Some last) file no_from l p =
    as_drawn _ _ _ (on draw_shape _ (codes "--to") _ _ refl (on_plain draw_shape _ last _ _ l refl refl refl (on_plain draw_shape _ file _ _ p refl refl refl (ends draw_shape _)))) refl refl
drawn false true None (Some last) file no_from l p =
    as_drawn _ _ _ (on draw_shape _ (codes "--svg") _ _ refl (on draw_shape _ (codes "--to") _ _ refl (on_plain draw_shape _ last _ _ l refl refl refl (on_plain draw_shape _ file _ _ p refl refl refl (ends draw_shape _))))) refl refl
drawn true false None (Some last) file no_from l p =
    as_drawn _ _ _ (on draw_shape _ (codes "--settle") _ _ refl (on draw_shape _ (codes "--to") _ _ refl (on_plain draw_shape _ last _ _ l refl refl refl (on_plain draw_shape _ file _ _ p refl refl refl (ends draw_shape _))))) refl refl
drawn true true None (Some last) file no_from l p =
    as_drawn _ _ _ (on draw_shape _ (codes "--settle") _ _ refl (on draw_shape _ (codes "--svg") _ _ refl (on draw_shape _ (codes "--to") _ _ refl (on_plain draw_shape _ last _ _ l refl refl refl (on_plain draw_shape _ file _ _ p refl refl refl (ends draw_shape _)))))) refl refl
drawn false false (Some first) None file f no_to p =
    as_drawn _ _ _ (on draw_shape _ (codes "--from") _ _ refl (on_plain draw_shape _ first _ _ f refl refl refl (on_plain draw_shape _ file _ _ p refl refl refl (ends draw_shape _)))) refl refl
drawn false true (Some first) None file f no_to p =
    as_drawn _ _ _ (on draw_shape _ (codes "--svg") _ _ refl (on draw_shape _ (codes "--from") _ _ refl (on_plain draw_shape _ first _ _ f refl refl refl (on_plain draw_shape _ file _ _ p refl refl refl (ends draw_shape _))))) refl refl
drawn true false (Some first) None file f no_to p =
    as_drawn _ _ _ (on draw_shape _ (codes "--settle") _ _ refl (on draw_shape _ (codes "--from") _ _ refl (on_plain draw_shape _ first _ _ f refl refl refl (on_plain draw_shape _ file _ _ p refl refl refl (ends draw_shape _))))) refl refl
drawn true true (Some first) None file f no_to p =
    as_drawn _ _ _ (on draw_shape _ (codes "--settle") _ _ refl (on draw_shape _ (codes "--svg") _ _ refl (on draw_shape _ (codes "--from") _ _ refl (on_plain draw_shape _ first _ _ f refl refl refl (on_plain draw_shape _ file _ _ p refl refl refl (ends draw_shape _)))))) refl refl
drawn false false (Some first) (Some last) file f l p =
    as_drawn _ _ _ (on draw_shape _ (codes "--from") _ _ refl (on_plain draw_shape _ first _ _ f refl refl refl (on draw_shape _ (codes "--to") _ _ refl (on_plain draw_shape _ last _ _ l refl refl refl (on_plain draw_shape _ file _ _ p refl refl refl (ends draw_shape _)))))) refl refl
drawn false true (Some first) (Some last) file f l p =
    as_drawn _ _ _ (on draw_shape _ (codes "--svg") _ _ refl (on draw_shape _ (codes "--from") _ _ refl (on_plain draw_shape _ first _ _ f refl refl refl (on draw_shape _ (codes "--to") _ _ refl (on_plain draw_shape _ last _ _ l refl refl refl (on_plain draw_shape _ file _ _ p refl refl refl (ends draw_shape _))))))) refl refl
drawn true false (Some first) (Some last) file f l p =
    as_drawn _ _ _ (on draw_shape _ (codes "--settle") _ _ refl (on draw_shape _ (codes "--from") _ _ refl (on_plain draw_shape _ first _ _ f refl refl refl (on draw_shape _ (codes "--to") _ _ refl (on_plain draw_shape _ last _ _ l refl refl refl (on_plain draw_shape _ file _ _ p refl refl refl (ends draw_shape _))))))) refl refl
drawn true true (Some first) (Some last) file f l p =
    as_drawn _ _ _ (on draw_shape _ (codes "--settle") _ _ refl (on draw_shape _ (codes "--svg") _ _ refl (on draw_shape _ (codes "--from") _ _ refl (on_plain draw_shape _ first _ _ f refl refl refl (on draw_shape _ (codes "--to") _ _ refl (on_plain draw_shape _ last _ _ l refl refl refl (on_plain draw_shape _ file _ _ p refl refl refl (ends draw_shape _)))))))) refl refl

drawn_folded : (settle svg : Bool) (file : Text) → is_option_word file ≡ false
    → IsDrawn (draw_arguments (folded settle svg) file) (read_of settle svg true None None None None None file)
unfolding clap_on_literals draw_shape
drawn_folded false false file p =
    as_drawn _ _ _ (on draw_shape _ (codes "--fold") _ _ refl (on_plain draw_shape _ file _ _ p refl refl refl (ends draw_shape _))) refl refl
drawn_folded false true file p =
    as_drawn _ _ _ (on draw_shape _ (codes "--svg") _ _ refl (on draw_shape _ (codes "--fold") _ _ refl (on_plain draw_shape _ file _ _ p refl refl refl (ends draw_shape _)))) refl refl
drawn_folded true false file p =
    as_drawn _ _ _ (on draw_shape _ (codes "--settle") _ _ refl (on draw_shape _ (codes "--fold") _ _ refl (on_plain draw_shape _ file _ _ p refl refl refl (ends draw_shape _)))) refl refl
drawn_folded true true file p =
    as_drawn _ _ _ (on draw_shape _ (codes "--settle") _ _ refl (on draw_shape _ (codes "--svg") _ _ refl (on draw_shape _ (codes "--fold") _ _ refl (on_plain draw_shape _ file _ _ p refl refl refl (ends draw_shape _))))) refl refl

drawn_works : (names file : Text) → is_option_word names ≡ false → is_option_word file ≡ false
    → IsDrawn (draw_arguments (of_works names) file) (read_of false false false None None (Some names) None None file)
unfolding clap_on_literals draw_shape
drawn_works names file n p =
    as_drawn _ _ _ (on draw_shape _ (codes "--works") _ _ refl (on_plain draw_shape _ names _ _ n refl refl refl (on_plain draw_shape _ file _ _ p refl refl refl (ends draw_shape _)))) refl refl

drawn_styled : (scale id : Option Text) (file : Text) → BeginsPlain scale → BeginsPlain id → is_option_word file ≡ false
    → IsDrawn (codes "--svg" ∷ (text_words (codes "--scale") scale ++ (text_words (codes "--id") id ++ (file ∷ [])))) (read_of false true false None None None scale id file)
unfolding clap_on_literals draw_shape
drawn_styled None None file no_scale no_id p =
    as_drawn _ _ _ (on draw_shape _ (codes "--svg") _ _ refl (on_plain draw_shape _ file _ _ p refl refl refl (ends draw_shape _))) refl refl
drawn_styled None (Some name) file no_scale i p =
    as_drawn _ _ _ (on draw_shape _ (codes "--svg") _ _ refl (on draw_shape _ (codes "--id") _ _ refl (on_plain draw_shape _ name _ _ i refl refl refl (on_plain draw_shape _ file _ _ p refl refl refl (ends draw_shape _))))) refl refl
drawn_styled (Some width) None file s no_id p =
    as_drawn _ _ _ (on draw_shape _ (codes "--svg") _ _ refl (on draw_shape _ (codes "--scale") _ _ refl (on_plain draw_shape _ width _ _ s refl refl refl (on_plain draw_shape _ file _ _ p refl refl refl (ends draw_shape _))))) refl refl
drawn_styled (Some width) (Some name) file s i p =
    as_drawn _ _ _ (on draw_shape _ (codes "--svg") _ _ refl (on draw_shape _ (codes "--scale") _ _ refl (on_plain draw_shape _ width _ _ s refl refl refl (on draw_shape _ (codes "--id") _ _ refl (on_plain draw_shape _ name _ _ i refl refl refl (on_plain draw_shape _ file _ _ p refl refl refl (ends draw_shape _))))))) refl refl

-- the time's word, if there is one, and what is read of it
abbrev word_if_any : Option ℕ → Option Text
word_if_any (Some time) = Some (decimal time)
word_if_any None = None

number_of_time : (time : Option ℕ) → IsTimeIfAny time → number_if_any (word_if_any time) ≡ Some time
number_of_time (Some time) small = ap (option_map Some) (spelled time small)
number_of_time None small = refl

time_begins : (time : Option ℕ) → IsTimeIfAny time → BeginsPlain (word_if_any time)
time_begins (Some time) small = decimal_begins time small
time_begins None small = tt

words_of_time : (word : Text) (time : Option ℕ) → number_words word time ≡ text_words word (word_if_any time)
words_of_time word (Some time) = refl
words_of_time word None = refl

-- no play is asked for
no_capacity : (words : List Text) → HasCapacity (codes "draw" ∷ words)
no_capacity [] = tt
no_capacity (a ∷ []) = tt
no_capacity (a ∷ b ∷ []) = tt
no_capacity (a ∷ b ∷ c ∷ []) = tt
no_capacity (a ∷ b ∷ c ∷ d ∷ more) = tt

-- a picture without a scale and a name, text or SVG
plainly_styled : (svg : Bool) → is_styled svg None None ≡ true
plainly_styled true = refl
plainly_styled false = refl

-- the words of a picture that is one
words_drawn : (settle svg fold : Bool) (span : Span) (works : Option Text) (scale : Option ℕ) (id : Option Text) (file : Text) → is_ahead span.from span.to ≡ true
    → is_styled svg scale id ≡ true
    → words_to_draw (drawing_from (Some settle) (Some svg) (Some fold) (span_from (Some span.from) (Some span.to)) works (Some scale) id) (Some file)
    ≡ Some (codes "draw" ∷ draw_arguments (record { settle = settle; svg = svg; fold = fold; span = span; works = works; scale = scale; id = id }) file)
words_drawn settle svg fold span works scale id file ahead is_styled = rw ahead (rw is_styled refl)

as_read : {given : List Text} {found : Option (List Text)} → IsDrawn given found → (words asked : List Text) (name : Text) → words ≡ name ∷ codes "draw" ∷ given
    → found ≡ Some (codes "draw" ∷ asked) → IsRead words (codes "draw" ∷ asked)
as_read it words asked name are is = let met = it.takes name in rw are (met.0, met.1 ∙ is, no_capacity asked)

pub draw_read : (words : List Text) (name file : Text) (settle svg : Bool) (span : Span) → words ≡ name ∷ codes "draw" ∷ draw_arguments (spanned settle svg span) file
    → IsFileWord file → IsSpan span → IsRead words (codes "draw" ∷ draw_arguments (spanned settle svg span) file)
draw_read words name file settle svg span are plain (from_small, to_small, ahead) =
    let from = span.from in
    let to = span.to in
    let spelt : draw_arguments (spanned settle svg span) file ≡ words_behind settle svg (text_words (codes "--from") (word_if_any from)) (text_words (codes "--to") (word_if_any to)) file =
    ap₂ (λ (a b : List Text). words_behind settle svg a b file) (words_of_time (codes "--from") from) (words_of_time (codes "--to") to) in
    let it = drawn settle svg (word_if_any from) (word_if_any to) file (time_begins from from_small) (time_begins to to_small) (file_begins file plain) in
    let all : words ≡ name ∷ codes "draw" ∷ words_behind settle svg (text_words (codes "--from") (word_if_any from)) (text_words (codes "--to") (word_if_any to)) file =
    are ∙ ap (λ (behind : List Text). name ∷ codes "draw" ∷ behind) spelt in
    as_read it words _ name all
    (ap₂ (λ (a b : Option (Option ℕ)). words_to_draw (drawing_from (Some settle) (Some svg) (Some false) (span_from a b) None (Some None) None) (Some file))
    (number_of_time from from_small)
    (number_of_time to to_small)
    ∙ words_drawn settle svg false span None None None file ahead (plainly_styled svg))

pub draw_folded_read : (words : List Text) (name file : Text) (settle svg : Bool) → words ≡ name ∷ codes "draw" ∷ draw_arguments (folded settle svg) file
    → IsFileWord file → IsRead words (codes "draw" ∷ draw_arguments (folded settle svg) file)
draw_folded_read words name file settle svg are plain =
    as_read (drawn_folded settle svg file (file_begins file plain)) words _ name are
    (words_drawn settle svg true whole_span None None None file refl (plainly_styled svg))

pub draw_works_read : (words : List Text) (name names file : Text) → words ≡ name ∷ codes "draw" ∷ draw_arguments (of_works names) file
    → IsPlainWord names → IsFileWord file → IsRead words (codes "draw" ∷ draw_arguments (of_works names) file)
draw_works_read words name names file are plain_names plain =
    as_read (drawn_works names file (plain_begins names plain_names) (file_begins file plain)) words _ name are refl

-- what a picture's name begins with is no hyphen
name_begins : (name : Text) → is_picture_name name ≡ true → is_option_word name ≡ false
unfolding is_picture_name
name_begins [] is = refl
name_begins (first ∷ []) is = refl
name_begins (first ∷ second ∷ rest) is =
    let letter : is_letter first ≡ true = (and_parts (is_letter first) _ is).0 in
    grind (arith, nat_tests, letter)

id_begins : (id : Option Text) → is_picture_name_if_any id ≡ true → BeginsPlain id
id_begins (Some name) is = name_begins name is
id_begins None is = tt

scale_small : (scale : Option ℕ) → is_scale scale ≡ true → IsTimeIfAny scale
scale_small (Some n) is = grind (arith, nat_tests, is)
scale_small None is = tt

pub draw_styled_read : (words : List Text) (name file : Text) (scale : Option ℕ) (id : Option Text)
    → words ≡ name ∷ codes "draw" ∷ draw_arguments (styled scale id) file → is_styled true scale id ≡ true → IsFileWord file
    → IsRead words (codes "draw" ∷ draw_arguments (styled scale id) file)
draw_styled_read words name file scale id are is plain =
    let (is_width, is_name) = and_parts (is_scale scale) (is_picture_name_if_any id) is in
    let small = scale_small scale is_width in
    let it = drawn_styled (word_if_any scale) id file (time_begins scale small) (id_begins id is_name) (file_begins file plain) in
    let all : words ≡ name ∷ codes "draw" ∷ codes "--svg" ∷ (text_words (codes "--scale") (word_if_any scale) ++ (text_words (codes "--id") id ++ (file ∷ []))) =
    are ∙ ap (λ (a : List Text). name ∷ codes "draw" ∷ codes "--svg" ∷ (a ++ (text_words (codes "--id") id ++ (file ∷ [])))) (words_of_time (codes "--scale") scale) in
    as_read it words _ name all
    (ap (λ (a : Option (Option ℕ)). words_to_draw (drawing_from (Some false) (Some true) (Some false) (Some whole_span) None a id) (Some file)) (number_of_time scale small)
    ∙ words_drawn false true false whole_span None scale id file refl is)

-- Words that ask for no picture.

backwards : (first last : Text) (from to : ℕ) (file : Text) → is_option_word first ≡ false → is_option_word last ≡ false → is_option_word file ≡ false
    → number_if_any (Some first) ≡ Some (Some from) → number_if_any (Some last) ≡ Some (Some to) → to < from → (name : Text)
    → IsMisuse (name ∷ codes "draw" ∷ codes "--from" ∷ first ∷ codes "--to" ∷ last ∷ file ∷ [])
unfolding clap_on_literals draw_shape
backwards first last from to file f l p first_is last_is behind name =
    let met = taken has_draw name _ _
    (on draw_shape _ (codes "--from") _ _ refl (on_plain draw_shape _ first _ _ f refl refl refl (on draw_shape _ (codes "--to") _ _ refl (on_plain draw_shape _ last _ _ l refl refl refl (on_plain draw_shape _ file _ _ p refl refl refl (ends draw_shape _))))))
    refl in
    (met.0, _, met.1, inr (inl (refl, (from, to, first_is, last_is, behind))))

pub backwards_misused : (words : List Text) (name : Text) (from to : ℕ) (file : Text)
    → words ≡ name ∷ codes "draw" ∷ codes "--from" ∷ decimal from ∷ codes "--to" ∷ decimal to ∷ file ∷ [] → to < from → from < 2 ^ 64 → IsPlainWord file → IsMisuse words
backwards_misused words name from to file are behind small plain =
    let small_too : to < 2 ^ 64 = omega (arith, behind, small) in
    rw are
    (backwards (decimal from) (decimal to) from to file (decimal_begins from small) (decimal_begins to small_too) (plain_begins file plain)
    (ap (option_map Some) (spelled from small))
    (ap (option_map Some) (spelled to small_too))
    behind name)

-- Pictures.

pub span_met : (a b : Option (Option ℕ)) (span : Span) → span_from a b ≡ Some span
    → (a ≡ Some span.from) × (b ≡ Some span.to) × (is_ahead span.from span.to ≡ true)
span_met (Some from) (Some to) span e = by (is_ahead from to) refl e
  where
    by : (ahead : Bool) → is_ahead from to ≡ ahead → (if ahead then Some (record { from = from; to = to }) else None) ≡ Some span
        → (Some from ≡ Some span.from) × (Some to ≡ Some span.to) × (is_ahead span.from span.to ≡ true)
    by true ahead is =
        let same : record { from = from; to = to } ≡ span = cc in
        (ap (λ (o : Span). Some o.from) same, ap (λ (o : Span). Some o.to) same, ap (λ (o : Span). is_ahead o.from o.to) (sym same) ∙ ahead)
    by false ahead is = absurd cc
span_met None b span e = absurd cc
span_met (Some from) None span e = absurd cc

pub drawing_met : (a b d : Option Bool) (span : Option Span) (works : Option Text) (scale : Option (Option ℕ)) (id : Option Text) (given : DrawingWords)
    → drawing_from a b d span works scale id ≡ Some given
    → (a ≡ Some given.settle) × (b ≡ Some given.svg) × (d ≡ Some given.fold) × (span ≡ Some given.span) × (works ≡ given.works) × (scale ≡ Some given.scale) × (id ≡ given.id)
    × (is_styled given.svg given.scale given.id ≡ true)
drawing_met (Some settle) (Some svg) (Some fold) (Some span) works (Some scale) id given e = by (is_styled svg scale id) refl e
  where
    by : (fits : Bool) → is_styled svg scale id ≡ fits
        → (if fits then Some (record { settle = settle; svg = svg; fold = fold; span = span; works = works; scale = scale; id = id }) else None) ≡ Some given
        → (Some settle ≡ Some given.settle) × (Some svg ≡ Some given.svg) × (Some fold ≡ Some given.fold) × (Some span ≡ Some given.span) × (works ≡ given.works)
        × (Some scale ≡ Some given.scale) × (id ≡ given.id) × (is_styled given.svg given.scale given.id ≡ true)
    by true fits is =
        let same : record { settle = settle; svg = svg; fold = fold; span = span; works = works; scale = scale; id = id } ≡ given = cc in (
          ap (λ (o : DrawingWords). Some o.settle) same,
          ap (λ (o : DrawingWords). Some o.svg) same,
          ap (λ (o : DrawingWords). Some o.fold) same,
          ap (λ (o : DrawingWords). Some o.span) same,
          ap (λ (o : DrawingWords). o.works) same,
          ap (λ (o : DrawingWords). Some o.scale) same,
          ap (λ (o : DrawingWords). o.id) same,
          ap (λ (o : DrawingWords). is_styled o.svg o.scale o.id) (sym same) ∙ fits,
        )
    by false fits is = absurd cc
drawing_met None b d span works scale id given e = absurd cc
drawing_met (Some settle) None d span works scale id given e = absurd cc
drawing_met (Some settle) (Some svg) None span works scale id given e = absurd cc
drawing_met (Some settle) (Some svg) (Some fold) None works scale id given e = absurd cc
drawing_met (Some settle) (Some svg) (Some fold) (Some span) works None id given e = absurd cc

pub drawn_met : (given : Option DrawingWords) (file : Option Text) (asked : List Text) → words_to_draw given file ≡ Some asked
    → (o : DrawingWords) × (name : Text) × (given ≡ Some o) × (file ≡ Some name) × (codes "draw" ∷ draw_arguments o name ≡ asked)
drawn_met (Some o) (Some name) asked e = let same : codes "draw" ∷ draw_arguments o name ≡ asked = cc in (o, name, refl, refl, same)
drawn_met (Some o) None asked e = absurd cc
drawn_met None file asked e = absurd cc

-- What makes a picture's style.

pub styled_scale : (svg : Bool) (scale : Option ℕ) (id : Option Text) → is_styled svg scale id ≡ true → is_scale scale ≡ true
styled_scale true scale id e = (and_parts (is_scale scale) (is_picture_name_if_any id) e).0
styled_scale false None id e = refl
styled_scale false (Some n) id e = absurd cc

pub styled_text : (svg : Bool) (scale : Option ℕ) (id : Option Text) → svg ≡ false → is_styled svg scale id ≡ true → (scale ≡ None) × (id ≡ None)
styled_text true scale id off e = absurd cc
styled_text false None None off e = (refl, refl)
styled_text false None (Some name) off e = absurd cc
styled_text false (Some n) id off e = absurd cc
