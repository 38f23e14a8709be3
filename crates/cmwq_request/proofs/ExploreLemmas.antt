-- What clap makes of the words of `explore`.
use Rattle.std.proofs.Common.{inl, inr, ap, ap₂, sym, subst, ◌&&◌, ◌≡◌, ◌≢◌, ◌∙◌, arith, ℕ, Bool, List, [], ◌∷◌, ◌++◌, true, false, Option, None, Some, codes, refl, bytes_eq, option_and_then}
use Rattle.std.specs.Prelude.{fold, if◌then◌else◌}
use Rattle.std.specs.Cmp.Lexicographic.{bytes_decides}
use Rattle.std.specs.Fmt.{decimal}
use Rattle.std.proofs.lemmas.Bool.{false_from_ne_true}
use Rattle.std.proofs.lemmas.Bool.Decides.{nat_tests}
use Rattle.std.proofs.lemmas.List.{append_assoc}
use Rattle.clap.specs.Words.{Row, Text, subcommand_of, takes}
use Rattle.clap.specs.Takes.{default_passes, is_valid, settle_passes}
use Rattle.std.specs.List.{list_all}
use Rattle.clap.specs.Walk.{Held, Waiting, Walk, arg_by_id, finished, nothing_held, settled_rows, used_by_id, walk_from, with_default}
use Rattle.clap.specs.Walk.Waiting.{idle, option, positional}
use Rattle.clap.proofs.OnLiterals.{clap_on_literals}
use Rattle.cmwq_command_line.specs.CommandLine.{command_line}
use Rattle.cmwq_rings.proofs.RingLemmas.{none_goes, ring_goes}
use Rattle.cmwq_rings.specs.Rings.{IsRing, Pair, goes_in_ring}
use Rattle.cmwq_exploration.specs.declared.exploration.TheConstants.{MAX_STATES}
use Rattle.cmwq_types.specs.Faults.{within}
use Rattle.cmwq_request.proofs.DrawLemmas.{file_begins, plain_begins}
use Rattle.cmwq_request.proofs.ExploringLemmas.{none_forbidden, none_limited, rings_ask_nothing}
use Rattle.cmwq_request.proofs.WalkingLemmas.{Goes, end_passes, ends, explore_shape, has_explore, is_option_word, on, on_plain, taken}
use Rattle.cmwq_request.proofs.WhyLemmas.{short_number, short_plain, value_begins}
use Rattle.cmwq_request.specs.Request.{ArePlainGiven, ArePlainPairs, ArePlainWorks, CanBeAsked, ExplorationWords, Forbidden, HasCapacity, HasPlainNames, IsFileWord, IsMisuse, IsPlainIfAny, IsPlainWord, IsRead, IsStateLimit, IsValueWord, NeverGiven, WorksGiven, asked_explore, asked_of, before_words, exploration_from, explore_arguments, explored_from, flag_of, given_words, limit_from, never_from, never_of, never_words, option_words, pairs_from, pairs_in, state_limit, text_words, if_two, unlimited_arguments, usual, words_to_explore, works_given, works_words}

-- Where a walk over the words stands behind FILE.

-- the rows after a use of the argument
abbrev after_use : Text → List Text → List Row → List Row
after_use id values rows = used_by_id (arg_by_id explore_shape.rules id) values rows

abbrev held : List Row → Option (Text × List Text) → Held
held rows pending = record { rows = rows; pending = pending; skip = 0 }

abbrev stand : List Row → Option (Text × List Text) → Waiting → Walk
stand rows pending waiting = record { held = held rows pending; waiting = waiting; position = 2; is_trailing = false; stopped = None }

-- what is pending can be used
abbrev Passes : List Row → Option (Text × List Text) → Type 0
Passes rows pending = settle_passes explore_shape.rules explore_shape.args_override_self (held rows pending) ≡ true

abbrev settled_at : List Row → Option (Text × List Text) → List Row
settled_at rows pending = settled_rows explore_shape.rules pending rows

-- over one option, and over its values
option_turn : (rows : List Row) (pending : Option (Text × List Text)) (waiting : Waiting) (words : List Text) (end : Walk) → Passes rows pending
    → Goes explore_shape (stand (settled_at rows pending) (Some (codes "BEFORE", [])) (option (codes "BEFORE"))) words end
    → Goes explore_shape (stand rows pending waiting) (codes "--before" ∷ words) end
unfolding clap_on_literals explore_shape
option_turn rows pending idle words end passes it = on explore_shape _ (codes "--before") _ _ (ap (λ (b : Bool). b && true) passes) it
option_turn rows pending (option id) words end passes it = on explore_shape _ (codes "--before") _ _ (ap (λ (b : Bool). b && true) passes) it
option_turn rows pending positional words end passes it = on explore_shape _ (codes "--before") _ _ (ap (λ (b : Bool). b && true) passes) it

limit_turn : (rows : List Row) (pending : Option (Text × List Text)) (waiting : Waiting) (words : List Text) (end : Walk) → Passes rows pending
    → Goes explore_shape (stand (settled_at rows pending) (Some (codes "N", [])) (option (codes "N"))) words end
    → Goes explore_shape (stand rows pending waiting) (codes "--limit" ∷ words) end
unfolding clap_on_literals explore_shape
limit_turn rows pending idle words end passes it = on explore_shape _ (codes "--limit") _ _ (ap (λ (b : Bool). b && true) passes) it
limit_turn rows pending (option id) words end passes it = on explore_shape _ (codes "--limit") _ _ (ap (λ (b : Bool). b && true) passes) it
limit_turn rows pending positional words end passes it = on explore_shape _ (codes "--limit") _ _ (ap (λ (b : Bool). b && true) passes) it

abbrev pending_pair : Pair → Option (Text × List Text)
pending_pair pair = Some (codes "BEFORE", pair.0 ∷ pair.1 ∷ [])

before_turn : (rows : List Row) (pending : Option (Text × List Text)) (waiting : Waiting) (pair : Pair) (words : List Text) (end : Walk) → Passes rows pending
    → is_option_word pair.0 ≡ false → is_option_word pair.1 ≡ false
    → Goes explore_shape (stand (settled_at rows pending) (pending_pair pair) idle) words end
    → Goes explore_shape (stand rows pending waiting) (codes "--before" ∷ pair.0 ∷ pair.1 ∷ words) end
unfolding clap_on_literals explore_shape
before_turn rows pending waiting pair words end passes first second it =
    option_turn rows pending waiting (pair.0 ∷ pair.1 ∷ words) end passes
    (on_plain explore_shape _ pair.0 _ _ first refl refl refl (on_plain explore_shape _ pair.1 _ _ second refl refl refl it))

last_limit : (rows : List Row) (pending : Option (Text × List Text)) (waiting : Waiting) (number : Text) → Passes rows pending → is_option_word number ≡ false
    → Goes explore_shape (stand rows pending waiting) (codes "--limit" ∷ number ∷ []) (stand (settled_at rows pending) (Some (codes "N", number ∷ [])) idle)
unfolding clap_on_literals explore_shape
last_limit rows pending waiting number passes n =
    limit_turn rows pending waiting (number ∷ []) _ passes (on_plain explore_shape _ number _ _ n refl refl refl (ends explore_shape _))

pair_passes : (rows : List Row) (pair : Pair) → Passes rows (pending_pair pair)
unfolding clap_on_literals explore_shape
pair_passes rows pair = refl

-- Over all pairs.

abbrev pair_words : List Pair → List Text
pair_words [] = []
pair_words (pair ∷ before) = pair.0 ∷ pair.1 ∷ pair_words before

-- the rows behind them
abbrev rows_behind : List Row → Option (Text × List Text) → List Pair → List Row
rows_behind rows pending [] = settled_at rows pending
rows_behind rows pending (pair ∷ before) = rows_behind (settled_at rows pending) (pending_pair pair) before

-- a walk that ends with such rows
record EndsWith (from : Walk) (words : List Text) (behind : List Row) : Type 0 where
  rows : List Row
  pending : Option (Text × List Text)
  waiting : Waiting
  goes : Goes explore_shape from words (stand rows pending waiting)
  passes : Passes rows pending
  settles : settled_at rows pending ≡ behind

pairs_begin : (pair : Pair) (before : List Pair) → ArePlainPairs (pair ∷ before) → (is_option_word pair.0 ≡ false) × (is_option_word pair.1 ≡ false)
pairs_begin pair before plain = (plain_begins pair.0 plain.0, plain_begins pair.1 plain.1)

over_pairs : (before : List Pair) (rows : List Row) (pending : Option (Text × List Text)) (waiting : Waiting) → ArePlainPairs before → Passes rows pending
    → EndsWith (stand rows pending waiting) (before_words before) (rows_behind rows pending before)
over_pairs [] rows pending waiting plain passes = record {
  rows = rows;
  pending = pending;
  waiting = waiting;
  goes = ends explore_shape (stand rows pending waiting);
  passes = passes;
  settles = refl;
}
over_pairs (pair ∷ before) rows pending waiting plain passes =
    let behind = over_pairs before (settled_at rows pending) (pending_pair pair) idle plain.2 (pair_passes (settled_at rows pending) pair) in
    let begin = pairs_begin pair before plain in
    record {
      rows = behind.rows;
      pending = behind.pending;
      waiting = behind.waiting;
      goes = before_turn rows pending waiting pair (before_words before) _ passes begin.0 begin.1 behind.goes;
      passes = behind.passes;
      settles = behind.settles;
    }

over_limit : (before : List Pair) (rows : List Row) (pending : Option (Text × List Text)) (waiting : Waiting) (number : Text) → ArePlainPairs before → Passes rows pending
    → is_option_word number ≡ false → Passes (rows_behind rows pending before) (Some (codes "N", number ∷ []))
    → EndsWith (stand rows pending waiting) (before_words before ++ (codes "--limit" ∷ number ∷ [])) (after_use (codes "N") (number ∷ []) (rows_behind rows pending before))
over_limit [] rows pending waiting number plain passes n fits = record {
  rows = settled_at rows pending;
  pending = Some (codes "N", number ∷ []);
  waiting = idle;
  goes = last_limit rows pending waiting number passes n;
  passes = fits;
  settles = refl;
}
over_limit (pair ∷ before) rows pending waiting number plain passes n fits =
    let behind = over_limit before (settled_at rows pending) (pending_pair pair) idle number plain.2 (pair_passes (settled_at rows pending) pair) n fits in
    let begin = pairs_begin pair before plain in
    record {
      rows = behind.rows;
      pending = behind.pending;
      waiting = behind.waiting;
      goes = before_turn rows pending waiting pair (before_words before ++ (codes "--limit" ∷ number ∷ [])) _ passes begin.0 begin.1 behind.goes;
      passes = behind.passes;
      settles = behind.settles;
    }

-- What no order may come to.

-- what is held behind FILE and that
abbrev never_rows : Forbidden → Text → List Row
never_rows (Forbidden.never_after actor work) file = after_use (codes "ACTOR") (actor ∷ []) (after_use (codes "FILE") (file ∷ []) [])
never_rows (Forbidden.never_runs work) file = after_use (codes "FILE") (file ∷ []) []
never_rows (Forbidden.never_together work other) file = after_use (codes "FILE") (file ∷ []) []
never_rows Forbidden.never_stuck file = after_use (codes "stuck") [] (after_use (codes "FILE") (file ∷ []) [])

abbrev never_pending : Forbidden → Option (Text × List Text)
never_pending (Forbidden.never_after actor work) = Some (codes "WORK", work ∷ [])
never_pending (Forbidden.never_runs work) = Some (codes "WORK", work ∷ [])
never_pending (Forbidden.never_together work other) = Some (codes "WORK", work ∷ other ∷ [])
never_pending Forbidden.never_stuck = None

abbrev never_waiting : Forbidden → Waiting
never_waiting (Forbidden.never_after actor work) = option (codes "WORK")
never_waiting (Forbidden.never_runs work) = option (codes "WORK")
never_waiting (Forbidden.never_together work other) = idle
never_waiting Forbidden.never_stuck = idle

abbrev never_stand : Forbidden → Text → Walk
never_stand never file = stand (never_rows never file) (never_pending never) (never_waiting never)

never_passes : (never : Forbidden) (file : Text) → Passes (never_rows never file) (never_pending never)
unfolding clap_on_literals explore_shape
never_passes (Forbidden.never_after actor work) file = refl
never_passes (Forbidden.never_runs work) file = refl
never_passes (Forbidden.never_together work other) file = refl
never_passes Forbidden.never_stuck file = refl

over_never : (never : Forbidden) (file : Text) (words : List Text) (end : Walk) → HasPlainNames never → is_option_word file ≡ false
    → Goes explore_shape (never_stand never file) words end → Goes explore_shape (walk_from nothing_held) (file ∷ (never_words never ++ words)) end
unfolding clap_on_literals explore_shape
over_never (Forbidden.never_after actor work) file words end plain f it =
    on_plain explore_shape _ file _ _ f refl refl refl
    (on explore_shape _ (codes "--after") _ _ refl
    (on_plain explore_shape _ actor _ _ (plain_begins actor plain.0) refl refl refl
    (on explore_shape _ (codes "--never") _ _ refl (on_plain explore_shape _ work _ _ (plain_begins work plain.1) refl refl refl it))))
over_never (Forbidden.never_runs work) file words end plain f it =
    on_plain explore_shape _ file _ _ f refl refl refl
    (on explore_shape _ (codes "--never") _ _ refl (on_plain explore_shape _ work _ _ (plain_begins work plain) refl refl refl it))
over_never (Forbidden.never_together work other) file words end plain f it =
    on_plain explore_shape _ file _ _ f refl refl refl
    (on explore_shape _ (codes "--never") _ _ refl
    (on_plain explore_shape _ work _ _ (plain_begins work plain.0) refl refl refl
    (on_plain explore_shape _ other _ _ (plain_begins other plain.1) refl refl refl it)))
over_never Forbidden.never_stuck file words end plain f it =
    on_plain explore_shape _ file _ _ f refl refl refl (on explore_shape _ (codes "--stuck") _ _ refl it)

-- The rows at the end.

-- the values of --before
abbrev before_rows : List Row → List Text → List Row
before_rows rows [] = rows
before_rows rows (word ∷ words) = after_use (codes "BEFORE") (word ∷ words) rows

abbrev settled_never : Forbidden → Text → List Row
settled_never never file = settled_at (never_rows never file) (never_pending never)

one_more : (never : Forbidden) (file : Text) (words : List Text) (pair : Pair)
    → after_use (codes "BEFORE") (pair.0 ∷ pair.1 ∷ []) (before_rows (settled_never never file) words) ≡ before_rows (settled_never never file) (words ++ pair.0 ∷ pair.1 ∷ [])
unfolding clap_on_literals explore_shape
one_more (Forbidden.never_after actor work) file [] pair = refl
one_more (Forbidden.never_runs work) file [] pair = refl
one_more (Forbidden.never_together work other) file [] pair = refl
one_more Forbidden.never_stuck file [] pair = refl
one_more (Forbidden.never_after actor work) file (word ∷ words) pair = refl
one_more (Forbidden.never_runs work) file (word ∷ words) pair = refl
one_more (Forbidden.never_together work other) file (word ∷ words) pair = refl
one_more Forbidden.never_stuck file (word ∷ words) pair = refl

no_more : (words : List Text) → words ++ [] ≡ words
no_more [] = refl
no_more (word ∷ words) = ap (λ (behind : List Text). word ∷ behind) (no_more words)

all_behind : (never : Forbidden) (file : Text) (before : List Pair) (rows : List Row) (pending : Option (Text × List Text)) (words : List Text)
    → settled_at rows pending ≡ before_rows (settled_never never file) words
    → rows_behind rows pending before ≡ before_rows (settled_never never file) (words ++ pair_words before)
all_behind never file [] rows pending words are = are ∙ ap (λ (all : List Text). before_rows (settled_never never file) all) (sym (no_more words))
all_behind never file (pair ∷ before) rows pending words are =
    all_behind never file before (settled_at rows pending) (pending_pair pair) (words ++ pair.0 ∷ pair.1 ∷ [])
    (ap (λ (so_far : List Row). after_use (codes "BEFORE") (pair.0 ∷ pair.1 ∷ []) so_far) are ∙ one_more never file words pair)
    ∙ ap (λ (all : List Text). before_rows (settled_never never file) all) (append_assoc words (pair.0 ∷ pair.1 ∷ []) (pair_words before))

-- the limit was given once
limit_fits : (never : Forbidden) (file number : Text) (words : List Text) → Passes (before_rows (settled_never never file) words) (Some (codes "N", number ∷ []))
unfolding clap_on_literals explore_shape
limit_fits (Forbidden.never_after actor work) file number [] = refl
limit_fits (Forbidden.never_runs work) file number [] = refl
limit_fits (Forbidden.never_together work other) file number [] = refl
limit_fits Forbidden.never_stuck file number [] = refl
limit_fits (Forbidden.never_after actor work) file number (word ∷ words) = refl
limit_fits (Forbidden.never_runs work) file number (word ∷ words) = refl
limit_fits (Forbidden.never_together work other) file number (word ∷ words) = refl
limit_fits Forbidden.never_stuck file number (word ∷ words) = refl

-- What is read of them.

abbrev is_stuck : Forbidden → Bool
is_stuck (Forbidden.never_after actor work) = false
is_stuck (Forbidden.never_runs work) = false
is_stuck (Forbidden.never_together work other) = false
is_stuck Forbidden.never_stuck = true

abbrev after_of : Forbidden → Option Text
after_of (Forbidden.never_after actor work) = Some actor
after_of (Forbidden.never_runs work) = None
after_of (Forbidden.never_together work other) = None
after_of Forbidden.never_stuck = None

abbrev works_of : Forbidden → Option (List Text)
works_of (Forbidden.never_after actor work) = Some (work ∷ [])
works_of (Forbidden.never_runs work) = Some (work ∷ [])
works_of (Forbidden.never_together work other) = Some (work ∷ other ∷ [])
works_of Forbidden.never_stuck = None

abbrev words_if_any : List Text → Option (List Text)
words_if_any [] = None
words_if_any (word ∷ words) = Some (word ∷ words)

abbrev read_of : Forbidden → List Text → Option Text → Text → Option (List Text)
read_of never words limit file = explored_from (is_stuck never) (after_of never) (works_of never) (words_if_any words) limit (Some file)

-- the rows, and the usual values of those that weren't given
abbrev with_defaults : List Row → List Row
with_defaults rows = fold with_default rows explore_shape.rules

-- what is met of the rows
record Meets (rows : List Row) (stuck : Bool) (found : Option (List Text)) : Type 0 where
  valid : (list_all default_passes explore_shape.rules && is_valid explore_shape (with_defaults rows) false) ≡ true
  flag : flag_of (codes "stuck") (with_defaults rows) ≡ Some stuck
  asks : asked_explore stuck (with_defaults rows) ≡ found

unlimited_met : (never : Forbidden) (words : List Text) (file : Text)
    → Meets (before_rows (settled_never never file) words) (is_stuck never) (read_of never words None file)
unfolding clap_on_literals explore_shape
unlimited_met (Forbidden.never_after actor work) [] file = record { valid = refl; flag = refl; asks = refl }
unlimited_met (Forbidden.never_runs work) [] file = record { valid = refl; flag = refl; asks = refl }
unlimited_met (Forbidden.never_together work other) [] file = record { valid = refl; flag = refl; asks = refl }
unlimited_met Forbidden.never_stuck [] file = record { valid = refl; flag = refl; asks = refl }
unlimited_met (Forbidden.never_after actor work) (word ∷ words) file = record { valid = refl; flag = refl; asks = refl }
unlimited_met (Forbidden.never_runs work) (word ∷ words) file = record { valid = refl; flag = refl; asks = refl }
unlimited_met (Forbidden.never_together work other) (word ∷ words) file = record { valid = refl; flag = refl; asks = refl }
unlimited_met Forbidden.never_stuck (word ∷ words) file = record { valid = refl; flag = refl; asks = refl }

limited_met : (never : Forbidden) (words : List Text) (number file : Text)
    → Meets (after_use (codes "N") (number ∷ []) (before_rows (settled_never never file) words)) (is_stuck never) (read_of never words (Some number) file)
unfolding clap_on_literals explore_shape
limited_met (Forbidden.never_after actor work) [] number file = record { valid = refl; flag = refl; asks = refl }
limited_met (Forbidden.never_runs work) [] number file = record { valid = refl; flag = refl; asks = refl }
limited_met (Forbidden.never_together work other) [] number file = record { valid = refl; flag = refl; asks = refl }
limited_met Forbidden.never_stuck [] number file = record { valid = refl; flag = refl; asks = refl }
limited_met (Forbidden.never_after actor work) (word ∷ words) number file = record { valid = refl; flag = refl; asks = refl }
limited_met (Forbidden.never_runs work) (word ∷ words) number file = record { valid = refl; flag = refl; asks = refl }
limited_met (Forbidden.never_together work other) (word ∷ words) number file = record { valid = refl; flag = refl; asks = refl }
limited_met Forbidden.never_stuck (word ∷ words) number file = record { valid = refl; flag = refl; asks = refl }

-- Words behind the command's name.

-- clap takes them, whatever the program's name, and these are read of them, if they are there
record Explores (words : List Text) (found : Option (List Text)) : Type 0 where
  rows : List Row
  stuck : Bool
  takes : (name : Text) → (takes command_line (name ∷ codes "explore" ∷ words) ≡ true)
      × (subcommand_of command_line (name ∷ codes "explore" ∷ words) ≡ Some (codes "explore", rows))
  flag : flag_of (codes "stuck") rows ≡ Some stuck
  asks : asked_explore stuck rows ≡ found

explores : (words : List Text) (end : Walk) (stuck : Bool) (found : Option (List Text)) → Goes explore_shape (walk_from nothing_held) words end
    → end_passes explore_shape end ≡ true → flag_of (codes "stuck") (finished explore_shape.rules end.held) ≡ Some stuck
    → asked_explore stuck (finished explore_shape.rules end.held) ≡ found → Explores words found
explores words end stuck found goes passes flag asks = record {
  rows = finished explore_shape.rules end.held;
  stuck = stuck;
  takes = λ name. taken has_explore name words end goes passes;
  flag = flag;
  asks = asks;
}

explores_behind : (never : Forbidden) (file : Text) (words : List Text) (rows : List Row) (stuck : Bool) (found : Option (List Text)) → HasPlainNames never
    → is_option_word file ≡ false → EndsWith (never_stand never file) words rows → Meets rows stuck found
    → Explores (file ∷ (never_words never ++ words)) found
explores_behind never file words rows stuck found plain f ends meets =
    explores (file ∷ (never_words never ++ words)) (stand ends.rows ends.pending ends.waiting) stuck found
    (over_never never file words (stand ends.rows ends.pending ends.waiting) plain f ends.goes)
    (ap₂ (λ (a : Bool) (r : List Row). a && (list_all default_passes explore_shape.rules && is_valid explore_shape (with_defaults r) false)) ends.passes ends.settles ∙ meets.valid)
    (ap (λ (r : List Row). flag_of (codes "stuck") (with_defaults r)) ends.settles ∙ meets.flag)
    (ap (λ (r : List Row). asked_explore stuck (with_defaults r)) ends.settles ∙ meets.asks)

unlimited : (never : Forbidden) (before : List Pair) (file : Text) → HasPlainNames never → ArePlainPairs before → is_option_word file ≡ false
    → Explores (unlimited_arguments never before file) (read_of never (pair_words before) None file)
unlimited never before file plain pairs f =
    let behind = all_behind never file before (never_rows never file) (never_pending never) [] refl in
    explores_behind never file (before_words before) (before_rows (settled_never never file) (pair_words before)) (is_stuck never) _ plain f
    (subst (λ (r : List Row). EndsWith (never_stand never file) (before_words before) r) behind
    (over_pairs before (never_rows never file) (never_pending never) (never_waiting never) pairs (never_passes never file)))
    (unlimited_met never (pair_words before) file)

limited : (never : Forbidden) (before : List Pair) (number file : Text) → HasPlainNames never → ArePlainPairs before → is_option_word number ≡ false
    → is_option_word file ≡ false
    → Explores (file ∷ (never_words never ++ (before_words before ++ (codes "--limit" ∷ number ∷ [])))) (read_of never (pair_words before) (Some number) file)
limited never before number file plain pairs n f =
    let behind = all_behind never file before (never_rows never file) (never_pending never) [] refl in
    explores_behind never file (before_words before ++ (codes "--limit" ∷ number ∷ []))
    (after_use (codes "N") (number ∷ []) (before_rows (settled_never never file) (pair_words before))) (is_stuck never) _ plain f
    (subst (λ (r : List Row). EndsWith (never_stand never file) (before_words before ++ (codes "--limit" ∷ number ∷ [])) (after_use (codes "N") (number ∷ []) r)) behind
    (over_limit before (never_rows never file) (never_pending never) (never_waiting never) number pairs (never_passes never file) n
    (subst (λ (r : List Row). Passes r (Some (codes "N", number ∷ []))) (sym behind) (limit_fits never file number (pair_words before)))))
    (limited_met never (pair_words before) number file)

-- What they ask for.

pairs_read : (before : List Pair) → pairs_in (pair_words before) ≡ before
pairs_read [] = refl
pairs_read (pair ∷ before) = ap (λ (pairs : List Pair). pair ∷ pairs) (pairs_read before)

pairs_met : (before : List Pair) → pairs_from (words_if_any (pair_words before)) ≡ before
pairs_met [] = refl
pairs_met (pair ∷ before) = pairs_read (pair ∷ before)

other_works : (work other : Text) → work ≢ other → bytes_eq work other ≡ false
other_works work other apart = false_from_ne_true (bytes_eq work other) (λ same. apart ((bytes_decides work other).0 same))

never_met : (never : Forbidden) → HasPlainNames never → never_from (is_stuck never) (after_of never) (works_of never) ≡ Some never
never_met (Forbidden.never_after actor work) plain = refl
never_met (Forbidden.never_runs work) plain = refl
never_met (Forbidden.never_together work other) plain = ap (λ (same : Bool). if_two same work other) (other_works work other plain.2)
never_met Forbidden.never_stuck plain = refl

limit_met : (limit : ℕ) → IsStateLimit limit → limit_from (Some (decimal limit)) ≡ Some limit
limit_met limit fits =
    let inside : within 1 MAX_STATES limit ≡ true = grind (arith, nat_tests, fits.0, fits.1) in
    ap (λ (n : Option ℕ). option_and_then state_limit n) (short_number limit (omega (arith, fits.1)))
    ∙ ap (λ (b : Bool). if b then Some limit else None) inside

asked_is : (never : Option Forbidden) (before : List Pair) (limit : Option ℕ) (asked : ExplorationWords) (file : Text) → never ≡ Some asked.never → before ≡ asked.before
    → limit ≡ Some asked.limit → goes_in_ring asked.before ≡ false
    → words_to_explore (exploration_from (goes_in_ring before) never before limit) (Some file) ≡ Some (codes "explore" ∷ explore_arguments asked file)
asked_is never before limit asked file is pairs number none =
    ap (λ (o : Option Forbidden). words_to_explore (exploration_from (goes_in_ring before) o before limit) (Some file)) is
    ∙ ap (λ (ps : List Pair). words_to_explore (exploration_from (goes_in_ring ps) (Some asked.never) ps limit) (Some file)) pairs
    ∙ ap (λ (n : Option ℕ). words_to_explore (exploration_from (goes_in_ring asked.before) (Some asked.never) asked.before n) (Some file)) number
    ∙ ap (λ (rings : Bool). words_to_explore (exploration_from rings (Some asked.never) asked.before (Some asked.limit)) (Some file)) none

-- no play is asked for
no_capacity : (words : List Text) → HasCapacity (codes "explore" ∷ words)
no_capacity [] = tt
no_capacity (a ∷ []) = tt
no_capacity (a ∷ b ∷ []) = tt
no_capacity (a ∷ b ∷ c ∷ []) = tt
no_capacity (a ∷ b ∷ c ∷ d ∷ more) = tt

met_so : (rows : List Row) (stuck : Bool) (found : Option (List Text)) → flag_of (codes "stuck") rows ≡ Some stuck → asked_explore stuck rows ≡ found
    → asked_of (Some (codes "explore", rows)) ≡ found
met_so rows stuck found flag asks = ap (λ (o : Option Bool). option_and_then (λ given. asked_explore given rows) o) flag ∙ asks

as_read : {given : List Text} {found : Option (List Text)} → Explores given found → (words asked : List Text) (name : Text) → words ≡ name ∷ codes "explore" ∷ given
    → found ≡ Some (codes "explore" ∷ asked) → IsRead words (codes "explore" ∷ asked)
as_read it words asked name are is =
    let met = it.takes name in
    rw are (met.0, ap asked_of met.1 ∙ met_so it.rows it.stuck _ it.flag it.asks ∙ is, no_capacity asked)

as_misuse : {given : List Text} {found : Option (List Text)} → Explores given found → (words : List Text) (name : Text) → words ≡ name ∷ codes "explore" ∷ given
    → found ≡ None → IsMisuse words
as_misuse it words name are none =
    let met = it.takes name in
    rw are (met.0, (codes "explore", it.rows), met.1, inr (inr (inr (inl (refl, (it.stuck, it.flag, it.asks ∙ none))))))

pub explore_read : (words : List Text) (name file : Text) (asked : ExplorationWords) → words ≡ name ∷ codes "explore" ∷ explore_arguments asked file → IsFileWord file
    → CanBeAsked asked → IsRead words (codes "explore" ∷ explore_arguments asked file)
explore_read words name file asked are plain (names, pairs, rings, fits) =
    as_read
    (limited asked.never asked.before (decimal asked.limit) file names pairs (short_plain asked.limit (omega (arith, fits.1))) (file_begins file plain))
    words (explore_arguments asked file) name
    (are ∙ ap (λ (behind : List Text). name ∷ codes "explore" ∷ file ∷ behind) (append_assoc (never_words asked.never) (before_words asked.before) (codes "--limit" ∷ decimal asked.limit ∷ [])))
    (asked_is _ _ _ asked file (never_met asked.never names) (pairs_met asked.before) (limit_met asked.limit fits) (none_goes asked.before rings))

pub explore_usual_read : (words : List Text) (name file : Text) (never : Forbidden) (before : List Pair)
    → words ≡ name ∷ codes "explore" ∷ unlimited_arguments never before file → IsFileWord file → CanBeAsked (usual never before)
    → IsRead words (codes "explore" ∷ explore_arguments (usual never before) file)
explore_usual_read words name file never before are plain (names, pairs, rings, fits) =
    as_read (unlimited never before file names pairs (file_begins file plain)) words (explore_arguments (usual never before) file) name are
    (asked_is _ _ _ (usual never before) file (never_met never names) (pairs_met before) refl (none_goes before rings))

pub ring_misused : (words : List Text) (name file : Text) (never : Forbidden) (before : List Pair) (ring : List Text)
    → words ≡ name ∷ codes "explore" ∷ unlimited_arguments never before file → IsPlainWord file → HasPlainNames never → ArePlainPairs before → IsRing before ring
    → IsMisuse words
ring_misused words name file never before ring are plain names pairs is =
    as_misuse (unlimited never before file names pairs (plain_begins file plain)) words name are
    (rings_ask_nothing (is_stuck never) (after_of never) (works_of never) (words_if_any (pair_words before)) None (Some file) (ap goes_in_ring (pairs_met before) ∙ ring_goes before ring is))

pub limit_misused : (words : List Text) (name number file : Text) (never : Forbidden)
    → words ≡ name ∷ codes "explore" ∷ file ∷ (never_words never ++ (codes "--limit" ∷ number ∷ [])) → IsPlainWord file → HasPlainNames never → IsValueWord number
    → limit_from (Some number) ≡ None → IsMisuse words
limit_misused words name number file never are plain names value none =
    as_misuse (limited never [] number file names tt (value_begins number value) (plain_begins file plain)) words name are
    (none_limited (never_from (is_stuck never) (after_of never) (works_of never)) [] (limit_from (Some number)) (Some file) none)

-- What isn't one thing.

given_met : (stuck : Bool) (after : Option Text) (works : WorksGiven) (file : Text) → IsPlainIfAny after → ArePlainWorks works → is_option_word file ≡ false
    → Explores (file ∷ (option_words (codes "--stuck") stuck ++ (text_words (codes "--after") after ++ works_words works)))
    (explored_from stuck after (works_given works) None None (Some file))
unfolding clap_on_literals explore_shape
given_met false None WorksGiven.no_works file a w f =
    explores _ _ false _ (on_plain explore_shape _ file _ _ f refl refl refl (ends explore_shape _)) refl refl refl
given_met false None (WorksGiven.one_work work) file a w f =
    explores _ _ false _ (on_plain explore_shape _ file _ _ f refl refl refl (on explore_shape _ (codes "--never") _ _ refl (on_plain explore_shape _ work _ _ (plain_begins work w) refl refl refl (ends explore_shape _)))) refl refl refl
given_met false None (WorksGiven.two_works work other) file a w f =
    explores _ _ false _ (on_plain explore_shape _ file _ _ f refl refl refl (on explore_shape _ (codes "--never") _ _ refl (on_plain explore_shape _ work _ _ (plain_begins work w.0) refl refl refl (on_plain explore_shape _ other _ _ (plain_begins other w.1) refl refl refl (ends explore_shape _))))) refl refl refl
given_met false (Some actor) WorksGiven.no_works file a w f =
    explores _ _ false _ (on_plain explore_shape _ file _ _ f refl refl refl (on explore_shape _ (codes "--after") _ _ refl (on_plain explore_shape _ actor _ _ (plain_begins actor a) refl refl refl (ends explore_shape _)))) refl refl refl
given_met false (Some actor) (WorksGiven.one_work work) file a w f =
    explores _ _ false _ (on_plain explore_shape _ file _ _ f refl refl refl (on explore_shape _ (codes "--after") _ _ refl (on_plain explore_shape _ actor _ _ (plain_begins actor a) refl refl refl (on explore_shape _ (codes "--never") _ _ refl (on_plain explore_shape _ work _ _ (plain_begins work w) refl refl refl (ends explore_shape _)))))) refl refl refl
given_met false (Some actor) (WorksGiven.two_works work other) file a w f =
    explores _ _ false _ (on_plain explore_shape _ file _ _ f refl refl refl (on explore_shape _ (codes "--after") _ _ refl (on_plain explore_shape _ actor _ _ (plain_begins actor a) refl refl refl (on explore_shape _ (codes "--never") _ _ refl (on_plain explore_shape _ work _ _ (plain_begins work w.0) refl refl refl (on_plain explore_shape _ other _ _ (plain_begins other w.1) refl refl refl (ends explore_shape _))))))) refl refl refl
given_met true None WorksGiven.no_works file a w f =
    explores _ _ true _ (on_plain explore_shape _ file _ _ f refl refl refl (on explore_shape _ (codes "--stuck") _ _ refl (ends explore_shape _))) refl refl refl
given_met true None (WorksGiven.one_work work) file a w f =
    explores _ _ true _ (on_plain explore_shape _ file _ _ f refl refl refl (on explore_shape _ (codes "--stuck") _ _ refl (on explore_shape _ (codes "--never") _ _ refl (on_plain explore_shape _ work _ _ (plain_begins work w) refl refl refl (ends explore_shape _))))) refl refl refl
given_met true None (WorksGiven.two_works work other) file a w f =
    explores _ _ true _ (on_plain explore_shape _ file _ _ f refl refl refl (on explore_shape _ (codes "--stuck") _ _ refl (on explore_shape _ (codes "--never") _ _ refl (on_plain explore_shape _ work _ _ (plain_begins work w.0) refl refl refl (on_plain explore_shape _ other _ _ (plain_begins other w.1) refl refl refl (ends explore_shape _)))))) refl refl refl
given_met true (Some actor) WorksGiven.no_works file a w f =
    explores _ _ true _ (on_plain explore_shape _ file _ _ f refl refl refl (on explore_shape _ (codes "--stuck") _ _ refl (on explore_shape _ (codes "--after") _ _ refl (on_plain explore_shape _ actor _ _ (plain_begins actor a) refl refl refl (ends explore_shape _))))) refl refl refl
given_met true (Some actor) (WorksGiven.one_work work) file a w f =
    explores _ _ true _ (on_plain explore_shape _ file _ _ f refl refl refl (on explore_shape _ (codes "--stuck") _ _ refl (on explore_shape _ (codes "--after") _ _ refl (on_plain explore_shape _ actor _ _ (plain_begins actor a) refl refl refl (on explore_shape _ (codes "--never") _ _ refl (on_plain explore_shape _ work _ _ (plain_begins work w) refl refl refl (ends explore_shape _))))))) refl refl refl
given_met true (Some actor) (WorksGiven.two_works work other) file a w f =
    explores _ _ true _ (on_plain explore_shape _ file _ _ f refl refl refl (on explore_shape _ (codes "--stuck") _ _ refl (on explore_shape _ (codes "--after") _ _ refl (on_plain explore_shape _ actor _ _ (plain_begins actor a) refl refl refl (on explore_shape _ (codes "--never") _ _ refl (on_plain explore_shape _ work _ _ (plain_begins work w.0) refl refl refl (on_plain explore_shape _ other _ _ (plain_begins other w.1) refl refl refl (ends explore_shape _)))))))) refl refl refl

pub never_misused : (words : List Text) (name file : Text) (given : NeverGiven) → words ≡ name ∷ codes "explore" ∷ file ∷ given_words given → IsPlainWord file
    → ArePlainGiven given → never_of given ≡ None → IsMisuse words
never_misused words name file given are plain (after, works) none =
    as_misuse (given_met given.stuck given.after given.works file after works (plain_begins file plain)) words name are (none_forbidden (never_of given) [] (limit_from None) (Some file) none)
