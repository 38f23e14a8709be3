-- How clap goes over the words behind a command's name, an equation a word: what several words that aren't known come to takes too
-- long to compute at once.
use Rattle.std.proofs.Common.{ap, ap₂, sym, subst, ◌≡◌, ◌∙◌, ◌==◌, ◌&&◌, ◌||◌, ℕ, Bool, List, [], ◌∷◌, ◌++◌, true, false, Option, None, Some, codes, fold, refl}
use Rattle.std.specs.Prelude.{find, is_some, unwrap_or}
use Rattle.std.specs.List.{list_all}
use Rattle.clap.specs.Walk.{Held, Names, Rule, Step, Text, Waiting, Walk, after_step, answers_to, finished, nothing_held, plain_word, walk, walk_from, walked, walked_from, word_met}
use Rattle.clap.specs.Walk.Waiting.{idle, option, positional}
use Rattle.clap.specs.Simple.{Shape, built, entered, is_simple, label_of, names_of, new_shape, subcommand_of}
use Rattle.clap.specs.Takes.{default_passes, entered_passes, is_valid, level_passes, settle_passes, step_passes, takes, turn_passes, walk_passes, word_passes}
use Rattle.clap.proofs.OnLiterals.{clap_on_literals}
use Rattle.clap.proofs.WalkLemmas.{walk_stopped}
use Rattle.cmwq_command_line.specs.CommandLine.{command_line}

-- One word.

-- a word that begins with a hyphen (45) and is more than that
abbrev pub is_option_word : Text → Bool
is_option_word [] = false
is_option_word (first ∷ []) = false
is_option_word (first ∷ second ∷ rest) = first == 45

-- the walk after a word that doesn't
abbrev pub plain_walked : List Rule → Walk → Text → Walk
plain_walked c w word = after_step c word w (plain_word c w.waiting word w.held).0 (plain_word c w.waiting word w.held).1

abbrev pub plain_passes : Shape → Walk → Text → Bool
plain_passes s w word = step_passes s w.position (plain_word s.rules w.waiting word w.held).0 (plain_word s.rules w.waiting word w.held).1

one_letter_met : (c : List Rule) (waiting : Waiting) (position : ℕ) (first : ℕ) (h : Held) (hyphen : Bool) → (first == 45) ≡ hyphen
    → word_met c [] false waiting position (first ∷ []) h ≡ plain_word c waiting (first ∷ []) h
one_letter_met c idle position first h true e = rw e (rw e refl)
one_letter_met c (option id) position first h true e = rw e (rw e refl)
one_letter_met c positional position first h true e = rw e (rw e refl)
one_letter_met c idle position first h false e = rw e (rw e refl)
one_letter_met c (option id) position first h false e = rw e (rw e refl)
one_letter_met c positional position first h false e = rw e (rw e refl)

plain_met : (c : List Rule) (waiting : Waiting) (position : ℕ) (word : Text) (h : Held) → is_option_word word ≡ false
    → word_met c [] false waiting position word h ≡ plain_word c waiting word h
plain_met c idle position [] h e = refl
plain_met c (option id) position [] h e = refl
plain_met c positional position [] h e = refl
plain_met c waiting position (first ∷ []) h e = one_letter_met c waiting position first h (first == 45) refl
plain_met c idle position (first ∷ second ∷ rest) h e = rw e (rw e refl)
plain_met c (option id) position (first ∷ second ∷ rest) h e = rw e (rw e refl)
plain_met c positional position (first ∷ second ∷ rest) h e = rw e (rw e refl)

one_letter_passes : (s : Shape) (waiting : Waiting) (first : ℕ) (h : Held) (hyphen : Bool) → (first == 45) ≡ hyphen
    → word_passes s [] false waiting (first ∷ []) h ≡ true
one_letter_passes s idle first h true e = rw e (rw e refl)
one_letter_passes s (option id) first h true e = rw e (rw e refl)
one_letter_passes s positional first h true e = rw e (rw e refl)
one_letter_passes s idle first h false e = rw e (rw e refl)
one_letter_passes s (option id) first h false e = rw e (rw e refl)
one_letter_passes s positional first h false e = rw e (rw e refl)

plain_word_passes : (s : Shape) (waiting : Waiting) (word : Text) (h : Held) → is_option_word word ≡ false
    → word_passes s [] false waiting word h ≡ true
plain_word_passes s idle [] h e = refl
plain_word_passes s (option id) [] h e = refl
plain_word_passes s positional [] h e = refl
plain_word_passes s waiting (first ∷ []) h e = one_letter_passes s waiting first h (first == 45) refl
plain_word_passes s idle (first ∷ second ∷ rest) h e = rw e (rw e refl)
plain_word_passes s (option id) (first ∷ second ∷ rest) h e = rw e (rw e refl)
plain_word_passes s positional (first ∷ second ∷ rest) h e = rw e (rw e refl)

plain_is : (c : List Rule) (w : Walk) (word : Text) → is_option_word word ≡ false → w.stopped ≡ None → w.is_trailing ≡ false
    → walked c [] w word ≡ plain_walked c w word
unfolding walked
plain_is c w word e none going =
    ap (λ (o : Option (Text × List Text)). walked_from c [] o w word) none
    ∙ ap (λ (t : Bool). after_step c word w (word_met c [] t w.waiting w.position word w.held).0 (word_met c [] t w.waiting w.position word w.held).1) going
    ∙ ap (λ (met : Held × Step). after_step c word w met.0 met.1) (plain_met c w.waiting w.position word w.held e)

either : (a b : Bool) → b ≡ true → (a || b) ≡ true
either true b is = refl
either false b is = is

plain_turn : (s : Shape) (w : Walk) (word : Text) → is_option_word word ≡ false → w.is_trailing ≡ false → plain_passes s w word ≡ true
    → turn_passes s [] w word ≡ true
plain_turn s w word e going passes =
    let turn : Bool → Bool = λ t. word_passes s [] t w.waiting word w.held
    && step_passes s w.position (word_met s.rules [] t w.waiting w.position word w.held).0 (word_met s.rules [] t w.waiting w.position word w.held).1 in
    let at_met : turn false ≡ (true && plain_passes s w word) =
    ap₂ (λ (b : Bool) (met : Held × Step). b && step_passes s w.position met.0 met.1)
    (plain_word_passes s w.waiting word w.held e)
    (plain_met s.rules w.waiting w.position word w.held e) in
    either (is_some w.stopped) (turn w.is_trailing) (ap turn going ∙ at_met ∙ passes)

-- All words.

-- a walk over these words passes, and ends so
pub record Goes (s : Shape) (w : Walk) (words : List Text) (end : Walk) : Type 0 where
  pub walk_is : fold (walked s.rules []) w words ≡ end
  pub passes : walk_passes s [] w words ≡ true

pub ends : (s : Shape) (w : Walk) → Goes s w [] w
unfolding walk_passes
ends s w = record { walk_is = refl; passes = refl }

-- over one more word, whatever it is
pub on : (s : Shape) (w : Walk) (word : Text) (words : List Text) (end : Walk) → turn_passes s [] w word ≡ true → Goes s (walked s.rules [] w word) words end
    → Goes s w (word ∷ words) end
unfolding walk_passes
on s w word words end turn it = record { walk_is = it.walk_is; passes = ap₂ (λ (a b : Bool). a && b) turn it.passes }

-- over one more word that doesn't begin with a hyphen
pub on_plain : (s : Shape) (w : Walk) (word : Text) (words : List Text) (end : Walk) → is_option_word word ≡ false → w.stopped ≡ None → w.is_trailing ≡ false
    → plain_passes s w word ≡ true → Goes s (plain_walked s.rules w word) words end → Goes s w (word ∷ words) end
on_plain s w word words end e none going passes it =
    on s w word words end (plain_turn s w word e going passes)
    (subst (λ (v : Walk). Goes s v words end) (sym (plain_is s.rules w word e none going)) it)

-- Behind a command's name.

-- the words behind it are left to the command
abbrev stopped : Text → List Text → Walk
stopped command words = record (walk_from nothing_held) { stopped = Some (command, words) }

-- what of a walk makes that the words pass
abbrev passes_at : Walk → Bool → Bool
passes_at end passes =
    let line = built command_line in
    entered_passes line end.stopped
    && (passes
    && (settle_passes line.top.rules line.top.args_override_self end.held
    && (list_all default_passes line.top.rules && is_valid line.top (finished line.top.rules end.held) (is_some (entered line end.stopped)))))

-- the line has a command of this name and shape
pub record HasCommand (command : Text) (shape : Shape) : Type 0 where
  stops : walked (built command_line).top.rules (names_of (built command_line)) (walk_from nothing_held) command ≡ stopped command []
  passes : (words : List Text) → walk_passes (built command_line).top (names_of (built command_line)) (walk_from nothing_held) (command ∷ words) ≡ true
  ends : (words : List Text) → level_passes shape [] nothing_held words false ≡ true → passes_at (stopped command words) true ≡ true
  enters : (words : List Text) → entered (built command_line) (Some (command, words)) ≡ Some (command, finished shape.rules (walk shape.rules [] nothing_held words).held)

stopped_passes : (s : Shape) (names : Names) (w : Walk) (name : Text) (seen words : List Text)
    → walk_passes s names (record w { stopped = Some (name, seen) }) words ≡ true
unfolding walked walk_passes
stopped_passes s names w name seen [] = refl
stopped_passes s names w name seen (word ∷ words) = stopped_passes s names w name (seen ++ word ∷ []) words

simple_line : is_simple command_line ≡ true
unfolding clap_on_literals
simple_line = refl

-- what is left to see once a command's walk has ended
abbrev pub end_passes : Shape → Walk → Bool
end_passes shape end =
    settle_passes shape.rules shape.args_override_self end.held
    && (list_all default_passes shape.rules && is_valid shape (finished shape.rules end.held) false)

module _ {command : Text} {shape : Shape} (has : HasCommand command shape) where
  walk_to : (words : List Text) → walk (built command_line).top.rules (names_of (built command_line)) nothing_held (command ∷ words) ≡ stopped command words
  walk_to words = ap (λ (w : Walk). fold (walked (built command_line).top.rules (names_of (built command_line))) w words) has.stops
      ∙ sym (walk_stopped _ _ (walk_from nothing_held) command [] words)

  takes_if : (name : Text) (words : List Text) → level_passes shape [] nothing_held words false ≡ true → takes command_line (name ∷ command ∷ words) ≡ true
  takes_if name words level =
      ap₂ (λ (a b : Bool). a && b) simple_line (ap₂ passes_at (walk_to words) (has.passes words) ∙ has.ends words level)

  entered_is : (name : Text) (words : List Text)
      → subcommand_of command_line (name ∷ command ∷ words) ≡ Some (command, finished shape.rules (walk shape.rules [] nothing_held words).held)
  entered_is name words = ap (λ (w : Walk). entered (built command_line) w.stopped) (walk_to words) ∙ has.enters words

  -- such words are taken, and this is met
  pub taken : (name : Text) (words : List Text) (end : Walk) → Goes shape (walk_from nothing_held) words end → end_passes shape end ≡ true
      → (takes command_line (name ∷ command ∷ words) ≡ true) × (subcommand_of command_line (name ∷ command ∷ words) ≡ Some (command, finished shape.rules end.held))
  taken name words end goes passes =
      let level : level_passes shape [] nothing_held words false ≡ (true && end_passes shape end) =
      ap₂ (λ (b : Bool) (w : Walk). b && end_passes shape w) goes.passes goes.walk_is in
      (takes_if name words (level ∙ passes), entered_is name words ∙ ap (λ (w : Walk). Some (command, finished shape.rules w.held)) goes.walk_is)

-- The commands that take several options.

abbrev shape_of : Text → Shape
shape_of command = unwrap_or (find (λ s. answers_to command (label_of s)) (built command_line).subs) (new_shape [])

unfoldable pub why_shape : Shape
why_shape = shape_of (codes "why")

unfoldable pub draw_shape : Shape
draw_shape = shape_of (codes "draw")

pub has_why : HasCommand (codes "why") why_shape
unfolding clap_on_literals why_shape
has_why = record {
  stops = refl;
  passes = λ words. stopped_passes (built command_line).top (names_of (built command_line)) (walk_from nothing_held) (codes "why") [] words;
  ends = λ words level. rw level refl;
  enters = λ words. refl;
}

pub has_draw : HasCommand (codes "draw") draw_shape
unfolding clap_on_literals draw_shape
has_draw = record {
  stops = refl;
  passes = λ words. stopped_passes (built command_line).top (names_of (built command_line)) (walk_from nothing_held) (codes "draw") [] words;
  ends = λ words level. rw level refl;
  enters = λ words. refl;
}

unfoldable pub debug_shape : Shape
debug_shape = shape_of (codes "debug")

pub has_debug : HasCommand (codes "debug") debug_shape
unfolding clap_on_literals debug_shape
has_debug = record {
  stops = refl;
  passes = λ words. stopped_passes (built command_line).top (names_of (built command_line)) (walk_from nothing_held) (codes "debug") [] words;
  ends = λ words level. rw level refl;
  enters = λ words. refl;
}

unfoldable pub explore_shape : Shape
explore_shape = shape_of (codes "explore")

pub has_explore : HasCommand (codes "explore") explore_shape
unfolding clap_on_literals explore_shape
has_explore = record {
  stops = refl;
  passes = λ words. stopped_passes (built command_line).top (names_of (built command_line)) (walk_from nothing_held) (codes "explore") [] words;
  ends = λ words level. rw level refl;
  enters = λ words. refl;
}

unfoldable pub times_shape : Shape
times_shape = shape_of (codes "times")

pub has_times : HasCommand (codes "times") times_shape
unfolding clap_on_literals times_shape
has_times = record {
  stops = refl;
  passes = λ words. stopped_passes (built command_line).top (names_of (built command_line)) (walk_from nothing_held) (codes "times") [] words;
  ends = λ words level. rw level refl;
  enters = λ words. refl;
}

unfoldable pub trace_shape : Shape
trace_shape = shape_of (codes "trace")

pub has_trace : HasCommand (codes "trace") trace_shape
unfolding clap_on_literals trace_shape
has_trace = record {
  stops = refl;
  passes = λ words. stopped_passes (built command_line).top (names_of (built command_line)) (walk_from nothing_held) (codes "trace") [] words;
  ends = λ words level. rw level refl;
  enters = λ words. refl;
}
