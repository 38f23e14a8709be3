-- The letters by which the text of a picture calls works: each has one of its own, where there are letters enough.
use Rattle.std.specs.Prelude.{ℕ, ◌+◌, Bool, false, not, ◌&&◌, ◌||◌, List, [], ◌∷◌, ◌++◌, codes, length, Option, Some, None, if◌then◌else◌, nat_le, ◌==◌}
use Rattle.std.specs.List.{filter, find, list_any, slice_get}
use Rattle.cmwq_types.specs.Contents.{ScenarioContents, WorkContents}
use Rattle.cmwq_types.specs.Scenario.{work_at}
use Rattle.cmwq_picture.specs.declared.cell.Sign.TheVariants as sign
use Rattle.cmwq_picture.specs.declared.row.Title.{Title}
use Rattle.cmwq_picture.specs.declared.row.Title.TheVariants as title
use Rattle.cmwq_render.specs.Legend.{sign_mark}

-- the letters that there are, from the first to be given on; x comes last, since it is also the sign of an inactive work
abbrev pub alphabet : List ℕ
alphabet = codes "abcdefghijklmnopqrstuvwyzABCDEFGHIJKLMNOPQRSTUVWXYZ0123456789x"

abbrev pub is_letter : ℕ → Bool
is_letter c = list_any (λ letter. letter == c) alphabet

-- the name begins with the letter
abbrev pub begins_with : ℕ → List ℕ → Bool
begins_with c [] = false
begins_with c (first ∷ others) = first == c

-- of the works from this number on, one that isn't w has a name that begins with the letter
abbrev pub begins_another : ℕ → ℕ → ℕ → List WorkContents → Bool
begins_another w c at [] = false
begins_another w c at (work ∷ works) = (not (at == w) && begins_with c work.name) || begins_another w c (at + 1) works

-- a letter that stands for no sign: of the signs one alone is a letter
abbrev pub is_no_sign : ℕ → Bool
is_no_sign c = not (c == sign_mark sign.Inactive)

-- the letter is no sign, and begins no other work's name
abbrev pub is_spare : List WorkContents → ℕ → ℕ → Bool
is_spare works w c = is_no_sign c && not (begins_another w c 0 works)

-- What a work could be called by, the best first: the spare letters of its name, then the other spare ones, and then all.
abbrev pub candidates : List WorkContents → ℕ → List ℕ → List ℕ
candidates works w name = filter (is_spare works w) (name ++ alphabet) ++ alphabet

abbrev pub is_free : List ℕ → ℕ → Bool
is_free given c = is_letter c && not (list_any (λ letter. letter == c) given)

-- the first that none was given yet
abbrev pub free_letter : Option ℕ → ℕ
free_letter (Some c) = c
free_letter None = 63

abbrev pub letter_of : List WorkContents → ℕ → List ℕ → List ℕ → ℕ
letter_of works w name given = free_letter (find (is_free given) (candidates works w name))

-- the letters of the works from the number w on, where those before have these
abbrev pub letters_from : List WorkContents → List ℕ → ℕ → List WorkContents → List ℕ
letters_from works given w [] = given
letters_from works given w (work ∷ others) = letters_from works (given ++ letter_of works w work.name given ∷ []) (w + 1) others

-- a letter for each work; none where there are more works than letters
abbrev pub letters : ScenarioContents → List ℕ
letters S = if nat_le (length S.works) 62 then letters_from S.works [] 0 S.works else []

-- the letter that is shown in front of a name: none where it is the name
abbrev pub unless_name : List ℕ → Option ℕ → Option ℕ
unless_name name None = None
unless_name name (Some c) = if (length name == 1) && begins_with c name then None else Some c

-- the letter in front of a row
abbrev pub letter_shown : ScenarioContents → List ℕ → Title → Option ℕ
letter_shown S letters (title.Work w) = unless_name (work_at S w.0).name (slice_get letters w.0)
letter_shown S letters (title.Pending w) = unless_name (work_at S w.0).name (slice_get letters w.0)
letter_shown S letters other = None

abbrev pub letter_before : Option ℕ → List ℕ
letter_before None = []
letter_before (Some c) = c ∷ 32 ∷ []
