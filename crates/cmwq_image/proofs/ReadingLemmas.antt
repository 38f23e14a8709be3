-- The laws of reading: what is read is the image of what it is read as, and what each fault means.
use Rattle.std.proofs.Common.{◌≡◌, ℕ, ◌+◌, ◌<◌, ◌≤◌, Bool, true, false, cond, eqb, List, [], ◌∷◌, ◌++◌, length, take, drop, Option, Some, None, Result, Ok, Err, refl, sym, ap, subst, ◌∙◌, append_assoc, arith}
use Rattle.std.specs.Prelude.{IfOk, IfErr, ◌↔◌}
use Rattle.std.specs.Str.{bytes_eq}
use Rattle.std.proofs.lemmas.Bool.{eqb-true}
use Rattle.std.proofs.lemmas.List.{append-nil, nil_from_length, take-append-drop, take_at, length-append}
use Rattle.std.proofs.lemmas.Slice.Eq.{bytes_eq-Decides}
use Rattle.cmwq_types.specs.Contents.{ScenarioContents}
use Rattle.cmwq_types.specs.Faults.{first_fault, IsValid}
use Rattle.cmwq_types.specs.declared.check.Fault.{Fault}
use Rattle.cmwq_image.specs.FaultMeaning.{IsImageInTwo, BeginsImage, BeginsNoImage, IsBadAt, EndsAt, Means}
use Rattle.cmwq_image.specs.Image.{image, magic}
use Rattle.cmwq_image.specs.ImageFault.{Place, done, scenario_at, judged, unless_faulty, from_there, reading, FailsRead, GivesRead}
use Rattle.cmwq_image.specs.Limits.{AreBytes, HasSize}
use Rattle.cmwq_image.specs.Versions.{HasVersion, IsImageOf}
use Rattle.cmwq_types.specs.Values.{IsScenario}
use Rattle.cmwq_image.specs.declared.error.ImageError.{ImageError}
use Rattle.cmwq_image.specs.declared.error.ImageError.TheVariants as errors
use Rattle.cmwq_image.proofs.Codec.{Stops, Never, place, AreBytes-drop}
use Rattle.cmwq_image.proofs.SizeLemmas.{sized}
use Rattle.cmwq_image.proofs.WholeCodecs.{HasImage, Versioned, images, read_with_version, rest_image, versioned, versioned_at, without_version}

-- ---- where reading comes to the parts

-- what reading gives behind the magic bytes, or Magic
data Start (bytes : List ℕ) : Type 0 where
  Behind : (parts : bytes ≡ magic ++ drop 4 bytes) → (gives : reading bytes ≡ judged (without_version (versioned_at (place 4 (drop 4 bytes))))) → Start bytes
  Without : (never : (rest : List ℕ) → bytes ≡ magic ++ rest → ⊥) → (gives : reading bytes ≡ Err errors.Magic) → Start bytes

start : (bytes : List ℕ) → Start bytes
unfolding reading
start bytes = go (bytes_eq (take 4 bytes) magic) refl
  where
    go : (b : Bool) → bytes_eq (take 4 bytes) magic ≡ b → Start bytes
    go true t =
        let front : take 4 bytes ≡ magic = (bytes_eq-Decides (take 4 bytes) magic).0 t in
        Behind (sym (take-append-drop 4 bytes) ∙ ap (λ (f : List ℕ). f ++ drop 4 bytes) front)
        (ap (λ b. from_there (cond b (Ok (place 4 (drop 4 bytes))) (Err errors.Magic))) t ∙ ap judged (read_with_version (place 4 (drop 4 bytes))))
    go false t =
        Without
        (λ rest e.
        let same : take 4 bytes ≡ magic = ap (take 4) e in
        let yes = (bytes_eq-Decides (take 4 bytes) magic).1 same in
        let never : ⊥ = cc in never)
        (ap (λ b. from_there (cond b (Ok (place 4 (drop 4 bytes))) (Err errors.Magic))) t)

-- ---- what is read

abbrev Found : Result (Versioned × Place) ImageError → ScenarioContents → Type 0
Found r S = (version : ℕ) × (after : Place) × (r ≡ Ok (versioned version S, after)) × (after.rest ≡ []) × (first_fault S ≡ None)

abbrev scenario_done : ScenarioContents → Result ScenarioContents ImageError
scenario_done S = Ok S

same_scenario : (S T : ScenarioContents) → scenario_done S ≡ scenario_done T → S ≡ T
same_scenario S T e = cc

unless_is : (T S : ScenarioContents) (fault : Option Fault) → unless_faulty T fault ≡ Ok S → (fault ≡ None) × (T ≡ S)
unless_is T S None e = (refl, same_scenario T S e)
unless_is T S (Some f) e = absurd cc

judged_found : (r : Result (Versioned × Place) ImageError) (S : ScenarioContents) → judged (without_version r) ≡ Ok S → Found r S
judged_found (Ok found) S e = go (eqb (length found.1.rest) 0) refl e
  where
    go : (b : Bool) → eqb (length found.1.rest) 0 ≡ b → cond b (unless_faulty found.0.1 (first_fault found.0.1)) (Err errors.Extra) ≡ Ok S → Found (Ok found) S
    go true t h =
        let is = unless_is found.0.1 S (first_fault found.0.1) h in
        (found.0.0, found.1, ap (λ (T : ScenarioContents). done (versioned found.0.0 T) found.1) is.1, nil_from_length found.1.rest (eqb-true _ _ t), ap first_fault (sym is.1) ∙ is.0)
    go false t h = absurd cc
judged_found (Err fault) S e = absurd cc

pub reading_takes : (bytes : List ℕ) (S : ScenarioContents) → AreBytes bytes → reading bytes ≡ Ok S → IsScenario S × IsValid S × IsImageOf bytes S
reading_takes bytes S fine e =
    elim (start bytes) [
      | Behind parts gives ↦
          let found : Found (versioned_at (place 4 (drop 4 bytes))) S = judged_found (versioned_at (place 4 (drop 4 bytes))) S (sym gives ∙ e) in
          let p = versioned found.0 S in
          let taken = images.takes 4 (drop 4 bytes) p found.1 (AreBytes-drop 4 bytes fine) found.2 in (
            taken.fits.contents,
            found.4,
            record {
              version = found.0;
              has = taken.fits.has;
              written = parts ∙ ap (λ (b : List ℕ). magic ++ b) (taken.parts ∙ ap (λ (b : List ℕ). rest_image p ++ b) found.3 ∙ append-nil (rest_image p));
            },
          )
      | Without never gives ↦ absurd (let no : ⊥ = cc in no)
    ]

-- an image, and what stands behind it
behind_image : (p : Versioned) (rest : List ℕ) → HasImage p → versioned_at (place 4 (rest_image p ++ rest)) ≡ Ok (p, place (4 + length (rest_image p)) rest)
behind_image p rest fits = images.again 4 p rest fits

whole_image : (p : Versioned) → HasImage p → versioned_at (place 4 (rest_image p)) ≡ Ok (p, place (4 + length (rest_image p)) [])
whole_image p fits = ap (λ (b : List ℕ). versioned_at (place 4 b)) (sym (append-nil (rest_image p))) ∙ behind_image p [] fits

pub image_read : (p : Versioned) → HasImage p → scenario_at (place 4 (rest_image p)) ≡ Ok (p.1, place (4 + length (rest_image p)) [])
image_read p fits = read_with_version (place 4 (rest_image p)) ∙ ap without_version (whole_image p fits)

pub reading_again : (S : ScenarioContents) (version : ℕ) → IsScenario S → IsValid S → HasVersion S version → reading (image version S) ≡ Ok S
unfolding reading
reading_again S version contents valid has =
    ap judged (image_read (versioned version S) (record { contents = contents; sized = sized S valid; has = has }))
    ∙ ap (unless_faulty S) valid

pub image_again : (bytes : List ℕ) (S : ScenarioContents) → IsScenario S → IsValid S → IsImageOf bytes S → reading bytes ≡ Ok S
image_again bytes S contents valid is = ap reading is.written ∙ reading_again S is.version contents valid is.has

pub one_image : (bytes : List ℕ) (S T : ScenarioContents) → IsScenario S → HasSize S → IsScenario T → HasSize T → IsImageOf bytes S → IsImageOf bytes T → S ≡ T
one_image bytes S T cs ss ct st is it =
    let p = versioned is.version S in
    let q = versioned it.version T in
    let first = whole_image p (record { contents = cs; sized = ss; has = is.has }) in
    let second = whole_image q (record { contents = ct; sized = st; has = it.has }) in
    let rests : rest_image p ≡ rest_image q = ap (drop 4) (sym is.written ∙ it.written) in
    let both : done p (place (4 + length (rest_image p)) []) ≡ done q (place (4 + length (rest_image q)) []) =
    sym first ∙ ap (λ (b : List ℕ). versioned_at (place 4 b)) rests ∙ second in
    let pairs : (p, place (4 + length (rest_image p)) []) ≡ (q, place (4 + length (rest_image q)) []) = cc in
    ap (λ (x : Versioned × Place). x.0.1) pairs

-- ---- what `read` says

pub is_found : (bytes : List ℕ) (r : Result ScenarioContents ImageError) → AreBytes bytes → GivesRead (λ (S : ScenarioContents). S) r (reading bytes)
    → IfOk r (λ S. IsScenario S × IsValid S × IsImageOf bytes S)
is_found bytes (Ok S) fine given = reading_takes bytes S fine given
is_found bytes (Err e) fine given = tt

pub is_only : (bytes : List ℕ) (r : Result ScenarioContents ImageError) → GivesRead (λ (S : ScenarioContents). S) r (reading bytes)
    → (S : ScenarioContents) → IsScenario S → IsValid S → IsImageOf bytes S → GivesRead (λ (T : ScenarioContents). T) r (Ok S)
is_only bytes r given S contents valid is = subst (GivesRead (λ (T : ScenarioContents). T) r) (image_again bytes S contents valid is) given

-- ---- what a fault means

-- how a reading of the parts ended
data Ended (r : Result (Versioned × Place) ImageError) (e : ImageError) : Type 0 where
  Stopped : (is : r ≡ Err e) → Ended r e
  More : (p : Versioned) (after : Place) (is : r ≡ Ok (p, after)) (left : 0 < length after.rest) (extra : errors.Extra ≡ e) → Ended r e
  Faulty : (p : Versioned) (after : Place) (fault : Fault) (is : r ≡ Ok (p, after)) (none : after.rest ≡ []) (first : first_fault p.1 ≡ Some fault) (why : errors.Fault fault ≡ e) → Ended r e

faulty_is : (T : ScenarioContents) (fault : Option Fault) (e : ImageError) → unless_faulty T fault ≡ Err e → (f : Fault) × (fault ≡ Some f) × (errors.Fault f ≡ e)
faulty_is T None e h = absurd cc
faulty_is T (Some f) e h = (f, refl, cc)

positive : (xs : List ℕ) → eqb (length xs) 0 ≡ false → 0 < length xs
positive [] t = absurd cc
positive (x ∷ xs) t = omega arith

ended : (r : Result (Versioned × Place) ImageError) (e : ImageError) → judged (without_version r) ≡ Err e → Ended r e
ended (Ok found) e h = go (eqb (length found.1.rest) 0) refl h
  where
    go : (b : Bool) → eqb (length found.1.rest) 0 ≡ b → cond b (unless_faulty found.0.1 (first_fault found.0.1)) (Err errors.Extra) ≡ Err e → Ended (Ok found) e
    go true t g =
        let is = faulty_is found.0.1 (first_fault found.0.1) e g in
        Faulty found.0 found.1 is.0 refl (nil_from_length found.1.rest (eqb-true _ _ t)) is.1 is.2
    go false t g = More found.0 found.1 refl (positive found.1.rest t) (cc)
ended (Err fault) e h = Stopped (cc)

no_image_read : (p : Versioned) (bytes rest : List ℕ) (e : ImageError) → HasImage p → bytes ≡ image p.0 p.1 ++ rest → versioned_at (place 4 (drop 4 bytes)) ≡ Err e → ⊥
no_image_read p bytes rest e fits is stopped =
    let behind : drop 4 bytes ≡ rest_image p ++ rest = ap (drop 4) is in
    let read = ap (λ (b : List ℕ). versioned_at (place 4 b)) behind ∙ behind_image p rest fits in
    cc

begins : (front more : List ℕ) (p : Versioned) → HasImage p → rest_image p ≡ front ++ more → IsImageInTwo (magic ++ front) more
begins front more p fits e = record {
  version = p.0;
  scenario = p.1;
  contents = fits.contents;
  sized = fits.sized;
  has = fits.has;
  bytes = ap (λ (b : List ℕ). magic ++ b) e ∙ sym (append_assoc magic front more);
}

bad_at : (bytes : List ℕ) (e : ImageError) (s : Stops versioned_at rest_image HasImage 4 (drop 4 bytes) e) → bytes ≡ magic ++ drop 4 bytes
    → Never versioned_at 4 s.front s.left e → IsBadAt bytes (4 + length s.front)
bad_at bytes e s parts never =
    let n = 4 + length s.front in
    let first : List ℕ = magic ++ s.front in
    let size : length first ≡ n = omega (arith, length-append magic s.front) in
    let whole : bytes ≡ first ++ (never.bad ++ never.rest) =
    parts ∙ ap (λ (b : List ℕ). magic ++ b) (s.parts ∙ ap (λ (b : List ℕ). s.front ++ b) never.parts) ∙ sym (append_assoc magic s.front (never.bad ++ never.rest)) in
    let front_is : take n bytes ≡ first = ap (take n) whole ∙ take_at first (never.bad ++ never.rest) n size in
    let upto : length (first ++ never.bad) ≡ n + length never.bad = omega (arith, size, length-append first never.bad) in
    let field_is : take (n + length never.bad) bytes ≡ first ++ never.bad =
    ap (take (n + length never.bad)) (whole ∙ sym (append_assoc first never.bad never.rest)) ∙ take_at (first ++ never.bad) never.rest (n + length never.bad) upto in
    let room : n + length never.bad ≤ length bytes =
    omega (arith, ap length whole, length-append first (never.bad ++ never.rest), length-append never.bad never.rest, size) in
    let no : BeginsNoImage (first ++ never.bad) = λ more i.
    let p = versioned i.version i.scenario in
    let behind : rest_image p ≡ s.front ++ (never.bad ++ more) =
    ap (drop 4) (i.bytes ∙ append_assoc first never.bad more ∙ append_assoc magic s.front (never.bad ++ more)) in
    let read = whole_image p (record { contents = i.contents; sized = i.sized; has = i.has }) in
    let stopped = never.never more in
    let same = ap (λ (b : List ℕ). versioned_at (place 4 b)) behind in
    cc in (
      length never.bad,
      never.short,
      room,
      subst BeginsImage (sym front_is) (s.more, begins s.front s.more s.value s.fits s.begins),
      subst BeginsNoImage (sym field_is) no,
    )

ends_at : (bytes : List ℕ) (s : Stops versioned_at rest_image HasImage 4 (drop 4 bytes) errors.Truncated) → bytes ≡ magic ++ drop 4 bytes
    → versioned_at (place 4 (drop 4 bytes)) ≡ Err errors.Truncated → length s.left < 16 → length s.left < length s.more → EndsAt bytes (4 + length s.front)
ends_at bytes s parts stopped short longer =
    let n = 4 + length s.front in
    let first : List ℕ = magic ++ s.front in
    let size : length first ≡ n = omega (arith, length-append magic s.front) in
    let whole : bytes ≡ first ++ s.left = parts ∙ ap (λ (b : List ℕ). magic ++ b) s.parts ∙ sym (append_assoc magic s.front s.left) in
    let front_is : take n bytes ≡ first = ap (take n) whole ∙ take_at first s.left n size in
    let long : length bytes ≡ n + length s.left = omega (arith, ap length whole, length-append first s.left, size) in (
      s.more,
      omega arith,
      omega arith,
      omega arith,
      subst (λ (b : List ℕ). IsImageInTwo b s.more) (sym front_is) (begins s.front s.more s.value s.fits s.begins),
      λ S front rest contents sizes is e.
          no_image_read (versioned is.version S) bytes rest errors.Truncated (record { contents = contents; sized = sizes; has = is.has })
          (e ∙ ap (λ (b : List ℕ). b ++ rest) is.written) stopped,
    )

stopped_means : (bytes : List ℕ) (e : ImageError) → AreBytes bytes → bytes ≡ magic ++ drop 4 bytes → versioned_at (place 4 (drop 4 bytes)) ≡ Err e → Means bytes e
stopped_means bytes e fine parts stopped = go e (images.stops 4 (drop 4 bytes) e (AreBytes-drop 4 bytes fine) stopped) stopped
  where
    go : (e : ImageError) → Stops versioned_at rest_image HasImage 4 (drop 4 bytes) e → versioned_at (place 4 (drop 4 bytes)) ≡ Err e → Means bytes e
    go errors.Truncated s h = (4 + length s.front, ends_at bytes s parts h s.settled.0 s.settled.1)
    go errors.Version s h = (4 + length s.front, bad_at bytes errors.Version s parts s.settled)
    go (errors.BadField n) s h = subst (IsBadAt bytes) (sym s.settled.0) (bad_at bytes (errors.BadField n) s parts s.settled.1)
    go errors.Magic s h = absurd s.settled
    go errors.Extra s h = absurd s.settled
    go (errors.Fault fault) s h = absurd s.settled
    go errors.NoMemory s h = absurd s.settled

taken_image : (bytes : List ℕ) (p : Versioned) (after : Place) → AreBytes bytes → bytes ≡ magic ++ drop 4 bytes → versioned_at (place 4 (drop 4 bytes)) ≡ Ok (p, after)
    → HasImage p × (bytes ≡ image p.0 p.1 ++ after.rest)
taken_image bytes p after fine parts read =
    let taken = images.takes 4 (drop 4 bytes) p after (AreBytes-drop 4 bytes fine) read in
    (taken.fits, parts ∙ ap (λ (b : List ℕ). magic ++ b) taken.parts ∙ sym (append_assoc magic (rest_image p) after.rest))

pub means : (bytes : List ℕ) (e : ImageError) → AreBytes bytes → reading bytes ≡ Err e → Means bytes e
means bytes e fine read =
    elim (start bytes) [
      | Without never gives ↦ subst (Means bytes) (let is : errors.Magic ≡ e = cc in is) never
      | Behind parts gives ↦ elim (ended (versioned_at (place 4 (drop 4 bytes))) e (sym gives ∙ read)) [
        | Stopped is ↦ stopped_means bytes e fine parts is
        | More p after is left extra ↦
            let taken = taken_image bytes p after fine parts is in
            let bytes_are = image p.0 p.1 in
            let long = length-append bytes_are after.rest in
            let front : take (length bytes_are) bytes ≡ bytes_are = ap (take (length bytes_are)) taken.1 ∙ take_at bytes_are after.rest (length bytes_are) refl in
            subst (Means bytes) extra (
              length bytes_are,
              omega (arith, ap length taken.1, long, left),
              (p.1, taken.0.contents, taken.0.sized, record { version = p.0; has = taken.0.has; written = front }),
            )
        | Faulty p after fault is none first why ↦
            let taken = taken_image bytes p after fine parts is in
            let whole : bytes ≡ image p.0 p.1 = taken.1 ∙ ap (λ (b : List ℕ). image p.0 p.1 ++ b) none ∙ append-nil (image p.0 p.1) in
            subst (Means bytes) why
            (p.1, taken.0.contents, taken.0.sized, record { version = p.0; has = taken.0.has; written = whole }, first)
      ]
    ]

-- a fault that a function returned
pub is_meant : (bytes : List ℕ) (r : Result ScenarioContents ImageError) → AreBytes bytes → GivesRead (λ (S : ScenarioContents). S) r (reading bytes) → IfErr r (λ e. Means bytes e)
is_meant bytes (Ok S) fine given = tt
is_meant bytes (Err e) fine given = go e given
  where
    go : (e : ImageError) → FailsRead e (reading bytes) → Means bytes e
    go errors.NoMemory h = tt
    go errors.Magic h = means bytes errors.Magic fine h
    go errors.Version h = means bytes errors.Version fine h
    go errors.Truncated h = means bytes errors.Truncated fine h
    go errors.Extra h = means bytes errors.Extra fine h
    go (errors.BadField n) h = means bytes (errors.BadField n) fine h
    go (errors.Fault fault) h = means bytes (errors.Fault fault) fine h

-- bytes are read as a scenario exactly where they are its image
pub read_exactly : (bytes : List ℕ) (S : ScenarioContents) → AreBytes bytes → (reading bytes ≡ Ok S) ↔ (IsScenario S × IsValid S × IsImageOf bytes S)
read_exactly bytes S fine = (reading_takes bytes S fine, λ h. image_again bytes S h.0 h.1 h.2)
