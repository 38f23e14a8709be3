-- What a reader and the fields that it reads have to do with one another.
use Rattle.std.proofs.Common.{◌≡◌, ℕ, ◌+◌, ◌<◌, ◌≤◌, ◌⊎◌, inl, inr, true, false, cond, ltb, List, [], ◌++◌, length, take, drop, Option, Some, None, Result, Ok, Err, refl, sym, ap, subst, ◌∙◌, append_assoc, arith}
use Rattle.std.proofs.lemmas.Bool.{cases_lt, le-ltb, lt-ltb}
use Rattle.std.proofs.lemmas.List.{take_at, drop_at, take-append-drop, length-append, length-take, get_or-drop, get_or-take, get_or_past}
use Rattle.cmwq_image.specs.declared.error.ImageError.{ImageError}
use Rattle.cmwq_image.specs.declared.error.ImageError.TheVariants as errors
use Rattle.cmwq_image.specs.ImageFault.{Place, Reader, ◌>>=◌, hand_on, done, field, accepted, behind}
use Rattle.cmwq_image.specs.Limits.{AreBytes}

abbrev pub place : ℕ → List ℕ → Place
place at rest = record { at = at; rest = rest }

pub AreBytes-drop : (n : ℕ) (bytes : List ℕ) → AreBytes bytes → AreBytes (drop n bytes)
AreBytes-drop n bytes h i = rw get_or-drop (h (n + i))

pub AreBytes-take : (n : ℕ) (bytes : List ℕ) → AreBytes bytes → AreBytes (take n bytes)
AreBytes-take n bytes h i =
    elim (cases_lt i n) [
      | inl lt ↦ rw (get_or-take n bytes i 0 lt) (h i)
      | inr le ↦ rw (get_or_past (take n bytes) i 0 (omega (arith, length-take n bytes))) (omega arith)
    ]

pub AreBytes-rest : (bytes front rest : List ℕ) → bytes ≡ front ++ rest → AreBytes bytes → AreBytes rest
AreBytes-rest bytes front rest parts h =
    subst AreBytes (ap (drop (length front)) parts ∙ drop_at front rest (length front) refl) (AreBytes-drop (length front) bytes h)

-- what was read: a value that fits, the bytes that it is written as, and the place behind them
pub record Taken {A : Type 0} (write : A → List ℕ) (Fits : A → Type 0) (at : ℕ) (bytes : List ℕ) (x : A) (after : Place) : Type 0 where
  pub fits : Fits x
  pub parts : bytes ≡ write x ++ after.rest
  pub ahead : after.at ≡ at + length (write x)

-- whatever follows this field, reading ends with this fault
pub record Never {A : Type 0} (read : Reader A) (at : ℕ) (front left : List ℕ) (e : ImageError) : Type 0 where
  pub bad : List ℕ
  pub rest : List ℕ
  pub parts : left ≡ bad ++ rest
  pub short : length bad ≤ 16
  pub never : (other : List ℕ) → read (place at (front ++ (bad ++ other))) ≡ Err e

-- a fault behind these bytes, where these are left and these others would go on
abbrev pub Settled : {A : Type 0} → Reader A → ℕ → (front left more : List ℕ) → ImageError → Type 0
Settled read at front left more errors.Truncated = (length left < 16) × (length left < length more)
Settled read at front left more errors.Version = Never read at front left errors.Version
Settled read at front left more (errors.BadField n) = (n ≡ at + length front) × Never read at front left (errors.BadField n)
Settled read at front left more errors.Magic = ⊥
Settled read at front left more errors.Extra = ⊥
Settled read at front left more (errors.Fault fault) = ⊥
Settled read at front left more errors.NoMemory = ⊥

-- a reading that ended with a fault: some value's fields begin with the bytes before it
pub record Stops {A : Type 0} (read : Reader A) (write : A → List ℕ) (Fits : A → Type 0) (at : ℕ) (bytes : List ℕ) (e : ImageError) : Type 0 where
  pub front : List ℕ
  pub left : List ℕ
  pub more : List ℕ
  pub value : A
  pub fits : Fits value
  pub parts : bytes ≡ front ++ left
  pub begins : write value ≡ front ++ more
  pub settled : Settled read at front left more e

-- a reader reads just what is written of the values that fit
pub record Codec {A : Type 0} (read : Reader A) (write : A → List ℕ) (Fits : A → Type 0) : Type 0 where
  pub takes : (at : ℕ) (bytes : List ℕ) (x : A) (after : Place) → AreBytes bytes → read (place at bytes) ≡ Ok (x, after) → Taken write Fits at bytes x after
  pub again : (at : ℕ) (x : A) (rest : List ℕ) → Fits x → read (place at (write x ++ rest)) ≡ Ok (x, place (at + length (write x)) rest)
  pub stops : (at : ℕ) (bytes : List ℕ) (e : ImageError) → AreBytes bytes → read (place at bytes) ≡ Err e → Stops read write Fits at bytes e
  pub some : A
  pub some_fits : Fits some

-- ---- nothing

-- two readings that agree
same_read : {A : Type 0} (x y : A) (p q : Place) → done x p ≡ done y q → (x ≡ y) × (p ≡ q)
same_read {A} x y p q e =
    let pairs : (x, p) ≡ (y, q) = cc in
    (ap (λ (t : A × Place). t.0) pairs, ap (λ (t : A × Place). t.1) pairs)

done_is : {A : Type 0} (v x : A) (here after : Place) → done v here ≡ Ok (x, after) → (x ≡ v) × (after ≡ here)
done_is v x here after e = let same = same_read v x here after e in (sym same.0, sym same.1)

done_stops : {A : Type 0} (v : A) (here : Place) (e : ImageError) → done v here ≡ Err e → ⊥
done_stops v here e h = cc

pub nothing : {A : Type 0} (v : A) → Codec (done v) (λ y. []) (λ y. y ≡ v)
nothing {A} v = record {
  takes = λ at bytes x after h e.
      let is = done_is v x (place at bytes) after e in
      record { fits = is.0; parts = ap (λ (p : Place). p.rest) (sym is.1); ahead = ap (λ (p : Place). p.at) is.1 ∙ omega arith };
  again = λ at x rest is. ap (λ (y : A). done y (place at rest)) (sym is) ∙ ap (λ (n : ℕ). done x (place n rest)) (omega arith);
  stops = λ at bytes e h stopped. absurd (done_stops v (place at bytes) e stopped);
  some = v;
  some_fits = refl;
}

-- ---- one field

pub record Meaning {A : Type 0} (size : ℕ) (meaning : List ℕ → Option A) (write : A → List ℕ) (Fits : A → Type 0) : Type 0 where
  pub small : size ≤ 16
  pub takes : (bytes : List ℕ) (x : A) → AreBytes bytes → length bytes ≡ size → meaning bytes ≡ Some x → Fits x × (bytes ≡ write x)
  pub again : (x : A) → Fits x → meaning (write x) ≡ Some x
  pub long : (x : A) → Fits x → length (write x) ≡ size
  pub some : A
  pub some_fits : Fits some

accepted_is : {A : Type 0} (fault : ImageError) (after q : Place) (found : Option A) (x : A) → accepted fault after found ≡ Ok (x, q) → (found ≡ Some x) × (q ≡ after)
accepted_is {A} fault after q (Some y) x e = let same = same_read y x after q e in (ap (λ (z : A). Some z) same.0, sym same.1)
accepted_is fault after q None x e = absurd cc

refused_is : {A : Type 0} (fault e : ImageError) (after : Place) (found : Option A) → accepted fault after found ≡ Err e → (found ≡ None) × (e ≡ fault)
refused_is fault e after (Some y) h = absurd cc
refused_is fault e after None h = (refl, cc)

pub open_field : {A : Type 0} (fault : ℕ → ImageError) (size : ℕ) (meaning : List ℕ → Option A) (here : Place) → size ≤ length here.rest
    → field fault size meaning here ≡ accepted (fault here.at) (behind size here) (meaning (take size here.rest))
open_field fault size meaning here h =
    let long : ltb (length here.rest) size ≡ false = le-ltb _ _ h in
    ap (λ b. cond b (Err errors.Truncated) (accepted (fault here.at) (behind size here) (meaning (take size here.rest)))) long

short_field : {A : Type 0} (fault : ℕ → ImageError) (size : ℕ) (meaning : List ℕ → Option A) (here : Place) → length here.rest < size
    → field fault size meaning here ≡ Err errors.Truncated
short_field fault size meaning here h =
    let short : ltb (length here.rest) size ≡ true = lt-ltb _ _ h in
    ap (λ b. cond b (Err errors.Truncated) (accepted (fault here.at) (behind size here) (meaning (take size here.rest)))) short

field_takes : {A : Type 0} (fault : ℕ → ImageError) (size : ℕ) (meaning : List ℕ → Option A) (write : A → List ℕ) (Fits : A → Type 0) → Meaning size meaning write Fits
    → (at : ℕ) (bytes : List ℕ) (x : A) (after : Place) → AreBytes bytes → field fault size meaning (place at bytes) ≡ Ok (x, after) → Taken write Fits at bytes x after
field_takes {A} fault size meaning write Fits means at bytes x after fine e =
    elim (cases_lt (length bytes) size) [
      | inl less ↦ absurd (let short = short_field fault size meaning (place at bytes) less in cc)
      | inr long ↦
          let found = accepted_is (fault at) (behind size (place at bytes)) after (meaning (take size bytes)) x (sym (open_field fault size meaning (place at bytes) long) ∙ e) in
          let front : length (take size bytes) ≡ size = omega (arith, length-take size bytes) in
          let meant = means.takes (take size bytes) x (AreBytes-take size bytes fine) front found.0 in
          record {
            fits = meant.0;
            parts = sym (take-append-drop size bytes) ∙ ap (λ (f : List ℕ). f ++ drop size bytes) meant.1 ∙ ap (λ (p : Place). write x ++ p.rest) (sym found.1);
            ahead = ap (λ (p : Place). p.at) found.1 ∙ ap (λ n. at + n) (sym (means.long x meant.0));
          }
    ]

field_again : {A : Type 0} (fault : ℕ → ImageError) (size : ℕ) (meaning : List ℕ → Option A) (write : A → List ℕ) (Fits : A → Type 0) → Meaning size meaning write Fits
    → (at : ℕ) (x : A) (rest : List ℕ) → Fits x → field fault size meaning (place at (write x ++ rest)) ≡ Ok (x, place (at + length (write x)) rest)
field_again {A} fault size meaning write Fits means at x rest fits =
    let long : length (write x) ≡ size = means.long x fits in
    let front : take size (write x ++ rest) ≡ write x = take_at (write x) rest size long in
    let back : drop size (write x ++ rest) ≡ rest = drop_at (write x) rest size long in
    open_field fault size meaning (place at (write x ++ rest)) (omega (arith, length-append (write x) rest))
    ∙ ap (λ (found : Option A). accepted (fault at) (behind size (place at (write x ++ rest))) found) (ap meaning front ∙ means.again x fits)
    ∙ ap (λ (b : List ℕ). done x (place (at + size) b)) back
    ∙ ap (λ n. done x (place (at + n) rest)) (sym long)

-- what a fault of one field settles
abbrev pub IsFieldFault : (ℕ → ImageError) → Type 1
IsFieldFault fault = (A : Type 0) (read : Reader A) (at : ℕ) (left more : List ℕ) → Never read at [] left (fault at) → Settled read at [] left more (fault at)

pub bad_field : IsFieldFault errors.BadField
bad_field A read at left more never = (omega arith, never)

pub bad_version : IsFieldFault (λ at. errors.Version)
bad_version A read at left more never = never

field_stops : {A : Type 0} (fault : ℕ → ImageError) → IsFieldFault fault → (size : ℕ) (meaning : List ℕ → Option A) (write : A → List ℕ) (Fits : A → Type 0) → Meaning size meaning write Fits
    → (at : ℕ) (bytes : List ℕ) (e : ImageError) → field fault size meaning (place at bytes) ≡ Err e → Stops (field fault size meaning) write Fits at bytes e
field_stops {A} fault settles size meaning write Fits means at bytes e stopped =
    elim (cases_lt (length bytes) size) [
      | inl less ↦
          let short = short_field fault size meaning (place at bytes) less in
          let e_is : errors.Truncated ≡ e = cc in
          subst (λ (x : ImageError). Stops (field fault size meaning) write Fits at bytes x) e_is (record {
            front = [];
            left = bytes;
            more = write means.some;
            value = means.some;
            fits = means.some_fits;
            parts = refl;
            begins = refl;
            settled = (omega (arith, means.small), omega (arith, means.long means.some means.some_fits));
          })
      | inr long ↦
          let found = refused_is (fault at) e (behind size (place at bytes)) (meaning (take size bytes)) (sym (open_field fault size meaning (place at bytes) long) ∙ stopped) in
          let front : length (take size bytes) ≡ size = omega (arith, length-take size bytes) in
          let never : (other : List ℕ) → field fault size meaning (place at ([] ++ (take size bytes ++ other))) ≡ Err (fault at) = λ other.
          open_field fault size meaning (place at (take size bytes ++ other)) (omega (arith, length-append (take size bytes) other))
          ∙ ap (λ (f : Option A). accepted (fault at) (behind size (place at (take size bytes ++ other))) f) (ap meaning (take_at (take size bytes) other size front) ∙ found.0) in
          subst (λ (x : ImageError). Stops (field fault size meaning) write Fits at bytes x) (sym found.1) (record {
            front = [];
            left = bytes;
            more = write means.some;
            value = means.some;
            fits = means.some_fits;
            parts = refl;
            begins = refl;
            settled = settles A (field fault size meaning) at bytes (write means.some) (record {
              bad = take size bytes;
              rest = drop size bytes;
              parts = sym (take-append-drop size bytes);
              short = omega (arith, means.small);
              never = never;
            });
          })
    ]

pub of_field : {A : Type 0} (fault : ℕ → ImageError) → IsFieldFault fault → (size : ℕ) (meaning : List ℕ → Option A) (write : A → List ℕ) (Fits : A → Type 0) → Meaning size meaning write Fits
    → Codec (field fault size meaning) write Fits
of_field fault settles size meaning write Fits means = record {
  takes = field_takes fault size meaning write Fits means;
  again = field_again fault size meaning write Fits means;
  stops = λ at bytes e fine stopped. field_stops fault settles size meaning write Fits means at bytes e stopped;
  some = means.some;
  some_fits = means.some_fits;
}

-- ---- one after the other

abbrev Handed : {A B : Type 0} → (A → Reader B) → Result (A × Place) ImageError → B → Place → Type 0
Handed {A} next r y after = (x : A) × (mid : Place) × (r ≡ Ok (x, mid)) × (next x mid ≡ Ok (y, after))

handed : {A B : Type 0} (next : A → Reader B) (r : Result (A × Place) ImageError) (y : B) (after : Place) → hand_on next r ≡ Ok (y, after) → Handed next r y after
handed next (Ok found) y after e = (found.0, found.1, refl, e)
handed next (Err fault) y after e = absurd cc

stopped_by : {A B : Type 0} (next : A → Reader B) (r : Result (A × Place) ImageError) (e : ImageError) → hand_on next r ≡ Err e
    → (r ≡ Err e) ⊎ ((x : A) × (mid : Place) × (r ≡ Ok (x, mid)) × (next x mid ≡ Err e))
stopped_by next (Ok found) e h = inr (found.0, found.1, refl, h)
stopped_by next (Err fault) e h = inl (cc)

settled_before : {A B : Type 0} (first : Reader A) (next : A → Reader B) (at : ℕ) (front left more extra : List ℕ) (e : ImageError)
    → Settled first at front left more e → Settled (first >>= next) at front left (more ++ extra) e
settled_before first next at front left more extra errors.Truncated s = (s.0, omega (arith, s.1, length-append more extra))
settled_before first next at front left more extra errors.Version s = record { bad = s.bad; rest = s.rest; parts = s.parts; short = s.short; never = λ other. ap (hand_on next) (s.never other) }
settled_before first next at front left more extra (errors.BadField n) s =
    (s.0, record { bad = s.1.bad; rest = s.1.rest; parts = s.1.parts; short = s.1.short; never = λ other. ap (hand_on next) (s.1.never other) })
settled_before first next at front left more extra errors.Magic s = s
settled_before first next at front left more extra errors.Extra s = s
settled_before first next at front left more extra (errors.Fault fault) s = s
settled_before first next at front left more extra errors.NoMemory s = s

never_behind : {A B : Type 0} (first : Reader A) (next : A → Reader B) (at : ℕ) (x : A) (written front left : List ℕ) (e : ImageError)
    → ((rest : List ℕ) → first (place at (written ++ rest)) ≡ Ok (x, place (at + length written) rest))
    → Never (next x) (at + length written) front left e → Never (first >>= next) at (written ++ front) left e
never_behind {A} first next at x written front left e again s =
    record {
      bad = s.bad;
      rest = s.rest;
      parts = s.parts;
      short = s.short;
      never = λ other.
          ap (λ (b : List ℕ). hand_on next (first (place at b))) (append_assoc written front (s.bad ++ other))
          ∙ ap (hand_on next) (again (front ++ (s.bad ++ other))) ∙ s.never other;
    }

settled_behind : {A B : Type 0} (first : Reader A) (next : A → Reader B) (at : ℕ) (x : A) (written front left more : List ℕ) (e : ImageError)
    → ((rest : List ℕ) → first (place at (written ++ rest)) ≡ Ok (x, place (at + length written) rest))
    → Settled (next x) (at + length written) front left more e → Settled (first >>= next) at (written ++ front) left more e
settled_behind first next at x written front left more errors.Truncated again s = s
settled_behind first next at x written front left more errors.Version again s = never_behind first next at x written front left errors.Version again s
settled_behind first next at x written front left more (errors.BadField n) again s =
    (omega (arith, s.0, length-append written front), never_behind first next at x written front left (errors.BadField n) again s.1)
settled_behind first next at x written front left more errors.Magic again s = s
settled_behind first next at x written front left more errors.Extra again s = s
settled_behind first next at x written front left more (errors.Fault fault) again s = s
settled_behind first next at x written front left more errors.NoMemory again s = s

-- Reading a part of y, and then what is left of it: the part fits, and behind it y does; and what is
-- written of y is what is written of the part, and then the rest.
pub record Parts {A B : Type 0} (part : B → A) (write₁ : A → List ℕ) (Fits₁ : A → Type 0) (write₂ : B → List ℕ) (Fits₂ : A → B → Type 0) (write : B → List ℕ) (Fits : B → Type 0) : Type 0 where
  pub join : (x : A) (y : B) → Fits₁ x → Fits₂ x y → (part y ≡ x) × Fits y
  pub cut : (y : B) → Fits y → Fits₁ (part y) × Fits₂ (part y) y
  pub written : (y : B) → Fits y → write y ≡ write₁ (part y) ++ write₂ y

then_takes : {A B : Type 0} (first : Reader A) (next : A → Reader B) (part : B → A) (write₁ : A → List ℕ) (Fits₁ : A → Type 0) (write₂ : B → List ℕ) (Fits₂ : A → B → Type 0) (write : B → List ℕ) (Fits : B → Type 0)
    → Codec first write₁ Fits₁ → ((x : A) → Fits₁ x → Codec (next x) write₂ (Fits₂ x)) → Parts part write₁ Fits₁ write₂ Fits₂ write Fits
    → (at : ℕ) (bytes : List ℕ) (y : B) (after : Place) → AreBytes bytes → (first >>= next) (place at bytes) ≡ Ok (y, after) → Taken write Fits at bytes y after
then_takes {A} {B} first next part write₁ Fits₁ write₂ Fits₂ write Fits one others parts at bytes y after fine e =
    let h : Handed next (first (place at bytes)) y after = handed next (first (place at bytes)) y after e in
    let x = h.0 in
    let mid = h.1 in
    let t1 = one.takes at bytes x mid fine h.2 in
    let t2 = (others x t1.fits).takes mid.at mid.rest y after (AreBytes-rest bytes (write₁ x) mid.rest t1.parts fine) h.3 in
    let joined = parts.join x y t1.fits t2.fits in
    let written : write y ≡ write₁ x ++ write₂ y = parts.written y joined.1 ∙ ap (λ (z : A). write₁ z ++ write₂ y) joined.0 in
    record {
      fits = joined.1;
      parts = t1.parts ∙ ap (λ (b : List ℕ). write₁ x ++ b) t2.parts ∙ sym (append_assoc (write₁ x) (write₂ y) after.rest) ∙ ap (λ (b : List ℕ). b ++ after.rest) (sym written);
      ahead = omega (arith, t1.ahead, t2.ahead, ap length written, length-append (write₁ x) (write₂ y));
    }

then_again : {A B : Type 0} (first : Reader A) (next : A → Reader B) (part : B → A) (write₁ : A → List ℕ) (Fits₁ : A → Type 0) (write₂ : B → List ℕ) (Fits₂ : A → B → Type 0) (write : B → List ℕ) (Fits : B → Type 0)
    → Codec first write₁ Fits₁ → ((x : A) → Fits₁ x → Codec (next x) write₂ (Fits₂ x)) → Parts part write₁ Fits₁ write₂ Fits₂ write Fits
    → (at : ℕ) (y : B) (rest : List ℕ) → Fits y → (first >>= next) (place at (write y ++ rest)) ≡ Ok (y, place (at + length (write y)) rest)
then_again {A} {B} first next part write₁ Fits₁ write₂ Fits₂ write Fits one others parts at y rest fits =
    let x = part y in
    let cut = parts.cut y fits in
    let written : write y ≡ write₁ x ++ write₂ y = parts.written y fits in
    let size : at + length (write₁ x) + length (write₂ y) ≡ at + length (write y) = omega (arith, ap length written, length-append (write₁ x) (write₂ y)) in
    ap (λ (b : List ℕ). hand_on next (first (place at b))) (ap (λ (b : List ℕ). b ++ rest) written ∙ append_assoc (write₁ x) (write₂ y) rest)
    ∙ ap (hand_on next) (one.again at x (write₂ y ++ rest) cut.0)
    ∙ (others x cut.0).again (at + length (write₁ x)) y rest cut.1
    ∙ ap (λ n. done y (place n rest)) size

then_stops : {A B : Type 0} (first : Reader A) (next : A → Reader B) (part : B → A) (write₁ : A → List ℕ) (Fits₁ : A → Type 0) (write₂ : B → List ℕ) (Fits₂ : A → B → Type 0) (write : B → List ℕ) (Fits : B → Type 0)
    → Codec first write₁ Fits₁ → ((x : A) → Fits₁ x → Codec (next x) write₂ (Fits₂ x)) → Parts part write₁ Fits₁ write₂ Fits₂ write Fits
    → (at : ℕ) (bytes : List ℕ) (e : ImageError) → AreBytes bytes → (first >>= next) (place at bytes) ≡ Err e → Stops (first >>= next) write Fits at bytes e
then_stops {A} {B} first next part write₁ Fits₁ write₂ Fits₂ write Fits one others parts at bytes e fine stopped =
    elim (stopped_by next (first (place at bytes)) e stopped) [
      | inl here ↦
          let s = one.stops at bytes e fine here in
          let rest = others s.value s.fits in
          let joined = parts.join s.value rest.some s.fits rest.some_fits in
          record {
            front = s.front;
            left = s.left;
            more = s.more ++ write₂ rest.some;
            value = rest.some;
            fits = joined.1;
            parts = s.parts;
            begins = parts.written rest.some joined.1 ∙ ap (λ (z : A). write₁ z ++ write₂ rest.some) joined.0
                ∙ ap (λ (b : List ℕ). b ++ write₂ rest.some) s.begins ∙ append_assoc s.front s.more (write₂ rest.some);
            settled = settled_before first next at s.front s.left s.more (write₂ rest.some) e s.settled;
          }
      | inr later ↦
          let x = later.0 in
          let mid = later.1 in
          let t = one.takes at bytes x mid fine later.2 in
          let s = (others x t.fits).stops mid.at mid.rest e (AreBytes-rest bytes (write₁ x) mid.rest t.parts fine) later.3 in
          let joined = parts.join x s.value t.fits s.fits in
          record {
            front = write₁ x ++ s.front;
            left = s.left;
            more = s.more;
            value = s.value;
            fits = joined.1;
            parts = t.parts ∙ ap (λ (b : List ℕ). write₁ x ++ b) s.parts ∙ sym (append_assoc (write₁ x) s.front s.left);
            begins = parts.written s.value joined.1 ∙ ap (λ (z : A). write₁ z ++ write₂ s.value) joined.0
                ∙ ap (λ (b : List ℕ). write₁ x ++ b) s.begins ∙ sym (append_assoc (write₁ x) s.front s.more);
            settled = settled_behind first next at x (write₁ x) s.front s.left s.more e (λ rest. one.again at x rest t.fits)
                (subst (λ n. Settled (next x) n s.front s.left s.more e) t.ahead s.settled);
          }
    ]

pub one_then : {A B : Type 0} (first : Reader A) (next : A → Reader B) (part : B → A) (write₁ : A → List ℕ) (Fits₁ : A → Type 0) (write₂ : B → List ℕ) (Fits₂ : A → B → Type 0) (write : B → List ℕ) (Fits : B → Type 0)
    → Codec first write₁ Fits₁ → ((x : A) → Fits₁ x → Codec (next x) write₂ (Fits₂ x)) → Parts part write₁ Fits₁ write₂ Fits₂ write Fits
    → Codec (first >>= next) write Fits
one_then first next part write₁ Fits₁ write₂ Fits₂ write Fits one others parts = record {
  takes = then_takes first next part write₁ Fits₁ write₂ Fits₂ write Fits one others parts;
  again = then_again first next part write₁ Fits₁ write₂ Fits₂ write Fits one others parts;
  stops = then_stops first next part write₁ Fits₁ write₂ Fits₂ write Fits one others parts;
  some = (others one.some one.some_fits).some;
  some_fits = (parts.join one.some (others one.some one.some_fits).some one.some_fits (others one.some one.some_fits).some_fits).1;
}

-- the same values, and the same written of each
pub convert : {A : Type 0} (read : Reader A) (write : A → List ℕ) (Fits : A → Type 0) (write₂ : A → List ℕ) (Fits₂ : A → Type 0) → Codec read write Fits
    → ((x : A) → Fits x → Fits₂ x) → ((x : A) → Fits₂ x → Fits x) → ((x : A) → Fits x → write₂ x ≡ write x) → Codec read write₂ Fits₂
convert {A} read write Fits write₂ Fits₂ c to from same = record {
  takes = λ at bytes x after fine e.
      let t = c.takes at bytes x after fine e in
      record { fits = to x t.fits; parts = t.parts ∙ ap (λ (b : List ℕ). b ++ after.rest) (sym (same x t.fits)); ahead = t.ahead ∙ ap (λ (b : List ℕ). at + length b) (sym (same x t.fits)) };
  again = λ at x rest fits.
      let written = same x (from x fits) in
      ap (λ (b : List ℕ). read (place at (b ++ rest))) written ∙ c.again at x rest (from x fits) ∙ ap (λ (b : List ℕ). done x (place (at + length b) rest)) (sym written);
  stops = λ at bytes e fine stopped.
      let s = c.stops at bytes e fine stopped in
      record { front = s.front; left = s.left; more = s.more; value = s.value; fits = to s.value s.fits; parts = s.parts; begins = same s.value s.fits ∙ s.begins; settled = s.settled };
  some = c.some;
  some_fits = to c.some c.some_fits;
}
