-- A text so many times.
use Rattle.std.proofs.Common.{inl, inr, ◌≡◌, ◌≤◌, ◌<◌, min, ◌+◌, ◌-◌, ◌*◌, ℕ, zero, suc, List, ◌++◌, [], length, take, drop, ap, sym, ◌∙◌, arith, append_assoc, append-nil, length-append, length-drop, suc-mul, zero-mul, add-mul, mul-le-mul_right, le_of_mul-le-mul_right}
use Rattle.std.proofs.lemmas.Bool.{cases_lt}
use Rattle.std.proofs.Math.Nat.{lt_of_mul-lt-mul_right, min-eq_left, min-eq_right, min-le_left}
use Rattle.std.proofs.lemmas.List.{drop-append-le, nil_from_length, length-take-le, take_at}
use Rattle.std.proofs.Math.Seq.{take-append-add}
use Rattle.cmwq_lines.specs.Putting.{repeated}

-- once more is one text at the end
pub repeated-more : (text : List ℕ) (times : ℕ) → repeated text times ++ text ≡ repeated text (suc times)
repeated-more text zero = sym (append-nil text)
repeated-more text (suc times) = append_assoc text (repeated text times) text ∙ ap (λ (rest : List ℕ). text ++ rest) (repeated-more text times)

-- and a front of so many are those that came before
pub repeated-front : (text : List ℕ) (some more : ℕ) → repeated text some ++ repeated text more ≡ repeated text (some + more)
repeated-front text zero more = let place : more ≡ zero + more = omega arith in ap (repeated text) place
repeated-front text (suc some) more =
    let place : suc (some + more) ≡ suc some + more = omega arith in
    append_assoc text (repeated text some) (repeated text more) ∙ ap (λ (rest : List ℕ). text ++ rest) (repeated-front text some more) ∙ ap (repeated text) place

pub length-repeated : (text : List ℕ) (times : ℕ) → length (repeated text times) ≡ times * length text
length-repeated text zero = sym (zero-mul (length text))
length-repeated text (suc times) =
    let rest = length-repeated text times in
    omega (arith, rest, length-append text (repeated text times), suc-mul times (length text))

-- of a text so many times a front is the text fewer times
pub repeated-take : (text : List ℕ) (some times : ℕ) → some ≤ times → take (some * length text) (repeated text times) ≡ repeated text some
repeated-take text some times few =
    let place : some + (times - some) ≡ times = omega (arith, few) in
    ap (λ (n : ℕ). take (some * length text) (repeated text n)) (sym place)
    ∙ ap (take (some * length text)) (sym (repeated-front text some (times - some)))
    ∙ take_at (repeated text some) (repeated text (times - some)) (some * length text) (length-repeated text some)

-- nothing, or a text no times, is nothing
pub repeated-nothing : (text : List ℕ) (times : ℕ) → times * length text ≡ 0 → repeated text times ≡ []
repeated-nothing text times none = nil_from_length (repeated text times) (length-repeated text times ∙ none)

-- what is copied behind some bytes
pub copied-behind : (done copied rest : List ℕ) (at n : ℕ) → length done ≡ at → length copied ≡ n → take (at + n) (done ++ (copied ++ rest)) ≡ done ++ copied
copied-behind done copied rest at n long few =
    ap (λ (m : ℕ). take (m + n) (done ++ (copied ++ rest))) (sym long) ∙ take-append-add done (copied ++ rest) n ∙ ap (λ (l : List ℕ). done ++ l) (take_at copied rest n few)

-- so many times the fewer is the fewer of both
min-times : (a b n : ℕ) → min (a * n) (b * n) ≡ min a b * n
min-times a b n =
    elim (cases_lt a b) [
      | inl less ↦
          (let within : a ≤ b = omega (arith, less) in
          min-eq_left (mul-le-mul_right n within) ∙ ap (λ (m : ℕ). m * n) (sym (min-eq_left within)))
      | inr more ↦ min-eq_right (mul-le-mul_right n more) ∙ ap (λ (m : ℕ). m * n) (sym (min-eq_right more))
    ]

-- from `there` to `at` stands what stood before it from `start` on, so many times
pub record HasCopied (old now : List ℕ) (start there end at : ℕ) : Type 0 where
  pub long : length now ≡ length old
  pub from : there ≤ at
  pub within : at ≤ end
  pub text : (more : ℕ) → end ≡ there + more * (there - start)
      → (times : ℕ) × (at ≡ there + times * (there - start)) × (take at now ≡ take there old ++ repeated (drop start (take there old)) times)

-- The text from `start` to `there` of these bytes.
module _ (old : List ℕ) (start there : ℕ) (some : start < there) (room : there ≤ length old) where
  abbrev front : List ℕ
  front = take there old

  abbrev size : ℕ
  size = there - start

  front-long : length front ≡ there
  front-long = length-take-le there old room

  line-long : length (drop start front) ≡ size
  line-long = length-drop start front ∙ ap (λ (n : ℕ). n - start) front-long

  -- the copies that are made at once
  abbrev copies : (times more : ℕ) → ℕ
  copies times more = min (suc times) (more - times)

  copies-few : (times more : ℕ) → copies times more ≤ suc times
  copies-few times more = min-le_left (suc times) (more - times)

  copies-long : (times more at end : ℕ) → at ≡ there + times * size → end ≡ there + more * size → at < end → min (at - start) (end - at) ≡ copies times more * size
  copies-long times more at end at_is end_is below =
      let fewer : times * size < more * size = omega (arith, at_is, end_is, below) in
      let left : times < more = lt_of_mul-lt-mul_right size fewer in
      let rest : (more - times) * size + times * size ≡ more * size =
      sym (add-mul (more - times) times size) ∙ ap (λ (n : ℕ). n * size) (omega (arith, left)) in
      let done : at - start ≡ suc times * size = omega (arith, at_is, some, suc-mul times size) in
      let free : end - at ≡ (more - times) * size = omega (arith, at_is, end_is, rest) in
      ap (λ (n : ℕ). min n (end - at)) done ∙ ap (min (suc times * size)) free ∙ min-times (suc times) (more - times) size

  pub copied-more : (now new : List ℕ) (end at : ℕ) → HasCopied old now start there end at → at < end → length new ≡ length now
      → take (at + min (at - start) (end - at)) new ≡ take at now ++ take (min (at - start) (end - at)) (drop start (take at now))
      → HasCopied old new start there end (at + min (at - start) (end - at))
  copied-more now new end at copied below long text = record {
    long = long ∙ copied.long;
    from = omega (arith, copied.from);
    within = omega (arith, copied.within);
    text = λ more end_is.
        let was = copied.text more end_is in
        let times = was.0 in
        let n = copies times more in
        let is = copies-long times more at end was.1 end_is below in
        let there_is : drop start (take at now) ≡ repeated (drop start front) (suc times) =
        ap (drop start) was.2 ∙ drop-append-le start front (repeated (drop start front) times) (omega (arith, front-long, some)) in (
          times + n,
          omega (arith, was.1, is, add-mul times n size),
          text ∙ ap (λ (m : ℕ). take at now ++ take m (drop start (take at now))) is
              ∙ ap (λ (l : List ℕ). take at now ++ take (n * size) l) there_is
              ∙ ap (λ (m : ℕ). take at now ++ take (n * m) (repeated (drop start front) (suc times))) (sym line-long)
              ∙ ap (λ (l : List ℕ). take at now ++ l) (repeated-take (drop start front) n (suc times) (copies-few times more))
              ∙ ap (λ (l : List ℕ). l ++ repeated (drop start front) n) was.2
              ∙ append_assoc front (repeated (drop start front) times) (repeated (drop start front) n)
              ∙ ap (λ (l : List ℕ). front ++ l) (repeated-front (drop start front) times n),
        );
  }

  -- at the end it stands as often as there is room
  pub copied-all : (now : List ℕ) (end more : ℕ) → HasCopied old now start there end end → end ≡ there + more * size → take end now ≡ front ++ repeated (drop start front) more
  copied-all now end more copied end_is =
      let was = copied.text more end_is in
      let same : was.0 * size ≡ more * size = omega (arith, was.1, end_is) in
      let pos : 0 < size = omega (arith, some) in
      let le : was.0 ≤ more = le_of_mul-le-mul_right (omega (arith, same)) pos in
      let ge : more ≤ was.0 = le_of_mul-le-mul_right (omega (arith, same)) pos in
      let times : was.0 ≡ more = omega (arith, le, ge) in
      was.2 ∙ ap (λ (n : ℕ). front ++ repeated (drop start front) n) times
