-- A state can be told from its numbers, and those from their bytes.
use Rattle.std.proofs.Common.{◌≡◌, ℕ, ◌+◌, ◌/◌, ◌%◌, Bool, true, false, true≢false, List, [], ◌∷◌, ◌++◌, length, Option, Some, None, arith, refl, sym, ap, ◌∙◌, subst, append-nil, append_assoc}
use Rattle.std.proofs.lemmas.Grind.{flat_map-append}
use Rattle.std.specs.Prelude.{if◌then◌else◌, nat_lt}
use Rattle.std.specs.List.{flat_map}
use Rattle.cmwq_types.specs.declared.instr.WorkId.{WorkId}
use Rattle.cmwq_types.specs.declared.reply.Mode.{Mode}
use Rattle.cmwq_types.specs.declared.reply.Mode.TheVariants.{Runnable, Asleep}
use Rattle.cmwq_types.specs.declared.reply.Place.{Place}
use Rattle.cmwq_types.specs.declared.reply.Place.TheVariants.{Timer, Inactive, Listed, Deferred}
use Rattle.cmwq_table.specs.View.{ViewContents}
use Rattle.cmwq_table.specs.declared.state.FlushTarget.{FlushTarget}
use Rattle.cmwq_table.specs.declared.state.FlushTarget.TheVariants.{Instance, Queue, Nothing}
use Rattle.cmwq_table.specs.declared.state.Pending.{Pending}
use Rattle.cmwq_table.specs.declared.state.Running.{Running}
use Rattle.cmwq_table.specs.declared.view.IdleWorker.{IdleWorker}
use Rattle.cmwq_stored.specs.Packed.{bytes_of, clock_bytes, eight_bytes, flush_numbers, four_bytes, idle_numbers, list_bytes, listed, machine_bytes, mode_numbers, one_number, packed, pending_numbers, place_numbers, running_numbers, sign_numbers, state_bytes, target_numbers, truth, two_bytes, work_bytes}

abbrev first : List ℕ → ℕ
first [] = 0
first (n ∷ ns) = n

abbrev rest : List ℕ → List ℕ
rest [] = []
rest (n ∷ ns) = ns

-- what stands in front can be told, and what comes behind it
abbrev Tells : (A : Type 0) → (A → List ℕ) → Type 0
Tells A numbers = (x y : A) (r s : List ℕ) → numbers x ++ r ≡ numbers y ++ s → (x ≡ y) × (r ≡ s)

-- Numbers.

two-tells : Tells ℕ two_bytes
two-tells x y r s h =
    let low : x % 256 ≡ y % 256 = ap first h in
    let high : x / 256 ≡ y / 256 = ap (λ (l : List ℕ). first (rest l)) h in
    (omega (arith, low, high), ap (λ (l : List ℕ). rest (rest l)) h)

four-tells : Tells ℕ four_bytes
four-tells x y r s h =
    let low = two-tells (x % 65536) (y % 65536) (two_bytes (x / 65536) ++ r) (two_bytes (y / 65536) ++ s) h in
    let high = two-tells (x / 65536) (y / 65536) r s low.1 in
    let lower : x % 65536 ≡ y % 65536 = low.0 in
    let higher : x / 65536 ≡ y / 65536 = high.0 in
    (omega (arith, lower, higher), high.1)

eight-tells : Tells ℕ eight_bytes
eight-tells x y r s h =
    let low = four-tells (x % 4294967296) (y % 4294967296) (four_bytes (x / 4294967296) ++ r) (four_bytes (y / 4294967296) ++ s) h in
    let high = four-tells (x / 4294967296) (y / 4294967296) r s low.1 in
    let lower : x % 4294967296 ≡ y % 4294967296 = low.0 in
    let higher : x / 4294967296 ≡ y / 4294967296 = high.0 in
    (omega (arith, lower, higher), high.1)

abbrev sized : Bool → Bool → ℕ → List ℕ
sized is_small is_short n = if is_small then n ∷ [] else (if is_short then 254 ∷ two_bytes n else 255 ∷ eight_bytes n)

-- a small number is no sign of a longer one
not-254 : (n : ℕ) → nat_lt n 254 ≡ true → n ≡ 254 → ⊥
not-254 n small is = let bad : nat_lt 254 254 ≡ true = subst (λ (m : ℕ). nat_lt m 254 ≡ true) is small in absurd (true≢false (sym bad))

not-255 : (n : ℕ) → nat_lt n 254 ≡ true → n ≡ 255 → ⊥
not-255 n small is = let bad : nat_lt 255 254 ≡ true = subst (λ (m : ℕ). nat_lt m 254 ≡ true) is small in absurd (true≢false (sym bad))

signs-apart : ◌≡◌ {A = ℕ} 254 255 → ⊥
signs-apart h = absurd (omega (arith, h))

sized-tells : (a b c d : Bool) (x y : ℕ) (r s : List ℕ) → nat_lt x 254 ≡ a → nat_lt y 254 ≡ c → sized a b x ++ r ≡ sized c d y ++ s → (x ≡ y) × (r ≡ s)
sized-tells true b true d x y r s e f h = (ap first h, ap rest h)
sized-tells true b false true x y r s e f h = absurd (not-254 x e (ap first h))
sized-tells true b false false x y r s e f h = absurd (not-255 x e (ap first h))
sized-tells false true true d x y r s e f h = absurd (not-254 y f (sym (ap first h)))
sized-tells false false true d x y r s e f h = absurd (not-255 y f (sym (ap first h)))
sized-tells false true false true x y r s e f h = two-tells x y r s (ap rest h)
sized-tells false true false false x y r s e f h = absurd (signs-apart (ap first h))
sized-tells false false false true x y r s e f h = absurd (signs-apart (sym (ap first h)))
sized-tells false false false false x y r s e f h = eight-tells x y r s (ap rest h)

not-nil : (n : ℕ) (ns : List ℕ) → [] ≡ n ∷ ns → ⊥
not-nil n ns h = cc

sized-some : (a b : Bool) (x : ℕ) (r : List ℕ) → [] ≡ sized a b x ++ r → ⊥
sized-some true b x r h = not-nil x r h
sized-some false true x r h = not-nil 254 (two_bytes x ++ r) h
sized-some false false x r h = not-nil 255 (eight_bytes x ++ r) h

number-tells : Tells ℕ bytes_of
unfolding bytes_of
number-tells x y r s h = sized-tells (nat_lt x 254) (nat_lt x 65536) (nat_lt y 254) (nat_lt y 65536) x y r s refl refl h

number-some : (x : ℕ) (r : List ℕ) → [] ≡ bytes_of x ++ r → ⊥
unfolding bytes_of
number-some x r h = sized-some (nat_lt x 254) (nat_lt x 65536) x r h

packed-same : (xs ys : List ℕ) → packed xs ≡ packed ys → xs ≡ ys
packed-same [] [] h = refl
packed-same [] (y ∷ ys) h = absurd (number-some y (packed ys) h)
packed-same (x ∷ xs) [] h = absurd (number-some x (packed xs) (sym h))
packed-same (x ∷ xs) (y ∷ ys) h =
    let one = number-tells x y (packed xs) (packed ys) h in
    let others = packed-same xs ys one.1 in
    λ i. one.0 i ∷ others i

-- Parts of a state.

one-tells : Tells ℕ one_number
one-tells x y r s h = (ap first h, ap rest h)

truth-tells : Tells Bool truth
truth-tells true true r s h = (refl, ap rest h)
truth-tells true false r s h = let bad : 1 ≡ 0 = ap first h in absurd (omega (arith, bad))
truth-tells false true r s h = let bad : 0 ≡ 1 = ap first h in absurd (omega (arith, bad))
truth-tells false false r s h = (refl, ap rest h)

flush-tells : Tells (Option ℕ) flush_numbers
flush-tells (Some a) (Some b) r s h = let more : a + 1 ≡ b + 1 = ap first h in let same : a ≡ b = omega (arith, more) in (ap Some same, ap rest h)
flush-tells (Some a) None r s h = let bad : a + 1 ≡ 0 = ap first h in absurd (omega (arith, bad))
flush-tells None (Some b) r s h = let bad : 0 ≡ b + 1 = ap first h in absurd (omega (arith, bad))
flush-tells None None r s h = (refl, ap rest h)

place-tells : Tells Place place_numbers
place-tells (Timer a b) (Timer c d) r s h =
    let due : a ≡ c = ap (λ (l : List ℕ). first (rest l)) h in
    let cpu : b ≡ d = ap (λ (l : List ℕ). first (rest (rest l))) h in
    (λ i. Timer (due i) (cpu i), ap (λ (l : List ℕ). rest (rest (rest l))) h)
place-tells (Inactive p) (Inactive q) r s h = (ap Inactive (ap (λ (l : List ℕ). first (rest l)) h), ap (λ (l : List ℕ). rest (rest l)) h)
place-tells (Listed p) (Listed q) r s h = (ap Listed (ap (λ (l : List ℕ). first (rest l)) h), ap (λ (l : List ℕ). rest (rest l)) h)
place-tells (Deferred p) (Deferred q) r s h = (ap Deferred (ap (λ (l : List ℕ). first (rest l)) h), ap (λ (l : List ℕ). rest (rest l)) h)
place-tells x y r s h = absurd (omega (arith, ap first h))

mode-tells : Tells Mode mode_numbers
mode-tells Runnable Runnable r s h = (refl, ap rest h)
mode-tells (Asleep t) (Asleep u) r s h = (ap Asleep (ap (λ (l : List ℕ). first (rest l)) h), ap (λ (l : List ℕ). rest (rest l)) h)
mode-tells x y r s h = absurd (omega (arith, ap first h))

pending-tells : Tells (WorkId × Pending) pending_numbers
pending-tells (v, p) (w, q) r s h =
    let work : v.0 ≡ w.0 = ap first h in
    let born : p.born ≡ q.born = ap (λ (l : List ℕ). first (rest l)) h in
    let stamp : p.stamp ≡ q.stamp = ap (λ (l : List ℕ). first (rest (rest l))) h in
    let place = place-tells p.place q.place r s (ap (λ (l : List ℕ). rest (rest (rest l))) h) in
    (λ i. (record { 0 = work i }, record { born = born i; stamp = stamp i; place = place.0 i }), place.1)

running-tells : Tells (WorkId × Running) running_numbers
running-tells (v, p) (w, q) r s h =
    let work : v.0 ≡ w.0 = ap first h in
    let born : p.born ≡ q.born = ap (λ (l : List ℕ). first (rest l)) h in
    let stamp : p.stamp ≡ q.stamp = ap (λ (l : List ℕ). first (rest (rest l))) h in
    let pool : p.pool ≡ q.pool = ap (λ (l : List ℕ). first (rest (rest (rest l)))) h in
    let worker : p.worker ≡ q.worker = ap (λ (l : List ℕ). first (rest (rest (rest (rest l))))) h in
    let pc : p.pc ≡ q.pc = ap (λ (l : List ℕ). first (rest (rest (rest (rest (rest l)))))) h in
    let left : p.left ≡ q.left = ap (λ (l : List ℕ). first (rest (rest (rest (rest (rest (rest l))))))) h in
    let mode = mode-tells p.mode q.mode r s (ap (λ (l : List ℕ). rest (rest (rest (rest (rest (rest (rest l))))))) h) in (
      λ i. (record { 0 = work i }, record { born = born i; pool = pool i; worker = worker i; pc = pc i; left = left i; mode = mode.0 i; stamp = stamp i }),
      mode.1,
    )

idle-tells : Tells IdleWorker idle_numbers
idle-tells v w r s h =
    let pool : v.pool ≡ w.pool = ap first h in
    let worker : v.worker ≡ w.worker = ap (λ (l : List ℕ). first (rest l)) h in
    let stamp : v.stamp ≡ w.stamp = ap (λ (l : List ℕ). first (rest (rest l))) h in
    (λ i. record { pool = pool i; worker = worker i; stamp = stamp i }, ap (λ (l : List ℕ). rest (rest (rest l))) h)

target-tells : Tells FlushTarget target_numbers
target-tells (Instance v a) (Instance w b) r s h =
    let work : v.0 ≡ w.0 = ap (λ (l : List ℕ). first (rest l)) h in
    let born : a ≡ b = ap (λ (l : List ℕ). first (rest (rest l))) h in
    (λ i. Instance (record { 0 = work i }) (born i), ap (λ (l : List ℕ). rest (rest (rest l))) h)
target-tells (Queue v a) (Queue w b) r s h =
    let queue : v.0 ≡ w.0 = ap (λ (l : List ℕ). first (rest l)) h in
    let bound : a ≡ b = ap (λ (l : List ℕ). first (rest (rest l))) h in
    (λ i. Queue (record { 0 = queue i }) (bound i), ap (λ (l : List ℕ). rest (rest (rest l))) h)
target-tells Nothing Nothing r s h = (refl, ap rest h)
target-tells x y r s h = absurd (omega (arith, ap first h))

-- Lists of parts.

all-tell : (A : Type 0) (numbers : A → List ℕ) → Tells A numbers → (xs ys : List A) (r s : List ℕ) → length xs ≡ length ys
    → flat_map numbers xs ++ r ≡ flat_map numbers ys ++ s → (xs ≡ ys) × (r ≡ s)
all-tell A numbers tells [] [] r s long h = (refl, h)
all-tell A numbers tells [] (y ∷ ys) r s long h = absurd (omega (arith, long))
all-tell A numbers tells (x ∷ xs) [] r s long h = absurd (omega (arith, long))
all-tell A numbers tells (x ∷ xs) (y ∷ ys) r s long h =
    let one = tells x y (flat_map numbers xs ++ r) (flat_map numbers ys ++ s)
    (sym (append_assoc (numbers x) (flat_map numbers xs) r) ∙ h ∙ append_assoc (numbers y) (flat_map numbers ys) s) in
    let others = all-tell A numbers tells xs ys r s (omega (arith, long)) one.1 in
    (λ i. one.0 i ∷ others.0 i, others.1)

list-tells : (A : Type 0) (numbers : A → List ℕ) → Tells A numbers → Tells (List A) (listed numbers)
list-tells A numbers tells xs ys r s h = all-tell A numbers tells xs ys r s (ap first h) (ap rest h)

-- States.

-- a part can be told where it stands in front of another one
front-tells : (A : Type 0) (numbers : A → List ℕ) → Tells A numbers → (x y : A) (ms ns r s : List ℕ) → (numbers x ++ ms) ++ r ≡ (numbers y ++ ns) ++ s
    → (x ≡ y) × (ms ++ r ≡ ns ++ s)
front-tells A numbers tells x y ms ns r s h =
    tells x y (ms ++ r) (ns ++ s) (sym (append_assoc (numbers x) ms r) ∙ h ∙ append_assoc (numbers y) ns s)

abbrev machine-numbers : ViewContents → List ℕ
machine-numbers v =
    v.time ∷ v.next ∷ v.spent ∷ (truth v.frozen ++ (truth v.pressed ++ (listed one_number v.max ++ (listed one_number v.made ++ listed target_numbers v.flushes))))

abbrev work-numbers : ViewContents → List ℕ
work-numbers v =
    listed pending_numbers v.pending ++ (listed running_numbers v.running ++ (listed one_number v.depth ++ listed idle_numbers v.idle))

abbrev actor-numbers : List ℕ → List (Option ℕ) → List ℕ
actor-numbers at waits = listed one_number at ++ listed flush_numbers waits

-- numbers in front of others
packed-behind : (xs ys : List ℕ) (bytes : List ℕ) → bytes ≡ packed ys → packed xs ++ bytes ≡ packed (xs ++ ys)
packed-behind xs ys bytes is = ap (λ (l : List ℕ). packed xs ++ l) is ∙ sym (flat_map-append bytes_of xs ys)

machine-packed : (v : ViewContents) → machine_bytes v ≡ packed (machine-numbers v)
unfolding machine_bytes clock_bytes list_bytes
machine-packed v =
    packed-behind (v.time ∷ v.next ∷ v.spent ∷ sign_numbers v) (listed one_number v.max ++ (listed one_number v.made ++ listed target_numbers v.flushes))
    (list_bytes one_number v.max ++ (list_bytes one_number v.made ++ list_bytes target_numbers v.flushes)) (
    packed-behind (listed one_number v.max) (listed one_number v.made ++ listed target_numbers v.flushes) (list_bytes one_number v.made ++ list_bytes target_numbers v.flushes)
    (packed-behind (listed one_number v.made) (listed target_numbers v.flushes) (list_bytes target_numbers v.flushes) refl)
    )

works-packed : (v : ViewContents) → work_bytes v ≡ packed (work-numbers v)
unfolding work_bytes list_bytes
works-packed v =
    packed-behind (listed pending_numbers v.pending) (listed running_numbers v.running ++ (listed one_number v.depth ++ listed idle_numbers v.idle))
    (list_bytes running_numbers v.running ++ (list_bytes one_number v.depth ++ list_bytes idle_numbers v.idle)) (
    packed-behind (listed running_numbers v.running) (listed one_number v.depth ++ listed idle_numbers v.idle) (list_bytes one_number v.depth ++ list_bytes idle_numbers v.idle)
    (packed-behind (listed one_number v.depth) (listed idle_numbers v.idle) (list_bytes idle_numbers v.idle) refl)
    )

actors-packed : (at : List ℕ) (waits : List (Option ℕ)) → list_bytes one_number at ++ list_bytes flush_numbers waits ≡ packed (actor-numbers at waits)
unfolding list_bytes
actors-packed at waits = packed-behind (listed one_number at) (listed flush_numbers waits) (list_bytes flush_numbers waits) refl

abbrev state-numbers : ViewContents → List ℕ → List (Option ℕ) → List ℕ
state-numbers v at waits = machine-numbers v ++ (work-numbers v ++ actor-numbers at waits)

state-packed : (v : ViewContents) (at : List ℕ) (waits : List (Option ℕ)) → state_bytes v at waits ≡ packed (state-numbers v at waits)
unfolding state_bytes
state-packed v at waits =
    let actors = list_bytes one_number at ++ list_bytes flush_numbers waits in
    ap (λ (l : List ℕ). l ++ (work_bytes v ++ actors)) (machine-packed v)
    ∙ packed-behind (machine-numbers v) (work-numbers v ++ actor-numbers at waits) (work_bytes v ++ actors)
    (ap (λ (l : List ℕ). l ++ actors) (works-packed v) ∙ packed-behind (work-numbers v) (actor-numbers at waits) actors (actors-packed at waits))

record SameMachine (v w : ViewContents) : Type 0 where
  time : v.time ≡ w.time
  next : v.next ≡ w.next
  spent : v.spent ≡ w.spent
  frozen : v.frozen ≡ w.frozen
  pressed : v.pressed ≡ w.pressed
  max : v.max ≡ w.max
  made : v.made ≡ w.made
  flushes : v.flushes ≡ w.flushes

abbrev behind-max : ViewContents → List ℕ
behind-max v = listed one_number v.made ++ listed target_numbers v.flushes

abbrev behind-pressed : ViewContents → List ℕ
behind-pressed v = listed one_number v.max ++ behind-max v

machine-tells : (v w : ViewContents) (r s : List ℕ) → machine-numbers v ++ r ≡ machine-numbers w ++ s → SameMachine v w × (r ≡ s)
machine-tells v w r s h =
    let frozen = front-tells Bool truth truth-tells v.frozen w.frozen (truth v.pressed ++ behind-pressed v) (truth w.pressed ++ behind-pressed w) r s
    (ap (λ (l : List ℕ). rest (rest (rest l))) h) in
    let pressed = front-tells Bool truth truth-tells v.pressed w.pressed (behind-pressed v) (behind-pressed w) r s frozen.1 in
    let max = front-tells (List ℕ) (listed one_number) (list-tells ℕ one_number one-tells) v.max w.max (behind-max v) (behind-max w) r s pressed.1 in
    let made = front-tells (List ℕ) (listed one_number) (list-tells ℕ one_number one-tells) v.made w.made (listed target_numbers v.flushes) (listed target_numbers w.flushes) r s max.1 in
    let flushes = list-tells FlushTarget target_numbers target-tells v.flushes w.flushes r s made.1 in (
      record {
        time = ap first h;
        next = ap (λ (l : List ℕ). first (rest l)) h;
        spent = ap (λ (l : List ℕ). first (rest (rest l))) h;
        frozen = frozen.0;
        pressed = pressed.0;
        max = max.0;
        made = made.0;
        flushes = flushes.0;
      },
      flushes.1,
    )

record SameWorks (v w : ViewContents) : Type 0 where
  pending : v.pending ≡ w.pending
  running : v.running ≡ w.running
  depth : v.depth ≡ w.depth
  idle : v.idle ≡ w.idle

abbrev behind-running : ViewContents → List ℕ
behind-running v = listed one_number v.depth ++ listed idle_numbers v.idle

works-tell : (v w : ViewContents) (r s : List ℕ) → work-numbers v ++ r ≡ work-numbers w ++ s → SameWorks v w × (r ≡ s)
works-tell v w r s h =
    let pending = front-tells (List (WorkId × Pending)) (listed pending_numbers) (list-tells (WorkId × Pending) pending_numbers pending-tells) v.pending w.pending
    (listed running_numbers v.running ++ behind-running v) (listed running_numbers w.running ++ behind-running w) r s h in
    let running = front-tells (List (WorkId × Running)) (listed running_numbers) (list-tells (WorkId × Running) running_numbers running-tells) v.running w.running
    (behind-running v) (behind-running w) r s pending.1 in
    let depth = front-tells (List ℕ) (listed one_number) (list-tells ℕ one_number one-tells) v.depth w.depth (listed idle_numbers v.idle) (listed idle_numbers w.idle) r s running.1 in
    let idle = list-tells IdleWorker idle_numbers idle-tells v.idle w.idle r s depth.1 in
    (record { pending = pending.0; running = running.0; depth = depth.0; idle = idle.0 }, idle.1)

pub state-same : (v w : ViewContents) (a b : List ℕ) (c d : List (Option ℕ)) → state_bytes v a c ≡ state_bytes w b d → (v ≡ w) × (a ≡ b) × (c ≡ d)
state-same v w a b c d h =
    let numbers = packed-same (state-numbers v a c) (state-numbers w b d) (sym (state-packed v a c) ∙ h ∙ state-packed w b d) in
    let machine = machine-tells v w (work-numbers v ++ actor-numbers a c) (work-numbers w ++ actor-numbers b d) numbers in
    let works = works-tell v w (actor-numbers a c) (actor-numbers b d) machine.1 in
    let at = list-tells ℕ one_number one-tells a b (listed flush_numbers c) (listed flush_numbers d) works.1 in
    let waits = list-tells (Option ℕ) flush_numbers flush-tells c d [] []
    (append-nil (listed flush_numbers c) ∙ at.1 ∙ sym (append-nil (listed flush_numbers d))) in (
      λ i. record {
        time = machine.0.time i;
        next = machine.0.next i;
        spent = machine.0.spent i;
        frozen = machine.0.frozen i;
        pressed = machine.0.pressed i;
        max = machine.0.max i;
        pending = works.0.pending i;
        running = works.0.running i;
        depth = works.0.depth i;
        idle = works.0.idle i;
        made = machine.0.made i;
        flushes = machine.0.flushes i;
      },
      at.0,
      waits.0,
    )
