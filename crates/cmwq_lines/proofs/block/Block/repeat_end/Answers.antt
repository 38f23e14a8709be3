use Rattle.std.proofs.Common.{◌≡◌, ◌*◌, ◌-◌, ◌+◌, ap, sym, ◌∙◌, List, ℕ, length, take, drop, ◌++◌, arith, append-nil, length-drop, inl, inr, mul_comm, zero-mul}
use Rattle.std.proofs.lemmas.Bool.{cases_lt}
use Rattle.std.proofs.lemmas.List.{length-take-le, with_items_is}
use Rattle.std.specs.Vec.{with_items}
use Rattle.cmwq_lines.specs.Putting.{repeated}
use Rattle.cmwq_lines.proofs.RepeatedLemmas.{repeated-nothing}
use Rattle.cmwq_lines.proofs.block.Block.repeat_end.Goals as goal

pub returns-then-added-eq0 : goal.returns-then-added-eq0
returns-then-added-eq0 c =
    let text = c.args.self.now in
    let long : length text ≡ c.self.inside.len = ap length (sym c.self.view_is) ∙ length-take-le c.self.inside.len c.self.inside.bytes.items c.self.invariant in
    let size : length (drop c.args.start text) ≡ c.self.inside.len - c.args.start = length-drop c.args.start text ∙ ap (λ (n : ℕ). n - c.args.start) long in
    let none : c.args.more * length (drop c.args.start text) ≡ 0 =
    mul_comm c.args.more (length (drop c.args.start text)) ∙ ap (λ (n : ℕ). n * c.args.more) size ∙ sym c.in-Some.ensures.1 ∙ c.if-added-eq0.true in
    c.self.view_is ∙ sym (append-nil text) ∙ ap (λ (l : List ℕ). text ++ l) (sym (repeated-nothing (drop c.args.start text) c.args.more none))

pub copy_on-requires-clause-some : goal.copy_on-requires-clause-some
copy_on-requires-clause-some c =
    let text = c.args.self.now in
    let long : length text ≡ c.self.inside.len = ap length (sym c.self.view_is) ∙ length-take-le c.self.inside.len c.self.inside.bytes.items c.self.invariant in
    elim (cases_lt c.args.start c.self.inside.len) [
      | inl some ↦ some
      | inr past ↦
          let none : c.self.inside.len - c.args.start ≡ 0 = omega (arith, past) in
          absurd (c.if-added-eq0.false (c.in-Some.ensures.1 ∙ ap (λ (n : ℕ). n * c.args.more) none ∙ zero-mul c.args.more))
    ]

pub copy_on-requires-clause-within : goal.copy_on-requires-clause-within
copy_on-requires-clause-within c =
    let room = c.in_ok-make_room.ensures.room in
    (omega arith, omega (arith, room, ap length c.as_mut_slice.ensures.value))

pub returns : goal.returns
returns c =
    let text = c.args.self.now in
    let there = c.self.inside.len in
    let start = c.args.start in
    let end = there + c.in-Some.added in
    let long : length text ≡ there = ap length (sym c.self.view_is) ∙ length-take-le there c.self.inside.bytes.items c.self.invariant in
    let items : (with_items c.make_room.new.bytes c.copy_on.new.bytes).items ≡ c.copy_on.new.bytes = with_items_is c.make_room.new.bytes c.copy_on.new.bytes (c.copy_on.ensures.long ∙ c.as_mut_slice.ensures.len) in
    let end_is : end ≡ there + c.args.more * (there - start) = ap (λ (n : ℕ). there + n) (c.in-Some.ensures.1 ∙ mul_comm (there - start) c.args.more) in
    let kept : take there c.as_mut_slice.result.now ≡ text = ap (take there) c.as_mut_slice.ensures.value ∙ c.in_ok-make_room.ensures.same ∙ c.self.view_is in
    ap (take end) items ∙ c.copy_on.ensures.text c.args.more end_is ∙ ap (λ (l : List ℕ). l ++ repeated (drop start l) c.args.more) kept
