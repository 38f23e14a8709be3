use Rattle.std.proofs.Common.{◌≡◌, ℕ, ◌+◌, ◌<◌, subst, arith}
use Rattle.std.proofs.lemmas.Simd.{zip2_splat, length-chunk}
use lib.Lanes.{chunk}
use Rattle.memchr.specs.Find.{Nowhere, Passes, is_byte}
use Rattle.cmwq_scan.proofs.LaneLemmas.{agree_byte, none_before, passes_there}
use Rattle.cmwq_scan.proofs.lanes.run_before.Goals as goal

pub returns-clause-passed : goal.returns-clause-passed
returns-clause-passed c =
    let long = length-chunk 0 64 c.args.bytes.now c.requires in
    let from : 0 + c.first_set.result ≡ c.first_set.result = omega arith in
    subst (λ (to : ℕ). Nowhere (Passes (is_byte c.args.wanted) c.args.bytes.now) 0 to) from
    (none_before (is_byte c.args.wanted) c.args.bytes.now 0 64 _ _ c.requires (omega arith) c.type_inv.bytes c.first_set.ensures _
    (zip2_splat _ (chunk 0 64 c.args.bytes.now) 64 c.args.wanted long) (agree_byte c.args.wanted 256))

pub returns-clause-found : goal.returns-clause-found
returns-clause-found c =
    let long = length-chunk 0 64 c.args.bytes.now c.requires in
    let from : 0 + c.first_set.result ≡ c.first_set.result = omega arith in
    subst (λ (at : ℕ). c.first_set.result < 64 → Passes (is_byte c.args.wanted) c.args.bytes.now at) from
    (passes_there (is_byte c.args.wanted) c.args.bytes.now 0 64 _ _ c.requires (omega arith) c.type_inv.bytes c.first_set.ensures _
    (zip2_splat _ (chunk 0 64 c.args.bytes.now) 64 c.args.wanted long) (agree_byte c.args.wanted 256))
