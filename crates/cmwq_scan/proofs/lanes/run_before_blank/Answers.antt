use Rattle.std.proofs.Common.{refl, arith}
use Rattle.std.proofs.lemmas.Simd.{zip2_splat, length-chunk}
use lib.Lanes.{chunk}
use Rattle.cmwq_grammar.specs.Cutting.{is_blank}
use Rattle.cmwq_scan.proofs.LaneLemmas.{joined, within, none_before, passes_there}
use Rattle.cmwq_scan.proofs.lanes.run_before_blank.Goals as goal

pub returns-clause-few : goal.returns-clause-few
returns-clause-few c =
    let v = chunk c.args.from 16 c.args.bytes.now in
    let long = length-chunk c.args.from 16 c.args.bytes.now c.requires in
    within is_blank c.args.bytes.now c.args.from 16 _ _ c.requires (omega arith) c.type_inv.bytes c.first_set.ensures _
    (joined _ _ _ v (zip2_splat _ v 16 32 long) (zip2_splat _ v 16 9 long)) refl

pub returns-clause-passed : goal.returns-clause-passed
returns-clause-passed c =
    let v = chunk c.args.from 16 c.args.bytes.now in
    let long = length-chunk c.args.from 16 c.args.bytes.now c.requires in
    none_before is_blank c.args.bytes.now c.args.from 16 _ _ c.requires (omega arith) c.type_inv.bytes c.first_set.ensures _
    (joined _ _ _ v (zip2_splat _ v 16 32 long) (zip2_splat _ v 16 9 long)) refl

pub returns-clause-blank : goal.returns-clause-blank
returns-clause-blank c =
    let v = chunk c.args.from 16 c.args.bytes.now in
    let long = length-chunk c.args.from 16 c.args.bytes.now c.requires in
    passes_there is_blank c.args.bytes.now c.args.from 16 _ _ c.requires (omega arith) c.type_inv.bytes c.first_set.ensures _
    (joined _ _ _ v (zip2_splat _ v 16 32 long) (zip2_splat _ v 16 9 long)) refl
