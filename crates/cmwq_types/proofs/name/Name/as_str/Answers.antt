use Rattle.cmwq_types.proofs.NameLemmas.{accepted, IsUtf8-name}
use Rattle.cmwq_types.proofs.name.Name.as_str.Goals as goal

pub unwrap-requires : goal.unwrap-requires
unwrap-requires c = accepted c.from_utf8.result _ _ c.from_utf8.ensures.cases (IsUtf8-name c.as_bytes.result.now c.as_bytes.ensures.name)
