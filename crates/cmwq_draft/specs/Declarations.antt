-- What a line declares.
use Rattle.std.specs.Prelude.{[]}
use Rattle.cmwq_types.specs.Contents.{WorkContents}
use Rattle.cmwq_types.specs.declared.scenario.QueueDecl.{QueueDecl}
use Rattle.cmwq_draft.specs.declared.declarations.QueueLine.{QueueLine}
use Rattle.cmwq_draft.specs.declared.declarations.WorkLine.{WorkLine}

abbrev pub queue_of_line : QueueLine → QueueDecl
queue_of_line line = record { name = line.name; max = line.max; flags = line.flags }

abbrev pub work_of_line : WorkLine → WorkContents
work_of_line line = record { name = line.name; queue = line.queue; body = [] }
