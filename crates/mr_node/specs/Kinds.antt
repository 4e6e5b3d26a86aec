-- Which replies a command may get.
use Rattle.mr_join.specs.declared.leg_reply.LegReply.{LegReply}
use Rattle.mr_join.specs.declared.leg_reply.LegReply.TheVariants.{Hit, Miss, Stored, Deleted, NotFound, Failed}
use Rattle.mr_node.specs.declared.command.NodeCommand.{NodeCommand}
use Rattle.mr_node.specs.declared.command.NodeCommand.TheVariants.{Get, Set, Delete}

-- any command may fail; otherwise each has replies of its own
abbrev pub IsOfKind : NodeCommand → LegReply → Type 0
IsOfKind command (Failed cause) = Unit {0}
IsOfKind (Get key) (Hit flags block) = Unit {0}
IsOfKind (Get key) Miss = Unit {0}
IsOfKind (Set key flags exptime block) Stored = Unit {0}
IsOfKind (Delete key) Deleted = Unit {0}
IsOfKind (Delete key) NotFound = Unit {0}
IsOfKind _ _ = ⊥
