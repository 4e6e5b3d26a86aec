-- Commands that tell nothing of what is kept.
use Rattle.mr_node.specs.declared.command.NodeCommand.{NodeCommand}
use Rattle.mr_node.specs.declared.command.NodeCommand.TheVariants.{Get, Set, Delete}

-- the command changes what is kept, and tells nothing of it
abbrev pub IsChange : NodeCommand → Type 0
IsChange (Get key) = ⊥
IsChange (Set key flags exptime block) = Unit {0}
IsChange (Delete key) = Unit {0}
