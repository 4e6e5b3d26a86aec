-- What a command names.
use Rattle.std.specs.Prelude.{ℕ, List}
use Rattle.mr_node.specs.declared.command.NodeCommand.{NodeCommand}
use Rattle.mr_node.specs.declared.command.NodeCommand.TheVariants.{Get, Set, Delete}

-- the key of the item that the command is about
abbrev pub key_of_command : NodeCommand → List ℕ
key_of_command (Get key) = key
key_of_command (Set key flags exptime block) = key
key_of_command (Delete key) = key
