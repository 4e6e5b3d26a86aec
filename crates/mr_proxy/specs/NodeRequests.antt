-- What a node is asked for a leg.
use Rattle.std.specs.Prelude.{ℕ, List, [], ◌∷◌, false, map}
use Rattle.mr_text.specs.Canonical.{canonical_request}
use Rattle.mr_text.specs.declared.request.Request.{Request}
use Rattle.mr_text.specs.declared.request.Request.TheVariants as request
use Rattle.mr_node.specs.Command.{key_of_command}
use Rattle.mr_node.specs.declared.command.NodeCommand.{NodeCommand}
use Rattle.mr_node.specs.declared.command.NodeCommand.TheVariants.{Get, Set, Delete}
use Rattle.mr_proxy.specs.declared.sheet.LegSheet.{LegSheet}

-- the request for a command: it wants an answer, and asks for nothing but what the command says
abbrev pub request_for : NodeCommand → Request
request_for (Get key) = request.Get (key ∷ [])
request_for (Set key flags exptime block) = request.Set key flags exptime block false
request_for (Delete key) = request.Delete key false

-- its text
abbrev pub text_for : NodeCommand → List ℕ
text_for command = canonical_request (request_for command)

-- the key of a leg
abbrev pub key_of : LegSheet → List ℕ
key_of sheet = key_of_command sheet.command

-- the request for a get and for gets behind it, which is one get of their keys; any other command stands alone
abbrev pub request_with : NodeCommand → List LegSheet → Request
request_with (Get key) others = request.Get (key ∷ map key_of others)
request_with (Set key flags exptime block) others = request_for (Set key flags exptime block)
request_with (Delete key) others = request_for (Delete key)

-- its text
abbrev pub text_with : NodeCommand → List LegSheet → List ℕ
text_with command others = canonical_request (request_with command others)
